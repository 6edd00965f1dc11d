-- An element by its variables, the highest first, and the names of the variables.
use Rattle.std.proofs.Common.{◌≡◌, ℕ, suc, ◌-◌, ◌<◌, true, false, codes, refl, sym, ap, ◌∙◌, arith}
use Rattle.std.specs.Fmt.{digits}
use Rattle.std.proofs.lemmas.Bool.{cond-true, cond-false}
use Rattle.risch_level.specs.Levels.{Element}
use Rattle.risch_level.specs.Accessors.{level}
use Rattle.risch_level.specs.Parts.{levels, denominator}
use Rattle.risch_cert.specs.Printing.{Printed, variable_name, is_level, print_ratio, print_below}

-- ---- the variables
-- the quotient of polynomials that an element of level n is
abbrev at_level : ℕ → Element → Printed
at_level n e = print_ratio (print_below n) (variable_name n) ((levels 5).numerator (4 - n) e) (denominator 5 (4 - n) e)

below-suc-level : (n : ℕ) (e : Element) → is_level n (level 5 e) ≡ true → print_below (suc n) e ≡ at_level n e
unfolding print_below
below-suc-level n e at = cond-true (is_level n (level 5 e)) (at_level n e) (print_below n e) at

below-suc-other : (n : ℕ) (e : Element) → is_level n (level 5 e) ≡ false → print_below (suc n) e ≡ print_below n e
unfolding print_below
below-suc-other n e other = cond-false (is_level n (level 5 e)) (at_level n e) (print_below n e) other

pub print_below_level : (n : ℕ) (e : Element) → 0 < n → is_level (n - 1) (level 5 e) ≡ true →
    print_below n e ≡ print_ratio (print_below (n - 1)) (variable_name (n - 1)) ((levels 5).numerator (4 - (n - 1)) e) (denominator 5 (4 - (n - 1)) e)
print_below_level n e some at =
    let up : suc (n - 1) ≡ n = omega arith in
    sym (ap (λ m. print_below m e) up) ∙ below-suc-level (n - 1) e at

pub print_below_other : (n : ℕ) (e : Element) → 0 < n → is_level (n - 1) (level 5 e) ≡ false → print_below n e ≡ print_below (n - 1) e
print_below_other n e some other =
    let up : suc (n - 1) ≡ n = omega arith in
    sym (ap (λ m. print_below m e) up) ∙ below-suc-other (n - 1) e other

-- ---- the names of the variables of the tower
pub name_x : (level : ℕ) → level ≡ 0 → codes "x" ≡ variable_name level
unfolding variable_name
name_x level is = rw is refl

pub name_t1 : (level : ℕ) → level ≡ 1 → codes "t1" ≡ variable_name level
unfolding variable_name digits
name_t1 level is = rw is refl

pub name_t2 : (level : ℕ) → level ≡ 2 → codes "t2" ≡ variable_name level
unfolding variable_name digits
name_t2 level is = rw is refl

pub name_t3 : (level : ℕ) → level ≡ 3 → codes "t3" ≡ variable_name level
unfolding variable_name digits
name_t3 level is = rw is refl

pub name_t4 : (level : ℕ) → level ≡ 4 → codes "t4" ≡ variable_name level
unfolding variable_name digits
name_t4 level is = rw is refl
