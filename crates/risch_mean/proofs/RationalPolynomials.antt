-- Polynomials in x with rational coefficients as elements of a tower.
--     derive-rational_polynomial      the derivative of c_0 + c_1·x + c_2·x² + .. is c_1 + 2·c_2·x + ..
--     integer_in_tower, rational_in_tower, rational_polynomial_in_tower      what lies in every tower
use Rattle.std.specs.Prelude.{◌≡◌, refl, ℕ, List, [], ◌∷◌, ℤ, map, length}
use Rattle.std.proofs.Common.{ap₂, ◌∙◌, arith}
use Rattle.risch_ring.proofs.Expression.{reading}
use Rattle.risch_ring.proofs.Solver.{ring}
use Rattle.risch_mean.specs.Element.{Element, zero, one, add, mul, over, integer, variable, level, InField, AllInField}
use Rattle.risch_mean.specs.ElementField.{elements}
use Rattle.risch_mean.specs.Univariate.{value_at, formal_derivative, mul_lists}
use Rattle.risch_mean.specs.Tower.{Tower, derivatives, derive_in, InTower}
use Rattle.risch_mean.specs.Constants.{IsRational, AllRational}
use Rattle.risch_mean.proofs.FieldClosure.{InField-zero, InField-add, InField-mul, InField-integer, InField-variable, InField-over}
use Rattle.risch_mean.proofs.UnivariateLaws.{value-add, value-mul, derive-value}
use Rattle.risch_mean.proofs.DerivationLaws.{derivation}
use Rattle.risch_mean.proofs.Levels.{derivative-x}
use Rattle.risch_mean.proofs.ConstantLaws.{rational_in, derive-rational}

-- ---- the derivative
value-derivatives : (tower : Tower) (t : Element) (cs : List Element) → AllRational cs → value_at elements.ring t (map (derive_in tower) cs) ≡ zero
value-derivatives tower t [] h = refl
value-derivatives tower t (c ∷ cs) h = ap₂ (λ v w. add v (mul t w)) (derive-rational (derivatives tower) c h.0) (value-derivatives tower t cs h.1) ∙ nothing t
  where
    nothing : (t : Element) → add zero (mul t zero) ≡ zero
    nothing t = ring elements.ring (t ∷ []) (search reading depth 20) refl

pub derive-rational_polynomial : (tower : Tower) (cs : List Element) → AllRational cs →
    derive_in tower (value_at elements.ring (variable 0) cs) ≡ value_at elements.ring (variable 0) (formal_derivative elements.ring cs)
unfolding derivation
derive-rational_polynomial tower cs h =
    derive-value elements.ring (derivation (derivatives tower)) (variable 0) (one ∷ []) (derivative-x tower ∙ only (variable 0)) cs
    ∙ value-add elements.ring (variable 0) (map (derive_in tower) cs) (mul_lists elements.ring (one ∷ []) (formal_derivative elements.ring cs))
    ∙ ap₂ add (value-derivatives tower (variable 0) cs h) (value-mul elements.ring (variable 0) (one ∷ []) (formal_derivative elements.ring cs))
    ∙ once (variable 0) (value_at elements.ring (variable 0) (formal_derivative elements.ring cs))
  where
    only : (t : Element) → one ≡ add one (mul t zero)
    only t = ring elements.ring (t ∷ []) (search reading depth 20) refl

    once : (t v : Element) → add zero (mul (add one (mul t zero)) v) ≡ v
    once t v = ring elements.ring (t ∷ v ∷ []) (search reading depth 20) refl

-- ---- what lies in a field, and so in every tower
pub InField-value : (n : ℕ) (t : Element) (cs : List Element) → InField n t → AllInField n cs → InField n (value_at elements.ring t cs)
InField-value n t [] h k = InField-zero n
InField-value n t (c ∷ cs) h k = InField-add n c _ k.0 (InField-mul n t _ h (InField-value n t cs h k.1))

pub all_rational_in : (n : ℕ) (cs : List Element) → AllRational cs → AllInField n cs
all_rational_in n [] h = tt
all_rational_in n (c ∷ cs) h = (rational_in n c h.0, all_rational_in n cs h.1)

-- x lies in the field of each level
pub x_in_level : (i : ℕ) → InField (level i) (variable 0)
x_in_level i = InField-variable (level i) 0 (omega arith)

-- a polynomial in x with rational coefficients lies in the field of each level
pub rational_polynomial_in_level : (i : ℕ) (cs : List Element) → AllRational cs → InField (level i) (value_at elements.ring (variable 0) cs)
rational_polynomial_in_level i cs h = InField-value (level i) (variable 0) cs (x_in_level i) (all_rational_in (level i) cs h)

pub integer_in_tower : (tower : Tower) (c : ℤ) → InTower tower (integer c)
integer_in_tower tower c = InField-integer (level (length tower)) c

pub integer_quotient_in_tower : (tower : Tower) (c d : ℤ) → InTower tower (over (integer c) (integer d))
integer_quotient_in_tower tower c d = InField-over (level (length tower)) (integer c) (integer d) (integer_in_tower tower c) (integer_in_tower tower d)

pub rational_in_tower : (tower : Tower) (f : Element) → IsRational f → InTower tower f
rational_in_tower tower f h = rational_in (level (length tower)) f h

pub x_in_tower : (tower : Tower) → InTower tower (variable 0)
x_in_tower tower = x_in_level (length tower)

pub rational_polynomial_in_tower : (tower : Tower) (cs : List Element) → AllRational cs → InTower tower (value_at elements.ring (variable 0) cs)
rational_polynomial_in_tower tower cs h = rational_polynomial_in_level (length tower) cs h
