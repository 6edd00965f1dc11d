-- Constants as polynomials in z, polynomials of degree at most 0, and the variables of the tower.
use Rattle.std.specs.Prelude.{nat_eq, nat_le, ◌==◌, if◌then◌else◌}
use Rattle.std.proofs.Common.{◌≡◌, ℕ, zero, suc, ◌+◌, ◌≤◌, Bool, true, false, List, [], ◌∷◌, length, None, Some, refl, sym, ap, ◌∙◌, arith}
use Rattle.std.proofs.lemmas.Bool.{eq-eqb, ne_eqb, le-leb, lt-leb}
use Rattle.risch_polynomial.specs.Poly as poly
use Rattle.risch_level.specs.Levels.{field, Element, element}
use Rattle.risch_level.specs.Accessors.{variable}
use Rattle.risch_level.specs.declared.over.Over.TheVariants.{Below}
use Rattle.risch_expression.specs.Evaluation.{constant, root_value}

-- a constant has no zero at its end
pub constant_trimmed : (list : List Element) (e : Element) → list ≡ e ∷ [] → poly.trimmed element list ≡ constant e
constant_trimmed list e is = rw is refl

pub constant_short : (list : List Element) (e : Element) → list ≡ e ∷ [] → length (poly.trimmed element list) ≤ 256
constant_short list e is = rw is (by_test (element.is_zero e))
  where
    by_test : (z : Bool) → length (if z then [] else e ∷ []) ≤ 256
    by_test true = omega arith
    by_test false = omega arith

pub constant_light : (list : List Element) (e : Element) → list ≡ e ∷ [] → element.weight e ≤ 65536 → poly.weight element list ≤ 65536
constant_light list e is small = rw is (by_test (element.is_zero e))
  where
    by_test : (z : Bool) → 0 + (if z then 0 else element.weight e) ≤ 65536
    by_test true = omega arith
    by_test false = omega (arith, small)

-- z
pub root_trimmed : (list : List Element) → list ≡ root_value → poly.trimmed element list ≡ root_value
unfolding element
root_trimmed list is = rw is refl

pub root_short : (list : List Element) → list ≡ root_value → length (poly.trimmed element list) ≤ 256
root_short list is = rw (root_trimmed list is) (omega arith)

pub root_light : (list : List Element) → list ≡ root_value → poly.weight element list ≤ 65536
unfolding element
root_light list is = rw is (omega arith)

-- ---- degrees
-- 0 has no degree
pub no_degree-short : (p : List Element) → poly.degree element p ≡ None → nat_le (length p) 1 ≡ true
no_degree-short [] e = le-leb 0 1 (omega arith)
no_degree-short (c ∷ p) e = absurd (cc)

pub degree-short : (p : List Element) (d : ℕ) → poly.degree element p ≡ Some d → (d == 0) ≡ nat_le (length p) 1
degree-short [] d e = absurd (cc)
degree-short (c ∷ p) d e = let same : length p ≡ d = cc in rw (← same) (of (length p))
  where
    of : (n : ℕ) → (n == 0) ≡ nat_le (suc n) 1
    of zero = eq-eqb 0 0 refl ∙ sym (le-leb 1 1 (omega arith))
    of (suc n) = ne_eqb (suc n) 0 (λ (e : suc n ≡ 0). omega arith) ∙ sym (lt-leb (suc (suc n)) 1 (omega arith))

-- ---- a variable that the tower has not
beyond : (height i : ℕ) → height ≤ i → variable height i ≡ (field height).zero
beyond zero i h = refl
beyond (suc height) i h =
    let other : nat_eq i height ≡ false = ne_eqb i height (λ (e : i ≡ height). omega arith) in
    rw other (ap Below (beyond height i (omega arith)))

pub variable_beyond : (i : ℕ) → 5 ≤ i → variable 5 i ≡ element.zero
unfolding element
variable_beyond i h = beyond 5 i h
