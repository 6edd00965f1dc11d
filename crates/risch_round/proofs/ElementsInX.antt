-- Polynomials in x as elements and back: what the coefficients of an element stand for, and that an element is formed of its coefficients with no stop.
use Rattle.std.specs.Prelude.{nat_le, if◌then◌else◌, map, None, Some, IfOk}
use Rattle.std.proofs.Common.{◌≡◌, ℕ, suc, ◌+◌, ◌≤◌, Bool, true, false, List, [], ◌∷◌, length, Result, Ok, Err, refl, sym, ◌∙◌, ap, subst, arith}
use Rattle.std.proofs.lemmas.Bool.{cond_both, le-leb, leb-true}
use Rattle.risch_ring.specs.CommRing.{quotient}
use Rattle.risch_ring.proofs.Expression.{reading}
use Rattle.risch_ring.proofs.Solver.{ring}
use Rattle.risch_frac.specs.Fraction.{Fraction, IsLowest, is_zero, is_one}
use Rattle.risch_mean.specs.Element as mean
use Rattle.risch_mean.specs.Element.{add, mul, zero, one, variable}
use Rattle.risch_mean.specs.ElementField.{elements}
use Rattle.risch_mean.specs.ElementFieldLaws.{mul-one, one-ne-zero}
use Rattle.risch_mean.specs.ElementLaws.{over-mul}
use Rattle.risch_field.specs.Checked.{Checked, map_ok, Agrees}
use Rattle.risch_field.specs.Ground.{ground}
use Rattle.risch_polynomial.specs.Poly as poly
use Rattle.risch_polynomial_theory.specs.FractionMeaning.{fraction_meaning}
use Rattle.risch_polynomial_theory.specs.Meaning.{AllValid}
use Rattle.risch_polynomial_theory.proofs.FractionValues.{ground_means}
use Rattle.risch_polynomial_theory.proofs.Monomials.{weight-small}
use Rattle.risch_level.specs.Levels.{Field, Element, element}
use Rattle.risch_level.specs.Accessors.{number}
use Rattle.risch_level.specs.Parts.{levels, denominator}
use Rattle.risch_level.specs.Over as over
use Rattle.risch_level.specs.Tower as tower
use Rattle.risch_level.specs.declared.over.Over.TheVariants.{Below, Quotient}
use Rattle.risch_element_theory.specs.WholeTower.{IsElement, meaning, Within}
use Rattle.risch_element_theory.specs.ElementMeaning.{IsNormal}
use Rattle.risch_element_theory.proofs.Levels.{level_tells_one}
use Rattle.risch_round.specs.Elements.{fraction_of, coefficients, lifted, element_of}
use Rattle.risch_round.specs.Meaning as values
use Rattle.risch_round.specs.Meaning.{IsPolynomialInX}
use Rattle.risch_round.proofs.Numbers.{formed-numbers, quotient-numbers}

-- ---- the coefficients of an element
fractions-lifted : (n : List Fraction) → map fraction_of (map Below (map Below (map Below (map Below (map Below n))))) ≡ n
fractions-lifted [] = refl
fractions-lifted (c ∷ n) = ap (λ p. c ∷ p) (fractions-lifted n)

coefficients-number : (c : Fraction) → coefficients (number 5 c) ≡ Some (if is_zero c then [] else c ∷ [])
unfolding coefficients element
coefficients-number c = ap Some (by_test (is_zero c))
  where
    by_test : (b : Bool) → map fraction_of (map Below (map Below (map Below (map Below (if b then [] else Below c ∷ []))))) ≡ (if b then [] else c ∷ [])
    by_test true = refl
    by_test false = refl

coefficients-quotient : (n m : List Fraction) → coefficients (lifted (Quotient (n, m))) ≡ (if poly.is_one ground m then Some n else None)
unfolding coefficients element
coefficients-quotient n [] = refl
coefficients-quotient n (c ∷ []) = ap (λ p. if is_one c then Some p else None) (fractions-lifted n)
coefficients-quotient n (c ∷ (d ∷ m)) = refl

-- ---- values
-- f/1 = f
over-one : (f : mean.Element) → quotient elements f one ≡ f
over-one f = sym (mul-one (quotient elements f one)) ∙ over-mul f one one-ne-zero

-- c + x·0 = c
constant-value : (f : mean.Element) → add f (mul (variable 0) zero) ≡ f
constant-value f = at (variable 0)
  where
    at : (t : mean.Element) → add f (mul t zero) ≡ f
    at t = ring elements.ring (f ∷ t ∷ []) (search reading depth 20) refl

value-constant : (c : Fraction) → values.value (c ∷ []) ≡ fraction_meaning c
unfolding values.value
value-constant c = constant-value (fraction_meaning c)

-- a polynomial that is 1 stands for 1
one-value : (m : List Fraction) → AllValid IsLowest m → poly.is_one ground m ≡ true → values.value m ≡ one
one-value [] v h = cc
one-value (c ∷ []) v h = value-constant c ∙ (level_tells_one 0).one_is c v.0 h
one-value (c ∷ (d ∷ m)) v h = cc

quotient-value : (n m : List Fraction) → values.value m ≡ one → meaning (lifted (Quotient (n, m))) ≡ values.value n
unfolding meaning values.value
quotient-value n m h = ap (quotient elements (values.value n)) h ∙ over-one (values.value n)

-- ---- what the coefficients stand for
nothing-value : (c : Fraction) → IsLowest c → is_zero c ≡ true → fraction_meaning c ≡ values.value []
unfolding values.value
nothing-value c l z = ground_means.zero_is c l z

number-stands : (c : Fraction) (p : List Fraction) → IsLowest c → (if is_zero c then [] else c ∷ []) ≡ p → IsPolynomialInX (number 5 c) p
unfolding meaning
number-stands c p l h =
    cond_both (is_zero c) [] (c ∷ []) (λ q. q ≡ p → IsPolynomialInX (number 5 c) p)
    (λ z e. subst (IsPolynomialInX (number 5 c)) e (record { valid = tt; ends_not_zero = refl; degree_small = omega arith; means = nothing-value c l z }))
    (λ n e. subst (IsPolynomialInX (number 5 c)) e (record { valid = (l, tt); ends_not_zero = rw n refl; degree_small = omega arith; means = sym (value-constant c) })) h

unit-stands : (n m : List Fraction) → IsNormal elements ground IsLowest fraction_meaning n m → poly.is_one ground m ≡ true → IsPolynomialInX (lifted (Quotient (n, m))) n
unit-stands n m v h = record {
  valid = v.is_reduced.numerator_kept.all_valid;
  ends_not_zero = v.is_reduced.numerator_kept.ends_not_zero;
  degree_small = v.is_reduced.numerator_kept.degree_small;
  means = quotient-value n m (one-value m v.is_reduced.denominator_kept.all_valid h);
}

none-some : (p : List Fraction) → None ≡ Some p → ⊥
none-some p e = cc

quotient-stands : (n m p : List Fraction) → IsNormal elements ground IsLowest fraction_meaning n m → (if poly.is_one ground m then Some n else None) ≡ Some p → IsPolynomialInX (lifted (Quotient (n, m))) p
quotient-stands n m p v h =
    cond_both (poly.is_one ground m) (Some n) None (λ q. q ≡ Some p → IsPolynomialInX (lifted (Quotient (n, m))) p)
    (λ unit e. let same : n ≡ p = cc in subst (IsPolynomialInX (lifted (Quotient (n, m)))) same (unit-stands n m v unit))
    (λ other e. absurd (none-some p e)) h

pub coefficients-stand : (e : Element) (p : List Fraction) → IsElement e → Within 1 e → coefficients e ≡ Some p → IsPolynomialInX e p
unfolding IsElement Within
coefficients-stand (Quotient r) p v w h = absurd (omega arith)
coefficients-stand (Below (Quotient r)) p v w h = absurd (omega arith)
coefficients-stand (Below (Below (Quotient r))) p v w h = absurd (omega arith)
coefficients-stand (Below (Below (Below (Quotient r)))) p v w h = absurd (omega arith)
coefficients-stand (Below (Below (Below (Below (Quotient (n, m)))))) p v w h = quotient-stands n m p v (sym (coefficients-quotient n m) ∙ h)
coefficients-stand (Below (Below (Below (Below (Below c))))) p v w h =
    let same : Some (if is_zero c then [] else c ∷ []) ≡ Some p = sym (coefficients-number c) ∙ h in
    number-stands c p v (let e : (if is_zero c then [] else c ∷ []) ≡ p = cc in e)

-- ---- the element of a polynomial
zero-means : meaning (number 5 ground.zero) ≡ values.value []
unfolding meaning values.value
zero-means = ground_means.zero-means

constant-means : (c : Fraction) → meaning (number 5 c) ≡ values.value (c ∷ [])
unfolding meaning
constant-means c = sym (value-constant c)

pub element_of-means : (p : List Fraction) → meaning (element_of p) ≡ values.value p
unfolding element_of
element_of-means [] = zero-means
element_of-means (c ∷ []) = constant-means c
element_of-means (c ∷ (d ∷ p)) = quotient-value (c ∷ (d ∷ p)) (ground.one ∷ []) (value-constant ground.one ∙ ground_means.one-means)

-- the element of the level of x
own : List Fraction → Field 1
own [] = Below ground.zero
own (c ∷ []) = Below c
own (c ∷ (d ∷ p)) = Quotient (c ∷ d ∷ p, ground.one ∷ [])

element_of-own : (p : List Fraction) → element_of p ≡ lifted (own p)
unfolding element_of own
element_of-own [] = refl
element_of-own (c ∷ []) = refl
element_of-own (c ∷ (d ∷ p)) = refl

gt-leb : (n : ℕ) → nat_le (suc (suc n)) 1 ≡ false
gt-leb n = by_test (nat_le (suc (suc n)) 1) refl
  where
    by_test : (b : Bool) → nat_le (suc (suc n)) 1 ≡ b → b ≡ false
    by_test false e = refl
    by_test true e = absurd (let small = leb-true (suc (suc n)) 1 e in omega arith)

long_form : (c d : Fraction) (p : List Fraction) → length (c ∷ d ∷ p) ≤ 256 → over.element ground (c ∷ d ∷ p) (ground.one ∷ []) ≡ Ok (Quotient (c ∷ d ∷ p, ground.one ∷ []))
unfolding over.element
long_form c d p small =
    let long : nat_le (length (c ∷ d ∷ p)) 1 ≡ false = gt-leb (length p) in
    let weight : nat_le (poly.weight ground (c ∷ d ∷ p) + poly.weight ground (ground.one ∷ [])) 65536 ≡ true =
    (let first = weight-small (c ∷ d ∷ p) in let second = weight-small (ground.one ∷ []) in le-leb (poly.weight ground (c ∷ d ∷ p) + poly.weight ground (ground.one ∷ [])) 65536 (omega arith)) in
    rw (long, weight) refl

own-formed : (p : List Fraction) → length p ≤ 256 → over.normal_form ground p (ground.one ∷ []) ≡ Ok (own p)
unfolding over.normal_form own over.element
own-formed [] small = refl
own-formed (c ∷ []) small = refl
own-formed (c ∷ (d ∷ p)) small = long_form c d p small

same_numbers : (p : List Fraction) → map (number 0) p ≡ p
same_numbers [] = refl
same_numbers (c ∷ p) = ap (λ q. c ∷ q) (same_numbers p)

level-formed : (p : List Fraction) → poly.trimmed ground p ≡ p → length p ≤ 256 →
    (levels 1).quotient 0 (map (number 1) p) (map (number 1) (ground.one ∷ [])) ≡ Ok (own p)
unfolding tower.quotient_at
level-formed p t small =
    rw (formed-numbers 0 p t small, same_numbers p) (own-formed p small)

-- The quotient of p and 1 at the level of x is formed, and is the element of p.
pub element-formed : (p : List Fraction) → poly.trimmed ground p ≡ p → length p ≤ 256 →
    (levels 5).quotient 4 (map (number 5) p) (map (number 5) (ground.one ∷ [])) ≡ Ok (element_of p)
element-formed p t small =
    quotient-numbers 4 4 (levels 4) p (ground.one ∷ []) refl t small refl (omega arith)
    ∙ ap (map_ok Below) (quotient-numbers 3 3 (levels 3) p (ground.one ∷ []) refl t small refl (omega arith)
    ∙ ap (map_ok Below) (quotient-numbers 2 2 (levels 2) p (ground.one ∷ []) refl t small refl (omega arith)
    ∙ ap (map_ok Below) (quotient-numbers 1 1 (levels 1) p (ground.one ∷ []) refl t small refl (omega arith)
    ∙ ap (map_ok Below) (level-formed p t small))))
    ∙ ap Ok (sym (element_of-own p))

-- ---- what the code finds at the level of x
pub parts-one : (e : Element) (m n : List Element) (p : List Fraction) → m ≡ denominator 5 4 e → poly.is_one element m ≡ true → n ≡ (levels 5).numerator 4 e → p ≡ map fraction_of n → coefficients e ≡ Some p
unfolding coefficients
parts-one e m n p dm h dn dp =
    let test : poly.is_one element (denominator 5 4 e) ≡ true = ap (poly.is_one element) (sym dm) ∙ h in
    rw test (ap Some (ap (map fraction_of) (sym dn) ∙ sym dp))

pub parts-other : (e : Element) (m : List Element) → m ≡ denominator 5 4 e → poly.is_one element m ≡ false → coefficients e ≡ None
unfolding coefficients
parts-other e m dm h =
    let test : poly.is_one element (denominator 5 4 e) ≡ false = ap (poly.is_one element) (sym dm) ∙ h in
    rw test refl

pub parts-stand : (e : Element) (m n : List Element) (p : List Fraction) → IsElement e → Within 1 e → m ≡ denominator 5 4 e → poly.is_one element m ≡ true → n ≡ (levels 5).numerator 4 e →
    p ≡ map fraction_of n → IsPolynomialInX e p
parts-stand e m n p v w dm h dn dp = coefficients-stand e p v w (parts-one e m n p dm h dn dp)

pub stands-degree : (e : Element) (p : List Fraction) → IsPolynomialInX e p → length (poly.trimmed ground p) ≤ 256
stands-degree e p s = let same = ap length s.ends_not_zero in let small = s.degree_small in omega arith

pub stands-weight : (e : Element) (p : List Fraction) → IsPolynomialInX e p → poly.weight ground p ≤ 65536
stands-weight e p s = let bound = weight-small p in let small = s.degree_small in omega arith

-- ---- an element that is formed, or want of memory
pub formed-is : {E : Type 0} (of : Checked Element) (result : Result Element E) (e : Element) → Agrees of (Ok e) → IfOk result (λ it. of ≡ Ok it) → IfOk result (λ it. it ≡ e)
formed-is of (Ok it) e h is = let same : Ok e ≡ Ok it = rw is at h in cc
formed-is of (Err x) e h is = tt

pub formed-if : {E : Type 0} (of : Checked Element) (result : Result Element E) (P : Element → Type 0) → IfOk of P → IfOk result (λ it. of ≡ Ok it) → IfOk result P
formed-if of (Ok it) P h is = rw is at h
formed-if of (Err x) P h is = tt
