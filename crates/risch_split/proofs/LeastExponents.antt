-- The least exponent of a polynomial s, and the coefficients from there on: s = t^e·s' with s'(0) ≠ 0.
use Rattle.std.specs.Prelude.{if◌then◌else◌}
use Rattle.std.proofs.Common.{◌≡◌, ℕ, zero, suc, ◌+◌, ◌≤◌, ◌<◌, Bool, true, false, List, [], ◌∷◌, length, get_or, drop, refl, sym, ◌∙◌, ap, arith}
use Rattle.std.proofs.lemmas.List.{at_drop_more, at_drop_all}
use Rattle.std.proofs.lemmas.List.Sums.{sum_by-take-drop}
use Rattle.risch_ring.specs.CommRing.{CommRing, power}
use Rattle.risch_ring.proofs.Laws as Laws
use Rattle.risch_univariate.specs.Polynomial.{Polynomial, coefficient, variable}
use Rattle.risch_univariate.specs.PolynomialRing.{polynomials, horner}
use Rattle.risch_univariate.proofs.Evaluation as Evaluation
use Rattle.risch_mean.specs.Element as mean
use Rattle.risch_mean.specs.ElementField.{elements}
use Rattle.risch_polynomial.specs.Poly as poly
use Rattle.risch_polynomial_theory.specs.Meaning.{AllValid}
use Rattle.risch_level.specs.Levels.{Element, element}
use Rattle.risch_element_theory.specs.WholeTower.{IsElement, IsPolynomial, meaning, polynomial, AllWithin}
use Rattle.risch_element_theory.proofs.ElementLaws.{nonzero-stands, zero-told}
use Rattle.risch_element_theory.proofs.ElementPolynomials.{element_interprets, trimmed-is_polynomial, trimmed-stands}
use Rattle.risch_element_theory.proofs.GcdRule as GcdRule
use Rattle.risch_element_theory.proofs.PolynomialRules as Rules
use Rattle.risch_element_theory.proofs.PolynomialsWithin.{trimmed-within}
use Rattle.risch_split.specs.Splitting.{least_exponent, without_variable}

abbrev R : CommRing (Polynomial elements)
R = polynomials elements

abbrev t : Polynomial elements
t = variable elements

-- ---- lists
pub least-small : (p : List Element) → least_exponent p ≤ length p
least-small [] = omega arith
least-small (c ∷ p) = by (element.is_zero c) (least-small p)
  where
    by : (z : Bool) → least_exponent p ≤ length p → (if z then suc (least_exponent p) else 0) ≤ length (c ∷ p)
    by true h = omega arith
    by false h = omega arith

drop-valid : (n : ℕ) (p : List Element) → AllValid IsElement p → AllValid IsElement (drop n p)
drop-valid zero p all = all
drop-valid (suc n) [] all = tt
drop-valid (suc n) (c ∷ p) all = drop-valid n p all.1

drop-within : (level n : ℕ) (p : List Element) → AllWithin level p → AllWithin level (drop n p)
drop-within level zero p all = all
drop-within level (suc n) [] all = tt
drop-within level (suc n) (c ∷ p) all = drop-within level n p all.1

-- the weight of some of the coefficients
pub drop-weight : (n : ℕ) (p : List Element) → poly.weight element (drop n p) ≤ poly.weight element p
drop-weight n p = let parts = sum_by-take-drop (poly.weight_in element) p n in omega (arith, parts)

leading-length : (c : Element) (p : List Element) → length (poly.leading element c p) ≤ suc (length p)
leading-length c [] = by (element.is_zero c)
  where
    by : (z : Bool) → length (if z then [] else c ∷ []) ≤ 1
    by true = omega arith
    by false = omega arith
leading-length c (d ∷ p) = omega arith

pub trimmed-length : (p : List Element) → length (poly.trimmed element p) ≤ length p
trimmed-length [] = omega arith
trimmed-length (c ∷ p) =
    let l = trimmed-length p in
    let m = leading-length c (poly.trimmed element p) in
    omega (arith, l, m)

pub drop-length : (n : ℕ) (p : List Element) → length (drop n p) ≤ length p
drop-length zero p = omega arith
drop-length (suc n) [] = omega arith
drop-length (suc n) (c ∷ p) = let l = drop-length n p in omega (arith, l)

-- ---- the coefficients from the least exponent on
-- ⟦c + t·p⟧ for c = 0
shifted : (c : Element) (p : List Element) → meaning c ≡ mean.zero → polynomial (c ∷ p) ≡ R.mul t (polynomial p)
shifted c p z = Rules.polynomial_of-cons elements element_interprets c p ∙ ap (λ a. horner elements a (polynomial p)) z ∙ Evaluation.horner-zero elements (polynomial p)

pub dropped-product : (p : List Element) → AllValid IsElement p → polynomial p ≡ R.mul (power R t (least_exponent p)) (polynomial (drop (least_exponent p) p))
dropped-product [] all = sym (ap (λ x. R.mul x (polynomial [])) (Laws.power-zero R t) ∙ Laws.one-mul R (polynomial []))
dropped-product (c ∷ p) all = by (element.is_zero c) refl (dropped-product p all.1)
  where
    by : (z : Bool) → element.is_zero c ≡ z → polynomial p ≡ R.mul (power R t (least_exponent p)) (polynomial (drop (least_exponent p) p)) →
        polynomial (c ∷ p) ≡ R.mul (power R t (if z then suc (least_exponent p) else 0)) (polynomial (drop (if z then suc (least_exponent p) else 0) (c ∷ p)))
    by true z h =
        shifted c p ((zero-told c all.0).0 z) ∙ ap (R.mul t) h ∙ sym (R.mul_assoc t (power R t (least_exponent p)) (polynomial (drop (least_exponent p) p)))
        ∙ ap (λ x. R.mul x (polynomial (drop (least_exponent p) p))) (sym (Laws.power-suc R t (least_exponent p)))
    by false z h = sym (ap (λ x. R.mul x (polynomial (c ∷ p))) (Laws.power-zero R t) ∙ Laws.one-mul R (polynomial (c ∷ p)))

dropped-free : (p : List Element) → AllValid IsElement p → ¬ (polynomial p ≡ R.zero) → ¬ (meaning (poly.coefficient element (drop (least_exponent p) p) 0) ≡ mean.zero)
dropped-free [] all some = absurd (some (Rules.polynomial_of-nil elements element_interprets))
dropped-free (c ∷ p) all some = by (element.is_zero c) refl (dropped-free p all.1)
  where
    lower : meaning c ≡ mean.zero → ¬ (polynomial p ≡ R.zero)
    lower z e = some (shifted c p z ∙ ap (R.mul t) e ∙ Laws.mul-zero R t)

    by : (z : Bool) → element.is_zero c ≡ z → (¬ (polynomial p ≡ R.zero) → ¬ (meaning (poly.coefficient element (drop (least_exponent p) p) 0) ≡ mean.zero)) →
        ¬ (meaning (poly.coefficient element (drop (if z then suc (least_exponent p) else 0) (c ∷ p)) 0) ≡ mean.zero)
    by true z h = h (lower ((zero-told c all.0).0 z))
    by false z h = nonzero-stands c all.0 z

-- ---- s = t^e·s'
pub record IsShifted (level : ℕ) (s s' : List Element) : Type 0 where
  pub kept : IsPolynomial s'
  pub within : AllWithin level s'
  pub product : polynomial s ≡ R.mul (power R t (least_exponent s)) (polynomial s')
  pub free : ¬ (coefficient elements (polynomial s') 0 ≡ mean.zero)

pub without_variable-shifted : (level : ℕ) (s : List Element) → IsPolynomial s → AllWithin level s → ¬ (polynomial s ≡ R.zero) → IsShifted level s (without_variable s)
unfolding without_variable
without_variable-shifted level s k w some =
    let e = least_exponent s in
    let valid = drop-valid e s k.all_valid in
    let few = k.degree_small in
    let dropped = drop-length e s in
    let trimmed = trimmed-length (drop e s) in
    let same = trimmed-stands (drop e s) (poly.trimmed element (drop e s)) valid refl in
    record {
      kept = trimmed-is_polynomial (drop e s) (poly.trimmed element (drop e s)) valid (omega (arith, few, dropped, trimmed)) refl;
      within = trimmed-within level (drop e s) (poly.trimmed element (drop e s)) (drop-within level e s w) refl;
      product = dropped-product s k.all_valid ∙ ap (R.mul (power R t e)) (sym same);
      free = λ z. dropped-free s k.all_valid some (sym (GcdRule.coefficient-polynomial_of elements element_interprets (drop e s) 0) ∙ ap (λ p. coefficient elements p 0) (sym same) ∙ z);
    }

-- ---- the search for the least exponent
-- the coefficients from a place on begin with the one there
at-place : (p : List Element) (i : ℕ) (c : Element) → i < length p → c ≡ get_or p i c → least_exponent (drop i p) ≡ (if element.is_zero c then suc (least_exponent (drop (i + 1) p)) else 0)
at-place p i c h e = at_drop_more least_exponent p i c h ∙ ap (λ x. if element.is_zero x then suc (least_exponent (drop (i + 1) p)) else 0) (sym e)

-- one that is 0 is passed over
pub least-passes : (p : List Element) (i : ℕ) (c : Element) → i < length p → c ≡ get_or p i c → element.is_zero c ≡ true →
    least_exponent p ≡ i + least_exponent (drop i p) → least_exponent p ≡ i + 1 + least_exponent (drop (i + 1) p)
least-passes p i c h e z so_far =
    let here : least_exponent (drop i p) ≡ suc (least_exponent (drop (i + 1) p)) = at-place p i c h e ∙ ap (λ b. if b then suc (least_exponent (drop (i + 1) p)) else 0) z in
    omega (arith, here, so_far)

-- the first other one is found
pub least-found : (p : List Element) (i : ℕ) (c : Element) → i < length p → c ≡ get_or p i c → element.is_zero c ≡ false → least_exponent p ≡ i + least_exponent (drop i p) → least_exponent p ≡ i
least-found p i c h e z so_far =
    let here : least_exponent (drop i p) ≡ 0 = at-place p i c h e ∙ ap (λ b. if b then suc (least_exponent (drop (i + 1) p)) else 0) z in
    omega (arith, here, so_far)

-- there is none
pub least-none : (p : List Element) (i : ℕ) → length p ≤ i → i ≤ length p → least_exponent p ≡ i + least_exponent (drop i p) → least_exponent p ≡ length p
least-none p i l m so_far =
    let same : i ≡ length p = omega arith in
    let here = at_drop_all least_exponent p i l in
    omega (arith, here, so_far, same)

pub without_variable-within : (level : ℕ) (s : List Element) → AllWithin level s → AllWithin level (without_variable s)
unfolding without_variable
without_variable-within level s w = trimmed-within level (drop (least_exponent s) s) (poly.trimmed element (drop (least_exponent s) s)) (drop-within level (least_exponent s) s w) refl
