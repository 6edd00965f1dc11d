-- The numerator, the denominator and the quotients of the elements of the whole tower at each of its levels: polynomials over what lies below the level, and what they stand for at its variable.
use Rattle.std.proofs.Common.{◌≡◌, ℕ, ◌+◌, ◌-◌, ◌≤◌, List, [], Ok, arith}
use Rattle.risch_mean.specs.Element as mean
use Rattle.risch_mean.specs.Element.{variable, ◌*ₑ◌, ◌/ₑ◌}
use Rattle.risch_polynomial.specs.Poly as poly
use Rattle.risch_level.specs.Levels.{Element, element}
use Rattle.risch_level.specs.Parts.{levels, denominator}
use Rattle.risch_element_theory.specs.WholeTower.{IsElement, meaning, IsPolynomial, value_of, Within, AllWithin}
use Rattle.risch_element_theory.proofs.PartsMeaning as PartsMeaning
use Rattle.risch_element_theory.proofs.PartsQuotients as PartsQuotients

-- level l is the one that lies 4 - l below the highest
place : (l : ℕ) → l ≤ 4 → l + (4 - l) + 1 ≡ 5
place l h = omega arith

-- ---- numerator and denominator
pub numerator-is_polynomial : (l : ℕ) (e : Element) → l ≤ 4 → IsElement e → IsPolynomial ((levels 5).numerator (4 - l) e)
unfolding IsElement element
numerator-is_polynomial l e h v = PartsMeaning.numerator-valid 5 (4 - l) e v

pub denominator-is_polynomial : (l : ℕ) (e : Element) → l ≤ 4 → IsElement e → IsPolynomial (denominator 5 (4 - l) e)
unfolding IsElement element
denominator-is_polynomial l e h v = PartsMeaning.denominator-valid 5 (4 - l) e v

pub denominator-ne-nil : (l : ℕ) (e : Element) → l ≤ 4 → IsElement e → ¬ (denominator 5 (4 - l) e ≡ [])
unfolding IsElement
denominator-ne-nil l e h v = PartsMeaning.denominator-ne-nil 5 (4 - l) e v

-- its leading coefficient is 1
pub denominator-is_monic : (l : ℕ) (e : Element) → l ≤ 4 → IsElement e → meaning (poly.last element (denominator 5 (4 - l) e)) ≡ mean.one
unfolding IsElement meaning element
denominator-is_monic l e h v = PartsMeaning.denominator-monic 5 (4 - l) e v

-- the coefficients lie below the level
pub numerator-all_within : (l : ℕ) (e : Element) → l ≤ 4 → IsElement e → Within (l + 1) e → AllWithin l ((levels 5).numerator (4 - l) e)
unfolding Within
numerator-all_within l e h v w = PartsMeaning.numerator-within 5 l (4 - l) e (place l h)

pub denominator-all_within : (l : ℕ) (e : Element) → l ≤ 4 → IsElement e → Within (l + 1) e → AllWithin l (denominator 5 (4 - l) e)
unfolding Within
denominator-all_within l e h v w = PartsMeaning.denominator-within 5 l (4 - l) e (place l h)

-- m(t) ≠ 0
pub denominator-value-ne-zero : (l : ℕ) (e : Element) → l ≤ 4 → IsElement e → ¬ (value_of (denominator 5 (4 - l) e) (variable l) ≡ mean.zero)
unfolding IsElement meaning
denominator-value-ne-zero l e h v = PartsMeaning.denominator-ne-zero 5 l (4 - l) e (place l h) v

-- ⟦e⟧ = n(t)/m(t)
pub parts-stand : (l : ℕ) (e : Element) → l ≤ 4 → IsElement e → Within (l + 1) e →
    meaning e ≡ value_of ((levels 5).numerator (4 - l) e) (variable l) /ₑ value_of (denominator 5 (4 - l) e) (variable l)
unfolding IsElement meaning Within
parts-stand l e h v w = PartsMeaning.numerator-means 5 l (4 - l) e (place l h) v w

-- ---- quotients
-- q(t) ≠ 0 for q ≠ 0
pub value-ne-zero : (l : ℕ) (q : List Element) → l ≤ 4 → IsPolynomial q → AllWithin l q → ¬ (q ≡ []) → ¬ (value_of q (variable l) ≡ mean.zero)
unfolding IsElement meaning element Within
value-ne-zero l q h k w some = PartsQuotients.value-ne-zero 5 l (4 - l) q (place l h) k w some

pub quotient-is_element : (l : ℕ) (p q : List Element) (e : Element) → l ≤ 4 → IsPolynomial p → IsPolynomial q → AllWithin l p → AllWithin l q → ¬ (q ≡ []) →
    (levels 5).quotient (4 - l) p q ≡ Ok e → IsElement e
unfolding IsElement element Within
quotient-is_element l p q e h kp kq wp wq some is = PartsQuotients.quotient-valid 5 l (4 - l) p q e (place l h) kp kq wp wq some is

pub quotient-within : (l : ℕ) (p q : List Element) (e : Element) → l ≤ 4 → IsPolynomial p → IsPolynomial q → AllWithin l p → AllWithin l q → ¬ (q ≡ []) →
    (levels 5).quotient (4 - l) p q ≡ Ok e → Within (l + 1) e
unfolding IsElement element Within
quotient-within l p q e h kp kq wp wq some is = PartsQuotients.quotient-within 5 l (4 - l) p q e (place l h) kp kq wp wq some is

-- ⟦e⟧·q(t) = p(t)
pub quotient-product-stands : (l : ℕ) (p q : List Element) (e : Element) → l ≤ 4 → IsPolynomial p → IsPolynomial q → AllWithin l p → AllWithin l q → ¬ (q ≡ []) →
    (levels 5).quotient (4 - l) p q ≡ Ok e → meaning e *ₑ value_of q (variable l) ≡ value_of p (variable l)
unfolding IsElement meaning element Within
quotient-product-stands l p q e h kp kq wp wq some is = PartsQuotients.quotient-product 5 l (4 - l) p q e (place l h) kp kq wp wq some is

-- ⟦e⟧ = p(t)/q(t)
pub quotient-stands : (l : ℕ) (p q : List Element) (e : Element) → l ≤ 4 → IsPolynomial p → IsPolynomial q → AllWithin l p → AllWithin l q → ¬ (q ≡ []) →
    (levels 5).quotient (4 - l) p q ≡ Ok e → meaning e ≡ value_of p (variable l) /ₑ value_of q (variable l)
unfolding IsElement meaning element Within
quotient-stands l p q e h kp kq wp wq some is = PartsQuotients.quotient-means 5 l (4 - l) p q e (place l h) kp kq wp wq some is
