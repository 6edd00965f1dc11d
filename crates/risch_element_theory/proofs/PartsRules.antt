-- The laws of numerators, denominators and quotients at a level of the whole tower, each of a polynomial r or an element e that the rule gives.
use Rattle.std.specs.Prelude.{slice_index_or}
use Rattle.std.proofs.Common.{◌≡◌, ℕ, zero, suc, ◌+◌, ◌-◌, ◌<◌, List, [], ◌∷◌, length, Ok, refl, sym, ap, subst, arith}
use Rattle.risch_mean.specs.Element as mean
use Rattle.risch_mean.specs.Element.{variable, ◌/ₑ◌}
use Rattle.risch_polynomial.specs.Poly as poly
use Rattle.risch_polynomial_theory.specs.Meaning.{AllValid}
use Rattle.risch_level.specs.Levels.{Element, element}
use Rattle.risch_level.specs.Parts.{levels, denominator}
use Rattle.risch_element_theory.specs.WholeTower.{IsElement, meaning, IsPolynomial, value_of, Within, AllWithin}
use Rattle.risch_element_theory.proofs.PartsLaws as Laws

-- an element of a list of valid ones is valid
pub item-is_element : (p : List Element) (k : ℕ) (c : Element) → AllValid IsElement p → k < length p → c ≡ slice_index_or p k c → IsElement c
item-is_element [] k c all below is = absurd (omega arith)
item-is_element (d ∷ p) zero c all below is = subst IsElement (sym is) all.0
item-is_element (d ∷ p) (suc k) c all below is = item-is_element p k c all.1 (omega arith) is

pub coefficients-are_elements : (p : List Element) → IsPolynomial p → AllValid IsElement p
coefficients-are_elements p k = k.all_valid

-- a list other than [] has an item
some : (p : List Element) → ¬ (p ≡ []) → 0 < length p
some [] n = absurd (n refl)
some (c ∷ p) n = omega arith

not_nil : (p : List Element) → 0 < length p → ¬ (p ≡ [])
not_nil p some e = let none = ap length e in absurd (omega (arith, none, some))

pub numerator-kept : (l : ℕ) (e : Element) (r : List Element) → l < 5 → IsElement e → r ≡ (levels 5).numerator (4 - l) e → IsPolynomial r
numerator-kept l e r h v is = subst IsPolynomial (sym is) (Laws.numerator-is_polynomial l e (omega arith) v)

pub numerator-variables : (l : ℕ) (e : Element) (r : List Element) → l < 5 → IsElement e → Within (l + 1) e → r ≡ (levels 5).numerator (4 - l) e → AllWithin l r
numerator-variables l e r h v w is = subst (AllWithin l) (sym is) (Laws.numerator-all_within l e (omega arith) v w)

pub numerator-stands : (l : ℕ) (e : Element) (r : List Element) → l < 5 → IsElement e → Within (l + 1) e → r ≡ (levels 5).numerator (4 - l) e →
    meaning e ≡ value_of r (variable l) /ₑ value_of (denominator 5 (4 - l) e) (variable l)
numerator-stands l e r h v w is =
    subst (λ r. meaning e ≡ value_of r (variable l) /ₑ value_of (denominator 5 (4 - l) e) (variable l)) (sym is) (Laws.parts-stand l e (omega arith) v w)

pub denominator-kept : (l : ℕ) (e : Element) (r : List Element) → l < 5 → IsElement e → r ≡ denominator 5 (4 - l) e → IsPolynomial r
denominator-kept l e r h v is = subst IsPolynomial (sym is) (Laws.denominator-is_polynomial l e (omega arith) v)

pub denominator-some : (l : ℕ) (e : Element) (r : List Element) → l < 5 → IsElement e → r ≡ denominator 5 (4 - l) e → 0 < length r
denominator-some l e r h v is = subst (λ r. 0 < length r) (sym is) (some (denominator 5 (4 - l) e) (Laws.denominator-ne-nil l e (omega arith) v))

pub denominator-monic : (l : ℕ) (e : Element) (r : List Element) → l < 5 → IsElement e → r ≡ denominator 5 (4 - l) e → meaning (poly.last element r) ≡ mean.one
denominator-monic l e r h v is = subst (λ r. meaning (poly.last element r) ≡ mean.one) (sym is) (Laws.denominator-is_monic l e (omega arith) v)

pub denominator-variables : (l : ℕ) (e : Element) (r : List Element) → l < 5 → IsElement e → Within (l + 1) e → r ≡ denominator 5 (4 - l) e → AllWithin l r
denominator-variables l e r h v w is = subst (AllWithin l) (sym is) (Laws.denominator-all_within l e (omega arith) v w)

pub denominator-stands : (l : ℕ) (e : Element) (r : List Element) → l < 5 → IsElement e → Within (l + 1) e → r ≡ denominator 5 (4 - l) e →
    meaning e ≡ value_of ((levels 5).numerator (4 - l) e) (variable l) /ₑ value_of r (variable l)
denominator-stands l e r h v w is =
    subst (λ r. meaning e ≡ value_of ((levels 5).numerator (4 - l) e) (variable l) /ₑ value_of r (variable l)) (sym is) (Laws.parts-stand l e (omega arith) v w)

pub quotient-kept : (l : ℕ) (p q : List Element) (e : Element) → l < 5 → IsPolynomial p → IsPolynomial q → AllWithin l p → AllWithin l q → 0 < length q →
    (levels 5).quotient (4 - l) p q ≡ Ok e → IsElement e
quotient-kept l p q e h kp kq wp wq some is = Laws.quotient-is_element l p q e (omega arith) kp kq wp wq (not_nil q some) is

pub quotient-variables : (l : ℕ) (p q : List Element) (e : Element) → l < 5 → IsPolynomial p → IsPolynomial q → AllWithin l p → AllWithin l q → 0 < length q →
    (levels 5).quotient (4 - l) p q ≡ Ok e → Within (l + 1) e
quotient-variables l p q e h kp kq wp wq some is = Laws.quotient-within l p q e (omega arith) kp kq wp wq (not_nil q some) is

pub quotient-stands : (l : ℕ) (p q : List Element) (e : Element) → l < 5 → IsPolynomial p → IsPolynomial q → AllWithin l p → AllWithin l q → 0 < length q →
    (levels 5).quotient (4 - l) p q ≡ Ok e → meaning e ≡ value_of p (variable l) /ₑ value_of q (variable l)
quotient-stands l p q e h kp kq wp wq some is = Laws.quotient-stands l p q e (omega arith) kp kq wp wq (not_nil q some) is

pub ruleset items = (item-is_element, coefficients-are_elements)

pub ruleset numerators = (numerator-kept, numerator-variables, numerator-stands)

pub ruleset denominators = (denominator-kept, denominator-some, denominator-monic, denominator-variables, denominator-stands)

pub ruleset quotients = (quotient-kept, quotient-variables, quotient-stands)
