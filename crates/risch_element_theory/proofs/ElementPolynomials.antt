-- The rules on polynomials over the elements of the whole tower keep them polynomials, and are the operations of K[t] for the field K of all elements.
use Rattle.std.specs.Prelude.{◌↔◌, IsTrue, slice_get, if◌then◌else◌}
use Rattle.std.proofs.Common.{◌≡◌, ℕ, zero, suc, ◌≤◌, ◌<◌, ◌+◌, Bool, true, false, List, [], ◌∷◌, length, Option, Some, None, Ok, refl, sym, ap, ◌∙◌, arith, subst}
use Rattle.risch_univariate.specs.Polynomial.{coefficient, variable}
use Rattle.risch_univariate.specs.Division.{IsCoprime}
use Rattle.risch_univariate.proofs.FormalDerivative as FormalDerivative
use Rattle.risch_univariate.proofs.Gcd as Gcd
use Rattle.risch_mean.specs.ElementField.{elements}
use Rattle.risch_level.specs.Levels.{Element, element}
use Rattle.risch_polynomial.specs.Poly as poly
use Rattle.risch_polynomial.specs.Modular as modular
use Rattle.risch_polynomial.proofs.CoefficientLists.{trimmed-trimmed}
use Rattle.risch_polynomial_theory.specs.Meaning.{Interprets, AllValid}
use Rattle.risch_polynomial_theory.proofs.PolynomialValues as Values
use Rattle.risch_element_theory.specs.PolynomialMeaning.{KeepsPolynomial, KeepsDivision, KeepsGcd}
use Rattle.risch_element_theory.specs.ModularMeaning.{SolutionMeans}
use Rattle.risch_element_theory.specs.WholeTower.{IsElement, IsPolynomial, meaning, polynomial}
use Rattle.risch_element_theory.specs.ElementPolynomials.{zero as zeroₚ, ◌+ₚ◌, ◌*ₚ◌, negative, multiple, monic_multiple, IsDerivative, IsDegree, meaning_or_zero, IsDivisionOf, IsMonicGcd, IsInverseModulo, IsSolution}
use Rattle.risch_element_theory.proofs.Levels.{element_means}
use Rattle.risch_element_theory.proofs.PolynomialRules as Rules
use Rattle.risch_element_theory.proofs.DivisionRule as DivisionRule
use Rattle.risch_element_theory.proofs.GcdRule as GcdRule
use Rattle.risch_element_theory.proofs.ModularRule as ModularRule

-- each element in normal form stands for one, and the rules are the operations of the field
pub element_interprets : Interprets element elements.ring IsElement meaning
unfolding IsElement meaning
element_interprets = element_means

not_nil : (p : List Element) → 0 < length p → ¬ (p ≡ [])
not_nil p some e = let none = ap length e in absurd (omega (arith, none, some))

not_both_nil : (p q : List Element) → 0 < length p + length q → p ≡ [] → q ≡ [] → ⊥
not_both_nil p q some e f = let none = ap length e in let nor = ap length f in omega (arith, none, nor, some)

-- ---- 0, 1, constants and lists of coefficients
pub zero-is_polynomial : IsPolynomial []
zero-is_polynomial = GcdRule.nil-kept elements element_interprets

-- the list of valid coefficients without the zeros at its end
pub trimmed-is_polynomial : (p r : List Element) → AllValid IsElement p → length (poly.trimmed element p) ≤ 256 → r ≡ poly.trimmed element p → IsPolynomial r
trimmed-is_polynomial p r all small is = subst IsPolynomial (sym is) (record {
  all_valid = Values.trimmed-valid element_interprets p all;
  ends_not_zero = trimmed-trimmed element p;
  degree_small = small;
})

-- it stands for the polynomial with these coefficients
pub trimmed-stands : (p r : List Element) → AllValid IsElement p → r ≡ poly.trimmed element p → polynomial r ≡ polynomial p
trimmed-stands p r all is =
    ap polynomial is ∙ sym (Rules.value-polynomial_of elements element_interprets (poly.trimmed element p))
    ∙ Values.trimmed-means (Rules.over_polynomials elements element_interprets) (variable elements) p all
    ∙ Rules.value-polynomial_of elements element_interprets p

-- two polynomials are the same where they stand for the same
pub same-stands : (p q : List Element) → IsPolynomial p → IsPolynomial q → IsTrue (poly.same element p q) ↔ (polynomial p ≡ polynomial q)
same-stands p q k l = (
  λ e. ap polynomial (Values.same-means element_interprets p q k.all_valid l.all_valid e),
  λ e. let same = Rules.polynomial_of-injective elements element_interprets p q k l e in subst (λ q. poly.same element p q ≡ true) same (Values.same_if element_interprets p k.all_valid),
)

-- the empty list alone stands for 0
pub zero-stands : (p : List Element) → IsPolynomial p → IsTrue (poly.is_zero element p) ↔ (polynomial p ≡ zeroₚ)
zero-stands [] k = (λ e. Rules.polynomial_of-nil elements element_interprets, λ e. refl)
zero-stands (c ∷ p) k = (λ e. cc, λ e. absurd (DivisionRule.polynomial_of-nonzero elements element_interprets (c ∷ p) k (λ (z : c ∷ p ≡ []). cc z) e))

pub degree-stands : (p : List Element) → IsPolynomial p → IsDegree (polynomial p) (poly.degree element p)
degree-stands [] k = Rules.polynomial_of-nil elements element_interprets
degree-stands (c ∷ p) k = Rules.size-polynomial_of elements element_interprets (c ∷ p) k

nonzero-is : (c : Element) (z : Bool) → element.is_zero c ≡ z → IsElement c → meaning c ≡ meaning_or_zero (if z then None else Some c)
nonzero-is c true e v = element_interprets.zero_is c v e
nonzero-is c false e v = refl

coefficient-is : (p : List Element) (k : ℕ) → AllValid IsElement p → meaning (poly.coefficient element p k) ≡ meaning_or_zero (poly.nonzero element (slice_get p k))
coefficient-is [] k all = element_interprets.zero-means
coefficient-is (c ∷ p) zero all = nonzero-is c (element.is_zero c) refl all.0
coefficient-is (c ∷ p) (suc k) all = coefficient-is p k all.1

pub coefficient-stands : (p : List Element) (k : ℕ) → IsPolynomial p → coefficient elements (polynomial p) k ≡ meaning_or_zero (poly.nonzero element (slice_get p k))
coefficient-stands p k is = GcdRule.coefficient-polynomial_of elements element_interprets p k ∙ coefficient-is p k is.all_valid

-- ---- sums, products, multiples
sum-keeps : (p q r : List Element) → IsPolynomial p → IsPolynomial q → poly.sum element p q ≡ Ok r → KeepsPolynomial element elements IsElement meaning r (polynomial p +ₚ polynomial q)
sum-keeps p q r k l e = Rules.sum-polynomial elements element_interprets p q r k.all_valid l.all_valid e

pub sum-is_polynomial : (p q r : List Element) → IsPolynomial p → IsPolynomial q → poly.sum element p q ≡ Ok r → IsPolynomial r
sum-is_polynomial p q r k l e = (sum-keeps p q r k l e).kept

pub sum-stands : (p q r : List Element) → IsPolynomial p → IsPolynomial q → poly.sum element p q ≡ Ok r → polynomial r ≡ polynomial p +ₚ polynomial q
sum-stands p q r k l e = (sum-keeps p q r k l e).means

product-keeps : (p q r : List Element) → IsPolynomial p → IsPolynomial q → poly.product element p q ≡ Ok r → KeepsPolynomial element elements IsElement meaning r (polynomial p *ₚ polynomial q)
product-keeps p q r k l e = Rules.product-polynomial elements element_interprets p q r k.all_valid l.all_valid e

pub product-is_polynomial : (p q r : List Element) → IsPolynomial p → IsPolynomial q → poly.product element p q ≡ Ok r → IsPolynomial r
product-is_polynomial p q r k l e = (product-keeps p q r k l e).kept

pub product-stands : (p q r : List Element) → IsPolynomial p → IsPolynomial q → poly.product element p q ≡ Ok r → polynomial r ≡ polynomial p *ₚ polynomial q
product-stands p q r k l e = (product-keeps p q r k l e).means

scaled-keeps : (c : Element) (p r : List Element) → IsElement c → IsPolynomial p → poly.scaled element c p ≡ Ok r → KeepsPolynomial element elements IsElement meaning r (multiple (meaning c) (polynomial p))
scaled-keeps c p r v k e = Rules.scaled-polynomial elements element_interprets c p r v k.all_valid e

pub scaled-is_polynomial : (c : Element) (p r : List Element) → IsElement c → IsPolynomial p → poly.scaled element c p ≡ Ok r → IsPolynomial r
scaled-is_polynomial c p r v k e = (scaled-keeps c p r v k e).kept

pub scaled-stands : (c : Element) (p r : List Element) → IsElement c → IsPolynomial p → poly.scaled element c p ≡ Ok r → polynomial r ≡ multiple (meaning c) (polynomial p)
scaled-stands c p r v k e = (scaled-keeps c p r v k e).means

pub negatives-is_polynomial : (p r : List Element) → IsPolynomial p → r ≡ poly.negatives element p → IsPolynomial r
negatives-is_polynomial p r k is = subst IsPolynomial (sym is) (Rules.negatives-polynomial elements element_interprets p k).kept

pub negatives-stands : (p r : List Element) → IsPolynomial p → r ≡ poly.negatives element p → polynomial r ≡ negative (polynomial p)
negatives-stands p r k is = ap polynomial is ∙ (Rules.negatives-polynomial elements element_interprets p k).means

-- ---- the derivative and the monic multiple
partial-keeps : (p r : List Element) → IsPolynomial p → poly.partial element p ≡ Ok r → KeepsPolynomial element elements IsElement meaning r (FormalDerivative.formal_derivative elements (polynomial p))
partial-keeps p r k e = let small = k.degree_small in Rules.partial-polynomial elements element_interprets p r (omega (arith, small)) k.all_valid e

pub partial-is_polynomial : (p r : List Element) → IsPolynomial p → poly.partial element p ≡ Ok r → IsPolynomial r
partial-is_polynomial p r k e = (partial-keeps p r k e).kept

pub partial-stands : (p r : List Element) → IsPolynomial p → poly.partial element p ≡ Ok r → IsDerivative (polynomial p) (polynomial r)
partial-stands p r k e = subst (IsDerivative (polynomial p)) (sym (partial-keeps p r k e).means) (FormalDerivative.coefficient-formal_derivative elements (polynomial p))

pub monic-is_polynomial : (p r : List Element) → IsPolynomial p → poly.monic element p ≡ Ok r → IsPolynomial r
monic-is_polynomial p r k e = (GcdRule.monic-polynomial elements element_interprets p r k e).kept

pub monic-stands : (p r : List Element) → IsPolynomial p → poly.monic element p ≡ Ok r → polynomial r ≡ monic_multiple (polynomial p)
monic-stands p r k e = (GcdRule.monic-polynomial elements element_interprets p r k e).means ∙ Gcd.monic-equation elements (polynomial p)

-- ---- division and the common divisor
division-keeps : (p q : List Element) (d : List Element × List Element) → IsPolynomial p → IsPolynomial q → 0 < length q → poly.division element p q ≡ Ok d → KeepsDivision element elements IsElement meaning p q d.0 d.1
division-keeps p q d k l some e = DivisionRule.division-is_division elements element_interprets p q d.0 d.1 k l (not_nil q some) e

pub quotient-is_polynomial : (p q a r : List Element) → IsPolynomial p → IsPolynomial q → 0 < length q → poly.division element p q ≡ Ok (a, r) → IsPolynomial a
quotient-is_polynomial p q a r k l some e = (division-keeps p q (a, r) k l some e).quotient_kept

pub remainder-is_polynomial : (p q a r : List Element) → IsPolynomial p → IsPolynomial q → 0 < length q → poly.division element p q ≡ Ok (a, r) → IsPolynomial r
remainder-is_polynomial p q a r k l some e = (division-keeps p q (a, r) k l some e).remainder_kept

pub division-stands : (p q a r : List Element) → IsPolynomial p → IsPolynomial q → 0 < length q → poly.division element p q ≡ Ok (a, r) → IsDivisionOf p q (a, r)
division-stands p q a r k l some e = (division-keeps p q (a, r) k l some e).is_division

gcd-keeps : (p q g : List Element) → IsPolynomial p → IsPolynomial q → 0 < length p + length q → poly.gcd element p q ≡ Ok g → KeepsGcd element elements IsElement meaning g p q
gcd-keeps p q g k l some e = GcdRule.gcd-is_gcd elements element_interprets p q g k l (not_both_nil p q some) e

pub gcd-is_polynomial : (p q g : List Element) → IsPolynomial p → IsPolynomial q → 0 < length p + length q → poly.gcd element p q ≡ Ok g → IsPolynomial g
gcd-is_polynomial p q g k l some e = (gcd-keeps p q g k l some e).kept

pub gcd-stands : (p q g : List Element) → IsPolynomial p → IsPolynomial q → 0 < length p + length q → poly.gcd element p q ≡ Ok g → IsMonicGcd p q g
gcd-stands p q g k l some e = let x = gcd-keeps p q g k l some e in (x.is_monic, x.is_gcd)

-- ---- the inverse and the equation modulo a polynomial
pub inverse-stands : (b a : List Element) (i : Option (List Element)) → IsPolynomial b → IsPolynomial a → 2 ≤ length a → modular.inverse element b a ≡ Ok i → IsInverseModulo b a i
inverse-stands b a i k l large e = ModularRule.inverse-means elements element_interprets b a i k l large e

pub inverse-is_polynomial : (b a i : List Element) → IsPolynomial b → IsPolynomial a → 2 ≤ length a → modular.inverse element b a ≡ Ok (Some i) → IsPolynomial i
inverse-is_polynomial b a i k l large e = (inverse-stands b a (Some i) k l large e).kept

solve-keeps : (a b c : List Element) (s : Option (List Element × List Element)) → IsPolynomial a → IsPolynomial b → IsPolynomial c → 2 ≤ length a → modular.solve element a b c ≡ Ok s → SolutionMeans element elements IsElement meaning a b c s
solve-keeps a b c s k l j large e = ModularRule.solve-means elements element_interprets a b c s k l j large e

pub solve-stands : (a b c r z : List Element) → IsPolynomial a → IsPolynomial b → IsPolynomial c → 2 ≤ length a → modular.solve element a b c ≡ Ok (Some (r, z)) → IsSolution a b c (r, z)
solve-stands a b c r z k l j large e = solve-keeps a b c (Some (r, z)) k l j large e

pub left_solution-is_polynomial : (a b c r z : List Element) → IsPolynomial a → IsPolynomial b → IsPolynomial c → 2 ≤ length a → modular.solve element a b c ≡ Ok (Some (r, z)) → IsPolynomial r
left_solution-is_polynomial a b c r z k l j large e = (solve-stands a b c r z k l j large e).left_kept

pub right_solution-is_polynomial : (a b c r z : List Element) → IsPolynomial a → IsPolynomial b → IsPolynomial c → 2 ≤ length a → modular.solve element a b c ≡ Ok (Some (r, z)) → IsPolynomial z
right_solution-is_polynomial a b c r z k l j large e = (solve-stands a b c r z k l j large e).right_kept

-- coprime a and b have a solution
pub solution_exists : (a b c : List Element) → IsPolynomial a → IsPolynomial b → IsPolynomial c → 2 ≤ length a → IsCoprime elements (polynomial a) (polynomial b) → modular.solve element a b c ≡ Ok None → ⊥
solution_exists a b c k l j large coprime e = solve-keeps a b c None k l j large e coprime
