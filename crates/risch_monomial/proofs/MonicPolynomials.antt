-- Monic polynomials over the elements: the test of 1, their length, and exact quotients.
use Rattle.std.proofs.Common.{◌≡◌, suc, ◌≤◌, ◌<◌, true, false, List, [], ◌∷◌, length, refl, sym, ◌∙◌, ap, arith, pos}
use Rattle.risch_ring.specs.CommRing.{Field, HasCharacteristicZero, of_int}
use Rattle.risch_univariate.specs.Polynomial.{Polynomial}
use Rattle.risch_univariate.specs.PolynomialRing.{polynomials}
use Rattle.risch_univariate.specs.Degree.{size, IsMonic}
use Rattle.risch_univariate.specs.Division.{Divides, IsDivision}
use Rattle.risch_univariate.proofs.Degree as Degree
use Rattle.risch_univariate.proofs.Division as Division
use Rattle.risch_univariate.proofs.Gcd as Gcd
use Rattle.risch_mean.specs.ElementField.{elements}
use Rattle.risch_mean.specs.Element as mean
use Rattle.risch_mean.proofs.IntegerLaws.{integer-is, integer-ne-zero}
use Rattle.risch_polynomial.specs.Poly as poly
use Rattle.risch_level.specs.Levels.{Element, element}
use Rattle.risch_element_theory.specs.ElementMeaning.{TellsOne}
use Rattle.risch_element_theory.specs.WholeTower.{IsElement, IsPolynomial, meaning, polynomial}
use Rattle.risch_element_theory.proofs.ElementPolynomials.{element_interprets}
use Rattle.risch_element_theory.proofs.GcdRule as GcdRule
use Rattle.risch_element_theory.proofs.PolynomialRules as Rules
use Rattle.risch_element_theory.proofs.Levels.{level_tells_one}
use Rattle.risch_monomial.specs.LevelElements.{one}

-- no sum of ones is 0
pub elements_characteristic_zero : HasCharacteristicZero elements.ring
unfolding of_int
elements_characteristic_zero n e = integer-ne-zero (pos (suc n)) (λ (z : pos (suc n) ≡ pos 0). cc z) (integer-is (pos (suc n)) ∙ e)

-- ---- exact quotients
-- the remainder of a multiple is 0: a = q·b
pub exact_quotient : {A : Type 0} (F : Field A) (a b q r : Polynomial F) → ¬ (b ≡ (polynomials F).zero) → Divides F b a → IsDivision F a b q r → a ≡ (polynomials F).mul q b
exact_quotient F a b q r some h d =
    let none = Degree.size-zero F in
    let sized = Degree.size_of_nonzero F b some in
    let by : IsDivision F a b h.cofactor (polynomials F).zero = record { equation = h.equation ∙ sym ((polynomials F).add-zero ((polynomials F).mul h.cofactor b)); smaller = omega (arith, none, sized) } in
    let same = Division.division_unique F a b q r h.cofactor (polynomials F).zero d by in
    h.equation ∙ ap (λ k. (polynomials F).mul k b) (sym same.0)

-- ---- the polynomial 1
tells_one : TellsOne elements element IsElement meaning
unfolding element IsElement meaning
tells_one = level_tells_one 5

pub one-is_polynomial : IsPolynomial one
one-is_polynomial = GcdRule.one-kept elements element_interprets

pub one-stands : polynomial one ≡ (polynomials elements).one
one-stands = GcdRule.polynomial_of-one elements element_interprets

pub size-is : (p : List Element) → IsPolynomial p → size elements (polynomial p) ≡ length p
size-is p k = Rules.size-polynomial_of elements element_interprets p k

-- the polynomial 1 has one coefficient
is_one-length : (p : List Element) → poly.is_one element p ≡ true → length p ≡ 1
is_one-length [] e = cc
is_one-length (c ∷ []) e = omega arith
is_one-length (c ∷ (d ∷ p)) e = cc

pub is_one-stands : (p : List Element) → IsPolynomial p → IsMonic elements (polynomial p) → poly.is_one element p ≡ true → polynomial p ≡ (polynomials elements).one
is_one-stands p k m e =
    let single = is_one-length p e in
    let sized = size-is p k in
    Gcd.one_of_monic elements (polynomial p) m (omega (arith, single, sized))

-- a monic polynomial is not 0
pub monic-some : (p : List Element) → IsMonic elements (polynomial p) → ¬ (p ≡ [])
monic-some p m e = Gcd.monic-nonzero elements (polynomial p) m (ap polynomial e ∙ Rules.polynomial_of-nil elements element_interprets)

pub monic-length : (p : List Element) → IsMonic elements (polynomial p) → 0 < length p
monic-length [] m = absurd (monic-some [] m refl)
monic-length (c ∷ p) m = omega arith

true_false : true ≡ false → ⊥
true_false e = cc

-- a monic polynomial other than 1 has degree at least 1
pub not_one-length : (p : List Element) → IsPolynomial p → IsMonic elements (polynomial p) → poly.is_one element p ≡ false → 2 ≤ length p
not_one-length [] k m e = absurd (monic-some [] m refl)
not_one-length (c ∷ []) k m e =
    let leading : meaning c ≡ mean.one = sym (GcdRule.leading_coefficient-polynomial_of elements element_interprets (c ∷ []) k) ∙ m in
    absurd (true_false (sym (tells_one.one_if c k.all_valid.0 leading) ∙ e))
not_one-length (c ∷ (d ∷ p)) k m e = omega arith
