-- What is known of a logarithm over a level by its coefficients: R over the elements, its degree, the residue where R = z - c, and where the coefficients lie.
use Rattle.std.specs.Prelude.{nat_eq}
use Rattle.std.proofs.Common.{◌≡◌, refl, sym, ap, subst, ◌∙◌, ℕ, zero, suc, ◌-◌, ◌≤◌, true, false, List, [], ◌∷◌, map, take, length, arith}
use Rattle.std.proofs.lemmas.Bool.{true≢false}
use Rattle.std.proofs.lemmas.Bool.Decides.{nat_tests}
use native.Mathlib.Decide.{dec_le}
use Rattle.risch_ring.proofs.Laws as Laws
use Rattle.risch_univariate.specs.Polynomial.{Polynomial, of_list, one_polynomial}
use Rattle.risch_univariate.specs.PolynomialRing.{polynomials, horner}
use Rattle.risch_univariate.specs.Division.{IsCoprime}
use Rattle.risch_univariate.proofs.FormalDerivative.{formal_derivative, coefficient-formal_derivative}
use Rattle.risch_extension.specs.LinearFactors.{linear}
use Rattle.risch_frac.specs.Fraction as fraction
use Rattle.risch_frac.specs.Fraction.{Fraction, IsLowest}
use Rattle.risch_field.specs.Ground.{ground}
use Rattle.risch_polynomial.specs.Poly as poly
use Rattle.risch_polynomial_theory.specs.Meaning.{AllValid}
use Rattle.risch_polynomial_theory.specs.FractionMeaning.{fraction_meaning}
use Rattle.risch_polynomial_theory.proofs.FractionValues.{ground_means, fraction-rational, fractions-rational}
use Rattle.risch_polynomial_theory.proofs.PolynomialValues as Values
use Rattle.risch_level.specs.Levels.{Element}
use Rattle.risch_mean.specs.Element as mean
use Rattle.risch_mean.specs.Element.{InField, AllInField}
use Rattle.risch_mean.specs.ElementField.{elements}
use Rattle.risch_mean.specs.Constants.{IsRational, AllRational}
use Rattle.risch_mean.specs.ElementPolynomials.{derivative_of_modulus, IsInvertibleModulo}
use Rattle.risch_mean.proofs.FieldClosure.{InField_more}
use Rattle.risch_element_theory.specs.WholeTower.{IsElement, meaning, polynomial, AllWithin}
use Rattle.risch_element_theory.proofs.CoefficientProperties as Properties
use Rattle.risch_element_theory.proofs.ElementDerivation.{element-lies}
use Rattle.risch_element_theory.proofs.ElementParts.{number-is_element}
use Rattle.risch_element_theory.proofs.ElementPolynomials.{element_interprets}
use Rattle.risch_element_theory.proofs.ElementsTranscendence.{of_list-cons}
use Rattle.risch_element_theory.proofs.PolynomialsWithin.{within-closed}
use Rattle.risch_trace.proofs.Remainders.{modulus_of}
use Rattle.risch_trace.proofs.TraceRules.{polynomial-modulus}
use Rattle.risch_rootsum.specs.Algebra.{IsModulus, modulus}
use Rattle.risch_rootsum.specs.AlgebraMeaning.{below as coefficients_below}
use Rattle.risch_rootsum.specs.Derivative.{is_linear, factor, argument}
use Rattle.risch_rootsum.specs.declared.integral.LogPart.{LogPart}
use Rattle.risch_rootsum.proofs.AlgebraRules.{modulus-is_monic, some-below, length-below}
use Rattle.risch_rootsum.proofs.Invertibles as Invertibles
use Rattle.risch_rootsum.proofs.LogDerivatives.{linear_of_length}

-- ---- R
modulus-valid : (R : List Fraction) → AllValid IsLowest R → AllValid IsElement (modulus R)
modulus-valid [] all = tt
modulus-valid (q ∷ R) all = (number-is_element q all.0, modulus-valid R all.1)

-- R over the elements is the monic polynomial with these coefficients below the leading one
pub polynomial-R : (R : List Fraction) → IsModulus R → AllValid IsLowest R → polynomial (modulus R) ≡ modulus_of elements (coefficients_below R)
polynomial-R R h all = polynomial-modulus (modulus R) (coefficients_below R) (modulus-is_monic R h (modulus-valid R all))

taken-valid : (n : ℕ) (R : List Fraction) → AllValid IsLowest R → AllValid IsLowest (take n R)
taken-valid zero R all = tt
taken-valid (suc n) [] all = tt
taken-valid (suc n) (q ∷ R) all = (all.0, taken-valid n R all.1)

-- its coefficients are rational
pub rational-R : (R : List Fraction) → AllValid IsLowest R → AllRational (coefficients_below R)
rational-R R all = fractions-rational (poly.front ground R) (taken-valid (length R - 1) R all)

-- its degree is at least 2 where it is not linear
pub degree-not_linear : (l : LogPart) → IsModulus l.poly → is_linear l ≡ false → 2 ≤ length (coefficients_below l.poly)
degree-not_linear l h e = by (dec_le 3 (length l.poly))
  where
    by : Dec (3 ≤ length l.poly) → 2 ≤ length (coefficients_below l.poly)
    by (yes k) = omega (arith, k, length-below l.poly)
    by (no k) = let two = h.some in absurd (true≢false (sym (linear_of_length l (length l.poly) refl (omega (arith, two))) ∙ e))

by_test : (n : ℕ) → nat_eq n 2 ≡ true → n ≡ 2
by_test n e = grind (arith, nat_tests)

pub length-linear : (l : LogPart) → is_linear l ≡ true → length l.poly ≡ 2
length-linear l e = by_test (length l.poly) e

-- z - c
of_list-linear : (b : mean.Element) → of_list elements (b ∷ mean.one ∷ []) ≡ linear elements (mean.neg b)
unfolding polynomials one_polynomial
of_list-linear b = of_list-cons elements b (mean.one ∷ []) ∙ ap (λ c. horner elements c (polynomials elements).one) (sym (Laws.neg-neg elements.ring b))

-- R = z - C
pub linear-R : (R : List Fraction) → length R ≡ 2 → AllValid IsLowest R → modulus_of elements (coefficients_below R) ≡ linear elements (fraction_meaning (fraction.negative (poly.coefficient ground R 0)))
linear-R [] e all = absurd (omega arith)
linear-R (p ∷ []) e all = absurd (omega arith)
linear-R (p ∷ q ∷ []) e all = of_list-linear (fraction_meaning p) ∙ ap (linear elements) (sym (ground_means.negative-means p all.0))
linear-R (p ∷ q ∷ s ∷ R) e all = absurd (omega arith)

-- C is rational
pub rational-factor : (l : LogPart) → AllValid IsLowest l.poly → IsRational (fraction_meaning (factor l))
rational-factor l all = fraction-rational (factor l) (ground_means.negative-valid (poly.coefficient ground l.poly 0) (Values.coefficient-valid ground_means l.poly 0 all))

-- R' is invertible modulo R where it is coprime to R
pub separable-R : (R : List Fraction) → IsModulus R → (p : Polynomial elements) → p ≡ modulus_of elements (coefficients_below R) → IsCoprime elements p (formal_derivative elements p)
    → IsInvertibleModulo (coefficients_below R) (derivative_of_modulus (coefficients_below R))
separable-R R h p e c =
    let r = coefficients_below R in
    let M = modulus_of elements r in
    let d : IsCoprime elements M (formal_derivative elements M) = subst (λ x. IsCoprime elements x (formal_derivative elements x)) e c in
    Invertibles.invertible_of_coprime elements r (some-below R h) (derivative_of_modulus r)
    (subst (IsCoprime elements M) (Invertibles.derivative_is elements r (formal_derivative elements M) (λ i. coefficient-formal_derivative elements M i)) d)

-- ---- S
-- its coefficients lie in the field of the variables that occur
pub all-lie : (n m : ℕ) → n ≤ m → (s : List Element) → AllValid IsElement s → AllWithin n s → AllInField m (map meaning s)
all-lie n m le [] all within = tt
all-lie n m le (c ∷ s) all within = (InField_more n m (meaning c) le (element-lies n c all.0 within.0), all-lie n m le s all.1 within.1)

-- so does U
pub argument-lies : (n m : ℕ) → n ≤ m → (l : LogPart) → AllValid IsElement l.arg → AllWithin n l.arg → InField m (meaning (argument l))
argument-lies n m le l all within =
    InField_more n m (meaning (argument l)) le (element-lies n (argument l) (Values.coefficient-valid element_interprets l.arg 0 all) (Properties.coefficient-keeps (within-closed n) l.arg 0 within))
