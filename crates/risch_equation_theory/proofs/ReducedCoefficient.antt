-- The coefficient b = d·h·f - d·D(h) of the equation for y·h, with d the normal part of the denominator of f: its denominator divides the special part.
use Rattle.std.specs.Prelude.{◌≡◌}
use Rattle.std.proofs.Common.{refl, sym, ap, subst, ◌∙◌}
use Rattle.risch_ring.specs.CommRing.{CommRing, Field, Derivation, power, sub, HasCharacteristicZero}
use Rattle.risch_univariate.specs.Polynomial.{Polynomial, constant, variable}
use Rattle.risch_univariate.specs.Degree.{degree}
use Rattle.risch_univariate.specs.Division.{Divides}
use Rattle.risch_univariate.proofs.Degree as Degree
use Rattle.risch_univariate.proofs.Derivation as Derivation
use Rattle.risch_univariate.proofs.Divides as Divides
use Rattle.risch_univariate.proofs.SplittingFactorization as SplittingFactorizations
use Rattle.risch_fraction_field.specs.Fraction.{Fraction, Represents, of_polynomial, denominator-nonzero}
use Rattle.risch_fraction_field.specs.FractionDerivation.{fraction_derivation, fraction_derivation-polynomial}
use Rattle.risch_equation_theory.proofs.Identities as Identities
use Rattle.risch_equation_theory.proofs.Poles as Poles
use Rattle.risch_equation_theory.proofs.SpecialDenominators as SpecialDenominators
use Rattle.risch_univariate.specs.PolynomialRing.{polynomials}
use Rattle.risch_univariate.specs.SplittingFactorization.{SplittingFactorization}
use Rattle.risch_fraction_field.specs.Representation.{represents-add, represents-mul, represents-neg}
use Rattle.risch_fraction_field.specs.FractionLaws.{represents_same, represents-polynomial}
use Rattle.risch_fraction_field.specs.FractionField.{fractions}
use Rattle.risch_equation_theory.specs.Constants.{IsSoundPrimitive, IsSoundExponential}
use Rattle.risch_equation_theory.specs.NormalDenominator.{reduced_coefficient}

module _ {A : Type 0} (F : Field A) (char : HasCharacteristicZero F.ring) (D : Derivation (polynomials F)) where
  abbrev R : CommRing (Polynomial F)
  R = polynomials F

  abbrev K : Field (Fraction F)
  K = fractions F

  -- for den(f) = d·s it is (num(f)·h - s·d·D(h))/s
  pub represents-reduced_coefficient : (f : Fraction F) (d h s : Polynomial F) → f.denominator ≡ R.mul d s
      → Represents F (reduced_coefficient F D f d h) (sub R (R.mul f.numerator h) (R.mul s (R.mul d (D.derive h)))) s
  represents-reduced_coefficient f d h s e =
      represents_same F (reduced_coefficient F D f d h) (R.add (R.mul (R.mul (R.mul d h) f.numerator) (R.mul R.one R.one)) (R.mul (R.neg (R.mul d (D.derive h))) (R.mul (R.mul R.one R.one) f.denominator)))
      (R.mul (R.mul (R.mul R.one R.one) f.denominator) (R.mul R.one R.one)) _ s
      (Degree.mul_polynomials-nonzero F _ _ (Degree.mul_polynomials-nonzero F _ _ one_one (denominator-nonzero F f)) one_one)
      (represents-add F (K.mul (K.mul (of_polynomial F d) (of_polynomial F h)) f) (K.neg (K.mul (of_polynomial F d) ((fraction_derivation F D).derive (of_polynomial F h)))) _ _ _ _
      (represents-mul F (K.mul (of_polynomial F d) (of_polynomial F h)) f _ _ _ _
      (represents-mul F (of_polynomial F d) (of_polynomial F h) d R.one h R.one (represents-polynomial F d) (represents-polynomial F h)) refl)
      (represents-neg F (K.mul (of_polynomial F d) ((fraction_derivation F D).derive (of_polynomial F h))) _ _
      (represents-mul F (of_polynomial F d) ((fraction_derivation F D).derive (of_polynomial F h)) d R.one (D.derive h) R.one (represents-polynomial F d)
      (subst (λ z. Represents F z (D.derive h) R.one) (sym (fraction_derivation-polynomial F D h)) (represents-polynomial F (D.derive h))))))
      (ap (λ z. R.mul (R.add (R.mul (R.mul (R.mul d h) f.numerator) (R.mul R.one R.one)) (R.mul (R.neg (R.mul d (D.derive h))) (R.mul (R.mul R.one R.one) z))) s) e
      ∙ Identities.coefficient_identity R d h f.numerator s (D.derive h)
      ∙ ap (λ z. R.mul (sub R (R.mul f.numerator h) (R.mul s (R.mul d (D.derive h)))) (R.mul (R.mul (R.mul R.one R.one) z) (R.mul R.one R.one))) (sym e))
    where
      one_one : ¬ (R.mul R.one R.one ≡ R.zero)
      one_one = Degree.mul_polynomials-nonzero F R.one R.one (Degree.one-ne-zero F) (Degree.one-ne-zero F)

  -- so its denominator is special
  pub special_coefficient : (f : Fraction F) (x : SplittingFactorization F D f.denominator) (h : Polynomial F)
      → Divides F (reduced_coefficient F D f x.normal h).denominator (D.derive (reduced_coefficient F D f x.normal h).denominator)
  special_coefficient f x h = SplittingFactorizations.special_of_factors F char D (reduced_coefficient F D f x.normal h).denominator (denominator-nonzero F (reduced_coefficient F D f x.normal h))
      (λ p i m d. x.special_factors p i m (Divides.divides_trans F p _ x.special d
      (Poles.denominator-divides F (reduced_coefficient F D f x.normal h) _ x.special (represents-reduced_coefficient f x.normal h x.special x.equation))))

module _ {A : Type 0} (F : Field A) (char : HasCharacteristicZero F.ring) (D : Derivation F.ring) (η : A) where
  -- Dt = η: b is a polynomial
  pub coefficient-primitive : IsSoundPrimitive F D η → (f : Fraction F) (x : SplittingFactorization F (Derivation.derivation F D (constant F η)) f.denominator) (h : Polynomial F)
      → (reduced_coefficient F (Derivation.derivation F D (constant F η)) f x.normal h).denominator ≡ (polynomials F).one
  coefficient-primitive sound f x h =
      SpecialDenominators.special_is_one F char D η sound _ (reduced_coefficient F (Derivation.derivation F D (constant F η)) f x.normal h).is_monic
      (special_coefficient F char (Derivation.derivation F D (constant F η)) f x h)

  -- Dt = η·t: its denominator is a power of t
  pub coefficient-exponential : IsSoundExponential F D η → (f : Fraction F) (x : SplittingFactorization F (Derivation.derivation F D ((polynomials F).mul (constant F η) (variable F))) f.denominator)
      (h : Polynomial F)
      → (reduced_coefficient F (Derivation.derivation F D ((polynomials F).mul (constant F η) (variable F))) f x.normal h).denominator
      ≡ power (polynomials F) (variable F) (degree F (reduced_coefficient F (Derivation.derivation F D ((polynomials F).mul (constant F η) (variable F))) f x.normal h).denominator)
  coefficient-exponential sound f x h =
      SpecialDenominators.special_is_power F char D η sound _ (reduced_coefficient F (Derivation.derivation F D ((polynomials F).mul (constant F η) (variable F))) f x.normal h).is_monic
      (special_coefficient F char (Derivation.derivation F D ((polynomials F).mul (constant F η) (variable F))) f x h)
