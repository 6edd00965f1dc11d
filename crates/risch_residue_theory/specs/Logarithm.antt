-- Sums of logarithms Σ over P(z) = 0 of z·log(s(z)), as data over K and K(t): the logarithms of the square-free parts of a polynomial C in K[z].
use Rattle.std.specs.Prelude.{◌≡◌, ◌⊎◌, ℕ, suc, List, [], ◌∷◌}
use Rattle.risch_ring.specs.CommRing.{Field, Derivation}
use Rattle.risch_univariate.specs.Polynomial.{variable}
use Rattle.risch_univariate.specs.Division.{IsCoprime}
use Rattle.risch_univariate.proofs.Derivation.{derivation}
use Rattle.risch_univariate.proofs.FormalDerivative.{coefficientwise}
use Rattle.risch_fraction_field.specs.FractionDerivation.{fraction_derivation}
use Rattle.risch_fraction_field.specs.DifferentialField.{constant_fraction}
use Rattle.risch_extension.specs.Trace.{trace}
use Rattle.risch_extension.proofs.PolynomialMaps.{map_polynomial-nonzero}
use Rattle.risch_univariate.specs.Polynomial.{Polynomial}
use Rattle.risch_univariate.specs.PolynomialRing.{polynomials}
use Rattle.risch_fraction_field.specs.Fraction.{Fraction}
use Rattle.risch_fraction_field.specs.FractionField.{fractions}
use Rattle.risch_residue_theory.specs.BivariatePolynomial.{lift}

module _ {A : Type 0} (F : Field A) (D : Derivation F.ring) (w : Polynomial F) where
  -- D on K(t) with Dt = w
  abbrev pub ∂ : Derivation (fractions F).ring
  ∂ = fraction_derivation F (derivation F D w)

  -- P in K[z] with constant coefficients, and an argument s in K(t)[z] that is invertible modulo P
  pub record Logarithm : Type 0 where
    pub polynomial : Polynomial F
    pub nonzero : ¬ (polynomial ≡ (polynomials F).zero)
    pub is_constant : coefficientwise F D polynomial ≡ (polynomials F).zero
    pub argument : Polynomial (fractions F)
    pub invertible : IsCoprime (fractions F) argument (lift F polynomial)

  -- the derivative of Σ over P(z) = 0 of z·log(s(z)): the trace over K(t)[z]/(P) of z·D(s)·s⁻¹
  unfoldable pub derivative : Logarithm → Fraction F
  derivative l = trace (fractions F) (lift F l.polynomial) (map_polynomial-nonzero F (fractions F) (constant_fraction F) l.polynomial l.nonzero)
      ((polynomials (fractions F)).mul (variable (fractions F)) ((polynomials (fractions F)).mul (coefficientwise (fractions F) ∂ l.argument) l.invertible.left))

  -- each part but 1 has its logarithm, in the order of the parts; the list begins with the part number i, and its argument satisfies the condition with this number
  abbrev pub AreLogarithmsOf : (ℕ → Logarithm → Type 0) → ℕ → List (Polynomial F) → List Logarithm → Type 0
  AreLogarithmsOf IsArgument i [] [] = Unit
  AreLogarithmsOf IsArgument i [] (l ∷ ls) = ⊥
  AreLogarithmsOf IsArgument i (q ∷ qs) [] = (q ≡ (polynomials F).one) × AreLogarithmsOf IsArgument (suc i) qs []
  AreLogarithmsOf IsArgument i (q ∷ qs) (l ∷ ls) =
      ((q ≡ (polynomials F).one) × AreLogarithmsOf IsArgument (suc i) qs (l ∷ ls)) ⊎ (((l.polynomial ≡ q) × IsArgument i l) × AreLogarithmsOf IsArgument (suc i) qs ls)
