-- The premises on the constants of K(t): an element of K(t) with derivative 0 lies in K, and what that means for Dt = η and for Dt = η·t.
use Rattle.std.specs.Prelude.{◌≡◌, ℕ, suc}
use Rattle.risch_ring.specs.CommRing.{of_nat}
use Rattle.risch_ring.specs.CommRing.{Field, Derivation}
use Rattle.risch_univariate.specs.PolynomialRing.{polynomials}
use Rattle.risch_univariate.specs.Polynomial.{constant}
use Rattle.risch_fraction_field.specs.Fraction.{Fraction, of_polynomial}
use Rattle.risch_fraction_field.specs.FractionField.{fractions}
use Rattle.risch_fraction_field.specs.FractionDerivation.{fraction_derivation}

-- Dt = η: t - u is no constant, for u in K
pub record IsSoundPrimitive {A : Type 0} (F : Field A) (D : Derivation F.ring) (η : A) : Type 0 where
  pub no_integral : (u : A) → ¬ (D.derive u ≡ η)

-- Dt = η·t: y/t^j is no constant, for y ≠ 0 in K and j > 0
pub record IsSoundExponential {A : Type 0} (F : Field A) (D : Derivation F.ring) (η : A) : Type 0 where
  pub no_power : (y : A) (j : ℕ) → ¬ (y ≡ F.zero) → ¬ (D.derive y ≡ F.mul (F.mul (of_nat F.ring (suc j)) η) y)

module _ {A : Type 0} (F : Field A) where
  -- f lies in K
  pub record IsConstantFraction (f : Fraction F) : Type 0 where
    pub value : A
    pub equation : f ≡ of_polynomial F (constant F value)

  -- each element of K(t) with derivative 0 lies in K
  abbrev pub HasConstantsBelow : Derivation (polynomials F) → Type 0
  HasConstantsBelow D = (f : Fraction F) → (fraction_derivation F D).derive f ≡ (fractions F).zero → IsConstantFraction f
