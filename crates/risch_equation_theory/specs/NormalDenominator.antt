-- The normal part of the denominators of the solutions of Dy + f·y = g, and the equation for y·h.
use Rattle.std.specs.Prelude.{ℕ, suc, ◌+◌}
use Rattle.risch_ring.specs.CommRing.{sub}
use Rattle.risch_ring.specs.CommRing.{Field, Derivation}
use Rattle.risch_univariate.specs.Polynomial.{Polynomial}
use Rattle.risch_univariate.specs.PolynomialRing.{polynomials}
use Rattle.risch_fraction_field.specs.Fraction.{Fraction, of_polynomial}
use Rattle.risch_fraction_field.specs.FractionField.{fractions}
use Rattle.risch_fraction_field.specs.FractionDerivation.{fraction_derivation}
use Rattle.risch_univariate.specs.Division.{IsIrreducible, IsMultiplicity}
use Rattle.risch_univariate.specs.PolynomialOperators.{polynomial_operators}

module _ {A : Type 0} (F : Field A) where
  open (polynomial_operators F) use {◌^◌, ◌∣◌}

  -- h takes away the poles that a solution can have, where d is the normal part of the denominator of f and e a multiple of that of g
  pub record IsNormalDenominator (d e h : Polynomial F) : Type 0 where
    -- f has a pole of order k + 1 at p
    pub at_pole : (p : Polynomial F) → IsIrreducible F p → (k s : ℕ) → IsMultiplicity F p d (suc k) → p ^ (suc k + s) ∣ e → p ^ s ∣ h
    -- f has no pole at p
    pub elsewhere : (p : Polynomial F) → IsIrreducible F p → (s : ℕ) → ¬ (p ∣ d) → p ^ (1 + s) ∣ e → p ^ s ∣ h

  -- b = d·h·f - d·D(h): y·h solves d·h·D(q) + b·q = d·h²·g
  abbrev pub reduced_coefficient : Derivation (polynomials F) → (f : Fraction F) (d h : Polynomial F) → Fraction F
  reduced_coefficient D f d h =
      sub (fractions F).ring ((fractions F).mul ((fractions F).mul (of_polynomial F d) (of_polynomial F h)) f)
      ((fractions F).mul (of_polynomial F d) ((fraction_derivation F D).derive (of_polynomial F h)))
