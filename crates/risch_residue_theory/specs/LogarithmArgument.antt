-- The argument of the logarithm of the square-free part P_k: d where k = deg d, else the member of degree k of a primitive remainder sequence of d and a - z·D(d), monic modulo P_k.
use Rattle.std.specs.Prelude.{◌≡◌, ◌⊎◌, ℕ, suc, ◌≤◌, ◌<◌, List}
use Rattle.risch_ring.specs.CommRing.{Field, Derivation, sub}
use Rattle.risch_ring.specs.Lists.{Member}
use Rattle.risch_univariate.specs.Polynomial.{constant}
use Rattle.risch_univariate.specs.Degree.{size}
use Rattle.risch_univariate.specs.Division.{Divides}
use Rattle.risch_univariate.specs.Polynomial.{Polynomial}
use Rattle.risch_univariate.specs.PolynomialRing.{polynomials}
use Rattle.risch_fraction_field.specs.Fraction.{of_polynomial}
use Rattle.risch_fraction_field.specs.FractionField.{fractions}
use Rattle.risch_residue_theory.specs.BivariatePolynomial.{bivariate, coefficient_at, by_powers}
use Rattle.risch_residue_theory.specs.Logarithm.{Logarithm}

module _ {A : Type 0} (F : Field A) (D : Derivation F.ring) (w d : Polynomial F) (n : ℕ) (css : List (List (Polynomial F))) where
  -- s is congruent modulo P to the member c of degree k times the inverse of its leading coefficient c_k
  pub record IsMonicMember (k : ℕ) (P : Polynomial F) (s : List (Polynomial F)) : Type 0 where
    pub coefficients : List (Polynomial F)
    pub among : Member coefficients css
    pub same_size : size (fractions F) (bivariate F coefficients) ≡ suc k
    pub inverse : Polynomial F
    pub inverse-equation : Divides F P (sub (polynomials F) ((polynomials F).mul inverse (coefficient_at F coefficients k)) (polynomials F).one)
    pub congruent : (j : ℕ) → Divides F P (sub (polynomials F) (coefficient_at F s j) ((polynomials F).mul inverse (coefficient_at F coefficients j)))

  -- n - 1 ≤ k < deg d, and the argument is the member of degree k, monic modulo P_k
  pub record IsMemberArgument (k : ℕ) (l : Logarithm F D w) : Type 0 where
    pub wanted : n ≤ suc k
    pub below : suc k < size F d
    pub coefficients : List (Polynomial F)
    pub is_member : IsMonicMember k l.polynomial coefficients
    pub equation : l.argument ≡ by_powers F coefficients

  -- the argument of the logarithm for the part with number k
  abbrev pub IsArgument : ℕ → Logarithm F D w → Type 0
  IsArgument k l = ((size F d ≡ suc k) × (l.argument ≡ constant (fractions F) (of_polynomial F d))) ⊎ IsMemberArgument k l
