-- Polynomials in t over K[z], given by their coefficients in K[z]: as polynomials in t over K(z), as polynomials in z over K(t), and their content.
use Rattle.std.specs.Prelude.{ℕ, List, [], ◌∷◌, get_or, map}
use Rattle.risch_ring.specs.CommRing.{Field}
use Rattle.risch_univariate.specs.Polynomial.{of_list, constant, variable}
use Rattle.risch_univariate.proofs.Gcd.{gcd}
use Rattle.risch_fraction_field.specs.DifferentialField.{constant_fraction}
use Rattle.risch_extension.specs.PolynomialMap.{map_polynomial}
use Rattle.risch_univariate.specs.Polynomial.{Polynomial}
use Rattle.risch_univariate.specs.PolynomialRing.{polynomials}
use Rattle.risch_fraction_field.specs.Fraction.{of_polynomial}
use Rattle.risch_fraction_field.specs.FractionField.{fractions}

module _ {A : Type 0} (F : Field A) where
  -- p in K[t] over K(z), and p in K[z] over K(t)
  abbrev pub lift : Polynomial F → Polynomial (fractions F)
  lift = map_polynomial F (fractions F) (constant_fraction F)

  -- Σ c_i·t^i over K(z)
  unfoldable pub bivariate : List (Polynomial F) → Polynomial (fractions F)
  bivariate cs = of_list (fractions F) (map (of_polynomial F) cs)

  -- c_i, the coefficient of t^i in K[z]
  abbrev pub coefficient_at : List (Polynomial F) → ℕ → Polynomial F
  coefficient_at cs i = get_or cs i (polynomials F).zero

  -- Σ c_i(z)·t^i as a polynomial in z over K(t)
  unfoldable pub by_powers : List (Polynomial F) → Polynomial (fractions F)
  by_powers [] = (polynomials (fractions F)).zero
  by_powers (c ∷ cs) = (polynomials (fractions F)).add (lift c) ((polynomials (fractions F)).mul (constant (fractions F) (of_polynomial F (variable F))) (by_powers cs))

  -- the gcd of the coefficients
  unfoldable pub content : List (Polynomial F) → Polynomial F
  content [] = (polynomials F).zero
  content (c ∷ cs) = gcd F c (content cs)

  -- a - z·e over K(z)
  unfoldable pub residue_polynomial : (a e : Polynomial F) → Polynomial (fractions F)
  residue_polynomial a e =
      (polynomials (fractions F)).add (lift a) ((polynomials (fractions F)).mul (constant (fractions F) (of_polynomial F ((polynomials F).neg (variable F)))) (lift e))
