-- What the square-free parts p_1, p_2, … of p = p_1·p_2²·p_3³·… are.
use Rattle.std.specs.Prelude.{ℕ, suc, List, [], ◌∷◌}
use Rattle.risch_ring.specs.CommRing.{Field, power}
use Rattle.risch_ring.specs.Lists.{Each}
use Rattle.risch_univariate.specs.Polynomial.{Polynomial}
use Rattle.risch_univariate.specs.PolynomialRing.{polynomials}
use Rattle.risch_univariate.specs.Degree.{IsMonic}
use Rattle.risch_univariate.specs.Division.{IsCoprime, IsSquareFree}

module _ {A : Type 0} (F : Field A) where
  -- q_i^i·q_(i+1)^(i+1)·…
  unfoldable pub product_of_powers : ℕ → List (Polynomial F) → Polynomial F
  product_of_powers i [] = (polynomials F).one
  product_of_powers i (q ∷ qs) = (polynomials F).mul (power (polynomials F) q i) (product_of_powers (suc i) qs)

  -- each member is monic, square-free and coprime with the later ones
  abbrev pub AreParts : List (Polynomial F) → Type 0
  AreParts [] = Unit
  AreParts (q ∷ qs) = IsMonic F q × IsSquareFree F q × Each (IsCoprime F q) qs × AreParts qs
