-- Values of polynomials in K, and products of linear factors.
use Rattle.std.specs.Prelude.{List, [], ◌∷◌}
use Rattle.risch_ring.specs.CommRing.{Field}
use Rattle.risch_ring.proofs.RingMaps.{identity_map}
use Rattle.risch_univariate.specs.Polynomial.{Polynomial}
use Rattle.risch_univariate.specs.PolynomialRing.{polynomials, horner}
use Rattle.risch_univariate.proofs.Evaluation.{value}

module _ {A : Type 0} (F : Field A) where
  -- p(x)
  abbrev pub value_at : A → Polynomial F → A
  value_at x = value F F.ring (identity_map F.ring) x

  -- t - x
  abbrev pub linear : A → Polynomial F
  linear x = horner F (F.neg x) (polynomials F).one

  -- Π (t - x)
  unfoldable pub product_of_linear : List A → Polynomial F
  product_of_linear [] = (polynomials F).one
  product_of_linear (x ∷ xs) = (polynomials F).mul (linear x) (product_of_linear xs)
