-- What the kept data of a polynomial says.
use Rattle.std.specs.Prelude.{◌≡◌, ℕ, ◌≤◌, List, length}
use Rattle.risch_field.specs.Ops.{Ops}
use Rattle.risch_polynomial.specs.Poly as poly

-- the coefficients are those of a polynomial within the limits, and this is its weight
pub record IsPolynomial {E : Type 0} (o : Ops E) (p : List E) (weight : ℕ) : Type 0 where
  pub ends_not_zero : poly.trimmed o p ≡ p
  pub weight_is : weight ≡ poly.weight o p
  pub weight_small : weight ≤ 65536
  pub degree_small : length p ≤ 256
