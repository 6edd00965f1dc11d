-- A homomorphism of fields on polynomials: f applied to the coefficients.
use Rattle.risch_ring.specs.CommRing.{Field, RingMap}
use Rattle.risch_ring.proofs.RingMaps.{compose}
use Rattle.risch_univariate.specs.Polynomial.{Polynomial, variable}
use Rattle.risch_univariate.specs.PolynomialRing.{polynomials}
use Rattle.risch_univariate.proofs.Evaluation.{value, constants}

-- Σ f(a_i)·t^i
unfoldable pub map_polynomial : {A B : Type 0} (F : Field A) (G : Field B) → RingMap F.ring G.ring → Polynomial F → Polynomial G
map_polynomial F G f = value F (polynomials G) (compose (constants G) f) (variable G)
