-- The trace over K of an element of K[z]/(P).
use Rattle.std.specs.Prelude.{◌≡◌}
use Rattle.risch_ring.specs.CommRing.{Field, power}
use Rattle.risch_ring.specs.Sums.{sum_below}
use Rattle.risch_univariate.specs.Polynomial.{Polynomial, variable, coefficient}
use Rattle.risch_univariate.specs.PolynomialRing.{polynomials}
use Rattle.risch_univariate.specs.Degree.{degree}
use Rattle.risch_univariate.proofs.Division.{divide}

-- Σ over i < deg P of the coefficient of z^i in (z^i·u) rem P
unfoldable pub trace : {A : Type 0} (F : Field A) (P : Polynomial F) → ¬ (P ≡ (polynomials F).zero) → Polynomial F → A
trace F P n u = sum_below F.ring (λ i. coefficient F (divide F P n ((polynomials F).mul (power (polynomials F) (variable F) i) u)).remainder i) (degree F P)
