use Rattle.risch_polynomial_theory.proofs.Derivatives.{derivative-means}
use Rattle.risch_polynomial_theory.proofs.derivative_by_x_is_that_of_a_tower.Goals as goal

pub returns : goal.returns
returns c = derivative-means
