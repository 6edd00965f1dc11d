use Rattle.risch_polynomial_theory.proofs.FractionValues.{ground_means}
use Rattle.risch_polynomial_theory.proofs.fractions_stand_for_numbers.Goals as goal

pub returns : goal.returns
returns c = ground_means
