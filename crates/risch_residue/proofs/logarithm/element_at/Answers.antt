use Rattle.risch_residue.proofs.LogarithmSteps.{polynomial_at-within}
use Rattle.risch_residue.proofs.logarithm.element_at.Goals as goal

pub of_polynomial-requires-clause-within : goal.of_polynomial-requires-clause-within
of_polynomial-requires-clause-within c = polynomial_at-within c.args.level c.args.exponent c.args.of.now c.in_ok-polynomial.polynomial c.requires.within c.in_ok-polynomial.ensures
