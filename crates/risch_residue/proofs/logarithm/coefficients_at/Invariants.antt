use Rattle.std.proofs.Common.{◌≡◌, take}
use Rattle.risch_logarithm_rules.specs.Logarithms.{coefficients_at}
use Rattle.risch_residue.proofs.logarithm.coefficients_at.Given as goal

abbrev pub invariant-loop-polynomial : goal.invariant-loop-polynomial
invariant-loop-polynomial l = l.coefficients.items ≡ coefficients_at l.exponent (take l.polynomial-index l.of)
