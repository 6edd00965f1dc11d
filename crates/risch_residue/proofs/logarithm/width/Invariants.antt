use Rattle.std.proofs.Common.{◌≡◌, max, drop}
use Rattle.risch_logarithm_rules.specs.Logarithms.{width}
use Rattle.risch_residue.proofs.logarithm.width.Given as goal

abbrev pub invariant-loop-polynomial : goal.invariant-loop-polynomial
invariant-loop-polynomial l = width l.of ≡ max l.most (width (drop l.polynomial-index l.of))
