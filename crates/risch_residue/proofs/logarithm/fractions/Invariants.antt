use Rattle.std.proofs.Common.{◌≡◌, take}
use Rattle.risch_logarithm_rules.specs.Logarithms.{fractions_of}
use Rattle.risch_residue.proofs.logarithm.fractions.Given as goal

abbrev pub invariant-loop-coefficient : goal.invariant-loop-coefficient
invariant-loop-coefficient l = l.fractions ≡ fractions_of (take l.coefficient-index l.of)
