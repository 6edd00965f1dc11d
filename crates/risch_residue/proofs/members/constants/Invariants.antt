use Rattle.std.proofs.Common.{◌≡◌, map, take}
use Rattle.risch_logarithm_rules.specs.Logarithms.{constant_in_z}
use Rattle.risch_residue.proofs.members.constants.Given as goal

abbrev pub invariant-loop-coefficient : goal.invariant-loop-coefficient
invariant-loop-coefficient l = l.member ≡ map constant_in_z (take l.coefficient-index l.of)
