use Rattle.std.proofs.Common.{◌≡◌, ◌++◌, drop}
use Rattle.risch_logarithm_rules.specs.Logarithms.{differences_in_z}
use Rattle.risch_residue.proofs.members.differences.Given as goal

abbrev pub invariant-loop-j : goal.invariant-loop-j
invariant-loop-j l = differences_in_z l.left l.right ≡ l.member.items ++ differences_in_z (drop l.j l.left) (drop l.j l.right)
