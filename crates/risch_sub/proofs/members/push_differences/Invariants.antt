use Rattle.std.proofs.Common.{◌≡◌, drop}
use Rattle.risch_sub.specs.RemainderSequence.{differences_onto}
use Rattle.risch_sub.proofs.members.push_differences.Given as goal

abbrev pub invariant-loop-i : goal.invariant-loop-i
invariant-loop-i l = differences_onto l.fn.to.items l.left l.right ≡ differences_onto l.to.items (drop l.i l.left) (drop l.i l.right)
