use Rattle.std.proofs.Common.{◌≡◌, ◌++◌, [], replicate}
use Rattle.risch_sub.proofs.members.push_zeros.Given as goal

abbrev pub invariant-loop-i : goal.invariant-loop-i
invariant-loop-i l = l.to.items ≡ l.fn.to.items ++ replicate l._i []
