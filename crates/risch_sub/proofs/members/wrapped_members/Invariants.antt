use Rattle.std.proofs.Common.{◌≡◌}
use Rattle.risch_sub.proofs.members.wrapped_members.Given as goal

abbrev pub invariant-loop-member : goal.invariant-loop-member
invariant-loop-member l = l.to ≡ l.yielded
