use Rattle.std.proofs.Common.{◌≡◌}
use Rattle.risch_sub.proofs.polynomials.wrapped.Given as goal

abbrev pub invariant-loop-inner : goal.invariant-loop-inner
invariant-loop-inner l = l.to ≡ l.yielded
