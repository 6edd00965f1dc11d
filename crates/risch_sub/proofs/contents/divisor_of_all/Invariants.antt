use Rattle.std.proofs.Common.{◌≡◌, ◌-◌, length, take}
use Rattle.risch_sub.specs.RemainderSequence.{divisor_of_all}
use Rattle.risch_sub.proofs.contents.divisor_of_all.Given as goal

abbrev pub invariant-loop-step : goal.invariant-loop-step
invariant-loop-step l = divisor_of_all l.of l.fn.divisor ≡ divisor_of_all (take (length l.of - l.step) l.of) l.divisor
