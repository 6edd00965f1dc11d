use Rattle.std.proofs.Common.{◌≡◌, ◌-◌, length, take}
use Rattle.risch_sub.specs.RemainderSequence.{trimmed}
use Rattle.risch_sub.proofs.members.trimmed_length.Given as goal

abbrev pub invariant-loop-step : goal.invariant-loop-step
invariant-loop-step l = trimmed l.member ≡ trimmed (take (length l.member - l.step) l.member)
