use Rattle.std.proofs.Common.{◌≡◌, ◌-◌, ◌+◌, length}
use Rattle.risch_sub.specs.RemainderSequence.{pseudo_steps}
use Rattle.risch_sub.proofs.remainder_sequence.pseudo_remainder.Given as goal

abbrev pub invariant-loop-step : goal.invariant-loop-step
invariant-loop-step l = pseudo_steps l.by (length l.of + 1 - length l.by) l.of ≡ pseudo_steps l.by (l.steps - l.step) l.rest
