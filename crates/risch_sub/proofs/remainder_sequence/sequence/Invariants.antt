use Rattle.std.proofs.Common.{◌≡◌, ◌-◌, ◌+◌, ◌∷◌, [], length, get_or}
use Rattle.risch_sub.specs.RemainderSequence.{remainders_from}
use Rattle.risch_sub.proofs.remainder_sequence.sequence.Given as goal

abbrev pub invariant-loop-step : goal.invariant-loop-step
invariant-loop-step l = record {
  count : length l.members ≡ l.step + 2;
  so_far : remainders_from l.least (length l.fn.b) (l.fn.d ∷ l.fn.b ∷ []) l.fn.d l.fn.b ≡
      remainders_from l.least (length l.fn.b - l.step) l.members (get_or l.members l.step []) (get_or l.members (l.step + 1) []);
}
