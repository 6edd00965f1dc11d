use Rattle.std.proofs.Common.{length, arith, length-append, ◌∷◌, []}
use Rattle.risch_sub.specs.RemainderSequence.{remainders}
use Rattle.risch_sub.proofs.RemainderSteps.{sequence_stops, sequence_ends, sequence_kept}
use Rattle.risch_sub.proofs.remainder_sequence.sequence.Goals as goal

pub returns-in_err-next : goal.returns-in_err-next
unfolding remainders
returns-in_err-next c =
    sequence_stops c.args.least (length c.args.b) c.loop-step.step c.loop-step.members c.loop-step.invariant.so_far (omega arith) c.as_slice.ensures c.in_err-next.field-0.0 c.from_residual-in_err-next.result c.in_err-next.ensures c.from_residual-in_err-next.ensures.1

pub returns-in-None : goal.returns-in-None
unfolding remainders
returns-in-None c = sequence_ends c.args.least (length c.args.b) c.loop-step.step c.loop-step.members c.loop-step.invariant.so_far (omega arith) c.as_slice.ensures (rw c.in-None.is at c.in_ok-next.ensures)

pub loop-step-preserved : goal.loop-step-preserved
loop-step-preserved c = record {
  count = rw c.in_ok-push-in-Some.ensures.ok (omega (arith, length-append c.loop-step.members (c.in-Some.next ∷ []), c.loop-step.invariant.count));
  so_far = sequence_kept c.args.least (length c.args.b) c.loop-step.step c.loop-step.members c.loop-step.invariant.so_far (omega arith) c.as_slice.ensures c.loop-step.invariant.count (rw c.in-Some.is at c.in_ok-next.ensures) c.in_ok-push-in-Some.ensures.ok;
}
