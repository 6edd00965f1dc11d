use Rattle.std.proofs.Common.{arith}
use Rattle.risch_residue.proofs.PartSteps.{parts_end, passed_over, argument_stops, logarithm_stops, logarithms_kept}
use Rattle.risch_residue.proofs.logarithms.logarithms_of_parts.Goals as goal

pub loop-place-preserved : goal.loop-place-preserved
loop-place-preserved c = record {
  so_far = logarithms_kept _ _ _ _ _ _ _ _ c.loop-place.invariant.so_far c.loop-place-test.true c.index-parts-place.is c.is_one.ensures c.if-is_one.false
      c.in_ok-argument.ensures.rule (omega arith) c.as_slice.ensures c.in_ok-next.ensures c.in_ok-push.ensures.ok;
  kept = c.in_ok-argument.ensures.members;
}

pub loop-place-preserved-then-is_one : goal.loop-place-preserved-then-is_one
loop-place-preserved-then-is_one c = record {
  so_far = passed_over _ _ _ _ _ _ _ _ c.loop-place.invariant.so_far c.loop-place-test.true c.index-parts-place.is c.is_one.ensures c.if-is_one.true;
  kept = c.loop-place.invariant.kept;
}

pub returns-in_err-argument : goal.returns-in_err-argument
returns-in_err-argument c =
    argument_stops _ _ _ _ _ _ _ _ c.loop-place.invariant.so_far c.loop-place-test.true c.index-parts-place.is c.is_one.ensures c.if-is_one.false
    c.in_err-argument.field-0.0 c.from_residual.result c.in_err-argument.ensures.rule (omega arith) c.from_residual.ensures.1

pub returns-in_err-next : goal.returns-in_err-next
returns-in_err-next c =
    logarithm_stops _ _ _ _ _ _ _ _ c.loop-place.invariant.so_far c.loop-place-test.true c.index-parts-place.is c.is_one.ensures c.if-is_one.false
    c.in_ok-argument.ensures.rule (omega arith) c.as_slice.ensures
    c.in_err-next.field-0.0 c.from_residual-in_err-next.result c.in_err-next.ensures c.from_residual-in_err-next.ensures.1

pub returns : goal.returns
returns c = parts_end _ _ _ _ _ _ _ _ c.loop-place.invariant.so_far c.loop-place-test.false
