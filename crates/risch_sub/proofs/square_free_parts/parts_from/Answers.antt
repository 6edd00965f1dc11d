use Rattle.risch_sub.proofs.SquareFreeSteps.{parts_end, parts_done, parts_kept, gcd_stops, part_stops, rest_stops}
use Rattle.risch_sub.proofs.square_free_parts.parts_from.Goals as goal

pub returns-then-is_one : goal.returns-then-is_one
returns-then-is_one c = parts_done _ _ _ _ _ c.loop-step.invariant c.is_one.ensures c.if-is_one.true

pub returns-in_err-y : goal.returns-in_err-y
returns-in_err-y c =
    gcd_stops _ _ _ _ _ c.loop-step.invariant c.loop-step-test.true c.is_one.ensures c.if-is_one.false c.in_err-y.field-0.0 c.from_residual.result c.in_err-y.ensures c.from_residual.ensures.1

pub returns-in_err-part : goal.returns-in_err-part
returns-in_err-part c =
    part_stops _ _ _ _ _ c.loop-step.invariant c.loop-step-test.true c.is_one.ensures c.if-is_one.false c.in_ok-y.ensures
    c.in_err-part.field-0.0 c.from_residual-in_err-part.result c.in_err-part.ensures c.from_residual-in_err-part.ensures.1

pub returns-in_err-c : goal.returns-in_err-c
returns-in_err-c c =
    rest_stops _ _ _ _ _ c.loop-step.invariant c.loop-step-test.true c.is_one.ensures c.if-is_one.false c.in_ok-y.ensures c.in_ok-part.ensures
    c.in_err-c.field-0.0 c.from_residual-in_err-c.result c.in_err-c.ensures c.from_residual-in_err-c.ensures.1

pub loop-step-preserved : goal.loop-step-preserved
loop-step-preserved c =
    parts_kept _ _ _ _ _ c.loop-step.invariant c.loop-step-test.true c.is_one.ensures c.if-is_one.false c.in_ok-y.ensures c.in_ok-part.ensures c.in_ok-c.ensures c.in_ok-push.ensures.ok

pub returns : goal.returns
returns c = parts_end _ _ _ _ _ c.loop-step.invariant c.loop-step-test.false
