use Rattle.risch_sub.proofs.PowerTraceSteps.{traces_kept, power_stops, trace_stops}
use Rattle.risch_sub.proofs.power_traces.further_traces.Goals as goal

pub returns-in_err-power : goal.returns-in_err-power
returns-in_err-power c = power_stops _ _ _ _ _ _ c.loop-step-test.true c.loop-step.invariant c.in_err-power.field-0.0 c.from_residual.result c.in_err-power.ensures c.from_residual.ensures.1

pub returns-in_err-value : goal.returns-in_err-value
returns-in_err-value c =
    trace_stops _ _ _ _ _ _ c.loop-step-test.true c.loop-step.invariant c.in_err-value.field-0.0 c.from_residual-in_err-value.result c.in_ok-power.ensures c.in_err-value.ensures c.from_residual-in_err-value.ensures.1

pub loop-step-preserved : goal.loop-step-preserved
loop-step-preserved c = traces_kept _ _ _ _ _ _ c.loop-step-test.true c.loop-step.invariant c.in_ok-power.ensures c.in_ok-value.ensures c.in_ok-push.ensures.ok
