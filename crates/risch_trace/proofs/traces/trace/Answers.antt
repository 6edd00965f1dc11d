use Rattle.std.proofs.Common.{◌≡◌, ◌∙◌, ◌+◌, ◌-◌, ◌<◌, ap, length, arith}
use Rattle.risch_trace.specs.Traces.{trace, trace_from}
use Rattle.risch_trace.proofs.TraceSteps.{trace_from-more, trace_from-stops, trace_from-sum_stops}
use Rattle.risch_trace.proofs.traces.trace.Goals as goal

pub returns-in_err-coefficient : goal.returns-in_err-coefficient
unfolding trace
returns-in_err-coefficient c =
    let d = c.args.modulus.now in
    let left = length d - 1 - c.loop-i.i in
    let some : 0 < left = omega (arith, ap length c.coefficients.ensures.value) in
    let stops = trace_from-stops d c.args.of.now c.in_err-coefficient.field-0.0 c.loop-i.total c.loop-i.i left some c.in_err-coefficient.ensures in
    rw c.loop-i.invariant (grind (arith, stops))

pub returns-in_err-total : goal.returns-in_err-total
unfolding trace
returns-in_err-total c =
    let d = c.args.modulus.now in
    let left = length d - 1 - c.loop-i.i in
    let some : 0 < left = omega (arith, ap length c.coefficients.ensures.value) in
    let stops =
    trace_from-sum_stops d c.args.of.now c.in_err-total.field-0.0 c.loop-i.total c.loop-i.i left c.in_ok-coefficient.coefficient some c.in_ok-coefficient.ensures c.in_err-total.ensures.rule in
    rw c.loop-i.invariant (grind (arith, stops))

pub loop-i-preserved : goal.loop-i-preserved
loop-i-preserved c =
    let d = c.args.modulus.now in
    let u = c.args.of.now in
    let left = length d - 1 - c.loop-i.i in
    let some : 0 < left = omega (arith, ap length c.coefficients.ensures.value) in
    let less : left - 1 ≡ length d - 1 - (c.loop-i.i + 1) = omega arith in
    c.loop-i.invariant ∙ trace_from-more d u c.loop-i.total c.loop-i.i left c.in_ok-coefficient.coefficient c.in_ok-total.total some c.in_ok-coefficient.ensures c.in_ok-total.ensures.rule
    ∙ ap (trace_from d u c.in_ok-total.total (c.loop-i.i + 1)) less
