use Rattle.std.proofs.Common.{◌≡◌, ◌<◌, ◌≤◌, ◌+◌, ◌++◌, replicate, length, arith, ap}
use Rattle.risch_level.specs.Levels.{element}
use Rattle.risch_trace.proofs.TraceSteps.{raised-kept}
use Rattle.risch_trace.proofs.traces.raised.Goals as goal

pub kept-requires : goal.kept-requires
kept-requires c =
    let p = c.args.of.now in
    let items : c.push_copies.new.to.items ≡ replicate c.args.power element.zero ++ p =
    rw (c.in_ok-push_zeros.ensures, c.new-coefficients.ensures.items, c.coefficients-2.ensures.value) at c.in_ok-push_copies.ensures in
    let some : 0 < length p = c.is_zero.ensures.some c.if-is_zero.false in
    let small : c.args.power + length p ≤ 256 = omega (arith, ap length c.coefficients.ensures.value) in
    rw items (raised-kept c.args.power p c.kept_weight.result c.kept_weight.ensures some small)
