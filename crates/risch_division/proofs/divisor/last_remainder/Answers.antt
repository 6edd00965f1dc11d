use Rattle.std.proofs.Common.{◌≡◌, ◌+◌, ◌-◌, ◌∙◌, sym, ap, length, arith}
use Rattle.risch_polynomial.specs.Poly as poly
use Rattle.risch_division.proofs.DivisionSteps.{remainders_more}
use Rattle.risch_division.proofs.divisor.last_remainder.Goals as goal

pub loop-step-preserved : goal.loop-step-preserved
loop-step-preserved g c =
    let o = g.E.Arith.ops in
    let left = length c.args.right + 1 - c.loop-step._step in
    let less : left - 1 ≡ length c.args.right + 1 - (c.loop-step._step + 1) = omega arith in
    c.loop-step.invariant ∙
    remainders_more o left c.loop-step.left c.loop-step.right c.in_ok-next.next (omega (arith, ap length c.coefficients.ensures.value)) (sym c.is_zero.ensures.value ∙ c.if-is_zero.false) c.in_ok-next.ensures ∙
    ap (λ n. poly.remainders o n c.loop-step.right c.in_ok-next.next) less
