use Rattle.std.proofs.Common.{◌≡◌, ◌∙◌, ap, ℕ, ◌+◌, ◌-◌, ◌<◌, ◌≤◌, Bool, false, length, arith, ◌↔◌}
use Rattle.std.specs.Prelude.{IsTrue}
use Rattle.risch_polynomial.specs.Modular as modular
use Rattle.risch_division.proofs.ModularSteps.{inverse_ends, inverse_more, inverse_factor_stops}
use Rattle.risch_division.proofs.modular.inverse_from.Goals as goal

longer : (test : Bool) (n : ℕ) → (IsTrue test ↔ (n ≤ 1)) → test ≡ false → 1 < n
longer test n h e = grind arith

pub returns-in_err-next_factor : goal.returns-in_err-next_factor
returns-in_err-next_factor g c =
    let o = g.E.Arith.ops in
    let left = length c.args.above - c.loop-step._step in
    let stops =
    inverse_factor_stops o c.in_err-next_factor.field-0.0 left c.loop-step.above c.loop-step.above_factor c.loop-step.rest c.loop-step.factor c.in_ok-quotient.quotient c.in_ok-quotient.next
    (omega (arith, ap length c.coefficients-step-end.ensures.value)) (longer c.is_constant.result (length c.loop-step.rest) c.is_constant.ensures c.if-is_constant.false) c.in_ok-quotient.ensures c.in_err-next_factor.ensures in
    rw c.loop-step.invariant (grind (arith, stops))

pub loop-step-preserved : goal.loop-step-preserved
loop-step-preserved g c =
    let o = g.E.Arith.ops in
    let left = length c.args.above - c.loop-step._step in
    let less : left - 1 ≡ length c.args.above - (c.loop-step._step + 1) = omega arith in
    c.loop-step.invariant ∙
    inverse_more o left c.loop-step.above c.loop-step.above_factor c.loop-step.rest c.loop-step.factor c.in_ok-quotient.quotient c.in_ok-quotient.next c.in_ok-next_factor.next_factor
    (omega (arith, ap length c.coefficients-step-end.ensures.value)) (longer c.is_constant.result (length c.loop-step.rest) c.is_constant.ensures c.if-is_constant.false) c.in_ok-quotient.ensures c.in_ok-next_factor.ensures ∙
    ap (λ n. modular.inverse_from o n c.loop-step.rest c.loop-step.factor c.in_ok-quotient.next c.in_ok-next_factor.next_factor) less

pub returns : goal.returns
returns g c =
    let o = g.E.Arith.ops in
    let ended : length c.args.above - c.loop-step._step ≡ 0 = omega (arith, ap length c.coefficients-step-end.ensures.value) in
    rw (c.loop-step.invariant, ended, inverse_ends o c.loop-step.above c.loop-step.above_factor c.loop-step.rest c.loop-step.factor) c.last_inverse-2.ensures
