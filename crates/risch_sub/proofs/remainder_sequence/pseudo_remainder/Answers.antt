use Rattle.std.proofs.Common.{◌≡◌, ◌∙◌, ◌+◌, ◌-◌, ◌<◌, ap, Ok, arith}
use Rattle.risch_field.specs.Checked.{IsStopOf}
use Rattle.risch_sub.specs.RemainderSequence.{pseudo_step, pseudo_steps}
use Rattle.risch_sub.proofs.RemainderSteps.{pseudo_steps-more, pseudo_steps_stop}
use Rattle.risch_sub.proofs.remainder_sequence.pseudo_remainder.Goals as goal

pub returns-in_err-next : goal.returns-in_err-next
returns-in_err-next c =
    let left = c.saturating_sub-steps.result - c.loop-step.step in
    let some : 0 < left = omega arith in
    let place : c.saturating_sub-steps.result - 1 - c.loop-step.step ≡ left - 1 = omega arith in
    let stop : IsStopOf c.in_err-next.field-0.0 (pseudo_step c.args.by.now c.loop-step.rest (left - 1)) = rw (c.as_slice.ensures, place) at c.in_err-next.ensures in
    let stops = pseudo_steps_stop c.in_err-next.field-0.0 c.args.by.now left c.loop-step.rest some stop in
    rw c.loop-step.invariant (grind (arith, stops))

pub loop-step-preserved : goal.loop-step-preserved
loop-step-preserved c =
    let left = c.saturating_sub-steps.result - c.loop-step.step in
    let some : 0 < left = omega arith in
    let place : c.saturating_sub-steps.result - 1 - c.loop-step.step ≡ left - 1 = omega arith in
    let less : left - 1 ≡ c.saturating_sub-steps.result - (c.loop-step.step + 1) = omega arith in
    let formed : pseudo_step c.args.by.now c.loop-step.rest (left - 1) ≡ Ok c.in_ok-next.next = rw (c.as_slice.ensures, place) at c.in_ok-next.ensures in
    c.loop-step.invariant ∙ pseudo_steps-more c.args.by.now left c.loop-step.rest c.in_ok-next.next some formed
    ∙ ap (λ n. pseudo_steps c.args.by.now n c.in_ok-next.next) less
