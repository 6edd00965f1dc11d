use Rattle.std.proofs.Common.{◌≡◌, ◌∙◌, ◌+◌, ◌-◌, ◌<◌, ◌++◌, ◌∷◌, [], length, Ok, refl, arith, length-append}
use Rattle.risch_logarithm_rules.specs.Newton.{next_symmetric}
use Rattle.risch_residue.proofs.NewtonSteps.{symmetrics-more, next_stops}
use Rattle.risch_residue.proofs.newton.symmetrics.Goals as goal

pub loop-step-preserved : goal.loop-step-preserved
loop-step-preserved c =
    let es = c.loop-step.es in
    let e = c.in_ok-next.next in
    let left = length c.args.traces.now - c.loop-step._step in
    let more : 0 < left = omega arith in
    let less : left - 1 ≡ length c.args.traces.now - (c.loop-step._step + 1) = omega arith in
    let is_next : next_symmetric es c.args.traces.now ≡ Ok e = rw c.as_slice.ensures at c.in_ok-next.ensures in
    let formed : c.push-in-loop-step.new.self ≡ es ++ e ∷ [] = c.in_ok-push-2.ensures.ok in
    record {
      some = rw formed (omega (arith, length-append es (e ∷ [])));
      so_far = c.loop-step.invariant.so_far ∙ symmetrics-more es c.args.traces.now left e more is_next ∙ rw (less, formed) refl;
    }

pub returns-in_err-next : goal.returns-in_err-next
returns-in_err-next c =
    next_stops c.loop-step.es c.args.traces.now (length c.args.traces.now) c.loop-step._step c.loop-step.invariant.so_far c.loop-step-test.true
    c.in_err-next.field-0.0 c.from_residual-in_err-next.result (rw c.as_slice.ensures at c.in_err-next.ensures) c.from_residual-in_err-next.ensures.1
