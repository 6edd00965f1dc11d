use Rattle.std.proofs.Common.{◌≡◌, ◌+◌, ◌-◌, ◌∙◌, ap, vec_len, arith}
use Rattle.risch_polynomial.specs.Poly as poly
use Rattle.risch_division.proofs.DivisionSteps.{divided_more}
use Rattle.risch_division.proofs.steps.divide.Goals as goal

pub loop-step-preserved : goal.loop-step-preserved
loop-step-preserved g c =
    let o = g.E.Arith.ops in
    let left = vec_len c.args.rest.now - c.loop-step._step in
    let less : left - 1 ≡ vec_len c.args.rest.now - (c.loop-step._step + 1) = omega arith in
    record {
      value =
          c.loop-step.invariant.value ∙
          divided_more o left c.loop-step.quotient.items c.loop-step.rest.items c.args.inverse.now c.args.by.now c.divide_once.new.quotient.items c.divide_once.new.rest.items (omega arith) (omega arith) c.in_ok-divide_once.ensures.value ∙
          ap (λ n. poly.divided o n c.divide_once.new.quotient.items c.divide_once.new.rest.items c.args.inverse.now c.args.by.now) less;
      len = c.divide_once.ensures.len ∙ c.loop-step.invariant.len;
      shorter = omega (arith, c.divide_once.ensures.shorter);
    }
