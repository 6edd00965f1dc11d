use Rattle.std.proofs.Common.{◌≡◌, ◌<◌, ◌-◌, ◌+◌, refl, sym, ◌∙◌, ap, arith}
use Rattle.risch_ring.proofs.Laws as Laws
use Rattle.risch_univariate.specs.PolynomialRing.{polynomials}
use Rattle.risch_mean.specs.ElementField.{elements}
use Rattle.risch_element_theory.specs.WholeTower.{polynomial}
use Rattle.risch_hermite.proofs.PowerLaws.{power-more, power-some}
use Rattle.risch_hermite.proofs.StepRules.{power-start, power_from-more, power_from-stops, power_from-done}
use Rattle.risch_hermite.proofs.step.power.Goals as goal

pub loop-factor-init : goal.loop-factor-init
loop-factor-init c = rw c.in_ok-power.ensures (record {
  rule = power-start c.args.of.now c.args.exponent c.requires;
  meaning = sym (Laws.power-one (polynomials elements) (polynomial c.args.of.now));
  within = λ n w. w;
})

pub loop-factor-preserved : goal.loop-factor-preserved
loop-factor-preserved c =
    let left = c.args.exponent - c.loop-factor._factor in
    let some : 0 < left = omega arith in
    let less : left - 1 ≡ c.args.exponent - (c.loop-factor._factor + 1) = omega arith in
    record {
      rule = c.loop-factor.invariant.rule ∙ power_from-more c.args.of.now left c.loop-factor.power c.in_ok-next.next some c.in_ok-next.ensures.rule ∙ rw less refl;
      meaning =
          c.in_ok-next.ensures.meaning ∙ ap (λ q. (polynomials elements).mul q (polynomial c.args.of.now)) c.loop-factor.invariant.meaning
          ∙ power-more (polynomial c.args.of.now) c.loop-factor._factor;
      within = λ n w. c.in_ok-next.ensures.within n (c.loop-factor.invariant.within n w) w;
    }

pub returns-in_err-next-clause-rule : goal.returns-in_err-next-clause-rule
returns-in_err-next-clause-rule c =
    let some : 0 < c.args.exponent - c.loop-factor._factor = omega arith in
    let stops = power_from-stops c.args.of.now c.in_err-next.field-0.0 (c.args.exponent - c.loop-factor._factor) c.loop-factor.power some c.in_err-next.ensures.rule in
    rw c.loop-factor.invariant.rule (grind (arith, stops))

pub returns : goal.returns
returns c =
    let ends : c.loop-factor._factor ≡ c.args.exponent = omega arith in
    let means = rw ends at c.loop-factor.invariant.meaning in
    record {
      rule = c.loop-factor.invariant.rule ∙ power_from-done c.args.of.now (c.args.exponent - c.loop-factor._factor) c.loop-factor.power (omega arith);
      meaning = means;
      some = λ some. power-some c.args.of.now c.loop-factor.power c.args.exponent c.inner-of_inner.ensures.normal c.inner-power_inner.ensures.normal means some;
      within = c.loop-factor.invariant.within;
    }
