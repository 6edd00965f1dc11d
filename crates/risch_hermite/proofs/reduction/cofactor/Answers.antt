use Rattle.std.proofs.Common.{arith}
use Rattle.risch_univariate.proofs.Multiplicity as Multiplicity
use Rattle.risch_ring.specs.CommRing.{power}
use Rattle.risch_univariate.specs.PolynomialRing.{polynomials}
use Rattle.risch_mean.specs.ElementField.{elements}
use Rattle.risch_element_theory.specs.WholeTower.{polynomial}
use Rattle.risch_hermite.proofs.PowerLaws.{exact-cofactor, nonzero}
use Rattle.risch_hermite.proofs.StepRules.{cofactor-found, cofactor-stops}
use Rattle.risch_hermite.proofs.reduction.cofactor.Goals as goal

pub div_rem-requires : goal.div_rem-requires
div_rem-requires c = c.in_ok-power.ensures.some c.requires.some

pub returns : goal.returns
returns c = record {
  rule = cofactor-found c.args.part.now c.args.denominator.now c.in_ok-power.power c.in_ok-cofactor.cofactor c.in_ok-cofactor._nothing c.args.exponent c.in_ok-power.ensures.rule c.in_ok-cofactor.ensures.rule;
  meaning = exact-cofactor (polynomial c.args.denominator.now) (polynomial c.in_ok-power.power) (power (polynomials elements) (polynomial c.args.part.now) c.args.exponent) (polynomial c.in_ok-cofactor.cofactor) (polynomial c.in_ok-cofactor._nothing) c.in_ok-power.ensures.meaning
      (Multiplicity.power-nonzero elements (polynomial c.args.part.now) c.args.exponent (nonzero c.args.part.now c.inner-part_inner.ensures.normal c.requires.some)) c.requires.divides c.in_ok-cofactor.ensures.meaning;
  within = λ n wv ww. (c.in_ok-cofactor.ensures.within n ww (c.in_ok-power.ensures.within n wv)).0;
}

pub returns-in_err-cofactor-clause-rule : goal.returns-in_err-cofactor-clause-rule
returns-in_err-cofactor-clause-rule c =
    let stops = cofactor-stops c.in_err-cofactor.field-0.0 c.args.part.now c.args.denominator.now c.in_ok-power.power c.args.exponent c.in_ok-power.ensures.rule c.in_err-cofactor.ensures.rule in
    grind (arith, stops)
