use Rattle.std.proofs.Common.{◌≡◌, List, refl, sym, ◌∙◌, arith}
use Rattle.std.proofs.lemmas.Result.{IfOk-weaker, err_from_is_err_and}
use Rattle.risch_ring.specs.CommRing.{power}
use Rattle.risch_univariate.specs.PolynomialRing.{polynomials}
use Rattle.risch_mean.specs.ElementField.{elements}
use Rattle.risch_level.specs.Levels.{Element}
use Rattle.risch_element_theory.specs.ElementPolynomials.{◌*ₚ◌}
use Rattle.risch_element_theory.specs.WholeTower.{polynomial}
use Rattle.risch_monomial.proofs.MonicPolynomials.{monic-length, not_one-length, is_one-stands}
use Rattle.risch_run.proofs.CountedSteps.{stop-leaves}
use Rattle.risch_hermite.specs.declared.partial.Partial.{Partial}
use Rattle.risch_hermite.proofs.PartMeaning.{has-power, cofactor-coprime, one-part, part-begins, part-denominator}
use Rattle.risch_hermite.proofs.PartRules.{part-one, part-cofactor_stops, part-with}
use Rattle.risch_hermite.proofs.reduction.with_part.Goals as goal

pub returns-then-is_one : goal.returns-then-is_one
returns-then-is_one g c =
    let one = sym c.is_one.ensures ∙ c.if-is_one.true in
    record {
      rule = part-one c.args.tower.now c.args.level c.args.exponent c.args.part.now c.args.before (g.U.Units.units c.args.units.now) (g.U.Units.most c.args.units.now) one;
      meaning = λ f h. h;
      denominator = one-part (polynomial c.args.before.1) (polynomial c.args.part.now) c.args.exponent (is_one-stands c.args.part.now c.inner-part_inner.ensures.normal c.requires.monic one);
      within = (c.requires.denominator_within, c.requires.numerator_within, c.requires.sum_within);
      leaves = refl;
      same_most = refl;
      same_kept = refl;
    }

pub cofactor-requires : goal.cofactor-requires
cofactor-requires g c = let two = c.requires.exponent in record {
  some = monic-length c.args.part.now c.requires.monic;
  positive = omega arith;
  divides = has-power (polynomial c.args.part.now) c.args.exponent (polynomial c.args.before.1) c.requires.has_part;
}

pub with_cofactor-requires : goal.with_cofactor-requires
with_cofactor-requires g c = record {
  level = c.requires.level;
  part_within = c.requires.part_within;
  cofactor_within = c.in_ok-cofactor.ensures.within c.args.level c.requires.part_within c.requires.denominator_within;
  degree = not_one-length c.args.part.now c.inner-part_inner.ensures.normal c.requires.monic (sym c.is_one.ensures ∙ c.if-is_one.false);
  normal = c.requires.normal;
  coprime = cofactor-coprime (polynomial c.args.part.now) c.args.exponent (polynomial c.args.before.1) (polynomial c.in_ok-cofactor.cofactor) c.requires.monic c.requires.has_part c.in_ok-cofactor.ensures.meaning;
  numerator_within = c.requires.numerator_within;
  sum_within = c.requires.sum_within;
}

pub returns-in_err-cofactor : goal.returns-in_err-cofactor
returns-in_err-cofactor g c =
    let p = err_from_is_err_and c.from_residual.result c.from_residual.ensures.1 in
    record {
      rule = rw p.1 (part-cofactor_stops c.args.tower.now c.args.level c.args.exponent c.args.part.now c.args.before (sym c.is_one.ensures ∙ c.if-is_one.false) p.0 c.in_err-cofactor.field-0.0 (g.U.Units.units c.args.units.now) (g.U.Units.most c.args.units.now) p.2 c.in_err-cofactor.ensures.rule);
      meaning = λ f h. rw p.1 tt;
      denominator = rw p.1 tt;
      within = rw p.1 tt;
      leaves = rw p.1 (stop-leaves p.0 c.in_err-cofactor.field-0.0 (g.U.Units.leaves c.args.units.now) p.2);
      same_most = refl;
      same_kept = refl;
    }

pub returns : goal.returns
returns g c =
    let two = c.requires.exponent in
    let v = polynomial c.args.part.now in
    let w = polynomial c.args.before.1 in
    let u = polynomial c.in_ok-cofactor.cofactor in
    record {
      rule =
          part-with c.args.tower.now c.args.level c.args.exponent c.args.part.now c.args.before (sym c.is_one.ensures ∙ c.if-is_one.false) c.in_ok-cofactor.cofactor c.in_ok-cofactor.ensures.rule c.with_cofactor.result
          (g.U.Units.units c.args.units.now) (g.U.Units.units c.with_cofactor.new.units) (g.U.Units.most c.args.units.now) c.with_cofactor.ensures.rule;
      meaning = λ f h. c.with_cofactor.ensures.meaning f (part-begins c.args.tower.now c.args.level f u v w c.args.exponent c.args.before.0 (omega arith) c.in_ok-cofactor.ensures.meaning h);
      denominator =
          IfOk-weaker c.with_cofactor.result (λ (it : Partial × List Element). polynomial it.1 ≡ u *ₚ v) (λ (it : Partial × List Element). polynomial it.1 *ₚ power (polynomials elements) v c.args.exponent ≡ w *ₚ v)
          (λ it e. part-denominator u v w (polynomial it.1) c.args.exponent c.in_ok-cofactor.ensures.meaning e) c.with_cofactor.ensures.denominator;
      within = c.with_cofactor.ensures.within;
      leaves = c.with_cofactor.ensures.leaves;
      same_most = c.with_cofactor.ensures.same_most;
      same_kept = c.with_cofactor.ensures.same_kept;
    }
