use Rattle.std.proofs.lemmas.Result.{err_from_is_err_and}
use Rattle.risch_element_theory.specs.WholeTower.{polynomial}
use Rattle.risch_run.proofs.CountedSteps.{stop-leaves}
use Rattle.risch_hermite.proofs.PartMeaning.{part-ends}
use Rattle.risch_hermite.proofs.PartRules.{steps-end, product-stops, cofactor-found}
use Rattle.risch_hermite.proofs.reduction.with_cofactor.Goals as goal

pub returns-in_err-partial : goal.returns-in_err-partial
returns-in_err-partial g c =
    let p = err_from_is_err_and c.from_residual.result c.from_residual.ensures.1 in
    record {
      rule =
          rw (p.1, p.2)
          (steps-end c.args.tower.now c.args.level c.args.count c.args.cofactor.now c.args.part.now c.args.before c.in_err-partial.field-0.0 (g.U.Units.units c.args.units.now) (g.U.Units.units c.steps.new.units)
          (g.U.Units.most c.args.units.now) c.in_err-partial.ensures.rule);
      meaning = λ f h. rw p.1 tt;
      denominator = rw p.1 tt;
      within = rw p.1 tt;
      leaves = rw (p.1, p.2) c.in_err-partial.ensures.leaves;
      same_most = c.in_err-partial.ensures.same_most;
      same_kept = c.in_err-partial.ensures.same_kept;
    }

pub returns-in_err-denominator : goal.returns-in_err-denominator
returns-in_err-denominator g c =
    let p = err_from_is_err_and c.from_residual-in_err-denominator.result c.from_residual-in_err-denominator.ensures.1 in
    let same_leaves = c.in_ok-partial.ensures.leaves in
    record {
      rule =
          rw p.1
          (product-stops c.args.tower.now c.args.level c.args.count c.args.cofactor.now c.args.part.now c.args.before c.in_ok-partial.partial (g.U.Units.units c.args.units.now) (g.U.Units.units c.steps.new.units)
          (g.U.Units.most c.args.units.now) c.in_ok-partial.ensures.rule p.0 c.in_err-denominator.field-0.0 p.2 c.in_err-denominator.ensures.rule);
      meaning = λ f h. rw p.1 tt;
      denominator = rw p.1 tt;
      within = rw p.1 tt;
      leaves = rw (p.1, same_leaves) (stop-leaves p.0 c.in_err-denominator.field-0.0 (g.U.Units.leaves c.args.units.now) p.2);
      same_most = c.in_ok-partial.ensures.same_most;
      same_kept = c.in_ok-partial.ensures.same_kept;
    }

pub returns : goal.returns
returns g c =
    let v = polynomial c.args.part.now in
    let u = polynomial c.args.cofactor.now in
    let w = polynomial c.in_ok-denominator.denominator in
    record {
      rule =
          cofactor-found c.args.tower.now c.args.level c.args.count c.args.cofactor.now c.args.part.now c.args.before c.in_ok-partial.partial (g.U.Units.units c.args.units.now) (g.U.Units.units c.steps.new.units)
          (g.U.Units.most c.args.units.now) c.in_ok-partial.ensures.rule c.in_ok-denominator.denominator c.in_ok-denominator.ensures.rule;
      meaning = λ f h. part-ends c.args.tower.now c.args.level f u v w c.in_ok-partial.partial c.in_ok-denominator.ensures.meaning (c.in_ok-partial.ensures.meaning f h);
      denominator = c.in_ok-denominator.ensures.meaning;
      within = (c.in_ok-denominator.ensures.within c.args.level c.requires.cofactor_within c.requires.part_within, c.in_ok-partial.ensures.within.0, c.in_ok-partial.ensures.within.1);
      leaves = c.in_ok-partial.ensures.leaves;
      same_most = c.in_ok-partial.ensures.same_most;
      same_kept = c.in_ok-partial.ensures.same_kept;
    }
