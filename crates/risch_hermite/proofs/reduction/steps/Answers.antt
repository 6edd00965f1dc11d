use Rattle.std.proofs.Common.{refl, ◌∙◌, arith}
use Rattle.std.proofs.lemmas.Result.{err_from_is_err_and}
use Rattle.risch_run.proofs.CountedSteps.{stop-leaves}
use Rattle.risch_hermite.proofs.StepsSoFar.{so_far-begin, so_far-unit_ends, so_far-step_ends, so_far-next, so_far-end, so_far-means}
use Rattle.risch_hermite.proofs.reduction.steps.Goals as goal

pub loop-done-init : goal.loop-done-init
loop-done-init g c = record { so_far = so_far-begin c.args.tower.now c.args.level c.args.cofactor.now c.args.part.now c.args.count c.args.partial (g.U.Units.units c.args.units.now) (g.U.Units.most c.args.units.now) c.requires.numerator_within c.requires.sum_within; leaves = refl; same_most = refl; same_kept = refl }

pub step-requires : goal.step-requires
step-requires g c = let more = c.loop-done-test.true in record {
  level = c.requires.level;
  part_within = c.requires.part_within;
  cofactor_within = c.requires.cofactor_within;
  degree = c.requires.degree;
  positive = omega arith;
  normal = c.requires.normal;
  coprime = c.requires.coprime;
  numerator_within = c.loop-done.invariant.so_far.numerator_within;
  sum_within = c.loop-done.invariant.so_far.sum_within;
}

pub loop-done-preserved : goal.loop-done-preserved
loop-done-preserved g c = record {
  so_far =
      so_far-next c.args.tower.now c.args.level c.args.cofactor.now c.args.part.now c.args.count c.args.partial (g.U.Units.units c.args.units.now) (g.U.Units.most c.args.units.now) c.loop-done.done c.loop-done.partial (g.U.Units.units c.loop-done.units) c.loop-done.invariant.so_far c.in_ok-next.next
      (g.U.Units.units c.charge.new.units) c.loop-done-test.true c.in_ok-charge.ensures.counted c.in_ok-next.ensures.rule c.in_ok-next.ensures.meaning c.in_ok-next.ensures.within.0 c.in_ok-next.ensures.within.1;
  leaves = c.in_ok-charge.ensures.leaves ∙ c.loop-done.invariant.leaves;
  same_most = c.in_ok-charge.ensures.same_most ∙ c.loop-done.invariant.same_most;
  same_kept = c.in_ok-charge.ensures.same_kept ∙ c.loop-done.invariant.same_kept;
}

pub returns-in_err-charge : goal.returns-in_err-charge
returns-in_err-charge g c =
    let p = err_from_is_err_and c.from_residual.result c.from_residual.ensures.1 in
    let same_most = c.loop-done.invariant.same_most in
    let same_leaves = c.loop-done.invariant.leaves in
    let counted = rw same_most at c.in_err-charge.ensures.counted in
    let left = rw same_leaves at c.in_err-charge.ensures.leaves in
    record {
      rule =
          rw (p.1, p.2)
          (so_far-unit_ends c.args.tower.now c.args.level c.args.cofactor.now c.args.part.now c.args.count c.args.partial (g.U.Units.units c.args.units.now) (g.U.Units.most c.args.units.now) c.loop-done.done c.loop-done.partial (g.U.Units.units c.loop-done.units) c.loop-done.invariant.so_far
          c.in_err-charge.field-0.0 (g.U.Units.units c.charge.new.units) c.loop-done-test.true counted);
      meaning = λ f h. rw p.1 tt;
      within = rw p.1 tt;
      leaves = rw (p.1, p.2) left;
      same_most = c.in_err-charge.ensures.same_most ∙ same_most;
      same_kept = c.in_err-charge.ensures.same_kept ∙ c.loop-done.invariant.same_kept;
    }

pub returns-in_err-next : goal.returns-in_err-next
returns-in_err-next g c =
    let p = err_from_is_err_and c.from_residual-in_err-next.result c.from_residual-in_err-next.ensures.1 in
    let same_leaves = c.in_ok-charge.ensures.leaves ∙ c.loop-done.invariant.leaves in
    record {
      rule =
          rw p.1
          (so_far-step_ends c.args.tower.now c.args.level c.args.cofactor.now c.args.part.now c.args.count c.args.partial (g.U.Units.units c.args.units.now) (g.U.Units.most c.args.units.now) c.loop-done.done c.loop-done.partial (g.U.Units.units c.loop-done.units) c.loop-done.invariant.so_far
          p.0 c.in_err-next.field-0.0 (g.U.Units.units c.charge.new.units) c.loop-done-test.true c.in_ok-charge.ensures.counted p.2 c.in_err-next.ensures.rule);
      meaning = λ f h. rw p.1 tt;
      within = rw p.1 tt;
      leaves = rw (p.1, same_leaves) (stop-leaves p.0 c.in_err-next.field-0.0 (g.U.Units.leaves c.args.units.now) p.2);
      same_most = c.in_ok-charge.ensures.same_most ∙ c.loop-done.invariant.same_most;
      same_kept = c.in_ok-charge.ensures.same_kept ∙ c.loop-done.invariant.same_kept;
    }

pub returns : goal.returns
returns g c = record {
  rule = so_far-end c.args.tower.now c.args.level c.args.cofactor.now c.args.part.now c.args.count c.args.partial (g.U.Units.units c.args.units.now) (g.U.Units.most c.args.units.now) c.loop-done.done c.loop-done.partial (g.U.Units.units c.loop-done.units) c.loop-done.invariant.so_far c.loop-done-test.false;
  meaning = so_far-means c.args.tower.now c.args.level c.args.cofactor.now c.args.part.now c.args.count c.args.partial (g.U.Units.units c.args.units.now) (g.U.Units.most c.args.units.now) c.loop-done.done c.loop-done.partial (g.U.Units.units c.loop-done.units) c.loop-done.invariant.so_far c.loop-done-test.false;
  within = (c.loop-done.invariant.so_far.numerator_within, c.loop-done.invariant.so_far.sum_within);
  leaves = c.loop-done.invariant.leaves;
  same_most = c.loop-done.invariant.same_most;
  same_kept = c.loop-done.invariant.same_kept;
}
