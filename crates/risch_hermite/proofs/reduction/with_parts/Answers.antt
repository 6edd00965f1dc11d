use Rattle.std.proofs.Common.{refl, ◌+◌, ◌∙◌, sym, subst, arith}
use Rattle.std.proofs.lemmas.Result.{err_from_is_err_and}
use Rattle.risch_element_theory.specs.WholeTower.{AllWithin}
use Rattle.risch_hermite.proofs.PartRules.{parts-begin, part-has, part-monic, part-normal, parts-end_in, parts-next, parts-done, parts-normal}
use Rattle.risch_hermite.proofs.reduction.with_parts.Goals as goal

pub loop-index-init : goal.loop-index-init
loop-index-init g c = record {
  so_far = parts-begin c.args.tower.now c.args.level c.args.parts.now c.args.start (g.U.Units.units c.args.units.now) (g.U.Units.most c.args.units.now) c.requires.are_parts c.requires.denominator_within c.requires.numerator_within c.requires.sum_within;
  leaves = refl;
  same_most = refl;
  same_kept = refl;
}

pub with_part-requires : goal.with_part-requires
with_part-requires g c = let more = c.loop-index.auto.index in record {
  level = c.requires.level;
  exponent = omega arith;
  monic = part-monic c.args.tower.now c.args.level c.args.parts.now c.args.start (g.U.Units.units c.args.units.now) (g.U.Units.most c.args.units.now) c.loop-index.index c.loop-index.state (g.U.Units.units c.loop-index.units) c.loop-index.invariant.so_far (c.loop-index.index + 1) c.index-parts-index.result (omega arith) c.loop-index-test.true c.index-parts-index.is;
  normal = part-normal c.args.tower.now c.args.level c.args.parts.now c.args.start (g.U.Units.units c.args.units.now) (g.U.Units.most c.args.units.now) c.loop-index.index c.loop-index.state (g.U.Units.units c.loop-index.units) c.loop-index.invariant.so_far (c.loop-index.index + 1) c.index-parts-index.result (omega arith) c.loop-index-test.true c.index-parts-index.is;
  has_part = part-has c.args.tower.now c.args.level c.args.parts.now c.args.start (g.U.Units.units c.args.units.now) (g.U.Units.most c.args.units.now) c.loop-index.index c.loop-index.state (g.U.Units.units c.loop-index.units) c.loop-index.invariant.so_far (c.loop-index.index + 1) c.index-parts-index.result (omega arith) c.loop-index-test.true c.index-parts-index.is;
  part_within = subst (AllWithin c.args.level) (sym c.index-parts-index.is) (c.requires.parts_within c.loop-index.index c.index-parts-index.result c.loop-index-test.true);
  denominator_within = c.loop-index.invariant.so_far.denominator_within;
  numerator_within = c.loop-index.invariant.so_far.numerator_within;
  sum_within = c.loop-index.invariant.so_far.sum_within;
}

pub loop-index-preserved : goal.loop-index-preserved
loop-index-preserved g c = record {
  so_far =
      parts-next c.args.tower.now c.args.level c.args.parts.now c.args.start (g.U.Units.units c.args.units.now) (g.U.Units.most c.args.units.now) c.loop-index.index c.loop-index.state (g.U.Units.units c.loop-index.units) c.loop-index.invariant.so_far (c.loop-index.index + 1) c.index-parts-index.result (omega arith) c.loop-index-test.true c.index-parts-index.is c.in_ok-next.next
      (g.U.Units.units c.with_part.new.units) c.in_ok-next.ensures.rule c.in_ok-next.ensures.meaning c.in_ok-next.ensures.denominator c.in_ok-next.ensures.within.0 c.in_ok-next.ensures.within.1 c.in_ok-next.ensures.within.2;
  leaves = c.in_ok-next.ensures.leaves ∙ c.loop-index.invariant.leaves;
  same_most = c.in_ok-next.ensures.same_most ∙ c.loop-index.invariant.same_most;
  same_kept = c.in_ok-next.ensures.same_kept ∙ c.loop-index.invariant.same_kept;
}

pub returns-in_err-next : goal.returns-in_err-next
returns-in_err-next g c =
    let p = err_from_is_err_and c.from_residual.result c.from_residual.ensures.1 in
    let same_most = c.loop-index.invariant.same_most in
    let same_leaves = c.loop-index.invariant.leaves in
    let counted = rw same_most at c.in_err-next.ensures.rule in
    let left = rw same_leaves at c.in_err-next.ensures.leaves in
    record {
      rule =
          rw (p.1, p.2)
          (parts-end_in c.args.tower.now c.args.level c.args.parts.now c.args.start (g.U.Units.units c.args.units.now) (g.U.Units.most c.args.units.now) c.loop-index.index c.loop-index.state (g.U.Units.units c.loop-index.units) c.loop-index.invariant.so_far (c.loop-index.index + 1) c.index-parts-index.result (omega arith) c.loop-index-test.true c.index-parts-index.is
          c.in_err-next.field-0.0 (g.U.Units.units c.with_part.new.units) counted);
      meaning = λ f h. rw p.1 tt;
      monic = rw p.1 tt;
      normal = rw p.1 tt;
      within = rw p.1 tt;
      leaves = rw (p.1, p.2) left;
      same_most = c.in_err-next.ensures.same_most ∙ same_most;
      same_kept = c.in_err-next.ensures.same_kept ∙ c.loop-index.invariant.same_kept;
    }

pub returns : goal.returns
returns g c =
    let normal = parts-normal c.args.tower.now c.args.level c.args.parts.now c.args.start (g.U.Units.units c.args.units.now) (g.U.Units.most c.args.units.now) c.loop-index.index c.loop-index.state (g.U.Units.units c.loop-index.units) c.loop-index.invariant.so_far c.loop-index-test.false in
    record {
      rule = parts-done c.args.tower.now c.args.level c.args.parts.now c.args.start (g.U.Units.units c.args.units.now) (g.U.Units.most c.args.units.now) c.loop-index.index c.loop-index.state (g.U.Units.units c.loop-index.units) c.loop-index.invariant.so_far c.loop-index-test.false;
      meaning = c.loop-index.invariant.so_far.meaning;
      monic = normal.0;
      normal = normal.1;
      within = (c.loop-index.invariant.so_far.denominator_within, c.loop-index.invariant.so_far.numerator_within, c.loop-index.invariant.so_far.sum_within);
      leaves = c.loop-index.invariant.leaves;
      same_most = c.loop-index.invariant.same_most;
      same_kept = c.loop-index.invariant.same_kept;
    }
