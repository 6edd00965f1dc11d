use Rattle.std.proofs.Common.{refl, sym, subst, List, arith}
use Rattle.std.proofs.lemmas.Result.{err_from_is_err_and}
use Rattle.risch_univariate.specs.Degree.{IsMonic}
use Rattle.risch_mean.specs.ElementField.{elements}
use Rattle.risch_level.specs.Levels.{Element}
use Rattle.risch_element_theory.specs.WholeTower.{polynomial}
use Rattle.risch_tower.specs.TowerMeaning.{monomials}
use Rattle.risch_monomial.specs.LevelDerivation.{level_derivation}
use Rattle.risch_monomial.specs.NormalPolynomials.{HasNormalDivisors}
use Rattle.risch_monomial.proofs.LowestTerms.{denominator-monic}
use Rattle.risch_run.proofs.CountedSteps.{stop-leaves}
use Rattle.risch_hermite.specs.declared.partial.Partial.{Partial}
use Rattle.risch_hermite.proofs.PartsOf.{parts-start}
use Rattle.risch_hermite.proofs.ReductionRules.{parts-few, square_free-stops, parts-end, finished-stops, hermite-found}
use Rattle.risch_hermite.proofs.ReductionStart.{start-reduced}
use Rattle.risch_hermite.proofs.reduction.reduction.Goals as goal

pub square_free-requires : goal.square_free-requires
square_free-requires g c =
    subst (λ (s : Partial × List Element). IsMonic elements (polynomial s.1)) (sym c.in_ok-start.ensures.rule) (denominator-monic c.args.level c.args.normal.now c.level_of.ensures.low c.nest-nest.ensures.normal)

pub with_parts-requires : goal.with_parts-requires
with_parts-requires g c =
    let n = c.in_ok-start.start.1 in
    let parts = c.in_ok-parts.parts in
    let few = parts-few n parts c.in_ok-parts.ensures.rule in
    let small = c.inner-denominator_inner.ensures.normal.degree_small in
    let normal = subst (λ (s : Partial × List Element). HasNormalDivisors (level_derivation (monomials c.args.tower.now) c.args.level) (polynomial s.1)) (sym c.in_ok-start.ensures.rule) c.requires.normal in
    rw c.as_slice.ensures (record {
      level = c.requires.level;
      few = omega (arith, few, small);
      are_parts = parts-start c.args.tower.now c.args.level (polynomial n) parts normal c.in_ok-parts.ensures.meaning.are_parts c.in_ok-parts.ensures.meaning.product;
      parts_within = c.in_ok-parts.ensures.within c.args.level c.in_ok-start.ensures.within.0;
      denominator_within = c.in_ok-start.ensures.within.0;
      numerator_within = c.in_ok-start.ensures.within.1;
      sum_within = c.in_ok-start.ensures.within.2;
    })

pub finished-requires : goal.finished-requires
finished-requires g c =
    let low = c.level_of.ensures.low in
    record { level = omega arith; monic = c.in_ok-last.ensures.monic; denominator_within = c.in_ok-last.ensures.within.0; numerator_within = c.in_ok-last.ensures.within.1; sum_within = c.in_ok-last.ensures.within.2 }

pub returns-in_err-start : goal.returns-in_err-start
returns-in_err-start g c =
    let p = err_from_is_err_and c.from_residual.result c.from_residual.ensures.1 in
    record {
      rule = rw (p.1, p.2) tt;
      meaning = rw p.1 tt;
      within = rw p.1 tt;
      leaves = rw (p.1, p.2) tt;
      same_most = refl;
      same_kept = refl;
    }

pub returns-in_err-parts : goal.returns-in_err-parts
returns-in_err-parts g c =
    let p = err_from_is_err_and c.from_residual-in_err-parts.result c.from_residual-in_err-parts.ensures.1 in
    record {
      rule = rw p.1 (square_free-stops c.args.tower.now c.args.level c.args.normal.now c.in_ok-start.start c.in_ok-start.ensures.rule p.0 c.in_err-parts.field-0.0 (g.U.Units.units c.args.units.now) (g.U.Units.most c.args.units.now) p.2 c.in_err-parts.ensures.rule);
      meaning = rw p.1 tt;
      within = rw p.1 tt;
      leaves = rw p.1 (stop-leaves p.0 c.in_err-parts.field-0.0 (g.U.Units.leaves c.args.units.now) p.2);
      same_most = refl;
      same_kept = refl;
    }

pub returns-in_err-last : goal.returns-in_err-last
returns-in_err-last g c =
    let p = err_from_is_err_and c.from_residual-in_err-last.result c.from_residual-in_err-last.ensures.1 in
    let counted = rw c.as_slice.ensures at c.in_err-last.ensures.rule in
    record {
      rule = rw (p.1, p.2) (parts-end c.args.tower.now c.args.level c.args.normal.now c.in_ok-start.start c.in_ok-start.ensures.rule c.in_ok-parts.parts c.in_ok-parts.ensures.rule c.in_err-last.field-0.0 (g.U.Units.units c.args.units.now) (g.U.Units.units c.with_parts.new.units) (g.U.Units.most c.args.units.now) counted);
      meaning = rw p.1 tt;
      within = rw p.1 tt;
      leaves = rw (p.1, p.2) c.in_err-last.ensures.leaves;
      same_most = c.in_err-last.ensures.same_most;
      same_kept = c.in_err-last.ensures.same_kept;
    }

pub returns-in_err-reduced : goal.returns-in_err-reduced
returns-in_err-reduced g c =
    let p = err_from_is_err_and c.from_residual-in_err-reduced.result c.from_residual-in_err-reduced.ensures.1 in
    let same_leaves = c.in_ok-last.ensures.leaves in
    let counted = rw c.as_slice.ensures at c.in_ok-last.ensures.rule in
    record {
      rule = rw p.1 (finished-stops c.args.tower.now c.args.level c.args.normal.now c.in_ok-start.start c.in_ok-start.ensures.rule c.in_ok-parts.parts c.in_ok-parts.ensures.rule c.in_ok-last.last (g.U.Units.units c.args.units.now) (g.U.Units.units c.with_parts.new.units) (g.U.Units.most c.args.units.now) counted p.0 c.in_err-reduced.field-0.0 p.2 c.in_err-reduced.ensures.rule);
      meaning = rw p.1 tt;
      within = rw p.1 tt;
      leaves = rw (p.1, same_leaves) (stop-leaves p.0 c.in_err-reduced.field-0.0 (g.U.Units.leaves c.args.units.now) p.2);
      same_most = c.in_ok-last.ensures.same_most;
      same_kept = c.in_ok-last.ensures.same_kept;
    }

pub returns : goal.returns
returns g c =
    let counted = rw c.as_slice.ensures at c.in_ok-last.ensures.rule in
    record {
      rule = hermite-found c.args.tower.now c.args.level c.args.normal.now c.in_ok-start.start c.in_ok-start.ensures.rule c.in_ok-parts.parts c.in_ok-parts.ensures.rule c.in_ok-last.last (g.U.Units.units c.args.units.now) (g.U.Units.units c.with_parts.new.units) (g.U.Units.most c.args.units.now) counted c.in_ok-reduced.reduced c.in_ok-reduced.ensures.rule;
      meaning =
          c.in_ok-reduced.ensures.meaning c.args.tower.now c.args.normal.now c.in_ok-last.ensures.normal
          (c.in_ok-last.ensures.meaning _ (start-reduced c.args.tower.now c.args.level c.args.normal.now c.in_ok-start.start c.in_ok-start.ensures.rule c.level_of.ensures c.nest-nest.ensures.normal c.requires.within));
      within = c.in_ok-reduced.ensures.within;
      leaves = c.in_ok-last.ensures.leaves;
      same_most = c.in_ok-last.ensures.same_most;
      same_kept = c.in_ok-last.ensures.same_kept;
    }
