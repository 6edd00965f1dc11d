use Rattle.std.specs.Prelude.{MatchOption}
use Rattle.std.proofs.Common.{Option}
use Rattle.risch_level.specs.Levels.{Element}
use Rattle.risch_element_theory.specs.WholeTower.{polynomial}
use Rattle.risch_tower.specs.Tower.{rate_at}
use Rattle.risch_monomial.specs.NormalPolynomials.{IsSpecialAt}
use Rattle.risch_monomial.proofs.LevelElements.{agreed}
use Rattle.risch_split.specs.Splitting.{new_constant}
use Rattle.risch_split.specs.SplittingMeaning.{IsNewConstant}
use Rattle.risch_split.proofs.NewConstants.{new_constant-means}
use Rattle.risch_split.proofs.special.new_constant.Goals as goal

pub returns-in-Primitive-clause-meaning : goal.returns-in-Primitive-clause-meaning
returns-in-Primitive-clause-meaning c =
    let tower = c.args.tower.now in
    let level = c.args.level in
    let s = c.args.special.now in
    let kind = (rate_at tower level).kind in
    agreed (λ (r : Option Element). MatchOption r (IsSpecialAt kind (polynomial s)) (IsNewConstant tower level)) c.primitive_constant.result (new_constant level kind s)
    (rw (← c.in-Primitive.ensures) c.primitive_constant.ensures)
    (new_constant-means tower level c.level_of.ensures s c.inner-inner.ensures.normal c.requires.within c.requires.monic c.requires.special)

pub returns-in-Exponential-clause-meaning : goal.returns-in-Exponential-clause-meaning
returns-in-Exponential-clause-meaning c =
    let tower = c.args.tower.now in
    let level = c.args.level in
    let s = c.args.special.now in
    let kind = (rate_at tower level).kind in
    agreed (λ (r : Option Element). MatchOption r (IsSpecialAt kind (polynomial s)) (IsNewConstant tower level)) c.exponential_constant.result (new_constant level kind s)
    (rw (← c.in-Exponential.ensures) c.exponential_constant.ensures)
    (new_constant-means tower level c.level_of.ensures s c.inner-inner.ensures.normal c.requires.within c.requires.monic c.requires.special)
