use Rattle.std.proofs.Common.{◌≡◌, ℕ, List, Result, Ok, Err}
use Rattle.std.proofs.lemmas.Result.{err_from_is_err_and}
use Rattle.risch_field.specs.Checked.{IsStopOf}
use Rattle.risch_field.specs.declared.Fail.{Fail}
use Rattle.risch_polynomial.specs.Poly as poly
use Rattle.risch_level.specs.Levels.{Element, element}
use Rattle.risch_monomial.specs.LevelElements.{numerator_at, denominator_at}
use Rattle.risch_run.specs.declared.Ended.{Ended}
use Rattle.risch_run.specs.Ruled.{Ruled, formed, and_ruled, ended_by, IsResult}
use Rattle.risch_run.proofs.RuledSteps.{stop_ends, stop_is_sound, value_goes_on}
use Rattle.risch_tower.specs.declared.level.Level.{Level}
use Rattle.risch_split.specs.declared.splitting.Split.{Split}
use Rattle.risch_split.specs.declared.canonical_parts.Canonical.{Canonical}
use Rattle.risch_split.specs.declared.canonical_parts.Divided.{Divided}
use Rattle.risch_split.specs.Splitting.{splitting}
use Rattle.risch_split.specs.Canonical.{parts_by, canonical, quotient_and_rest, parts_of_division}
use Rattle.risch_split.specs.SplittingMeaning.{IsNewConstant}
use Rattle.risch_monomial.proofs.LowestTerms.{denominator-monic}
use Rattle.risch_split.proofs.canonical_parts.canonical_parts.Goals as goal

module _ (tower : List Level) (level : ℕ) (f : Element) where
  -- from the quotient and the rest on
  abbrev after_division : List Element × List Element → Ruled Canonical
  after_division d = and_ruled (splitting tower level (denominator_at level f)) (λ (split : Split). formed (parts_by level d.0 d.1 split))

  canonical-from : (d : Divided) (result : Result Canonical Ended) → poly.division element (numerator_at level f) (denominator_at level f) ≡ Ok (quotient_and_rest d) → d.denominator ≡ denominator_at level f →
      IsResult result (parts_of_division tower level d) → IsResult result (canonical tower level f)
  unfolding canonical
  canonical-from d result division denominator h =
      value_goes_on result (poly.division element (numerator_at level f) (denominator_at level f)) after_division (quotient_and_rest d) division (rw denominator at h)

  canonical-stops : (end : Ended) (stop : Fail) → end ≡ ended_by stop → IsStopOf stop (poly.division element (numerator_at level f) (denominator_at level f)) → IsResult {A = Canonical} (Err end) (canonical tower level f)
  unfolding canonical
  canonical-stops end stop e h = stop_ends end stop (poly.division element (numerator_at level f) (denominator_at level f)) after_division e h

pub returns-in_err-division-clause-rule : goal.returns-in_err-division-clause-rule
returns-in_err-division-clause-rule c =
    let ended = err_from_is_err_and c.from_residual.result c.from_residual.ensures.1 in
    rw ended.1 (canonical-stops c.args.tower.now c.args.level c.args.element.now ended.0 c.in_err-division.field-0.0 ended.2 c.in_err-division.ensures.rule)

pub returns-in_err-division-clause-not_sound : goal.returns-in_err-division-clause-not_sound
returns-in_err-division-clause-not_sound c =
    let ended = err_from_is_err_and c.from_residual.result c.from_residual.ensures.1 in
    rw ended.1 (stop_is_sound ended.0 c.in_err-division.field-0.0 (IsNewConstant c.args.tower.now c.args.level) ended.2)

pub parts_of_division-requires-clause-monic : goal.parts_of_division-requires-clause-monic
parts_of_division-requires-clause-monic c = rw c.in_ok-division.ensures.meaning.denominator (denominator-monic c.args.level c.args.element.now c.level_of.ensures.low c.nest-nest.ensures.normal)

pub returns-clause-rule : goal.returns-clause-rule
returns-clause-rule c =
    let divided = c.in_ok-division.ensures in
    canonical-from c.args.tower.now c.args.level c.args.element.now c.in_ok-division.division c.parts_of_division.result divided.rule divided.meaning.denominator c.parts_of_division.ensures.rule

pub returns-clause-meaning : goal.returns-clause-meaning
returns-clause-meaning c = c.parts_of_division.ensures.meaning c.args.element.now c.nest-nest.ensures.normal c.requires.within c.in_ok-division.ensures.meaning
