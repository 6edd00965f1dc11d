use Rattle.std.proofs.Common.{Ok, Err}
use Rattle.std.proofs.lemmas.Result.{err_from_is_err_and}
use Rattle.risch_run.specs.Ruled.{formed}
use Rattle.risch_run.proofs.RuledSteps.{result_passes, formed_stops, formed_gives}
use Rattle.risch_split.specs.declared.splitting.Split.{Split}
use Rattle.risch_split.specs.Splitting.{splitting}
use Rattle.risch_split.specs.Canonical.{parts_by}
use Rattle.risch_split.proofs.CanonicalMeaning.{parts_by-means}
use Rattle.risch_split.proofs.canonical_parts.parts_of_division.Goals as goal

pub returns-in_err-parts-clause-rule : goal.returns-in_err-parts-clause-rule
returns-in_err-parts-clause-rule c =
    let d = c.args.division.now in
    let level = c.args.level in
    let split = c.in_ok-split.split in
    let ended = err_from_is_err_and c.from_residual-in_err-parts.result c.from_residual-in_err-parts.ensures.1 in
    rw ended.1
    (result_passes (Err ended.0) (splitting c.args.tower.now level d.denominator) (λ (split : Split). formed (parts_by level d.quotient d.rest split)) split c.in_ok-split.ensures.rule
    (formed_stops ended.0 c.in_err-parts.field-0.0 (parts_by level d.quotient d.rest split) ended.2 c.in_err-parts.ensures.rule))

pub returns-clause-rule : goal.returns-clause-rule
returns-clause-rule c =
    let d = c.args.division.now in
    let level = c.args.level in
    let split = c.in_ok-split.split in
    result_passes (Ok c.in_ok-parts.parts) (splitting c.args.tower.now level d.denominator) (λ (split : Split). formed (parts_by level d.quotient d.rest split)) split c.in_ok-split.ensures.rule
    (formed_gives c.in_ok-parts.parts (parts_by level d.quotient d.rest split) c.in_ok-parts.ensures.rule)

pub returns-clause-meaning : goal.returns-clause-meaning
returns-clause-meaning c = λ f normal within divided.
    parts_by-means c.args.tower.now c.args.level c.level_of.ensures.low f normal within c.args.division.now.quotient c.args.division.now.rest c.in_ok-split.split c.in_ok-parts.parts
    divided.quotient c.requires.quotient_within divided.rest c.requires.rest_within c.inner-normal_inner.ensures.normal c.in_ok-split.ensures.within.0
    c.inner-special_inner.ensures.normal c.in_ok-split.ensures.within.1 divided.division (rw divided.denominator at c.in_ok-split.ensures.meaning) c.in_ok-parts.ensures.rule
