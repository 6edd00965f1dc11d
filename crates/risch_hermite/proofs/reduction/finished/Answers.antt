use Rattle.std.proofs.lemmas.Result.{err_from_is_err_and}
use Rattle.risch_monomial.proofs.MonicPolynomials.{monic-length}
use Rattle.risch_hermite.proofs.ReductionRules.{division-stops, finished-with}
use Rattle.risch_hermite.proofs.reduction.finished.Goals as goal

pub div_rem-requires : goal.div_rem-requires
div_rem-requires c = monic-length c.args.last.1 c.requires.monic

pub with_division-requires : goal.with_division-requires
with_division-requires c =
    let within = c.in_ok-division.ensures.within c.args.level c.requires.numerator_within c.requires.denominator_within in
    record {
      level = c.requires.level;
      monic = c.requires.monic;
      division = c.in_ok-division.ensures.meaning;
      denominator_within = c.requires.denominator_within;
      quotient_within = within.0;
      remainder_within = within.1;
      sum_within = c.requires.sum_within;
    }

pub returns-in_err-division-clause-rule : goal.returns-in_err-division-clause-rule
returns-in_err-division-clause-rule c =
    let ended = err_from_is_err_and c.from_residual.result c.from_residual.ensures.1 in
    rw (ended.1, ended.2) (division-stops c.args.level c.args.last c.in_err-division.field-0.0 c.in_err-division.ensures.rule)

pub returns-clause-rule : goal.returns-clause-rule
returns-clause-rule c = finished-with c.args.level c.args.last c.in_ok-division.division c.with_division.result c.in_ok-division.ensures.rule c.with_division.ensures.rule

pub returns-clause-meaning : goal.returns-clause-meaning
returns-clause-meaning c = c.with_division.ensures.meaning

pub returns-clause-within : goal.returns-clause-within
returns-clause-within c = c.with_division.ensures.within
