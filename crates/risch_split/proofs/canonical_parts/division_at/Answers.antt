use Rattle.std.proofs.lemmas.Result.{err_from_is_err_and}
use Rattle.risch_split.proofs.canonical_parts.division_at.Goals as goal

pub returns-in_err-quotient-clause-rule : goal.returns-in_err-quotient-clause-rule
returns-in_err-quotient-clause-rule c =
    let ended = err_from_is_err_and c.from_residual-in_err-quotient.result c.from_residual-in_err-quotient.ensures.1 in
    rw (ended.1, ended.2) (rw (c.in_ok-numerator.ensures.rule, c.in_ok-denominator.ensures.rule) at c.in_err-quotient.ensures.rule)

pub returns-clause-rule : goal.returns-clause-rule
returns-clause-rule c = rw (c.in_ok-numerator.ensures.rule, c.in_ok-denominator.ensures.rule) at c.in_ok-quotient.ensures.rule

pub returns-clause-meaning : goal.returns-clause-meaning
returns-clause-meaning c = record {
  denominator = c.in_ok-denominator.ensures.rule;
  division = rw (c.in_ok-numerator.ensures.rule, c.in_ok-denominator.ensures.rule) at c.in_ok-quotient.ensures.meaning;
  quotient = c.inner-quotient_inner.ensures.normal;
  rest = c.inner-rest_inner.ensures.normal;
}

pub returns-clause-within : goal.returns-clause-within
returns-clause-within c =
    let top = c.in_ok-numerator.ensures.within c.requires.within in
    let bottom = c.in_ok-denominator.ensures.within c.requires.within in
    let parts = c.in_ok-quotient.ensures.within c.args.level top bottom in
    (parts.0, parts.1, bottom)
