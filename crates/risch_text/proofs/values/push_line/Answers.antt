use Rattle.std.proofs.Common.{◌∙◌, ap}
use Rattle.std.proofs.lemmas.Result.{err_from_is_err_and}
use Rattle.risch_text.proofs.Endings.{line_ends, line_pushed, line_refused}
use Rattle.risch_text.proofs.values.push_line.Goals as goal

pub returns-in_err-argument-clause-value : goal.returns-in_err-argument-clause-value
returns-in_err-argument-clause-value c =
    let p = err_from_is_err_and c.from_residual.result c.from_residual.ensures.1 in
    rw (p.1, p.2) (λ l e. line_ends c.args.tower.now c.args.line.now l e c.in_err-argument.field-0.0 (c.in_err-argument.ensures.value l.argument (c.as_slice.ensures ∙ ap (λ p. p.argument) e)))

pub returns-in-Ok-clause-value : goal.returns-in-Ok-clause-value
returns-in-Ok-clause-value c = λ l e. line_pushed c.args.tower.now c.args.line.now l e c.in_ok-argument.argument (c.in_ok-argument.ensures.value l.argument (c.as_slice.ensures ∙ ap (λ p. p.argument) e))
    c.push.new.self (rw c.monomial_with.ensures at c.in-Ok.ensures.value)

pub returns-in-Err-clause-value : goal.returns-in-Err-clause-value
returns-in-Err-clause-value c = λ l e. rw c.of_push.ensures (line_refused c.args.tower.now c.args.line.now l e c.in_ok-argument.argument
    (c.in_ok-argument.ensures.value l.argument (c.as_slice.ensures ∙ ap (λ p. p.argument) e)) c.in-Err.fault (rw c.monomial_with.ensures at c.in-Err.ensures.value))
