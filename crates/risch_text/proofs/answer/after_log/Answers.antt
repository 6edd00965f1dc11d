use Rattle.std.proofs.lemmas.Result.{err_from_is_err_and}
use Rattle.risch_text.proofs.AnswerLines.{log_factor_fault, log_read, log_fault}
use Rattle.risch_text.proofs.answer.after_log.Goals as goal

pub returns-in_err-factor-clause-fault : goal.returns-in_err-factor-clause-fault
returns-in_err-factor-clause-fault c =
    let p = err_from_is_err_and c.from_residual.result c.from_residual.ensures.1 in
    rw (p.1, p.2) (log_factor_fault c.args.n c.args.lines.now c.in_err-factor.field-0.0 c.in_err-factor.ensures.moves)

pub returns-in_err-argument-clause-fault : goal.returns-in_err-argument-clause-fault
returns-in_err-argument-clause-fault c =
    let p = err_from_is_err_and c.from_residual-in_err-argument.result c.from_residual-in_err-argument.ensures.1 in
    rw (p.1, p.2) (log_fault c.args.n c.args.lines.now c.factor.new.lines c.in_ok-factor.factor c.in_ok-factor.ensures.moves c.in_err-argument.field-0.0 (rw c.monomials.ensures at c.in_err-argument.ensures.fault))

pub returns-clause-read : goal.returns-clause-read
returns-clause-read c =
    log_read c.args.n c.args.lines.now c.factor.new.lines c.in_ok-factor.factor c.in_ok-factor.ensures.moves c.in_ok-argument.argument c.expression_line.new.self (rw c.monomials.ensures at c.in_ok-argument.ensures.read)
