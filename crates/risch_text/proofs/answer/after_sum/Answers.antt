use Rattle.std.proofs.lemmas.Result.{err_from_is_err_and}
use Rattle.risch_text.proofs.AnswerLines.{sum_modulus_fault, sum_read, sum_fault}
use Rattle.risch_text.proofs.answer.after_sum.Goals as goal

pub returns-in_err-modulus-clause-fault : goal.returns-in_err-modulus-clause-fault
returns-in_err-modulus-clause-fault c =
    let p = err_from_is_err_and c.from_residual.result c.from_residual.ensures.1 in
    rw (p.1, p.2) (sum_modulus_fault c.args.n c.args.lines.now c.in_err-modulus.field-0.0 (rw c.with_z.ensures at c.in_err-modulus.ensures.fault))

pub returns-in_err-argument-clause-fault : goal.returns-in_err-argument-clause-fault
returns-in_err-argument-clause-fault c =
    let p = err_from_is_err_and c.from_residual-in_err-argument.result c.from_residual-in_err-argument.ensures.1 in
    rw (p.1, p.2) (sum_fault c.args.n c.args.lines.now c.sum.new.self c.in_ok-modulus.modulus (rw c.with_z.ensures at c.in_ok-modulus.ensures.read) c.in_err-argument.field-0.0
    (rw c.with_z-2.ensures at c.in_err-argument.ensures.fault))

pub returns-clause-read : goal.returns-clause-read
returns-clause-read c =
    sum_read c.args.n c.args.lines.now c.sum.new.self c.in_ok-modulus.modulus (rw c.with_z.ensures at c.in_ok-modulus.ensures.read) c.in_ok-argument.argument c.expression_line.new.self c.line_start-start.result
    c.line_start-start.ensures (rw c.with_z-2.ensures at c.in_ok-argument.ensures.read)
