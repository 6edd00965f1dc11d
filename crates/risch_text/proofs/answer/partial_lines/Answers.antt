use Rattle.std.proofs.lemmas.Result.{err_from_is_err_and}
use Rattle.risch_text.proofs.AnswerLines.{part_fault, partial_fault, partial_read}
use Rattle.risch_text.proofs.answer.partial_lines.Goals as goal

pub returns-in_err-partial-clause-fault : goal.returns-in_err-partial-clause-fault
returns-in_err-partial-clause-fault c =
    let p = err_from_is_err_and c.from_residual.result c.from_residual.ensures.1 in
    rw (p.1, p.2) (part_fault c.args.n c.args.first c.args.lines.now c.in_err-partial.field-0.0 c.in_err-partial.ensures.fault)

pub returns-in_err-log_lines-clause-fault : goal.returns-in_err-log_lines-clause-fault
returns-in_err-log_lines-clause-fault c =
    let p = err_from_is_err_and c.from_residual-in_err-log_lines.result c.from_residual-in_err-log_lines.ensures.1 in
    rw (p.1, p.2) (partial_fault c.args.n c.args.first c.args.lines.now c.part_line.new.lines c.in_ok-partial.partial.part c.in_ok-partial.ensures.read c.in_err-log_lines.field-0.0
    (rw c.in_ok-partial.ensures.so_far at c.in_err-log_lines.ensures.fault))

pub returns-clause-read : goal.returns-clause-read
returns-clause-read c =
    partial_read c.args.n c.args.first c.args.lines.now c.part_line.new.lines c.in_ok-partial.partial.part c.in_ok-partial.ensures.read c.log_lines.new.so_far c.log_lines.new.lines
    (rw c.in_ok-partial.ensures.so_far at c.in_ok-log_lines.ensures.read)
