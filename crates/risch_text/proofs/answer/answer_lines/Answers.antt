use Rattle.std.proofs.lemmas.Result.{err_from_is_err_and}
use Rattle.risch_text.proofs.AnswerLines.{first_line_fault, partial_lines_fault, answer_ended, answer_end_fault}
use Rattle.risch_text.proofs.answer.answer_lines.Goals as goal

pub returns-in_err-refuted-clause-fault : goal.returns-in_err-refuted-clause-fault
returns-in_err-refuted-clause-fault c =
    let p = err_from_is_err_and c.from_residual.result c.from_residual.ensures.1 in
    rw (p.1, p.2) (first_line_fault c.args.n c.args.lines.now c.in_err-refuted.field-0.0 c.in_err-refuted.ensures.moves)

pub returns-in_err-partial-clause-fault : goal.returns-in_err-partial-clause-fault
returns-in_err-partial-clause-fault c =
    let p = err_from_is_err_and c.from_residual-in_err-partial.result c.from_residual-in_err-partial.ensures.1 in
    rw (p.1, p.2) (partial_lines_fault c.args.n c.args.lines.now c.is_refuted.new.lines c.in_ok-refuted.refuted c.in_ok-refuted.ensures.moves c.in_err-partial.field-0.0
    (rw c.line-first.ensures at c.in_err-partial.ensures.fault))

pub returns-clause-read : goal.returns-clause-read
returns-clause-read c =
    answer_ended c.args.n c.args.lines.now c.is_refuted.new.lines c.in_ok-refuted.refuted c.in_ok-refuted.ensures.moves c.in_ok-partial.partial c.partial_lines.new.lines
    (rw c.line-first.ensures at c.in_ok-partial.ensures.read) c.answer_end.result c.answer_end.new.lines c.answer_end.ensures.read

pub returns-clause-fault : goal.returns-clause-fault
returns-clause-fault c =
    answer_end_fault c.args.n c.args.lines.now c.is_refuted.new.lines c.in_ok-refuted.refuted c.in_ok-refuted.ensures.moves c.in_ok-partial.partial c.partial_lines.new.lines
    (rw c.line-first.ensures at c.in_ok-partial.ensures.read) c.answer_end.result c.answer_end.ensures.fault
