use Rattle.std.proofs.lemmas.Result.{err_from_is_err_and}
use Rattle.risch_text.proofs.WholeFiles.{problem_fault, answer_unread, answer_fault, end_fault, certified_read}
use Rattle.risch_text.proofs.answer.whole_certified.Goals as goal

pub returns-in_err-problem-clause-fault : goal.returns-in_err-problem-clause-fault
returns-in_err-problem-clause-fault c =
    let p = err_from_is_err_and c.from_residual.result c.from_residual.ensures.1 in
    rw (p.1, p.2) (problem_fault c.args.bytes.now c.start-lines.result c.in_err-problem.field-0.0 c.start-lines.ensures.front c.in_err-problem.ensures.fault)

pub returns-in_err-answer-clause-fault : goal.returns-in_err-answer-clause-fault
returns-in_err-answer-clause-fault c =
    let p = err_from_is_err_and c.from_residual-in_err-answer.result c.from_residual-in_err-answer.ensures.1 in
    rw (p.1, p.2) (answer_fault c.args.bytes.now c.start-lines.result c.in_ok-problem.problem c.problem_lines.new.lines c.start-lines.ensures.front c.in_ok-problem.ensures.read c.in_err-answer.field-0.0
    (rw c.len.ensures at c.in_err-answer.ensures.fault))

-- The answer is not yet read.
pub returns-in_default-clause-read : goal.returns-in_default-clause-read
returns-in_default-clause-read c =
    answer_unread c.args.bytes.now c.start-lines.result c.in_ok-problem.problem c.problem_lines.new.lines c.start-lines.ensures.front c.in_ok-problem.ensures.read c.answer_lines.new.lines
    (rw (c.len.ensures, c.in_default.is) at c.in_ok-answer.ensures.read)

pub returns-in_err-finish-clause-fault : goal.returns-in_err-finish-clause-fault
returns-in_err-finish-clause-fault c =
    let p = err_from_is_err_and c.from_residual-in_err-finish.result c.from_residual-in_err-finish.ensures.1 in
    rw p.1 (end_fault c.args.bytes.now c.start-lines.result c.in_ok-problem.problem c.problem_lines.new.lines c.start-lines.ensures.front c.in_ok-problem.ensures.read c.in-Some.answer c.answer_lines.new.lines
    (rw (c.len.ensures, c.in-Some.is) at c.in_ok-answer.ensures.read) c.in_err-finish.field-0.0 _ c.in_err-finish.ensures p.2)

pub returns-clause-read : goal.returns-clause-read
returns-clause-read c =
    certified_read c.args.bytes.now c.start-lines.result c.in_ok-problem.problem c.problem_lines.new.lines c.start-lines.ensures.front c.in_ok-problem.ensures.read c.in-Some.answer c.answer_lines.new.lines
    (rw (c.len.ensures, c.in-Some.is) at c.in_ok-answer.ensures.read) c.in_ok-finish.ensures
