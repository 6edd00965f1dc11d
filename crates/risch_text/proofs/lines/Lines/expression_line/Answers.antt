use Rattle.std.proofs.lemmas.Result.{err_from_is_err_and}
use Rattle.risch_text.proofs.Fronts.{line_word_fault, line_sum_fault, line_not_ended, line_read}
use Rattle.risch_text.proofs.lines.Lines.expression_line.Goals as goal

pub returns-in_err-word-clause-fault : goal.returns-in_err-word-clause-fault
returns-in_err-word-clause-fault c =
    let p = err_from_is_err_and c.from_residual.result c.from_residual.ensures.1 in
    rw (p.1, p.2) (line_word_fault c.args.word.now c.args.names c.args.self.now c.in_err-word.field-0.0 c.in_err-word.ensures.moves)

pub returns-in_err-program-clause-fault : goal.returns-in_err-program-clause-fault
returns-in_err-program-clause-fault c =
    let p = err_from_is_err_and c.from_residual-in_err-program.result c.from_residual-in_err-program.ensures.1 in
    rw (p.1, p.2) (line_sum_fault c.args.word.now c.args.names c.args.self.now c.word.new.self c.in_ok-word.ensures.moves c.in_err-program.field-0.0 c.in_err-program.ensures.fault)

pub returns-in_err-line_end-clause-fault : goal.returns-in_err-line_end-clause-fault
returns-in_err-line_end-clause-fault c =
    let p = err_from_is_err_and c.from_residual-in_err-line_end.result c.from_residual-in_err-line_end.ensures.1 in
    rw (p.1, p.2) (line_not_ended c.args.word.now c.args.names c.args.self.now c.word.new.self c.in_ok-word.ensures.moves c.in_ok-program.program c.sum.new.self c.in_ok-program.ensures.read c.in_err-line_end.field-0.0
    c.in_err-line_end.ensures.moves)

pub returns-clause-read : goal.returns-clause-read
returns-clause-read c =
    line_read c.args.word.now c.args.names c.args.self.now c.word.new.self c.in_ok-word.ensures.moves c.in_ok-program.program c.sum.new.self c.in_ok-program.ensures.read c.line_end.new.self c.in_ok-line_end.ensures.moves
