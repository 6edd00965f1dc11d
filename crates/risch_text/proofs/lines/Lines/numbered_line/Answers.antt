use Rattle.std.proofs.Common.{◌<◌, ◌^◌, arith}
use Rattle.risch_text.proofs.AnswerLines.{expression_line_at}
use Rattle.risch_text.proofs.lines.Lines.numbered_line.Goals as goal

pub overflow_cast-line : goal.overflow_cast-line
overflow_cast-line c =
    let read = c.in_ok-program.ensures.read in
    let low : c.args.self.now.line < 2 ^ 32 = expression_line_at c.args.word.now c.args.names c.args.self.now _ c.requires.some read.is c.requires.in_file in
    omega (arith, low, c.line-line.ensures)
