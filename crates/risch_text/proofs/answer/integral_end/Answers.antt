use Rattle.std.proofs.Common.{◌<◌, ◌^◌, ◌∙◌, ap, ◌++◌, ◌∷◌, [], List, ℕ, arith}
use Rattle.std.specs.Prelude.{codes}
use Rattle.std.proofs.lemmas.Result.{err_from_is_err_and}
use Rattle.risch_text.proofs.AnswerLines.{bare_line_low, integral_read, integral_end_fault}
use Rattle.risch_text.proofs.answer.integral_end.Goals as goal

pub overflow_cast-last : goal.overflow_cast-last
overflow_cast-last c =
    let low : c.args.lines.now.line < 2 ^ 32 = bare_line_low 101 (codes "nd") c.args.lines.now c.bare_line.new.self c.in_ok-bare_line.ensures.moves c.requires in
    omega (arith, low, c.line-last.ensures)

pub returns-in_err-bare_line-clause-fault : goal.returns-in_err-bare_line-clause-fault
returns-in_err-bare_line-clause-fault c =
    let p = err_from_is_err_and c.from_residual.result c.from_residual.ensures.1 in
    rw (p.1, p.2) (λ tree. integral_end_fault tree c.args.lines.now c.in_err-bare_line.field-0.0 c.in_err-bare_line.ensures.moves)

pub returns-clause-read : goal.returns-clause-read
returns-clause-read c = λ n tree partial written over same. integral_read n tree partial written over c.args.lines.now c.bare_line.new.self c.push.new.self c.in_ok-bare_line.ensures.moves
    (c.in_ok-push.ensures.ok ∙ ap (λ (l : ℕ). c.args.numbers.now ++ l ∷ []) c.line-last.ensures ∙ ap (λ (ls : List ℕ). ls ++ c.args.lines.now.line ∷ []) same)
