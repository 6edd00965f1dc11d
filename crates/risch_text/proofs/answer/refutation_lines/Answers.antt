use Rattle.std.proofs.Common.{ℕ, List, ◌∷◌, [], ◌++◌, ◌∙◌, ap}
use Rattle.std.proofs.lemmas.Result.{err_from_is_err_and}
use Rattle.risch_text.proofs.AnswerLines.{refutation_ended, rest_fault, end_line_fault}
use Rattle.risch_text.proofs.answer.refutation_lines.Goals as goal

pub returns-in_err-rest-clause-fault : goal.returns-in_err-rest-clause-fault
returns-in_err-rest-clause-fault c =
    let p = err_from_is_err_and c.from_residual.result c.from_residual.ensures.1 in
    rw (p.1, p.2) (λ tree. rest_fault c.args.n tree c.args.lines.now c.in_err-rest.field-0.0 (rw c.monomials.ensures at c.in_err-rest.ensures.fault))

pub returns-in_err-end-clause-fault : goal.returns-in_err-end-clause-fault
returns-in_err-end-clause-fault c =
    let p = err_from_is_err_and c.from_residual-in_err-end.result c.from_residual-in_err-end.ensures.1 in
    rw (p.1, p.2) (λ tree. end_line_fault c.args.n tree c.args.lines.now c.numbered_line.new.self c.in_ok-rest.rest c.in_err-end.field-0.0 (rw c.monomials.ensures at c.in_ok-rest.ensures.read) c.in_err-end.ensures.fault)

pub returns-clause-read : goal.returns-clause-read
returns-clause-read c = λ tree partial written over same. rw c.refutation_of.ensures (refutation_ended c.args.n tree partial written over c.args.lines.now c.numbered_line.new.self c.in_ok-rest.rest
    (rw c.monomials.ensures at c.in_ok-rest.ensures.read) c.in_ok-end.end c.end_of_refutation.new.lines c.numbered_line.new.numbers c.end_of_refutation.new.numbers c.in_ok-end.ensures.read
    (c.in_ok-rest.ensures.numbered ∙ ap (λ (ls : List ℕ). ls ++ c.args.lines.now.line ∷ []) same) c.in_ok-end.ensures.numbered)
