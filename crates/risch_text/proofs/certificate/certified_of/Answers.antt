use Rattle.std.proofs.Common.{◌∙◌, ap, Some}
use Rattle.risch_expression.specs.Results.{map_value}
use Rattle.std.proofs.lemmas.Result.{err_from_is_err_and}
use Rattle.risch_text.proofs.CertifiedValues.{problem_ends, answer_ends, certified_is, ends_some, certificate_formed}
use Rattle.risch_text.proofs.certificate.certified_of.Goals as goal

pub returns-in_err-problem : goal.returns-in_err-problem
returns-in_err-problem c =
    let p = err_from_is_err_and c.from_residual-in_err-problem.result c.from_residual-in_err-problem.ensures.1 in
    rw (p.1, p.2) (λ tree e. ends_some c.in_err-problem.field-0.0 _ (problem_ends tree c.in_err-problem.field-0.0 (c.in_err-problem.ensures.value tree.problem (ap (λ r. r.problem) e))))

pub returns-in_err-certificate : goal.returns-in_err-certificate
returns-in_err-certificate c =
    let p = err_from_is_err_and c.from_residual-in_err-certificate.result c.from_residual-in_err-certificate.ensures.1 in
    rw (p.1, p.2) (λ tree e. ends_some c.in_err-certificate.field-0.0 _ (answer_ends tree c.in_ok-problem.problem c.in_err-certificate.field-0.0
    (c.in_ok-problem.ensures.value tree.problem (ap (λ r. r.problem) e))
    (c.in_err-certificate.ensures.value tree.answer (ap (λ r. r.answer) e))))

pub invariant_of-result : goal.invariant_of-result
invariant_of-result c = rw c.in_ok-lines.ensures
    (certificate_formed c.args.program.now c.in_ok-problem.problem c.in_ok-certificate.certificate c.requires c.in_ok-problem.ensures.height c.in_ok-certificate.ensures.form c.in_ok-certificate.ensures.count)

pub returns : goal.returns
returns c = λ tree e. ap (map_value Some) (certified_is tree c.in_ok-problem.problem c.in_ok-certificate.certificate c.in_ok-lines.lines
    (c.in_ok-problem.ensures.value tree.problem (ap (λ r. r.problem) e))
    (c.in_ok-certificate.ensures.value tree.answer (ap (λ r. r.answer) e))
    (c.in_ok-lines.ensures ∙ ap (λ r. r.answer.lines) e))
