use Rattle.std.proofs.Common.{◌∙◌, ap}
use Rattle.std.proofs.lemmas.Result.{err_from_is_err_and}
use Rattle.risch_text.proofs.CertifiedValues.{part_ends, logs_end, integral_is}
use Rattle.risch_text.proofs.certificate.integral_of.Goals as goal

pub returns-in_err-part-clause-value : goal.returns-in_err-part-clause-value
returns-in_err-part-clause-value c =
    let p = err_from_is_err_and c.from_residual.result c.from_residual.ensures.1 in
    rw (p.1, p.2) (λ tree e. part_ends tree c.in_err-part.field-0.0 (c.in_err-part.ensures.value tree.part (c.as_slice.ensures ∙ ap (λ r. r.part) e)))

pub returns-in_err-logs-clause-value : goal.returns-in_err-logs-clause-value
returns-in_err-logs-clause-value c =
    let p = err_from_is_err_and c.from_residual-in_err-logs.result c.from_residual-in_err-logs.ensures.1 in
    rw (p.1, p.2) (λ tree e. logs_end tree c.in_ok-part.part c.in_err-logs.field-0.0
    (c.in_ok-part.ensures.value tree.part (c.as_slice.ensures ∙ ap (λ r. r.part) e))
    (c.in_err-logs.ensures.value tree.logs (c.as_slice-2.ensures ∙ ap (λ r. r.logs) e)))

pub returns-clause-value : goal.returns-clause-value
returns-clause-value c = λ tree e. integral_is tree c.in_ok-part.part c.in_ok-logs.logs
    (c.in_ok-part.ensures.value tree.part (c.as_slice.ensures ∙ ap (λ r. r.part) e))
    (c.in_ok-logs.ensures.value tree.logs (c.as_slice-2.ensures ∙ ap (λ r. r.logs) e))

pub returns-clause-form : goal.returns-clause-form
returns-clause-form c = λ n part logs. record {
  part_within = c.in_ok-part.ensures.within n (rw c.as_slice.ensures part);
  logs = c.in_ok-logs.ensures.form n (rw c.as_slice-2.ensures logs);
}
