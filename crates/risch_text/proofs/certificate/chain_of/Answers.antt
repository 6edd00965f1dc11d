use Rattle.std.proofs.Common.{◌∙◌, ap}
use Rattle.std.proofs.lemmas.Result.{err_from_is_err_and}
use Rattle.risch_text.proofs.CertifiedValues.{rest_ends, trace_ends, chain_is}
use Rattle.risch_text.proofs.certificate.chain_of.Goals as goal

pub returns-in_err-rest-clause-value : goal.returns-in_err-rest-clause-value
returns-in_err-rest-clause-value c =
    let p = err_from_is_err_and c.from_residual.result c.from_residual.ensures.1 in
    rw (p.1, p.2) (λ tree e. rest_ends c.args.partial tree c.in_err-rest.field-0.0 (c.in_err-rest.ensures.value tree.rest (c.as_slice.ensures ∙ ap (λ r. r.rest) e)))

pub returns-in_err-trace-clause-value : goal.returns-in_err-trace-clause-value
returns-in_err-trace-clause-value c =
    let p = err_from_is_err_and c.from_residual-in_err-trace.result c.from_residual-in_err-trace.ensures.1 in
    rw (p.1, p.2) (λ tree e. trace_ends c.args.partial tree c.in_ok-rest.rest c.in_err-trace.field-0.0
    (c.in_ok-rest.ensures.value tree.rest (c.as_slice.ensures ∙ ap (λ r. r.rest) e))
    (c.in_err-trace.ensures.value tree.end.trace (c.as_slice-2.ensures ∙ ap (λ r. r.end.trace) e)))

pub returns-clause-value : goal.returns-clause-value
returns-clause-value c = λ tree e. chain_is c.args.partial tree c.args.program.now.end.level c.args.program.now.end.power c.in_ok-rest.rest c.in_ok-trace.trace
    (ap (λ r. r.end.level) e) (ap (λ r. r.end.power) e)
    (c.in_ok-rest.ensures.value tree.rest (c.as_slice.ensures ∙ ap (λ r. r.rest) e))
    (c.in_ok-trace.ensures.value tree.end.trace (c.as_slice-2.ensures ∙ ap (λ r. r.end.trace) e))

pub returns-clause-form : goal.returns-clause-form
returns-clause-form c = λ n partial over. record {
  partial = partial;
  rest_within = c.in_ok-rest.ensures.within n (rw c.as_slice.ensures over.rest);
  level_low = over.end.level;
  end = (over.end.power, c.in_ok-trace.ensures.within n (rw c.as_slice-2.ensures over.end.trace));
}
