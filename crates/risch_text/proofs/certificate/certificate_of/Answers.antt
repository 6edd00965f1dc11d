use Rattle.std.proofs.Common.{◌∙◌, ap, sym}
use Rattle.std.proofs.lemmas.Result.{err_from_is_err_and}
use Rattle.risch_text.proofs.CertifiedValues.{integral_ends, unrefuted_is, chain_ends, refuted_is}
use Rattle.risch_text.proofs.certificate.certificate_of.Goals as goal

pub returns-in_err-integral-clause-value : goal.returns-in_err-integral-clause-value
returns-in_err-integral-clause-value c =
    let p = err_from_is_err_and c.from_residual.result c.from_residual.ensures.1 in
    rw (p.1, p.2) (λ tree e. integral_ends tree c.in_err-integral.field-0.0 (c.in_err-integral.ensures.value tree e))

pub returns-in_err-chain-in-Some-clause-value : goal.returns-in_err-chain-in-Some-clause-value
returns-in_err-chain-in-Some-clause-value c =
    let p = err_from_is_err_and c.from_residual-in_err-chain-in-Some.result c.from_residual-in_err-chain-in-Some.ensures.1 in
    rw (p.1, p.2) (λ tree e. chain_ends tree c.in_ok-integral.integral (c.in_ok-integral.ensures.value tree e) c.in-Some.refutation (sym c.in-Some.is ∙ ap (λ r. r.refutation) e)
    c.in_err-chain-in-Some.field-0.0 c.in_err-chain-in-Some.ensures.value)

pub returns-in-None-clause-value : goal.returns-in-None-clause-value
returns-in-None-clause-value c = λ tree e. unrefuted_is tree c.in_ok-integral.integral (c.in_ok-integral.ensures.value tree e) (sym c.in-None.is ∙ ap (λ r. r.refutation) e)

pub returns-in-None-clause-form : goal.returns-in-None-clause-form
returns-in-None-clause-form c = λ n over. c.in_ok-integral.ensures.form n over.part over.logs

pub returns-in_ok-chain-in-Some-clause-value : goal.returns-in_ok-chain-in-Some-clause-value
returns-in_ok-chain-in-Some-clause-value c = λ tree e. refuted_is tree c.in_ok-integral.integral (c.in_ok-integral.ensures.value tree e) c.in-Some.refutation
    (sym c.in-Some.is ∙ ap (λ r. r.refutation) e) c.in_ok-chain-in-Some.chain c.in_ok-chain-in-Some.ensures.value

pub returns-in_ok-chain-in-Some-clause-form : goal.returns-in_ok-chain-in-Some-clause-form
returns-in_ok-chain-in-Some-clause-form c = λ n over. c.in_ok-chain-in-Some.ensures.form n (c.in_ok-integral.ensures.form n over.part over.logs) (rw c.in-Some.is at over.refutation)
