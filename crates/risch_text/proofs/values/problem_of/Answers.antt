use Rattle.std.proofs.Common.{◌∙◌, ap}
use Rattle.std.proofs.lemmas.Result.{err_from_is_err_and}
use Rattle.risch_text.proofs.TowerValues.{tower_ends, integrand_ends, problem_is}
use Rattle.risch_text.proofs.values.problem_of.Goals as goal

pub returns-in_err-tower-clause-value : goal.returns-in_err-tower-clause-value
returns-in_err-tower-clause-value c =
    let p = err_from_is_err_and c.from_residual.result c.from_residual.ensures.1 in
    rw (p.1, p.2) (λ tree e. tower_ends tree c.in_err-tower.field-0.0 (c.in_err-tower.ensures.value tree.tower (c.as_slice.ensures ∙ ap (λ r. r.tower) e)))

pub returns-in_err-integrand-clause-value : goal.returns-in_err-integrand-clause-value
returns-in_err-integrand-clause-value c =
    let p = err_from_is_err_and c.from_residual-in_err-integrand.result c.from_residual-in_err-integrand.ensures.1 in
    rw (p.1, p.2) (λ tree e. integrand_ends tree c.in_ok-tower.tower c.in_err-integrand.field-0.0
    (c.in_ok-tower.ensures.value tree.tower (c.as_slice.ensures ∙ ap (λ r. r.tower) e))
    (c.in_err-integrand.ensures.value tree.integrand (c.as_slice-2.ensures ∙ ap (λ r. r.integrand) e)))

pub returns-clause-value : goal.returns-clause-value
returns-clause-value c = λ tree e. problem_is tree c.in_ok-tower.tower c.in_ok-integrand.integrand
    (c.in_ok-tower.ensures.value tree.tower (c.as_slice.ensures ∙ ap (λ r. r.tower) e))
    (c.in_ok-integrand.ensures.value tree.integrand (c.as_slice-2.ensures ∙ ap (λ r. r.integrand) e))
