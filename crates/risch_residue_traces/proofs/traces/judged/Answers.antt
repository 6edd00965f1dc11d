use Rattle.std.proofs.lemmas.Result.{err_from_is_err_and}
use Rattle.risch_run.proofs.CountedSteps.{stop-leaves}
use Rattle.risch_residue_traces.proofs.traces.judged.Goals as goal

pub returns-in_err-derivative-clause-leaves : goal.returns-in_err-derivative-clause-leaves
returns-in_err-derivative-clause-leaves c =
    let p = err_from_is_err_and c.from_residual.result c.from_residual.ensures.1 in
    λ count. rw p.1 (stop-leaves p.0 c.in_err-derivative.field-0.0 count p.2)
