use Rattle.std.proofs.lemmas.Result.{err_from_is_err_and}
use Rattle.risch_text.proofs.answer.part_line.Goals as goal

pub returns-in_err-part-clause-fault : goal.returns-in_err-part-clause-fault
returns-in_err-part-clause-fault c =
    let p = err_from_is_err_and c.from_residual-in_err-part.result c.from_residual-in_err-part.ensures.1 in
    rw (p.1, p.2) (rw c.monomials.ensures at c.in_err-part.ensures.fault)

pub returns-clause-read : goal.returns-clause-read
returns-clause-read c = rw c.monomials.ensures at c.in_ok-part.ensures.read
