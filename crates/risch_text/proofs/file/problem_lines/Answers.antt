use Rattle.std.proofs.lemmas.Result.{err_from_is_err_and}
use Rattle.risch_text.proofs.TowerLines.{tower_lines_fault, integrand_fault, problem_read}
use Rattle.risch_text.proofs.file.problem_lines.Goals as goal

pub returns-in_err-tower-clause-fault : goal.returns-in_err-tower-clause-fault
returns-in_err-tower-clause-fault c =
    let p = err_from_is_err_and c.from_residual.result c.from_residual.ensures.1 in
    rw (p.1, p.2) (tower_lines_fault c.args.lines.now c.in_err-tower.field-0.0 c.in_err-tower.ensures.fault)

pub returns-in_err-integrand-clause-fault : goal.returns-in_err-integrand-clause-fault
returns-in_err-integrand-clause-fault c =
    let p = err_from_is_err_and c.from_residual-in_err-integrand.result c.from_residual-in_err-integrand.ensures.1 in
    rw (p.1, p.2) (integrand_fault c.args.lines.now c.tower_lines.new.lines c.in_ok-tower.tower c.in_ok-tower.ensures.read c.in_err-integrand.field-0.0
    (rw (c.monomials-names.ensures, c.len.ensures) at c.in_err-integrand.ensures.fault))

pub returns-clause-read : goal.returns-clause-read
returns-clause-read c =
    problem_read c.args.lines.now c.tower_lines.new.lines c.in_ok-tower.tower c.in_ok-tower.ensures.read c.in_ok-integrand.integrand c.expression_line.new.self
    (rw (c.monomials-names.ensures, c.len.ensures) at c.in_ok-integrand.ensures.read)
