use Rattle.std.proofs.lemmas.Result.{err_from_is_err_and}
use Rattle.risch_text.proofs.RootSums.{parts_begin, parts_more, parts_fault, parts_done}
use Rattle.risch_text.proofs.logarithms.logs_of.Goals as goal

pub loop-program-preserved : goal.loop-program-preserved
loop-program-preserved c =
    parts_more c.args.programs.now c.loop-program.program-index c.loop-program.parts c.loop-program.invariant c.program-item.result c.in_ok-log_of.field-0 c.push.new.self
    c.loop-program-test.true c.program-item.is c.in_ok-log_of.ensures.value c.in_ok-log_of.ensures.form c.in_ok-push.ensures.ok

pub loop-program-init : goal.loop-program-init
loop-program-init c = parts_begin c.args.programs.now c.new-parts.result c.new-parts.ensures

pub returns-in_err-log_of-clause-value : goal.returns-in_err-log_of-clause-value
returns-in_err-log_of-clause-value c =
    let p = err_from_is_err_and c.from_residual.result c.from_residual.ensures.1 in
    rw (p.1, p.2) (parts_fault c.args.programs.now c.loop-program.program-index c.loop-program.parts c.loop-program.invariant c.program-item.result c.in_err-log_of.field-0.0 c.loop-program-test.true c.program-item.is
    c.in_err-log_of.ensures.value)

pub returns-clause-value : goal.returns-clause-value
returns-clause-value c = parts_done c.args.programs.now c.loop-program.program-index c.loop-program.parts c.loop-program.invariant c.loop-program-test.false
