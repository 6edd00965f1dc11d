use Rattle.std.proofs.lemmas.Result.{err_from_is_err_and}
use Rattle.risch_text.proofs.Answers.{certified_valued, certified_fault}
use Rattle.risch_text.proofs.CertifiedValues.{over_if_read}
use Rattle.risch_text.proofs.WrittenValues.{certified_if_written}
use Rattle.risch_text.proofs.reading.certified.Goals as goal

pub returns-in_err-program-clause-value : goal.returns-in_err-program-clause-value
returns-in_err-program-clause-value c =
    let p = err_from_is_err_and c.from_residual.result c.from_residual.ensures.1 in
    rw (p.1, p.2) (certified_fault c.args.bytes.now c.in_err-program.field-0.0 c.in_err-program.ensures.fault)

pub certified_if_read-requires : goal.certified_if_read-requires
certified_if_read-requires c = over_if_read _ c.in_ok-program.program c.in_ok-program.ensures.read

pub returns-clause-value : goal.returns-clause-value
returns-clause-value c = certified_valued c.args.bytes.now c.in_ok-program.program c.certified_if_read.result c.in_ok-program.ensures.read c.certified_if_read.ensures

pub returns-clause-written : goal.returns-clause-written
returns-clause-written c = certified_if_written c.args.bytes.now c.in_ok-program.program c.certified_if_read.result c.in_ok-program.ensures.read c.certified_if_read.ensures
