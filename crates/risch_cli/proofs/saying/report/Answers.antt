use Rattle.std.proofs.Common.{Err, ap, inl, inr}
use Rattle.risch_cli.proofs.Said.{said_passes, said_usage, said_solve, said_sample, integrate_reads, check_reads}
use Rattle.risch_cli.proofs.saying.report.Goals as goal

-- The words ask for nothing.
pub returns-in-Err-Usage-clause-reported : goal.returns-in-Err-Usage-clause-reported
returns-in-Err-Usage-clause-reported g c =
    said_passes _ _ _ _ (λ report e. said_usage _ _ report (c.in-Err-Usage.ensures.usage (ap Err c.in-Err-Usage.field-0-is)) e) c.usage.ensures c.or_no_memory.ensures.report

-- They ask for what is not yet served.
pub returns-in-Solve-clause-reported : goal.returns-in-Solve-clause-reported
returns-in-Solve-clause-reported g c =
    said_passes _ _ _ _
    (λ report e. elim c.in-Solve.is [
      | inl solve ↦ said_solve _ _ c.in-Ok.request report c.in-Ok.ensures.request solve e
      | inr sample ↦ said_sample _ _ c.in-Ok.request report c.in-Ok.ensures.request sample e
    ])
    c.not_yet.ensures c.or_no_memory-in-Solve.ensures.report

-- A read is at fault where they ask for a command that reads.
pub returns-in_err-file-in-Check-clause-asked : goal.returns-in_err-file-in-Check-clause-asked
returns-in_err-file-in-Check-clause-asked g c = λ fault. check_reads _ c.in-Ok.request c.in-Ok.ensures.request c.in-Check.is

pub returns-in_err-file-in-Integrate-clause-asked : goal.returns-in_err-file-in-Integrate-clause-asked
returns-in_err-file-in-Integrate-clause-asked g c = λ fault. integrate_reads _ c.in-Ok.request c.in-Ok.ensures.request c.in-Integrate.is

-- Where the source is read, they ask for such a command.
pub returns-in_err-file-in-Check-clause-unread : goal.returns-in_err-file-in-Check-clause-unread
returns-in_err-file-in-Check-clause-unread g c = λ unasked. absurd (unasked (check_reads _ c.in-Ok.request c.in-Ok.ensures.request c.in-Check.is))

pub returns-in-Some-clause-unread : goal.returns-in-Some-clause-unread
returns-in-Some-clause-unread g c = λ unasked. absurd (unasked (check_reads _ c.in-Ok.request c.in-Ok.ensures.request c.in-Check.is))

pub returns-in-None-clause-unread : goal.returns-in-None-clause-unread
returns-in-None-clause-unread g c = λ unasked. absurd (unasked (check_reads _ c.in-Ok.request c.in-Ok.ensures.request c.in-Check.is))

pub returns-in_err-file-in-Integrate-clause-unread : goal.returns-in_err-file-in-Integrate-clause-unread
returns-in_err-file-in-Integrate-clause-unread g c = λ unasked. absurd (unasked (integrate_reads _ c.in-Ok.request c.in-Ok.ensures.request c.in-Integrate.is))

pub returns-in-Some-2-clause-unread : goal.returns-in-Some-2-clause-unread
returns-in-Some-2-clause-unread g c = λ unasked. absurd (unasked (integrate_reads _ c.in-Ok.request c.in-Ok.ensures.request c.in-Integrate.is))

pub returns-in-None-2-clause-unread : goal.returns-in-None-2-clause-unread
returns-in-None-2-clause-unread g c = λ unasked. absurd (unasked (integrate_reads _ c.in-Ok.request c.in-Ok.ensures.request c.in-Integrate.is))
