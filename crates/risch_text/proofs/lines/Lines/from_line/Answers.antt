use Rattle.std.proofs.Common.{◌≤◌, ◌∙◌, length, ap, sym, arith}
use Rattle.risch_text.specs.Lines.{Front}
use Rattle.risch_text.proofs.Shorter.{after_blanks-short}
use Rattle.risch_text.proofs.Fronts.{after_lines_passed, in_file_is}
use Rattle.risch_text.proofs.lines.Lines.from_line.Goals as goal

pub loop-byte-preserved : goal.loop-byte-preserved
loop-byte-preserved c =
    let shorter = ap length c.in-Some.ensures.cases.0 in (
      sym (after_lines_passed c.loop-byte.in_comment c.loop-byte.line c.loop-byte.start c.loop-byte.rest.now c.in-Some.byte.now c.in-Some.after.now c.in-Some.ensures.cases.0 c.if-byte-eq10.false
          (sym c.is_passed.ensures ∙ c.if-not-is_passed.false)) ∙ c.loop-byte.invariant.0,
      omega arith,
      omega arith,
    )

pub returns-clause-in_file : goal.returns-clause-in_file
returns-clause-in_file c =
    let front : Front = record { rest = c.start.result; line = c.loop-byte.line; start = c.loop-byte.start } in
    let short : length c.start.result ≤ length c.loop-byte.rest.now = rw c.start.ensures (after_blanks-short c.loop-byte.rest.now) in
    in_file_is front (omega arith)
