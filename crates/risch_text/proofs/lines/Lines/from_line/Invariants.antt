use Rattle.std.proofs.Common.{◌≡◌, ◌+◌, ◌≤◌, ◌^◌, length}
use Rattle.risch_text.specs.Lines.{after_lines, from_line}
use Rattle.risch_text.proofs.lines.Lines.from_line.Given as goal

abbrev pub invariant-loop-byte : goal.invariant-loop-byte
invariant-loop-byte l =
    (after_lines l.in_comment l.line l.start l.rest ≡ from_line l.fn.line l.bytes) × (l.line + length l.rest ≤ 2 ^ 32) × (length l.rest ≤ length l.bytes)

abbrev pub decreases-loop-byte : goal.decreases-loop-byte
decreases-loop-byte l = length l.rest
