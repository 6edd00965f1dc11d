use Rattle.std.proofs.Common.{◌≡◌, ◌+◌, drop}
use Rattle.risch_check.specs.Checked.{checked_parts}
use Rattle.risch_check.proofs.logarithms.check_parts.Given as goal

abbrev pub invariant-loop-place : goal.invariant-loop-place
invariant-loop-place l = checked_parts l.lines 2 l.parts ≡ checked_parts l.lines (l.place + 2) (drop l.place l.parts)
