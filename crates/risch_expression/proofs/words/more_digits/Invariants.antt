use Rattle.std.proofs.Common.{◌≡◌, ◌≤◌, length}
use Rattle.risch_expression.specs.Words.{more_digits}
use Rattle.risch_expression.proofs.words.more_digits.Given as goal

abbrev pub invariant-loop-byte : goal.invariant-loop-byte
invariant-loop-byte l = (more_digits l.value l.rest ≡ more_digits l.first l.bytes) × (length l.rest ≤ length l.bytes)

abbrev pub decreases-loop-byte : goal.decreases-loop-byte
decreases-loop-byte l = length l.rest
