use Rattle.std.proofs.Common.{◌≡◌, ◌≤◌, length}
use Rattle.risch_expression.specs.Words.{after_blanks}
use Rattle.risch_expression.proofs.words.past_blanks.Given as goal

abbrev pub invariant-loop-byte : goal.invariant-loop-byte
invariant-loop-byte l = (after_blanks l.rest ≡ after_blanks l.bytes) × (length l.rest ≤ length l.bytes)

abbrev pub decreases-loop-byte : goal.decreases-loop-byte
decreases-loop-byte l = length l.rest
