use Rattle.std.proofs.Common.{◌≡◌, length}
use Rattle.risch_cert.specs.Texts.{after_digits}
use Rattle.risch_cert.proofs.texts.after_digits.Given as goal

-- What stands behind the digits does not change.
abbrev pub invariant-loop-byte : goal.invariant-loop-byte
invariant-loop-byte l = after_digits l.rest ≡ after_digits l.text

abbrev pub decreases-loop-byte : goal.decreases-loop-byte
decreases-loop-byte l = length l.rest
