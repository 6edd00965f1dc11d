use Rattle.std.proofs.Common.{◌≡◌, ◌+◌, drop}
use Rattle.risch_split.specs.Splitting.{least_exponent}
use Rattle.risch_split.proofs.special.least_exponent.Given as goal

-- The coefficients before the index are 0.
abbrev pub invariant-loop-exponent : goal.invariant-loop-exponent
invariant-loop-exponent l = least_exponent l.coefficients ≡ l.exponent + least_exponent (drop l.exponent l.coefficients)
