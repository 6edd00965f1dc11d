use Rattle.std.proofs.Common.{◌≡◌}
use Rattle.risch_cert.proofs.TermSteps.{terms_among}
use Rattle.risch_cert.proofs.elements.is_sum.Given as goal

-- The coefficients below this exponent that are not 0 are counted.
abbrev pub invariant-loop-exponent : goal.invariant-loop-exponent
invariant-loop-exponent l = l.count ≡ terms_among l.exponent l.polynomial
