use Rattle.std.proofs.Common.{◌≡◌, replicate}
use Rattle.risch_polynomial.proofs.coefficients.zeros.Given as goal

abbrev pub invariant-loop-i : goal.invariant-loop-i
invariant-loop-i g l = l.zeros.items ≡ replicate l._i g.E.Arith.ops.zero
