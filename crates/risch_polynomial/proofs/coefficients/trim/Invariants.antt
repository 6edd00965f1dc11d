use Rattle.std.proofs.Common.{◌≡◌, ◌≤◌, vec_len}
use Rattle.risch_polynomial.specs.Poly as poly
use Rattle.risch_polynomial.proofs.coefficients.trim.Given as goal

abbrev pub invariant-loop-coefficients : goal.invariant-loop-coefficients
invariant-loop-coefficients g l = record {
  value : poly.trimmed g.E.Arith.ops l.coefficients.items ≡ poly.trimmed g.E.Arith.ops l.fn.coefficients.items;
  shorter : vec_len l.coefficients ≤ vec_len l.fn.coefficients;
}

abbrev pub decreases-loop-coefficients : goal.decreases-loop-coefficients
decreases-loop-coefficients g l = vec_len l.coefficients
