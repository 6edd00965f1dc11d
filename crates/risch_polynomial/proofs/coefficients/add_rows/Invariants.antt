use Rattle.std.proofs.Common.{◌≡◌, drop, vec_len}
use Rattle.risch_polynomial.specs.Poly as poly
use Rattle.risch_polynomial.proofs.coefficients.add_rows.Given as goal

abbrev pub invariant-loop-i : goal.invariant-loop-i
invariant-loop-i g l = record {
  value : poly.rows g.E.Arith.ops l.fn.sums.items 0 l.left l.right ≡ poly.rows g.E.Arith.ops l.sums.items l.i (drop l.i l.left) l.right;
  len : vec_len l.sums ≡ vec_len l.fn.sums;
}
