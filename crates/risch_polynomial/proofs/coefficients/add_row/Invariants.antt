use Rattle.std.proofs.Common.{◌≡◌, ◌+◌, drop, vec_len}
use Rattle.risch_polynomial.specs.Poly as poly
use Rattle.risch_polynomial.proofs.coefficients.add_row.Given as goal

abbrev pub invariant-loop-j : goal.invariant-loop-j
invariant-loop-j g l = record {
  value : poly.row g.E.Arith.ops l.minus l.fn.sums.items l.from l.by l.items ≡ poly.row g.E.Arith.ops l.minus l.sums.items (l.from + l.j) l.by (drop l.j l.items);
  len : vec_len l.sums ≡ vec_len l.fn.sums;
}
