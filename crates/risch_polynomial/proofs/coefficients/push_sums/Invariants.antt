use Rattle.std.proofs.Common.{◌≡◌, drop}
use Rattle.risch_polynomial.specs.Poly as poly
use Rattle.risch_polynomial.proofs.coefficients.push_sums.Given as goal

abbrev pub invariant-loop-i : goal.invariant-loop-i
invariant-loop-i g l =
    poly.sum_onto g.E.Arith.ops l.fn.sums.items l.left l.right ≡ poly.sum_onto g.E.Arith.ops l.sums.items (drop l.i l.left) (drop l.i l.right)
