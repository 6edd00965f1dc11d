use Rattle.std.proofs.Common.{◌≡◌, drop}
use Rattle.risch_polynomial.specs.Poly as poly
use Rattle.risch_polynomial.proofs.coefficients.same_items.Given as goal

abbrev pub invariant-loop-i : goal.invariant-loop-i
invariant-loop-i g l = poly.same g.E.Arith.ops l.left l.right ≡ poly.same g.E.Arith.ops (drop l.i l.left) (drop l.i l.right)
