use Rattle.std.proofs.Common.{◌≡◌, drop}
use Rattle.risch_polynomial.specs.Poly as poly
use Rattle.risch_polynomial.proofs.coefficients.push_scaled.Given as goal

abbrev pub invariant-loop-i : goal.invariant-loop-i
invariant-loop-i g l =
    poly.scaled_onto g.E.Arith.ops l.fn.scaled.items l.by l.items ≡ poly.scaled_onto g.E.Arith.ops l.scaled.items l.by (drop l.i l.items)
