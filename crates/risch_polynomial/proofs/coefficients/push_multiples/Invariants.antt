use Rattle.std.proofs.Common.{◌≡◌, ◌+◌, drop}
use Rattle.risch_polynomial.specs.Poly as poly
use Rattle.risch_polynomial.proofs.coefficients.push_multiples.Given as goal

abbrev pub invariant-loop-i : goal.invariant-loop-i
invariant-loop-i g l =
    poly.multiples_onto g.E.Arith.ops l.fn.multiples.items 1 l.items ≡ poly.multiples_onto g.E.Arith.ops l.multiples.items (1 + l.i) (drop l.i l.items)
