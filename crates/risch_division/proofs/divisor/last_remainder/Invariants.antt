use Rattle.std.proofs.Common.{◌≡◌, ◌+◌, ◌-◌, length}
use Rattle.risch_polynomial.specs.Poly as poly
use Rattle.risch_division.proofs.divisor.last_remainder.Given as goal

abbrev pub invariant-loop-step : goal.invariant-loop-step
invariant-loop-step g l =
    poly.remainders g.E.Arith.ops (length l.fn.right + 1) l.fn.left l.fn.right ≡ poly.remainders g.E.Arith.ops (length l.fn.right + 1 - l._step) l.left l.right
