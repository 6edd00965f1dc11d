use Rattle.std.proofs.Common.{◌≡◌, ◌++◌, take}
use Rattle.risch_polynomial.specs.Poly as poly
use Rattle.risch_polynomial.proofs.coefficients.push_negatives.Given as goal

abbrev pub invariant-loop-item : goal.invariant-loop-item
invariant-loop-item g l = l.to.items ≡ l.fn.to.items ++ poly.negatives g.E.Arith.ops (take l.item-index l.from)
