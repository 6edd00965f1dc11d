use Rattle.std.proofs.Common.{◌≡◌, ◌≤◌, ◌*◌, take}
use Rattle.risch_polynomial.specs.Poly as poly
use Rattle.risch_polynomial.proofs.coefficients.weigh.Given as goal

abbrev pub invariant-loop-coefficient : goal.invariant-loop-coefficient
invariant-loop-coefficient g l = record {
  value : l.weight ≡ poly.weight g.E.Arith.ops (take l.coefficient-index l.coefficients);
  small : l.weight ≤ 65536 * l.coefficient-index;
}
