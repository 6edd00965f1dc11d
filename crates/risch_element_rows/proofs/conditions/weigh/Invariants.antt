-- The weight of the coefficients before the index, which is at most 65536 for each.
use Rattle.std.proofs.Common.{◌≡◌, ◌≤◌, ◌*◌, take}
use Rattle.risch_polynomial.specs.Poly as poly
use Rattle.risch_level.specs.Levels.{element}
use Rattle.risch_element_rows.proofs.conditions.weigh.Given as goal

abbrev pub invariant-loop-coefficient : goal.invariant-loop-coefficient
invariant-loop-coefficient l = record {
  value : l.weight ≡ poly.weight element (take l.coefficient-index l.coefficients);
  small : l.weight ≤ 65536 * l.coefficient-index;
}
