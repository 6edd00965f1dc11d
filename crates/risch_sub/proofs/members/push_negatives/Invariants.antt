use Rattle.std.proofs.Common.{◌≡◌, ◌++◌, map, take}
use Rattle.risch_polynomial.specs.Poly as poly
use Rattle.risch_level.specs.Levels.{element}
use Rattle.risch_sub.proofs.members.push_negatives.Given as goal

abbrev pub invariant-loop-item : goal.invariant-loop-item
invariant-loop-item l = l.to.items ≡ l.fn.to.items ++ map (poly.negatives element) (take l.item-index l.from)
