use Rattle.std.proofs.Common.{◌≡◌, ◌++◌, take, map}
use Rattle.risch_level.specs.declared.over.Over.TheVariants.{Below}
use Rattle.risch_level.proofs.tower.push_lifted.Given as goal

abbrev pub invariant-loop-item : goal.invariant-loop-item
invariant-loop-item g l = l.to.items ≡ l.fn.to.items ++ map Below (take l.item-index l.from)
