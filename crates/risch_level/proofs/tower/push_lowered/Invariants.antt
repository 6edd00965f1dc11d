use Rattle.std.proofs.Common.{◌≡◌, ◌++◌, take}
use Rattle.risch_level.specs.Tower.{lowered}
use Rattle.risch_level.proofs.tower.push_lowered.Given as goal

abbrev pub invariant-loop-item : goal.invariant-loop-item
invariant-loop-item g l = l.to.items ≡ l.fn.to.items ++ lowered g.E.Arith.ops (take l.item-index l.from)
