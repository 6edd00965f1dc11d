use Rattle.std.proofs.Common.{arith}
use Rattle.risch_tower.proofs.TowerLevels.{no-levels}
use Rattle.risch_tower.proofs.tower.Tower.new.Goals as goal

pub invariant_of-result : goal.invariant_of-result
invariant_of-result c = rw c.new.ensures.items (c.rate_of_x-2.ensures, (cc), omega arith, no-levels)
