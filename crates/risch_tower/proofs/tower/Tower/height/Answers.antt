use Rattle.risch_tower.proofs.TowerLevels.{are-tower}
use Rattle.risch_tower.proofs.tower.Tower.height.Goals as goal

pub returns-clause-is_tower : goal.returns-clause-is_tower
returns-clause-is_tower c = rw (← c.self.view_is) (are-tower c.self.inside.levels.items c.self.invariant.3)
