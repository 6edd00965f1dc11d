use Rattle.std.proofs.Common.{take}
use Rattle.risch_tower.specs.TowerMeaning.{AreTower}
use Rattle.risch_residue.proofs.setting.are_levels.Given as goal

-- the levels below are those of a tower
abbrev pub invariant-loop-below : goal.invariant-loop-below
invariant-loop-below l = AreTower (take l.below l.tower)
