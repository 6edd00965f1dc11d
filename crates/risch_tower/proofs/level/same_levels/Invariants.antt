use Rattle.std.proofs.Common.{◌≡◌, drop}
use Rattle.risch_tower.specs.Tower as spec
use Rattle.risch_tower.proofs.level.same_levels.Given as goal

abbrev pub invariant-loop-i : goal.invariant-loop-i
invariant-loop-i l = spec.same_levels l.left l.right ≡ spec.same_levels (drop l.i l.left) (drop l.i l.right)
