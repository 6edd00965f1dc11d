use Rattle.risch_tower.proofs.SameLevels.{same_levels-told}
use Rattle.risch_tower.proofs.tower.Tower.same.Goals as goal

pub returns-clause-means : goal.returns-clause-means
returns-clause-means c =
    rw (c.same_levels.ensures, c.deref.ensures.value, c.deref-2.ensures.value, ← c.self.view_is, ← c.other.view_is)
    (same_levels-told 1 c.self.inside.levels.items c.other.inside.levels.items c.self.invariant.3.are_levels c.other.invariant.3.are_levels)
