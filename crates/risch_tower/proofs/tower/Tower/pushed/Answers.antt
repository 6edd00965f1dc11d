use Rattle.std.proofs.Common.{◌+◌, ◌-◌, ◌≡◌, length, slice_index_or, ap, arith}
use Rattle.risch_tower.proofs.LevelPlaces.{monomial-there}
use Rattle.risch_tower.proofs.TowerLevels.{level-there}
use Rattle.risch_tower.proofs.tower.Tower.pushed.Goals as goal

pub returns-clause-value : goal.returns-clause-value
returns-clause-value c =
    let levels = c.self.inside.levels.items in
    let same : length levels ≡ length c.args.self.now = ap length c.self.view_is in
    let there : c.index.result.now ≡ slice_index_or levels (c.args.level - 1) c.index.result.now = rw (← c.from.ensures) c.index.ensures in
    rw (← c.self.view_is) (monomial-there levels (c.args.level - 1) c.index.result.now (omega arith) there)

pub returns-clause-within : goal.returns-clause-within
returns-clause-within c =
    let levels = c.self.inside.levels.items in
    let same : length levels ≡ length c.args.self.now = ap length c.self.view_is in
    let there = level-there 1 levels (c.from.result - 1) c.index.result.now c.self.invariant.3.are_levels (omega arith) c.index.ensures in
    let place : 1 + (c.from.result - 1) ≡ c.args.level = omega arith in
    rw place at there.argument_within
