use Rattle.std.proofs.Common.{◌+◌, ◌-◌, ◌≡◌, length, slice_index_or, ap, arith}
use Rattle.risch_mean.specs.Tower.{primitive}
use Rattle.risch_element_theory.proofs.ElementWithin.{one-element-within}
use Rattle.risch_element_theory.proofs.ElementDerivation.{one-stands}
use Rattle.risch_tower.specs.TowerMeaning.{monomials}
use Rattle.risch_tower.proofs.LevelPlaces.{rate-there}
use Rattle.risch_tower.proofs.TowerLevels.{level-there, kind-there}
use Rattle.risch_tower.proofs.tower.Tower.rate.Goals as goal

pub returns-then-level-eq0-clause-within : goal.returns-then-level-eq0-clause-within
returns-then-level-eq0-clause-within c = rw c.self.invariant.0 (one-element-within c.args.level)

pub returns-then-level-eq0-clause-means : goal.returns-then-level-eq0-clause-means
returns-then-level-eq0-clause-means c = rw (c.self.invariant.0, c.if-level-eq0.true) (ap primitive one-stands)

pub returns-clause-value : goal.returns-clause-value
returns-clause-value c =
    let levels = c.self.inside.levels.items in
    let same : length levels ≡ length c.args.self.now = ap length c.self.view_is in
    let there : c.index.result.now ≡ slice_index_or levels (c.args.level - 1) c.index.result.now = rw (← c.from.ensures) c.index.ensures in
    rw (← c.self.view_is) (rate-there levels c.args.level c.index.result.now (omega arith) (omega arith) there)

pub returns-clause-within : goal.returns-clause-within
returns-clause-within c =
    let levels = c.self.inside.levels.items in
    let same : length levels ≡ length c.args.self.now = ap length c.self.view_is in
    let there = level-there 1 levels (c.from.result - 1) c.index.result.now c.self.invariant.3.are_levels (omega arith) c.index.ensures in
    let place : 1 + (c.from.result - 1) ≡ c.args.level = omega arith in
    rw place at there.eta_within

pub returns-clause-means : goal.returns-clause-means
returns-clause-means c =
    let levels = c.self.inside.levels.items in
    let same : length levels ≡ length c.args.self.now = ap length c.self.view_is in
    let there = kind-there (monomials levels) 1 levels (c.from.result - 1) c.index.result.now c.self.invariant.3.have_kinds (omega arith) c.index.ensures in
    let place : 1 + (c.from.result - 1) ≡ c.args.level = omega arith in
    rw (← c.self.view_is, ← place) there
