use Rattle.std.proofs.Common.{◌+◌, refl, arith}
use Rattle.risch_tower.proofs.TowerLevels.{no-levels}
use Rattle.risch_residue.proofs.LevelsSoFar.{level-so_far}
use Rattle.risch_residue.proofs.setting.are_levels.Goals as goal

pub loop-below-init : goal.loop-below-init
loop-below-init c = no-levels

pub loop-below-preserved : goal.loop-below-preserved
loop-below-preserved c =
    let height = c.height-below-end.ensures in
    let test = c.loop-below-test.true in
    level-so_far c.args.tower.now c.loop-below.below (c.loop-below.below + 1) refl height.is_tower (let small = height.small in let value = height.value in omega (arith, small, value)) (let value = height.value in omega (arith, test, value))
    c.pushed.result.now c.eta.result.now c.pushed.ensures.value c.argument-argument.ensures.normal c.pushed.ensures.within c.eta.ensures.value c.nest-nest.ensures.normal c.eta.ensures.within c.eta.ensures.means c.loop-below.invariant
