use Rattle.std.proofs.Common.{sym}
use Rattle.risch_tower.proofs.SameLevels.{same_levels-lengths}
use Rattle.risch_tower.proofs.level.same_levels.Goals as goal

pub returns-then-left-right : goal.returns-then-left-right
returns-then-left-right c = sym (same_levels-lengths c.args.left.now c.args.right.now c.if-left-right.true)
