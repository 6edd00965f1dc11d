use Rattle.std.proofs.Common.{◌≡◌, ◌++◌, take}
use Rattle.risch_tower.proofs.level.push_copies.Given as goal

abbrev pub invariant-loop-level : goal.invariant-loop-level
invariant-loop-level l = l.to.items ≡ l.fn.to.items ++ take l.level-index l.from
