use Rattle.std.proofs.Common.{◌≡◌, drop}
use Rattle.risch_sub.specs.RemainderSequence.{quotients_onto}
use Rattle.risch_sub.proofs.contents.push_quotients.Given as goal

abbrev pub invariant-loop-item : goal.invariant-loop-item
invariant-loop-item l = quotients_onto l.fn.to.items l.items l.by ≡ quotients_onto l.to.items (drop l.item-index l.items) l.by
