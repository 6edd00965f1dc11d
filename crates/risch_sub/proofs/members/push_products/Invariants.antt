use Rattle.std.proofs.Common.{◌≡◌, drop}
use Rattle.risch_sub.specs.RemainderSequence.{products_onto}
use Rattle.risch_sub.proofs.members.push_products.Given as goal

abbrev pub invariant-loop-item : goal.invariant-loop-item
invariant-loop-item l = products_onto l.fn.to.items l.by l.items ≡ products_onto l.to.items l.by (drop l.item-index l.items)
