use Rattle.std.proofs.Common.{◌≡◌, ◌++◌, take, map}
use Rattle.risch_nest.proofs.forms.push_copies.Given as goal

abbrev pub invariant-loop-item : goal.invariant-loop-item
invariant-loop-item g l = l.to.items ≡ l.fn.to.items ++ map g.W.HasForm.opened (take l.item-index l.from)
