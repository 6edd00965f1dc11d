use Rattle.std.proofs.Common.{◌≡◌, ◌++◌, map}
use Rattle.risch_nest.proofs.forms.push_unwrapped.Given as goal

abbrev pub invariant-loop-element : goal.invariant-loop-element
invariant-loop-element g l = l.to.items ≡ l.fn.to.items ++ map g.W.HasForm.opened l.yielded
