use Rattle.std.proofs.Common.{◌≡◌, ◌++◌, map}
use Rattle.risch_nest.proofs.forms.push_wrapped.Given as goal

abbrev pub invariant-loop-form : goal.invariant-loop-form
invariant-loop-form g l = l.to.items ≡ l.fn.to.items ++ map g.W.HasForm.of l.yielded
