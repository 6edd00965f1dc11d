use Rattle.std.proofs.Common.{◌≡◌, ◌++◌, take}
use Rattle.risch_rootsum.specs.Algebra.{modulus}
use Rattle.risch_rootsum.proofs.algebra.push_numbers.Given as goal

abbrev pub invariant-loop-fraction : goal.invariant-loop-fraction
invariant-loop-fraction l = l.to.items ≡ l.fn.to.items ++ modulus (take l.fraction-index l.from)
