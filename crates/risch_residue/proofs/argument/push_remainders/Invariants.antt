use Rattle.std.proofs.Common.{◌≡◌, drop}
use Rattle.risch_logarithm_rules.specs.Logarithms.{remainders_onto}
use Rattle.risch_residue.proofs.argument.push_remainders.Given as goal

abbrev pub invariant-loop-item : goal.invariant-loop-item
invariant-loop-item l = remainders_onto l.fn.to.items l.items l.modulus ≡ remainders_onto l.to.items (drop l.item-index l.items) l.modulus
