use Rattle.std.proofs.Common.{◌≡◌, drop}
use Rattle.risch_logarithm_rules.specs.Logarithms.{multiples_onto}
use Rattle.risch_residue.proofs.argument.push_multiples.Given as goal

abbrev pub invariant-loop-item : goal.invariant-loop-item
invariant-loop-item l = multiples_onto l.fn.to.items l.items l.by l.modulus ≡ multiples_onto l.to.items (drop l.item-index l.items) l.by l.modulus
