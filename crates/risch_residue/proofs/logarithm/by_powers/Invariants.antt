use Rattle.std.proofs.Common.{◌≡◌, ◌-◌, []}
use Rattle.risch_logarithm_rules.specs.Logarithms.{by_powers_from}
use Rattle.risch_residue.proofs.logarithm.by_powers.Given as goal

abbrev pub invariant-loop-exponent : goal.invariant-loop-exponent
invariant-loop-exponent l = by_powers_from l.level 0 l.count [] l.of ≡ by_powers_from l.level l.exponent (l.count - l.exponent) l.elements l.of
