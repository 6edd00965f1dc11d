use Rattle.std.proofs.Common.{◌≡◌, ◌++◌, false, drop}
use Rattle.risch_logarithm_rules.specs.Newton.{alternating}
use Rattle.risch_residue.proofs.newton.alternating.Given as goal

abbrev pub invariant-loop-e : goal.invariant-loop-e
invariant-loop-e l = alternating false l.es ≡ l.signs.items ++ alternating l.minus (drop l.e-index l.es)
