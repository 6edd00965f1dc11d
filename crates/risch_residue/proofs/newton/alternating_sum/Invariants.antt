use Rattle.std.proofs.Common.{◌≡◌, false, drop, reverse}
use Rattle.risch_level.specs.Levels.{element}
use Rattle.risch_logarithm_rules.specs.Newton.{alternating_sum}
use Rattle.risch_residue.proofs.newton.alternating_sum.Given as goal

abbrev pub invariant-loop-j : goal.invariant-loop-j
invariant-loop-j l = alternating_sum false element.zero (reverse l.es) l.traces ≡ alternating_sum l.minus l.total (drop l.j (reverse l.es)) (drop l.j l.traces)
