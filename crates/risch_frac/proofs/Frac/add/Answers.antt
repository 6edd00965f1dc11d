use Rattle.std.proofs.Common.{rules}
use Rattle.risch_frac.specs.Fraction as spec
use Rattle.risch_frac.proofs.Frac.add.Goals as goal

pub returns-in_err-den : goal.returns-in_err-den
unfolding spec.sum
returns-in_err-den c = search rules depth 9
