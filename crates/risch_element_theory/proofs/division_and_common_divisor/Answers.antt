use Rattle.risch_mean.specs.ElementField.{elements}
use Rattle.risch_element_theory.proofs.DivisionRule.{division-is_division}
use Rattle.risch_element_theory.proofs.GcdRule.{gcd-is_gcd}
use Rattle.risch_element_theory.proofs.Levels.{level_means}
use Rattle.risch_element_theory.proofs.division_and_common_divisor.Goals as goal

-- The laws of polynomials, at every level.
pub returns : goal.returns
returns c = record {
  division = λ height p q a r v w n e. division-is_division elements (level_means height) p q a r v w n e;
  gcd = λ height p q g v w n e. gcd-is_gcd elements (level_means height) p q g v w n e;
}
