use Rattle.risch_element_theory.proofs.DerivationTower.{derive-means}
use Rattle.risch_element_theory.proofs.derivation_of_elements.Goals as goal

-- The rule derives.
pub returns : goal.returns
returns c = derive-means
