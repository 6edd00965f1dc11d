use Rattle.risch_element_theory.proofs.Levels.{level_means, level_lies, level_same}
use Rattle.risch_element_theory.proofs.elements_stand_for_a_field.Goals as goal

-- The laws of every level.
pub returns : goal.returns
returns c = record { rules = level_means; lies = level_lies; same = level_same }
