use Rattle.risch_mean.proofs.ConstantLaws.{rational_functions_sound}
use Rattle.risch_mean.proofs.trivial_tower_is_sound.Goals as goal

pub returns : goal.returns
returns c = rational_functions_sound
