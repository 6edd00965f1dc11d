use Rattle.risch_mean.proofs.ConstantLaws.{sound_below}
use Rattle.risch_mean.proofs.sound_to_lower_fields.Goals as goal

pub returns : goal.returns
returns c = sound_below
