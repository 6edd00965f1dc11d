use Rattle.risch_mean.proofs.DerivationUniqueness.{derivation_unique}
use Rattle.risch_mean.proofs.derivation_is_unique.Goals as goal

pub returns : goal.returns
returns c = derivation_unique
