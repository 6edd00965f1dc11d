-- The test for 0, at 0.
use Rattle.std.proofs.Common.{◌≡◌, true, refl}
use Rattle.risch_level.specs.Levels.{element}

pub zero_told : element.is_zero element.zero ≡ true
unfolding element
zero_told = refl
