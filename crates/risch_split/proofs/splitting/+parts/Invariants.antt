use Rattle.std.proofs.Common.{length}
use Rattle.risch_split.proofs.splitting.+parts.Given as goal

-- The degree falls.
abbrev pub decreases-parts : goal.decreases-parts
decreases-parts l = length l.poly.now
