-- The monic multiple has its coefficients below the level, as the polynomial has.
use Rattle.risch_element_rows.proofs.reductions.splitting_at.Goals as goal

pub split-requires-clause-within : goal.split-requires-clause-within
split-requires-clause-within c = c.in-Ok.ensures.within c.args.level c.requires.within
