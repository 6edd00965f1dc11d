use Rattle.std.proofs.Common.{refl}
use Rattle.risch_split.proofs.splitting.with_factor.Goals as goal

pub returns-clause-meaning : goal.returns-clause-meaning
returns-clause-meaning c = (refl, c.in_ok-special.ensures.meaning)

pub returns-clause-within : goal.returns-clause-within
returns-clause-within c = λ n f a b. (a, c.in_ok-special.ensures.within n f b)
