use Rattle.risch_split.proofs.LeastExponents.{without_variable-within}
use Rattle.risch_split.proofs.special.exponential_constant.Goals as goal

pub by_power_of_variable-requires-clause-within : goal.by_power_of_variable-requires-clause-within
by_power_of_variable-requires-clause-within c = rw c.in_ok-rest.ensures (without_variable-within c.args.level c.args.special.now c.requires.within)
