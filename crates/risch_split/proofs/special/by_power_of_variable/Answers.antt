use Rattle.risch_split.proofs.special.by_power_of_variable.Goals as goal

pub of_polynomial-requires-2-clause-within : goal.of_polynomial-requires-2-clause-within
of_polynomial-requires-2-clause-within c = c.in_ok-power.ensures.within c.args.level
