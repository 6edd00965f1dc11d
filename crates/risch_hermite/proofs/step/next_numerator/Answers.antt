use Rattle.risch_hermite.proofs.step.next_numerator.Goals as goal

pub returns-clause-meaning : goal.returns-clause-meaning
returns-clause-meaning c = rw (c.in_ok-left.ensures.meaning, c.in_ok-right.ensures.meaning) at c.negative_sum.ensures.meaning

pub returns-clause-within : goal.returns-clause-within
returns-clause-within c = c.negative_sum.ensures.within c.args.level (c.in_ok-left.ensures.within c.args.level c.requires.other_within) c.in_ok-right.ensures.within
