use Rattle.risch_hermite.proofs.step.negative_sum.Goals as goal

pub returns-clause-rule : goal.returns-clause-rule
returns-clause-rule c = rw (c.in_ok-neg.ensures.rule, c.in_ok-neg-2.ensures.rule) at c.add-3.ensures.rule

pub returns-clause-meaning : goal.returns-clause-meaning
returns-clause-meaning c = rw (c.in_ok-neg.ensures.meaning, c.in_ok-neg-2.ensures.meaning) at c.add-3.ensures.meaning

pub returns-clause-within : goal.returns-clause-within
returns-clause-within c = λ n a b. c.add-3.ensures.within n (c.in_ok-neg.ensures.within n a) (c.in_ok-neg-2.ensures.within n b)
