use Rattle.risch_element_rows.proofs.reductions.monic.Goals as goal

pub returns-in-Ok-clause-within : goal.returns-in-Ok-clause-within
returns-in-Ok-clause-within c n all = c.gcd.ensures.within n all (c.in-Ok.ensures.within n (rw c.new.ensures tt))
