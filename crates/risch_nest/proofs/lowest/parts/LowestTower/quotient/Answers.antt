use Rattle.risch_nest.proofs.lowest.parts.LowestTower.quotient.Goals as goal

pub returns : goal.returns
returns c = rw (c.formed.ensures, ← c.in_ok-num.ensures, ← c.in_ok-den.ensures) c.quotient.ensures
