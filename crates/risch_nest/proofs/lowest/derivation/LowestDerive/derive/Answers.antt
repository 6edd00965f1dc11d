use Rattle.risch_nest.proofs.lowest.derivation.LowestDerive.derive.Goals as goal

pub returns : goal.returns
returns c = rw (c.formed.ensures, ← c.rates.view_is, ← c.self.view_is) c.derive.ensures
