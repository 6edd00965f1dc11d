use Rattle.risch_element_theory.specs.ElementDerivation.{derive_element}
use Rattle.risch_nest.proofs.nest.derivation.NestDerive.derive.Goals as goal

pub returns : goal.returns
unfolding derive_element
returns c = rw (c.formed.ensures, ← c.rates.view_is, ← c.self.view_is) c.derive.ensures
