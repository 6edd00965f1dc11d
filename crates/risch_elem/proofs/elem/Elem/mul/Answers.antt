use Rattle.risch_element_theory.proofs.ElementLaws.{product-is_element}
use Rattle.risch_elem.proofs.elem.Elem.mul.Goals as goal

pub of-requires : goal.of-requires
of-requires c = product-is_element _ _ _ c.self.invariant c.other.invariant c.in_ok-inner.ensures
