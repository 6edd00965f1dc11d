use Rattle.risch_element_theory.proofs.Coprimality.{inverse-told}
use Rattle.risch_elem.proofs.polynomial.Poly.is_coprime.Goals as goal

-- There is an inverse exactly where they are coprime.
pub returns-clause-meaning : goal.returns-clause-meaning
returns-clause-meaning c = rw (c.is_some.ensures) (inverse-told c.args.other.now c.args.self.now c.in_ok-inverse.inverse c.in_ok-inverse.ensures.meaning)
