use Rattle.std.proofs.Common.{None, Some, Ok, length, ap, arith, ◌∙◌}
use Rattle.risch_element_theory.proofs.ElementPolynomials.{inverse-stands}
use Rattle.risch_elem.proofs.polynomial.Poly.inverse_mod.Goals as goal

pub returns-in-None-clause-meaning : goal.returns-in-None-clause-meaning
returns-in-None-clause-meaning c =
    let a-length = ap length c.modulus.view_is in
    let large = c.requires in
    rw (← c.self.view_is, ← c.modulus.view_is)
    (inverse-stands c.self.inside.inner c.modulus.inside.inner None c.self.invariant c.modulus.invariant (omega (arith, a-length, large)) (c.in_ok-inverse_mod.ensures ∙ ap Ok c.in-None.is))

pub returns-in-Some-clause-meaning : goal.returns-in-Some-clause-meaning
returns-in-Some-clause-meaning c =
    let a-length = ap length c.modulus.view_is in
    let large = c.requires in
    rw (← c.self.view_is, ← c.modulus.view_is, c.kept.ensures)
    (inverse-stands c.self.inside.inner c.modulus.inside.inner (Some c.in-Some.inner) c.self.invariant c.modulus.invariant (omega (arith, a-length, large)) (c.in_ok-inverse_mod.ensures ∙ ap Ok c.in-Some.is))
