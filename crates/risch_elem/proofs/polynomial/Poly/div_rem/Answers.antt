use Rattle.std.proofs.Common.{length, ap, arith}
use Rattle.risch_element_theory.proofs.ElementPolynomials.{division-stands}
use Rattle.risch_elem.proofs.polynomial.Poly.div_rem.Goals as goal

pub returns-clause-meaning : goal.returns-clause-meaning
returns-clause-meaning c =
    let q-length = ap length c.by.view_is in
    let some = c.requires in
    rw (← c.self.view_is, ← c.by.view_is, c.kept-quotient.ensures, c.kept-rest.ensures)
    (division-stands c.self.inside.inner c.by.inside.inner c.in_ok-quotient.quotient c.in_ok-quotient.rest c.self.invariant c.by.invariant (omega (arith, q-length, some)) c.in_ok-quotient.ensures)
