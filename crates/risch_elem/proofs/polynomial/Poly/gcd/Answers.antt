use Rattle.std.proofs.Common.{length, ap, arith}
use Rattle.risch_element_theory.proofs.ElementPolynomials.{gcd-stands}
use Rattle.risch_elem.proofs.polynomial.Poly.gcd.Goals as goal

pub returns-clause-meaning : goal.returns-clause-meaning
returns-clause-meaning c =
    let p = c.self.inside.inner in
    let q = c.other.inside.inner in
    let p-length = ap length c.self.view_is in
    let q-length = ap length c.other.view_is in
    let some = c.requires in
    rw (← c.self.view_is, ← c.other.view_is, c.kept.ensures) (gcd-stands p q c.in_ok-inner.inner c.self.invariant c.other.invariant (omega (arith, p-length, q-length, some)) c.in_ok-inner.ensures)
