use Rattle.std.proofs.Common.{Ok, length, ap, sym, subst, arith, ◌∙◌}
use Rattle.risch_element_theory.specs.WholeTower.{AllWithin}
use Rattle.risch_element_theory.proofs.ElementPolynomials.{solve-stands}
use Rattle.risch_element_theory.proofs.PolynomialsWithin.{left_solution-within, right_solution-within}
use Rattle.risch_elem.proofs.polynomial.Poly.solve_mod.Goals as goal

pub returns-clause-meaning : goal.returns-clause-meaning
returns-clause-meaning c =
    let a-length = ap length c.a.view_is in
    let large = c.requires.degree in
    rw (← c.a.view_is, ← c.b.view_is, ← c.c.view_is, c.kept-left.ensures, c.kept-right.ensures)
    (solve-stands c.a.inside.inner c.b.inside.inner c.c.inside.inner c.in-Some.left c.in-Some.right c.a.invariant c.b.invariant c.c.invariant (omega (arith, a-length, large)) (c.in_ok-left.ensures ∙ ap Ok c.in-Some.is))

pub returns-clause-within : goal.returns-clause-within
returns-clause-within c n within_a within_b within_c =
    let a-within = subst (AllWithin n) (sym c.a.view_is) within_a in
    let b-within = subst (AllWithin n) (sym c.b.view_is) within_b in
    let c-within = subst (AllWithin n) (sym c.c.view_is) within_c in
    let is = c.in_ok-left.ensures ∙ ap Ok c.in-Some.is in (
      subst (AllWithin n) (sym c.kept-left.ensures) (left_solution-within n c.a.inside.inner c.b.inside.inner c.c.inside.inner c.in-Some.left c.in-Some.right a-within b-within c-within is),
      subst (AllWithin n) (sym c.kept-right.ensures) (right_solution-within n c.a.inside.inner c.b.inside.inner c.c.inside.inner c.in-Some.left c.in-Some.right a-within b-within c-within is),
    )
