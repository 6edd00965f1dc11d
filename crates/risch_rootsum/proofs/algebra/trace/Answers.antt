use Rattle.std.proofs.Common.{◌≡◌}
use Rattle.risch_field.specs.Checked.{Agrees}
use Rattle.risch_mean.specs.ElementPolynomials.{trace_modulo}
use Rattle.risch_polynomial_theory.specs.Meaning.{AllValid}
use Rattle.risch_level.specs.Levels.{Element}
use Rattle.risch_element_theory.specs.WholeTower.{IsElement, meaning, Within}
use Rattle.risch_rootsum.specs.Algebra.{trace}
use Rattle.risch_rootsum.specs.AlgebraMeaning.{below, member}
use Rattle.risch_rootsum.proofs.Agreement.{agreed}
use Rattle.risch_rootsum.proofs.AlgebraRules.{trace-stands, trace-within}
use Rattle.risch_rootsum.proofs.algebra.trace.Goals as goal

pub returns-clause-meaning : goal.returns-clause-meaning
returns-clause-meaning c =
    let R = c.args.poly.now in
    let u = c.args.u.now in
    let all : AllValid IsElement u = rw c.as_slice.ensures at c.all_normal.ensures in
    let agrees : Agrees c.trace.result (trace R u) = rw (c.in_ok-argument.ensures, c.as_slice-2.ensures, c.in_ok-modulus.ensures.value) at c.trace.ensures in
    agreed (λ (e : Element). meaning e ≡ trace_modulo (below R) (member R u)) c.trace.result (trace R u) agrees
    (trace-stands R c.requires.modulus c.in_ok-modulus.ensures.normal u all c.requires.member)

pub returns-clause-within : goal.returns-clause-within
returns-clause-within c n all =
    let R = c.args.poly.now in
    let u = c.args.u.now in
    let agrees : Agrees c.trace.result (trace R u) = rw (c.in_ok-argument.ensures, c.as_slice-2.ensures, c.in_ok-modulus.ensures.value) at c.trace.ensures in
    agreed (Within n) c.trace.result (trace R u) agrees (λ e is. trace-within n R u e all is)
