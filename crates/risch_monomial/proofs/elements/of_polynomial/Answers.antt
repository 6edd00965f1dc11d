use Rattle.std.proofs.Common.{◌≡◌, false, arith}
use Rattle.risch_element_theory.proofs.ElementWithin.{one-element-within}
use Rattle.risch_level.specs.Levels.{Element, element}
use Rattle.risch_element_theory.specs.WholeTower.{meaning, polynomial}
use Rattle.risch_monomial.specs.LevelElements.{at, of_polynomial}
use Rattle.risch_monomial.proofs.LevelElements.{agreed, not-nil, of_polynomial-stands, value-some}
use Rattle.risch_monomial.proofs.elements.of_polynomial.Goals as goal

pub quotient-requires-clause-some : goal.quotient-requires-clause-some
quotient-requires-clause-some c = rw c.in_ok-one.ensures (omega arith)

pub quotient-requires-clause-den_within : goal.quotient-requires-clause-den_within
quotient-requires-clause-den_within c = rw c.in_ok-one.ensures (one-element-within c.args.level, tt)

pub returns-clause-rule : goal.returns-clause-rule
unfolding of_polynomial
returns-clause-rule c = rw c.in_ok-one.ensures at c.quotient.ensures.rule

pub returns-clause-some : goal.returns-clause-some
unfolding of_polynomial
returns-clause-some c = λ some.
    let level = c.args.level in
    let p = c.args.poly.now in
    let rule = rw c.in_ok-one.ensures at c.quotient.ensures.rule in
    agreed (λ (e : Element). element.is_zero e ≡ false) c.quotient.result (of_polynomial level p) rule
    (λ e is. value-some level p e (omega arith) c.inner-inner.ensures.normal c.requires.within (not-nil p some) (of_polynomial-stands level p e (omega arith) c.inner-inner.ensures.normal c.requires.within is))

pub returns-clause-meaning : goal.returns-clause-meaning
unfolding of_polynomial
returns-clause-meaning c =
    let level = c.args.level in
    let p = c.args.poly.now in
    let rule = rw c.in_ok-one.ensures at c.quotient.ensures.rule in
    agreed (λ (e : Element). meaning e ≡ at level (polynomial p)) c.quotient.result (of_polynomial level p) rule
    (λ e is. (of_polynomial-stands level p e (omega arith) c.inner-inner.ensures.normal c.requires.within is).value)
