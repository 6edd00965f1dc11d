use Rattle.std.proofs.Common.{◌≡◌, ◌∙◌, ◌+◌, ◌∷◌, [], sym, ap, subst, drop, length, Ok, arith}
use Rattle.risch_mean.specs.Answer.{HasDerivative}
use Rattle.risch_element_theory.specs.WholeTower.{meaning}
use Rattle.risch_element_theory.proofs.ElementDerivation.{derivative-within}
use Rattle.risch_tower.specs.Tower.{derivative, rates_of}
use Rattle.risch_tower.specs.TowerMeaning.{monomials}
use Rattle.risch_rootsum.specs.Derivative.{derive_integral, derivatives_from}
use Rattle.risch_rootsum.specs.DerivativeMeaning.{answer_of}
use Rattle.risch_rootsum.proofs.DerivativeWithin.{derive_integral-within}
use Rattle.risch_rootsum.proofs.IntegralDerivatives.{IsRest, rest-part, next-rest, last-rest}
use Rattle.risch_rootsum.proofs.IntegralSteps.{next-part, no-part, derivatives-more, derivatives-stop, derivatives-sum_stops}
use Rattle.risch_rootsum.proofs.derivative.derive_integral.Goals as goal

pub part_derivative-requires-clause-derivative : goal.part_derivative-requires-clause-derivative
part_derivative-requires-clause-derivative c =
    let logs = c.args.integral.now.logs in
    let i = c.loop-part.part-index in
    let l = c.part-item.result in
    let next = next-part c.as_slice-part-items.result.now logs i l c.as_slice-part-items.ensures c.loop-part-test.true c.part-item.is in
    let tower = monomials c.args.tower.now in
    let f = c.requires.derivative.0 in
    let rest : IsRest tower (l ∷ drop (i + 1) logs) (meaning c.loop-part.total) f = rw next at c.loop-part.invariant.rest f c.requires.derivative.1 in
    rest-part tower l (drop (i + 1) logs) (meaning c.loop-part.total) f rest

pub returns-in_err-derivative-clause-rule : goal.returns-in_err-derivative-clause-rule
returns-in_err-derivative-clause-rule c =
    let logs = c.args.integral.now.logs in
    let i = c.loop-part.part-index in
    let l = c.part-item.result in
    let next = next-part c.as_slice-part-items.result.now logs i l c.as_slice-part-items.ensures c.loop-part-test.true c.part-item.is in
    let stops = derivatives-stop (derivative c.args.tower.now) c.in_err-derivative.field-0.0 c.loop-part.total l (drop (i + 1) logs) c.in_err-derivative.ensures.rule in
    rw (c.loop-part.invariant.rule, next) (grind (arith, stops))

pub returns-in_err-total-2-clause-rule : goal.returns-in_err-total-2-clause-rule
returns-in_err-total-2-clause-rule c =
    let logs = c.args.integral.now.logs in
    let i = c.loop-part.part-index in
    let l = c.part-item.result in
    let next = next-part c.as_slice-part-items.result.now logs i l c.as_slice-part-items.ensures c.loop-part-test.true c.part-item.is in
    let stops =
    derivatives-sum_stops (derivative c.args.tower.now) c.in_err-total-2.field-0.0 c.loop-part.total l (drop (i + 1) logs) c.in_ok-derivative.derivative c.in_ok-derivative.ensures.rule c.in_err-total-2.ensures.rule in
    rw (c.loop-part.invariant.rule, next) (grind (arith, stops))

pub loop-part-preserved : goal.loop-part-preserved
loop-part-preserved c =
    let logs = c.args.integral.now.logs in
    let i = c.loop-part.part-index in
    let l = c.part-item.result in
    let next = next-part c.as_slice-part-items.result.now logs i l c.as_slice-part-items.ensures c.loop-part-test.true c.part-item.is in
    let D = derivative c.args.tower.now in
    let tower = monomials c.args.tower.now in
    let total = c.loop-part.total in
    let d = c.in_ok-derivative.derivative in
    record {
      rule =
          c.loop-part.invariant.rule ∙ ap (derivatives_from D total) next
          ∙ derivatives-more D total l (drop (i + 1) logs) d c.in_ok-total-2.total c.in_ok-derivative.ensures.rule c.in_ok-total-2.ensures.rule;
      rest = λ f h.
          let rest : IsRest tower (l ∷ drop (i + 1) logs) (meaning total) f = rw next at c.loop-part.invariant.rest f h in
          subst (λ t. IsRest tower (drop (i + 1) logs) t f) (sym c.in_ok-total-2.ensures.meaning)
          (next-rest tower l (drop (i + 1) logs) (meaning total) f (meaning d) rest c.in_ok-derivative.ensures.meaning);
    }

pub returns-clause-meaning : goal.returns-clause-meaning
returns-clause-meaning c =
    let logs = c.args.integral.now.logs in
    let none = no-part c.as_slice-part-items.result.now logs c.loop-part.part-index c.as_slice-part-items.ensures c.loop-part-test.false in
    let tower = monomials c.args.tower.now in
    let f = c.requires.derivative.0 in
    let rest : IsRest tower [] (meaning c.loop-part.total) f = rw none at c.loop-part.invariant.rest f c.requires.derivative.1 in
    subst (HasDerivative tower (answer_of c.args.integral.now)) (last-rest tower (meaning c.loop-part.total) f rest) c.requires.derivative.1

pub returns-clause-within : goal.returns-clause-within
returns-clause-within c =
    let logs = c.args.integral.now.logs in
    let none = no-part c.as_slice-part-items.result.now logs c.loop-part.part-index c.as_slice-part-items.ensures c.loop-part-test.false in
    let D = derivative c.args.tower.now in
    let n = length c.args.tower.now + 1 in
    let formed : derive_integral D c.args.integral.now ≡ Ok c.loop-part.total = c.loop-part.invariant.rule ∙ ap (derivatives_from D c.loop-part.total) none in
    derive_integral-within D n (derivative-within (rates_of c.args.tower.now) n) c.args.integral.now c.loop-part.total c.requires.part c.requires.logs formed
