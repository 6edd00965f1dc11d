use Rattle.std.proofs.Common.{List, Some, sym, ◌∙◌, ap, arith}
use Rattle.std.proofs.lemmas.Result.{IfOk-weaker}
use Rattle.risch_ring.specs.CommRing.{of_nat}
use Rattle.risch_mean.specs.ElementField.{elements}
use Rattle.risch_field.specs.Checked.{map_ok}
use Rattle.risch_level.specs.Levels.{Element}
use Rattle.risch_element_theory.specs.ElementPolynomials.{◌+ₚ◌, ◌*ₚ◌, IsSolution}
use Rattle.risch_element_theory.specs.WholeTower.{meaning, polynomial}
use Rattle.risch_hermite.specs.HermiteMeaning.{IsStepSolution}
use Rattle.risch_hermite.proofs.HermiteStep.{multiple-coprime, solved-equation}
use Rattle.risch_hermite.proofs.StepRules.{solution-agrees, right-stops}
use Rattle.risch_hermite.proofs.step.solution.Goals as goal

pub solve_mod-requires-clause-coprime : goal.solve_mod-requires-clause-coprime
solve_mod-requires-clause-coprime c =
    multiple-coprime c.args.tower.now c.args.level (polynomial c.args.cofactor.now) (polynomial c.args.part.now) (polynomial c.in_ok-middle.middle) c.requires.coprime c.requires.normal c.in_ok-middle.ensures.meaning

pub returns-in_err-right-clause-rule : goal.returns-in_err-right-clause-rule
returns-in_err-right-clause-rule c =
    let stops = right-stops c.in_err-right.field-0.0 c.args.tower.now c.args.level c.args.cofactor.now c.args.part.now c.args.numerator.now c.in_ok-middle.middle c.args.exponent c.negative_inverse-factor.result
    c.negative_inverse-factor.ensures.value c.in_ok-middle.ensures.rule c.in_err-right.ensures.rule in
    grind (arith, stops)

pub returns-clause-rule : goal.returns-clause-rule
returns-clause-rule c =
    solution-agrees c.args.tower.now c.args.level c.args.cofactor.now c.args.part.now c.args.numerator.now c.in_ok-middle.middle c.in_ok-right.right c.args.exponent c.negative_inverse-factor.result (map_ok Some c.solve_mod.result)
    c.negative_inverse-factor.ensures.value c.in_ok-middle.ensures.rule c.in_ok-right.ensures.rule c.solve_mod.ensures.rule

pub returns-clause-meaning : goal.returns-clause-meaning
returns-clause-meaning c =
    let v = polynomial c.args.part.now in
    let a = polynomial c.args.numerator.now in
    let k = meaning c.negative_inverse-factor.result in
    let j = of_nat elements.ring c.args.exponent in
    IfOk-weaker c.solve_mod.result (λ (it : List Element × List Element). IsSolution c.args.part.now c.in_ok-middle.middle c.in_ok-right.right it)
    (λ (it : List Element × List Element). IsStepSolution c.args.tower.now c.args.level (polynomial c.args.cofactor.now) v c.args.exponent a (polynomial it.0) (polynomial it.1))
    (λ it s. record {
      equation = solved-equation j k a _ c.negative_inverse-factor.ensures.meaning (ap (λ m. m *ₚ polynomial it.0 +ₚ v *ₚ polynomial it.1) (sym c.in_ok-middle.ensures.meaning) ∙ s.equation ∙ c.in_ok-right.ensures.meaning);
    })
    c.solve_mod.ensures.meaning

pub returns-clause-within : goal.returns-clause-within
returns-clause-within c =
    let level = c.args.level in
    c.solve_mod.ensures.within level c.requires.part_within c.in_ok-middle.ensures.within (c.in_ok-right.ensures.within level (c.negative_inverse-factor.ensures.within level) c.requires.numerator_within)
