use Rattle.std.proofs.Common.{arith}
use Rattle.risch_element_theory.specs.WholeTower.{polynomial}
use Rattle.risch_monomial.proofs.LevelElements.{at-some, not-nil}
use Rattle.risch_hermite.specs.declared.partial.Partial.{Partial}
use Rattle.risch_hermite.proofs.HermiteStep.{step-reduces}
use Rattle.risch_hermite.proofs.step.step_by.Goals as goal

pub next_sum-requires : goal.next_sum-requires
next_sum-requires c =
    let low = c.level_of.ensures.low in
    let degree = c.requires.degree in
    record { level = omega arith; some = omega arith; positive = c.requires.positive; part_within = c.requires.part_within; top_within = c.requires.top_within; sum_within = c.requires.sum_within }

pub next_numerator-requires : goal.next_numerator-requires
next_numerator-requires c = record { level = c.requires.level; cofactor_within = c.requires.cofactor_within; top_within = c.requires.top_within; other_within = c.requires.other_within }

pub returns-clause-meaning : goal.returns-clause-meaning
returns-clause-meaning c = λ f.
    let level = c.args.level in
    let v = c.args.part.now in
    let degree = c.requires.degree in
    let after : Partial = record { sum = c.in_ok-sum.sum; numerator = c.in_ok-numerator.numerator } in
    let some = at-some level v c.level_of.ensures.low c.inner-part_inner.ensures.normal c.requires.part_within (not-nil v (omega arith)) in
    step-reduces c.args.tower.now level c.level_of.ensures f (polynomial c.args.cofactor.now) (polynomial v) c.args.exponent c.args.solution.now.0 c.args.solution.now.1 c.args.partial.now after c.requires.positive some c.requires.solves
    c.in_ok-sum.ensures.meaning c.in_ok-numerator.ensures.meaning

pub returns-clause-within : goal.returns-clause-within
returns-clause-within c = (c.in_ok-numerator.ensures.within, c.in_ok-sum.ensures.within)
