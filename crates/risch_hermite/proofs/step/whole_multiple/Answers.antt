use Rattle.std.proofs.Common.{◌∙◌, ap, arith}
use Rattle.risch_element_theory.specs.WholeTower.{meaning}
use Rattle.risch_element_theory.proofs.ElementPolynomials.{element_interprets}
use Rattle.risch_element_theory.proofs.ElementWithin.{whole-element-within}
use Rattle.risch_hermite.proofs.step.whole_multiple.Goals as goal

pub returns-clause-rule : goal.returns-clause-rule
returns-clause-rule c = rw c.whole.ensures at c.scale-2.ensures.rule

pub returns-clause-meaning : goal.returns-clause-meaning
returns-clause-meaning c =
    let small = c.ranges.exponent.fits in
    let j = ap meaning c.whole.ensures ∙ element_interprets.whole-means c.args.exponent (omega (arith, small)) in
    rw j at c.scale-2.ensures.meaning

pub returns-clause-within : goal.returns-clause-within
returns-clause-within c = λ n w. c.scale-2.ensures.within n (rw c.whole.ensures (whole-element-within n c.args.exponent)) w
