use Rattle.std.proofs.Common.{◌+◌, refl}
use Rattle.risch_element_theory.proofs.ElementWithin.{zero-element-within}
use Rattle.risch_hermite.proofs.reduction.start.Goals as goal

pub returns-clause-rule : goal.returns-clause-rule
returns-clause-rule c = rw (c.zero-sum.ensures, c.in_ok-numerator.ensures.rule, c.in_ok-denominator.ensures.rule) refl

pub returns-clause-within : goal.returns-clause-within
returns-clause-within c =
    (c.in_ok-denominator.ensures.within c.requires.within, c.in_ok-numerator.ensures.within c.requires.within, rw c.zero-sum.ensures (zero-element-within (c.args.level + 1)))
