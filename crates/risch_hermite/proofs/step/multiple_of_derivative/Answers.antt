use Rattle.std.proofs.Common.{arith}
use Rattle.risch_monomial.proofs.LevelPolynomials.{derivative-stands}
use Rattle.risch_hermite.proofs.step.multiple_of_derivative.Goals as goal

pub returns-clause-meaning : goal.returns-clause-meaning
returns-clause-meaning c =
    let level = c.args.level in
    let derived = derivative-stands c.args.tower.now level c.args.of.now c.in_ok-derivative.derivative c.level_of.ensures c.inner-of_inner.ensures.normal c.requires.of_within c.inner-derivative_inner.ensures.normal
    (c.in_ok-derivative.ensures.within level (omega arith) c.requires.of_within) c.in_ok-derivative.ensures.meaning in
    rw derived at c.mul.ensures.meaning

pub returns-clause-within : goal.returns-clause-within
returns-clause-within c =
    let level = c.args.level in
    c.mul.ensures.within level c.requires.by_within (c.in_ok-derivative.ensures.within level (omega arith) c.requires.of_within)
