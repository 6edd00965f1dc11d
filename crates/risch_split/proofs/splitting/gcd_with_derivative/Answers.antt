use Rattle.std.proofs.Common.{List, arith}
use Rattle.std.proofs.lemmas.Result.{IfOk-weaker}
use Rattle.risch_level.specs.Levels.{Element}
use Rattle.risch_element_theory.specs.ElementPolynomials.{IsMonicGcd}
use Rattle.risch_monomial.proofs.LevelPolynomials.{derivative-stands}
use Rattle.risch_monomial.proofs.MonicPolynomials.{monic-length}
use Rattle.risch_split.specs.SplittingSteps.{IsGcdWithDerivative}
use Rattle.risch_split.proofs.SpecialFactors.{derivative-gcd}
use Rattle.risch_split.proofs.splitting.gcd_with_derivative.Goals as goal

pub gcd-requires : goal.gcd-requires
gcd-requires c = let some = monic-length c.args.poly.now c.requires.monic in omega (arith, some)

pub returns-clause-meaning : goal.returns-clause-meaning
returns-clause-meaning c =
    let tower = c.args.tower.now in
    let level = c.args.level in
    let d = c.args.poly.now in
    let d' = c.in_ok-derivative.derivative in
    let derived = derivative-stands tower level d d' c.level_of.ensures c.inner-inner.ensures.normal c.requires.within c.inner-derivative_inner.ensures.normal
    (c.in_ok-derivative.ensures.within level (omega arith) c.requires.within) c.in_ok-derivative.ensures.meaning in
    IfOk-weaker c.gcd.result (λ (it : List Element). IsMonicGcd d d' it) (λ (it : List Element). IsGcdWithDerivative tower level d it) (λ it. derivative-gcd tower level d d' it derived) c.gcd.ensures.meaning

pub returns-clause-within : goal.returns-clause-within
returns-clause-within c =
    let level = c.args.level in
    let d = c.requires.within in
    c.gcd.ensures.within level d (c.in_ok-derivative.ensures.within level (omega arith) d)
