use Rattle.std.proofs.Common.{List, arith}
use Rattle.std.proofs.lemmas.Result.{IfOk-weaker}
use Rattle.risch_level.specs.Levels.{Element}
use Rattle.risch_element_theory.specs.ElementPolynomials.{IsMonicGcd}
use Rattle.risch_monomial.proofs.MonicPolynomials.{monic-length}
use Rattle.risch_split.specs.SplittingSteps.{IsGcdWithPartial}
use Rattle.risch_split.proofs.SpecialFactors.{partial-gcd}
use Rattle.risch_split.proofs.splitting.gcd_with_partial.Goals as goal

pub gcd-requires : goal.gcd-requires
gcd-requires c = let some = monic-length c.args.poly.now c.requires in omega (arith, some)

pub returns-clause-meaning : goal.returns-clause-meaning
returns-clause-meaning c =
    let d = c.args.poly.now in
    let p = c.in_ok-partial.partial in
    IfOk-weaker c.gcd.result (λ (it : List Element). IsMonicGcd d p it) (λ (it : List Element). IsGcdWithPartial d it) (λ it. partial-gcd d p it c.in_ok-partial.ensures.meaning) c.gcd.ensures.meaning

pub returns-clause-within : goal.returns-clause-within
returns-clause-within c = λ n w. c.gcd.ensures.within n w (c.in_ok-partial.ensures.within n w)
