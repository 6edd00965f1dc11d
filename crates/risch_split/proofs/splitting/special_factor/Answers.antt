use Rattle.std.proofs.Common.{◌≡◌, List}
use Rattle.std.proofs.lemmas.Result.{IfOk-weaker}
use Rattle.risch_level.specs.Levels.{Element}
use Rattle.risch_element_theory.specs.ElementPolynomials.{◌*ₚ◌}
use Rattle.risch_element_theory.specs.WholeTower.{polynomial}
use Rattle.risch_split.specs.SplittingSteps.{IsStep}
use Rattle.risch_split.proofs.SpecialFactors.{gcd-divides, step-of}
use Rattle.risch_split.proofs.splitting.special_factor.Goals as goal

pub exact_quotient-requires : goal.exact_quotient-requires
exact_quotient-requires c =
    let a = c.in_ok-with_derivative.ensures.meaning in
    let b = c.in_ok-with_partial.ensures.meaning in
    record {
      monic = b.is_monic;
      divides = gcd-divides c.args.tower.now c.args.level c.args.poly.now c.in_ok-with_derivative.with_derivative c.in_ok-with_partial.with_partial c.requires.monic a b;
    }

pub returns-clause-meaning : goal.returns-clause-meaning
returns-clause-meaning c =
    let tower = c.args.tower.now in
    let level = c.args.level in
    let d = c.args.poly.now in
    let a = c.in_ok-with_derivative.with_derivative in
    let b = c.in_ok-with_partial.with_partial in
    IfOk-weaker c.exact_quotient.result (λ (it : List Element). polynomial a ≡ polynomial it *ₚ polynomial b) (λ (it : List Element). IsStep tower level d it)
    (λ it. step-of tower level d a b it c.in_ok-with_derivative.ensures.meaning c.in_ok-with_partial.ensures.meaning) c.exact_quotient.ensures.meaning

pub returns-clause-within : goal.returns-clause-within
returns-clause-within c = c.exact_quotient.ensures.within c.args.level c.in_ok-with_derivative.ensures.within (c.in_ok-with_partial.ensures.within c.args.level c.requires.within)
