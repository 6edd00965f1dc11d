use Rattle.std.proofs.Common.{◌≡◌, ◌+◌, sym, ◌∙◌, ap}
use Rattle.std.proofs.lemmas.Result.{IfOk-weaker}
use Rattle.risch_mean.specs.Element as mean
use Rattle.risch_mean.specs.Element.{◌+ₑ◌}
use Rattle.risch_level.specs.Levels.{Element}
use Rattle.risch_element_theory.specs.WholeTower.{meaning, polynomial}
use Rattle.risch_monomial.specs.LevelElements.{at}
use Rattle.risch_hermite.specs.HermiteMeaning.{IsNextSum}
use Rattle.risch_hermite.proofs.step.next_sum.Goals as goal

pub ratio-requires-clause-bottom_within : goal.ratio-requires-clause-bottom_within
ratio-requires-clause-bottom_within c = c.in_ok-bottom.ensures.within c.args.level c.requires.part_within

pub returns-clause-meaning : goal.returns-clause-meaning
returns-clause-meaning c =
    let level = c.args.level in
    let piece = meaning c.in_ok-piece.piece in
    let product = ap (λ p. mean.mul piece (at level p)) (sym c.in_ok-bottom.ensures.meaning) ∙ c.in_ok-piece.ensures.meaning in
    IfOk-weaker c.add.result (λ (it : Element). meaning it ≡ meaning c.args.sum.now +ₑ piece) (λ (it : Element). IsNextSum level (polynomial c.args.part.now) c.args.exponent c.args.sum.now it c.args.top.now)
    (λ it is. record { piece = piece; product = product; sum = is }) c.add.ensures.meaning

pub returns-clause-within : goal.returns-clause-within
returns-clause-within c = let level = c.args.level in c.add.ensures.within (level + 1) c.requires.sum_within c.in_ok-piece.ensures.within
