use Rattle.std.proofs.Common.{◌≡◌}
use Rattle.std.proofs.lemmas.Result.{IfOk-weaker}
use Rattle.risch_polynomial.specs.Poly as poly
use Rattle.risch_level.specs.Levels.{Element, element}
use Rattle.risch_element_theory.specs.WholeTower.{Within}
use Rattle.risch_split.proofs.Orders.{coefficient-within}
use Rattle.risch_split.proofs.order.denominator_at_zero.Goals as goal

pub returns-clause-value : goal.returns-clause-value
returns-clause-value c = rw c.in_ok-denominator.ensures.rule at c.constant_coefficient.ensures

pub returns-clause-within : goal.returns-clause-within
returns-clause-within c = λ w.
    let p = c.in_ok-denominator.denominator in
    IfOk-weaker c.constant_coefficient.result (λ (it : Element). it ≡ poly.coefficient element p 0) (λ (it : Element). Within c.args.level it)
    (λ it is. rw is (coefficient-within c.args.level p 0 (c.in_ok-denominator.ensures.within w))) c.constant_coefficient.ensures
