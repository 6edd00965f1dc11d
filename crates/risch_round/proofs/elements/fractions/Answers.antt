use Rattle.std.proofs.Common.{◌∙◌}
use Rattle.risch_round.proofs.Numbers.{map_pushed, map_all}
use Rattle.risch_round.proofs.elements.fractions.Goals as goal

pub loop-element-preserved : goal.loop-element-preserved
loop-element-preserved c = map_pushed _ _ _ _ _ c.loop-element.invariant c.loop-element-test.true c.element-item.is c.fraction_of.ensures c.in_ok-push.ensures.items

pub returns : goal.returns
returns c = c.loop-element.invariant ∙ map_all _ _ _ c.loop-element-test.false
