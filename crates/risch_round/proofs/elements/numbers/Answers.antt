use Rattle.std.proofs.Common.{◌∙◌}
use Rattle.risch_round.proofs.Numbers.{map_pushed, map_all}
use Rattle.risch_round.proofs.elements.numbers.Goals as goal

pub loop-fraction-preserved : goal.loop-fraction-preserved
loop-fraction-preserved c = map_pushed _ _ _ _ _ c.loop-fraction.invariant c.loop-fraction-test.true c.fraction-item.is c.num.ensures.value c.in_ok-push.ensures.ok

pub returns : goal.returns
returns c = c.loop-fraction.invariant ∙ map_all _ _ _ c.loop-fraction-test.false
