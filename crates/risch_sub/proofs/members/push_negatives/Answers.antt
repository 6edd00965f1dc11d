use Rattle.std.proofs.Common.{Ok, ap, sym}
use Rattle.risch_polynomial.specs.Poly as poly
use Rattle.risch_level.specs.Levels.{element}
use Rattle.risch_sub.proofs.PushSteps.{images_kept, images_whole}
use Rattle.risch_sub.proofs.members.push_negatives.Goals as goal

pub loop-item-preserved : goal.loop-item-preserved
loop-item-preserved c = images_kept (poly.negatives element) _ _ _ c.loop-item.invariant c.loop-item-test.true c.item-item.is c.in_ok-neg.ensures.value c.in_ok-push.ensures.items

pub returns : goal.returns
returns c = ap Ok (sym (images_whole (poly.negatives element) _ _ _ c.loop-item.invariant c.loop-item-test.false))
