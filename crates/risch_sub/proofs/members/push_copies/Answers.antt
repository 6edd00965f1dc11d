use Rattle.risch_sub.proofs.PushSteps.{copies_kept, copies_whole}
use Rattle.risch_sub.proofs.members.push_copies.Goals as goal

pub loop-item-preserved : goal.loop-item-preserved
loop-item-preserved c = copies_kept _ _ _ c.loop-item.invariant c.loop-item-test.true c.item-item.is c.in_ok-copy.ensures c.in_ok-push.ensures.items

pub returns : goal.returns
returns c = copies_whole _ _ _ c.loop-item.invariant c.loop-item-test.false
