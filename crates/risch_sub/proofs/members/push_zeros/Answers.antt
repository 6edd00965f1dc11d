use Rattle.risch_sub.proofs.PushSteps.{zeros_kept}
use Rattle.risch_sub.proofs.members.push_zeros.Goals as goal

pub loop-i-preserved : goal.loop-i-preserved
loop-i-preserved c = zeros_kept _ _ _ _ c.loop-i.invariant c.zero.ensures c.in_ok-push.ensures.items
