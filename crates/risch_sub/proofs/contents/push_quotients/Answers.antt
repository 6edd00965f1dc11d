use Rattle.risch_sub.proofs.PushSteps.{quotients_kept, quotients_stop, quotients_whole}
use Rattle.risch_sub.proofs.contents.push_quotients.Goals as goal

pub returns-in_err-quotient : goal.returns-in_err-quotient
returns-in_err-quotient c = quotients_stop _ _ _ _ c.loop-item.invariant c.in_err-quotient.field-0.0 c.from_residual.result _ c.loop-item-test.true c.item-item.is c.in_err-quotient.ensures c.from_residual.ensures.1

pub loop-item-preserved : goal.loop-item-preserved
loop-item-preserved c = quotients_kept _ _ _ _ c.loop-item.invariant c.loop-item-test.true c.item-item.is c.in_ok-quotient.ensures c.in_ok-push.ensures.items

pub returns : goal.returns
returns c = quotients_whole _ _ _ _ c.loop-item.invariant c.loop-item-test.false
