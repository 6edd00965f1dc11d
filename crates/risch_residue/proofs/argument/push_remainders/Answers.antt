use Rattle.risch_residue.proofs.PushSteps.{remainders_kept, remainders_stop, remainders_whole}
use Rattle.risch_residue.proofs.argument.push_remainders.Goals as goal

pub returns-in_err-rest : goal.returns-in_err-rest
returns-in_err-rest c =
    remainders_stop _ _ _ _ c.loop-item.invariant c.loop-item-test.true c.item-item.is c.in_err-rest.field-0.0 c.from_residual.result _ c.in_err-rest.ensures c.from_residual.ensures.1

pub loop-item-preserved : goal.loop-item-preserved
loop-item-preserved c = remainders_kept _ _ _ _ c.loop-item.invariant c.loop-item-test.true c.item-item.is c.in_ok-rest.ensures c.in_ok-push.ensures.items

pub returns : goal.returns
returns c = remainders_whole _ _ _ _ c.loop-item.invariant c.loop-item-test.false
