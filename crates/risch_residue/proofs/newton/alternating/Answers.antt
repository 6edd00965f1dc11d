use Rattle.risch_residue.proofs.NewtonSteps.{signs_kept, signs_whole}
use Rattle.risch_residue.proofs.newton.alternating.Goals as goal

pub loop-e-preserved : goal.loop-e-preserved
loop-e-preserved c = signs_kept _ _ _ _ c.loop-e.invariant c.loop-e-test.true c.e-item.is c.in_ok-signed.ensures c.in_ok-push.ensures.items

pub returns : goal.returns
returns c = signs_whole _ _ _ _ c.loop-e.invariant c.loop-e-test.false
