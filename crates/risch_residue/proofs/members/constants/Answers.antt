use Rattle.risch_logarithm_rules.specs.Logarithms.{constant_in_z}
use Rattle.risch_residue.proofs.PushSteps.{map_kept, map_whole}
use Rattle.risch_residue.proofs.members.constants.Goals as goal

pub loop-coefficient-preserved : goal.loop-coefficient-preserved
loop-coefficient-preserved c = map_kept constant_in_z _ _ c.loop-coefficient.invariant c.loop-coefficient-test.true c.coefficient-item.is c.in_ok-constant_in_z.ensures c.in_ok-push.ensures.ok

pub returns : goal.returns
returns c = map_whole constant_in_z _ _ c.loop-coefficient.invariant c.loop-coefficient-test.false
