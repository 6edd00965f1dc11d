use Rattle.risch_level.specs.Accessors.{as_number}
use Rattle.risch_logarithm_rules.specs.Logarithms.{fraction_of}
use Rattle.risch_residue.proofs.PushSteps.{map_kept, map_whole}
use Rattle.risch_residue.proofs.logarithm.fractions.Goals as goal

pub loop-coefficient-preserved : goal.loop-coefficient-preserved
loop-coefficient-preserved c = map_kept (λ e. fraction_of (as_number 5 e)) _ _ c.loop-coefficient.invariant c.loop-coefficient-test.true c.coefficient-item.is c.fraction.ensures c.in_ok-push.ensures.ok

pub returns : goal.returns
returns c = map_whole (λ e. fraction_of (as_number 5 e)) _ _ c.loop-coefficient.invariant c.loop-coefficient-test.false
