use Rattle.risch_round.proofs.PreparationSteps.{nothing_is_prepared}
use Rattle.risch_round.proofs.preparation.prepare_parts.Goals as goal

pub returns-then-is_zero-clause-prepared : goal.returns-then-is_zero-clause-prepared
returns-then-is_zero-clause-prepared c = nothing_is_prepared c.args.tower.now c.zero.result c.zero-then-is_zero.result c.args.parts.reduced c.zero.ensures c.zero-then-is_zero.ensures c.requires.reduced
