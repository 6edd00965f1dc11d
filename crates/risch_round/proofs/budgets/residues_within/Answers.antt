use Rattle.risch_round.proofs.BranchSteps.{result-derivatives}
use Rattle.risch_round.proofs.budgets.residues_within.Goals as goal

pub returns-clause-derivatives : goal.returns-clause-derivatives
returns-clause-derivatives c =
    result-derivatives c.args.tower.now c.args.h.now c.residues-run.result c.result_of.result c.result_of.ensures c.residues-run.ensures.constant c.residues-run.ensures.logarithms
