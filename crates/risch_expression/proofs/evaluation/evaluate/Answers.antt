use Rattle.risch_expression.proofs.EvaluationMeaning.{answer_steps, answer_within}
use Rattle.risch_expression.proofs.evaluation.evaluate.Goals as goal

pub returns-clause-within : goal.returns-clause-within
returns-clause-within c = λ tree n with_z e over.
    answer_within c.value_of.result tree n with_z (answer_steps c.value_of.result c.args.program.now tree c.value_of.ensures e) over
