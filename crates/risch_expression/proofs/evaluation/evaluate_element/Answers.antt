use Rattle.risch_expression.proofs.EvaluationMeaning.{element_answer_steps, element_answer_within}
use Rattle.risch_expression.proofs.evaluation.evaluate_element.Goals as goal

pub returns-clause-within : goal.returns-clause-within
returns-clause-within c = λ tree n e over.
    element_answer_within c.element_of.result tree n (element_answer_steps c.element_of.result c.args.program.now tree c.element_of.ensures e) over
