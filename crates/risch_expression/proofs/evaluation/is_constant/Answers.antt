use Rattle.std.proofs.Common.{◌∙◌, sym}
use Rattle.risch_expression.proofs.Constants.{no_degree-short, degree-short}
use Rattle.risch_expression.proofs.evaluation.is_constant.Goals as goal

pub returns-in-None : goal.returns-in-None
returns-in-None c = sym (no_degree-short c.args.value.now (sym c.degree.ensures.value ∙ c.in-None.is))

pub returns-in-Some : goal.returns-in-Some
returns-in-Some c = degree-short c.args.value.now c.in-Some.degree (sym c.degree.ensures.value ∙ c.in-Some.is)
