use Rattle.risch_mean.proofs.AnswerLaws.{derivative_unique}
use Rattle.risch_mean.proofs.answer_has_one_derivative.Goals as goal

pub returns : goal.returns
returns c = derivative_unique
