use Rattle.risch_expression.proofs.Taking.{begins_more}
use Rattle.risch_expression.proofs.words.begins_name.Goals as goal

pub returns-in-Some : goal.returns-in-Some
returns-in-Some c =
    begins_more c.is_letter.result c.args.bytes.now c.in-Some.first.now c.in-Some.field-0-1.now c.in-Some.ensures.cases.0 c.is_letter.ensures
