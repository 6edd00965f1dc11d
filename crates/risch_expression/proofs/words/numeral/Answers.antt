use Rattle.std.proofs.Common.{◌∙◌, sym}
use Rattle.risch_expression.proofs.Taking.{numeral_other}
use Rattle.risch_expression.proofs.words.numeral.Goals as goal

pub returns-then-not-is_digit : goal.returns-then-not-is_digit
returns-then-not-is_digit c =
    numeral_other c.args.bytes.now c.in-Some.first.now c.in-Some.after.now c.in-Some.ensures.cases.0 (sym c.is_digit.ensures ∙ c.if-not-is_digit.true)
