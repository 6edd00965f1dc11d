use Rattle.std.proofs.Common.{refl}
use Rattle.risch_expression.proofs.Taking.{name_other, name_found}
use Rattle.risch_expression.proofs.words.Words.take_name.Goals as goal

pub returns-then-not-begins_name : goal.returns-then-not-begins_name
returns-then-not-begins_name c =
    rw (← c.self.view_is) (name_other c.begins_name.result c.self.inside.rest.now c.begins_name.ensures c.if-not-begins_name.true, refl)

pub returns : goal.returns
returns c =
    rw (← c.self.view_is)
    (name_found c.begins_name.result c.self.inside.rest.now _ _ c.name_len.result c.begins_name.ensures c.if-not-begins_name.false c.name_len.ensures.value
    c.split_at.ensures.front (rw (← c.split_at.ensures.back) c.past_blanks-self-inside.ensures.value))
