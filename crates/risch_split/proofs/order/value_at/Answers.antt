use Rattle.std.proofs.Common.{arith}
use Rattle.risch_split.proofs.Orders.{denominator-some}
use Rattle.risch_split.proofs.order.value_at.Goals as goal

pub div-requires : goal.div-requires
div-requires c = rw c.in_ok-bottom.ensures.value (denominator-some c.args.level c.args.element.now (omega arith) c.nest-nest.ensures.normal c.requires.order)

pub returns-clause-within : goal.returns-clause-within
returns-clause-within c = λ w. c.div.ensures.within c.args.level (c.in_ok-top.ensures.within w) (c.in_ok-bottom.ensures.within w)
