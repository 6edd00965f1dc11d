use Rattle.std.proofs.Common.{refl, arith}
use Rattle.risch_expression.proofs.Taking.{number_above, number_value}
use Rattle.risch_expression.proofs.words.Words.take_number.Goals as goal

pub returns-then-value-most-clause-found : goal.returns-then-value-most-clause-found
returns-then-value-most-clause-found c =
    rw (c.fault-then-value-most.ensures, ← c.self.view_is)
    (number_above c.args.most c.args.above c.self.inside.rest.now c.in-Value.value c.in-Value.rest.now c.in-Value.ensures (omega arith), refl)

pub returns-else-value-most-clause-found : goal.returns-else-value-most-clause-found
returns-else-value-most-clause-found c =
    rw (← c.self.view_is)
    (number_value c.args.most c.args.above c.self.inside.rest.now c.in-Value.value c.in-Value.rest.now c.in-Value.ensures (omega arith))
