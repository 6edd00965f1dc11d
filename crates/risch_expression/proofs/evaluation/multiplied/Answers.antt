use Rattle.risch_expression.proofs.Powers.{multiplied_more, multiplied_done}
use Rattle.risch_expression.proofs.evaluation.multiplied.Goals as goal

-- A product more.
pub loop-preserved : goal.loop-preserved
loop-preserved c = multiplied_more _ _ _ _ _ _ c.loop.invariant c.loop-test.true c.in_ok-value.ensures.rule

-- All products.
pub returns : goal.returns
returns c = multiplied_done _ _ _ _ _ c.loop.invariant c.loop-test.false
