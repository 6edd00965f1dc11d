use Rattle.std.proofs.Common.{arith}
use Rattle.risch_polynomial.proofs.CoefficientSteps.{multiples-more, multiples-end}
use Rattle.risch_polynomial.proofs.coefficients.push_multiples.Goals as goal

pub loop-i-preserved : goal.loop-i-preserved
loop-i-preserved g c =
    multiples-more g.E.Arith.ops _ _ _ _ _ _ _ _ c.loop-i-test.true c.index-items-i.is c.loop-i.invariant c.in_ok-product.ensures c.in_ok-push_item.ensures (omega arith)

pub returns : goal.returns
returns g c = multiples-end g.E.Arith.ops _ _ _ _ c.loop-i-test.false c.loop-i.invariant
