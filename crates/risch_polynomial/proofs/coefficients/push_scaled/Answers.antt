use Rattle.risch_polynomial.proofs.CoefficientSteps.{scaled-more, scaled-ends}
use Rattle.risch_polynomial.proofs.coefficients.push_scaled.Goals as goal

pub loop-i-preserved : goal.loop-i-preserved
loop-i-preserved g c = scaled-more g.E.Arith.ops _ _ _ _ _ _ _ _ c.loop-i-test.true c.index-items-i.is c.loop-i.invariant c.in_ok-product.ensures c.in_ok-push_item.ensures

pub returns : goal.returns
returns g c = scaled-ends g.E.Arith.ops _ _ _ _ _ c.loop-i-test.false c.loop-i.invariant
