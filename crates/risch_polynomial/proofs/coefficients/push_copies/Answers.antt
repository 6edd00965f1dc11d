use Rattle.risch_polynomial.proofs.CoefficientSteps.{appended, all_appended}
use Rattle.risch_polynomial.proofs.coefficients.push_copies.Goals as goal

pub loop-item-preserved : goal.loop-item-preserved
loop-item-preserved g c = appended _ _ _ _ _ _ c.loop-item-test.true c.item-item.is c.loop-item.invariant c.in_ok-push_copy.ensures

pub returns : goal.returns
returns g c = all_appended _ _ _ _ c.loop-item-test.false c.loop-item.invariant
