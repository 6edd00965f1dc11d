use Rattle.risch_polynomial.proofs.CoefficientSteps.{image_appended, all_images_appended}
use Rattle.risch_polynomial.proofs.coefficients.push_negatives.Goals as goal

pub loop-item-preserved : goal.loop-item-preserved
loop-item-preserved g c = image_appended g.E.Arith.ops.negative _ _ _ _ _ _ c.loop-item-test.true c.item-item.is c.loop-item.invariant c.in_ok-push_negative.ensures

pub returns : goal.returns
returns g c = all_images_appended g.E.Arith.ops.negative _ _ _ _ c.loop-item-test.false c.loop-item.invariant
