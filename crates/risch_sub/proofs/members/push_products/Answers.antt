use Rattle.risch_sub.proofs.PushSteps.{products_kept, products_stop, products_whole}
use Rattle.risch_sub.proofs.members.push_products.Goals as goal

pub returns-in_err-product : goal.returns-in_err-product
returns-in_err-product c = products_stop _ _ _ _ c.loop-item.invariant c.in_err-product.field-0.0 c.from_residual.result _ c.loop-item-test.true c.item-item.is c.in_err-product.ensures c.from_residual.ensures.1

pub loop-item-preserved : goal.loop-item-preserved
loop-item-preserved c = products_kept _ _ _ _ c.loop-item.invariant c.loop-item-test.true c.item-item.is c.in_ok-product.ensures c.in_ok-push.ensures.items

pub returns : goal.returns
returns c = products_whole _ _ _ _ c.loop-item.invariant c.loop-item-test.false
