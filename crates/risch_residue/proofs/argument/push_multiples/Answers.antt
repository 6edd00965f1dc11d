use Rattle.risch_residue.proofs.PushSteps.{products_stop, multiples_kept, multiples_stop, multiples_whole}
use Rattle.risch_residue.proofs.argument.push_multiples.Goals as goal

pub returns-in_err-product : goal.returns-in_err-product
returns-in_err-product c =
    products_stop _ _ _ _ _ c.loop-item.invariant c.loop-item-test.true c.item-item.is c.in_err-product.field-0.0 c.from_residual.result _ c.in_err-product.ensures c.from_residual.ensures.1

pub returns-in_err-rest : goal.returns-in_err-rest
returns-in_err-rest c =
    multiples_stop _ _ _ _ _ c.loop-item.invariant c.loop-item-test.true c.item-item.is c.in_ok-product.ensures
    c.in_err-rest.field-0.0 c.from_residual-in_err-rest.result _ c.in_err-rest.ensures c.from_residual-in_err-rest.ensures.1

pub loop-item-preserved : goal.loop-item-preserved
loop-item-preserved c =
    multiples_kept _ _ _ _ _ c.loop-item.invariant c.loop-item-test.true c.item-item.is c.in_ok-product.ensures c.in_ok-rest.ensures c.in_ok-push.ensures.items

pub returns : goal.returns
returns c = multiples_whole _ _ _ _ _ c.loop-item.invariant c.loop-item-test.false
