use Rattle.std.proofs.Common.{◌∙◌, ◌≡◌, min, length, arith}
use Rattle.risch_polynomial.proofs.CoefficientLists.{sum_onto-end}
use Rattle.risch_polynomial.proofs.CoefficientSteps.{sums-more}
use Rattle.risch_polynomial.proofs.coefficients.push_sums.Goals as goal

pub returns : goal.returns
returns g c =
    let end_is : c.loop-i.i ≡ c.min-both.result = omega arith in
    let shorter : c.loop-i.i ≡ min (length c.args.left.now) (length c.args.right.now) = omega arith in
    c.loop-i.invariant ∙
    sum_onto-end g.E.Arith.ops c.loop-i.sums.items c.args.left.now c.args.right.now c.push_copies.new.to.items c.push_copies-2.new.to.items c.loop-i.i
    shorter (rw end_is (c.in_ok-push_copies.ensures)) (rw end_is (c.in_ok-push_copies-2.ensures))

pub loop-i-preserved : goal.loop-i-preserved
loop-i-preserved g c =
    sums-more g.E.Arith.ops _ _ _ c.args.left.now c.args.right.now c.loop-i.i _ _ _ (omega arith) c.index-left-i.is (omega arith) c.index-right-i.is c.loop-i.invariant c.in_ok-sum.ensures c.in_ok-push_item.ensures
