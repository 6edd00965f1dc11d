use Rattle.std.proofs.Common.{◌∙◌, ◌≡◌, min, length, refl, arith}
use Rattle.risch_sub.proofs.PushSteps.{differences_kept, differences_stop}
use Rattle.risch_sub.proofs.RemainderSteps.{differences_end}
use Rattle.risch_sub.proofs.members.push_differences.Goals as goal

pub returns : goal.returns
returns c =
    let end_is : c.loop-i.i ≡ c.min-both.result = omega arith in
    let shorter : c.loop-i.i ≡ min (length c.args.left.now) (length c.args.right.now) = omega arith in
    let whole =
    c.loop-i.invariant ∙ differences_end c.loop-i.to.items c.args.left.now c.args.right.now c.push_copies.new.to.items _ c.loop-i.i shorter (rw end_is (c.in_ok-push_copies.ensures)) refl in
    rw (whole, end_is) c.push_negatives.ensures

pub returns-in_err-difference : goal.returns-in_err-difference
returns-in_err-difference c =
    differences_stop _ _ _ _ c.loop-i.invariant c.loop-i-test.true c.min-both.ensures c.index-left-i.is c.index-right-i.is
    c.in_err-difference.field-0.0 c.from_residual.result _ c.in_err-difference.ensures c.from_residual.ensures.1

pub loop-i-preserved : goal.loop-i-preserved
loop-i-preserved c =
    differences_kept _ _ _ _ c.loop-i.invariant c.loop-i-test.true c.min-both.ensures c.index-left-i.is c.index-right-i.is c.in_ok-difference.ensures c.in_ok-push.ensures.items
