use Rattle.std.proofs.Common.{◌≡◌, ◌∙◌, ◌+◌, ◌-◌, ◌<◌, ◌≤◌, ap, take, length, get_or, arith}
use Rattle.risch_sub.specs.RemainderSequence.{divisor_of_all}
use Rattle.risch_sub.proofs.RemainderSteps.{divisors_more, divisors_stop}
use Rattle.risch_sub.proofs.contents.divisor_of_all.Goals as goal

pub returns-in_err-next : goal.returns-in_err-next
returns-in_err-next c =
    let m = c.args.of.now in
    let p = c.index-of-of.result in
    let left = length m - c.loop-step.step in
    let some : 0 < left = omega arith in
    let small : left ≤ length m = omega arith in
    let place : length m - 1 - c.loop-step.step ≡ left - 1 = omega arith in
    let is : p ≡ get_or m (left - 1) p = c.index-of-of.is ∙ ap (λ n. get_or m n p) place in
    let stops = divisors_stop c.in_err-next.field-0.0 m c.loop-step.divisor p left some small is c.in_err-next.ensures in
    rw c.loop-step.invariant (grind (arith, stops))

pub loop-step-preserved : goal.loop-step-preserved
loop-step-preserved c =
    let m = c.args.of.now in
    let p = c.index-of-of.result in
    let left = length m - c.loop-step.step in
    let some : 0 < left = omega arith in
    let small : left ≤ length m = omega arith in
    let place : length m - 1 - c.loop-step.step ≡ left - 1 = omega arith in
    let is : p ≡ get_or m (left - 1) p = c.index-of-of.is ∙ ap (λ n. get_or m n p) place in
    let less : left - 1 ≡ length m - (c.loop-step.step + 1) = omega arith in
    c.loop-step.invariant ∙ divisors_more m c.loop-step.divisor p c.in_ok-next.next left some small is c.in_ok-next.ensures
    ∙ ap (λ n. divisor_of_all (take n m) c.in_ok-next.next) less
