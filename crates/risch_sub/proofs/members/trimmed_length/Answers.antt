use Rattle.std.proofs.Common.{◌≡◌, ◌∙◌, ◌+◌, ◌-◌, ◌<◌, ◌≤◌, sym, ap, take, length, arith}
use Rattle.risch_sub.specs.RemainderSequence.{trimmed}
use Rattle.risch_sub.proofs.RemainderSteps.{trim_zero, trim_some}
use Rattle.risch_sub.proofs.members.trimmed_length.Goals as goal

pub returns-then-not-is_zero : goal.returns-then-not-is_zero
returns-then-not-is_zero c =
    let m = c.args.member.now in
    let left = length m - c.loop-step.step in
    let some : 0 < left = omega arith in
    let small : left ≤ length m = omega arith in
    c.loop-step.invariant ∙ trim_some m c.index-member-length.result left some small c.index-member-length.is (c.is_zero.ensures.some c.if-not-is_zero.true)

pub loop-step-preserved : goal.loop-step-preserved
loop-step-preserved c =
    let m = c.args.member.now in
    let left = length m - c.loop-step.step in
    let some : 0 < left = omega arith in
    let small : left ≤ length m = omega arith in
    let less : left - 1 ≡ length m - (c.loop-step.step + 1) = omega arith in
    c.loop-step.invariant ∙ trim_zero m c.index-member-length.result left some small c.index-member-length.is (sym c.is_zero.ensures.value ∙ c.if-not-is_zero.false)
    ∙ ap (λ n. trimmed (take n m)) less
