use Rattle.std.proofs.Common.{◌≡◌, ◌∙◌, ◌+◌, ◌-◌, ◌<◌, ◌++◌, ◌∷◌, [], refl, arith}
use Rattle.risch_residue.proofs.LogarithmSteps.{by_powers-more, powers_stop}
use Rattle.risch_residue.proofs.logarithm.by_powers.Goals as goal

pub loop-exponent-preserved : goal.loop-exponent-preserved
loop-exponent-preserved c =
    let k = c.loop-exponent.exponent in
    let left = c.args.count - k in
    let some : 0 < left = omega arith in
    let less : left - 1 ≡ c.args.count - (k + 1) = omega arith in
    let formed : c.push.new.self ≡ c.loop-exponent.elements ++ c.in_ok-next.next ∷ [] = c.in_ok-push.ensures.ok in
    c.loop-exponent.invariant ∙ by_powers-more c.args.level k c.loop-exponent.elements c.args.of.now left c.in_ok-next.next some c.in_ok-next.ensures ∙ rw (less, formed) refl

pub returns-in_err-next : goal.returns-in_err-next
returns-in_err-next c =
    powers_stop c.args.level c.loop-exponent.exponent c.loop-exponent.elements c.args.of.now c.args.count c.loop-exponent.invariant c.loop-exponent-test.true
    c.in_err-next.field-0.0 c.from_residual.result c.in_err-next.ensures c.from_residual.ensures.1
