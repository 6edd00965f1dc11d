use Rattle.std.proofs.Common.{◌+◌, ◌<◌, length, sym, ap, ◌∙◌, arith}
use Rattle.risch_cert.proofs.TermSteps.{terms_among_more, terms_among_same}
use Rattle.risch_cert.proofs.elements.is_sum.Goals as goal
use Rattle.risch_cert.proofs.elements.is_sum.Goals.{in-Some, in_default}

-- One more is counted where the coefficient is not 0.
pub loop-exponent-preserved : goal.loop-exponent-preserved
loop-exponent-preserved c =
    let inside : c.loop-exponent.exponent < length c.args.polynomial.now = omega arith in
    elim c.match-coefficient.branch [
      | in-Some w ↦ w.count-is ∙ ap (λ count. count + 1) c.loop-exponent.invariant ∙ sym (terms_among_more c.args.polynomial.now c.loop-exponent.exponent _ w.in-Some.ensures.value inside)
      | in_default w ↦ w.count-is ∙ c.loop-exponent.invariant ∙ sym (terms_among_same c.args.polynomial.now c.loop-exponent.exponent w.in_default.ensures.value inside)
    ]
