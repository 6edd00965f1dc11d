use Rattle.std.proofs.Common.{◌∙◌, sym}
use Rattle.risch_cert.specs.Printing as spec
use Rattle.risch_cert.proofs.TermSteps.{terms_skip, terms_more}
use Rattle.risch_cert.proofs.elements.+element.Goals as goal

-- The term of the next exponent down is written.
pub print_polynomial-loop-exponent-preserved-in-Continue-branch-2 : goal.print_polynomial-loop-exponent-preserved-in-Continue-branch-2
print_polynomial-loop-exponent-preserved-in-Continue-branch-2 t c =
    terms_more (spec.print_below c.args.n) c.args.name.now c.args.coefficients.now c.loop-exponent.exponent c.index-coefficients-exponent.result c.in_ok-printed.printed _ _
    c.loop-exponent-test.true c.loop-exponent.auto.exponent c.index-coefficients-exponent.is (sym c.is_zero.ensures.value ∙ c.if-not-is_zero.true) c.in_ok-printed.ensures
    c.loop-exponent.invariant c.in_ok-add_term.ensures

-- There is none where the coefficient is 0.
pub print_polynomial-loop-exponent-preserved : goal.print_polynomial-loop-exponent-preserved
print_polynomial-loop-exponent-preserved t c =
    terms_skip (spec.print_below c.args.n) c.args.name.now c.args.coefficients.now c.loop-exponent.exponent c.index-coefficients-exponent.result _
    c.loop-exponent-test.true c.loop-exponent.auto.exponent c.index-coefficients-exponent.is (sym c.is_zero.ensures.value ∙ c.if-not-is_zero.false) c.loop-exponent.invariant
