use Rattle.std.proofs.Common.{[], ◌∙◌, sym, ap}
use Rattle.risch_text.specs.Values.{with_numbers}
use Rattle.risch_text.proofs.RootSums.{shaped_form}
use Rattle.risch_text.proofs.logarithms.shaped.Goals as goal

pub returns-clause-form : goal.returns-clause-form
returns-clause-form c = λ n within. rw c.in_ok-arg.ensures.value (shaped_form n c.args.modulus.now c.args.argument.now c.in-Some.poly
    (sym c.in-Some.is ∙ c.in_ok-poly.ensures ∙ ap (with_numbers []) (c.coefficients.ensures.value ∙ c.inner.ensures.value)) c.inner.ensures.normal c.in_ok-arg.ensures.kept c.in_ok-arg.ensures.light
    (rw (c.as_slice.ensures, c.coefficients-2.ensures.value, c.inner-2.ensures.value) at (sym c.has_shape.ensures ∙ c.if-not-has_shape.false)) within)
