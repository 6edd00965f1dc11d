use Rattle.std.proofs.Common.{◌-◌, sym, ap, ◌∙◌, take, length, arith, subst}
use Rattle.risch_field.specs.Checked.{IsStopOf}
use Rattle.risch_field.proofs.CheckedSteps.{stop_passes, value_passes}
use Rattle.risch_polynomial.specs.Poly as poly
use Rattle.risch_level.specs.Levels.{element}
use Rattle.risch_sub.specs.RemainderSequence.{leading, divisor_of_all, content}
use Rattle.risch_sub.proofs.RemainderSteps.{leading-is}
use Rattle.risch_sub.proofs.contents.content.Goals as goal

pub returns-in_err-divisor : goal.returns-in_err-divisor
unfolding content
returns-in_err-divisor c =
    let m = c.args.of.now in
    let is = leading-is m c.index-of-last.result c.requires c.index-of-last.is in
    let stops =
    stop_passes c.in_err-divisor.field-0.0 (poly.monic element (leading m)) (divisor_of_all (take (length m - 1) m))
    (subst (λ p. IsStopOf c.in_err-divisor.field-0.0 (poly.monic element p)) (sym is) c.in_err-divisor.ensures) in
    grind (arith, stops)

pub returns : goal.returns
unfolding content
returns c =
    let m = c.args.of.now in
    let is = leading-is m c.index-of-last.result c.requires c.index-of-last.is in
    value_passes c.divisor_of_all.result (poly.monic element (leading m)) (divisor_of_all (take (length m - 1) m)) c.in_ok-divisor.divisor
    (ap (poly.monic element) is ∙ c.in_ok-divisor.ensures) c.divisor_of_all.ensures
