use Rattle.std.proofs.Common.{◌≡◌, ◌∙◌, negsuc, ap, rules, arith}
use Rattle.std.specs.Int.{w128}
use Rattle.std.specs.Int.RustNames.{FitsSigned}
use Rattle.std.proofs.lemmas.Int.{to_z-of_z}
use Rattle.risch_frac.specs.Fraction.{quotient}
use Rattle.risch_level.specs.Accessors.{number}
use Rattle.risch_hermite.specs.HermiteReduction.{negative_inverse}
use Rattle.risch_ring.specs.CommRing.{of_nat}
use Rattle.risch_mean.specs.Element.{◌*ₑ◌}
use Rattle.risch_mean.specs.ElementField.{elements}
use Rattle.risch_level.specs.Levels.{Element}
use Rattle.risch_element_theory.specs.WholeTower.{meaning}
use Rattle.risch_element_theory.proofs.ElementWithin.{more-element-within}
use Rattle.risch_hermite.proofs.HermiteStep.{negative_inverse-stands}
use Rattle.risch_hermite.proofs.step.negative_inverse.Goals as goal

pub returns-clause-meaning : goal.returns-clause-meaning
returns-clause-meaning c =
    let small = c.ranges.exponent.fits in
    let fits : FitsSigned w128 c.from.result = search rules in
    let value : c.num.result ≡ negative_inverse c.args.exponent = c.num.ensures.value ∙ ap (number 5) (c.new-inverse.ensures.rule ∙ ap (quotient (negsuc 0)) (to_z-of_z w128 c.from.result fits ∙ c.from.ensures)) in
    ap (λ (e : Element). meaning e *ₑ of_nat elements.ring c.args.exponent) value ∙ negative_inverse-stands c.args.exponent c.requires (omega (arith, small))

pub returns-clause-within : goal.returns-clause-within
returns-clause-within c n = more-element-within 0 n (omega arith) c.num.result c.num.ensures.within
