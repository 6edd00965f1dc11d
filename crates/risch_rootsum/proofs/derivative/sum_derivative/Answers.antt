use Rattle.std.proofs.Common.{◌≡◌, ◌∙◌, ap, None, Some, Ok}
use Rattle.risch_mean.specs.Answer.{SumDerivative}
use Rattle.risch_field.specs.Checked.{Agrees}
use Rattle.risch_polynomial.specs.Poly as poly
use Rattle.risch_polynomial.specs.Modular as modular
use Rattle.risch_polynomial_theory.specs.Meaning.{AllValid}
use Rattle.risch_level.specs.Levels.{Element, element}
use Rattle.risch_element_theory.specs.WholeTower.{IsElement, meaning}
use Rattle.risch_tower.specs.TowerMeaning.{monomials}
use Rattle.risch_rootsum.specs.Algebra.{modulus}
use Rattle.risch_rootsum.specs.Derivative.{trace_of_product}
use Rattle.risch_rootsum.specs.DerivativeMeaning.{sum_of, IsDerivativeOf}
use Rattle.risch_rootsum.proofs.Agreement.{agreed}
use Rattle.risch_rootsum.proofs.SumDerivatives.{inverse-exists, sum-means}
use Rattle.risch_rootsum.proofs.derivative.sum_derivative.Goals as goal

pub unreachable-requires : goal.unreachable-requires
unreachable-requires c =
    let R = c.args.part.now.poly in
    let s = c.args.part.now.arg in
    let formed : modular.inverse element (poly.trimmed element s) (modulus R) ≡ Ok None =
    rw (c.in_ok-argument.ensures, c.as_slice-coefficients.ensures, c.in_ok-modulus.ensures.value) at (c.in_ok-inverse.ensures ∙ ap Ok c.in-None.is) in
    let all_s : AllValid IsElement s = rw c.as_slice-coefficients.ensures at c.all_normal.ensures in
    inverse-exists (monomials c.args.tower.now) R s c.requires.part.modulus c.in_ok-modulus.ensures.normal all_s c.requires.part.argument_member c.requires.derivative.0 c.requires.derivative.1 formed

pub returns-clause-meaning : goal.returns-clause-meaning
returns-clause-meaning c =
    let tower = monomials c.args.tower.now in
    let R = c.args.part.now.poly in
    let s = c.args.part.now.arg in
    let ds = c.in_ok-derivative.derivative in
    let t = c.in-Some.inverse in
    let formed : modular.inverse element (poly.trimmed element s) (modulus R) ≡ Ok (Some t) =
    rw (c.in_ok-argument.ensures, c.as_slice-coefficients.ensures, c.in_ok-modulus.ensures.value) at (c.in_ok-inverse.ensures ∙ ap Ok c.in-Some.is) in
    let all_s : AllValid IsElement s = rw c.as_slice-coefficients.ensures at c.all_normal.ensures in
    let derived : IsDerivativeOf tower s ds = rw c.as_slice-coefficients.ensures at c.in_ok-derivative.ensures.meaning in
    let agrees : Agrees c.trace_of_product.result (trace_of_product (modulus R) ds t) = rw c.in_ok-modulus.ensures.value at c.trace_of_product.ensures in
    agreed (λ (e : Element). SumDerivative tower (sum_of c.args.part.now) (meaning e)) c.trace_of_product.result (trace_of_product (modulus R) ds t) agrees
    (λ e is. sum-means tower R s c.requires.part.modulus c.in_ok-modulus.ensures.normal all_s c.requires.part.argument_member ds t e derived formed is c.requires.derivative.0 c.requires.derivative.1)
