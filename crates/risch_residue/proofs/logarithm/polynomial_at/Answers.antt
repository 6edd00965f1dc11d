use Rattle.risch_polynomial_theory.specs.Meaning.{AllValid}
use Rattle.risch_element_theory.specs.WholeTower.{IsElement}
use Rattle.risch_residue.proofs.LogarithmSteps.{formed-is_polynomial}
use Rattle.risch_residue.proofs.logarithm.polynomial_at.Goals as goal

pub kept-requires : goal.kept-requires
kept-requires c =
    let normal : AllValid IsElement c.in_ok-coefficients.coefficients.items = rw c.deref.ensures.value at c.all_normal.ensures in
    formed-is_polynomial c.in_ok-coefficients.coefficients.items c.in_ok-polynomial.polynomial normal c.in_ok-polynomial.ensures c.coefficients-coefficients.ensures.small
