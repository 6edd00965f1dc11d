use Rattle.std.proofs.Common.{◌≤◌, List, length, All, sym, subst, arith}
use Rattle.risch_level.specs.Levels.{Element}
use Rattle.risch_element_theory.specs.WholeTower.{AllWithin}
use Rattle.risch_logarithm_link.proofs.NewtonRules.{parts-within, parts-count}
use Rattle.risch_residue.proofs.logarithms.logarithms.Goals as goal

pub logarithms_of_parts-requires-clause-parts : goal.logarithms_of_parts-requires-clause-parts
logarithms_of_parts-requires-clause-parts c =
    subst (λ (l : List (List Element)). All (AllWithin c.args.level) l) (sym c.as_slice.ensures)
    (parts-within c.args.level c.args.traces.now c.in_ok-polynomial.polynomial c.in_ok-parts.parts c.requires.fractions c.in_ok-polynomial.ensures c.in_ok-parts.ensures)

pub logarithms_of_parts-requires-clause-few : goal.logarithms_of_parts-requires-clause-few
logarithms_of_parts-requires-clause-few c =
    let count : length c.in_ok-parts.parts ≤ length c.in_ok-polynomial.polynomial = parts-count c.in_ok-polynomial.polynomial c.in_ok-parts.parts c.in_ok-parts.ensures in
    let small : length c.in_ok-polynomial.polynomial ≤ 256 = c.coefficients-coefficients.ensures.small in
    rw c.as_slice.ensures (omega (arith, count, small))
