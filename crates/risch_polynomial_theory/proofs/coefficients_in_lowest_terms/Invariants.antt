use Rattle.std.proofs.Common.{take}
use Rattle.risch_frac.specs.Fraction.{IsLowest}
use Rattle.risch_polynomial_theory.specs.Meaning.{AllValid}
use Rattle.risch_polynomial_theory.proofs.coefficients_in_lowest_terms.Given as goal

abbrev pub invariant-loop-coefficient : goal.invariant-loop-coefficient
invariant-loop-coefficient l = AllValid IsLowest (take l.coefficient-index l.coefficient-items)
