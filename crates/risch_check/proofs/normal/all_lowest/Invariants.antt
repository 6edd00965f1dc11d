use Rattle.std.proofs.Common.{take}
use Rattle.risch_frac.specs.Fraction.{IsLowest}
use Rattle.risch_polynomial_theory.specs.Meaning.{AllValid}
use Rattle.risch_check.proofs.normal.all_lowest.Given as goal

abbrev pub invariant-loop-fraction : goal.invariant-loop-fraction
invariant-loop-fraction l = AllValid IsLowest (take l.fraction-index l.fractions)
