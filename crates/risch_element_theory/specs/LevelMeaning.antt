-- What the elements of each level of the tower stand for: fractions for rational numbers, and at height h + 1 quotients of polynomials in the variable h over the field of height h.
use Rattle.std.specs.Prelude.{ℕ, zero, suc}
use Rattle.risch_frac.specs.Fraction.{IsLowest}
use Rattle.risch_mean.specs.Element.{Element, variable}
use Rattle.risch_mean.specs.ElementField.{elements}
use Rattle.risch_polynomial_theory.specs.FractionMeaning.{fraction_meaning}
use Rattle.risch_level.specs.Levels.{Field, field}
use Rattle.risch_element_theory.specs.ElementMeaning.{meaning_over, valid_over}

-- the element that e stands for: variable 0 is x, variable i is ti
abbrev pub meaning_at : (height : ℕ) → Field height → Element
meaning_at zero = fraction_meaning
meaning_at (suc height) = meaning_over elements (meaning_at height) (variable height)

-- the valid elements: fractions in lowest terms, and quotients in normal form whose coefficients are valid
abbrev pub valid_at : (height : ℕ) → Field height → Type 0
valid_at zero = IsLowest
valid_at (suc height) = valid_over elements (field height) (valid_at height) (meaning_at height)
