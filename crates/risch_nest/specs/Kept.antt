-- A polynomial over the field of five levels is one over the levels, of the same weight.
use Rattle.std.specs.Prelude.{ℕ, List}
use Rattle.risch_polynomial.specs.Polynomial.{IsPolynomial}
use Rattle.risch_level.specs.Levels.{Element, field, element}

pub element_polynomial : (p : List Element) (w : ℕ) → IsPolynomial (field 5) p w → IsPolynomial element p w
unfolding element
element_polynomial p w is = is

pub levels_polynomial : (p : List Element) (w : ℕ) → IsPolynomial element p w → IsPolynomial (field 5) p w
unfolding element
levels_polynomial p w is = is
