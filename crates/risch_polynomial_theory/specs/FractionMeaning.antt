-- What a fraction, and a polynomial over the fractions, stands for among the elements that can be written with x, t1, t2, ..
use Rattle.std.specs.Prelude.{pos, List}
use Rattle.risch_frac.specs.Fraction.{Fraction, IsLowest}
use Rattle.risch_mean.specs.Element.{Element, integer, ◌/ₑ◌}
use Rattle.risch_mean.specs.ElementField.{elements}
use Rattle.risch_polynomial_theory.specs.Meaning.{HasValue, value}

-- num / den
abbrev pub fraction_meaning : Fraction → Element
fraction_meaning p = integer p.num /ₑ integer (pos p.den)

-- p(t)
abbrev pub polynomial_value : List Fraction → Element → Element
polynomial_value p t = value elements.ring fraction_meaning t p

-- the coefficients of p are in lowest terms, and p(t) = v(t) for every element t
abbrev pub StandsFor : List Fraction → (Element → Element) → Type 0
StandsFor p v = HasValue elements.ring IsLowest fraction_meaning p v
