-- What a polynomial in x stands for, and which integrands surely have their integral.
use Rattle.std.specs.Prelude.{◌≡◌, ◌≤◌, ◌<◌, ◌^◌, unsigned_abs, List, length, map}
use Rattle.std.specs.List.{All}
use Rattle.risch_frac.specs.Fraction.{Fraction, IsLowest}
use Rattle.risch_field.specs.Ground.{ground}
use Rattle.risch_polynomial.specs.Poly as poly
use Rattle.risch_polynomial_theory.specs.Meaning.{AllValid}
use Rattle.risch_polynomial_theory.specs.FractionMeaning.{fraction_meaning}
use Rattle.risch_level.specs.Levels as levels
use Rattle.risch_element_theory.specs.WholeTower as tower
use Rattle.risch_mean.specs.Element.{Element, variable}
use Rattle.risch_mean.specs.ElementField.{elements}
use Rattle.risch_mean.specs.Univariate.{value_at}

-- the element p_0 + p_1·x + p_2·x^2 + .. of Q(x)
unfoldable pub value : List Fraction → Element
value p = value_at elements.ring (variable 0) (map fraction_meaning p)

-- the coefficients are in lowest terms, the last one is not 0, the degree is at most 255, and e = p_0 + p_1·x + ..
pub record IsPolynomialInX (e : levels.Element) (p : List Fraction) : Type 0 where
  pub valid : AllValid IsLowest p
  pub ends_not_zero : poly.trimmed ground p ≡ p
  pub degree_small : length p ≤ 256
  pub means : tower.meaning e ≡ value p

-- numerator and denominator are below 2^60 in absolute value
pub record IsSmallFraction (c : Fraction) : Type 0 where
  pub num : unsigned_abs c.num < 2 ^ 60
  pub den : c.den < 2 ^ 60

-- degree at most 254, with such coefficients
pub record IsSmall (f : List Fraction) : Type 0 where
  pub degree : length f ≤ 255
  pub coefficients : All IsSmallFraction f
