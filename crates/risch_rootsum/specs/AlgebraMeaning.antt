-- What the members of the algebra modulo R stand for: those of the algebra of risch_mean, over the field of all elements.
use Rattle.std.specs.Prelude.{List, map, Option, None, Some}
use Rattle.risch_frac.specs.Fraction.{Fraction}
use Rattle.risch_mean.specs.Element as mean
use Rattle.risch_mean.specs.ElementPolynomials.{IsInverseModulo, IsInvertibleModulo}
use Rattle.risch_field.specs.Ground.{ground}
use Rattle.risch_polynomial.specs.Poly as poly
use Rattle.risch_polynomial_theory.specs.FractionMeaning.{fraction_meaning}
use Rattle.risch_level.specs.Levels.{Element}
use Rattle.risch_element_theory.specs.WholeTower.{meaning}
use Rattle.risch_rootsum.specs.Algebra.{degree, filled}

-- the coefficients of R below the leading one
abbrev pub below : List Fraction → List mean.Element
below R = map fraction_meaning (poly.front ground R)

-- ⟦u_0⟧, ⟦u_1⟧, .., with zeros at the end up to m coefficients
abbrev pub member : List Fraction → List Element → List mean.Element
member R u = map meaning (filled (degree R) u)

-- ⟦v⟧ is the inverse of ⟦u⟧, or ⟦u⟧ has none
abbrev pub InverseMeans : List Fraction → List Element → Option (List Element) → Type 0
InverseMeans R u None = ¬ IsInvertibleModulo (below R) (member R u)
InverseMeans R u (Some v) = IsInverseModulo (below R) (member R u) (map meaning v)
