-- Polynomials in x over the fractions, as elements of the tower and back.
use Rattle.std.specs.Prelude.{if◌then◌else◌, Option, None, Some, unwrap_or, List, [], ◌∷◌, map}
use Rattle.risch_frac.specs.Fraction.{Fraction}
use Rattle.risch_field.specs.Ground.{ground}
use Rattle.risch_polynomial.specs.Poly as poly
use Rattle.risch_level.specs.Levels.{Field, Element, element}
use Rattle.risch_level.specs.Accessors.{number, as_number}
use Rattle.risch_level.specs.Parts.{levels, denominator}
use Rattle.risch_level.specs.declared.over.Over.TheVariants.{Below, Quotient}

-- the fraction that an element is, and 0 where it is none
abbrev pub fraction_of : Element → Fraction
fraction_of e = unwrap_or (as_number 5 e) ground.zero

-- p_0, p_1, .. for an element p_0 + p_1·x + .. of Q(x) with fractions p_j: the coefficients of its numerator in x, where its denominator is 1
unfoldable pub coefficients : Element → Option (List Fraction)
coefficients e = if poly.is_one element (denominator 5 4 e) then Some (map fraction_of ((levels 5).numerator 4 e)) else None

-- an element of the field of x as one of the tower
abbrev pub lifted : Field 1 → Element
lifted e = Below (Below (Below (Below e)))

-- the element p_0 + p_1·x + .. in normal form, where the last coefficient is not 0
unfoldable pub element_of : List Fraction → Element
element_of [] = number 5 ground.zero
element_of (c ∷ []) = number 5 c
element_of (c ∷ (d ∷ p)) = lifted (Quotient (c ∷ d ∷ p, ground.one ∷ []))
