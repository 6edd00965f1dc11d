-- The elements of the whole tower, x and four monomials, and polynomials over them: which are in normal form, what they stand for, and which variables occur in them.
use Rattle.std.specs.Prelude.{ℕ, zero, suc, ◌<◌, List, [], ◌∷◌}
use Rattle.risch_univariate.specs.Polynomial.{Polynomial}
use Rattle.risch_mean.specs.Element as mean
use Rattle.risch_mean.specs.ElementField.{elements}
use Rattle.risch_level.specs.Levels.{Field, Element, element}
use Rattle.risch_level.specs.declared.over.Over.TheVariants.{Below, Quotient}
use Rattle.risch_polynomial_theory.specs.Meaning.{value}
use Rattle.risch_element_theory.specs.LevelMeaning.{valid_at, meaning_at}
use Rattle.risch_element_theory.specs.PolynomialMeaning.{IsKept, polynomial_of}

-- an element in normal form at every level: numerator and denominator are coprime, the denominator is monic, and the variable occurs; a proof that needs the levels opens it
unfoldable pub IsElement : Element → Type 0
IsElement e = valid_at 5 e

-- the element of Q(x)(t1)..(t4) that it stands for
unfoldable pub meaning : Element → mean.Element
meaning e = meaning_at 5 e

-- the coefficients are in normal form, the last one is not 0, and the degree is at most 255
abbrev pub IsPolynomial : List Element → Type 0
IsPolynomial p = IsKept element IsElement p

-- ⟦p⟧ = ⟦p_0⟧ + ⟦p_1⟧·t + .., a polynomial over the field of all elements
abbrev pub polynomial : List Element → Polynomial elements
polynomial p = polynomial_of elements meaning p

-- its value where t is the element v
abbrev pub value_of : List Element → mean.Element → mean.Element
value_of p v = value elements.ring meaning v p

-- ---- the variables that occur
-- of an element of the field of some height: x is the variable 0, and the element lies in the field of the first n variables
abbrev pub WithinAt : (height : ℕ) → ℕ → Field height → Type 0
WithinAt zero n q = Unit {0}
WithinAt (suc height) n (Below e) = WithinAt height n e
WithinAt (suc height) n (Quotient r) = height < n

-- the same of each coefficient of a polynomial over that field
abbrev pub AllWithinAt : (height : ℕ) → ℕ → List (Field height) → Type 0
AllWithinAt height n [] = Unit {0}
AllWithinAt height n (c ∷ p) = WithinAt height n c × AllWithinAt height n p

-- the same of an element of the whole tower: it lies in level l where it is within l + 1, and is a fraction where it is within 0
unfoldable pub Within : ℕ → Element → Type 0
Within n e = WithinAt 5 n e

-- the same of each coefficient
abbrev pub AllWithin : ℕ → List Element → Type 0
AllWithin n [] = Unit {0}
AllWithin n (c ∷ p) = Within n c × AllWithin n p
