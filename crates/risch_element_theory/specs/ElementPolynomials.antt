-- The operations of K[t] for the field K of all elements of the tower, and what the results of the rules on polynomials stand for.
use Rattle.std.specs.Prelude.{◌≡◌, ℕ, suc, List, Option, None, Some}
use Rattle.risch_ring.specs.CommRing.{of_nat}
use Rattle.risch_univariate.specs.Polynomial.{Polynomial, coefficient, constant}
use Rattle.risch_univariate.specs.Degree.{size, leading_coefficient, IsMonic}
use Rattle.risch_univariate.specs.Division.{IsDivision, IsGcd}
use Rattle.risch_univariate.specs.PolynomialRing.{polynomials}
use Rattle.risch_mean.specs.Element as mean
use Rattle.risch_mean.specs.ElementField.{elements}
use Rattle.risch_level.specs.Levels.{Element, element}
use Rattle.risch_element_theory.specs.ModularMeaning.{InverseMeans, KeepsSolution}
use Rattle.risch_element_theory.specs.WholeTower.{IsElement, meaning, polynomial}

-- 0
abbrev pub zero : Polynomial elements
zero = (polynomials elements).zero

infixl 60 ◌+ₚ◌
infixl 70 ◌*ₚ◌
-- p + q
abbrev pub ◌+ₚ◌ : Polynomial elements → Polynomial elements → Polynomial elements
p +ₚ q = (polynomials elements).add p q

-- p·q
abbrev pub ◌*ₚ◌ : Polynomial elements → Polynomial elements → Polynomial elements
p *ₚ q = (polynomials elements).mul p q

-- -p
abbrev pub negative : Polynomial elements → Polynomial elements
negative p = (polynomials elements).neg p

-- c·p
abbrev pub multiple : mean.Element → Polynomial elements → Polynomial elements
multiple c p = constant elements c *ₚ p

-- p/lc(p), and 0 for p = 0
abbrev pub monic_multiple : Polynomial elements → Polynomial elements
monic_multiple p = multiple (elements.inverse (leading_coefficient elements p)) p

-- d = ∂p: the coefficient d_i is (i + 1)·p_(i + 1)
abbrev pub IsDerivative : Polynomial elements → Polynomial elements → Type 0
IsDerivative p d = (i : ℕ) → coefficient elements d i ≡ elements.mul (of_nat elements.ring (suc i)) (coefficient elements p (suc i))

-- the degree of p, and none for p = 0
abbrev pub IsDegree : Polynomial elements → Option ℕ → Type 0
IsDegree p None = p ≡ zero
IsDegree p (Some d) = size elements p ≡ suc d

-- what a coefficient stands for, and 0 where none is given
abbrev pub meaning_or_zero : Option Element → mean.Element
meaning_or_zero None = mean.zero
meaning_or_zero (Some e) = meaning e

-- ---- of lists of coefficients
-- ⟦p⟧ = ⟦a⟧·⟦q⟧ + ⟦r⟧ with deg ⟦r⟧ < deg ⟦q⟧, for the quotient a and the remainder r
abbrev pub IsDivisionOf : List Element → List Element → List Element × List Element → Type 0
IsDivisionOf p q d = IsDivision elements (polynomial p) (polynomial q) (polynomial d.0) (polynomial d.1)

-- ⟦g⟧ is the monic greatest common divisor of ⟦p⟧ and ⟦q⟧
abbrev pub IsMonicGcd : List Element → List Element → List Element → Type 0
IsMonicGcd p q g = IsMonic elements (polynomial g) × IsGcd elements (polynomial g) (polynomial p) (polynomial q)

-- i·b = 1 modulo a and deg i < deg a, or none where a and b are not coprime
abbrev pub IsInverseModulo : List Element → List Element → Option (List Element) → Type 0
IsInverseModulo b a i = InverseMeans element elements IsElement meaning b a i

-- b·r + a·z = c and deg r < deg a
abbrev pub IsSolution : List Element → List Element → List Element → List Element × List Element → Type 0
IsSolution a b c s = KeepsSolution element elements IsElement meaning a b c s.0 s.1
