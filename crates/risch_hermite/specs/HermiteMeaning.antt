-- What the Hermite reduction of an element is: f = Dg + h + q, where D is the derivation of the tower.
use Rattle.std.specs.Prelude.{◌≡◌, ℕ, ◌<◌, List, length}
use Rattle.risch_ring.specs.CommRing.{power, of_nat}
use Rattle.risch_ring.specs.Lists.{Each}
use Rattle.risch_univariate.specs.Degree.{IsMonic}
use Rattle.risch_univariate.specs.Division.{IsCoprime}
use Rattle.risch_univariate.specs.SplittingFactorization.{IsNormal}
use Rattle.risch_univariate.specs.SquareFreeParts.{product_of_powers, AreParts}
use Rattle.risch_univariate.specs.Polynomial.{Polynomial}
use Rattle.risch_univariate.specs.PolynomialRing.{polynomials}
use Rattle.risch_mean.specs.Element as mean
use Rattle.risch_mean.specs.Element.{◌+ₑ◌, ◌*ₑ◌}
use Rattle.risch_mean.specs.ElementField.{elements}
use Rattle.risch_mean.specs.Tower.{derive_in}
use Rattle.risch_level.specs.Levels.{Element}
use Rattle.risch_element_theory.specs.WholeTower.{meaning, polynomial}
use Rattle.risch_element_theory.specs.ElementPolynomials.{◌+ₚ◌, ◌*ₚ◌, negative, multiple}
use Rattle.risch_tower.specs.declared.level.Level.{Level}
use Rattle.risch_tower.specs.TowerMeaning.{monomials}
use Rattle.risch_monomial.specs.LevelDerivation.{level_derivation}
use Rattle.risch_monomial.specs.LevelElements.{at, numerator_at, denominator_at}
use Rattle.risch_hermite.specs.declared.partial.Partial.{Partial}
use Rattle.risch_hermite.specs.declared.reduction.Hermite.{Hermite}

-- f = Dg + h + q for the three elements g, h and the rest q. The denominator d of h is normal: d and Dd are coprime, so that Dd has an inverse modulo d. h is proper, and q is a polynomial in the variable of the level.
pub record IsHermiteReduction (tower : List Level) (level : ℕ) (f : Element) (it : Hermite) : Type 0 where
  pub sum : meaning f ≡ derive_in (monomials tower) (meaning it.g) +ₑ meaning it.h +ₑ meaning it.rest
  pub normal : IsNormal elements (level_derivation (monomials tower) level) (polynomial (denominator_at level it.h))
  pub proper : length (numerator_at level it.h) < length (denominator_at level it.h)
  pub rest_is_polynomial : polynomial (denominator_at level it.rest) ≡ (polynomials elements).one

-- ---- what the steps keep
-- f = Dg + a/w
pub record IsReducedTo (tower : List Level) (level : ℕ) (f : mean.Element) (w : Polynomial elements) (partial : Partial) : Type 0 where
  pub rest : mean.Element
  pub product : rest *ₑ at level w ≡ at level (polynomial partial.numerator)
  pub sum : f ≡ derive_in (monomials tower) (meaning partial.sum) +ₑ rest

-- j·(b·(u·Dv) + c·v) = -a
pub record IsStepSolution (tower : List Level) (level : ℕ) (u v : Polynomial elements) (j : ℕ) (a b c : Polynomial elements) : Type 0 where
  pub equation : multiple (of_nat elements.ring j) (u *ₚ (level_derivation (monomials tower) level).derive v *ₚ b +ₚ v *ₚ c) ≡ negative a

-- it = g + b/v^j
pub record IsNextSum (level : ℕ) (v : Polynomial elements) (j : ℕ) (g it : Element) (b : List Element) : Type 0 where
  pub piece : mean.Element
  pub product : piece *ₑ at level (power (polynomials elements) v j) ≡ at level (polynomial b)
  pub sum : meaning it ≡ meaning g +ₑ piece

-- w = u·v^i with a cofactor u that is coprime with v
pub record HasPart (v : Polynomial elements) (i : ℕ) (w : Polynomial elements) : Type 0 where
  pub cofactor : Polynomial elements
  pub equation : w ≡ (polynomials elements).mul cofactor (power (polynomials elements) v i)
  pub coprime : IsCoprime elements v cofactor

-- w = d·v_i^i·v_(i + 1)^(i + 1)·.. for the parts v_i, v_(i + 1), .., which are normal and coprime with each other and with the normal polynomial d
pub record ArePartsOf (tower : List Level) (level : ℕ) (i : ℕ) (parts : List (Polynomial elements)) (w : Polynomial elements) : Type 0 where
  pub done : Polynomial elements
  pub equation : w ≡ (polynomials elements).mul done (product_of_powers elements i parts)
  pub done_is_monic : IsMonic elements done
  pub done_is_normal : IsNormal elements (level_derivation (monomials tower) level) done
  pub are_parts : AreParts elements parts
  pub are_normal : Each (IsNormal elements (level_derivation (monomials tower) level)) parts
  pub coprime : Each (λ v. IsCoprime elements v done) parts
