-- What the splitting factorization and the canonical parts are. Polynomials are those in the variable t of the level over the field K of all elements, with the derivation D of the tower.
use Rattle.std.specs.Prelude.{◌≡◌, ℕ, ◌+◌, ◌<◌, List, length}
use Rattle.risch_univariate.specs.Degree.{IsMonic}
use Rattle.risch_univariate.specs.Division.{Divides, IsCoprime}
use Rattle.risch_univariate.specs.SplittingFactorization.{IsSpecial}
use Rattle.risch_mean.specs.Element.{◌+ₑ◌}
use Rattle.risch_mean.specs.ElementField.{elements}
use Rattle.risch_mean.specs.Constants as constants
use Rattle.risch_level.specs.Levels.{Element}
use Rattle.risch_element_theory.specs.WholeTower.{meaning, polynomial, Within}
use Rattle.risch_element_theory.specs.ElementPolynomials.{◌*ₚ◌}
use Rattle.risch_tower.specs.declared.level.Level.{Level}
use Rattle.risch_tower.specs.Tower.{rate_at}
use Rattle.risch_tower.specs.TowerMeaning.{monomials}
use Rattle.risch_split.specs.declared.splitting.Split.{Split}
use Rattle.risch_split.specs.declared.canonical_parts.Canonical.{Canonical}
use Rattle.risch_monomial.specs.LevelDerivation.{level_derivation}
use Rattle.risch_monomial.specs.LevelElements.{numerator_at, denominator_at}
use Rattle.risch_monomial.specs.NormalPolynomials.{HasNormalDivisors, IsSpecialAt}

-- ---- the splitting factorization
-- p = n·s for the normal part n and the special part s, in a tower whose special polynomials are those of a sound one
pub record IsSplitting (tower : List Level) (level : ℕ) (p : List Element) (split : Split) : Type 0 where
  pub product : polynomial p ≡ polynomial split.normal *ₚ polynomial split.special
  pub normal_is_monic : IsMonic elements (polynomial split.normal)
  pub special_is_monic : IsMonic elements (polynomial split.special)
  pub coprime : IsCoprime elements (polynomial split.normal) (polynomial split.special)
  pub normal : HasNormalDivisors (level_derivation (monomials tower) level) (polynomial split.normal)
  pub special : IsSpecial elements (level_derivation (monomials tower) level) (polynomial split.special)
  pub special_is : IsSpecialAt (rate_at tower level).kind (polynomial split.special)

-- e, which lies in the level, has the derivative 0 and is no rational number: the tower is not sound to the level
pub record IsNewConstant (tower : List Level) (level : ℕ) (e : Element) : Type 0 where
  pub within : Within (level + 1) e
  pub is : constants.IsNewConstant (monomials tower) (level + 1) (meaning e)

-- ---- canonical parts
-- f = reduced + normal. The denominator of the reduced part is special; the normal part is proper, and the square-free divisors of its denominator are normal; both denominators divide that of f
pub record AreCanonicalParts (tower : List Level) (level : ℕ) (f : Element) (parts : Canonical) : Type 0 where
  pub sum : meaning f ≡ meaning parts.reduced +ₑ meaning parts.normal
  pub reduced : IsSpecialAt (rate_at tower level).kind (polynomial (denominator_at level parts.reduced))
  pub proper : length (numerator_at level parts.normal) < length (denominator_at level parts.normal)
  pub normal : HasNormalDivisors (level_derivation (monomials tower) level) (polynomial (denominator_at level parts.normal))
  pub reduced_divides : Divides elements (polynomial (denominator_at level parts.reduced)) (polynomial (denominator_at level f))
  pub normal_divides : Divides elements (polynomial (denominator_at level parts.normal)) (polynomial (denominator_at level f))
