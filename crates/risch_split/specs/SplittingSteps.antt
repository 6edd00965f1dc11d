-- What the steps of the splitting and of the canonical parts keep.
use Rattle.std.specs.Prelude.{◌≡◌, ℕ, List}
use Rattle.risch_univariate.specs.Degree.{IsMonic}
use Rattle.risch_univariate.specs.SplittingFactorization.{SplittingFactorization}
use Rattle.risch_univariate.proofs.FormalDerivative.{formal_derivative}
use Rattle.risch_univariate.proofs.Gcd.{gcd}
use Rattle.risch_mean.specs.ElementField.{elements}
use Rattle.risch_level.specs.Levels.{Element}
use Rattle.risch_element_theory.specs.WholeTower.{IsPolynomial, polynomial}
use Rattle.risch_element_theory.specs.ElementPolynomials.{◌*ₚ◌, IsDivisionOf}
use Rattle.risch_tower.specs.declared.level.Level.{Level}
use Rattle.risch_tower.specs.TowerMeaning.{monomials}
use Rattle.risch_split.specs.declared.splitting.Split.{Split}
use Rattle.risch_split.specs.declared.canonical_parts.Divided.{Divided}
use Rattle.risch_monomial.specs.LevelDerivation.{level_derivation}
use Rattle.risch_monomial.specs.LevelElements.{numerator_at, denominator_at}
use Rattle.risch_split.specs.Canonical.{quotient_and_rest}

-- g is monic and g = gcd(d, Dd)
pub record IsGcdWithDerivative (tower : List Level) (level : ℕ) (d g : List Element) : Type 0 where
  pub is_monic : IsMonic elements (polynomial g)
  pub is : polynomial g ≡ gcd elements (polynomial d) ((level_derivation (monomials tower) level).derive (polynomial d))

-- g is monic and g = gcd(d, ∂d)
pub record IsGcdWithPartial (d g : List Element) : Type 0 where
  pub is_monic : IsMonic elements (polynomial g)
  pub is : polynomial g ≡ gcd elements (polynomial d) (formal_derivative elements (polynomial d))

-- s is monic, and gcd(d, Dd) = s·gcd(d, ∂d)
pub record IsStep (tower : List Level) (level : ℕ) (d s : List Element) : Type 0 where
  pub is_monic : IsMonic elements (polynomial s)
  pub equation :
      gcd elements (polynomial d) ((level_derivation (monomials tower) level).derive (polynomial d))
      ≡ polynomial s *ₚ gcd elements (polynomial d) (formal_derivative elements (polynomial d))

-- the parts are those of a splitting factorization of d
pub record AreParts (tower : List Level) (level : ℕ) (d : List Element) (split : Split) : Type 0 where
  pub factorization : SplittingFactorization elements (level_derivation (monomials tower) level) (polynomial d)
  pub normal_is : factorization.normal ≡ polynomial split.normal
  pub special_is : factorization.special ≡ polynomial split.special

-- f = (q·M + r)/M with deg r < deg M for the numerator and the denominator M of f; q and r are in normal form
pub record IsDivisionAt (level : ℕ) (f : Element) (d : Divided) : Type 0 where
  pub denominator : d.denominator ≡ denominator_at level f
  pub division : IsDivisionOf (numerator_at level f) (denominator_at level f) (quotient_and_rest d)
  pub quotient : IsPolynomial d.quotient
  pub rest : IsPolynomial d.rest
