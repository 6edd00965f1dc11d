-- The derivation of K[t] for the variable t of a level of a tower, where K is the field of all elements: it is that of the tower on K, and Dt = η or Dt = η·t.
use Rattle.std.specs.Prelude.{◌≡◌, ℕ, ◌≤◌, List, length}
use Rattle.risch_ring.specs.CommRing.{Derivation}
use Rattle.risch_univariate.specs.Polynomial.{Polynomial, constant, variable}
use Rattle.risch_univariate.specs.PolynomialRing.{polynomials}
use Rattle.risch_univariate.proofs.Derivation.{derivation}
use Rattle.risch_mean.specs.Element.{InField}
use Rattle.risch_mean.specs.ElementField.{elements}
use Rattle.risch_mean.specs.Tower.{Tower, IsTower, Kind, primitive, exponential, kind_of}
use Rattle.risch_element_theory.specs.DerivationMeaning.{kind_with}
use Rattle.risch_element_theory.specs.WholeTower.{meaning}
use Rattle.risch_element_theory.specs.ElementPolynomials.{◌*ₚ◌}
use Rattle.risch_element_theory.proofs.DerivationTower.{derivation_in}
use Rattle.risch_tower.specs.declared.level.Level.{Level}
use Rattle.risch_tower.specs.Tower.{rate_at}
use Rattle.risch_tower.specs.TowerMeaning.{monomials}

-- Dt as a polynomial in t
abbrev pub derivative_of_variable : Kind → Polynomial elements
derivative_of_variable (primitive η) = constant elements η
derivative_of_variable (exponential η) = constant elements η *ₚ variable elements

-- the derivation of K[t] that is D on K and has this value at t
unfoldable pub level_derivation : Tower → ℕ → Derivation (polynomials elements)
level_derivation tower level = derivation elements (derivation_in tower) (derivative_of_variable (kind_of tower level))

-- the level is one of the tower, and its rate, with η in the field below, is that of its variable
pub record IsLevelOf (tower : List Level) (level : ℕ) : Type 0 where
  pub low : level ≤ 4
  pub there : level ≤ length tower
  pub is_tower : IsTower (monomials tower)
  pub eta_lies : InField level (meaning (rate_at tower level).eta)
  pub kind_is : kind_with (rate_at tower level).kind (meaning (rate_at tower level).eta) ≡ kind_of (monomials tower) level
