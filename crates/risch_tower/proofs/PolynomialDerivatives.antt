-- The derivative of a polynomial in the variable t of a level of a tower: it is a polynomial, and its value at t is D of the value of the polynomial.
use Rattle.std.proofs.Common.{◌≡◌, ℕ, List, Ok, sym, subst}
use Rattle.risch_mean.specs.Element.{variable}
use Rattle.risch_mean.specs.Tower.{derive_in, kind_of}
use Rattle.risch_level.specs.Levels.{Element, element}
use Rattle.risch_derivation.specs.Derivation.{Rates, derive_polynomial}
use Rattle.risch_derivation.specs.declared.rate.Rate.{Rate}
use Rattle.risch_element_theory.specs.DerivationMeaning.{kind_with}
use Rattle.risch_element_theory.specs.ElementDerivation.{derive_element, AreElementRatesOf}
use Rattle.risch_element_theory.specs.WholeTower.{IsElement, IsPolynomial, meaning, value_of}
use Rattle.risch_element_theory.proofs.PolynomialDerivation.{polynomial-derivative}
use Rattle.risch_tower.specs.declared.level.Level.{Level}
use Rattle.risch_tower.specs.Tower.{rates_of}
use Rattle.risch_tower.specs.TowerMeaning.{monomials, AreTower}
use Rattle.risch_tower.proofs.TowerLevels.{are-tower}

pub record IsDerivativeAt (levels : List Level) (level : ℕ) (p r : List Element) : Type 0 where
  pub is_polynomial : IsPolynomial r
  pub stands : value_of r (variable level) ≡ derive_in (monomials levels) (value_of p (variable level))

pub derivative-at : (levels : List Level) (rates : Rates 5) → AreTower levels → rates ≡ rates_of levels →
    (level : ℕ) (rate : Rate Element) → IsElement rate.eta → kind_with rate.kind (meaning rate.eta) ≡ kind_of (monomials levels) level →
    (p r : List Element) → IsPolynomial p → derive_polynomial element (derive_element rates) rate p ≡ Ok r → IsDerivativeAt levels level p r
derivative-at levels rates h is level rate v kind p r k e =
    let are : AreElementRatesOf (monomials levels) rates = subst (AreElementRatesOf (monomials levels)) (sym is) h.are_rates in
    let d = polynomial-derivative (monomials levels) rates (are-tower levels h) are level rate v kind p r k e in
    record { is_polynomial = d.0; stands = d.1 }
