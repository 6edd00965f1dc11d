-- What the monomials of a tower stand for, and what is true of the levels of every tower.
use Rattle.std.specs.Prelude.{◌≡◌, ℕ, suc, false, List, [], ◌∷◌, map}
use Rattle.risch_mean.specs.Element as mean
use Rattle.risch_mean.specs.Tower as towers
use Rattle.risch_mean.specs.Tower.{log, exp, kind_of}
use Rattle.risch_level.specs.Levels.{element}
use Rattle.risch_element_theory.specs.DerivationMeaning.{kind_with}
use Rattle.risch_element_theory.specs.ElementDerivation.{AreElementRatesOf}
use Rattle.risch_element_theory.specs.WholeTower.{IsElement, meaning, Within}
use Rattle.risch_tower.specs.declared.level.Level.{Level}
use Rattle.risch_tower.specs.declared.level.Monomial.{Monomial}
use Rattle.risch_tower.specs.declared.level.Monomial.TheVariants.{Log, Exp}
use Rattle.risch_tower.specs.Tower.{argument, rates_of}

-- log ⟦a⟧ or exp ⟦a⟧
abbrev pub monomial_of : Monomial → towers.Monomial
monomial_of (Log a) = log (meaning a)
monomial_of (Exp a) = exp (meaning a)

-- the tower of the monomials
abbrev pub monomials : List Level → towers.Tower
monomials levels = map (λ l. monomial_of l.monomial) levels

-- the logarithm of 0
abbrev pub IsZeroLogarithm : Monomial → Type 0
IsZeroLogarithm (Log a) = meaning a ≡ mean.zero
IsZeroLogarithm (Exp a) = ⊥

-- ---- the levels of a tower
-- there is no logarithm of 0
abbrev pub IsAllowed : Monomial → Type 0
IsAllowed (Log a) = element.is_zero a ≡ false
IsAllowed (Exp a) = Unit {0}

-- a level above n variables: its argument and its η lie in the field of these
pub record IsLevel (n : ℕ) (l : Level) : Type 0 where
  pub argument_normal : IsElement (argument l.monomial)
  pub argument_within : Within n (argument l.monomial)
  pub allowed : IsAllowed l.monomial
  pub eta_within : Within n l.rate.eta

-- the levels above n variables, one above the other
abbrev pub AreLevels : ℕ → List Level → Type 0
AreLevels n [] = Unit {0}
AreLevels n (l ∷ levels) = IsLevel n l × AreLevels (suc n) levels

-- the kind and η of each level from n on are those of the tower
abbrev pub HaveKinds : towers.Tower → ℕ → List Level → Type 0
HaveKinds tower n [] = Unit {0}
HaveKinds tower n (l ∷ levels) = (kind_with l.rate.kind (meaning l.rate.eta) ≡ kind_of tower n) × HaveKinds tower (suc n) levels

-- the levels above x, and the rates that they give, are those of the tower
pub record AreTower (levels : List Level) : Type 0 where
  pub are_levels : AreLevels 1 levels
  pub have_kinds : HaveKinds (monomials levels) 1 levels
  pub are_rates : AreElementRatesOf (monomials levels) (rates_of levels)
