-- The derivation of the elements of the whole tower, and its rates; a proof that needs the levels opens them.
use Rattle.std.specs.Prelude.{ℕ}
use Rattle.risch_mean.specs.Tower.{Tower}
use Rattle.risch_field.specs.Checked.{Checked}
use Rattle.risch_level.specs.Levels.{Element}
use Rattle.risch_derivation.specs.declared.rate.Rate.{Rate}
use Rattle.risch_derivation.specs.Derivation.{Rates, derive}
use Rattle.risch_derivation.specs.Rates.{constants, adjoined}
use Rattle.risch_element_theory.specs.DerivationMeaning.{AreRatesOf}

-- De, where the levels have these rates
unfoldable pub derive_element : Rates 5 → Element → Checked Element
derive_element = derive 5

-- the rates by which D is 0
unfoldable pub element_constants : Rates 5
element_constants = constants 5

-- the rates with this one for the level that many levels below the highest
unfoldable pub element_adjoined : Rates 5 → ℕ → Rate Element → Rates 5
element_adjoined = adjoined 5

-- the rates are those of the tower's levels: Dx = 1, Dt = Da/a for t = log a, Dt = Da·t for t = exp a, and Dt = 0 past the end of the tower
unfoldable pub AreElementRatesOf : Tower → Rates 5 → Type 0
AreElementRatesOf tower rates = AreRatesOf tower 5 rates
