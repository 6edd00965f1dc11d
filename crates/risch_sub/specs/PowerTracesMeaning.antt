-- What the traces of powers are: those of the algebra of risch_mean modulo d.
use Rattle.std.specs.Prelude.{◌≡◌, ℕ, suc, ◌<◌, List, map, length, get_or}
use Rattle.risch_mean.specs.Element as mean
use Rattle.risch_mean.specs.ElementPolynomials.{monic_polynomial, remainder_modulo, power_modulo, trace_modulo}
use Rattle.risch_level.specs.Levels.{Element, element}
use Rattle.risch_element_theory.specs.WholeTower.{meaning}

-- With r the coefficients of the monic d below its leading one: the entry at i is the trace of ⟦u⟧^(i + 1) modulo d.
pub record ArePowerTraces (d u : List Element) (traces : List Element) : Type 0 where
  pub below : List mean.Element
  pub modulus : map meaning d ≡ monic_polynomial below
  pub are : (i : ℕ) → i < length traces → meaning (get_or traces i element.zero) ≡ trace_modulo below (power_modulo below (remainder_modulo below (map meaning u)) (suc i))
