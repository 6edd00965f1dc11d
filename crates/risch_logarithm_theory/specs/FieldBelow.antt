-- The field K of the elements below a level of a tower, as a type, and K[t] and K(t) for the variable t of the level: polynomials over K as polynomials over all elements, the elements of the level as values at t of
-- fractions over K, and the derivation of the tower on them.
use Rattle.std.specs.Prelude.{ℕ, List, [], ◌∷◌}
use Rattle.risch_ring.specs.CommRing.{Field, Derivation, quotient}
use Rattle.risch_ring.specs.Lists.{Each}
use Rattle.risch_univariate.specs.Polynomial.{Polynomial, of_list, constant, variable as polynomial_variable}
use Rattle.risch_univariate.specs.PolynomialRing.{polynomials}
use Rattle.risch_fraction_field.specs.Fraction.{Fraction}
use Rattle.risch_extension.specs.PolynomialMap.{map_polynomial}
use Rattle.risch_mean.specs.Element as mean
use Rattle.risch_mean.specs.Element.{InField, AllInField}
use Rattle.risch_mean.specs.ElementField.{elements}
use Rattle.risch_mean.proofs.Subfield.{Subfield, subfield, within, inclusion, subfield_derivation, lifted}
use Rattle.risch_derivation.specs.declared.rate.Kind.{Kind}
use Rattle.risch_derivation.specs.declared.rate.Kind.TheVariants.{Primitive, Exponential}
use Rattle.risch_element_theory.specs.WholeTower.{meaning}
use Rattle.risch_tower.specs.declared.level.Level.{Level}
use Rattle.risch_tower.specs.Tower.{rate_at}
use Rattle.risch_tower.specs.TowerMeaning.{monomials}
use Rattle.risch_monomial.specs.LevelDerivation.{IsLevelOf}
use Rattle.risch_monomial.proofs.LevelPolynomials.{Over, at}

-- K
abbrev pub below : (level : ℕ) → Field (Subfield level)
below level = subfield level

-- p in K[t] as a polynomial over all elements
abbrev pub included_polynomial : (level : ℕ) → Polynomial (below level) → Polynomial elements
included_polynomial level = map_polynomial (below level) elements (inclusion level)

-- the elements of the list lie below the level
abbrev pub all_lie_below : (level : ℕ) (cs : List mean.Element) → Each (InField level) cs → AllInField level cs
all_lie_below level [] h = tt
all_lie_below level (c ∷ cs) h = (h.0, all_lie_below level cs h.1)

-- the polynomial over K with the coefficients of p, which lie in K
unfoldable pub lift : (level : ℕ) (p : Polynomial elements) → Over level p → Polynomial (below level)
lift level p over = of_list (below level) (lifted level p.coefficients (all_lie_below level p.coefficients over)).0

-- the same for each polynomial of a list
abbrev pub lift_all : (level : ℕ) (ps : List (Polynomial elements)) → Each (Over level) ps → List (Polynomial (below level))
lift_all level [] h = []
lift_all level (p ∷ ps) h = lift level p h.0 ∷ lift_all level ps h.1

-- p(t)/q(t) for f = p/q in K(t)
unfoldable pub value_below : (level : ℕ) → Fraction (below level) → mean.Element
value_below level f = quotient elements (at level (included_polynomial level f.numerator)) (at level (included_polynomial level f.denominator))

-- Dt as a polynomial in t over a field: η or η·t
abbrev pub derivative_with : {A : Type 0} (F : Field A) → Kind → A → Polynomial F
derivative_with F Primitive η = constant F η
derivative_with F Exponential η = (polynomials F).mul (constant F η) (polynomial_variable F)

module _ (tower : List Level) (level : ℕ) (l : IsLevelOf tower level) where
  -- D on K
  abbrev pub derivation_below : Derivation (below level).ring
  derivation_below = subfield_derivation level (monomials tower) l.is_tower

  -- η in K
  abbrev pub eta_below : Subfield level
  eta_below = within level (meaning (rate_at tower level).eta) l.eta_lies

  -- Dt in K[t]
  abbrev pub variable_derivative : Polynomial (below level)
  variable_derivative = derivative_with (below level) (rate_at tower level).kind eta_below
