-- The derivative of a list of coefficients in the variable of a level, as risch_mean has it, is that of the polynomial.
--     of_derivative
use Rattle.std.proofs.Common.{◌≡◌, ℕ, zero, suc, List, [], ◌∷◌, map, sym, ◌∙◌, ap, subst, arith}
use Rattle.risch_ring.specs.CommRing.{of_nat}
use Rattle.risch_ring.specs.Lists.{Each}
use Rattle.risch_univariate.specs.Polynomial.{of_list}
use Rattle.risch_mean.specs.Element as mean
use Rattle.risch_mean.specs.Element.{InField, AllInField, variable}
use Rattle.risch_mean.specs.ElementField.{elements}
use Rattle.risch_mean.specs.ElementPolynomials.{polynomial_derivative}
use Rattle.risch_mean.specs.Tower.{derive_in, kind_of, derivative_of}
use Rattle.risch_mean.specs.Univariate.{value_at, add_lists, scale, mul_lists, numbered, formal_derivative}
use Rattle.risch_mean.proofs.FieldClosure as FieldClosure
use Rattle.risch_mean.proofs.LevelKinds.{kind_is}
use Rattle.risch_mean.proofs.Levels.{InField-derive_in}
use Rattle.risch_mean.proofs.UnivariateLaws as UnivariateLaws
use Rattle.risch_element_theory.specs.DerivationMeaning.{kind_with}
use Rattle.risch_derivation.specs.declared.rate.Kind.{Kind}
use Rattle.risch_derivation.specs.declared.rate.Kind.TheVariants.{Primitive, Exponential}
use Rattle.risch_element_theory.specs.WholeTower.{meaning}
use Rattle.risch_element_theory.proofs.DerivationTower.{derivation_in}
use Rattle.risch_element_theory.proofs.ElementsTranscendence as Transcendence
use Rattle.risch_element_theory.proofs.Levels.{level_below}
use Rattle.risch_tower.specs.declared.level.Level.{Level}
use Rattle.risch_tower.specs.Tower.{rate_at}
use Rattle.risch_tower.specs.TowerMeaning.{monomials}
use Rattle.risch_tower.proofs.TowerLevels.{length-monomials}
use Rattle.risch_monomial.specs.LevelDerivation.{level_derivation, IsLevelOf}
use Rattle.risch_monomial.proofs.LevelPolynomials.{Over, Over-derivative, at-derivative, same-of_values}

-- ---- the field of the coefficients
each-of_all : (level : ℕ) (p : List mean.Element) → AllInField level p → Each (InField level) p
each-of_all level [] all = tt
each-of_all level (c ∷ p) all = (all.0, each-of_all level p all.1)

each-add : (level : ℕ) (p q : List mean.Element) → Each (InField level) p → Each (InField level) q → Each (InField level) (add_lists elements.ring p q)
each-add level [] q all_p all_q = all_q
each-add level (a ∷ p) [] all_p all_q = all_p
each-add level (a ∷ p) (b ∷ q) all_p all_q = (FieldClosure.InField-add level a b all_p.0 all_q.0, each-add level p q all_p.1 all_q.1)

each-scale : (level : ℕ) (a : mean.Element) (p : List mean.Element) → InField level a → Each (InField level) p → Each (InField level) (scale elements.ring a p)
each-scale level a [] lies all = tt
each-scale level a (b ∷ p) lies all = (FieldClosure.InField-mul level a b lies all.0, each-scale level a p lies all.1)

each-mul : (level : ℕ) (p q : List mean.Element) → Each (InField level) p → Each (InField level) q → Each (InField level) (mul_lists elements.ring p q)
each-mul level [] q all_p all_q = tt
each-mul level (a ∷ p) q all_p all_q =
    each-add level (scale elements.ring a q) (mean.zero ∷ mul_lists elements.ring p q) (each-scale level a q all_p.0 all_q) (FieldClosure.InField-zero level, each-mul level p q all_p.1 all_q)

number-lies : (level n : ℕ) → InField level (of_nat elements.ring n)
unfolding of_nat
number-lies level zero = FieldClosure.InField-zero level
number-lies level (suc n) = FieldClosure.InField-add level mean.one (of_nat elements.ring n) (FieldClosure.InField-one level) (number-lies level n)

each-numbered : (level n : ℕ) (p : List mean.Element) → Each (InField level) p → Each (InField level) (numbered elements.ring n p)
each-numbered level n [] all = tt
each-numbered level n (c ∷ p) all = (FieldClosure.InField-mul level (of_nat elements.ring n) c (number-lies level n) all.0, each-numbered level (suc n) p all.1)

each-formal : (level : ℕ) (p : List mean.Element) → Each (InField level) p → Each (InField level) (formal_derivative elements.ring p)
each-formal level [] all = tt
each-formal level (c ∷ p) all = each-numbered level 1 p all.1

each-derived : (tower : List Level) (level : ℕ) (l : IsLevelOf tower level) (p : List mean.Element) → Each (InField level) p → Each (InField level) (map (derive_in (monomials tower)) p)
each-derived tower level l [] all = tt
each-derived tower level l (c ∷ p) all = (InField-derive_in (monomials tower) level c l.is_tower all.0, each-derived tower level l p all.1)

rate-lies : (tower : List Level) (level : ℕ) → IsLevelOf tower level → Each (InField level) (derivative_of (kind_of (monomials tower) level))
rate-lies tower level l = subst (λ kind. Each (InField level) (derivative_of kind)) l.kind_is (by ((rate_at tower level).kind))
  where
    by : (k : Kind) → Each (InField level) (derivative_of (kind_with k (meaning (rate_at tower level).eta)))
    by Primitive = (l.eta_lies, tt)
    by Exponential = (FieldClosure.InField-zero level, (l.eta_lies, tt))

-- ---- the derivative
module _ (tower : List Level) (level : ℕ) (l : IsLevelOf tower level) (p : List mean.Element) (all : AllInField level p) where
  each : Each (InField level) p
  each = each-of_all level p all

  over-list : (q : List mean.Element) → Each (InField level) q → Over level (of_list elements q)
  over-list q all_q = Transcendence.Over-of_list elements (InField level) (level_below level).is_closed q all_q

  each-derivative : Each (InField level) (polynomial_derivative (monomials tower) level p)
  each-derivative =
      each-add level (map (derive_in (monomials tower)) p) (mul_lists elements.ring (derivative_of (kind_of (monomials tower) level)) (formal_derivative elements.ring p))
      (each-derived tower level l p each)
      (each-mul level (derivative_of (kind_of (monomials tower) level)) (formal_derivative elements.ring p) (rate-lies tower level l) (each-formal level p each))

  -- Dt is the value at t of its list
  derive-variable : derive_in (monomials tower) (variable level) ≡ value_at elements.ring (variable level) (derivative_of (kind_of (monomials tower) level))
  derive-variable =
      let same = length-monomials tower in
      let there = l.there in
      kind_is (monomials tower) level (omega (arith, same, there)) l.is_tower

  pub of_derivative : of_list elements (polynomial_derivative (monomials tower) level p) ≡ (level_derivation (monomials tower) level).derive (of_list elements p)
  of_derivative =
      same-of_values level (of_list elements (polynomial_derivative (monomials tower) level p)) ((level_derivation (monomials tower) level).derive (of_list elements p))
      (over-list (polynomial_derivative (monomials tower) level p) each-derivative) (Over-derivative tower level (of_list elements p) l (over-list p each))
      (Transcendence.at-of_list elements (variable level) (polynomial_derivative (monomials tower) level p)
      ∙ sym (UnivariateLaws.derive-value elements.ring (derivation_in (monomials tower)) (variable level) (derivative_of (kind_of (monomials tower) level)) derive-variable p)
      ∙ sym (at-derivative tower level (of_list elements p) l ∙ ap (derive_in (monomials tower)) (Transcendence.at-of_list elements (variable level) p)))
