-- Polynomials in z over K(t) with their coefficients taken at t: polynomials over all elements.
--     evaluated      Σ f_k·z^k ↦ Σ f_k(t)·z^k.  coefficient-evaluated
--     evaluated-lift      on polynomials over K it is the inclusion
--     evaluated-coefficientwise      it commutes with the derivation of the coefficients
--     coefficientwise-of_list      D on the coefficients of a list
use Rattle.std.specs.Prelude.{◌≡◌, ℕ, zero, suc, List, [], ◌∷◌, map, get_or}
use Rattle.std.proofs.Common.{refl, sym, ap, ◌∙◌}
use Rattle.risch_ring.specs.CommRing.{Field, Derivation}
use Rattle.risch_ring.proofs.Derivations.{derive-zero}
use Rattle.risch_univariate.specs.Polynomial.{Polynomial, of_list, coefficient}
use Rattle.risch_univariate.specs.PolynomialLaws.{polynomial_ext, coefficient-of_list}
use Rattle.risch_univariate.proofs.FormalDerivative.{coefficientwise, coefficient-coefficientwise}
use Rattle.risch_fraction_field.specs.DifferentialField.{constant_fraction}
use Rattle.risch_fraction_field.specs.Fraction.{Fraction}
use Rattle.risch_fraction_field.specs.FractionField.{fractions}
use Rattle.risch_extension.specs.PolynomialMap.{map_polynomial}
use Rattle.risch_extension.proofs.PolynomialMaps.{coefficient-map_polynomial}
use Rattle.risch_residue_theory.specs.BivariatePolynomial.{lift as over_fractions}
use Rattle.risch_residue_theory.specs.Logarithm.{∂}
use Rattle.risch_mean.specs.ElementField.{elements}
use Rattle.risch_mean.proofs.Subfield.{inclusion}
use Rattle.risch_element_theory.proofs.DerivationTower.{derivation_in}
use Rattle.risch_tower.specs.declared.level.Level.{Level}
use Rattle.risch_tower.specs.TowerMeaning.{monomials}
use Rattle.risch_monomial.specs.LevelDerivation.{IsLevelOf}
use Rattle.risch_logarithm_theory.specs.FieldBelow.{below, included_polynomial, derivation_below, variable_derivative}
use Rattle.risch_logarithm_theory.proofs.FieldBelow.{evaluation_below, evaluation_below-constant, evaluation_below-derive}

-- D on the coefficients of the polynomial of a list
item-derive : {A : Type 0} (F : Field A) (D : Derivation F.ring) (cs : List A) (k : ℕ) → D.derive (get_or cs k F.zero) ≡ get_or (map D.derive cs) k F.zero
item-derive F D [] k = derive-zero D
item-derive F D (c ∷ cs) zero = refl
item-derive F D (c ∷ cs) (suc k) = item-derive F D cs k

pub coefficientwise-of_list : {A : Type 0} (F : Field A) (D : Derivation F.ring) (cs : List A) → coefficientwise F D (of_list F cs) ≡ of_list F (map D.derive cs)
coefficientwise-of_list F D cs = polynomial_ext F (coefficientwise F D (of_list F cs)) (of_list F (map D.derive cs)) (λ k.
    coefficient-coefficientwise F D (of_list F cs) k ∙ ap D.derive (coefficient-of_list F cs k) ∙ item-derive F D cs k ∙ sym (coefficient-of_list F (map D.derive cs) k))

module _ (level : ℕ) where
  abbrev Q : Field (Fraction (below level))
  Q = fractions (below level)

  -- Σ f_k(t)·z^k
  abbrev pub evaluated : Polynomial (fractions (below level)) → Polynomial elements
  evaluated = map_polynomial (fractions (below level)) elements (evaluation_below level)

  pub coefficient-evaluated : (p : Polynomial (fractions (below level))) (k : ℕ) → coefficient elements (evaluated p) k ≡ (evaluation_below level).apply (coefficient (fractions (below level)) p k)
  coefficient-evaluated = coefficient-map_polynomial Q elements (evaluation_below level)

  -- on polynomials over K it is the inclusion
  pub evaluated-lift : (p : Polynomial (below level)) → evaluated (over_fractions (below level) p) ≡ included_polynomial level p
  evaluated-lift p = polynomial_ext elements (evaluated (over_fractions (below level) p)) (included_polynomial level p) (λ k.
      coefficient-evaluated (over_fractions (below level) p) k
      ∙ ap (evaluation_below level).apply (coefficient-map_polynomial (below level) Q (constant_fraction (below level)) p k)
      ∙ evaluation_below-constant level (coefficient (below level) p k) ∙ sym (coefficient-map_polynomial (below level) elements (inclusion level) p k))

  module _ (tower : List Level) (l : IsLevelOf tower level) where
    -- D on the coefficients
    pub evaluated-coefficientwise : (p : Polynomial (fractions (below level)))
        → evaluated (coefficientwise (fractions (below level)) (∂ (below level) (derivation_below tower level l) (variable_derivative tower level l)) p)
        ≡ coefficientwise elements (derivation_in (monomials tower)) (evaluated p)
    evaluated-coefficientwise p =
        let D = ∂ (below level) (derivation_below tower level l) (variable_derivative tower level l) in
        polynomial_ext elements (evaluated (coefficientwise Q D p)) (coefficientwise elements (derivation_in (monomials tower)) (evaluated p)) (λ k.
        coefficient-evaluated (coefficientwise Q D p) k ∙ ap (evaluation_below level).apply (coefficient-coefficientwise Q D p k)
        ∙ evaluation_below-derive tower level l (coefficient Q p k) ∙ ap (derivation_in (monomials tower)).derive (sym (coefficient-evaluated p k))
        ∙ sym (coefficient-coefficientwise elements (derivation_in (monomials tower)) (evaluated p) k))
