-- The values at t of S in K[z][t], given by its coefficients c_0, c_1, .. in K[z]: the coefficient of S at z^k has the value Σ (c_i)_k·t^i, and S(c) the value Σ c_i(c)·t^i.
--     coefficient-by_powers      the coefficient at z^k in K(t)
--     value-coefficient, value-at_point      the values at t
use Rattle.std.specs.Prelude.{◌≡◌, ℕ, List, [], ◌∷◌, map}
use Rattle.std.proofs.Common.{sym, ap, ap₂, ◌∙◌}
use Rattle.risch_ring.specs.CommRing.{Field}
use Rattle.risch_univariate.specs.Polynomial.{Polynomial, of_list, coefficient, constant, variable as polynomial_variable}
use Rattle.risch_univariate.specs.PolynomialRing.{polynomials}
use Rattle.risch_univariate.proofs.Coefficients.{coefficient-zero, coefficient-add, coefficient-constant_mul}
use Rattle.risch_fraction_field.specs.DifferentialField.{constant_fraction, constant_fraction-apply}
use Rattle.risch_fraction_field.specs.Fraction.{Fraction, of_polynomial}
use Rattle.risch_fraction_field.specs.FractionField.{fractions}
use Rattle.risch_fraction_field.specs.Representation.{of_polynomial-zero, of_polynomial-add, of_polynomial-mul}
use Rattle.risch_extension.specs.LinearFactors as LinearFactors
use Rattle.risch_extension.proofs.PolynomialMaps.{coefficient-map_polynomial}
use Rattle.risch_residue_theory.specs.BivariatePolynomial.{lift as over_fractions, by_powers}
use Rattle.risch_residue_theory.specs.RuleLogarithm.{at_point}
use Rattle.risch_mean.specs.Element.{variable}
use Rattle.risch_mean.specs.ElementField.{elements}
use Rattle.risch_mean.specs.Univariate.{value_at}
use Rattle.risch_mean.proofs.Subfield.{Subfield, inclusion, all_included}
use Rattle.risch_element_theory.proofs.ElementsTranscendence as Transcendence
use Rattle.risch_monomial.proofs.LevelPolynomials.{at}
use Rattle.risch_logarithm_theory.specs.FieldBelow.{below, value_below}
use Rattle.risch_logarithm_theory.proofs.FieldBelow.{evaluation_below-polynomial, evaluation_below-value}
use Rattle.risch_logarithm_theory.proofs.MappedPolynomials.{map-of_list}

module _ {A : Type 0} (F : Field A) where
  abbrev Q : Field (Fraction F)
  Q = fractions F

  -- the coefficient of Σ c_i(z)·t^i at z^k is Σ (c_i)_k·t^i
  pub coefficient-by_powers : (cs : List (Polynomial F)) (k : ℕ) → coefficient (fractions F) (by_powers F cs) k ≡ of_polynomial F (of_list F (map (λ c. coefficient F c k) cs))
  unfolding by_powers
  coefficient-by_powers [] k = coefficient-zero Q k ∙ sym (ap (of_polynomial F) (Transcendence.of_list-nil F) ∙ of_polynomial-zero F)
  coefficient-by_powers (c ∷ cs) k =
      let rest = of_list F (map (λ c. coefficient F c k) cs) in
      let t = polynomial_variable F in
      coefficient-add Q (over_fractions F c) ((polynomials Q).mul (constant Q (of_polynomial F t)) (by_powers F cs)) k
      ∙ ap₂ Q.add
      (coefficient-map_polynomial F Q (constant_fraction F) c k ∙ constant_fraction-apply F (coefficient F c k))
      (coefficient-constant_mul Q (of_polynomial F t) (by_powers F cs) k ∙ ap (Q.mul (of_polynomial F t)) (coefficient-by_powers cs k) ∙ sym (of_polynomial-mul F t rest))
      ∙ sym (of_polynomial-add F (constant F (coefficient F c k)) ((polynomials F).mul t rest)) ∙ ap (of_polynomial F) (sym (Transcendence.of_list-cons F (coefficient F c k) (map (λ c. coefficient F c k) cs)))

module _ (level : ℕ) where
  -- the value at t of Σ a_i·t^i
  pub value-of_list : (cs : List (Subfield level)) → value_below level (of_polynomial (below level) (of_list (below level) cs)) ≡ value_at elements.ring (variable level) (all_included level cs)
  unfolding inclusion
  value-of_list cs =
      sym (evaluation_below-value level (of_polynomial (below level) (of_list (below level) cs))) ∙ evaluation_below-polynomial level (of_list (below level) cs)
      ∙ ap (at level) (map-of_list (below level) elements (inclusion level) cs) ∙ Transcendence.at-of_list elements (variable level) (all_included level cs)

  -- the value at t of the coefficient at z^k is Σ (c_i)_k·t^i
  pub value-coefficient : (cs : List (Polynomial (below level))) (k : ℕ)
      → value_below level (coefficient (fractions (below level)) (by_powers (below level) cs) k) ≡ value_at elements.ring (variable level) (all_included level (map (λ c. coefficient (below level) c k) cs))
  value-coefficient cs k = ap (value_below level) (coefficient-by_powers (below level) cs k) ∙ value-of_list (map (λ c. coefficient (below level) c k) cs)

  -- the value at t of S(c) is Σ c_i(c)·t^i
  pub value-at_point : (c : Subfield level) (cs : List (Polynomial (below level)))
      → value_below level (at_point (below level) c cs) ≡ value_at elements.ring (variable level) (all_included level (map (LinearFactors.value_at (below level) c) cs))
  unfolding at_point
  value-at_point c cs = value-of_list (map (LinearFactors.value_at (below level) c) cs)
