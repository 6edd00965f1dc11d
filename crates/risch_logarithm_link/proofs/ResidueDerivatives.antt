-- The logarithms of the residues of h have the derivative h, at an exponential h + η·p_1.
--     logarithms-mean      the rule of the logarithms, from the traces of the powers of ρ
use Rattle.std.specs.Prelude.{map}
use Rattle.std.proofs.Common.{◌≡◌, refl, sym, ap, ap₂, ◌∙◌, ℕ, zero, suc, pred, ◌+◌, ◌-◌, ◌≤◌, ◌<◌, List, [], ◌∷◌, length, get_or, All, Ok, arith, subst}
use Rattle.std.proofs.lemmas.List.Elements.{All-nil, All-cons}
use Rattle.risch_ring.specs.CommRing.{CommRing, Field, power, sub, quotient}
use Rattle.risch_ring.specs.Lists.{Each}
use Rattle.risch_ring.specs.Sums.{sum_below}
use Rattle.risch_ring.proofs.FieldLaws as FieldLaws
use Rattle.risch_ring.proofs.RingMaps as RingMaps
use Rattle.risch_univariate.specs.Polynomial.{Polynomial, coefficient, constant, variable as polynomial_variable}
use Rattle.risch_univariate.specs.PolynomialRing.{polynomials}
use Rattle.risch_univariate.specs.Degree.{size}
use Rattle.risch_univariate.specs.Division.{Divides}
use Rattle.risch_univariate.proofs.Division as Division
use Rattle.risch_univariate.proofs.Gcd as Gcd
use Rattle.risch_fraction_field.specs.Fraction.{Fraction, of_polynomial}
use Rattle.risch_fraction_field.specs.FractionField.{fractions}
use Rattle.risch_fraction_field.specs.Representation.{of_polynomial-nonzero}
use Rattle.risch_extension.specs.NewtonPolynomial.{power_trace}
use Rattle.risch_extension.specs.Trace.{trace}
use Rattle.risch_extension.proofs.PolynomialMaps as Maps
use Rattle.risch_residue_theory.specs.RuleLogarithm.{RuleLogarithm}
use Rattle.risch_mean.specs.Element as mean
use Rattle.risch_mean.specs.Element.{variable, ◌+ₑ◌, ◌*ₑ◌}
use Rattle.risch_mean.specs.ElementField.{elements}
use Rattle.risch_mean.proofs.Subfield.{Subfield, inclusion}
use Rattle.risch_polynomial_theory.specs.Meaning.{AllValid}
use Rattle.risch_level.specs.Levels.{Element, element}
use Rattle.risch_derivation.specs.declared.rate.Kind.{Kind}
use Rattle.risch_derivation.specs.declared.rate.Kind.TheVariants.{Primitive, Exponential}
use Rattle.risch_element_theory.specs.WholeTower.{IsElement, meaning, polynomial, AllWithin}
use Rattle.risch_element_theory.proofs.ElementPolynomials.{element_interprets}
use Rattle.risch_element_theory.proofs.ElementsTranscendence as Transcendence
use Rattle.risch_tower.specs.declared.level.Level.{Level}
use Rattle.risch_tower.specs.Tower.{rate_at}
use Rattle.risch_tower.specs.TowerMeaning.{monomials}
use Rattle.risch_monomial.specs.LevelDerivation.{level_derivation}
use Rattle.risch_monomial.specs.LevelElements.{numerator_at, denominator_at}
use Rattle.risch_monomial.proofs.LevelPolynomials.{at}
use Rattle.risch_monomial.proofs.LevelElements.{at-some}
use Rattle.risch_monomial.proofs.LowestTerms.{parts-product}
use Rattle.risch_rootsum.specs.DerivativeMeaning.{IsLogPart}
use Rattle.risch_rootsum.specs.declared.integral.LogPart.{LogPart}
use Rattle.risch_sub.specs.PowerTracesMeaning.{ArePowerTraces}
use Rattle.risch_logarithm_theory.specs.FieldBelow.{below, included_polynomial, eta_below}
use Rattle.risch_logarithm_theory.specs.LogarithmElements.{StandsForLogarithm, StandForLogarithms, IsNormalPart, HaveDerivatives}
use Rattle.risch_logarithm_theory.proofs.FieldBelow as Below
use Rattle.risch_logarithm_theory.proofs.FieldBelow.{evaluation_below}
use Rattle.risch_logarithm_theory.proofs.LogarithmDerivatives.{IsSeparable, logarithms_derivative}
use Rattle.risch_logarithm_rules.specs.Logarithms.{logarithms}
use Rattle.risch_logarithm_link.specs.ResidueLogarithms.{surplus, AreResidueLogarithms}
use Rattle.risch_logarithm_link.proofs.MadeLogarithms.{made-stands, made-is_part, made-is_normal}
use Rattle.risch_logarithm_link.proofs.NewtonCoefficients.{IsImage}
use Rattle.risch_logarithm_link.proofs.ResidueLogarithms.{total_with, IsPart, HaveResidueLogarithms, logarithms-are}
use Rattle.risch_logarithm_link.proofs.ResidueSetting.{IsSetting, a, d, nonzero_d, denominator_kept, denominator_within, stands_a, stands_d}
use Rattle.risch_logarithm_link.proofs.StandingLogarithms.{AreMadeOf}
use Rattle.risch_logarithm_link.proofs.StandingPolynomials as Standing

-- the trace modulo a constant is 0
trace-constant : {A : Type 0} (F : Field A) (P : Polynomial F) (n : ¬ (P ≡ (polynomials F).zero)) (u : Polynomial F) → size F P ≡ 1 → trace F P n u ≡ F.zero
unfolding trace sum_below
trace-constant F P n u e =
    ap (λ k. sum_below F.ring (λ i. coefficient F (Division.divide F P n ((polynomials F).mul (power (polynomials F) (polynomial_variable F) i) u)).remainder i) (pred k)) e

module _ (level : ℕ) (low : level ≤ 4) where
  stand-each : (logs : List LogPart) (rs : List (RuleLogarithm (below level))) → AreMadeOf (below level) (inclusion level) level logs rs → Each (λ r. IsPart (below level) r.modulus) rs → StandForLogarithms level logs rs
  stand-each [] [] made parts = tt
  stand-each [] (r ∷ rs) made parts = absurd made
  stand-each (l ∷ ls) [] made parts = absurd made
  stand-each (l ∷ ls) (r ∷ rs) made parts = (made-stands level low l r made.0 parts.0.0, stand-each ls rs made.1 parts.1)

  part-each : (logs : List LogPart) (rs : List (RuleLogarithm (below level))) → AreMadeOf (below level) (inclusion level) level logs rs → Each (λ r. IsPart (below level) r.modulus) rs → Each (IsLogPart (level + 1)) logs
  part-each [] [] made parts = tt
  part-each [] (r ∷ rs) made parts = absurd made
  part-each (l ∷ ls) [] made parts = absurd made
  part-each (l ∷ ls) (r ∷ rs) made parts = (made-is_part level low l r made.0 parts.0.0, part-each ls rs made.1 parts.1)

  normal-each : (logs : List LogPart) (rs : List (RuleLogarithm (below level))) → AreMadeOf (below level) (inclusion level) level logs rs → Each (λ r. IsPart (below level) r.modulus) rs → Each IsNormalPart logs
  normal-each [] [] made parts = tt
  normal-each [] (r ∷ rs) made parts = absurd made
  normal-each (l ∷ ls) [] made parts = absurd made
  normal-each (l ∷ ls) (r ∷ rs) made parts = (made-is_normal level low l r made.0 parts.0.0, normal-each ls rs made.1 parts.1)

all_of_each : (P : LogPart → Type 0) (logs : List LogPart) → Each P logs → All P logs
all_of_each P [] h = All-nil P
all_of_each P (l ∷ ls) h = All-cons P l ls h.0 (all_of_each P ls h.1)

module _ (tower : List Level) (level : ℕ) (h : Element) (s : IsSetting tower level h) where
  separable-each : (rs : List (RuleLogarithm (below level))) → Each (λ r. IsPart (below level) r.modulus) rs → Each (IsSeparable tower level s.is_level) rs
  separable-each [] parts = tt
  separable-each (r ∷ rs) parts = (Below.below-separable level r.modulus (Gcd.monic-nonzero (below level) r.modulus parts.0.0) parts.0.1, separable-each rs parts.1)

  -- the value at t of a/d is h
  value-quotient : (evaluation_below level).apply (quotient (fractions (below level)) (of_polynomial (below level) (a tower level h s)) (of_polynomial (below level) (d tower level h s))) ≡ meaning h
  value-quotient =
      RingMaps.apply-quotient (fractions (below level)) elements (evaluation_below level) (of_polynomial (below level) (a tower level h s)) (of_polynomial (below level) (d tower level h s))
      (of_polynomial-nonzero (below level) (d tower level h s) (nonzero_d tower level h s))
      ∙ ap₂ (quotient elements)
      (Below.evaluation_below-polynomial level (a tower level h s) ∙ ap (at level) (stands_a tower level h s).image)
      (Below.evaluation_below-polynomial level (d tower level h s) ∙ ap (at level) (stands_d tower level h s).image)
      ∙ ap (λ (x : mean.Element). quotient elements x (at level (polynomial (denominator_at level h)))) (sym (parts-product level h s.is_level.low s.is_element s.within))
      ∙ elements.mul_assoc (meaning h) (at level (polynomial (denominator_at level h))) (elements.inverse (at level (polynomial (denominator_at level h))))
      ∙ ap (mean.mul (meaning h)) (elements.mul-inverse (at level (polynomial (denominator_at level h))) some) ∙ elements.mul-one (meaning h)
    where
      some : ¬ (at level (polynomial (denominator_at level h)) ≡ mean.zero)
      some = at-some level (denominator_at level h) s.is_level.low (denominator_kept tower level h s) (denominator_within tower level h s) (λ e. let p = s.proper in let n = ap length e in absurd (omega (arith, p, n)))

  -- the value of the total
  value-total : (kind : Kind) (η p : Subfield level) (x y : mean.Element) → (inclusion level).apply η ≡ x → (inclusion level).apply p ≡ y
      → (evaluation_below level).apply (total_with (below level) kind η p (a tower level h s) (d tower level h s)) ≡ meaning h +ₑ surplus kind x y
  value-total Primitive η p x y e g = value-quotient ∙ sym (elements.add-zero (meaning h))
  value-total Exponential η p x y e g =
      (evaluation_below level).apply-add (quotient (fractions (below level)) (of_polynomial (below level) (a tower level h s)) (of_polynomial (below level) (d tower level h s)))
      (of_polynomial (below level) (constant (below level) ((below level).mul η p)))
      ∙ ap₂ mean.add value-quotient
      (Below.evaluation_below-polynomial level (constant (below level) ((below level).mul η p)) ∙ ap (at level) (Maps.map_polynomial-constant (below level) elements (inclusion level) ((below level).mul η p))
      ∙ Transcendence.at-constant elements (variable level) ((inclusion level).apply ((below level).mul η p)) ∙ (inclusion level).apply-mul η p ∙ ap₂ mean.mul e g)

  -- p_1 is the first trace
  first-trace : (traces : List Element) (rho : Polynomial (below level)) → length traces ≡ length (denominator_at level h) - 1
      → ((i : ℕ) → i < length traces → IsImage (below level) (inclusion level) (get_or traces i element.zero) (power_trace (below level) (d tower level h s) (nonzero_d tower level h s) rho (suc i)))
      → (inclusion level).apply (power_trace (below level) (d tower level h s) (nonzero_d tower level h s) rho 1) ≡ meaning (get_or traces 0 element.zero)
  first-trace [] rho count are =
      ap (inclusion level).apply (trace-constant (below level) (d tower level h s) (nonzero_d tower level h s) _
      (let u = Standing.stands-size (below level) (inclusion level) (denominator_at level h) (d tower level h s) (stands_d tower level h s) in let p = s.proper in omega (arith, u, p, count)))
      ∙ RingMaps.apply-zero (inclusion level) ∙ sym element_interprets.zero-means
  first-trace (p ∷ traces) rho count are = (are 0 (omega arith)).image

  eta-included : (inclusion level).apply (eta_below tower level s.is_level) ≡ meaning (rate_at tower level).eta
  eta-included = Below.inclusion-apply level (eta_below tower level s.is_level)

  mean-of : (traces : List Element) (logs : List LogPart) → length traces ≡ length (denominator_at level h) - 1 → HaveResidueLogarithms tower level h s traces logs
      → AreResidueLogarithms tower level h (get_or traces 0 element.zero) logs
  mean-of traces logs count x =
      let parts = part-each level s.is_level.low logs x.rs x.are_made x.are_parts in
      record {
        derivatives = subst (HaveDerivatives (monomials tower) logs)
            (value-total (rate_at tower level).kind (eta_below tower level s.is_level) (power_trace (below level) (d tower level h s) (nonzero_d tower level h s) x.rho 1)
            (meaning (rate_at tower level).eta) (meaning (get_or traces 0 element.zero)) eta-included (first-trace traces x.rho count x.traces_are))
            (logarithms_derivative tower level s.is_level logs x.rs (stand-each level s.is_level.low logs x.rs x.are_made x.are_parts) parts (normal-each level s.is_level.low logs x.rs x.are_made x.are_parts)
            (separable-each x.rs x.are_parts) _ x.derivative);
        parts = all_of_each (IsLogPart (level + 1)) logs parts;
      }

  -- the rule of the logarithms, from the traces of the powers of ρ with ρ·D(d) = a modulo d
  pub logarithms-mean : (rho traces : List Element) (logs : List LogPart)
      → Divides elements (polynomial (denominator_at level h)) (sub (polynomials elements) ((polynomials elements).mul (polynomial rho) ((level_derivation (monomials tower) level).derive (polynomial (denominator_at level h)))) (polynomial (numerator_at level h)))
      → AllValid IsElement traces → AllWithin 0 traces → ArePowerTraces (denominator_at level h) rho traces → length traces ≡ length (denominator_at level h) - 1
      → logarithms tower level h traces ≡ Ok logs → AreResidueLogarithms tower level h (get_or traces 0 element.zero) logs
  logarithms-mean rho traces logs given valid rational are count is = mean-of traces logs count (logarithms-are tower level h s rho traces logs given valid rational are count is)
