-- The logarithms of the residues of h, as the rule forms them: the derivatives of the logarithms of the theory that they are made of add up to a/d, at an exponential to a/d + η·p_1.
use Rattle.std.proofs.Common.{◌≡◌, refl, sym, ap, ◌∙◌, ℕ, zero, suc, ◌-◌, ◌≤◌, ◌<◌, List, [], ◌∷◌, ◌++◌, length, get_or, Option, None, Ok, arith, subst, inl, inr}
use Rattle.risch_ring.specs.CommRing.{CommRing, Field, Derivation, HasCharacteristicZero, sub, quotient}
use Rattle.risch_ring.specs.Lists.{Each}
use Rattle.risch_univariate.specs.Polynomial.{Polynomial, constant}
use Rattle.risch_univariate.specs.PolynomialRing.{polynomials}
use Rattle.risch_univariate.specs.Degree.{size, IsMonic}
use Rattle.risch_univariate.specs.Division.{Divides, IsCoprime, IsSquareFree}
use Rattle.risch_univariate.specs.SquareFreeParts.{product_of_powers, AreParts}
use Rattle.risch_univariate.proofs.Derivation as PolynomialDerivation
use Rattle.risch_univariate.proofs.FormalDerivative.{coefficientwise}
use Rattle.risch_univariate.proofs.Gcd as Gcd
use Rattle.risch_fraction_field.specs.Fraction.{Fraction, of_polynomial}
use Rattle.risch_fraction_field.specs.FractionField.{fractions}
use Rattle.risch_extension.specs.NewtonPolynomial.{power_trace, IsNewtonPolynomial}
use Rattle.risch_residue_theory.specs.RuleLogarithm.{IsRuleSequence, RuleLogarithm, AreRuleLogarithms, HaveDerivative}
use Rattle.risch_residue_theory.proofs.LogarithmsOfTraces.{newton_polynomial-is_monic}
use Rattle.risch_residue_theory.proofs.RuleLogarithms.{size-derivative, newton_polynomial-is_residue_polynomial, rule_logarithms-primitive, rule_logarithms-exponential}
use Rattle.risch_mean.specs.ElementField.{elements}
use Rattle.risch_mean.proofs.Subfield.{Subfield, inclusion}
use Rattle.risch_field.specs.Checked.{and_then}
use Rattle.risch_field.proofs.CheckedSteps.{and_then-ok}
use Rattle.risch_polynomial_theory.specs.Meaning.{AllValid}
use Rattle.risch_level.specs.Levels.{Element, element}
use Rattle.risch_derivation.specs.declared.rate.Kind.{Kind}
use Rattle.risch_derivation.specs.declared.rate.Kind.TheVariants.{Primitive, Exponential}
use Rattle.risch_element_theory.specs.WholeTower.{IsElement, polynomial, AllWithin}
use Rattle.risch_tower.specs.declared.level.Level.{Level}
use Rattle.risch_tower.specs.Tower.{rate_at}
use Rattle.risch_tower.specs.TowerMeaning.{monomials}
use Rattle.risch_monomial.specs.LevelDerivation.{level_derivation}
use Rattle.risch_monomial.specs.LevelElements.{numerator_at, denominator_at}
use Rattle.risch_rootsum.specs.declared.integral.LogPart.{LogPart}
use Rattle.risch_sub.specs.PowerTracesMeaning.{ArePowerTraces}
use Rattle.risch_sub.specs.SquareFree.{square_free_parts}
use Rattle.risch_logarithm_theory.specs.FieldBelow.{below, derivative_with, eta_below}
use Rattle.risch_logarithm_theory.proofs.FieldBelow as Below
use Rattle.risch_logarithm_rules.specs.Newton.{characteristic_polynomial}
use Rattle.risch_logarithm_rules.specs.Logarithms.{logarithms_from, logarithms}
use Rattle.risch_logarithm_link.proofs.NewtonCoefficients.{IsImage}
use Rattle.risch_logarithm_link.proofs.ResidueSetting.{IsSetting, D, w, a, d, e, nonzero_d, monic_d, coprime_d, smaller_a, small_w, stands_a, stands_d, derived_d, HasCharacteristic, characteristic-stands}
use Rattle.risch_logarithm_link.proofs.StandingLogarithms.{AreMadeOf, HaveSequence, logarithms-stand}

module _ {A : Type 0} (F : Field A) where
  -- a/d for Dt = η, and a/d + η·p for Dt = η·t
  abbrev pub total_with : Kind → A → A → (a d : Polynomial F) → Fraction F
  total_with Primitive η p a d = quotient (fractions F) (of_polynomial F a) (of_polynomial F d)
  total_with Exponential η p a d = (fractions F).add (quotient (fractions F) (of_polynomial F a) (of_polynomial F d)) (of_polynomial F (constant F (F.mul η p)))

  -- the theorem, for both kinds
  rule_logarithms : (kind : Kind) (D : Derivation F.ring) (η : A) (char : HasCharacteristicZero F.ring) (d a : Polynomial F) (is_monic : IsMonic F d)
      (coprime : IsCoprime F d (PolynomialDerivation.derive_polynomial F D (derivative_with F kind η) d)) → size F a < size F d
      → (ρ : Polynomial F) → Divides F d (sub (polynomials F) ((polynomials F).mul ρ (PolynomialDerivation.derive_polynomial F D (derivative_with F kind η) d)) a)
      → (C : Polynomial F) → IsNewtonPolynomial F d (Gcd.monic-nonzero F d is_monic) ρ C → coefficientwise F D C ≡ (polynomials F).zero
      → (parts : List (Polynomial F)) → C ≡ product_of_powers F 1 parts → AreParts F parts
      → (n : ℕ) → 1 ≤ n → (b : List (Polynomial F)) (ms : List (List (Polynomial F))) → IsRuleSequence F n d a (PolynomialDerivation.derive_polynomial F D (derivative_with F kind η) d) b ms
      → (ls : List (RuleLogarithm F)) → AreRuleLogarithms F d n b ms 1 parts ls
      → HaveDerivative F D (derivative_with F kind η) ls (total_with kind η (power_trace F d (Gcd.monic-nonzero F d is_monic) ρ 1) a d)
  rule_logarithms Primitive D η = rule_logarithms-primitive F D η
  rule_logarithms Exponential D η = rule_logarithms-exponential F D η

  -- what holds of each part holds of the modulus of each logarithm
  pub each_modulus : (P : Polynomial F → Type 0) (d : Polynomial F) (n : ℕ) (b : List (Polynomial F)) (ms : List (List (Polynomial F))) (i : ℕ) (Qs : List (Polynomial F)) (rs : List (RuleLogarithm F))
      → Each P Qs → AreRuleLogarithms F d n b ms i Qs rs → Each (λ r. P r.modulus) rs
  each_modulus P d n b ms i [] [] all h = tt
  each_modulus P d n b ms i [] (r ∷ rs) all h = absurd h
  each_modulus P d n b ms i (Q ∷ Qs) [] all h = tt
  each_modulus P d n b ms i (Q ∷ Qs) (r ∷ rs) all (inl h) = each_modulus P d n b ms (suc i) Qs (r ∷ rs) all.1 h.1
  each_modulus P d n b ms i (Q ∷ Qs) (r ∷ rs) all (inr h) = (subst P (sym h.0.1.0) all.0, each_modulus P d n b ms (suc i) Qs rs all.1 h.1)

  -- monic and square-free
  abbrev pub IsPart : Polynomial F → Type 0
  IsPart Q = IsMonic F Q × IsSquareFree F Q

  each_part : (Qs : List (Polynomial F)) → AreParts F Qs → Each IsPart Qs
  each_part [] h = tt
  each_part (Q ∷ Qs) h = ((h.0, h.1), each_part Qs h.3)

module _ (tower : List Level) (level : ℕ) (h : Element) (s : IsSetting tower level h) where
  -- the logarithms are made of those of the theory, and the derivatives of these add up to a/d and, at an exponential, η·p_1
  pub record HaveResidueLogarithms (traces : List Element) (logs : List LogPart) : Type 0 where
    pub rho : Polynomial (below level)
    pub traces_are : (i : ℕ) → i < length traces → IsImage (below level) (inclusion level) (get_or traces i element.zero) (power_trace (below level) (d tower level h s) (nonzero_d tower level h s) rho (suc i))
    pub rho-equation : Divides (below level) (d tower level h s) (sub (polynomials (below level)) ((polynomials (below level)).mul rho (e tower level h s)) (a tower level h s))
    pub rs : List (RuleLogarithm (below level))
    pub are_made : AreMadeOf (below level) (inclusion level) level logs rs
    pub are_parts : Each (λ r. IsPart (below level) r.modulus) rs
    pub derivative : HaveDerivative (below level) (D tower level h s) (w tower level h s) rs
        (total_with (below level) (rate_at tower level).kind (eta_below tower level s.is_level) (power_trace (below level) (d tower level h s) (nonzero_d tower level h s) rho 1) (a tower level h s) (d tower level h s))

  small_e : size (below level) (e tower level h s) ≤ size (below level) (d tower level h s)
  small_e = size-derivative (below level) (D tower level h s) (w tower level h s) (d tower level h s) (small_w tower level h s)

  of_characteristic : (traces C : List Element) (parts : List (List Element)) (logs : List LogPart) → HasCharacteristic tower level h s traces C parts
      → logarithms_from tower level (numerator_at level h) (denominator_at level h) 1 None [] parts ≡ Ok logs → HaveResidueLogarithms traces logs
  of_characteristic traces C parts logs c is = of_sequence
      (logarithms-stand (below level) (inclusion level) (D tower level h s) (w tower level h s) char (d tower level h s) (a tower level h s) (monic_d tower level h s) (coprime_d tower level h s)
      (let l = smaller_a tower level h s in omega (arith, l)) small_e c.characteristic
      (newton_polynomial-is_monic (below level) (d tower level h s) (nonzero_d tower level h s) c.rho c.characteristic c.is_newton) c.is_newton.size-le
      (newton_polynomial-is_residue_polynomial (below level) (D tower level h s) (w tower level h s) char (d tower level h s) (a tower level h s) (monic_d tower level h s) (coprime_d tower level h s) c.rho c.rho-equation
      c.characteristic c.is_newton)
      c.parts_below c.product c.are_parts tower level (numerator_at level h) (denominator_at level h) (stands_a tower level h s) (stands_d tower level h s) (derived_d tower level h s)
      1 parts c.parts_below [] logs c.stand (λ k q x. x) is)
    where
      char : HasCharacteristicZero (below level).ring
      char = Below.below-characteristic_zero level

      of_sequence : HaveSequence (below level) (inclusion level) (D tower level h s) (w tower level h s) char (d tower level h s) (a tower level h s) (monic_d tower level h s) (coprime_d tower level h s)
          (let l = smaller_a tower level h s in omega (arith, l)) small_e c.characteristic
          (newton_polynomial-is_monic (below level) (d tower level h s) (nonzero_d tower level h s) c.rho c.characteristic c.is_newton) c.is_newton.size-le
          (newton_polynomial-is_residue_polynomial (below level) (D tower level h s) (w tower level h s) char (d tower level h s) (a tower level h s) (monic_d tower level h s) (coprime_d tower level h s) c.rho c.rho-equation
          c.characteristic c.is_newton)
          c.parts_below c.product c.are_parts tower level (numerator_at level h) (denominator_at level h) (stands_a tower level h s) (stands_d tower level h s) (derived_d tower level h s)
          1 c.parts_below [] logs → HaveResidueLogarithms traces logs
      of_sequence y = record {
        rho = c.rho;
        traces_are = c.traces_are;
        rho-equation = c.rho-equation;
        rs = y.have.rs;
        are_made = subst (λ ls. AreMadeOf (below level) (inclusion level) level ls y.have.rs) (sym y.have.all) y.have.are_made;
        are_parts = each_modulus (below level) (IsPart (below level)) (d tower level h s) y.n y.b y.ms 1 c.parts_below y.have.rs (each_part (below level) c.parts_below c.are_parts) y.have.are_logarithms;
        derivative = rule_logarithms (below level) (rate_at tower level).kind (D tower level h s) (eta_below tower level s.is_level) char (d tower level h s) (a tower level h s) (monic_d tower level h s)
            (coprime_d tower level h s) (smaller_a tower level h s) c.rho c.rho-equation c.characteristic c.is_newton c.is_constant c.parts_below c.product c.are_parts y.n y.positive y.b y.ms y.is_sequence
            y.have.rs y.have.are_logarithms;
      }

  -- the rule of the logarithms, from the traces
  pub logarithms-are : (rho traces : List Element) (logs : List LogPart)
      → Divides elements (polynomial (denominator_at level h)) (sub (polynomials elements) ((polynomials elements).mul (polynomial rho) ((level_derivation (monomials tower) level).derive (polynomial (denominator_at level h)))) (polynomial (numerator_at level h)))
      → AllValid IsElement traces → AllWithin 0 traces → ArePowerTraces (denominator_at level h) rho traces → length traces ≡ length (denominator_at level h) - 1
      → logarithms tower level h traces ≡ Ok logs → HaveResidueLogarithms traces logs
  unfolding logarithms
  logarithms-are rho traces logs given valid rational are count is =
      let x = and_then-ok (characteristic_polynomial traces) (λ C. and_then (square_free_parts C) (λ parts. logarithms_from tower level (numerator_at level h) (denominator_at level h) 1 None [] parts)) logs is in
      let y = and_then-ok (square_free_parts x.value) (λ parts. logarithms_from tower level (numerator_at level h) (denominator_at level h) 1 None [] parts) logs x.next in
      of_characteristic traces x.value y.value logs (characteristic-stands tower level h s rho traces x.value y.value given valid rational are count x.is y.is) y.next
