-- The derivatives of the logarithms over a level that stand for the logarithms by residues over K(t), where K is the field below the level: they are the values at t of the derivatives in K(t).
--     part_derivative      one logarithm
--     logarithms_derivative      all of them: the derivatives add up to h(t)
use Rattle.std.specs.Prelude.{cond, not, filter}
use Rattle.std.proofs.Common.{◌≡◌, refl, sym, ap, ap₂, subst, ◌∙◌, ℕ, suc, ◌+◌, ◌≤◌, Bool, true, false, List, [], ◌∷◌, map, length, arith}
use Rattle.std.proofs.lemmas.List.{length-map}
use Rattle.risch_ring.specs.CommRing.{Field, quotient, sub}
use Rattle.risch_ring.specs.Lists.{Each}
use Rattle.risch_ring.specs.LogarithmicDerivative.{logarithmic_derivative}
use Rattle.risch_ring.specs.Sums.{sum_over}
use Rattle.risch_ring.proofs.Laws as Laws
use Rattle.risch_ring.proofs.RingMaps as RingMaps
use Rattle.risch_univariate.specs.Polynomial.{Polynomial, of_list, coefficient, variable as polynomial_variable}
use Rattle.risch_univariate.specs.PolynomialLaws.{polynomial_ext}
use Rattle.risch_univariate.specs.PolynomialRing.{polynomials}
use Rattle.risch_univariate.specs.Division.{Divides, IsCoprime}
use Rattle.risch_univariate.proofs.Coefficients.{coefficient-horner-zero}
use Rattle.risch_univariate.proofs.Degree as Degree
use Rattle.risch_univariate.proofs.Gcd as Gcd
use Rattle.risch_univariate.proofs.FormalDerivative.{coefficientwise, formal_derivative}
use Rattle.risch_fraction_field.specs.DifferentialField.{constant_fraction}
use Rattle.risch_fraction_field.specs.Fraction.{Fraction}
use Rattle.risch_fraction_field.specs.FractionField.{fractions}
use Rattle.risch_extension.specs.LinearFactors.{linear}
use Rattle.risch_extension.proofs.LinearFactors.{map_polynomial-linear}
use Rattle.risch_extension.proofs.Extensions.{map-coprime, map-formal_derivative}
use Rattle.risch_extension.proofs.PolynomialMaps as Maps
use Rattle.risch_residue_theory.specs.BivariatePolynomial.{lift as over_fractions, by_powers}
use Rattle.risch_residue_theory.specs.Logarithm.{∂}
use Rattle.risch_residue_theory.specs.RuleLogarithm.{RuleLogarithm, IsRuleDerivative, HaveDerivative, AreRuleDerivatives, at_point}
use Rattle.risch_polynomial_theory.specs.FractionMeaning.{fraction_meaning}
use Rattle.risch_mean.specs.Element as mean
use Rattle.risch_mean.specs.Element.{◌+ₑ◌, ◌*ₑ◌, ◌/ₑ◌}
use Rattle.risch_mean.specs.ElementField.{elements}
use Rattle.risch_mean.specs.ElementPolynomials.{times_modulo, z_times_modulo, trace_modulo, IsInverseModulo}
use Rattle.risch_mean.specs.Answer.{Logarithm, RootSum, LogDerivative, SumDerivative, SumOf}
use Rattle.risch_mean.specs.Tower.{derive_in}
use Rattle.risch_mean.proofs.Subfield.{Subfield, inclusion}
use Rattle.risch_element_theory.specs.PolynomialMeaning.{polynomial_of}
use Rattle.risch_element_theory.specs.WholeTower.{meaning, polynomial}
use Rattle.risch_element_theory.proofs.DerivationTower.{derivation_in}
use Rattle.risch_element_theory.proofs.ElementPolynomials.{element_interprets}
use Rattle.risch_element_theory.proofs.GcdRule.{coefficient-polynomial_of}
use Rattle.risch_tower.specs.declared.level.Level.{Level}
use Rattle.risch_tower.specs.TowerMeaning.{monomials}
use Rattle.risch_tower.proofs.TowerLevels.{length-monomials}
use Rattle.risch_monomial.specs.LevelDerivation.{IsLevelOf}
use Rattle.risch_trace.proofs.Remainders as Remainders
use Rattle.risch_trace.proofs.Remainders.{modulus_of}
use Rattle.risch_rootsum.specs.AlgebraMeaning.{below as coefficients_below}
use Rattle.risch_rootsum.specs.Derivative.{is_linear, factor, argument}
use Rattle.risch_rootsum.specs.DerivativeMeaning.{logarithm_of, sum_of, IsLogPart, IsPartDerivative}
use Rattle.risch_rootsum.specs.declared.integral.LogPart.{LogPart}
use Rattle.risch_rootsum.proofs.AlgebraRules.{some-below, length-below}
use Rattle.risch_rootsum.proofs.Invertibles as Invertibles
use Rattle.risch_logarithm_theory.specs.FieldBelow.{below, included_polynomial, derivation_below, variable_derivative}
use Rattle.risch_logarithm_theory.specs.LogarithmElements.{StandsForLogarithm, StandForLogarithms, IsNormalPart, HaveDerivatives}
use Rattle.risch_logarithm_theory.proofs.EvaluatedPolynomials.{evaluated, coefficient-evaluated, evaluated-lift, evaluated-coefficientwise, coefficientwise-of_list}
use Rattle.risch_logarithm_theory.proofs.FieldBelow.{evaluation_below, evaluation_below-constant, evaluation_below-value, evaluation_below-derive}
use Rattle.risch_logarithm_theory.proofs.LogarithmParts.{polynomial-R, rational-R, degree-not_linear, length-linear, linear-R, rational-factor, separable-R, all-lie, argument-lies}
use Rattle.risch_logarithm_theory.proofs.MappedPolynomials as Mapped
use Rattle.risch_logarithm_theory.proofs.TracesByLists.{remainder_of-variable_mul, trace-by_list}

module _ (tower : List Level) (level : ℕ) (l : IsLevelOf tower level) where
  abbrev K : Field (Subfield level)
  K = below level

  abbrev Q : Field (Fraction (below level))
  Q = fractions (below level)

  abbrev ev : Fraction (below level) → mean.Element
  ev = (evaluation_below level).apply

  module _ (part : LogPart) (r : RuleLogarithm (below level)) (stands : StandsForLogarithm level part r) (known : IsLogPart (level + 1) part) (normal : IsNormalPart part)
      (separable : IsCoprime (below level) r.modulus (formal_derivative (below level) r.modulus)) where
    abbrev rs : List mean.Element
    rs = coefficients_below part.poly

    some : 1 ≤ length rs
    some = some-below part.poly known.modulus

    -- R over the elements
    same_modulus : included_polynomial level r.modulus ≡ modulus_of elements rs
    same_modulus = stands.same_modulus ∙ polynomial-R part.poly known.modulus normal.lowest

    -- the variables of the level are among those of the tower
    variables_there : level + 1 ≤ suc (length (monomials tower))
    variables_there = let there = l.there in omega (arith, there, length-monomials tower)

    -- ---- the sum over the roots
    abbrev S : Polynomial (fractions (below level))
    S = by_powers (below level) r.argument

    abbrev P : Polynomial (fractions (below level))
    P = over_fractions (below level) r.modulus

    evaluated-modulus : evaluated level P ≡ modulus_of elements rs
    evaluated-modulus = evaluated-lift level r.modulus ∙ same_modulus

    -- S at t
    evaluated-argument : is_linear part ≡ false → evaluated level S ≡ of_list elements (map meaning part.arg)
    unfolding polynomial_of
    evaluated-argument e = polynomial_ext elements (evaluated level S) (polynomial part.arg) (λ k.
        coefficient-evaluated level S k ∙ evaluation_below-value level (coefficient Q S k) ∙ sym (stands.of_sum e k) ∙ sym (coefficient-polynomial_of elements element_interprets part.arg k))

    module _ (e : is_linear part ≡ false) (f : Fraction (below level)) (has : IsRuleDerivative (below level) (derivation_below tower level l) (variable_derivative tower level l) r f) where
      -- T with T·S = 1 modulo R
      abbrev T : Polynomial (fractions (below level))
      T = has.invertible.left

      inverse : List mean.Element
      inverse = Remainders.remainder_of elements rs some (evaluated level T)

      -- D of the coefficients of S
      abbrev derived : List mean.Element
      derived = map (derive_in (monomials tower)) (map meaning part.arg)

      divides : Divides elements (modulus_of elements rs) (sub (polynomials elements) ((polynomials elements).mul (evaluated level T) (of_list elements (map meaning part.arg))) (polynomials elements).one)
      divides =
          let h = Mapped.divides-map Q elements (evaluation_below level) P (sub (polynomials Q) ((polynomials Q).mul T S) (polynomials Q).one) (Gcd.modular_inverse Q S P has.invertible) in
          let map_ring = Mapped.polynomial_map Q elements (evaluation_below level) in
          let same : evaluated level (sub (polynomials Q) ((polynomials Q).mul T S) (polynomials Q).one)
          ≡ sub (polynomials elements) ((polynomials elements).mul (evaluated level T) (of_list elements (map meaning part.arg))) (polynomials elements).one =
          RingMaps.apply-sub map_ring ((polynomials Q).mul T S) (polynomials Q).one
          ∙ ap₂ (sub (polynomials elements)) (Maps.map_polynomial-mul Q elements (evaluation_below level) T S ∙ ap ((polynomials elements).mul (evaluated level T)) (evaluated-argument e))
          (Maps.map_polynomial-one Q elements (evaluation_below level)) in
          subst (λ m. Divides elements m (sub (polynomials elements) ((polynomials elements).mul (evaluated level T) (of_list elements (map meaning part.arg))) (polynomials elements).one)) evaluated-modulus
          (subst (Divides elements (evaluated level P)) same h)

      is_inverse : IsInverseModulo rs (map meaning part.arg) inverse
      unfolding inverse
      is_inverse = Invertibles.inverse_of_divides elements rs some (map meaning part.arg) (evaluated level T) divides

      -- z·DS·T at t
      evaluated-product : evaluated level ((polynomials Q).mul (polynomial_variable Q)
          ((polynomials Q).mul (coefficientwise Q (∂ (below level) (derivation_below tower level l) (variable_derivative tower level l)) S) T))
          ≡ (polynomials elements).mul (polynomial_variable elements) ((polynomials elements).mul (of_list elements derived) (evaluated level T))
      evaluated-product =
          let D = ∂ (below level) (derivation_below tower level l) (variable_derivative tower level l) in
          let E = evaluation_below level in
          Maps.map_polynomial-mul Q elements E (polynomial_variable Q) ((polynomials Q).mul (coefficientwise Q D S) T)
          ∙ ap₂ (polynomials elements).mul (Maps.map_polynomial-variable Q elements E)
          (Maps.map_polynomial-mul Q elements E (coefficientwise Q D S) T
          ∙ ap (λ x. (polynomials elements).mul x (evaluated level T))
          (evaluated-coefficientwise level tower l S ∙ ap (coefficientwise elements (derivation_in (monomials tower))) (evaluated-argument e)
          ∙ coefficientwise-of_list elements (derivation_in (monomials tower)) (map meaning part.arg)))

      -- its remainder
      remainder-product : Remainders.remainder_of elements rs some ((polynomials elements).mul (polynomial_variable elements) ((polynomials elements).mul (of_list elements derived) (evaluated level T)))
          ≡ z_times_modulo rs (times_modulo rs derived inverse)
      unfolding inverse
      remainder-product =
          remainder_of-variable_mul elements rs some ((polynomials elements).mul (of_list elements derived) (evaluated level T))
          ∙ ap (z_times_modulo rs)
          (Remainders.remainder_of-mul elements rs some (of_list elements derived) (evaluated level T)
          ∙ ap (λ v. times_modulo rs v (Remainders.remainder_of elements rs some (evaluated level T))) (Remainders.remainder_of-of_list elements rs some derived)
          ∙ Remainders.times_mod-remainder elements rs some derived (Remainders.remainder_of elements rs some (evaluated level T)) (Remainders.length-remainder_of elements rs some (evaluated level T)))

      modulus-nonzero : ¬ (P ≡ (polynomials Q).zero)
      modulus-nonzero z =
          monic-nonzero (sym evaluated-modulus ∙ ap (evaluated level) z ∙ Maps.map_polynomial-zero Q elements (evaluation_below level))
        where
          monic-nonzero : ¬ (modulus_of elements rs ≡ (polynomials elements).zero)
          monic-nonzero = Degree.nonzero_of_size elements (modulus_of elements rs) (omega (arith, Remainders.size-modulus elements rs))

      trace-is : ev f ≡ trace_modulo rs (z_times_modulo rs (times_modulo rs derived inverse))
      trace-is =
          let E = evaluation_below level in
          let u = (polynomials Q).mul (polynomial_variable Q) ((polynomials Q).mul (coefficientwise Q (∂ (below level) (derivation_below tower level l) (variable_derivative tower level l)) S) T) in
          let n = Maps.map_polynomial-nonzero Q elements E P modulus-nonzero in
          ap ev (has.of_trace modulus-nonzero T (Gcd.modular_inverse Q S P has.invertible))
          ∙ Mapped.trace-map Q elements E P modulus-nonzero n u
          ∙ trace-by_list elements rs some (evaluated level P) evaluated-modulus n (evaluated level u)
          ∙ ap (trace_modulo rs) (ap (Remainders.remainder_of elements rs some) evaluated-product ∙ remainder-product)

      sum_derivative : SumDerivative (monomials tower) (sum_of part) (ev f)
      sum_derivative =
          let member = known.argument_member.degree_small in
          record {
            degree = degree-not_linear part known.modulus e;
            rational = rational-R part.poly normal.lowest;
            separable =
                separable-R part.poly known.modulus (included_polynomial level r.modulus) same_modulus
                (subst (IsCoprime elements (included_polynomial level r.modulus)) (map-formal_derivative K elements (inclusion level) r.modulus)
                (map-coprime K elements (inclusion level) r.modulus (formal_derivative K r.modulus) separable));
            in_tower = all-lie (level + 1) (suc (length (monomials tower))) variables_there part.arg normal.normal known.argument_within;
            inner_degree = omega (arith, member, length-map part.arg meaning, length-below part.poly);
            inverse = inverse;
            is_inverse = is_inverse;
            is = trace-is;
          }

    -- ---- the logarithm
    module _ (e : is_linear part ≡ true) (f : Fraction (below level)) (has : IsRuleDerivative (below level) (derivation_below tower level l) (variable_derivative tower level l) r f) where
      -- C
      abbrev C : mean.Element
      C = fraction_meaning (factor part)

      modulus-linear : included_polynomial level r.modulus ≡ linear elements C
      modulus-linear = same_modulus ∙ linear-R part.poly (length-linear part e) normal.lowest

      -- the root c of R in K
      root : Subfield level
      root = K.neg (coefficient K r.modulus 0)

      root-included : (inclusion level).apply root ≡ C
      unfolding root
      root-included =
          RingMaps.apply-neg (inclusion level) (coefficient K r.modulus 0)
          ∙ ap mean.neg (sym (Maps.coefficient-map_polynomial K elements (inclusion level) r.modulus 0) ∙ ap (λ p. coefficient elements p 0) modulus-linear
          ∙ coefficient-horner-zero elements (mean.neg C) (polynomials elements).one)
          ∙ Laws.neg-neg elements.ring C

      root-equation : r.modulus ≡ linear K root
      root-equation =
          Mapped.map-injective K elements (inclusion level) r.modulus (linear K root)
          (modulus-linear ∙ ap (linear elements) (sym root-included) ∙ sym (map_polynomial-linear K elements (inclusion level) root))

      -- S(c)
      abbrev U : Fraction (below level)
      U = at_point (below level) root r.argument

      argument-is : ev U ≡ meaning (argument part)
      argument-is = evaluation_below-value level U ∙ sym (stands.of_logarithm e root root-equation)

      log_derivative : LogDerivative (monomials tower) (logarithm_of part) (ev f)
      log_derivative =
          let h = has.of_value root root-equation in
          let D = ∂ (below level) (derivation_below tower level l) (variable_derivative tower level l) in
          let E = evaluation_below level in
          record {
            rational = rational-factor part normal.lowest;
            in_tower = argument-lies (level + 1) (suc (length (monomials tower))) variables_there part normal.normal known.argument_within;
            argument-ne-zero = λ z. RingMaps.apply-nonzero Q elements E U h.0 (argument-is ∙ z);
            is =
                ap ev h.1 ∙ E.apply-mul ((constant_fraction K).apply root) (logarithmic_derivative Q D U)
                ∙ ap₂ mean.mul (evaluation_below-constant level root ∙ root-included)
                (RingMaps.apply-quotient Q elements E (D.derive U) U h.0 ∙ ap₂ (quotient elements) (evaluation_below-derive tower level l U ∙ ap (derive_in (monomials tower)) argument-is) argument-is);
          }

    -- the value at t of the derivative is the derivative
    pub part_derivative : (f : Fraction (below level)) → IsRuleDerivative (below level) (derivation_below tower level l) (variable_derivative tower level l) r f
        → IsPartDerivative (monomials tower) part ((evaluation_below level).apply f)
    part_derivative f has = record { of_logarithm = λ e. log_derivative e f has; of_sum = λ e. sum_derivative e f has }

  -- ---- all of them
  -- the parts with one more in front, by the test of the first
  abbrev logarithms_by : Bool → LogPart → List LogPart → List Logarithm
  logarithms_by t part parts = map logarithm_of (cond t (part ∷ filter is_linear parts) (filter is_linear parts))

  abbrev sums_by : Bool → LogPart → List LogPart → List RootSum
  sums_by t part parts = map sum_of (cond (not t) (part ∷ filter (λ p. not (is_linear p)) parts) (filter (λ p. not (is_linear p)) parts))

  record HaveBy (t : Bool) (part : LogPart) (parts : List LogPart) (f : mean.Element) : Type 0 where
    plain : mean.Element
    plain_are : SumOf (LogDerivative (monomials tower)) (logarithms_by t part parts) plain
    sums : mean.Element
    sums_are : SumOf (SumDerivative (monomials tower)) (sums_by t part parts) sums
    total : plain +ₑ sums ≡ f

  have_by : (t : Bool) (part : LogPart) (parts : List LogPart) (g f : mean.Element) → is_linear part ≡ t → IsPartDerivative (monomials tower) part g → HaveDerivatives (monomials tower) parts f
      → HaveBy t part parts (g +ₑ f)
  have_by true part parts g f e p h = record {
    plain = g +ₑ h.plain;
    plain_are = (g, h.plain, p.of_logarithm e, h.plain_are, refl);
    sums = h.sums;
    sums_are = h.sums_are;
    total = elements.ring.add_assoc g h.plain h.sums ∙ ap (mean.add g) h.total;
  }
  have_by false part parts g f e p h = record {
    plain = h.plain;
    plain_are = h.plain_are;
    sums = g +ₑ h.sums;
    sums_are = (g, h.sums, p.of_sum e, h.sums_are, refl);
    total = Laws.add_left_comm elements.ring h.plain g h.sums ∙ ap (mean.add g) h.total;
  }

  have_more : (part : LogPart) (parts : List LogPart) (g f : mean.Element) → IsPartDerivative (monomials tower) part g → HaveDerivatives (monomials tower) parts f → HaveDerivatives (monomials tower) (part ∷ parts) (g +ₑ f)
  have_more part parts g f p h =
      let both = have_by (is_linear part) part parts g f refl p h in
      record { plain = both.plain; plain_are = both.plain_are; sums = both.sums; sums_are = both.sums_are; total = both.total }

  -- R is coprime to R'
  abbrev pub IsSeparable : RuleLogarithm (below level) → Type 0
  IsSeparable r = IsCoprime (below level) r.modulus (formal_derivative (below level) r.modulus)

  have_sum : (parts : List LogPart) (rules : List (RuleLogarithm (below level))) (fs : List (Fraction (below level))) → StandForLogarithms level parts rules → Each (IsLogPart (level + 1)) parts
      → Each IsNormalPart parts → Each IsSeparable rules → AreRuleDerivatives (below level) (derivation_below tower level l) (variable_derivative tower level l) rules fs
      → HaveDerivatives (monomials tower) parts (ev (sum_over Q.ring (λ f. f) fs))
  unfolding sum_over
  have_sum [] [] [] are known normal separable has = record { plain = mean.zero; plain_are = refl; sums = mean.zero; sums_are = refl; total = elements.ring.add-zero mean.zero ∙ sym (RingMaps.apply-zero (evaluation_below level)) }
  have_sum [] [] (f ∷ fs) are known normal separable has = absurd has
  have_sum [] (r ∷ rules) fs are known normal separable has = absurd are
  have_sum (part ∷ parts) [] fs are known normal separable has = absurd are
  have_sum (part ∷ parts) (r ∷ rules) [] are known normal separable has = absurd has
  have_sum (part ∷ parts) (r ∷ rules) (f ∷ fs) are known normal separable has =
      subst (HaveDerivatives (monomials tower) (part ∷ parts)) (sym ((evaluation_below level).apply-add f (sum_over Q.ring (λ f. f) fs)))
      (have_more part parts (ev f) (ev (sum_over Q.ring (λ f. f) fs)) (part_derivative part r are.0 known.0 normal.0 separable.0 f has.0)
      (have_sum parts rules fs are.1 known.1 normal.1 separable.1 has.1))

  -- the derivatives of the logarithms and of the sums over roots add up to h(t), where those in K(t) add up to h
  pub logarithms_derivative : (parts : List LogPart) (rules : List (RuleLogarithm (below level))) → StandForLogarithms level parts rules → Each (IsLogPart (level + 1)) parts → Each IsNormalPart parts
      → Each IsSeparable rules → (h : Fraction (below level)) → HaveDerivative (below level) (derivation_below tower level l) (variable_derivative tower level l) rules h
      → HaveDerivatives (monomials tower) parts ((evaluation_below level).apply h)
  logarithms_derivative parts rules are known normal separable h has =
      subst (λ x. HaveDerivatives (monomials tower) parts (ev x)) has.total (have_sum parts rules has.derivatives are known normal separable has.are_derivatives)
