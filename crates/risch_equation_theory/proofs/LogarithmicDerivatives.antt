-- Logarithmic derivatives D(z)/z in K(t): the denominator is square-free and normal, the polynomial part is D(e)/e with e the leading coefficient of z,
-- for Dt = η·t with a whole multiple of η.
use Rattle.std.specs.Prelude.{◌≡◌, ℕ, zero, suc, ◌+◌, ◌≤◌, ◌<◌, ◌⊎◌, [], ◌∷◌}
use Rattle.std.proofs.Common.{refl, sym, ap, ap₂, subst, ◌∙◌, arith, inl, inr}
use native.Mathlib.Decide.{ℕ_discrete}
use Rattle.risch_ring.specs.CommRing.{CommRing, Field, Derivation, of_nat, sub, quotient, HasCharacteristicZero}
use Rattle.risch_ring.proofs.Laws as Laws
use Rattle.risch_ring.proofs.Derivations as Derivations
use Rattle.risch_ring.proofs.Expression.{reading_symbolic}
use Rattle.risch_ring.proofs.Solver.{ring, linear}
use Rattle.risch_univariate.specs.Polynomial.{Polynomial, coefficient, constant, variable}
use Rattle.risch_univariate.specs.Degree.{size, degree, leading_coefficient, IsMonic}
use Rattle.risch_univariate.specs.Division.{IsCoprime, IsIrreducible, IsMultiplicity, IsSquareFree}
use Rattle.risch_ring.proofs.FieldLaws as FieldLaws
use Rattle.risch_univariate.proofs.Degree as Degree
use Rattle.risch_univariate.proofs.Divides as Divides
use Rattle.risch_univariate.proofs.Irreducible as Irreducible
use Rattle.risch_univariate.proofs.Multiplicity as Multiplicity
use Rattle.risch_univariate.proofs.SquareFree as SquareFree
use Rattle.risch_univariate.proofs.SplittingFactorization as SplittingFactorizations
use Rattle.risch_univariate.proofs.Derivation as Derivation
use Rattle.risch_univariate.proofs.Special as Special
use Rattle.risch_fraction_field.specs.Fraction.{Fraction, Represents, denominator-nonzero}
use Rattle.risch_fraction_field.specs.FractionDerivation.{fraction_derivation, represents-derive, quotient_numerator}
use Rattle.risch_equation_theory.proofs.Identities as Identities
use Rattle.risch_equation_theory.proofs.Poles as Poles
use Rattle.risch_equation_theory.proofs.TopCoefficient as TopCoefficient
use Rattle.risch_univariate.specs.PolynomialOperators.{polynomial_operators}
use Rattle.risch_univariate.specs.PolynomialRing.{polynomials}
use Rattle.risch_univariate.proofs.Coefficients.{coefficient-constant_mul, coefficient-sub}
use Rattle.risch_fraction_field.specs.Representation.{represents-mul, represents-inverse, numerator-nonzero}
use Rattle.risch_fraction_field.specs.FractionLaws.{represents_same}
use Rattle.risch_fraction_field.specs.FractionField.{fractions}
use Rattle.risch_ring.specs.LogarithmicDerivative as LogarithmicDerivative
use Rattle.risch_equation_theory.specs.WeakNormalization.{IsNormalPrime}

module _ {A : Type 0} (F : Field A) where
  abbrev R : CommRing (Polynomial F)
  R = polynomials F

  abbrev K : Field (Fraction F)
  K = fractions F

  open (polynomial_operators F) use {𝟘, 𝟙, ◌+◌ as ◌+ₚ◌, ◌*◌, ◌^◌, ◌∣◌}

  -- f = s + (a proper fraction), s in K
  pub record HasPolynomialPart (f : Fraction F) (s : A) : Type 0 where
    pub numerator : Polynomial F
    pub denominator : Polynomial F
    pub represents : Represents F f (constant F s * denominator +ₚ numerator) denominator
    pub smaller : size F numerator < size F denominator

  module _ (char : HasCharacteristicZero F.ring) (D : Derivation R) (z : Fraction F) (nz : ¬ (z ≡ K.zero)) where
    -- D(z)/z
    abbrev pub logarithmic_derivative : Fraction F
    logarithmic_derivative = LogarithmicDerivative.logarithmic_derivative K (fraction_derivation F D) z

    abbrev n : Polynomial F
    n = z.numerator

    abbrev d : Polynomial F
    d = z.denominator

    n-nonzero : ¬ (n ≡ 𝟘)
    n-nonzero = numerator-nonzero F z nz

    nd-nonzero : ¬ (n * d ≡ 𝟘)
    nd-nonzero = Degree.mul_polynomials-nonzero F n d n-nonzero (denominator-nonzero F z)

    -- D(z)/z = (D(n)·d - n·D(d))/(n·d)
    pub represents-logarithmic_derivative : Represents F logarithmic_derivative (quotient_numerator F D n d) (n * d)
    represents-logarithmic_derivative =
        represents_same F logarithmic_derivative (quotient_numerator F D n d * d) (d * d * n) _ _
        (Degree.mul_polynomials-nonzero F _ _ (Degree.mul_polynomials-nonzero F d d (denominator-nonzero F z) (denominator-nonzero F z)) n-nonzero)
        (represents-mul F ((fraction_derivation F D).derive z) (K.inverse z) _ _ _ _ (represents-derive F D z n d refl) (represents-inverse F z n d nz refl))
        (Identities.logarithmic_quotient R (quotient_numerator F D n d) n d)

    module _ (p : Polynomial F) (i : IsIrreducible F p) where
      mn : Irreducible.Multiplicity F p n
      mn = Irreducible.multiplicity_of F p n i.not_constant n-nonzero

      md : Irreducible.Multiplicity F p d
      md = Irreducible.multiplicity_of F p d i.not_constant (denominator-nonzero F z)

      -- the parts of numerator and denominator without p
      pub cofactors : Polynomial F
      cofactors = mn.is_multiplicity.cofactor * md.is_multiplicity.cofactor

      cofactors-not_divides : ¬ (p ∣ cofactors)
      cofactors-not_divides = unfold cofactors in Irreducible.not_divides-mul F p _ _ i mn.is_multiplicity.not_divides md.is_multiplicity.not_divides

      -- the order of D(z)/z at p is at least -1
      pub simple_pole : logarithmic_derivative.denominator ∣ p * cofactors
      unfolding cofactors
      simple_pole = Poles.denominator-divides F logarithmic_derivative _ (p * cofactors)
          (represents_same F logarithmic_derivative (quotient_numerator F D n d) (n * d) _ (p * cofactors) nd-nonzero represents-logarithmic_derivative
          (Identities.logarithmic_numerator R p n (D.derive n) d (D.derive d) (p ^ mn.exponent) _ (p ^ md.exponent) _ mn.is_multiplicity.cofactor md.is_multiplicity.cofactor
          (ap (λ x. p * D.derive x) mn.is_multiplicity.equation ∙ Multiplicity.mul-derive-power_mul F D p mn.is_multiplicity.cofactor mn.exponent)
          (ap (λ x. p * D.derive x) md.is_multiplicity.equation ∙ Multiplicity.mul-derive-power_mul F D p md.is_multiplicity.cofactor md.exponent)
          mn.is_multiplicity.equation md.is_multiplicity.equation))

      -- p² does not divide its denominator
      pub no_square : ¬ (p * p ∣ logarithmic_derivative.denominator)
      no_square h = cofactors-not_divides (Divides.divides_cancel F p p cofactors (Irreducible.irreducible-nonzero F p i)
          (Divides.divides_trans F (p * p) logarithmic_derivative.denominator (p * cofactors) h simple_pole))

      -- and at least 0, if p is special
      pub no_special_pole : p ∣ D.derive p → ¬ (p ∣ logarithmic_derivative.denominator)
      unfolding cofactors
      no_special_pole s h = cofactors-not_divides (Divides.divides_trans F p logarithmic_derivative.denominator cofactors h
          (Poles.denominator-divides F logarithmic_derivative without_p cofactors
          (represents_same F logarithmic_derivative (quotient_numerator F D n d) (n * d) without_p cofactors nd-nonzero represents-logarithmic_derivative
          (subst (λ w. quotient_numerator F D n d * w ≡ without_p * (n * d)) (Laws.one-mul R cofactors)
          (Identities.logarithmic_numerator R 𝟙 n (D.derive n) d (D.derive d) (p ^ mn.exponent) x.cofactor (p ^ md.exponent) y.cofactor mn.is_multiplicity.cofactor md.is_multiplicity.cofactor
          (Laws.one-mul R (D.derive n) ∙ x.equation ∙ R.mul_comm _ _) (Laws.one-mul R (D.derive d) ∙ y.equation ∙ R.mul_comm _ _)
          mn.is_multiplicity.equation md.is_multiplicity.equation)))))
        where
          divides_own : (a : Polynomial F) (e : ℕ) → IsMultiplicity F p a e → p ^ e ∣ D.derive a
          divides_own a e m = SplittingFactorizations.special-power_derive F char D p a e s (record { cofactor = m.cofactor; equation = m.equation ∙ R.mul_comm _ _ })

          x : p ^ mn.exponent ∣ D.derive n
          x = divides_own n mn.exponent mn.is_multiplicity

          y : p ^ md.exponent ∣ D.derive d
          y = divides_own d md.exponent md.is_multiplicity

          without_p : Polynomial F
          without_p = sub R (x.cofactor * md.is_multiplicity.cofactor) (mn.is_multiplicity.cofactor * y.cofactor)

    -- the denominator of D(z)/z is square-free
    pub square_free_denominator : IsSquareFree F logarithmic_derivative.denominator
    square_free_denominator = SquareFree.square_free_of_factors F logarithmic_derivative.denominator (λ p i m h. no_square p i h)

    normal_factor : (p : Polynomial F) → IsIrreducible F p → p ∣ logarithmic_derivative.denominator → IsCoprime F p (D.derive p)
    normal_factor p i h = from (Irreducible.irreducible-coprime F p (D.derive p) i)
      where
        from : IsCoprime F p (D.derive p) ⊎ p ∣ D.derive p → IsCoprime F p (D.derive p)
        from (inl c) = c
        from (inr s) = absurd (no_special_pole p i s h)

    -- and normal
    pub normal_denominator : IsCoprime F logarithmic_derivative.denominator (D.derive logarithmic_derivative.denominator)
    normal_denominator = SplittingFactorizations.normal_of_factors F char D logarithmic_derivative.denominator (denominator-nonzero F logarithmic_derivative) square_free_denominator
        (λ p i m h. normal_factor p i h)

    -- it divides w, if w is divisible by every normal irreducible factor of a multiple M
    pub denominator-divides : (M w : Polynomial F) → logarithmic_derivative.denominator ∣ M → ((p : Polynomial F) → IsNormalPrime F D p → p ∣ M → p ∣ w) → logarithmic_derivative.denominator ∣ w
    denominator-divides M w h contains = Multiplicity.divides_of_powers F logarithmic_derivative.denominator w (denominator-nonzero F logarithmic_derivative) powers
      where
        powers : (p : Polynomial F) → IsIrreducible F p → IsMonic F p → (k : ℕ) → p ^ k ∣ logarithmic_derivative.denominator → p ^ k ∣ w
        powers p i m zero g = subst (λ x. x ∣ w) (sym (Laws.power-zero R p)) (Divides.unit-divides F 𝟙 w (Degree.size-one F))
        powers p i m (suc zero) g = subst (λ x. x ∣ w) (sym (Laws.power-one R p))
            (contains p (record { irreducible = i; is_monic = m; normal = SplittingFactorizations.normal-not_special F char D p i (normal_factor p i once) }) (Divides.divides_trans F p _ M once h))
          where
            once : p ∣ logarithmic_derivative.denominator
            once = subst (λ x. x ∣ logarithmic_derivative.denominator) (Laws.power-one R p) g
        powers p i m (suc (suc k)) g = absurd (no_square p i (Divides.divides_trans F (p * p) (p ^ suc (suc k)) _
            (subst (λ x. p * p ∣ x) (R.mul_assoc p p (p ^ k) ∙ ap (R.mul p) (sym (Laws.power-suc R p k)) ∙ sym (Laws.power-suc R p (suc k))) (Divides.divides-mul_right F (p * p) (p ^ k))) g))

    -- the rows: where D(z)/z = C/(v·w) and w holds the normal irreducible factors of v·w, v divides C, and (C/v) quo w is the polynomial part
    pub record Rows (C v w : Polynomial F) (s : A) : Type 0 where
      pub cofactor : Polynomial F
      pub equation : C ≡ cofactor * v
      pub remainder : Polynomial F
      pub division : cofactor ≡ constant F s * w +ₚ remainder
      pub smaller : size F remainder < size F w

    -- the rows hold, if s is the polynomial part of D(z)/z
    pub rows : (C v w : Polynomial F) (s : A) → ¬ (v ≡ 𝟘) → ¬ (w ≡ 𝟘) → Represents F logarithmic_derivative C (v * w)
        → ((p : Polynomial F) → IsNormalPrime F D p → p ∣ v * w → p ∣ w) → HasPolynomialPart logarithmic_derivative s → Rows C v w s
    rows C v w s nv nw h contains part = record {
      cofactor = logarithmic_derivative.numerator * to_w.cofactor;
      equation = quotient_equation;
      remainder = sub R (logarithmic_derivative.numerator * to_w.cofactor) (constant F s * w);
      division = sym (Identities.add_difference R (logarithmic_derivative.numerator * to_w.cofactor) (constant F s * w));
      smaller = proper _ (elim (Degree.dec_zero F _) [ yes e ↦ inl e | no k ↦ inr k ]) product;
    }
      where
        to_w : logarithmic_derivative.denominator ∣ w
        to_w = denominator-divides (v * w) w (Poles.denominator-divides F logarithmic_derivative C (v * w) h) contains

        -- num·v·w = C·den and w = u·den
        quotient_equation : C ≡ logarithmic_derivative.numerator * to_w.cofactor * v
        quotient_equation = Degree.mul_polynomials_cancel F logarithmic_derivative.denominator C _ (denominator-nonzero F logarithmic_derivative)
            (R.mul_comm _ C ∙ sym h ∙ ap (λ x. logarithmic_derivative.numerator * (v * x)) to_w.equation
            ∙ Identities.rows_identity R logarithmic_derivative.numerator v to_w.cofactor logarithmic_derivative.denominator)

        -- (num·u - s·w)·Q = P·w
        product : sub R (logarithmic_derivative.numerator * to_w.cofactor) (constant F s * w) * part.denominator ≡ part.numerator * w
        product = Identities.proper_identity R logarithmic_derivative.numerator to_w.cofactor (constant F s) w part.denominator part.numerator logarithmic_derivative.denominator to_w.equation part.represents

        proper : (r : Polynomial F) → (r ≡ 𝟘) ⊎ (¬ (r ≡ 𝟘)) → r * part.denominator ≡ part.numerator * w → size F r < size F w
        proper r (inl e) k = let a = ap (size F) e in let o = Degree.size-zero F in let b = Degree.size_of_nonzero F w nw in omega (arith, a, o, b)
        proper r (inr n) k =
            let nq = Degree.nonzero_of_size F part.denominator (let l = part.smaller in omega (arith, l)) in
            let a = Degree.size-mul-nonzero F r part.denominator n nq in
            let np = Degree.nonzero_of_mul_left F part.numerator w (λ e. Degree.mul_polynomials-nonzero F r part.denominator n nq (k ∙ e)) in
            let b = Degree.size-mul-nonzero F part.numerator w np nw in
            let c = ap (size F) k in
            let l = part.smaller in
            omega (arith, a, b, c, l)

    -- where the coefficient of D(n)·d - n·D(d) at deg n + deg d is s·lc(n)·lc(d), and D raises no degree, s is the polynomial part
    part_of_top : (s : A) → ((q : Polynomial F) (n : ℕ) → size F q ≤ n → size F (D.derive q) ≤ n)
        → F.add (F.mul (coefficient F (D.derive n) (degree F n)) F.one) (F.neg (F.mul (leading_coefficient F n) (coefficient F (D.derive d) (degree F d)))) ≡ F.mul s (leading_coefficient F n)
        → HasPolynomialPart logarithmic_derivative s
    part_of_top s raises top = record {
      numerator = sub R (quotient_numerator F D n d) (constant F s * (n * d));
      denominator = n * d;
      represents = subst (λ x. Represents F logarithmic_derivative x (n * d)) (sym (Identities.add_difference R (quotient_numerator F D n d) (constant F s * (n * d)))) represents-logarithmic_derivative;
      smaller = let l = Degree.size-le F (sub R (quotient_numerator F D n d) (constant F s * (n * d))) (degree F n + degree F d) vanish in omega (arith, l, size_nd);
    }
      where
        en : size F n ≡ suc (degree F n)
        en = Degree.size_of_nonzero F n n-nonzero

        ed : size F d ≡ suc (degree F d)
        ed = Degree.size_of_nonzero F d (denominator-nonzero F z)

        size_nd : size F (n * d) ≡ suc (degree F n + degree F d)
        size_nd = Degree.size-mul F n d (degree F n) (degree F d) en ed

        sn : size F (D.derive n) ≤ suc (degree F n)
        sn = raises n (suc (degree F n)) (omega (arith, en))

        sd : size F (D.derive d) ≤ suc (degree F d)
        sd = raises d (suc (degree F d)) (omega (arith, ed))

        at_top : coefficient F (sub R (quotient_numerator F D n d) (constant F s * (n * d))) (degree F n + degree F d) ≡ F.zero
        at_top =
            coefficient-sub F (quotient_numerator F D n d) (constant F s * (n * d)) (degree F n + degree F d)
            ∙ ap₂ (λ x y. F.add x (F.neg y))
            (coefficient-sub F (D.derive n * d) (n * D.derive d) (degree F n + degree F d)
            ∙ ap₂ (λ x y. F.add x (F.neg y))
            (Degree.coefficient-mul-top F (D.derive n) d (degree F n) (degree F d) sn (omega (arith, ed)) ∙ ap (F.mul (coefficient F (D.derive n) (degree F n))) z.is_monic)
            (Degree.coefficient-mul-top F n (D.derive d) (degree F n) (degree F d) (omega (arith, en)) sd))
            (coefficient-constant_mul F s (n * d) (degree F n + degree F d)
            ∙ ap (F.mul s) (Degree.coefficient-mul-top F n d (degree F n) (degree F d) (omega (arith, en)) (omega (arith, ed)) ∙ ap (F.mul (leading_coefficient F n)) z.is_monic ∙ F.mul-one _))
            ∙ ap (λ x. F.add x (F.neg (F.mul s (leading_coefficient F n)))) top ∙ F.add-neg (F.mul s (leading_coefficient F n))

        small : size F (sub R (quotient_numerator F D n d) (constant F s * (n * d))) ≤ suc (degree F n + degree F d)
        small = Degree.size-sub-le F _ _ _
            (Degree.size-sub-le F _ _ _ (Degree.size-mul-le F (D.derive n) d (degree F n) (degree F d) sn (omega (arith, ed))) (Degree.size-mul-le F n (D.derive d) (degree F n) (degree F d) (omega (arith, en)) sd))
            (Degree.size-le F (constant F s * (n * d)) (suc (degree F n + degree F d)) (λ i l. coefficient-constant_mul F s (n * d) i ∙ ap (F.mul s) (Degree.below_size F (n * d) i (omega (arith, size_nd, l))) ∙ Laws.mul-zero F.ring s))

        vanish : (i : ℕ) → degree F n + degree F d ≤ i → coefficient F (sub R (quotient_numerator F D n d) (constant F s * (n * d))) i ≡ F.zero
        vanish i l = elim (ℕ_discrete i (degree F n + degree F d)) [
          | yes e ↦ ap (coefficient F (sub R (quotient_numerator F D n d) (constant F s * (n * d)))) e ∙ at_top
          | no k ↦ Degree.below_size F _ i (let m = small in omega (arith, m, l, k))
        ]

  module _ (char : HasCharacteristicZero F.ring) (D : Derivation F.ring) (η : A) (z : Fraction F) (nz : ¬ (z ≡ K.zero)) where
    abbrev e : A
    e = leading_coefficient F z.numerator

    e-nonzero : ¬ (e ≡ F.zero)
    e-nonzero = Degree.leading_coefficient-nonzero F z.numerator (numerator-nonzero F z nz)

    solve : (x y m s i j : A) → F.mul y i ≡ F.one → F.add (F.mul (F.add x (F.mul η (F.mul m y))) F.one) (F.neg (F.mul y (F.mul η j))) ≡ F.mul (F.add (F.mul x i) (F.add (F.mul m η) (F.neg (F.mul j η)))) y
    solve x y m s i j h = linear F.ring (F.neg x) h (ring F.ring (x ∷ y ∷ m ∷ i ∷ j ∷ η ∷ []) (search reading_symbolic depth 40 fits 9000) refl)

    -- Dt = η·t: the polynomial part of D(z)/z is D(e)/e + m·η, where m is deg(num) - deg(den)
    pub polynomial_part-exponential : HasPolynomialPart (logarithmic_derivative char (Derivation.derivation F D (constant F η * variable F)) z nz)
        (F.add (quotient F (D.derive e) e) (F.add (F.mul (of_nat F.ring (degree F z.numerator)) η) (F.neg (F.mul (of_nat F.ring (degree F z.denominator)) η))))
    polynomial_part-exponential = part_of_top char (Derivation.derivation F D (constant F η * variable F)) z nz _ (TopCoefficient.exponential-not_raising F D η)
        (ap₂ (λ x y. F.add (F.mul x F.one) (F.neg (F.mul e y)))
        (Special.coefficient-exponential F D η z.numerator (degree F z.numerator))
        (Special.coefficient-exponential F D η z.denominator (degree F z.denominator)
        ∙ ap (λ y. F.add (D.derive y) (F.mul η (F.mul (of_nat F.ring (degree F z.denominator)) y))) z.is_monic
        ∙ ap₂ F.add (Derivations.derive-one D) (ap (F.mul η) (F.mul-one _)) ∙ Laws.zero-add F.ring _)
        ∙ solve (D.derive e) e (of_nat F.ring (degree F z.numerator)) e (F.inverse e) (of_nat F.ring (degree F z.denominator)) (F.mul-inverse e e-nonzero))

    -- Dt = η: it is D(e)/e
    pub polynomial_part-primitive : HasPolynomialPart (logarithmic_derivative char (Derivation.derivation F D (constant F η)) z nz) (quotient F (D.derive e) e)
    polynomial_part-primitive = part_of_top char (Derivation.derivation F D (constant F η)) z nz _ (TopCoefficient.primitive-not_raising F D η)
        (ap₂ (λ x y. F.add (F.mul x F.one) (F.neg (F.mul e y))) (top z.numerator (numerator-nonzero F z nz))
        (top z.denominator (denominator-nonzero F z) ∙ ap D.derive z.is_monic ∙ Derivations.derive-one D)
        ∙ ap₂ F.add (F.mul-one (D.derive e)) (ap F.neg (Laws.mul-zero F.ring e) ∙ Laws.neg-zero F.ring) ∙ F.add-zero (D.derive e)
        ∙ sym (F.mul_assoc (D.derive e) (F.inverse e) e ∙ ap (F.mul (D.derive e)) (FieldLaws.inverse-mul F e e-nonzero) ∙ F.mul-one (D.derive e)))
      where
        top : (p : Polynomial F) → ¬ (p ≡ 𝟘) → coefficient F (Special.primitive F D η p) (degree F p) ≡ D.derive (leading_coefficient F p)
        top p np =
            Special.coefficient-primitive F D η p (degree F p)
            ∙ ap (λ y. F.add (D.derive (leading_coefficient F p)) (F.mul η (F.mul (of_nat F.ring (suc (degree F p))) y))) (Degree.below_size F p (suc (degree F p)) (let o = Degree.size_of_nonzero F p np in omega (arith, o)))
            ∙ ap (F.add (D.derive (leading_coefficient F p))) (ap (F.mul η) (Laws.mul-zero F.ring _) ∙ Laws.mul-zero F.ring η) ∙ F.add-zero _
