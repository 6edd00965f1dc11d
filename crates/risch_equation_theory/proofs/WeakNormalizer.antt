-- The weak normalizer: q = Π gcd(α - i·D(d1), d1)^i makes f - D(q)/q weakly normalized, and y solves the equation for f just where q·y solves it for f - D(q)/q.
use Rattle.std.specs.Prelude.{◌≡◌, ℕ, zero, suc, ◌+◌, ◌⊎◌, List, [], ◌∷◌}
use Rattle.std.proofs.Common.{sym, ap, subst, ◌∙◌, arith, inl, inr}
use Rattle.risch_ring.specs.CommRing.{CommRing, Field, Derivation, of_nat, sub, quotient, HasCharacteristicZero}
use Rattle.risch_ring.proofs.Laws as Laws
use Rattle.risch_univariate.specs.Polynomial.{Polynomial}
use Rattle.risch_univariate.specs.Division.{IsCoprime, IsIrreducible, IsMultiplicity}
use Rattle.risch_ring.proofs.FieldLaws as FieldLaws
use Rattle.risch_univariate.proofs.Degree as Degree
use Rattle.risch_univariate.proofs.Divides as Divides
use Rattle.risch_univariate.proofs.Gcd as Gcd
use Rattle.risch_univariate.proofs.Irreducible as Irreducible
use Rattle.risch_univariate.proofs.Multiplicity as Multiplicity
use Rattle.risch_fraction_field.specs.Fraction.{Fraction, Represents, of_polynomial, denominator-nonzero}
use Rattle.risch_fraction_field.specs.FractionDerivation.{fraction_derivation, fraction_derivation-polynomial}
use Rattle.risch_equation_theory.proofs.Identities as Identities
use Rattle.risch_equation_theory.proofs.Poles as Poles
use Rattle.risch_univariate.specs.PolynomialOperators.{polynomial_operators}
use Rattle.risch_univariate.specs.PolynomialRing.{polynomials}
use Rattle.risch_fraction_field.specs.Representation.{represents-add, represents-mul, represents-inverse, of_polynomial-nonzero}
use Rattle.risch_fraction_field.specs.FractionLaws.{represents_same, represents-polynomial}
use Rattle.risch_fraction_field.specs.FractionField.{fractions}
use Rattle.risch_equation_theory.specs.WeakNormalization.{IsNormalPrime, HasResidue, IsWeaklyNormalized, normalized, IsSimplePart, weak_normalizer, IsAbsent, IsOnce, common}

-- in any field with a derivation
module _ {A : Type 0} (G : Field A) (D : Derivation G.ring) where
  -- D(q·y) + (f - D(q)/q)·(q·y) = q·(D(y) + f·y)
  pub normalized_left_side : (q f y : A) → ¬ (q ≡ G.zero)
      → G.add (D.derive (G.mul q y)) (G.mul (sub G.ring f (quotient G (D.derive q) q)) (G.mul q y)) ≡ G.mul q (G.add (D.derive y) (G.mul f y))
  normalized_left_side q f y n =
      ap (λ z. G.add z (G.mul (sub G.ring f (quotient G (D.derive q) q)) (G.mul q y))) (D.derive-mul q y)
      ∙ Identities.normalized_equation G.ring q (G.inverse q) y f (D.derive q) (D.derive y) (G.mul-inverse q n)

  -- y solves the equation for f and g, then q·y that for f - D(q)/q and q·g
  pub normalized_solution : (q f g y : A) → ¬ (q ≡ G.zero) → G.add (D.derive y) (G.mul f y) ≡ g
      → G.add (D.derive (G.mul q y)) (G.mul (sub G.ring f (quotient G (D.derive q) q)) (G.mul q y)) ≡ G.mul q g
  normalized_solution q f g y n h = normalized_left_side q f y n ∙ ap (G.mul q) h

  -- and the other way round
  pub solution_of_normalized : (q f g y : A) → ¬ (q ≡ G.zero)
      → G.add (D.derive (G.mul q y)) (G.mul (sub G.ring f (quotient G (D.derive q) q)) (G.mul q y)) ≡ G.mul q g → G.add (D.derive y) (G.mul f y) ≡ g
  solution_of_normalized q f g y n h = FieldLaws.mul_left_cancel G q _ _ n (sym (normalized_left_side q f y n) ∙ h)

module _ {A : Type 0} (F : Field A) (char : HasCharacteristicZero F.ring) (D : Derivation (polynomials F)) where
  abbrev R : CommRing (Polynomial F)
  R = polynomials F

  abbrev K : Field (Fraction F)
  K = fractions F

  open (polynomial_operators F) use {𝟘, 𝟙, ◌+◌ as ◌+ₚ◌, ◌*◌, ◌^◌, ◌∣◌}

  -- D(q)/q is represented by D(q) and q
  pub represents-logarithmic_derivative : (q : Polynomial F) → ¬ (q ≡ 𝟘)
      → Represents F (quotient K ((fraction_derivation F D).derive (of_polynomial F q)) (of_polynomial F q)) (D.derive q * 𝟙) (𝟙 * q)
  represents-logarithmic_derivative q n =
      represents-mul F ((fraction_derivation F D).derive (of_polynomial F q)) (K.inverse (of_polynomial F q)) (D.derive q) 𝟙 𝟙 q
      (subst (λ z. Represents F z (D.derive q) 𝟙) (sym (fraction_derivation-polynomial F D q)) (represents-polynomial F (D.derive q)))
      (represents-inverse F (of_polynomial F q) q 𝟙 (of_polynomial-nonzero F q n) (represents-polynomial F q))

  -- the residue of D(q)/q at p is ν(q)
  pub residue-shift : (p q : Polynomial F) (f : Fraction F) (i j : ℕ) → IsNormalPrime F D p → ¬ (q ≡ 𝟘) → IsMultiplicity F p q j
      → HasResidue F D p (normalized F D f q) i → HasResidue F D p f (i + j)
  residue-shift p q f i j np nq m h = record {
    left = h.left * m.cofactor +ₚ h.right * Y;
    right = h.right * m.cofactor;
    represents =
        subst (λ z. Represents F z (h.left * m.cofactor +ₚ h.right * Y) (p * (h.right * m.cofactor))) (sym (Identities.sub_add_cancel K.ring f _))
        (represents_same F (K.add (normalized F D f q) quotient_q) (h.left * (𝟙 * q) +ₚ D.derive q * 𝟙 * (p * h.right)) (p * h.right * (𝟙 * q)) _ _ denominator
        (represents-add F (normalized F D f q) quotient_q h.left (p * h.right) (D.derive q * 𝟙) (𝟙 * q) h.represents (represents-logarithmic_derivative q nq))
        (ap (λ z. (h.left * (𝟙 * z) +ₚ D.derive q * 𝟙 * (p * h.right)) * (p * (h.right * m.cofactor))) m.equation
        ∙ Identities.shifted_sum R h.left p h.right (D.derive q) (p ^ j) m.cofactor Y (ap (λ z. p * D.derive z) m.equation ∙ Multiplicity.mul-derive-power_mul F D p m.cofactor j)
        ∙ ap (λ z. (h.left * m.cofactor +ₚ h.right * Y) * (p * h.right * (𝟙 * z))) (sym m.equation)));
    not_divides_right = Irreducible.not_divides-mul F p h.right m.cofactor np.irreducible h.not_divides_right m.not_divides;
    residue = subst (λ z. p ∣ sub R (h.left * m.cofactor +ₚ h.right * Y) (z * (h.right * m.cofactor * D.derive p))) (sym (Laws.of_nat-add R i j))
        (subst (λ z. p ∣ z) (sym (Identities.shifted_residue R h.left p h.right m.cofactor (of_nat R j) (of_nat R i) (D.derive p) (D.derive m.cofactor)))
        (Divides.divides-add F p _ _ (Divides.divides-mul_left F p m.cofactor _ h.residue) (Divides.divides-mul_right F p _)));
  }
    where
      Y : Polynomial F
      Y = of_nat R j * (D.derive p * m.cofactor) +ₚ p * D.derive m.cofactor

      quotient_q : Fraction F
      quotient_q = quotient K ((fraction_derivation F D).derive (of_polynomial F q)) (of_polynomial F q)

      denominator : ¬ (p * h.right * (𝟙 * q) ≡ 𝟘)
      denominator = Degree.mul_polynomials-nonzero F _ _
          (Degree.mul_polynomials-nonzero F _ _ (Irreducible.irreducible-nonzero F p np.irreducible) (Divides.nonzero_of_not_divides F p h.right h.not_divides_right))
          (Degree.mul_polynomials-nonzero F _ _ (Degree.one-ne-zero F) nq)

  module _ (f : Fraction F) (d1 r α z : Polynomial F) (simple_part : IsSimplePart F D f.denominator d1 r) (solved : r * α +ₚ d1 * z ≡ f.numerator) where
    -- a residue l > 0 at p: p divides d1 and α - l·D(d1)
    pub divides-of_residue : (p : Polynomial F) (l : ℕ) → IsNormalPrime F D p → HasResidue F D p f (suc l) → (p ∣ d1) × (p ∣ sub R α (of_nat R (suc l) * D.derive d1))
    divides-of_residue p l np h = (in_d1, cancelled r no_rest (subst (λ w. p ∣ w) (sym by_inverse) (Divides.divides-sub F p _ _ at_numerator (Divides.divides-mul_right F p _))))
      where
        i : IsIrreducible F p
        i = np.irreducible

        one_power : p ^ 1 ≡ p
        one_power = Laws.power-one R p

        unit : ¬ (p ∣ of_nat R (suc l) * (h.right * D.derive p))
        unit = Irreducible.not_divides-mul F p _ _ i (Poles.not_divides-of_nat F char p i l) (Irreducible.not_divides-mul F p _ _ i h.not_divides_right np.normal)

        no_left : ¬ (p ∣ h.left)
        no_left d = unit (subst (λ w. p ∣ w) (Laws.neg-neg R _) (Divides.divides-neg F p _ (Divides.divides_of_add F p h.left _ d h.residue)))

        at_pole : p ^ 1 ∣ f.denominator
        at_pole = Poles.power-divides-denominator F p i f h.left h.right 1 (subst (λ w. Represents F f h.left (w * h.right)) (sym one_power) h.represents) no_left

        no_square : ¬ (p ^ 2 ∣ f.denominator)
        no_square d = h.not_divides_right (Divides.divides_cancel F p p h.right (Irreducible.irreducible-nonzero F p i)
            (subst (λ w. w ∣ p * h.right) (Laws.power-suc R p 1 ∙ ap (R.mul p) one_power)
            (Divides.divides_trans F (p ^ 2) f.denominator (p * h.right) d (Poles.denominator-divides F f h.left (p * h.right) h.represents))))

        once : IsMultiplicity F p f.denominator 1
        once = Multiplicity.multiplicity_of_bounds F p f.denominator 1 at_pole no_square

        in_d1 : p ∣ d1
        in_d1 = simple_part.contains p np once

        b : Polynomial F
        b = in_d1.cofactor

        whole : f.denominator ≡ p * (b * r)
        whole = simple_part.equation ∙ ap (λ w. w * r) (in_d1.equation ∙ R.mul_comm b p) ∙ R.mul_assoc p b r

        no_cofactor : ¬ (p ∣ b * r)
        no_cofactor d = no_square (subst (λ w. p ^ 2 ∣ w) (sym whole)
            (subst (λ w. w ∣ p * (b * r)) (sym (Laws.power-suc R p 1 ∙ ap (R.mul p) one_power)) (Divides.divides-mul_mul F p p p (b * r) (Divides.divides_refl F p) d)))

        no_rest : ¬ (p ∣ r)
        no_rest d = no_cofactor (Divides.divides-mul_left F p b r d)

        cancelled : (x : Polynomial F) {y : Polynomial F} → ¬ (p ∣ x) → p ∣ x * y → p ∣ y
        cancelled x {y} n d = from (Irreducible.irreducible-prime F p x y i d)
          where
            from : p ∣ x ⊎ p ∣ y → p ∣ y
            from (inl a) = absurd (n a)
            from (inr a) = a

        -- num(f)·v = u·(b·r)
        cross : f.numerator * h.right ≡ h.left * (b * r)
        cross = Degree.mul_polynomials_cancel F p _ _ (Irreducible.irreducible-nonzero F p i)
            (Laws.mul_swap R p f.numerator h.right ∙ R.mul_assoc f.numerator p h.right ∙ h.represents
            ∙ ap (R.mul h.left) whole ∙ Laws.mul_swap R h.left p (b * r) ∙ R.mul_assoc p h.left (b * r))

        at_numerator : p ∣ sub R f.numerator (of_nat R (suc l) * (b * r * D.derive p))
        at_numerator = cancelled h.right h.not_divides_right
            (subst (λ w. p ∣ w) (sym (Identities.residue_of_same R h.right f.numerator (of_nat R (suc l)) (b * r) (D.derive p) h.left cross))
            (Divides.divides-mul_left F p (b * r) _ h.residue))

        by_inverse : r * sub R α (of_nat R (suc l) * D.derive d1) ≡ sub R (sub R f.numerator (of_nat R (suc l) * (b * r * D.derive p))) (p * (b * z +ₚ of_nat R (suc l) * (r * D.derive b)))
        by_inverse =
            ap (λ w. r * sub R α (of_nat R (suc l) * w)) (ap D.derive in_d1.equation ∙ D.derive-mul b p)
            ∙ Identities.residue_by_inverse R f.numerator r α b p z (of_nat R (suc l)) (D.derive p) (D.derive b) (ap (λ w. r * α +ₚ w * z) (sym in_d1.equation) ∙ solved)

    -- f is weakly normalized, if for no whole i > 0 have α - i·D(d1) and d1 a common factor
    pub weakly_normalized_of_coprime : ((i : ℕ) → IsCoprime F (sub R α (of_nat R (suc i) * D.derive d1)) d1) → IsWeaklyNormalized F D f
    weakly_normalized_of_coprime h p np u v nv hf i d =
        let x = divides-of_residue p i np (record { left = u; right = v; represents = hf; not_divides_right = nv; residue = d }) in
        Irreducible.irreducible-not_unit F p np.irreducible (Gcd.coprime-common_divisor F _ d1 p (h i) x.1 x.0)

    -- ---- the product of the powers

    -- d1 ≠ 0
    pub d1-nonzero : ¬ (d1 ≡ 𝟘)
    d1-nonzero = Degree.nonzero_of_mul_left F d1 r (λ e. denominator-nonzero F f (simple_part.equation ∙ e))

    -- q ≠ 0
    pub weak_normalizer-nonzero : (is : List ℕ) → ¬ (weak_normalizer F D d1 α is ≡ 𝟘)
    unfolding weak_normalizer
    weak_normalizer-nonzero [] = Degree.one-ne-zero F
    weak_normalizer-nonzero (i ∷ is) = Degree.mul_polynomials-nonzero F _ _ (Multiplicity.power-nonzero F (common F D d1 α i) i (Gcd.gcd-nonzero_right F _ d1 d1-nonzero)) (weak_normalizer-nonzero is)

    module _ (p : Polynomial F) (np : IsNormalPrime F D p) (l : ℕ) (in_d1 : p ∣ d1) (at_l : p ∣ sub R α (of_nat R l * D.derive d1)) where
      power_multiplicity : (a : Polynomial F) (e : ℕ) → IsMultiplicity F p a 1 → IsMultiplicity F p (a ^ e) e
      power_multiplicity a zero m = record { cofactor = 𝟙; equation = Laws.power-zero R a ∙ sym (R.mul-one (p ^ 0) ∙ Laws.power-zero R p); not_divides = Irreducible.irreducible-not_unit F p np.irreducible }
      power_multiplicity a (suc e) m =
          let s : 1 + e ≡ suc e = omega arith in
          subst (IsMultiplicity F p (a ^ suc e)) s (subst (λ w. IsMultiplicity F p w (1 + e)) (sym (Laws.power-suc R a e))
          (Irreducible.multiplicity-mul F p a (a ^ e) 1 e np.irreducible m (power_multiplicity a e m)))

      power_absent : (a : Polynomial F) (e : ℕ) → ¬ (p ∣ a) → ¬ (p ∣ a ^ e)
      power_absent a zero n d = Irreducible.irreducible-not_unit F p np.irreducible (subst (λ w. p ∣ w) (Laws.power-zero R a) d)
      power_absent a (suc e) n d = Irreducible.not_divides-mul F p a (a ^ e) np.irreducible n (power_absent a e n) (subst (λ w. p ∣ w) (Laws.power-suc R a e) d)

      -- p divides d1 once
      square_free : ¬ (p ^ 2 ∣ d1)
      square_free d =
          let k = Multiplicity.le_of_power-divides F p f.denominator 1 2 (Irreducible.irreducible-nonzero F p np.irreducible) (simple_part.simple p np in_d1)
          (subst (λ w. p ^ 2 ∣ w) (sym simple_part.equation) (Divides.divides_trans F (p ^ 2) d1 (d1 * r) d (Divides.divides-mul_right F d1 r))) in
          omega (arith, k)

      -- p does not divide D(d1)
      derivative : ¬ (p ∣ D.derive d1)
      derivative d = Irreducible.not_divides-mul F p in_d1.cofactor (D.derive p) np.irreducible no_cofactor np.normal
          (Divides.divides_of_add F p (D.derive in_d1.cofactor * p) _ (Divides.divides-mul F (D.derive in_d1.cofactor) p)
          (subst (λ w. p ∣ w) (ap D.derive in_d1.equation ∙ D.derive-mul in_d1.cofactor p) d))
        where
          no_cofactor : ¬ (p ∣ in_d1.cofactor)
          no_cofactor x = square_free (subst (λ w. w ∣ d1) (sym (Laws.power-suc R p 1 ∙ ap (R.mul p) (Laws.power-one R p)))
              (subst (λ w. p * p ∣ w) (sym in_d1.equation) (Divides.divides-mul_mul F p p in_d1.cofactor p x (Divides.divides_refl F p))))

      once : IsMultiplicity F p (common F D d1 α l) 1
      once = Multiplicity.multiplicity_of_bounds F p (common F D d1 α l) 1
          (subst (λ w. w ∣ common F D d1 α l) (sym (Laws.power-one R p)) (Gcd.gcd-greatest F _ d1 p at_l in_d1))
          (λ d. square_free (Divides.divides_trans F (p ^ 2) (common F D d1 α l) d1 d (Gcd.gcd-divides_right F _ d1)))

      other : (i : ℕ) → ¬ (i ≡ l) → ¬ (p ∣ common F D d1 α i)
      other i differ d = Irreducible.not_divides-mul F p (sub R (of_nat R i) (of_nat R l)) (D.derive d1) np.irreducible difference derivative
          (subst (λ w. p ∣ w) (Identities.difference_of_residues R α (of_nat R l) (of_nat R i) (D.derive d1))
          (Divides.divides-sub F p _ _ at_l (Divides.divides_trans F p (common F D d1 α i) _ d (Gcd.gcd-divides_left F _ d1))))
        where
          difference : ¬ (p ∣ sub R (of_nat R i) (of_nat R l))
          difference x = Irreducible.irreducible-not_unit F p np.irreducible (Divides.divides_trans F p (sub R (of_nat R i) (of_nat R l)) 𝟙 x (Multiplicity.difference-unit F char i l differ))

      absent : (is : List ℕ) → IsAbsent l is → ¬ (p ∣ weak_normalizer F D d1 α is)
      unfolding weak_normalizer
      absent [] h = Irreducible.irreducible-not_unit F p np.irreducible
      absent (i ∷ is) h = Irreducible.not_divides-mul F p (common F D d1 α i ^ i) (weak_normalizer F D d1 α is) np.irreducible (power_absent (common F D d1 α i) i (other i h.0)) (absent is h.1)

      -- ν(q) = l
      pub multiplicity-weak_normalizer : (is : List ℕ) → IsOnce l is → IsMultiplicity F p (weak_normalizer F D d1 α is) l
      unfolding weak_normalizer
      multiplicity-weak_normalizer [] h = absurd h
      multiplicity-weak_normalizer (i ∷ is) (inl h) =
          let s : l + 0 ≡ l = omega arith in
          subst (λ w. IsMultiplicity F p (common F D d1 α w ^ w * weak_normalizer F D d1 α is) l) (sym h.0)
          (subst (IsMultiplicity F p (common F D d1 α l ^ l * weak_normalizer F D d1 α is)) s
          (Irreducible.multiplicity-mul F p (common F D d1 α l ^ l) (weak_normalizer F D d1 α is) l 0 np.irreducible (power_multiplicity (common F D d1 α l) l once)
          (Multiplicity.multiplicity_zero F p (weak_normalizer F D d1 α is) (absent is h.1))))
      multiplicity-weak_normalizer (i ∷ is) (inr h) =
          let s : 0 + l ≡ l = omega arith in
          subst (IsMultiplicity F p (common F D d1 α i ^ i * weak_normalizer F D d1 α is)) s
          (Irreducible.multiplicity-mul F p (common F D d1 α i ^ i) (weak_normalizer F D d1 α is) 0 l np.irreducible (Multiplicity.multiplicity_zero F p (common F D d1 α i ^ i) (power_absent (common F D d1 α i) i (other i h.0)))
          (multiplicity-weak_normalizer is h.1))

    -- with every i > 0 for which α - i·D(d1) and d1 have a common factor once in the list, f - D(q)/q is weakly normalized
    pub weakly_normalized : (is : List ℕ) → ((i : ℕ) → ¬ IsCoprime F (sub R α (of_nat R (suc i) * D.derive d1)) d1 → IsOnce (suc i) is)
        → IsWeaklyNormalized F D (normalized F D f (weak_normalizer F D d1 α is))
    weakly_normalized is complete p np u v nv hf i d = go (Irreducible.multiplicity_of F p (weak_normalizer F D d1 α is) np.irreducible.not_constant (weak_normalizer-nonzero is))
      where
        go : Irreducible.Multiplicity F p (weak_normalizer F D d1 α is) → ⊥
        go m =
            let j = m.exponent in
            let s : suc i + j ≡ suc (i + j) = omega arith in
            let h = residue-shift p (weak_normalizer F D d1 α is) f (suc i) j np (weak_normalizer-nonzero is) m.is_multiplicity
            (record { left = u; right = v; represents = hf; not_divides_right = nv; residue = d }) in
            let x = divides-of_residue p (i + j) np (subst (HasResidue F D p f) s h) in
            let c = complete (i + j) (λ c. Irreducible.irreducible-not_unit F p np.irreducible (Gcd.coprime-common_divisor F _ d1 p c x.1 x.0)) in
            let e = Irreducible.multiplicity_unique F p (weak_normalizer F D d1 α is) j (suc (i + j)) (Irreducible.irreducible-nonzero F p np.irreducible) m.is_multiplicity
            (multiplicity-weak_normalizer p np (suc (i + j)) x.0 x.1 is c) in
            absurd (omega (arith, e))
