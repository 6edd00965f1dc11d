-- The order at t of the solutions of a·D(q) + b·q = c for Dt = η·t, where t does not divide the polynomial a: for q = r/t^k with k > 0 and r(0) ≠ 0.
use Rattle.std.specs.Prelude.{◌≡◌, ℕ, suc, ◌+◌, ◌≤◌, ◌⊎◌, [], ◌∷◌}
use Rattle.std.proofs.Common.{refl, sym, ap, ap₂, subst, ◌∙◌, arith, inl, inr}
use native.Mathlib.Decide.{dec_le}
use Rattle.risch_ring.specs.CommRing.{CommRing, Field, Derivation, power, of_nat, sub, quotient, HasCharacteristicZero}
use Rattle.risch_ring.proofs.Laws as Laws
use Rattle.risch_ring.proofs.Derivations as Derivations
use Rattle.risch_ring.proofs.Expression.{reading_symbolic}
use Rattle.risch_ring.proofs.Solver.{ring, linear}
use Rattle.risch_univariate.specs.Polynomial.{Polynomial, coefficient, constant, variable}
use Rattle.risch_univariate.specs.Degree.{size}
use Rattle.risch_univariate.specs.Division.{Divides, IsIrreducible}
use Rattle.risch_ring.proofs.FieldLaws as FieldLaws
use Rattle.risch_univariate.proofs.Degree as Degree
use Rattle.risch_univariate.proofs.Divides as Divides
use Rattle.risch_univariate.proofs.Multiplicity as Multiplicity
use Rattle.risch_univariate.proofs.Derivation as Derivation
use Rattle.risch_univariate.proofs.Special as Special
use Rattle.risch_fraction_field.specs.Fraction.{Fraction, Represents, of_polynomial}
use Rattle.risch_fraction_field.specs.FractionDerivation.{fraction_derivation, represents-derive}
use Rattle.risch_equation_theory.proofs.Identities as Identities
use Rattle.risch_equation_theory.proofs.Monomials as Monomials
use Rattle.risch_equation_theory.proofs.Poles as Poles
use Rattle.risch_univariate.specs.PolynomialRing.{polynomials}
use Rattle.risch_univariate.proofs.PolynomialInduction.{polynomial_induction}
use Rattle.risch_univariate.proofs.Coefficients.{coefficient-zero, coefficient-add, coefficient-neg, coefficient-constant_mul, coefficient-horner-zero, coefficient-variable_mul-zero, coefficient-constant-zero}
use Rattle.risch_fraction_field.specs.Representation.{represents-add, represents-mul}
use Rattle.risch_fraction_field.specs.FractionLaws.{represents_same, represents-polynomial}
use Rattle.risch_fraction_field.specs.FractionField.{fractions}
use Rattle.risch_equation_theory.specs.Equation.{reduced_left_side}
use Rattle.risch_equation_theory.specs.Constants.{IsSoundExponential}

module _ {A : Type 0} (F : Field A) where
  abbrev R : CommRing (Polynomial F)
  R = polynomials F

  -- (p·q)_0 = p_0·q_0
  pub coefficient-mul-zero : (p q : Polynomial F) → coefficient F (R.mul p q) 0 ≡ F.mul (coefficient F p 0) (coefficient F q 0)
  coefficient-mul-zero p q = polynomial_induction F (λ p. coefficient F (R.mul p q) 0 ≡ F.mul (coefficient F p 0) (coefficient F q 0))
      (ap (λ z. coefficient F z 0) (Laws.zero-mul R q) ∙ coefficient-zero F 0 ∙ sym (ap (λ z. F.mul z (coefficient F q 0)) (coefficient-zero F 0) ∙ Laws.zero-mul F.ring (coefficient F q 0)))
      (λ a p ih. Degree.horner_mul-zero F a p q ∙ ap (λ z. F.mul z (coefficient F q 0)) (sym (coefficient-horner-zero F a p)))
      p

  -- t | p only where p_0 = 0
  pub variable-not_divides : (p : Polynomial F) → ¬ (coefficient F p 0 ≡ F.zero) → ¬ Divides F (variable F) p
  variable-not_divides p n d = n (ap (λ z. coefficient F z 0) (d.equation ∙ R.mul_comm d.cofactor (variable F)) ∙ coefficient-variable_mul-zero F d.cofactor)

  -- deg t = 1
  pub size-variable : size F (variable F) ≡ 2
  size-variable =
      let e : variable F ≡ Monomials.monomial F F.one 1 = sym (Laws.power-one R (variable F)) ∙ Monomials.power-monomial F 1 in
      let l = ap (size F) e in
      let k = Monomials.size-monomial-le F F.one 1 in
      let g = Degree.size-ge F (variable F) 1 (λ z. F.one-ne-zero (sym (ap (λ w. coefficient F w 1) e ∙ Monomials.coefficient-monomial F F.one 1) ∙ z)) in
      omega (arith, l, k, g)

  -- t is irreducible
  pub variable-irreducible : IsIrreducible F (variable F)
  variable-irreducible = record {
    not_constant = let e = size-variable in omega (arith, e);
    divisors = divisors;
  }
    where
      divisors : (d : Polynomial F) → Divides F d (variable F) → (size F d ≤ 1) ⊎ (size F d ≡ size F (variable F))
      divisors d h = elim (dec_le (size F d) 1) [
        | yes l ↦ inl l
        | no l ↦
            let nonzero = Degree.nonzero_of_size F (variable F) (let e = size-variable in omega (arith, e)) in
            let s = Divides.size-divides F d (variable F) h nonzero in
            let e = size-variable in
            inr (omega (arith, s, e, l))
      ]

  module _ (char : HasCharacteristicZero F.ring) (D : Derivation F.ring) (η : A) where
    abbrev K : Field (Fraction F)
    K = fractions F

    abbrev t : Polynomial F
    t = variable F

    infixr 90 ◌^◌
    abbrev ◌^◌ : Polynomial F → ℕ → Polynomial F
    p ^ n = power R p n

    abbrev E : Derivation R
    E = Derivation.derivation F D (R.mul (constant F η) (variable F))

    -- D(t^k) = t^k·(k·η)
    pub derive-power_variable : (k : ℕ) → E.derive (t ^ k) ≡ R.mul (t ^ k) (constant F (F.mul η (of_nat F.ring k)))
    derive-power_variable k =
        Monomials.monomial_ext F (E.derive (t ^ k)) (F.mul η (of_nat F.ring k)) k
        (Special.coefficient-exponential F D η (t ^ k) k ∙ ap (λ z. F.add (D.derive z) (F.mul η (F.mul (of_nat F.ring k) z))) (ap (λ z. coefficient F z k) (Monomials.power-monomial F k) ∙ Monomials.coefficient-monomial F F.one k)
        ∙ ap₂ F.add (Derivations.derive-one D) (ap (F.mul η) (F.mul-one (of_nat F.ring k))) ∙ Laws.zero-add F.ring _)
        (λ i n. Special.coefficient-exponential F D η (t ^ k) i
        ∙ ap (λ z. F.add (D.derive z) (F.mul η (F.mul (of_nat F.ring i) z))) (ap (λ z. coefficient F z i) (Monomials.power-monomial F k) ∙ Monomials.coefficient-monomial-other F F.one k i n)
        ∙ ap₂ F.add (Derivations.derive-zero D) (ap (F.mul η) (Laws.mul-zero F.ring _) ∙ Laws.mul-zero F.ring η) ∙ F.add-zero F.zero)
        ∙ Monomials.monomial_is F (F.mul η (of_nat F.ring k)) k

    module _ (a r B W : Polynomial F) (b q : Fraction F) (k l : ℕ) (hq : Represents F q r (t ^ k)) (hb : Represents F b B (R.mul (t ^ l) W)) (nW : ¬ (coefficient F W 0 ≡ F.zero)) where
      -- a·D(q) + b·q
      abbrev side : Fraction F
      side = reduced_left_side F E a b q

      κ : Polynomial F
      κ = constant F (F.mul η (of_nat F.ring k))

      top : Polynomial F
      top = R.add (R.mul (t ^ l) (R.mul W (R.mul a (sub R (E.derive r) (R.mul κ r))))) (R.mul B r)

      power-nz : (n : ℕ) → ¬ (t ^ n ≡ R.zero)
      power-nz n = Multiplicity.power-nonzero F t n (Degree.nonzero_of_size F t (let e = size-variable in omega (arith, e)))

      nonzero-W : ¬ (W ≡ R.zero)
      nonzero-W e = nW (ap (λ z. coefficient F z 0) e ∙ coefficient-zero F 0)

      represents-side : Represents F side top (R.mul (t ^ (k + l)) W)
      unfolding κ top
      represents-side =
          subst (λ z. Represents F side top (R.mul z W)) (sym (Laws.power-add R t k l))
          (represents_same F side (R.add (R.mul (R.mul a (sub R (R.mul (E.derive r) (t ^ k)) (R.mul r (R.mul (t ^ k) κ)))) (R.mul (R.mul (t ^ l) W) (t ^ k))) (R.mul (R.mul B r) (R.mul R.one (R.mul (t ^ k) (t ^ k)))))
          (R.mul (R.mul R.one (R.mul (t ^ k) (t ^ k))) (R.mul (R.mul (t ^ l) W) (t ^ k))) top _
          (Degree.mul_polynomials-nonzero F _ _ (Degree.mul_polynomials-nonzero F _ _ (Degree.one-ne-zero F) (Degree.mul_polynomials-nonzero F _ _ (power-nz k) (power-nz k)))
          (Degree.mul_polynomials-nonzero F _ _ (Degree.mul_polynomials-nonzero F _ _ (power-nz l) nonzero-W) (power-nz k)))
          (represents-add F (K.mul (of_polynomial F a) ((fraction_derivation F E).derive q)) (K.mul b q) _ _ _ _
          (represents-mul F (of_polynomial F a) ((fraction_derivation F E).derive q) a R.one _ _ (represents-polynomial F a)
          (subst (λ z. Represents F ((fraction_derivation F E).derive q) (sub R (R.mul (E.derive r) (t ^ k)) (R.mul r z)) (R.mul (t ^ k) (t ^ k))) (derive-power_variable k)
          (represents-derive F E q r (t ^ k) hq)))
          (represents-mul F b q _ _ _ _ hb hq))
          (Identities.order_sum R a (E.derive r) r (t ^ k) κ B (t ^ l) W))

      -- D(y) - k·η·y with y = r(0)
      abbrev lowest : A
      lowest = F.add (F.add (D.derive (coefficient F r 0)) (F.mul η (F.mul (of_nat F.ring 0) (coefficient F r 0)))) (F.neg (F.mul (F.mul η (of_nat F.ring k)) (coefficient F r 0)))

      top-at_zero : coefficient F top 0 ≡ F.add (F.mul (coefficient F (t ^ l) 0) (F.mul (coefficient F W 0) (F.mul (coefficient F a 0) lowest))) (F.mul (coefficient F B 0) (coefficient F r 0))
      unfolding κ top
      top-at_zero =
          coefficient-add F _ _ 0
          ∙ ap₂ F.add
          (coefficient-mul-zero (t ^ l) _ ∙ ap (F.mul (coefficient F (t ^ l) 0)) (coefficient-mul-zero W _ ∙ ap (F.mul (coefficient F W 0)) (coefficient-mul-zero a _ ∙ ap (F.mul (coefficient F a 0))
          (coefficient-add F (E.derive r) (R.neg (R.mul κ r)) 0
          ∙ ap₂ F.add (Special.coefficient-exponential F D η r 0) (coefficient-neg F (R.mul κ r) 0 ∙ ap F.neg (coefficient-constant_mul F (F.mul η (of_nat F.ring k)) r 0))))))
          (coefficient-mul-zero B r)

      -- where the numerator is not 0 at t = 0, t^(k + l) divides the denominator of a·D(q) + b·q
      order-of_top : ¬ (coefficient F top 0 ≡ F.zero) → Divides F (t ^ (k + l)) side.denominator
      order-of_top n = Poles.power-divides-denominator F t variable-irreducible side top W (k + l) represents-side (variable-not_divides top n)

      power-at_zero : (n : ℕ) → coefficient F (t ^ suc n) 0 ≡ F.zero
      power-at_zero n = ap (λ z. coefficient F z 0) (Laws.power-suc R t n) ∙ coefficient-variable_mul-zero F (t ^ n)

      one-at_zero : coefficient F (t ^ 0) 0 ≡ F.one
      one-at_zero = ap (λ z. coefficient F z 0) (Laws.power-zero R t ∙ sym (Degree.constant-one F)) ∙ coefficient-constant-zero F F.one

      -- b of order -l < 0: a·D(q) + b·q has a pole of order at least k + l
      pub order-below : (l' : ℕ) → l ≡ suc l' → ¬ (coefficient F B 0 ≡ F.zero) → ¬ (coefficient F r 0 ≡ F.zero) → Divides F (t ^ (k + l)) side.denominator
      order-below l' e nB nr = order-of_top (λ z. FieldLaws.mul-nonzero F (coefficient F B 0) (coefficient F r 0) nB nr (sym (top-at_zero
          ∙ ap (λ x. F.add (F.mul x (F.mul (coefficient F W 0) (F.mul (coefficient F a 0) lowest))) (F.mul (coefficient F B 0) (coefficient F r 0))) (ap (λ n. coefficient F (t ^ n) 0) e ∙ power-at_zero l')
          ∙ ap (λ x. F.add x (F.mul (coefficient F B 0) (coefficient F r 0))) (Laws.zero-mul F.ring _) ∙ Laws.zero-add F.ring _) ∙ z))

      -- l = 0
      at_level : l ≡ 0 → coefficient F top 0 ≡ F.add (F.mul (coefficient F W 0) (F.mul (coefficient F a 0) lowest)) (F.mul (coefficient F B 0) (coefficient F r 0))
      at_level e = top-at_zero
          ∙ ap (λ x. F.add x (F.mul (coefficient F B 0) (coefficient F r 0)))
          (ap (λ x. F.mul x (F.mul (coefficient F W 0) (F.mul (coefficient F a 0) lowest))) (ap (λ n. coefficient F (t ^ n) 0) e ∙ one-at_zero) ∙ Laws.one-mul F.ring _)

      -- b of order at least 0, with the value B(0)/W(0) at 0: a·D(q) + b·q has a pole of order at least k, or -b(0)/a(0) = D(y)/y - k·η with y = r(0)
      pub order-at : l ≡ 0 → ¬ (coefficient F a 0 ≡ F.zero) → ¬ (coefficient F r 0 ≡ F.zero)
          → Divides F (t ^ (k + l)) side.denominator
          ⊎ (F.neg (quotient F (quotient F (coefficient F B 0) (coefficient F W 0)) (coefficient F a 0))
          ≡ F.add (quotient F (D.derive (coefficient F r 0)) (coefficient F r 0)) (F.neg (F.mul (of_nat F.ring k) η)))
      order-at e na nr = elim (F.is_zero (coefficient F top 0)) [
        | no n ↦ inl (order-of_top n)
        | yes z ↦ inr (solve (coefficient F W 0) (F.inverse (coefficient F W 0)) (coefficient F a 0) (F.inverse (coefficient F a 0)) (coefficient F r 0) (F.inverse (coefficient F r 0)) (coefficient F B 0)
            (D.derive (coefficient F r 0)) (of_nat F.ring k) (of_nat F.ring 0) (unfold of_nat in refl) (F.mul-inverse _ nW) (F.mul-inverse _ na) (F.mul-inverse _ nr) (sym (at_level e) ∙ z))
      ]
        where
          solve : (w i a j y m b y' k o : A) → o ≡ F.zero → F.mul w i ≡ F.one → F.mul a j ≡ F.one → F.mul y m ≡ F.one
              → F.add (F.mul w (F.mul a (F.add (F.add y' (F.mul η (F.mul o y))) (F.neg (F.mul (F.mul η k) y))))) (F.mul b y) ≡ F.zero
              → F.neg (F.mul (F.mul b i) j) ≡ F.add (F.mul y' m) (F.neg (F.mul k η))
          solve w i a j y m b y' k o oz wi aj ym h =
              multiply (linear F.ring (F.neg (F.mul i j)) h' (linear F.ring (F.mul (F.mul a j) X) wi (linear F.ring X aj (ring F.ring (w ∷ i ∷ a ∷ j ∷ y ∷ b ∷ y' ∷ k ∷ η ∷ []) (search reading_symbolic depth 40 fits 9000) refl))))
            where
              X : A
              X = F.add y' (F.neg (F.mul (F.mul η k) y))

              h' : F.add (F.mul w (F.mul a (F.add y' (F.neg (F.mul (F.mul η k) y))))) (F.mul b y) ≡ F.zero
              h' = ap (λ z. F.add (F.mul w (F.mul a (F.add z (F.neg (F.mul (F.mul η k) y))))) (F.mul b y))
                  (sym (ap (λ z. F.add y' (F.mul η z)) (ap (λ z. F.mul z y) oz ∙ Laws.zero-mul F.ring y) ∙ ap (F.add y') (Laws.mul-zero F.ring η) ∙ F.add-zero y')) ∙ h

              multiply : F.neg (F.mul (F.mul (F.mul b i) j) y) ≡ F.add y' (F.neg (F.mul (F.mul η k) y)) → F.neg (F.mul (F.mul b i) j) ≡ F.add (F.mul y' m) (F.neg (F.mul k η))
              multiply g = linear F.ring m g (linear F.ring (F.add (F.mul (F.mul b i) j) (F.neg (F.mul k η))) ym (ring F.ring (i ∷ j ∷ y ∷ m ∷ b ∷ y' ∷ k ∷ η ∷ []) (search reading_symbolic depth 40 fits 9000) refl))

      -- b of order above 0, or b = 0: a·D(q) + b·q has a pole of order at least k, for k > 0
      pub order-above : IsSoundExponential F D η → l ≡ 0 → (k' : ℕ) → k ≡ suc k' → coefficient F B 0 ≡ F.zero → ¬ (coefficient F a 0 ≡ F.zero) → ¬ (coefficient F r 0 ≡ F.zero)
          → Divides F (t ^ (k + l)) side.denominator
      order-above sound e k' ek zB na nr = order-of_top (λ z. FieldLaws.mul-nonzero F (coefficient F W 0) _ nW (FieldLaws.mul-nonzero F (coefficient F a 0) lowest na lowest-nonzero)
          (sym (ap (F.add _) (ap (λ x. F.mul x (coefficient F r 0)) zB ∙ Laws.zero-mul F.ring _) ∙ F.add-zero _) ∙ sym (at_level e) ∙ z))
        where
          lowest-nonzero : ¬ (lowest ≡ F.zero)
          lowest-nonzero z = sound.no_power (coefficient F r 0) k' nr
              (solve (D.derive (coefficient F r 0)) (coefficient F r 0) (of_nat F.ring k) (of_nat F.ring 0) (of_nat F.ring (suc k')) (unfold of_nat in refl) (ap (of_nat F.ring) ek) z)
            where
              solve : (y' y k o k' : A) → o ≡ F.zero → k ≡ k' → F.add (F.add y' (F.mul η (F.mul o y))) (F.neg (F.mul (F.mul η k) y)) ≡ F.zero → y' ≡ F.mul (F.mul k' η) y
              solve y' y k o k' oz kk h = linear F.ring F.one h (linear F.ring (F.neg (F.mul η y)) oz (linear F.ring (F.mul η y) kk (ring F.ring (y' ∷ y ∷ k ∷ o ∷ k' ∷ η ∷ []) (search reading_symbolic depth 40 fits 9000) refl)))
