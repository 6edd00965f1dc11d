-- The degree of a polynomial q with a·D(q) + b·q = c, for Dt = η·t (an exponential) and Dt = η (a logarithm, or the variable x).
use Rattle.std.specs.Prelude.{◌≡◌, ℕ, zero, suc, ◌+◌, ◌≤◌, ◌⊎◌, [], ◌∷◌}
use Rattle.std.proofs.Common.{refl, sym, ap, ap₂, subst, ◌∙◌, arith, inl, inr}
use Rattle.risch_ring.specs.CommRing.{CommRing, Field, Derivation, of_nat, quotient, HasCharacteristicZero}
use Rattle.risch_ring.proofs.Laws as Laws
use Rattle.risch_ring.proofs.Derivations as Derivations
use Rattle.risch_ring.proofs.Expression.{reading_symbolic}
use Rattle.risch_ring.proofs.Solver.{ring, linear}
use Rattle.risch_univariate.specs.Polynomial.{Polynomial, coefficient, constant}
use Rattle.risch_univariate.specs.Degree.{size}
use Rattle.risch_ring.proofs.FieldLaws as FieldLaws
use Rattle.risch_univariate.proofs.Degree as Degree
use Rattle.risch_univariate.proofs.FormalDerivative as FormalDerivative
use Rattle.risch_univariate.proofs.Special as Special
use Rattle.risch_equation_theory.proofs.Monomials as Monomials
use Rattle.risch_equation_theory.proofs.SpecialDenominators as SpecialDenominators
use Rattle.risch_ring.specs.Operators.{operators}
use Rattle.risch_univariate.specs.PolynomialRing.{polynomials}
use Rattle.risch_univariate.proofs.Coefficients.{coefficient-zero, coefficient-add}
use Rattle.risch_equation_theory.specs.Constants.{IsSoundPrimitive, IsSoundExponential}
use Rattle.risch_equation_theory.specs.DegreeBound.{twisted, IsIntegralCandidate}

module _ {A : Type 0} (F : Field A) (char : HasCharacteristicZero F.ring) (D : Derivation F.ring) (η : A) where
  abbrev R : CommRing (Polynomial F)
  R = polynomials F

  open (operators F.ring) use {◌+◌ as ◌+ₖ◌, ◌*◌}

  -- D(y) + n·η·y ≠ 0 for y ≠ 0 and n > 0: y·t^n is no constant
  pub twisted-nonzero : IsSoundExponential F D η → (y : A) (n : ℕ) → ¬ (y ≡ F.zero) → ¬ (twisted F D η y (suc n) ≡ F.zero)
  twisted-nonzero sound y n ny e = sound.no_power (F.inverse y) n (FieldLaws.inverse-nonzero F y ny)
      (FieldLaws.mul_left_cancel F y _ _ ny (solve y (F.inverse y) (D.derive y) (D.derive (F.inverse y)) (of_nat F.ring (suc n)) e
      (sym (D.derive-mul y (F.inverse y)) ∙ ap D.derive (F.mul-inverse y ny) ∙ Derivations.derive-one D)))
    where
      solve : (y i dy di n : A) → dy +ₖ η * (n * y) ≡ F.zero → dy * i +ₖ y * di ≡ F.zero → y * di ≡ y * (n * η * i)
      solve y i dy di n h k = linear F.ring F.one k (linear F.ring (F.neg i) h (ring F.ring (y ∷ i ∷ dy ∷ di ∷ n ∷ η ∷ []) (search reading_symbolic depth 40 fits 9000) refl))

  -- deg b < d - 1 or b = 0: the coefficients at d and d - 1 are 0
  pub low_coefficients : (b : Polynomial F) (d : ℕ) → (suc (size F b) ≤ d) ⊎ (b ≡ R.zero) → (coefficient F b d ≡ F.zero) × (Monomials.coefficient_below F b d ≡ F.zero)
  low_coefficients b d (inl l) = (Degree.below_size F b d (omega (arith, l)), below d l)
    where
      below : (d : ℕ) → suc (size F b) ≤ d → Monomials.coefficient_below F b d ≡ F.zero
      below zero l = absurd (omega (arith, l))
      below (suc n) l = Monomials.coefficient_below-suc F b n ∙ Degree.below_size F b n (omega (arith, l))
  low_coefficients b d (inr e) = (ap (λ z. coefficient F z d) e ∙ coefficient-zero F d, ap (λ z. Monomials.coefficient_below F z d) e ∙ below d)
    where
      below : (d : ℕ) → Monomials.coefficient_below F R.zero d ≡ F.zero
      below zero = Monomials.coefficient_below-zero F R.zero
      below (suc n) = Monomials.coefficient_below-suc F R.zero n ∙ coefficient-zero F n

  module _ (a b q c : Polynomial F) (d N : ℕ) (size_a : size F a ≤ suc d) (size_b : size F b ≤ suc d) (size_q : size F q ≡ suc N) where
    leading-nonzero : ¬ (coefficient F q N ≡ F.zero)
    leading-nonzero = Degree.leading-nonzero F q N size_q

    degree_of_coefficient : (i : ℕ) {x : A} → coefficient F c i ≡ x → ¬ (x ≡ F.zero) → suc i ≤ size F c
    degree_of_coefficient i e n = Degree.size-ge F c i (λ z. n (sym e ∙ z))

    drop_left : (x y z : A) → x ≡ F.zero → x * y +ₖ z ≡ z
    drop_left x y z e = ap (λ w. w * y +ₖ z) e ∙ ap (λ w. w +ₖ z) (Laws.zero-mul F.ring y) ∙ Laws.zero-add F.ring z

    drop_right : (x y z : A) → x ≡ F.zero → z +ₖ x * y ≡ z
    drop_right x y z e = F.add_comm z (x * y) ∙ drop_left x y z e

    -- ---- Dt = η·t

    module _ (equation : c ≡ R.add (R.mul a (Special.exponential F D η q)) (R.mul b q)) where
      -- c_(d + N) = a_d·(D(y) + N·η·y) + b_d·y with y = q_N
      pub top-exponential : coefficient F c (d + N) ≡ coefficient F a d * twisted F D η (coefficient F q N) N +ₖ coefficient F b d * coefficient F q N
      top-exponential =
          ap (λ z. coefficient F z (d + N)) equation ∙ coefficient-add F (R.mul a (Special.exponential F D η q)) (R.mul b q) (d + N)
          ∙ ap₂ F.add (Degree.coefficient-mul-top F a (Special.exponential F D η q) d N size_a (let l = Special.size-exponential-le F D η q in omega (arith, l, size_q))
          ∙ ap (F.mul (coefficient F a d)) (Special.coefficient-exponential F D η q N))
          (Degree.coefficient-mul-top F b q d N size_b (omega (arith, size_q)))

      -- deg b = d > deg a: deg c ≥ d + N
      pub bound-exponential-right : size F b ≡ suc d → size F a ≤ d → suc (d + N) ≤ size F c
      bound-exponential-right sb sa = degree_of_coefficient (d + N)
          (top-exponential ∙ drop_left _ _ _ (Degree.below_size F a d sa)) (FieldLaws.mul-nonzero F _ _ (Degree.leading-nonzero F b d sb) leading-nonzero)

      -- deg a = d > deg b: N = 0 or deg c ≥ d + N
      pub bound-exponential-left : IsSoundExponential F D η → size F a ≡ suc d → size F b ≤ d → (N ≡ 0) ⊎ (suc (d + N) ≤ size F c)
      bound-exponential-left sound sa sb = go N refl
        where
          go : (n : ℕ) → N ≡ n → (N ≡ 0) ⊎ (suc (d + N) ≤ size F c)
          go zero e = inl e
          go (suc n) e = inr (degree_of_coefficient (d + N)
              (top-exponential ∙ drop_right _ _ _ (Degree.below_size F b d sb))
              (FieldLaws.mul-nonzero F _ _ (Degree.leading-nonzero F a d sa) (subst (λ z. ¬ (twisted F D η (coefficient F q N) z ≡ F.zero)) (sym e) (twisted-nonzero sound (coefficient F q N) n leading-nonzero))))

      -- deg a = deg b = d: deg c ≥ d + N, or -lc(b)/lc(a) = D(y)/y + N·η
      pub bound-exponential-cancel : size F a ≡ suc d
          → (suc (d + N) ≤ size F c) ⊎ (F.neg (quotient F (coefficient F b d) (coefficient F a d)) ≡ quotient F (D.derive (coefficient F q N)) (coefficient F q N) +ₖ of_nat F.ring N * η)
      bound-exponential-cancel sa = elim (F.is_zero (coefficient F a d * twisted F D η (coefficient F q N) N +ₖ coefficient F b d * coefficient F q N)) [
        | yes e ↦ inr (solve (coefficient F a d) (F.inverse (coefficient F a d)) (coefficient F b d) (coefficient F q N) (F.inverse (coefficient F q N)) (D.derive (coefficient F q N)) (of_nat F.ring N)
            (F.mul-inverse _ (Degree.leading-nonzero F a d sa)) (F.mul-inverse _ leading-nonzero) e)
        | no n ↦ inl (degree_of_coefficient (d + N) top-exponential n)
      ]
        where
          -- (a·(y' + η·(n·y)) + b·y)·i·j = (y'·j + η·n) + b·i for a·i = 1 and y·j = 1
          solve : (a i b y j y' n : A) → a * i ≡ F.one → y * j ≡ F.one → a * (y' +ₖ η * (n * y)) +ₖ b * y ≡ F.zero → F.neg (b * i) ≡ y' * j +ₖ n * η
          solve a i b y j y' n ai yj h =
              linear F.ring (F.neg (i * j)) h
              (linear F.ring (j * (y' +ₖ η * (n * y))) ai (linear F.ring (b * i +ₖ η * n) yj
              (ring F.ring (a ∷ i ∷ b ∷ y ∷ j ∷ y' ∷ n ∷ η ∷ []) (search reading_symbolic depth 40 fits 9000) refl)))

    -- ---- Dt = η

    module _ (equation : c ≡ R.add (R.mul a (Special.primitive F D η q)) (R.mul b q)) where
      size_derivative : size F (Special.primitive F D η q) ≤ suc N
      size_derivative = let l = Degree.size-constant-le F η in
          FormalDerivative.size-derive_polynomial-le F D (constant F η) q (suc N) (omega (arith, size_q)) (omega (arith, size_q, l))

      derivative_top : coefficient F (Special.primitive F D η q) N ≡ D.derive (coefficient F q N)
      derivative_top =
          Special.coefficient-primitive F D η q N
          ∙ ap (λ z. D.derive (coefficient F q N) +ₖ η * (of_nat F.ring (suc N) * z)) (Degree.below_size F q (suc N) (omega (arith, size_q)))
          ∙ ap (F.add (D.derive (coefficient F q N))) (ap (F.mul η) (Laws.mul-zero F.ring (of_nat F.ring (suc N))) ∙ Laws.mul-zero F.ring η) ∙ F.add-zero (D.derive (coefficient F q N))

      -- c_(d + N) = a_d·D(y) + b_d·y with y = q_N
      pub top-primitive : coefficient F c (d + N) ≡ coefficient F a d * D.derive (coefficient F q N) +ₖ coefficient F b d * coefficient F q N
      top-primitive =
          ap (λ z. coefficient F z (d + N)) equation ∙ coefficient-add F (R.mul a (Special.primitive F D η q)) (R.mul b q) (d + N)
          ∙ ap₂ F.add (Degree.coefficient-mul-top F a (Special.primitive F D η q) d N size_a size_derivative ∙ ap (F.mul (coefficient F a d)) derivative_top)
          (Degree.coefficient-mul-top F b q d N size_b (omega (arith, size_q)))

      -- c_(d + N - 1) = a_d·(D(w) + N·η·y) + a_(d - 1)·D(y) + (b_d·w + b_(d - 1)·y) with w = q_(N - 1)
      pub second-primitive : (n : ℕ) → N ≡ suc n → coefficient F c (d + n)
          ≡ coefficient F a d * (D.derive (coefficient F q n) +ₖ η * (of_nat F.ring N * coefficient F q N)) +ₖ Monomials.coefficient_below F a d * D.derive (coefficient F q N)
          +ₖ (coefficient F b d * coefficient F q n +ₖ Monomials.coefficient_below F b d * coefficient F q N)
      second-primitive n e =
          ap (λ z. coefficient F z (d + n)) equation ∙ coefficient-add F (R.mul a (Special.primitive F D η q)) (R.mul b q) (d + n)
          ∙ ap₂ F.add
          (Monomials.coefficient-mul-second F a (Special.primitive F D η q) d n size_a (let l = size_derivative in omega (arith, l, e))
          ∙ ap₂ (λ x z. coefficient F a d * x +ₖ Monomials.coefficient_below F a d * z)
          (Special.coefficient-primitive F D η q n ∙ ap (λ z. D.derive (coefficient F q n) +ₖ η * (of_nat F.ring z * coefficient F q z)) (sym e))
          (ap (coefficient F (Special.primitive F D η q)) (sym e) ∙ derivative_top))
          (Monomials.coefficient-mul-second F b q d n size_b (omega (arith, size_q, e)) ∙ ap (λ z. coefficient F b d * coefficient F q n +ₖ Monomials.coefficient_below F b d * coefficient F q z) (sym e))

      -- deg b = d > deg a: deg c ≥ d + N
      pub bound-primitive-right : size F b ≡ suc d → size F a ≤ d → suc (d + N) ≤ size F c
      bound-primitive-right sb sa = degree_of_coefficient (d + N)
          (top-primitive ∙ drop_left _ _ _ (Degree.below_size F a d sa)) (FieldLaws.mul-nonzero F _ _ (Degree.leading-nonzero F b d sb) leading-nonzero)

      -- the coefficient at d + N - 1, where D(y) = 0 and b_d = 0
      second_constant : (n : ℕ) → N ≡ suc n → D.derive (coefficient F q N) ≡ F.zero → coefficient F b d ≡ F.zero → coefficient F c (d + n)
          ≡ coefficient F a d * (D.derive (coefficient F q n) +ₖ η * (of_nat F.ring N * coefficient F q N)) +ₖ Monomials.coefficient_below F b d * coefficient F q N
      second_constant n e dy bd =
          second-primitive n e
          ∙ ap₂ F.add (ap (F.add _) (ap (F.mul (Monomials.coefficient_below F a d)) dy ∙ Laws.mul-zero F.ring _) ∙ F.add-zero _) (drop_left (coefficient F b d) (coefficient F q n) _ bd)

      -- deg a = d and b_d = b_(d - 1) = 0, that is deg b < d - 1 or b = 0: N = 0 or deg c ≥ d + N - 1
      pub bound-primitive-left : IsSoundPrimitive F D η → size F a ≡ suc d → coefficient F b d ≡ F.zero → Monomials.coefficient_below F b d ≡ F.zero → (N ≡ 0) ⊎ (d + N ≤ size F c)
      bound-primitive-left sound sa bd be = go N refl
        where
          go : (n : ℕ) → N ≡ n → (N ≡ 0) ⊎ (d + N ≤ size F c)
          go zero e = inl e
          go (suc n) e = inr (elim (F.is_zero (D.derive (coefficient F q N))) [
            | yes dy ↦
                let l = degree_of_coefficient (d + n) (second_constant n e dy bd ∙ drop_right _ _ _ be)
                (FieldLaws.mul-nonzero F _ _ (Degree.leading-nonzero F a d sa)
                (λ z. sound.no_integral _ (SpecialDenominators.integral_of_zero F char D η (coefficient F q n) (coefficient F q N) n leading-nonzero dy
                (ap (λ k. D.derive (coefficient F q n) +ₖ η * (of_nat F.ring k * coefficient F q N)) (sym e) ∙ z)))) in
                omega (arith, l, e)
            | no dy ↦
                let l = degree_of_coefficient (d + N) (top-primitive ∙ drop_right _ _ _ bd) (FieldLaws.mul-nonzero F _ _ (Degree.leading-nonzero F a d sa) dy) in omega (arith, l)
          ])

      -- D(w·j) = (D(w)·y - w·D(y))·j², for y·j = 1
      derive_ratio : (w y : A) → ¬ (y ≡ F.zero) → D.derive (w * F.inverse y) ≡ (D.derive w * y +ₖ F.neg (w * D.derive y)) * (F.inverse y * F.inverse y)
      derive_ratio w y n = D.derive-mul w (F.inverse y)
          ∙ solve (F.inverse y) (D.derive y) (D.derive (F.inverse y)) (F.mul-inverse y n) (sym (D.derive-mul y (F.inverse y)) ∙ ap D.derive (F.mul-inverse y n) ∙ Derivations.derive-one D)
        where
          solve : (j y' j' : A) → y * j ≡ F.one → y' * j +ₖ y * j' ≡ F.zero → D.derive w * j +ₖ w * j' ≡ (D.derive w * y +ₖ F.neg (w * y')) * (j * j)
          solve j y' j' h k = linear F.ring (w * j) k (linear F.ring (F.neg (D.derive w * j +ₖ w * j')) h (ring F.ring (w ∷ D.derive w ∷ y ∷ j ∷ y' ∷ j' ∷ []) (search reading_symbolic depth 40 fits 9000) refl))

      -- deg a = d and deg b = d - 1: N = 0, or deg c ≥ d + N - 1, or -lc(b)/lc(a) = D(v) + N·η
      pub bound-primitive-below : size F a ≡ suc d → coefficient F b d ≡ F.zero
          → (N ≡ 0) ⊎ ((d + N ≤ size F c) ⊎ IsIntegralCandidate F D η N (F.neg (quotient F (Monomials.coefficient_below F b d) (coefficient F a d))))
      bound-primitive-below sa bd = go N refl
        where
          solve : (a i b y j w' n v' : A) → a * i ≡ F.one → y * j ≡ F.one → a * (w' +ₖ η * (n * y)) +ₖ b * y ≡ F.zero → v' ≡ w' * y * (j * j) → F.neg (b * i) ≡ v' +ₖ n * η
          solve a i b y j w' n v' ai yj h k =
              linear F.ring (F.neg (i * j)) h
              (linear F.ring (j * (w' +ₖ η * (n * y))) ai (linear F.ring (F.neg (w' * j) +ₖ b * i +ₖ η * n) yj (linear F.ring (F.neg F.one) k
              (ring F.ring (a ∷ i ∷ b ∷ y ∷ j ∷ w' ∷ n ∷ v' ∷ η ∷ []) (search reading_symbolic depth 40 fits 9000) refl))))

          go : (n : ℕ) → N ≡ n → (N ≡ 0) ⊎ ((d + N ≤ size F c) ⊎ IsIntegralCandidate F D η N (F.neg (quotient F (Monomials.coefficient_below F b d) (coefficient F a d))))
          go zero e = inl e
          go (suc n) e = inr (elim (F.is_zero (D.derive (coefficient F q N))) [
            | no dy ↦
                inl (let l = degree_of_coefficient (d + N) (top-primitive ∙ drop_right _ _ _ bd) (FieldLaws.mul-nonzero F _ _ (Degree.leading-nonzero F a d sa) dy) in omega (arith, l))
            | yes dy ↦ elim (F.is_zero (coefficient F a d * (D.derive (coefficient F q n) +ₖ η * (of_nat F.ring N * coefficient F q N)) +ₖ Monomials.coefficient_below F b d * coefficient F q N)) [
              | no k ↦ inl (let l = degree_of_coefficient (d + n) (second_constant n e dy bd) k in omega (arith, l, e))
              | yes k ↦ inr (record {
                integral = coefficient F q n * F.inverse (coefficient F q N);
                equation = solve (coefficient F a d) (F.inverse (coefficient F a d)) (Monomials.coefficient_below F b d) (coefficient F q N) (F.inverse (coefficient F q N)) (D.derive (coefficient F q n)) (of_nat F.ring N) _
                    (F.mul-inverse _ (Degree.leading-nonzero F a d sa)) (F.mul-inverse _ leading-nonzero) k
                    (derive_ratio (coefficient F q n) (coefficient F q N) leading-nonzero
                    ∙ ap (λ z. z * (F.inverse (coefficient F q N) * F.inverse (coefficient F q N)))
                    (ap (λ z. D.derive (coefficient F q n) * coefficient F q N +ₖ F.neg (coefficient F q n * z)) dy ∙ no_term (coefficient F q n) (D.derive (coefficient F q n) * coefficient F q N)));
              })
            ]
          ])
            where
              no_term : (w x : A) → x +ₖ F.neg (w * F.zero) ≡ x
              no_term w x = ap (F.add x) (ap F.neg (Laws.mul-zero F.ring w) ∙ Laws.neg-zero F.ring) ∙ F.add-zero x

      -- deg a = deg b = d: deg c ≥ d + N, or y solves D(y) + (lc(b)/lc(a))·y = 0
      pub bound-primitive-top : (suc (d + N) ≤ size F c) ⊎ (coefficient F a d * D.derive (coefficient F q N) +ₖ coefficient F b d * coefficient F q N ≡ F.zero)
      bound-primitive-top = elim (F.is_zero (coefficient F a d * D.derive (coefficient F q N) +ₖ coefficient F b d * coefficient F q N)) [
        | yes e ↦ inr e
        | no n ↦ inl (degree_of_coefficient (d + N) top-primitive n)
      ]

      -- deg a = deg b = d and a solution z ≠ 0 of a_d·D(z) + b_d·z = 0: N = 0, or deg c ≥ d + N - 1, or -(a_(d - 1)·D(z) + b_(d - 1)·z)/(z·a_d) = D(v) + N·η
      pub bound-primitive-cancel : size F a ≡ suc d → (z : A) → ¬ (z ≡ F.zero) → coefficient F a d * D.derive z +ₖ coefficient F b d * z ≡ F.zero
          → (N ≡ 0) ⊎ ((d + N ≤ size F c) ⊎ IsIntegralCandidate F D η N (F.neg (quotient F (Monomials.coefficient_below F a d * D.derive z +ₖ Monomials.coefficient_below F b d * z) (z * coefficient F a d))))
      bound-primitive-cancel sa z nz hz = go N refl
        where
          nza : ¬ (z * coefficient F a d ≡ F.zero)
          nza = FieldLaws.mul-nonzero F z (coefficient F a d) nz (Degree.leading-nonzero F a d sa)

          Goal : Type 0
          Goal = (N ≡ 0) ⊎ ((d + N ≤ size F c) ⊎ IsIntegralCandidate F D η N (F.neg (quotient F (Monomials.coefficient_below F a d * D.derive z +ₖ Monomials.coefficient_below F b d * z) (z * coefficient F a d))))

          -- multiplied by z·a·y·y, with a·y' + b·y = 0 and a·z' + b·z = 0
          identity : (a b a₁ b₁ y y' w w' z z' n : A) → a * y' +ₖ b * y ≡ F.zero → a * z' +ₖ b * z ≡ F.zero
              → a * (w' +ₖ η * (n * y)) +ₖ a₁ * y' +ₖ (b * w +ₖ b₁ * y) ≡ F.zero
              → y * y * F.neg (a₁ * z' +ₖ b₁ * z) * a ≡ z * a * (w' * y +ₖ F.neg (w * y') +ₖ n * η * (y * y)) * a
          identity a b a₁ b₁ y y' w w' z z' n h k l =
              linear F.ring (z * w * a +ₖ y * z * a₁) h (linear F.ring (F.neg (y * y * a₁)) k (linear F.ring (F.neg (y * z * a)) l
              (ring F.ring (a ∷ b ∷ a₁ ∷ b₁ ∷ y ∷ y' ∷ w ∷ w' ∷ z ∷ z' ∷ n ∷ η ∷ []) (search reading_symbolic depth 40 fits 9000) refl)))

          -- -(x·i) = (u·(j·j)) + m, where y·y·(-x)·a = z·a·(u + m·(y·y))·a, z·a·i = 1 and y·j = 1
          divide : (x i u j m y za : A) → za * i ≡ F.one → y * j ≡ F.one → y * y * F.neg x ≡ za * (u +ₖ m * (y * y)) → F.neg (x * i) ≡ u * (j * j) +ₖ m
          divide x i u j m y za zi yj h =
              linear F.ring (i * j * j) h
              (linear F.ring (j * j * (u +ₖ m * (y * y))) zi (linear F.ring ((y * j +ₖ F.one) * (m +ₖ x * i)) yj
              (ring F.ring (x ∷ i ∷ u ∷ j ∷ m ∷ y ∷ za ∷ []) (search reading_symbolic depth 40 fits 9000) refl)))

          go : (n : ℕ) → N ≡ n → Goal
          go zero e = inl e
          go (suc n) e = inr (elim (F.is_zero (coefficient F a d * D.derive (coefficient F q N) +ₖ coefficient F b d * coefficient F q N)) [
            | no k ↦ inl (let l = degree_of_coefficient (d + N) top-primitive k in omega (arith, l))
            | yes k ↦ elim (F.is_zero (coefficient F a d * (D.derive (coefficient F q n) +ₖ η * (of_nat F.ring N * coefficient F q N)) +ₖ Monomials.coefficient_below F a d * D.derive (coefficient F q N)
                +ₖ (coefficient F b d * coefficient F q n +ₖ Monomials.coefficient_below F b d * coefficient F q N))) [
                  | no m ↦ inl (let l = degree_of_coefficient (d + n) (second-primitive n e) m in omega (arith, l, e))
                  | yes m ↦ inr (record {
                    integral = coefficient F q n * F.inverse (coefficient F q N);
                    equation =
                        divide (Monomials.coefficient_below F a d * D.derive z +ₖ Monomials.coefficient_below F b d * z) (F.inverse (z * coefficient F a d))
                        (D.derive (coefficient F q n) * coefficient F q N +ₖ F.neg (coefficient F q n * D.derive (coefficient F q N))) (F.inverse (coefficient F q N)) (of_nat F.ring N * η) (coefficient F q N) (z * coefficient F a d)
                        (F.mul-inverse _ nza) (F.mul-inverse _ leading-nonzero)
                        (FieldLaws.mul_left_cancel F (coefficient F a d) _ _ (Degree.leading-nonzero F a d sa)
                        (F.mul_comm _ _ ∙ identity (coefficient F a d) (coefficient F b d) (Monomials.coefficient_below F a d) (Monomials.coefficient_below F b d)
                        (coefficient F q N) (D.derive (coefficient F q N)) (coefficient F q n) (D.derive (coefficient F q n)) z (D.derive z) (of_nat F.ring N) k hz m ∙ F.mul_comm _ _))
                        ∙ ap (λ x. x +ₖ of_nat F.ring N * η) (sym (derive_ratio (coefficient F q n) (coefficient F q N) leading-nonzero));
                  })
                ]
          ])
