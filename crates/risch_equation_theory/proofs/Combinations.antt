-- Combinations Σ κ_j·x_j of the columns of an equation with constants κ_j: what a step does to every column it does to each combination.
use Rattle.std.specs.Prelude.{◌≡◌, ℕ, suc, ◌≤◌, ◌<◌, ◌-◌, List, [], ◌∷◌}
use Rattle.std.proofs.Common.{refl, sym, ap, ap₂, ◌∙◌, arith}
use Rattle.risch_ring.specs.CommRing.{CommRing, Field, Derivation, sub}
use Rattle.risch_ring.proofs.Laws as Laws
use Rattle.risch_ring.proofs.Derivations as Derivations
use Rattle.risch_univariate.specs.Polynomial.{Polynomial, coefficient, constant}
use Rattle.risch_univariate.specs.Degree.{size}
use Rattle.risch_univariate.specs.Division.{IsCoprime}
use Rattle.risch_univariate.proofs.Degree as Degree
use Rattle.risch_univariate.proofs.Divides as Divides
use Rattle.risch_equation_theory.proofs.Identities as Identities
use Rattle.risch_equation_theory.proofs.SpdeReduction as SpdeReduction
use Rattle.risch_ring.specs.Operators.{operators}
use Rattle.risch_univariate.specs.PolynomialRing.{polynomials}
use Rattle.risch_univariate.proofs.Coefficients.{coefficient-zero, coefficient-add, coefficient-constant_mul}
use Rattle.risch_equation_theory.specs.Equation.{Solves}
use Rattle.risch_equation_theory.specs.Combination.{AreConstants, total, total_element}

module _ {A : Type 0} (F : Field A) where
  abbrev R : CommRing (Polynomial F)
  R = polynomials F

  open (operators R) use {𝟘, 𝟙, ◌+◌ as ◌+ₚ◌, ◌*◌}

  module _ {C : Type 0} where
    -- Σ over no factors is 0
    pub total_element-nil : (g : C → A) (cs : List C) → total_element F g [] cs ≡ F.zero
    unfolding total_element
    total_element-nil g cs = refl

    -- Σ over no columns is 0
    pub total_element-empty : (g : C → A) (k : A) (ks : List A) → total_element F g (k ∷ ks) [] ≡ F.zero
    unfolding total_element
    total_element-empty g k ks = refl

    -- Σ = κ·g(c) + Σ over the rest
    pub total_element-cons : (g : C → A) (k : A) (ks : List A) (c : C) (cs : List C) → total_element F g (k ∷ ks) (c ∷ cs) ≡ F.add (F.mul k (g c)) (total_element F g ks cs)
    unfolding total_element
    total_element-cons g k ks c cs = refl

    -- equal columns have equal combinations
    pub total-equal : (g h : C → Polynomial F) → ((c : C) → g c ≡ h c) → (ks : List A) (cs : List C) → total F g ks cs ≡ total F h ks cs
    unfolding total
    total-equal g h e [] cs = refl
    total-equal g h e (k ∷ ks) [] = refl
    total-equal g h e (k ∷ ks) (c ∷ cs) = ap₂ (λ x y. constant F k * x +ₚ y) (e c) (total-equal g h e ks cs)

    -- Σ κ_j·(g_j + h_j) = Σ κ_j·g_j + Σ κ_j·h_j
    pub total-add : (g h : C → Polynomial F) (ks : List A) (cs : List C) → total F (λ c. g c +ₚ h c) ks cs ≡ total F g ks cs +ₚ total F h ks cs
    unfolding total
    total-add g h [] cs = sym (R.add-zero 𝟘)
    total-add g h (k ∷ ks) [] = sym (R.add-zero 𝟘)
    total-add g h (k ∷ ks) (c ∷ cs) = ap (R.add (constant F k * (g c +ₚ h c))) (total-add g h ks cs) ∙ Identities.combination_add R (constant F k) (g c) (h c) (total F g ks cs) (total F h ks cs)

    -- Σ κ_j·(b·g_j) = b·Σ κ_j·g_j
    pub total-mul : (b : Polynomial F) (g : C → Polynomial F) (ks : List A) (cs : List C) → total F (λ c. b * g c) ks cs ≡ b * total F g ks cs
    unfolding total
    total-mul b g [] cs = sym (Laws.mul-zero R b)
    total-mul b g (k ∷ ks) [] = sym (Laws.mul-zero R b)
    total-mul b g (k ∷ ks) (c ∷ cs) = ap (R.add (constant F k * (b * g c))) (total-mul b g ks cs) ∙ Identities.combination_mul R (constant F k) b (g c) (total F g ks cs)

    -- Σ κ_j·(-g_j) = -Σ κ_j·g_j
    pub total-neg : (g : C → Polynomial F) (ks : List A) (cs : List C) → total F (λ c. R.neg (g c)) ks cs ≡ R.neg (total F g ks cs)
    total-neg g ks cs = Laws.neg_of_add R (total F g ks cs) _ (sym (total-add (λ c. R.neg (g c)) g ks cs) ∙ total-equal _ (λ c. 𝟘 * g c) (λ c. Laws.neg-add R (g c) ∙ sym (Laws.zero-mul R (g c))) ks cs
        ∙ total-mul 𝟘 g ks cs ∙ Laws.zero-mul R (total F g ks cs))

    -- the degree
    pub total-size : (g : C → Polynomial F) (n : ℕ) → ((c : C) → size F (g c) ≤ n) → (ks : List A) (cs : List C) → size F (total F g ks cs) ≤ n
    unfolding total
    total-size g n h [] cs = let o = Degree.size-zero F in omega (arith, o)
    total-size g n h (k ∷ ks) [] = let o = Degree.size-zero F in omega (arith, o)
    total-size g n h (k ∷ ks) (c ∷ cs) = Degree.size-add-le F _ _ n
        (Degree.size-le F (constant F k * g c) n (λ i l. coefficient-constant_mul F k (g c) i ∙ ap (F.mul k) (Degree.below_size F (g c) i (let m = h c in omega (arith, l, m))) ∙ Laws.mul-zero F.ring k))
        (total-size g n h ks cs)

    -- the coefficients
    pub total-coefficient : (g : C → Polynomial F) (i : ℕ) (ks : List A) (cs : List C) → coefficient F (total F g ks cs) i ≡ total_element F (λ c. coefficient F (g c) i) ks cs
    unfolding total total_element
    total-coefficient g i [] cs = coefficient-zero F i
    total-coefficient g i (k ∷ ks) [] = coefficient-zero F i
    total-coefficient g i (k ∷ ks) (c ∷ cs) = coefficient-add F (constant F k * g c) (total F g ks cs) i ∙ ap₂ F.add (coefficient-constant_mul F k (g c) i) (total-coefficient g i ks cs)

    -- D(Σ κ_j·x_j) = Σ κ_j·D(x_j)
    pub total-derive : (D : Derivation R) (g : C → Polynomial F) (ks : List A) (cs : List C) → AreConstants F D ks → total F (λ c. D.derive (g c)) ks cs ≡ D.derive (total F g ks cs)
    unfolding total
    total-derive D g [] cs h = sym (Derivations.derive-zero D)
    total-derive D g (k ∷ ks) [] h = sym (Derivations.derive-zero D)
    total-derive D g (k ∷ ks) (c ∷ cs) h =
        ap (R.add (constant F k * D.derive (g c))) (total-derive D g ks cs h.1)
        ∙ sym (D.derive-add (constant F k * g c) (total F g ks cs)
        ∙ ap (λ z. z +ₚ D.derive (total F g ks cs)) (D.derive-mul (constant F k) (g c) ∙ ap (λ z. z * g c +ₚ constant F k * D.derive (g c)) h.0
        ∙ ap (λ z. z +ₚ constant F k * D.derive (g c)) (Laws.zero-mul R (g c)) ∙ Laws.zero-add R _))

    -- ---- division of the columns by w

    -- each column is x_j = q_j·w + r_j with deg r_j < deg w: a combination is divisible by w just where that of the r_j is 0, and the quotient is that of the q_j
    module _ (w : Polynomial F) (nw : ¬ (w ≡ 𝟘)) (x q r : C → Polynomial F) (division : (c : C) → x c ≡ q c * w +ₚ r c) (smaller : (c : C) → size F (r c) < size F w) where
      total-division : (ks : List A) (cs : List C) → total F x ks cs ≡ total F q ks cs * w +ₚ total F r ks cs
      total-division ks cs =
          total-equal x (λ c. w * q c +ₚ r c) (λ c. division c ∙ ap (λ z. z +ₚ r c) (R.mul_comm (q c) w)) ks cs
          ∙ total-add (λ c. w * q c) r ks cs ∙ ap (λ z. z +ₚ total F r ks cs) (total-mul w q ks cs ∙ R.mul_comm w (total F q ks cs))

      -- w | Σ κ_j·x_j gives Σ κ_j·r_j = 0
      pub remainder-zero : (ks : List A) (cs : List C) (p : Polynomial F) → total F x ks cs ≡ p * w → total F r ks cs ≡ 𝟘
      remainder-zero ks cs p e = elim (Degree.dec_zero F (total F r ks cs)) [
        | yes z ↦ z
        | no n ↦
            let l = total-size r (size F w - 1) (λ c. let k = smaller c in omega (arith, k)) ks cs in
            let d = Divides.size-divides F w (total F r ks cs) (record { cofactor = sub R p (total F q ks cs); equation = Identities.add_mul_cancel R (total F q ks cs) w (total F r ks cs) p (sym (total-division ks cs) ∙ e) }) n in
            let o = Degree.size_of_nonzero F w nw in
            absurd (omega (arith, l, d, o))
      ]

      -- and the quotient is Σ κ_j·q_j
      pub quotient-total : (ks : List A) (cs : List C) (p : Polynomial F) → total F x ks cs ≡ p * w → p ≡ total F q ks cs
      quotient-total ks cs p e = Degree.mul_polynomials_cancel F w p (total F q ks cs) nw
          (R.mul_comm w p ∙ sym e ∙ total-division ks cs ∙ ap (R.add (total F q ks cs * w)) (remainder-zero ks cs p e) ∙ R.add-zero _ ∙ R.mul_comm (total F q ks cs) w)

      -- the other way round
      pub total-of_quotient : (ks : List A) (cs : List C) → total F r ks cs ≡ 𝟘 → total F x ks cs ≡ total F q ks cs * w
      total-of_quotient ks cs e = total-division ks cs ∙ ap (R.add (total F q ks cs * w)) e ∙ R.add-zero _

    -- ---- a step of the reduction

    -- each right side is b·r_j + a·z_j: with the combinations of the r_j and of the z_j - D(r_j) every solution takes the step
    module _ (D : Derivation R) (a b : Polynomial F) (coprime : IsCoprime F a b) (na : ¬ (a ≡ 𝟘)) (right r z : C → Polynomial F)
        (split : (c : C) → b * r c +ₚ a * z c ≡ right c) (ks : List A) (cs : List C) (constants : AreConstants F D ks) where
      split-total : b * total F r ks cs +ₚ a * total F z ks cs ≡ total F right ks cs
      split-total = ap₂ R.add (sym (total-mul b r ks cs)) (sym (total-mul a z ks cs)) ∙ sym (total-add (λ c. b * r c) (λ c. a * z c) ks cs) ∙ total-equal _ right split ks cs

      next-total : sub R (total F z ks cs) (D.derive (total F r ks cs)) ≡ total F (λ c. sub R (z c) (D.derive (r c))) ks cs
      next-total = ap (R.add (total F z ks cs)) (ap R.neg (sym (total-derive D r ks cs constants)) ∙ sym (total-neg (λ c. D.derive (r c)) ks cs)) ∙ sym (total-add z (λ c. R.neg (D.derive (r c))) ks cs)

      -- q = Σ κ_j·r_j + a·s, and s solves the next equation
      pub record IsCombinedStep (q : Polynomial F) : Type 0 where
        pub rest : Polynomial F
        pub equation : q ≡ total F r ks cs +ₚ a * rest
        pub solves : Solves F D a (b +ₚ D.derive a) (total F (λ c. sub R (z c) (D.derive (r c))) ks cs) rest

      -- each solution for a combination of the right sides takes the step
      pub next_of_solution : (q : Polynomial F) → Solves F D a b (total F right ks cs) q → IsCombinedStep q
      next_of_solution q h =
          let s = SpdeReduction.step_of_solution F D a b (total F right ks cs) (total F r ks cs) (total F z ks cs) q coprime na split-total h in
          record { rest = s.rest; equation = s.equation; solves = s.solves ∙ next-total }

      -- and each such s gives a solution
      pub solution_of_next : (q : Polynomial F) → IsCombinedStep q → Solves F D a b (total F right ks cs) q
      solution_of_next q h = SpdeReduction.solution_of_step F D a b (total F right ks cs) (total F r ks cs) (total F z ks cs) q split-total
          (record { rest = h.rest; equation = h.equation; solves = h.solves ∙ sym next-total })

      -- the bound: deg q < n gives deg s < n - deg a, and s = 0 where n ≤ deg a
      pub size-next : ((c : C) → size F (r c) < size F a) → (q : Polynomial F) (n : ℕ) → size F q ≤ n → (h : IsCombinedStep q) → size F h.rest ≤ suc n - size F a
      size-next smaller q n l h = SpdeReduction.size-step F D a b (total F r ks cs) (total F z ks cs) q n l
          (let m = total-size r (size F a - 1) (λ c. let k = smaller c in omega (arith, k)) ks cs in let o = Degree.size_of_nonzero F a na in omega (arith, m, o))
          (record { rest = h.rest; equation = h.equation; solves = h.solves ∙ sym next-total })
