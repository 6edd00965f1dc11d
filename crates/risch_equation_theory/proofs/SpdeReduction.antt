-- One step of the reduction of a·D(q) + b·q = c in K[t] for coprime a and b, and the step by a common divisor of a and b.
use Rattle.std.specs.Prelude.{◌≡◌, ℕ, suc, ◌-◌, ◌≤◌, ◌<◌}
use Rattle.std.proofs.Common.{refl, sym, ap, ap₂, subst, ◌∙◌, arith}
use native.Mathlib.Decide.{dec_le}
use Rattle.risch_ring.specs.CommRing.{CommRing, Field, Derivation, sub}
use Rattle.risch_ring.proofs.Laws as Laws
use Rattle.risch_univariate.specs.Polynomial.{Polynomial}
use Rattle.risch_univariate.specs.Degree.{size}
use Rattle.risch_univariate.specs.Division.{Divides, IsCoprime}
use Rattle.risch_univariate.proofs.Degree as Degree
use Rattle.risch_univariate.proofs.Gcd as Gcd
use Rattle.risch_equation_theory.proofs.Identities as Identities
use Rattle.risch_ring.specs.Operators.{operators}
use Rattle.risch_univariate.specs.PolynomialRing.{polynomials}
use Rattle.risch_equation_theory.specs.Equation.{Solves, IsStep, IsDivided}

module _ {A : Type 0} (F : Field A) (D : Derivation (polynomials F)) where
  abbrev R : CommRing (Polynomial F)
  R = polynomials F

  open (operators R) use {𝟘, 𝟙, ◌+◌ as ◌+ₚ◌, ◌*◌}

  -- D(r + a·s) = D(r) + (D(a)·s + a·D(s))
  derive_sum : (a r s : Polynomial F) → D.derive (r +ₚ a * s) ≡ D.derive r +ₚ (D.derive a * s +ₚ a * D.derive s)
  derive_sum a r s = D.derive-add r (a * s) ∙ ap (R.add (D.derive r)) (D.derive-mul a s)

  -- with b·r + a·z = c every solution is r + a·s
  pub step_of_solution : (a b c r z q : Polynomial F) → IsCoprime F a b → ¬ (a ≡ 𝟘) → b * r +ₚ a * z ≡ c → Solves F D a b c q → IsStep F D a b r z q
  step_of_solution a b c r z q coprime na split h = record {
    rest = s;
    equation = is_sum;
    solves = Degree.mul_polynomials_cancel F a _ _ na (Identities.step_cancel R a b r z (a * D.derive s +ₚ (b +ₚ D.derive a) * s) (D.derive r)
        (sym (Identities.step_equation R a b r z s (D.derive a) (D.derive r) (D.derive s))
        ∙ ap₂ (λ x y. a * x +ₚ b * y) (sym (ap D.derive is_sum ∙ derive_sum a r s)) (sym is_sum) ∙ h ∙ sym split));
  }
    where
      divides : Divides F a (sub R q r)
      divides = Gcd.coprime-divides_of_mul F a b (sub R q r) coprime
          (record { cofactor = sub R z (D.derive q); equation = Identities.step_difference R a b q (D.derive q) r z (h ∙ sym split) })

      s : Polynomial F
      s = divides.cofactor

      is_sum : q ≡ r +ₚ a * s
      is_sum = sym (Laws.neg-add_cancel R q r) ∙ R.add_comm (sub R q r) r ∙ ap (R.add r) (divides.equation ∙ R.mul_comm s a)

  -- and each s gives a solution
  pub solution_of_step : (a b c r z q : Polynomial F) → b * r +ₚ a * z ≡ c → IsStep F D a b r z q → Solves F D a b c q
  solution_of_step a b c r z q split h =
      ap (λ x. a * D.derive x +ₚ b * x) h.equation ∙ ap (λ x. a * x +ₚ b * (r +ₚ a * h.rest)) (derive_sum a r h.rest)
      ∙ Identities.step_equation R a b r z h.rest (D.derive a) (D.derive r) (D.derive h.rest) ∙ ap (λ x. a * x +ₚ (b * r +ₚ a * D.derive r)) h.solves
      ∙ Identities.step_back R a b r z (D.derive r) ∙ split

  -- deg q < n and deg r < deg a: deg s < n - deg a, and s = 0 where n ≤ deg a
  pub size-step : (a b r z q : Polynomial F) (n : ℕ) → size F q ≤ n → size F r < size F a → (h : IsStep F D a b r z q) → size F h.rest ≤ suc n - size F a
  size-step a b r z q n lq lr h = elim (Degree.dec_zero F h.rest) [
    | yes e ↦ let k = ap (size F) e in let o = Degree.size-zero F in omega (arith, k, o)
    | no ns ↦
        let na = Degree.nonzero_of_size F a (omega (arith, lr)) in
        let s = Degree.size-mul-nonzero F a h.rest na ns in
        let o = Degree.size_of_nonzero F h.rest ns in
        elim (dec_le (size F a) n) [
          | yes l ↦ let k = bound n lq (omega (arith, lr, l)) in omega (arith, s, k)
          | no l ↦ let k = bound (size F a - 1) (omega (arith, lq, l)) (omega (arith, lr)) in absurd (omega (arith, s, k, o, lr))
        ]
  ]
    where
      product : a * h.rest ≡ sub R q r
      product = sym (Laws.add-neg_cancel R (a * h.rest) r) ∙ ap (λ x. sub R x r) (R.add_comm (a * h.rest) r ∙ sym h.equation)

      bound : (m : ℕ) → size F q ≤ m → size F r ≤ m → size F (a * h.rest) ≤ m
      bound m lq lr = subst (λ x. size F x ≤ m) (sym product) (Degree.size-sub-le F q r m lq lr)

  -- the other way round, for deg a < n
  pub size-of_step : (a b r z q : Polynomial F) (n : ℕ) → size F a ≤ n → size F r < size F a → (h : IsStep F D a b r z q) → size F h.rest ≤ suc n - size F a → size F q ≤ n
  size-of_step a b r z q n la lr h l = subst (λ x. size F x ≤ n) (sym h.equation) (Degree.size-add-le F r (a * h.rest) n (omega (arith, la, lr)) (elim (Degree.dec_zero F h.rest) [
    | yes e ↦ let k = ap (λ x. size F (a * x)) e in let m = ap (size F) (Laws.mul-zero R a) in let o = Degree.size-zero F in omega (arith, k, m, o)
    | no ns ↦
        let na = Degree.nonzero_of_size F a (omega (arith, lr)) in
        let s = Degree.size-mul-nonzero F a h.rest na ns in
        omega (arith, s, l, la)
  ]))

  -- ---- a common divisor g of a and b

  -- the step by a common divisor
  pub divided_of_solution : (a b c g q : Polynomial F) → Solves F D (a * g) (b * g) c q → IsDivided F D a b c g q
  divided_of_solution a b c g q h = record { right = a * D.derive q +ₚ b * q; equation = sym h ∙ Identities.common_factor R a b g q (D.derive q); solves = refl }

  -- and the other way round
  pub solution_of_divided : (a b c g q : Polynomial F) → IsDivided F D a b c g q → Solves F D (a * g) (b * g) c q
  solution_of_divided a b c g q h = Identities.common_factor R a b g q (D.derive q) ∙ ap (λ x. x * g) h.solves ∙ sym h.equation

  -- the right side of the divided equation is determined
  pub divided-unique : (a b c g q c' : Polynomial F) → ¬ (g ≡ 𝟘) → (h : IsDivided F D a b c g q) → c ≡ c' * g → h.right ≡ c'
  divided-unique a b c g q c' n h e = Degree.mul_polynomials_cancel F g h.right c' n (R.mul_comm g h.right ∙ sym h.equation ∙ e ∙ R.mul_comm c' g)

  -- with the bound below 0 the right side is 0
  pub right-zero : (a b c q : Polynomial F) → size F q ≤ 0 → Solves F D a b c q → c ≡ 𝟘
  right-zero a b c q l h =
      let e = Degree.zero_of_size F q (omega (arith, l)) in
      sym h ∙ ap (λ x. a * D.derive x +ₚ b * x) e ∙ ap₂ (λ x y. a * x +ₚ y) derive_zero (Laws.mul-zero R b) ∙ ap (λ x. x +ₚ 𝟘) (Laws.mul-zero R a) ∙ R.add-zero 𝟘
    where
      derive_zero : D.derive 𝟘 ≡ 𝟘
      derive_zero = Laws.add_right_cancel R (D.derive 𝟘) 𝟘 (D.derive 𝟘) (sym (D.derive-add 𝟘 𝟘) ∙ ap D.derive (R.add-zero 𝟘) ∙ sym (Laws.zero-add R (D.derive 𝟘)))
