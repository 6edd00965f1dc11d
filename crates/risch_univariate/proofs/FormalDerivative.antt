-- ∂ = d/dt by coefficients, its degree in characteristic 0, and D = κ_D + Dt·∂, where κ_D applies D to the coefficients.
use Rattle.std.specs.Prelude.{◌≡◌, ℕ, zero, suc, pred, ◌+◌, ◌≤◌}
use Rattle.std.proofs.Common.{refl, sym, ap, ap₂, subst, ◌∙◌, arith}
use Rattle.risch_ring.specs.CommRing.{CommRing, Field, Derivation, of_nat, HasCharacteristicZero}
use Rattle.risch_ring.proofs.Laws as Laws
use Rattle.risch_univariate.specs.Polynomial.{Polynomial, constant, variable, coefficient}
use Rattle.risch_univariate.specs.Degree.{size}
use Rattle.risch_ring.proofs.FieldLaws as FieldLaws
use Rattle.risch_univariate.proofs.Degree as Degree
use Rattle.risch_univariate.proofs.Derivation as Derivation
use Rattle.risch_ring.proofs.Derivations as Derivations
use Rattle.risch_univariate.proofs.Identities as Identities
use Rattle.risch_univariate.specs.PolynomialRing.{polynomials, horner}
use Rattle.risch_univariate.proofs.PolynomialInduction.{polynomial_induction}
use Rattle.risch_univariate.proofs.Coefficients.{coefficient-zero, coefficient-add, coefficient-variable_mul-zero, coefficient-variable_mul-suc, coefficient-horner-zero, coefficient-horner-suc}

module _ {A : Type 0} (F : Field A) where
  abbrev R : CommRing (Polynomial F)
  R = polynomials F

  -- ∂p
  abbrev pub formal_derivative : Polynomial F → Polynomial F
  formal_derivative = Derivation.derive_polynomial F (Derivations.zero_derivation F.ring) R.one

  -- ∂(a + t·p) = p + t·∂p
  pub formal_derivative-horner : (a : A) (p : Polynomial F) → formal_derivative (horner F a p) ≡ R.add p (R.mul (variable F) (formal_derivative p))
  formal_derivative-horner a p =
      Derivation.derive_polynomial-horner F (Derivations.zero_derivation F.ring) R.one a p
      ∙ ap₂ R.add (Degree.constant-zero F) (ap (λ z. R.add z (R.mul (variable F) (formal_derivative p))) (Laws.one-mul R p))
      ∙ Laws.zero-add R (R.add p (R.mul (variable F) (formal_derivative p)))

  -- the coefficient of t ^ i in ∂p is (i + 1)·p_(i + 1)
  pub coefficient-formal_derivative : (p : Polynomial F) (i : ℕ)
      → coefficient F (formal_derivative p) i ≡ F.mul (of_nat F.ring (suc i)) (coefficient F p (suc i))
  coefficient-formal_derivative = polynomial_induction F
      (λ p. (i : ℕ) → coefficient F (formal_derivative p) i ≡ F.mul (of_nat F.ring (suc i)) (coefficient F p (suc i)))
      (λ i. ap (λ z. coefficient F z i) (Derivation.derive_polynomial-zero F (Derivations.zero_derivation F.ring) R.one) ∙ coefficient-zero F i
      ∙ sym (ap (F.mul (of_nat F.ring (suc i))) (coefficient-zero F (suc i)) ∙ Laws.mul-zero F.ring (of_nat F.ring (suc i))))
      step
    where
      one_is : of_nat F.ring 1 ≡ F.one
      one_is = unfold of_nat in F.add-zero F.one

      next_is : (i : ℕ) → of_nat F.ring (suc (suc i)) ≡ F.add F.one (of_nat F.ring (suc i))
      next_is i = unfold of_nat in refl

      step : (a : A) (p : Polynomial F) → ((i : ℕ) → coefficient F (formal_derivative p) i ≡ F.mul (of_nat F.ring (suc i)) (coefficient F p (suc i)))
          → (i : ℕ) → coefficient F (formal_derivative (horner F a p)) i ≡ F.mul (of_nat F.ring (suc i)) (coefficient F (horner F a p) (suc i))
      step a p ih zero =
          ap (λ z. coefficient F z 0) (formal_derivative-horner a p) ∙ coefficient-add F p (R.mul (variable F) (formal_derivative p)) 0
          ∙ ap (F.add (coefficient F p 0)) (coefficient-variable_mul-zero F (formal_derivative p)) ∙ F.add-zero (coefficient F p 0)
          ∙ sym (ap₂ F.mul one_is (coefficient-horner-suc F a p 0) ∙ Laws.one-mul F.ring (coefficient F p 0))
      step a p ih (suc i) =
          ap (λ z. coefficient F z (suc i)) (formal_derivative-horner a p) ∙ coefficient-add F p (R.mul (variable F) (formal_derivative p)) (suc i)
          ∙ ap (F.add (coefficient F p (suc i))) (coefficient-variable_mul-suc F (formal_derivative p) i ∙ ih i)
          ∙ sym (ap₂ F.mul (next_is i) (coefficient-horner-suc F a p (suc i))
          ∙ Laws.add-mul F.ring F.one (of_nat F.ring (suc i)) (coefficient F p (suc i))
          ∙ ap (λ z. F.add z (F.mul (of_nat F.ring (suc i)) (coefficient F p (suc i)))) (Laws.one-mul F.ring (coefficient F p (suc i))))

  -- deg ∂p ≤ deg p - 1
  pub size-formal_derivative-le : (p : Polynomial F) → size F (formal_derivative p) ≤ pred (size F p)
  size-formal_derivative-le p = Degree.size-le F (formal_derivative p) (pred (size F p)) λ i l.
      coefficient-formal_derivative p i ∙ ap (F.mul (of_nat F.ring (suc i))) (Degree.below_size F p (suc i) (omega (arith, l)))
      ∙ Laws.mul-zero F.ring (of_nat F.ring (suc i))

  -- deg ∂p = deg p - 1 in characteristic 0
  pub size-formal_derivative : HasCharacteristicZero F.ring → (p : Polynomial F) → size F (formal_derivative p) ≡ pred (size F p)
  size-formal_derivative char p = go (size F p) refl (size-formal_derivative-le p)
    where
      go : (n : ℕ) → size F p ≡ n → size F (formal_derivative p) ≤ pred (size F p) → size F (formal_derivative p) ≡ pred (size F p)
      go zero e l = omega (arith, e, l)
      go (suc zero) e l = omega (arith, e, l)
      go (suc (suc n)) e l =
          let k = Degree.size-ge F (formal_derivative p) n (λ z.
          FieldLaws.mul-nonzero F (of_nat F.ring (suc n)) (coefficient F p (suc n)) (char n) (Degree.leading-nonzero F p (suc n) e) (sym (coefficient-formal_derivative p n) ∙ z)) in
          omega (arith, e, l, k)

  -- κ_D applies D to each coefficient
  abbrev pub coefficientwise : Derivation F.ring → Polynomial F → Polynomial F
  coefficientwise D = Derivation.derive_polynomial F D R.zero

  -- κ_D(a + t·p) = D(a) + t·κ_D(p)
  pub coefficientwise-horner : (D : Derivation F.ring) (a : A) (p : Polynomial F) → coefficientwise D (horner F a p) ≡ horner F (D.derive a) (coefficientwise D p)
  coefficientwise-horner D a p =
      Derivation.derive_polynomial-horner F D R.zero a p
      ∙ ap (R.add (constant F (D.derive a))) (ap (λ z. R.add z (R.mul (variable F) (coefficientwise D p))) (Laws.zero-mul R p) ∙ Laws.zero-add R (R.mul (variable F) (coefficientwise D p)))

  -- (κ_D p)_i = D(p_i)
  pub coefficient-coefficientwise : (D : Derivation F.ring) (p : Polynomial F) (i : ℕ) → coefficient F (coefficientwise D p) i ≡ D.derive (coefficient F p i)
  coefficient-coefficientwise D = polynomial_induction F
      (λ p. (i : ℕ) → coefficient F (coefficientwise D p) i ≡ D.derive (coefficient F p i))
      (λ i. ap (λ z. coefficient F z i) (Derivation.derive_polynomial-zero F D R.zero) ∙ coefficient-zero F i
      ∙ sym (ap D.derive (coefficient-zero F i) ∙ Derivations.derive-zero D))
      step
    where
      step : (a : A) (p : Polynomial F) → ((i : ℕ) → coefficient F (coefficientwise D p) i ≡ D.derive (coefficient F p i))
          → (i : ℕ) → coefficient F (coefficientwise D (horner F a p)) i ≡ D.derive (coefficient F (horner F a p) i)
      step a p ih zero =
          ap (λ z. coefficient F z 0) (coefficientwise-horner D a p) ∙ coefficient-horner-zero F (D.derive a) (coefficientwise D p)
          ∙ ap D.derive (sym (coefficient-horner-zero F a p))
      step a p ih (suc i) =
          ap (λ z. coefficient F z (suc i)) (coefficientwise-horner D a p) ∙ coefficient-horner-suc F (D.derive a) (coefficientwise D p) i
          ∙ ih i ∙ ap D.derive (sym (coefficient-horner-suc F a p i))

  -- deg κ_D(p) ≤ deg p
  pub size-coefficientwise-le : (D : Derivation F.ring) (p : Polynomial F) → size F (coefficientwise D p) ≤ size F p
  size-coefficientwise-le D p = Degree.size-le F (coefficientwise D p) (size F p) λ i l.
      coefficient-coefficientwise D p i ∙ ap D.derive (Degree.below_size F p i l) ∙ Derivations.derive-zero D

  -- D(p) = κ_D(p) + Dt·∂p
  pub derive_polynomial-split : (D : Derivation F.ring) (w p : Polynomial F)
      → Derivation.derive_polynomial F D w p ≡ R.add (coefficientwise D p) (R.mul w (formal_derivative p))
  derive_polynomial-split D w = polynomial_induction F
      (λ p. Derivation.derive_polynomial F D w p ≡ R.add (coefficientwise D p) (R.mul w (formal_derivative p)))
      (Derivation.derive_polynomial-zero F D w
      ∙ sym (ap₂ R.add (Derivation.derive_polynomial-zero F D R.zero)
      (ap (R.mul w) (Derivation.derive_polynomial-zero F (Derivations.zero_derivation F.ring) R.one) ∙ Laws.mul-zero R w) ∙ R.add-zero R.zero))
      (λ a p ih.
      Derivation.derive_polynomial-horner F D w a p
      ∙ ap (λ z. R.add (constant F (D.derive a)) (R.add (R.mul w p) (R.mul (variable F) z))) ih
      ∙ Identities.split_identity R (constant F (D.derive a)) w p (variable F) (coefficientwise D p) (formal_derivative p)
      ∙ ap₂ (λ y z. R.add y (R.mul w z)) (sym (coefficientwise-horner D a p)) (sym (formal_derivative-horner a p)))

  -- deg D(p) ≤ max (deg p) (deg p - 1 + deg Dt)
  pub size-derive_polynomial-le : (D : Derivation F.ring) (w p : Polynomial F) (n : ℕ) → size F p ≤ n → size F p + size F w ≤ n + 2
      → size F (Derivation.derive_polynomial F D w p) ≤ n
  size-derive_polynomial-le D w p n h k =
      subst (λ z. size F z ≤ n) (sym (derive_polynomial-split D w p))
      (Degree.size-add-le F (coefficientwise D p) (R.mul w (formal_derivative p)) n
      (let l = size-coefficientwise-le D p in omega (arith, l, h))
      (elim (Degree.dec_zero F (R.mul w (formal_derivative p))) [
        | yes e ↦ let z = ap (size F) e in let s = Degree.size-zero F in omega (arith, z, s)
        | no m ↦
            let nw = Degree.nonzero_of_mul_left F w (formal_derivative p) m in
            let nd = Degree.nonzero_of_mul_right F w (formal_derivative p) m in
            let s = Degree.size-mul-nonzero F w (formal_derivative p) nw nd in
            let l = size-formal_derivative-le p in
            let o = Degree.size_of_nonzero F (formal_derivative p) nd in
            omega (arith, s, l, o, k)
      ]))
