-- Special polynomials where Dt is in K (a logarithm, or the variable x) and where Dt = η·t (an exponential).
use Rattle.std.specs.Prelude.{◌≡◌, ℕ, zero, suc, pred, ◌≤◌, ◌<◌}
use Rattle.std.proofs.Common.{sym, ap, ap₂, ◌∙◌, arith}
use native.Mathlib.Decide.{dec_le}
use Rattle.risch_ring.specs.CommRing.{CommRing, Field, Derivation, of_nat}
use Rattle.risch_ring.proofs.Laws as Laws
use Rattle.risch_univariate.specs.Polynomial.{Polynomial, coefficient, constant, variable}
use Rattle.risch_univariate.specs.Degree.{size, degree, IsMonic}
use Rattle.risch_univariate.specs.Division.{Divides}
use Rattle.risch_univariate.proofs.Degree as Degree
use Rattle.risch_univariate.proofs.Divides as Divides
use Rattle.risch_univariate.proofs.Gcd as Gcd
use Rattle.risch_univariate.proofs.Derivation as Derivation
use Rattle.risch_univariate.proofs.FormalDerivative as FormalDerivative
use Rattle.risch_ring.proofs.Derivations as Derivations
use Rattle.risch_univariate.specs.PolynomialRing.{polynomials}
use Rattle.risch_univariate.proofs.Coefficients.{coefficient-add, coefficient-constant_mul, coefficient-variable_mul-zero, coefficient-variable_mul-suc}

module _ {A : Type 0} (F : Field A) (D : Derivation F.ring) (η : A) where
  abbrev R : CommRing (Polynomial F)
  R = polynomials F

  -- D on K[t] with Dt = η
  abbrev pub primitive : Polynomial F → Polynomial F
  primitive = Derivation.derive_polynomial F D (constant F η)

  -- D on K[t] with Dt = η·t
  abbrev pub exponential : Polynomial F → Polynomial F
  exponential = Derivation.derive_polynomial F D (R.mul (constant F η) (variable F))

  -- the coefficients of D(p) for Dt = η: D(p_i) + η·((i + 1)·p_(i + 1))
  pub coefficient-primitive : (p : Polynomial F) (i : ℕ)
      → coefficient F (primitive p) i ≡ F.add (D.derive (coefficient F p i)) (F.mul η (F.mul (of_nat F.ring (suc i)) (coefficient F p (suc i))))
  coefficient-primitive p i =
      ap (λ z. coefficient F z i) (FormalDerivative.derive_polynomial-split F D (constant F η) p)
      ∙ coefficient-add F (FormalDerivative.coefficientwise F D p) (R.mul (constant F η) (FormalDerivative.formal_derivative F p)) i
      ∙ ap₂ F.add (FormalDerivative.coefficient-coefficientwise F D p i)
      (coefficient-constant_mul F η (FormalDerivative.formal_derivative F p) i ∙ ap (F.mul η) (FormalDerivative.coefficient-formal_derivative F p i))

  -- the coefficients of D(p) for Dt = η·t: D(p_i) + η·(i·p_i)
  pub coefficient-exponential : (p : Polynomial F) (i : ℕ)
      → coefficient F (exponential p) i ≡ F.add (D.derive (coefficient F p i)) (F.mul η (F.mul (of_nat F.ring i) (coefficient F p i)))
  coefficient-exponential p i =
      ap (λ z. coefficient F z i) (FormalDerivative.derive_polynomial-split F D (R.mul (constant F η) (variable F)) p)
      ∙ coefficient-add F (FormalDerivative.coefficientwise F D p) (R.mul (R.mul (constant F η) (variable F)) (FormalDerivative.formal_derivative F p)) i
      ∙ ap₂ F.add (FormalDerivative.coefficient-coefficientwise F D p i)
      (ap (λ z. coefficient F z i) (R.mul_assoc (constant F η) (variable F) (FormalDerivative.formal_derivative F p))
      ∙ coefficient-constant_mul F η (R.mul (variable F) (FormalDerivative.formal_derivative F p)) i ∙ ap (F.mul η) (shifted i))
    where
      shifted : (i : ℕ) → coefficient F (R.mul (variable F) (FormalDerivative.formal_derivative F p)) i ≡ F.mul (of_nat F.ring i) (coefficient F p i)
      shifted zero = coefficient-variable_mul-zero F (FormalDerivative.formal_derivative F p) ∙ sym (unfold of_nat in Laws.zero-mul F.ring (coefficient F p 0))
      shifted (suc i) = coefficient-variable_mul-suc F (FormalDerivative.formal_derivative F p) i ∙ FormalDerivative.coefficient-formal_derivative F p i

  -- the leading coefficient of a monic s at its place
  monic_at : (s : Polynomial F) (n : ℕ) → IsMonic F s → size F s ≡ suc n → coefficient F s n ≡ F.one
  monic_at s n m e = ap (coefficient F s) (sym (ap pred e)) ∙ m

  -- Dt = η: deg D(s) < deg s for a monic s
  pub size-primitive : (s : Polynomial F) → IsMonic F s → size F (primitive s) < size F s
  size-primitive s m = go (degree F s) (Degree.size_of_nonzero F s (Gcd.monic-nonzero F s m))
    where
      go : (n : ℕ) → size F s ≡ suc n → size F (primitive s) < size F s
      go n e = let l = Degree.size-le F (primitive s) n vanishing in omega (arith, l, e)
        where
          above : (i : ℕ) → n ≤ i → F.mul η (F.mul (of_nat F.ring (suc i)) (coefficient F s (suc i))) ≡ F.zero
          above i l =
              ap (λ z. F.mul η (F.mul (of_nat F.ring (suc i)) z)) (Degree.below_size F s (suc i) (omega (arith, l, e)))
              ∙ ap (F.mul η) (Laws.mul-zero F.ring (of_nat F.ring (suc i))) ∙ Laws.mul-zero F.ring η

          derived : (i : ℕ) → n ≤ i → D.derive (coefficient F s i) ≡ F.zero
          derived i l = elim (dec_le i n) [
            | yes k ↦
                ap D.derive (ap (coefficient F s) (let z : i ≡ n = omega (arith, l, k) in z) ∙ monic_at s n m e) ∙ Derivations.derive-one D
            | no k ↦ ap D.derive (Degree.below_size F s i (omega (arith, k, e))) ∙ Derivations.derive-zero D
          ]

          vanishing : (i : ℕ) → n ≤ i → coefficient F (primitive s) i ≡ F.zero
          vanishing i l = coefficient-primitive s i ∙ ap₂ F.add (derived i l) (above i l) ∙ F.add-zero F.zero

  -- Dt = η: a monic special s is a constant of K(t): s | D(s) gives D(s) = 0
  pub special-primitive : (s : Polynomial F) → IsMonic F s → Divides F s (primitive s) → primitive s ≡ R.zero
  special-primitive s m h = elim (Degree.dec_zero F (primitive s)) [
    | yes e ↦ e
    | no n ↦ let l = Divides.size-divides F s (primitive s) h n in let k = size-primitive s m in absurd (omega (arith, l, k))
  ]

  -- Dt = η·t: deg D(s) ≤ deg s
  pub size-exponential-le : (s : Polynomial F) → size F (exponential s) ≤ size F s
  size-exponential-le s = Degree.size-le F (exponential s) (size F s) λ i l.
      coefficient-exponential s i
      ∙ ap (λ z. F.add (D.derive z) (F.mul η (F.mul (of_nat F.ring i) z))) (Degree.below_size F s i l)
      ∙ ap₂ F.add (Derivations.derive-zero D) (ap (F.mul η) (Laws.mul-zero F.ring (of_nat F.ring i)) ∙ Laws.mul-zero F.ring η) ∙ F.add-zero F.zero

  -- Dt = η·t: a monic special s has D(s) = (deg s)·η·s
  pub special-exponential : (s : Polynomial F) → IsMonic F s → Divides F s (exponential s)
      → exponential s ≡ R.mul (constant F (F.mul η (of_nat F.ring (degree F s)))) s
  special-exponential s m h = h.equation ∙ ap (λ z. R.mul z s) (cofactor_constant ∙ ap (constant F) leading)
    where
      n : ℕ
      n = degree F s

      nonzero : ¬ (s ≡ R.zero)
      nonzero = Gcd.monic-nonzero F s m

      e : size F s ≡ suc n
      e = Degree.size_of_nonzero F s nonzero

      small : size F h.cofactor ≤ 1
      small = elim (Degree.dec_zero F (exponential s)) [
        | yes z ↦ let k = ap (size F) (Degree.zero_of_mul_polynomials F s h.cofactor nonzero (R.mul_comm s h.cofactor ∙ sym h.equation ∙ z)) in let o = Degree.size-zero F in omega (arith, k, o)
        | no k ↦ let a = Divides.size-cofactor F s (exponential s) h k in let b = size-exponential-le s in omega (arith, a, b)
      ]

      cofactor_constant : h.cofactor ≡ constant F (coefficient F h.cofactor 0)
      cofactor_constant = Degree.constant_of_size F h.cofactor small

      leading : coefficient F h.cofactor 0 ≡ F.mul η (of_nat F.ring n)
      leading =
          sym (F.mul-one (coefficient F h.cofactor 0)) ∙ ap (F.mul (coefficient F h.cofactor 0)) (sym m)
          ∙ sym (coefficient-constant_mul F (coefficient F h.cofactor 0) s n)
          ∙ ap (λ z. coefficient F (R.mul z s) n) (sym cofactor_constant) ∙ ap (λ z. coefficient F z n) (sym h.equation)
          ∙ coefficient-exponential s n ∙ ap (λ z. F.add (D.derive z) (F.mul η (F.mul (of_nat F.ring n) z))) m
          ∙ ap₂ F.add (Derivations.derive-one D) (ap (F.mul η) (F.mul-one (of_nat F.ring n))) ∙ Laws.zero-add F.ring (F.mul η (of_nat F.ring n))
