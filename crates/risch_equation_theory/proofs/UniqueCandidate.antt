-- Where no new constant appears, the whole number m in β = D(v) + m·η, and in β = D(z)/z + m·η, is determined.
use Rattle.std.specs.Prelude.{◌≡◌, ℕ, suc, ◌+◌, ◌-◌, [], ◌∷◌}
use Rattle.std.proofs.Common.{refl, sym, ap, ◌∙◌, arith}
use native.Mathlib.Decide.{dec_le}
use Rattle.risch_ring.specs.CommRing.{Field, Derivation, of_nat, sub, quotient, HasCharacteristicZero}
use Rattle.risch_ring.proofs.Derivations as Derivations
use Rattle.risch_ring.proofs.Expression.{reading_symbolic}
use Rattle.risch_ring.proofs.Solver.{ring, linear}
use Rattle.risch_ring.proofs.FieldLaws as FieldLaws
use Rattle.risch_equation_theory.proofs.SpecialDenominators as SpecialDenominators
use Rattle.risch_ring.proofs.Laws as Laws
use Rattle.risch_ring.specs.Operators.{operators}
use Rattle.risch_equation_theory.specs.Constants.{IsSoundPrimitive, IsSoundExponential}
use Rattle.risch_equation_theory.specs.DegreeBound.{IsIntegralCandidate}

module _ {A : Type 0} (F : Field A) (char : HasCharacteristicZero F.ring) (D : Derivation F.ring) (η : A) where
  open (operators F.ring) use {◌+◌ as ◌+ₖ◌, ◌*◌}

  -- ---- Dt = η

  -- D(v) + m·η = D(w) + (m + k + 1)·η does not occur
  no_larger-primitive : IsSoundPrimitive F D η → (v w : A) (m k : ℕ) → ¬ (D.derive v +ₖ of_nat F.ring m * η ≡ D.derive w +ₖ of_nat F.ring (m + suc k) * η)
  no_larger-primitive sound v w m k e = sound.no_integral _ (SpecialDenominators.integral_of_zero F char D η (sub F.ring w v) F.one k F.one-ne-zero (Derivations.derive-one D)
      (ap (λ z. z +ₖ η * (of_nat F.ring (suc k) * F.one)) (Derivations.derive-sub D w v)
      ∙ solve (D.derive v) (D.derive w) (of_nat F.ring m) (of_nat F.ring (suc k)) (e ∙ ap (λ z. D.derive w +ₖ z * η) (Laws.of_nat-add F.ring m (suc k)))))
    where
      solve : (x y m k : A) → x +ₖ m * η ≡ y +ₖ (m +ₖ k) * η → sub F.ring y x +ₖ η * (k * F.one) ≡ F.zero
      solve x y m k h = linear F.ring (F.neg F.one) h (ring F.ring (x ∷ y ∷ m ∷ k ∷ η ∷ []) (search reading_symbolic depth 40 fits 9000) refl)

  -- the whole number in D(v) + m·η is determined
  pub unique-primitive : IsSoundPrimitive F D η → (v w : A) (m n : ℕ) → D.derive v +ₖ of_nat F.ring m * η ≡ D.derive w +ₖ of_nat F.ring n * η → m ≡ n
  unique-primitive sound v w m n e = elim (dec_le (suc m) n) [
    | yes l ↦ let s : n ≡ m + suc (n - suc m) = omega (arith, l) in absurd (no_larger-primitive sound v w m (n - suc m) (e ∙ ap (λ i. D.derive w +ₖ of_nat F.ring i * η) s))
    | no l ↦ elim (dec_le (suc n) m) [
      | yes k ↦ let s : m ≡ n + suc (m - suc n) = omega (arith, k) in absurd (no_larger-primitive sound w v n (m - suc n) (sym e ∙ ap (λ i. D.derive v +ₖ of_nat F.ring i * η) s))
      | no k ↦ omega (arith, l, k)
    ]
  ]

  -- a degree that the highest coefficients allow to cancel is the only one
  pub unique-candidate : IsSoundPrimitive F D η → (β : A) (m n : ℕ) → IsIntegralCandidate F D η m β → IsIntegralCandidate F D η n β → m ≡ n
  unique-candidate sound β m n h k = unique-primitive sound h.integral k.integral m n (sym h.equation ∙ k.equation)

  -- ---- Dt = η·t

  no_larger-exponential : IsSoundExponential F D η → (y z : A) (m k : ℕ) → ¬ (y ≡ F.zero) → ¬ (z ≡ F.zero)
      → ¬ (quotient F (D.derive y) y +ₖ of_nat F.ring m * η ≡ quotient F (D.derive z) z +ₖ of_nat F.ring (m + suc k) * η)
  no_larger-exponential sound y z m k ny nz e = sound.no_power (y * F.inverse z) k (FieldLaws.mul-nonzero F y (F.inverse z) ny (FieldLaws.inverse-nonzero F z nz))
      (D.derive-mul y (F.inverse z)
      ∙ solve y (F.inverse y) z (F.inverse z) (D.derive y) (D.derive z) (D.derive (F.inverse z)) (of_nat F.ring m) (of_nat F.ring (suc k))
      (e ∙ ap (λ x. quotient F (D.derive z) z +ₖ x * η) (Laws.of_nat-add F.ring m (suc k)))
      (F.mul-inverse y ny) (sym (D.derive-mul z (F.inverse z)) ∙ ap D.derive (F.mul-inverse z nz) ∙ Derivations.derive-one D) (F.mul-inverse z nz))
    where
      solve : (y n z m y' z' m' i k : A) → y' * n +ₖ i * η ≡ z' * m +ₖ (i +ₖ k) * η → y * n ≡ F.one → z' * m +ₖ z * m' ≡ F.zero → z * m ≡ F.one
          → y' * m +ₖ y * m' ≡ k * η * (y * m)
      solve y n z m y' z' m' i k h yn d zm =
          linear F.ring (y * m) h (linear F.ring (F.neg (y' * m)) yn (linear F.ring (y * m) d (linear F.ring (F.neg (y * m')) zm
          (ring F.ring (y ∷ n ∷ z ∷ m ∷ y' ∷ z' ∷ m' ∷ i ∷ k ∷ η ∷ []) (search reading_symbolic depth 40 fits 9000) refl))))

  -- the whole number in D(z)/z + m·η is determined
  pub unique-exponential : IsSoundExponential F D η → (y z : A) (m n : ℕ) → ¬ (y ≡ F.zero) → ¬ (z ≡ F.zero)
      → quotient F (D.derive y) y +ₖ of_nat F.ring m * η ≡ quotient F (D.derive z) z +ₖ of_nat F.ring n * η → m ≡ n
  unique-exponential sound y z m n ny nz e = elim (dec_le (suc m) n) [
    | yes l ↦ let s : n ≡ m + suc (n - suc m) = omega (arith, l) in absurd (no_larger-exponential sound y z m (n - suc m) ny nz (e ∙ ap (λ i. quotient F (D.derive z) z +ₖ of_nat F.ring i * η) s))
    | no l ↦ elim (dec_le (suc n) m) [
      | yes k ↦ let s : m ≡ n + suc (m - suc n) = omega (arith, k) in absurd (no_larger-exponential sound z y n (m - suc n) nz ny (sym e ∙ ap (λ i. quotient F (D.derive y) y +ₖ of_nat F.ring i * η) s))
      | no k ↦ omega (arith, l, k)
    ]
  ]
