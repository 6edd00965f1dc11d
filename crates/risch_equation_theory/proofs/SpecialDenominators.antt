-- Special monic polynomials where no new constant appears: 1 for Dt = η, a power of t for Dt = η·t.
use Rattle.std.specs.Prelude.{[], ◌∷◌, ◌≡◌, ℕ, suc, pred, ◌+◌, ◌-◌}
use Rattle.std.proofs.Common.{refl, sym, ap, ap₂, ◌∙◌, arith}
use native.Mathlib.Decide.{dec_le}
use Rattle.risch_ring.specs.CommRing.{CommRing, Field, Derivation, power, of_nat, HasCharacteristicZero}
use Rattle.risch_ring.proofs.Laws as Laws
use Rattle.risch_ring.proofs.Derivations as Derivations
use Rattle.risch_ring.proofs.Expression.{reading_symbolic}
use Rattle.risch_ring.proofs.Solver.{ring, linear}
use Rattle.risch_univariate.specs.Polynomial.{Polynomial, coefficient, variable}
use Rattle.risch_univariate.specs.Degree.{size, degree, IsMonic}
use Rattle.risch_univariate.specs.Division.{Divides}
use Rattle.risch_ring.proofs.FieldLaws as FieldLaws
use Rattle.risch_univariate.proofs.Degree as Degree
use Rattle.risch_univariate.proofs.Gcd as Gcd
use Rattle.risch_univariate.proofs.Special as Special
use Rattle.risch_equation_theory.proofs.Monomials as Monomials
use Rattle.risch_univariate.specs.PolynomialRing.{polynomials}
use Rattle.risch_univariate.proofs.Coefficients.{coefficient-zero, coefficient-constant_mul}
use Rattle.risch_equation_theory.specs.Constants.{IsSoundPrimitive, IsSoundExponential}

module _ {A : Type 0} (F : Field A) (char : HasCharacteristicZero F.ring) (D : Derivation F.ring) where
  -- D(1/c) = 0 where D(c) = 0
  pub derive-inverse_constant : (c : A) → ¬ (c ≡ F.zero) → D.derive c ≡ F.zero → D.derive (F.inverse c) ≡ F.zero
  derive-inverse_constant c n e = FieldLaws.zero_of_mul F c (D.derive (F.inverse c)) n
      (sym (Laws.zero-add F.ring (F.mul c (D.derive (F.inverse c)))) ∙ ap (λ z. F.add z (F.mul c (D.derive (F.inverse c)))) (sym (ap (λ z. F.mul z (F.inverse c)) e ∙ Laws.zero-mul F.ring (F.inverse c)))
      ∙ sym (D.derive-mul c (F.inverse c)) ∙ ap D.derive (F.mul-inverse c n) ∙ Derivations.derive-one D)

  -- D(v) + η·(n·z) = 0 with D(z) = 0, z ≠ 0 and n > 0 makes η a derivative
  pub integral_of_zero : (η v z : A) (n : ℕ) → ¬ (z ≡ F.zero) → D.derive z ≡ F.zero
      → F.add (D.derive v) (F.mul η (F.mul (of_nat F.ring (suc n)) z)) ≡ F.zero
      → D.derive (F.neg (F.mul v (F.inverse (F.mul (of_nat F.ring (suc n)) z)))) ≡ η
  integral_of_zero η v z n nz dz h = identity (F.mul (of_nat F.ring (suc n)) z) (F.inverse (F.mul (of_nat F.ring (suc n)) z))
      (F.mul-inverse _ nonzero) (derive-inverse_constant (F.mul (of_nat F.ring (suc n)) z) nonzero constant_product) h
    where
      nonzero : ¬ (F.mul (of_nat F.ring (suc n)) z ≡ F.zero)
      nonzero = FieldLaws.mul-nonzero F (of_nat F.ring (suc n)) z (char n) nz

      constant_product : D.derive (F.mul (of_nat F.ring (suc n)) z) ≡ F.zero
      constant_product = D.derive-mul (of_nat F.ring (suc n)) z
          ∙ ap₂ F.add (ap (λ w. F.mul w z) (Derivations.derive-nat D (suc n)) ∙ Laws.zero-mul F.ring z) (ap (F.mul (of_nat F.ring (suc n))) dz ∙ Laws.mul-zero F.ring (of_nat F.ring (suc n)))
          ∙ F.add-zero F.zero

      solve : (c i dv di : A) → F.mul c i ≡ F.one → di ≡ F.zero → F.add dv (F.mul η c) ≡ F.zero → F.neg (F.add (F.mul dv i) (F.mul v di)) ≡ η
      solve c i dv di ci e s =
          linear F.ring η ci (linear F.ring (F.neg v) e (linear F.ring (F.neg i) s (ring F.ring (c ∷ i ∷ dv ∷ di ∷ η ∷ v ∷ []) (search reading_symbolic depth 40 fits 9000) refl)))

      identity : (c i : A) → F.mul c i ≡ F.one → D.derive i ≡ F.zero → F.add (D.derive v) (F.mul η c) ≡ F.zero → D.derive (F.neg (F.mul v i)) ≡ η
      identity c i ci e s = Derivations.derive-neg D (F.mul v i) ∙ ap F.neg (D.derive-mul v i) ∙ solve c i (D.derive v) (D.derive i) ci e s

  module _ (η : A) where
    abbrev R : CommRing (Polynomial F)
    R = polynomials F

    -- Dt = η: a monic special polynomial is 1
    pub special_is_one : IsSoundPrimitive F D η → (s : Polynomial F) → IsMonic F s → Divides F s (Special.primitive F D η s) → s ≡ R.one
    special_is_one sound s m d = elim (dec_le (size F s) 1) [
      | yes l ↦ Gcd.one_of_monic F s m l
      | no l ↦ absurd (large (size F s - 2) (omega (arith, l)))
    ]
      where
        large : (n : ℕ) → size F s ≡ suc (suc n) → ⊥
        large n e = sound.no_integral _ (integral_of_zero η (coefficient F s n) (coefficient F s (suc n)) n nonzero constant_top top)
          where
            leading : coefficient F s (suc n) ≡ F.one
            leading = ap (coefficient F s) (sym (ap pred e)) ∙ m

            nonzero : ¬ (coefficient F s (suc n) ≡ F.zero)
            nonzero z = F.one-ne-zero (sym leading ∙ z)

            constant_top : D.derive (coefficient F s (suc n)) ≡ F.zero
            constant_top = ap D.derive leading ∙ Derivations.derive-one D

            top : F.add (D.derive (coefficient F s n)) (F.mul η (F.mul (of_nat F.ring (suc n)) (coefficient F s (suc n)))) ≡ F.zero
            top = sym (Special.coefficient-primitive F D η s n) ∙ ap (λ z. coefficient F z n) (Special.special-primitive F D η s m d) ∙ coefficient-zero F n

    -- Dt = η·t: a monic special polynomial is a power of t
    pub special_is_power : IsSoundExponential F D η → (s : Polynomial F) → IsMonic F s → Divides F s (Special.exponential F D η s) → s ≡ power R (variable F) (degree F s)
    special_is_power sound s m d = Monomials.monomial_ext F s F.one (degree F s) m others ∙ sym (Monomials.power-monomial F (degree F s))
      where
        n : ℕ
        n = degree F s

        at : (i : ℕ) → F.add (D.derive (coefficient F s i)) (F.mul η (F.mul (of_nat F.ring i) (coefficient F s i))) ≡ F.mul (F.mul η (of_nat F.ring n)) (coefficient F s i)
        at i =
            sym (Special.coefficient-exponential F D η s i) ∙ ap (λ z. coefficient F z i) (Special.special-exponential F D η s m d)
            ∙ coefficient-constant_mul F (F.mul η (of_nat F.ring n)) s i

        solve : (x y η i k n : A) → F.add x (F.mul η (F.mul i y)) ≡ F.mul (F.mul η n) y → n ≡ F.add i k → x ≡ F.mul (F.mul k η) y
        solve x y η i k n h e = linear F.ring F.one h (linear F.ring (F.mul η y) e (ring F.ring (x ∷ y ∷ η ∷ i ∷ k ∷ n ∷ []) (search reading_symbolic depth 40 fits 9000) refl))

        others : (i : ℕ) → ¬ (i ≡ n) → coefficient F s i ≡ F.zero
        others i k = elim (dec_le (suc i) n) [
          | yes l ↦ elim (F.is_zero (coefficient F s i)) [
            | yes z ↦ z
            | no nz ↦
                let e : n ≡ i + suc (n - suc i) = omega (arith, l) in
                absurd (sound.no_power (coefficient F s i) (n - suc i) nz
                (solve (D.derive (coefficient F s i)) (coefficient F s i) η (of_nat F.ring i) (of_nat F.ring (suc (n - suc i))) (of_nat F.ring n) (at i)
                (ap (of_nat F.ring) e ∙ Laws.of_nat-add F.ring i (suc (n - suc i)))))
          ]
          | no l ↦ Degree.below_size F s i (let o = Degree.size_of_nonzero F s (Gcd.monic-nonzero F s m) in omega (arith, l, k, o))
        ]
