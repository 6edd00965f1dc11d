-- Where the coefficients of C = q_1·q_2²·.. are constants of D, so are those of its square-free parts q_i.
-- The derivation κ of K[z] with κ(z) = 0 that is D on K has κ(C) = 0. From C = q^i·B with gcd(q, B) = 1 and κ(C) = 0 it follows that q divides κ(q), and for a monic q the degree of κ(q) is lower, so κ(q) = 0.
use Rattle.std.specs.Prelude.{◌≡◌, ℕ, zero, suc, List, [], ◌∷◌}
use Rattle.std.proofs.Common.{refl, sym, ap, ap₂, subst, ◌∙◌}
use Rattle.risch_ring.specs.CommRing.{CommRing, Field, Derivation, power, of_nat, HasCharacteristicZero}
use Rattle.risch_ring.specs.Lists.{Each}
use Rattle.risch_ring.proofs.Laws as Laws
use Rattle.risch_ring.proofs.FieldLaws as FieldLaws
use Rattle.risch_ring.proofs.RingMaps as RingMaps
use Rattle.risch_ring.proofs.Derivations as Derivations
use Rattle.risch_ring.proofs.Expression.{reading}
use Rattle.risch_ring.proofs.Solver.{ring}
use Rattle.risch_univariate.specs.Polynomial.{Polynomial, constant}
use Rattle.risch_univariate.specs.PolynomialRing.{polynomials}
use Rattle.risch_univariate.specs.Degree.{IsMonic}
use Rattle.risch_univariate.specs.Division.{Divides, IsCoprime}
use Rattle.risch_univariate.specs.SquareFreeParts.{product_of_powers, AreParts}
use Rattle.risch_univariate.proofs.Degree as Degree
use Rattle.risch_univariate.proofs.Derivation as Derivation
use Rattle.risch_univariate.proofs.Divides as Divides
use Rattle.risch_univariate.proofs.Evaluation as Evaluation
use Rattle.risch_univariate.proofs.FormalDerivative.{coefficientwise}
use Rattle.risch_univariate.proofs.Gcd as Gcd
use Rattle.risch_univariate.proofs.Special as Special

module _ {A : Type 0} (F : Field A) (D : Derivation F.ring) where
  abbrev R : CommRing (Polynomial F)
  R = polynomials F

  -- D on the coefficients
  abbrev κ : Polynomial F → Polynomial F
  κ = coefficientwise F D

  abbrev κ-derivation : Derivation (polynomials F)
  κ-derivation = Derivation.derivation F D (polynomials F).zero

  -- a monic q that divides κ(q) has constant coefficients
  constant_of_divides : (q : Polynomial F) → IsMonic F q → Divides F q (coefficientwise F D q) → coefficientwise F D q ≡ R.zero
  constant_of_divides q m h =
      ap (λ v. Derivation.derive_polynomial F D v q) (sym (Degree.constant-zero F))
      ∙ Special.special-primitive F D F.zero q m (subst (λ v. Divides F q (Derivation.derive_polynomial F D v q)) (sym (Degree.constant-zero F)) h)

  power-nonzero : (q : Polynomial F) → ¬ (q ≡ R.zero) → (i : ℕ) → ¬ (power R q i ≡ R.zero)
  power-nonzero q n zero e = Degree.one-ne-zero F (sym (Laws.power-zero R q) ∙ e)
  power-nonzero q n (suc i) e = Degree.mul_polynomials-nonzero F q (power R q i) n (power-nonzero q n i) (sym (Laws.power-suc R q i) ∙ e)

  -- a number other than 0 is a unit
  number_cancel : HasCharacteristicZero F.ring → (i : ℕ) (x : Polynomial F) → R.mul (constant F (F.inverse (of_nat F.ring (suc i)))) (R.mul (of_nat R (suc i)) x) ≡ x
  number_cancel char i x =
      ap (λ z. R.mul (constant F (F.inverse (of_nat F.ring (suc i)))) (R.mul z x)) (sym (RingMaps.apply-of_nat (Evaluation.constants F) (suc i)))
      ∙ sym (R.mul_assoc _ _ x)
      ∙ ap (λ z. R.mul z x)
      (sym (Degree.constant-mul F _ _) ∙ ap (constant F) (FieldLaws.inverse-mul F (of_nat F.ring (suc i)) (char i)) ∙ Degree.constant-one F)
      ∙ Laws.one-mul R x

  -- κ(q^(i + 1)·B) = 0 with gcd(q, B) = 1 gives κ(q) = 0
  constant_of_power : HasCharacteristicZero F.ring → (i : ℕ) (q B : Polynomial F) → IsMonic F q → IsCoprime F q B → coefficientwise F D (R.mul (power R q (suc i)) B) ≡ R.zero
      → coefficientwise F D q ≡ R.zero
  constant_of_power char i q B m c e = constant_of_divides q m
      (subst (Divides F q) (number_cancel char i (κ q))
      (Divides.divides-mul_left F q (constant F (F.inverse (of_nat F.ring (suc i)))) _
      (Gcd.coprime-divides_of_mul F q B (R.mul (of_nat R (suc i)) (κ q)) c
      (subst (Divides F q) (R.mul_comm (R.mul (of_nat R (suc i)) (κ q)) B)
      (Divides.divides_of_add F q (R.mul q (κ B)) _ (Divides.divides-mul_right F q (κ B))
      (subst (Divides F q) (sym sum-zero) (Divides.divides-zero F q)))))))
    where
      collect : (q' n p k B x : Polynomial F) → R.add (R.mul (R.mul (R.mul n p) k) B) (R.mul (R.mul q' p) x) ≡ R.mul p (R.add (R.mul q' x) (R.mul (R.mul n k) B))
      collect q' n p k B x = ring R (q' ∷ n ∷ p ∷ k ∷ B ∷ x ∷ []) (search reading depth 40 fits 9000) refl

      -- q·κ(B) + (i + 1)·κ(q)·B = 0
      sum-zero : R.add (R.mul q (coefficientwise F D B)) (R.mul (R.mul (of_nat R (suc i)) (coefficientwise F D q)) B) ≡ R.zero
      sum-zero = Degree.zero_of_mul_polynomials F (power R q i) _ (power-nonzero q (Gcd.monic-nonzero F q m) i)
          (sym (collect q (of_nat R (suc i)) (power R q i) (κ q) B (κ B))
          ∙ ap₂ R.add (ap (λ z. R.mul z B) (sym (Derivations.derive-power κ-derivation q i))) (ap (λ z. R.mul z (κ B)) (sym (Laws.power-suc R q i)))
          ∙ sym (κ-derivation.derive-mul (power R q (suc i)) B) ∙ e)

  -- κ(q) = 0 and κ(q^i·B) = 0 give κ(B) = 0
  constant_cofactor : (i : ℕ) (q B : Polynomial F) → IsMonic F q → coefficientwise F D q ≡ R.zero → coefficientwise F D (R.mul (power R q (suc i)) B) ≡ R.zero → coefficientwise F D B ≡ R.zero
  constant_cofactor i q B m k e = Degree.zero_of_mul_polynomials F (power R q (suc i)) (κ B) (power-nonzero q (Gcd.monic-nonzero F q m) (suc i))
      (sym (Laws.zero-add R _)
      ∙ ap (λ z. R.add z (R.mul (power R q (suc i)) (κ B)))
      (sym (ap (λ z. R.mul z B) (Derivations.derive-power κ-derivation q i ∙ ap (R.mul _) k ∙ Laws.mul-zero R _) ∙ Laws.zero-mul R B))
      ∙ sym (κ-derivation.derive-mul (power R q (suc i)) B) ∙ e)

  -- what is coprime with all the parts is coprime with the product of their powers
  coprime_product : (q : Polynomial F) (i : ℕ) (ps : List (Polynomial F)) → Each (IsCoprime F q) ps → IsCoprime F q (product_of_powers F i ps)
  unfolding product_of_powers
  coprime_product q i [] h = record { left = R.zero; right = R.one; equation = ap₂ R.add (Laws.zero-mul R q) (R.mul-one R.one) ∙ Laws.zero-add R R.one }
  coprime_product q i (p ∷ ps) h = Gcd.coprime_sym F _ q
      (Gcd.coprime-mul F (power R p i) (product_of_powers F (suc i) ps) q (Gcd.coprime-power F p q i (Gcd.coprime_sym F q p h.0))
      (Gcd.coprime_sym F q _ (coprime_product q (suc i) ps h.1)))

  -- the parts of a polynomial with constant coefficients have constant coefficients
  pub parts-constant : HasCharacteristicZero F.ring → (i : ℕ) (ps : List (Polynomial F)) → AreParts F ps → coefficientwise F D (product_of_powers F (suc i) ps) ≡ (polynomials F).zero
      → Each (λ p. coefficientwise F D p ≡ (polynomials F).zero) ps
  unfolding product_of_powers
  parts-constant char i [] a e = tt
  parts-constant char i (p ∷ ps) a e =
      let k = constant_of_power char i p (product_of_powers F (suc (suc i)) ps) a.0 (coprime_product p (suc (suc i)) ps a.2) e in (
        k,
        parts-constant char (suc i) ps a.3 (constant_cofactor i p (product_of_powers F (suc (suc i)) ps) a.0 k e),
      )
