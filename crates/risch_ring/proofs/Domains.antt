-- Domains: cancellation, and ℤ and every field as domains.
use Rattle.std.specs.Prelude.{◌≡◌, ◌⊎◌, refl, ℕ, zero, suc, ℤ, pos, negsuc, neg_ℤ, nat_abs, ◌*ℤ◌, [], ◌∷◌}
use Rattle.std.proofs.Common.{sym, ap, ◌∙◌, inl, inr, ⊎_elim, arith}
use Prim.Native.Nat as Nat
use Rattle.risch_ring.specs.CommRing.{CommRing, IsDomain, Field, HasCharacteristicZero}
use Rattle.risch_ring.specs.Integers.{ints}
use Rattle.risch_ring.specs.Operators.{operators}
use Rattle.risch_ring.proofs.Laws as Laws
use Rattle.risch_ring.proofs.Expression.{reading, ints_of_nat}
use Rattle.risch_ring.proofs.Solver.{ring, linear}
use Rattle.risch_ring.proofs.FieldLaws.{zero_of_mul}

module _ {A : Type 0} (R : CommRing A) (domain : IsDomain R) where
  open (operators R) use {𝟘, 𝟙, ◌+◌, ◌-◌, ◌*◌, -◌}

  -- a factor that is not zero can be cancelled
  pub cancel : {x y : A} (d : A) → ¬ (d ≡ 𝟘) → d * x ≡ d * y → x ≡ y
  cancel {x} {y} d p e =
      let product : d * (x - y) ≡ 𝟘 = linear R 𝟙 e (ring R (x ∷ y ∷ d ∷ []) (search reading depth 20 fits 4000) refl) in
      ⊎_elim (λ z. absurd (p z)) (λ z. Laws.eq_of_sub R x y z) (domain.zero_product d (x - y) product)

  pub product-nonzero : {x y : A} → ¬ (x ≡ 𝟘) → ¬ (y ≡ 𝟘) → ¬ (x * y ≡ 𝟘)
  product-nonzero {x} {y} p q e = ⊎_elim p q (domain.zero_product x y e)

  -- the equality of fractions by cross products is transitive
  pub fraction_eq_trans : (a b c d e f : A) → ¬ (d ≡ 𝟘) → a * d ≡ c * b → c * f ≡ e * d → a * f ≡ e * b
  fraction_eq_trans a b c d e f p h k =
      cancel d p (linear R f h (linear R b k (ring R (a ∷ b ∷ c ∷ d ∷ e ∷ f ∷ []) (search reading depth 20 fits 4000) refl)))

-- a field is a domain
pub field_domain : {A : Type 0} (F : Field A) → IsDomain F.ring
field_domain {A} F = record {
  one-ne-zero = F.one-ne-zero;
  zero_product = λ x y e. split x y e (F.is_zero x);
}
  where
    split : (x y : A) → F.ring.mul x y ≡ F.ring.zero → Dec (x ≡ F.ring.zero) → (x ≡ F.ring.zero) ⊎ (y ≡ F.ring.zero)
    split x y e (yes p) = inl p
    split x y e (no p) = inr (zero_of_mul F x y p e)

-- ℤ is a domain of characteristic zero
positive : (m n : ℕ) → Nat.◌*◌ (suc m) (suc n) ≡ 0 → ⊥
positive m n e = omega arith

neg-is-zero : (k : ℕ) → neg_ℤ (pos k) ≡ pos 0 → k ≡ 0
neg-is-zero zero e = refl
neg-is-zero (suc k) e = cc

ints_zero_product : (x y : ℤ) → x *ℤ y ≡ pos 0 → (x ≡ pos 0) ⊎ (y ≡ pos 0)
ints_zero_product (pos zero) y e = inl refl
ints_zero_product (pos (suc m)) (pos zero) e = inr refl
ints_zero_product (pos (suc m)) (pos (suc n)) e = absurd (positive m n (ap nat_abs e))
ints_zero_product (pos (suc m)) (negsuc n) e = absurd (positive m n (neg-is-zero (Nat.◌*◌ (suc m) (suc n)) e))
ints_zero_product (negsuc m) (pos zero) e = inr refl
ints_zero_product (negsuc m) (pos (suc n)) e = absurd (positive m n (neg-is-zero (Nat.◌*◌ (suc m) (suc n)) e))
ints_zero_product (negsuc m) (negsuc n) e = absurd (positive m n (ap nat_abs e))

pub ints_domain : IsDomain ints
ints_domain = record { one-ne-zero = λ e. cc; zero_product = ints_zero_product }

pub ints_characteristic_zero : HasCharacteristicZero ints
ints_characteristic_zero n e = let f : pos (suc n) ≡ pos 0 = sym (ints_of_nat (suc n)) ∙ e in cc
