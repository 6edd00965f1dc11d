-- Laws of a field: equality is decidable, inverses cancel, and products, powers and inverses of what is not zero are not zero.
use Rattle.std.specs.Prelude.{◌≡◌, ℕ, zero, suc}
use Rattle.std.proofs.Common.{sym, ap, ◌∙◌}
use Rattle.risch_ring.specs.CommRing.{Field, power}
use Rattle.risch_ring.specs.Operators.{field_operators}
use Rattle.risch_ring.proofs.Laws as Laws

module _ {A : Type 0} (F : Field A) where
  open (field_operators F) use {𝟘, 𝟙, ◌+◌, ◌*◌, ◌/◌, -◌}

  -- x = y is decidable
  pub dec_eq : (x y : A) → Dec (x ≡ y)
  dec_eq x y = go (F.is_zero (x + - y))
    where
      go : Dec (x + - y ≡ 𝟘) → Dec (x ≡ y)
      go (yes e) = yes (Laws.eq_of_sub F.ring x y e)
      go (no n) = no (λ e. n (ap (λ z. z + - y) e ∙ F.add-neg y))

  -- x⁻¹·x = 1
  pub inverse-mul : (x : A) → ¬ (x ≡ 𝟘) → F.inverse x * x ≡ 𝟙
  inverse-mul x h = F.mul_comm (F.inverse x) x ∙ F.mul-inverse x h

  -- x⁻¹·(x·y) = y
  pub inverse-mul_cancel : (x y : A) → ¬ (x ≡ 𝟘) → F.inverse x * (x * y) ≡ y
  inverse-mul_cancel x y h = sym (F.mul_assoc (F.inverse x) x y) ∙ ap (λ z. z * y) (inverse-mul x h) ∙ Laws.one-mul F.ring y

  -- x·(x⁻¹·y) = y
  pub mul-inverse_cancel : (x y : A) → ¬ (x ≡ 𝟘) → x * (F.inverse x * y) ≡ y
  mul-inverse_cancel x y h = sym (F.mul_assoc x (F.inverse x) y) ∙ ap (λ z. z * y) (F.mul-inverse x h) ∙ Laws.one-mul F.ring y

  -- x·y = 0 and x ≠ 0 give y = 0
  pub zero_of_mul : (x y : A) → ¬ (x ≡ 𝟘) → x * y ≡ 𝟘 → y ≡ 𝟘
  zero_of_mul x y h e = sym (inverse-mul_cancel x y h) ∙ ap (λ z. F.inverse x * z) e ∙ Laws.mul-zero F.ring (F.inverse x)

  -- x ≠ 0 and y ≠ 0 give x·y ≠ 0
  pub mul-nonzero : (x y : A) → ¬ (x ≡ 𝟘) → ¬ (y ≡ 𝟘) → ¬ (x * y ≡ 𝟘)
  mul-nonzero x y h k e = k (zero_of_mul x y h e)

  -- x ≠ 0 gives x⁻¹ ≠ 0
  pub inverse-nonzero : (x : A) → ¬ (x ≡ 𝟘) → ¬ (F.inverse x ≡ 𝟘)
  inverse-nonzero x h e = F.one-ne-zero (sym (F.mul-inverse x h) ∙ ap (λ z. x * z) e ∙ Laws.mul-zero F.ring x)

  -- z·x = z·y and z ≠ 0 give x = y
  pub mul_left_cancel : (z x y : A) → ¬ (z ≡ 𝟘) → z * x ≡ z * y → x ≡ y
  mul_left_cancel z x y h e = sym (inverse-mul_cancel z x h) ∙ ap (λ w. F.inverse z * w) e ∙ inverse-mul_cancel z y h

  -- x ≠ 0 gives x ^ n ≠ 0
  pub power-nonzero : (x : A) (n : ℕ) → ¬ (x ≡ 𝟘) → ¬ (power F.ring x n ≡ 𝟘)
  unfolding power
  power-nonzero x zero h = F.one-ne-zero
  power-nonzero x (suc n) h = mul-nonzero x (power F.ring x n) h (power-nonzero x n h)

  -- (x/y)·y = x
  pub quotient-mul : (x y : A) → ¬ (y ≡ 𝟘) → x / y * y ≡ x
  quotient-mul x y h = F.mul_assoc x (F.inverse y) y ∙ ap (λ w. x * w) (inverse-mul y h) ∙ F.mul-one x
