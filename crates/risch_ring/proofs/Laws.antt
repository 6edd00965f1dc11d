-- Laws of a commutative ring that follow from those of the record, proved by hand: what the solver itself rests on. Elsewhere use the solver.
use Rattle.std.specs.Prelude.{◌≡◌, refl, ℕ, zero, suc, ℤ, pos, negsuc, ◌+ℤ◌, ◌*ℤ◌, neg_ℤ}
use Rattle.std.proofs.Common.{sym, ap, ap₂, ◌∙◌}
use Prim.Native.Nat as Nat
use native.Mathlib.Nat as NatLaws
use lib.IntN.{suc_ℤ, pred_ℤ, suc_ℤ-+ℤ, pred_ℤ-+ℤ, suc_ℤ-*ℤ, +ℤ_idl, zero-*ℤ}
use Rattle.risch_ring.specs.CommRing.{CommRing, HasCharacteristicZero, power, of_nat, of_int}
use Rattle.risch_ring.specs.Operators.{operators}
use Rattle.risch_ring.specs.Integers.{ints_neg-mul}

module _ {A : Type 0} (R : CommRing A) where
  open (operators R) use {𝟘, 𝟙, ◌+◌, ◌*◌, -◌}

  pub zero-add : (x : A) → 𝟘 + x ≡ x
  zero-add x = R.add_comm 𝟘 x ∙ R.add-zero x

  pub neg-add : (x : A) → - x + x ≡ 𝟘
  neg-add x = R.add_comm (- x) x ∙ R.add-neg x

  pub one-mul : (x : A) → 𝟙 * x ≡ x
  one-mul x = R.mul_comm 𝟙 x ∙ R.mul-one x

  pub add-mul : (x y z : A) → (x + y) * z ≡ x * z + y * z
  add-mul x y z = R.mul_comm (x + y) z ∙ R.mul-add z x y ∙ ap₂ R.add (R.mul_comm z x) (R.mul_comm z y)

  pub add_left_comm : (x y z : A) → x + (y + z) ≡ y + (x + z)
  add_left_comm x y z = sym (R.add_assoc x y z) ∙ ap (λ w. w + z) (R.add_comm x y) ∙ R.add_assoc y x z

  pub add_right_comm : (x y z : A) → x + y + z ≡ x + z + y
  add_right_comm x y z = R.add_assoc x y z ∙ ap (λ w. x + w) (R.add_comm y z) ∙ sym (R.add_assoc x z y)

  -- (x + y) + (z + w) = (x + z) + (y + w)
  pub add_exchange : (x y z w : A) → x + y + (z + w) ≡ x + z + (y + w)
  add_exchange x y z w = R.add_assoc x y (z + w) ∙ ap (λ a. x + a) (add_left_comm y z w) ∙ sym (R.add_assoc x z (y + w))

  pub mul_left_comm : (x y z : A) → x * (y * z) ≡ y * (x * z)
  mul_left_comm x y z = sym (R.mul_assoc x y z) ∙ ap (λ w. w * z) (R.mul_comm x y) ∙ R.mul_assoc y x z

  -- (x * y) * (z * w) = (x * z) * (y * w)
  pub mul_exchange : (x y z w : A) → x * y * (z * w) ≡ x * z * (y * w)
  mul_exchange x y z w = R.mul_assoc x y (z * w) ∙ ap (λ a. x * a) (mul_left_comm y z w) ∙ sym (R.mul_assoc x z (y * w))

  -- x + y - y = x
  pub add-neg_cancel : (x y : A) → x + y + - y ≡ x
  add-neg_cancel x y = R.add_assoc x y (- y) ∙ ap (λ w. x + w) (R.add-neg y) ∙ R.add-zero x

  pub neg-add_cancel : (x y : A) → x + - y + y ≡ x
  neg-add_cancel x y = R.add_assoc x (- y) y ∙ ap (λ w. x + w) (neg-add y) ∙ R.add-zero x

  pub add_right_cancel : (x y z : A) → x + z ≡ y + z → x ≡ y
  add_right_cancel x y z e = sym (add-neg_cancel x z) ∙ ap (λ w. w + - z) e ∙ add-neg_cancel y z

  -- x - y = 0 only where x = y
  pub eq_of_sub : (x y : A) → x + - y ≡ 𝟘 → x ≡ y
  eq_of_sub x y e = add_right_cancel x y (- y) (e ∙ sym (R.add-neg y))

  -- what adds up to zero with x is - x
  pub neg_of_add : (x y : A) → y + x ≡ 𝟘 → y ≡ - x
  neg_of_add x y e = add_right_cancel y (- x) x (e ∙ sym (neg-add x))

  pub mul-zero : (x : A) → x * 𝟘 ≡ 𝟘
  mul-zero x = add_right_cancel (x * 𝟘) 𝟘 (x * 𝟘) (sym (R.mul-add x 𝟘 𝟘) ∙ ap (λ w. x * w) (R.add-zero 𝟘) ∙ sym (zero-add (x * 𝟘)))

  pub zero-mul : (x : A) → 𝟘 * x ≡ 𝟘
  zero-mul x = R.mul_comm 𝟘 x ∙ mul-zero x

  pub neg-mul : (x y : A) → - x * y ≡ - (x * y)
  neg-mul x y = neg_of_add (x * y) (- x * y) (sym (add-mul (- x) x y) ∙ ap (λ w. w * y) (neg-add x) ∙ zero-mul y)

  pub neg-neg : (x : A) → - (- x) ≡ x
  neg-neg x = sym (neg_of_add (- x) x (R.add-neg x))

  pub neg-zero : - 𝟘 ≡ 𝟘
  neg-zero = sym (neg_of_add 𝟘 𝟘 (R.add-zero 𝟘))

  pub neg-add-eq : (x y : A) → - (x + y) ≡ - x + - y
  neg-add-eq x y =
      sym (neg_of_add (x + y) (- x + - y) (add_exchange (- x) (- y) x y ∙ ap₂ R.add (neg-add x) (neg-add y) ∙ R.add-zero 𝟘))

  -- (x + y) + (z - y) = x + z
  pub add_sub_exchange : (x y z : A) → x + y + (z + - y) ≡ x + z
  add_sub_exchange x y z = add_exchange x y z (- y) ∙ ap (λ w. x + z + w) (R.add-neg y) ∙ R.add-zero (x + z)

  -- x + r = y + s gives x - y = s - r
  pub sub_exchange : (x y r s : A) → x + r ≡ y + s → x + - y ≡ s + - r
  sub_exchange x y r s e = add_right_cancel (x + - y) (s + - r) (y + r)
      (R.add_assoc x (- y) (y + r) ∙ ap (λ w. x + w) (sym (R.add_assoc (- y) y r) ∙ ap (λ w. w + r) (neg-add y) ∙ zero-add r)
      ∙ e ∙ R.add_comm y s
      ∙ sym (add_exchange s (- r) y r ∙ ap (λ w. s + y + w) (neg-add r) ∙ R.add-zero (s + y)))

  -- x = y + z gives z = x - y
  pub sub_of_add : (x y z : A) → x ≡ y + z → z ≡ x + - y
  sub_of_add x y z e = sym (ap (λ w. w + - y) (e ∙ R.add_comm y z) ∙ add-neg_cancel z y)

  -- x·(-y) = -(x·y)
  pub mul-neg : (x y : A) → x * - y ≡ - (x * y)
  mul-neg x y = R.mul_comm x (- y) ∙ neg-mul y x ∙ ap (λ w. - w) (R.mul_comm y x)

  -- (x - y)·z = x·z - y·z
  pub sub-mul : (x y z : A) → (x + - y) * z ≡ x * z + - (y * z)
  sub-mul x y z = add-mul x (- y) z ∙ ap (λ w. x * z + w) (neg-mul y z)

  -- x·(y·z) = (y·x)·z
  pub mul_swap : (x y z : A) → x * (y * z) ≡ y * x * z
  mul_swap x y z = sym (R.mul_assoc x y z) ∙ ap (λ w. w * z) (R.mul_comm x y)

  -- (x·y)·z = y·(x·z)
  pub mul_turn : (x y z : A) → x * y * z ≡ y * (x * z)
  mul_turn x y z = ap (λ w. w * z) (R.mul_comm x y) ∙ R.mul_assoc y x z

  -- (x·y)·z = (x·z)·y
  pub mul_right_comm : (x y z : A) → x * y * z ≡ x * z * y
  mul_right_comm x y z = R.mul_assoc x y z ∙ ap (λ w. x * w) (R.mul_comm y z) ∙ sym (R.mul_assoc x z y)

  -- ---- powers
  pub power-add : (x : A) (m n : ℕ) → power R x (Nat.◌+◌ m n) ≡ power R x m * power R x n
  unfolding power
  power-add x zero n = ap (power R x) (NatLaws.zero-add n) ∙ sym (one-mul (power R x n))
  power-add x (suc m) n = ap (power R x) (NatLaws.suc-add m n) ∙ ap (λ w. x * w) (power-add x m n) ∙ sym (R.mul_assoc x (power R x m) (power R x n))

  pub power-mul : (x y : A) (n : ℕ) → power R (x * y) n ≡ power R x n * power R y n
  unfolding power
  power-mul x y zero = sym (R.mul-one 𝟙)
  power-mul x y (suc n) = ap (λ w. x * y * w) (power-mul x y n) ∙ mul_exchange x y (power R x n) (power R y n)

  pub power-suc : (x : A) (n : ℕ) → power R x (suc n) ≡ x * power R x n
  unfolding power
  power-suc x n = refl

  pub power-zero : (x : A) → power R x 0 ≡ 𝟙
  unfolding power
  power-zero x = refl

  pub power-one : (x : A) → power R x 1 ≡ x
  unfolding power
  power-one x = R.mul-one x

  -- ---- the natural numbers in the ring
  pub of_nat-zero : of_nat R 0 ≡ 𝟘
  unfolding of_nat
  of_nat-zero = refl

  pub of_nat-suc : (n : ℕ) → of_nat R (suc n) ≡ 𝟙 + of_nat R n
  unfolding of_nat
  of_nat-suc n = refl

  pub of_nat-add : (m n : ℕ) → of_nat R (Nat.◌+◌ m n) ≡ of_nat R m + of_nat R n
  of_nat-add zero n = ap (of_nat R) (NatLaws.zero-add n) ∙ sym (zero-add (of_nat R n)) ∙ ap (λ w. w + of_nat R n) (sym of_nat-zero)
  of_nat-add (suc m) n =
      ap (of_nat R) (NatLaws.suc-add m n) ∙ of_nat-suc (Nat.◌+◌ m n) ∙ ap (λ w. 𝟙 + w) (of_nat-add m n) ∙ sym (R.add_assoc 𝟙 (of_nat R m) (of_nat R n))
      ∙ ap (λ w. w + of_nat R n) (sym (of_nat-suc m))

  -- m·1 = n·1 gives m = n in characteristic 0
  pub of_nat-injective : HasCharacteristicZero R → (m n : ℕ) → of_nat R m ≡ of_nat R n → m ≡ n
  unfolding of_nat
  of_nat-injective char zero zero e = refl
  of_nat-injective char zero (suc n) e = absurd (char n (sym e))
  of_nat-injective char (suc m) zero e = absurd (char m e)
  of_nat-injective char (suc m) (suc n) e =
      ap suc (of_nat-injective char m n (add_right_cancel (of_nat R m) (of_nat R n) 𝟙 (R.add_comm (of_nat R m) 𝟙 ∙ e ∙ R.add_comm 𝟙 (of_nat R n))))

  -- ---- the integers in the ring
  pub of_int-suc : (c : ℤ) → of_int R (suc_ℤ c) ≡ 𝟙 + of_int R c
  unfolding of_int of_nat
  of_int-suc (pos n) = refl
  of_int-suc (negsuc zero) = sym (ap (λ w. 𝟙 + - w) (R.add-zero 𝟙) ∙ R.add-neg 𝟙)
  of_int-suc (negsuc (suc n)) =
      let below = of_nat R (suc n) in
      sym (ap (λ w. 𝟙 + w) (neg-add-eq 𝟙 below) ∙ sym (R.add_assoc 𝟙 (- 𝟙) (- below)) ∙ ap (λ w. w + - below) (R.add-neg 𝟙) ∙ zero-add (- below))

  pub of_int-pred : (c : ℤ) → of_int R (pred_ℤ c) ≡ - 𝟙 + of_int R c
  unfolding of_int of_nat
  of_int-pred (pos zero) = ap R.neg (R.add-zero 𝟙) ∙ sym (R.add-zero (- 𝟙))
  of_int-pred (pos (suc n)) = sym (sym (R.add_assoc (- 𝟙) 𝟙 (of_nat R n)) ∙ ap (λ w. w + of_nat R n) (neg-add 𝟙) ∙ zero-add (of_nat R n))
  of_int-pred (negsuc n) = neg-add-eq 𝟙 (of_nat R (suc n))

  pub of_int-zero : of_int R (pos 0) ≡ 𝟘
  unfolding of_int of_nat
  of_int-zero = refl

  pub of_int-one : of_int R (pos 1) ≡ 𝟙
  unfolding of_int of_nat
  of_int-one = R.add-zero 𝟙

  -- the sum of integers
  pub of_int-add : (a b : ℤ) → of_int R (a +ℤ b) ≡ of_int R a + of_int R b
  of_int-add (pos zero) b = ap (of_int R) (+ℤ_idl b) ∙ sym (zero-add (of_int R b)) ∙ ap (λ w. w + of_int R b) (sym of_int-zero)
  of_int-add (pos (suc n)) b =
      ap (of_int R) (suc_ℤ-+ℤ (pos n) b) ∙ of_int-suc (pos n +ℤ b) ∙ ap (λ w. 𝟙 + w) (of_int-add (pos n) b)
      ∙ sym (R.add_assoc 𝟙 (of_int R (pos n)) (of_int R b)) ∙ ap (λ w. w + of_int R b) (sym (of_int-suc (pos n)))
  of_int-add (negsuc zero) b =
      ap (of_int R) (pred_ℤ-+ℤ (pos 0) b ∙ ap pred_ℤ (+ℤ_idl b)) ∙ of_int-pred b
      ∙ ap (λ w. w + of_int R b) (sym (of_int-pred (pos 0) ∙ ap (λ w. - 𝟙 + w) of_int-zero ∙ R.add-zero (- 𝟙)))
  of_int-add (negsuc (suc n)) b =
      ap (of_int R) (pred_ℤ-+ℤ (negsuc n) b) ∙ of_int-pred (negsuc n +ℤ b) ∙ ap (λ w. - 𝟙 + w) (of_int-add (negsuc n) b)
      ∙ sym (R.add_assoc (- 𝟙) (of_int R (negsuc n)) (of_int R b)) ∙ ap (λ w. w + of_int R b) (sym (of_int-pred (negsuc n)))

  pub of_int-neg : (a : ℤ) → of_int R (neg_ℤ a) ≡ - of_int R a
  unfolding of_int of_nat
  of_int-neg (pos zero) = sym neg-zero
  of_int-neg (pos (suc n)) = refl
  of_int-neg (negsuc n) = sym (neg-neg (of_nat R (suc n)))

  pos-mul : (n : ℕ) (b : ℤ) → of_int R (pos n *ℤ b) ≡ of_int R (pos n) * of_int R b
  pos-mul zero b = ap (of_int R) (zero-*ℤ b) ∙ of_int-zero ∙ sym (zero-mul (of_int R b)) ∙ ap (λ w. w * of_int R b) (sym of_int-zero)
  pos-mul (suc n) b =
      ap (of_int R) (suc_ℤ-*ℤ (pos n) b) ∙ of_int-add (pos n *ℤ b) b
      ∙ ap₂ R.add (pos-mul n b) (sym (one-mul (of_int R b))) ∙ R.add_comm (of_int R (pos n) * of_int R b) (𝟙 * of_int R b)
      ∙ sym (add-mul 𝟙 (of_int R (pos n)) (of_int R b)) ∙ ap (λ w. w * of_int R b) (sym (of_int-suc (pos n)))

  -- the product of integers
  pub of_int-mul : (a b : ℤ) → of_int R (a *ℤ b) ≡ of_int R a * of_int R b
  of_int-mul (pos n) b = pos-mul n b
  of_int-mul (negsuc n) b =
      ap (of_int R) (ints_neg-mul (pos (suc n)) b) ∙ of_int-neg (pos (suc n) *ℤ b) ∙ ap R.neg (pos-mul (suc n) b)
      ∙ sym (neg-mul (of_int R (pos (suc n))) (of_int R b)) ∙ ap (λ w. w * of_int R b) (sym (of_int-neg (pos (suc n))))
