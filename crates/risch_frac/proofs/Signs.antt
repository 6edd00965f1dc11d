-- Signed numbers and their absolute values: products, and quotients by a positive number.
use Rattle.std.proofs.Common.{◌≡◌, ◌≢◌, ℕ, zero, suc, ◌*◌, ◌/◌, ◌<◌, ◌≤◌, refl, sym, ◌∙◌, ap, arith, ℤ, pos, negsuc, neg_ℤ, ◌*ℤ◌, ◌<ℤ◌, unsigned_abs, int_div}
use Rattle.std.specs.Int.{◌∣◌}
use Rattle.std.proofs.Math.Nat.{div-mul_cancel, mul-pos}
use Rattle.std.proofs.lemmas.Nat.{le-div}
use Rattle.std.proofs.lemmas.Int.{ints, unsigned_abs-mul}
use lib.IntN.{pos-*ℤ-pos, negsuc-*ℤ-pos}

pub unsigned_abs-neg : (z : ℤ) → unsigned_abs (neg_ℤ z) ≡ unsigned_abs z
unsigned_abs-neg (pos zero) = refl
unsigned_abs-neg (pos (suc n)) = refl
unsigned_abs-neg (negsuc n) = refl

pub unsigned_abs-int_div : (z : ℤ) (d : ℕ) → unsigned_abs (int_div z (pos d)) ≡ unsigned_abs z / d
unsigned_abs-int_div (pos n) d = refl
unsigned_abs-int_div (negsuc n) d = unsigned_abs-neg (pos (suc n / d))

-- a multiple of d is d times its quotient by d
pub int_div-mul : (z : ℤ) (d : ℕ) → d ∣ unsigned_abs z → int_div z (pos d) *ℤ pos d ≡ z
int_div-mul (pos n) d h = pos-*ℤ-pos (n / d) d ∙ ap pos (div-mul_cancel d h)
int_div-mul (negsuc n) d h = negative-mul (suc n / d) ∙ ap (λ m. neg_ℤ (pos m)) (div-mul_cancel d h)
  where
    negative-mul : (m : ℕ) → neg_ℤ (pos m) *ℤ pos d ≡ neg_ℤ (pos (m * d))
    negative-mul zero = pos-*ℤ-pos zero d ∙ (let none : zero * d ≡ 0 = omega arith in rw none refl)
    negative-mul (suc m) = negsuc-*ℤ-pos m d

pub positive-is : (den : ℤ) → pos 0 <ℤ den → den ≡ pos (unsigned_abs den)
positive-is (pos n) p = refl
positive-is (negsuc n) p = absurd (omega (arith, ints))

pub unsigned_abs-positive : (den : ℤ) → pos 0 <ℤ den → 0 < unsigned_abs den
unsigned_abs-positive (pos n) p = omega (arith, ints)
unsigned_abs-positive (negsuc n) p = absurd (omega (arith, ints))

pub positive-div : (den : ℤ) (g : ℕ) → pos 0 <ℤ den → 0 < g → g ≤ unsigned_abs den → pos 0 <ℤ int_div den (pos g)
positive-div (pos n) g p q h = let least : 1 ≤ n / g = le-div 1 n g q (omega arith) in grind (arith, ints)
positive-div (negsuc n) g p q h = absurd (omega (arith, ints))

pub positive_product : (a b : ℤ) → pos 0 <ℤ a → pos 0 <ℤ b → pos 0 <ℤ (a *ℤ b)
positive_product (pos zero) b p q = absurd (omega (arith, ints))
positive_product (pos (suc m)) (pos zero) p q = absurd (omega (arith, ints))
positive_product (pos (suc m)) (pos (suc n)) p q = rw (pos-*ℤ-pos (suc m) (suc n)) (let some : 0 < suc m * suc n = mul-pos (omega arith) (omega arith) in grind (arith, ints))
positive_product (pos (suc m)) (negsuc n) p q = absurd (omega (arith, ints))
positive_product (negsuc m) b p q = absurd (omega (arith, ints))

unsigned_abs-nonzero : (b : ℤ) → b ≢ pos 0 → 0 < unsigned_abs b
unsigned_abs-nonzero (pos zero) h = absurd (h refl)
unsigned_abs-nonzero (pos (suc n)) h = omega arith
unsigned_abs-nonzero (negsuc n) h = omega arith

pub nonzero_product : (a b : ℤ) → pos 0 <ℤ a → b ≢ pos 0 → (a *ℤ b) ≢ pos 0
nonzero_product a b p q e =
    let some = mul-pos (unsigned_abs-positive a p) (unsigned_abs-nonzero b q) in
    let none : unsigned_abs a * unsigned_abs b ≡ 0 = sym (unsigned_abs-mul a b) ∙ ap unsigned_abs e in
    omega arith
