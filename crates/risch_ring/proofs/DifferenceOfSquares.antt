-- The product (x + y)·(x - y): its value, and that it does not overflow.
use Rattle.std.proofs.Common.{◌≡◌, refl, ℤ, pos, neg_ℤ, ◌+ℤ◌, ◌-ℤ◌, ◌*ℤ◌, ◌≤ℤ◌, FitsSigned, w64, [], ◌∷◌, arith, lit<, ap₂, ◌∙◌}
use Rattle.std.proofs.lemmas.Int.{ints, fits_signed_mul}
use Rattle.risch_ring.specs.Integers.{ints as int_ring}
use Rattle.risch_ring.proofs.Expression.{reading_ints}
use Rattle.risch_ring.proofs.Solver.{ring}

pub factors : (x y : ℤ) → (x +ℤ y) *ℤ (x -ℤ y) ≡ x *ℤ x -ℤ y *ℤ y
factors x y = ring int_ring (x ∷ y ∷ []) (search reading_ints depth 20 fits 9000) refl

pub product_fits : (a b : ℤ) → neg_ℤ (pos 1000000) ≤ℤ a → a ≤ℤ pos 1000000 → neg_ℤ (pos 1000000) ≤ℤ b → b ≤ℤ pos 1000000 → FitsSigned w64 (a *ℤ b)
product_fits a b p q r s = fits_signed_mul w64 a b 1000000 1000000 (omega (arith, ints)) (omega (arith, ints)) (lit< tt)

-- the same of a product of two numbers that are known to be x + y and x - y
pub product_is : (x y : ℤ) {p a b : ℤ} → p ≡ a *ℤ b → a ≡ x +ℤ y → b ≡ x -ℤ y → p ≡ x *ℤ x -ℤ y *ℤ y
product_is x y e f g = e ∙ ap₂ ◌*ℤ◌ f g ∙ factors x y
