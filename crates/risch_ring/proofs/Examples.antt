-- Worked examples of the solver in commutative rings, of growing size.
use Rattle.std.specs.Prelude.{◌≡◌, refl, ℤ, pos, negsuc, ◌+ℤ◌, ◌-ℤ◌, ◌*ℤ◌, [], ◌∷◌}
use Rattle.risch_ring.specs.CommRing.{CommRing, Derivation}
use Rattle.risch_ring.specs.Operators.{operators}
use Rattle.risch_ring.specs.Integers.{ints}
use Rattle.risch_ring.proofs.Expression.{reading, reading_ints}
use Rattle.risch_ring.proofs.Solver.{ring, linear}

-- 1: at ℤ, with numerals
factors : (x y : ℤ) → (x +ℤ pos 3 *ℤ y) *ℤ (x -ℤ pos 5 *ℤ y) ≡ x *ℤ x -ℤ pos 2 *ℤ x *ℤ y +ℤ negsuc 14 *ℤ (y *ℤ y)
factors x y = ring ints (x ∷ y ∷ []) (search reading_ints depth 20 fits 9000) refl

module _ {A : Type 0} (R : CommRing A) where
  open (operators R) use {𝟘, 𝟙, ◌+◌, ◌-◌, ◌*◌, -◌, ◌^◌}

  -- 2: the third binomial formula
  difference_of_squares : (x y : A) → (x + y) * (x - y) ≡ x ^ 2 - y ^ 2
  difference_of_squares x y = ring R (x ∷ y ∷ []) (search reading depth 20 fits 9000) refl

  -- 3: the product of sums of two squares
  two_squares : (a b c d : A) → (a ^ 2 + b ^ 2) * (c ^ 2 + d ^ 2) ≡ (a * c - b * d) ^ 2 + (a * d + b * c) ^ 2
  two_squares a b c d = ring R (a ∷ b ∷ c ∷ d ∷ []) (search reading depth 20 fits 9000) refl

  -- 4: the product of sums of four squares
  four_squares : (a b c d x y z w : A)
      → (a ^ 2 + b ^ 2 + c ^ 2 + d ^ 2) * (x ^ 2 + y ^ 2 + z ^ 2 + w ^ 2)
      ≡ (a * x + b * y + c * z + d * w) ^ 2 + (a * y - b * x + c * w - d * z) ^ 2 + (a * z - b * w - c * x + d * y) ^ 2 + (a * w + b * z - c * y - d * x) ^ 2
  four_squares a b c d x y z w = ring R (a ∷ b ∷ c ∷ d ∷ x ∷ y ∷ z ∷ w ∷ []) (search reading depth 30 fits 9000) refl

  -- ---- fractions as pairs: (a, b) for a/b, equal where the cross products are
  -- 5: the sum of fractions is associative
  fractions_add_assoc : (a b c d e f : A)
      → ((a * d + c * b) * f + e * (b * d)) * (b * (d * f)) ≡ (a * (d * f) + (c * f + e * d) * b) * (b * d * f)
  fractions_add_assoc a b c d e f = ring R (a ∷ b ∷ c ∷ d ∷ e ∷ f ∷ []) (search reading depth 30 fits 9000) refl

  -- 6: the product of fractions distributes over the sum
  fractions_mul-add : (a b c d e f : A)
      → a * (c * f + e * d) * (b * d * (b * f)) ≡ (a * c * (b * f) + a * e * (b * d)) * (b * (d * f))
  fractions_mul-add a b c d e f = ring R (a ∷ b ∷ c ∷ d ∷ e ∷ f ∷ []) (search reading depth 30 fits 9000) refl

  -- 7: the sum of fractions respects equality: from a/b = x/y, a/b + c/d = x/y + c/d. Under a hypothesis: the difference is d·d times its own
  fractions_add_eq : (a b x y c d : A) → a * y ≡ x * b → (a * d + c * b) * (y * d) ≡ (x * d + c * y) * (b * d)
  fractions_add_eq a b x y c d h = linear R (d * d) h (ring R (a ∷ b ∷ x ∷ y ∷ c ∷ d ∷ []) (search reading depth 30 fits 9000) refl)

  -- 8: so does the product, under two hypotheses
  fractions_mul_eq : (a b x y c d z w : A) → a * y ≡ x * b → c * w ≡ z * d → a * c * (y * w) ≡ x * z * (b * d)
  fractions_mul_eq a b x y c d z w h k =
      linear R (c * w) h (linear R (x * b) k (ring R (a ∷ b ∷ x ∷ y ∷ c ∷ d ∷ z ∷ w ∷ []) (search reading depth 30 fits 9000) refl))

  -- 9: the square of a matrix, by its trace and determinant
  cayley_hamilton : (a b c d : A) → (a * a + b * c - (a + d) * a + (a * d - b * c) ≡ 𝟘) × (a * b + b * d - (a + d) * b ≡ 𝟘)
  cayley_hamilton a b c d =
      (ring R (a ∷ b ∷ c ∷ d ∷ []) (search reading depth 30 fits 9000) refl, ring R (a ∷ b ∷ c ∷ d ∷ []) (search reading depth 30 fits 9000) refl)

  -- 10: the determinant is multiplicative, three rows of three
  determinant : A → A → A → A → A → A → A → A → A → A
  determinant a b c d e f g h k = a * (e * k - f * h) - b * (d * k - f * g) + c * (d * h - e * g)

  determinant-mul : (a b c d e f g h k x y z p q r s t u : A)
      → determinant (a * x + b * p + c * s) (a * y + b * q + c * t) (a * z + b * r + c * u)
      (d * x + e * p + f * s) (d * y + e * q + f * t) (d * z + e * r + f * u)
      (g * x + h * p + k * s) (g * y + h * q + k * t) (g * z + h * r + k * u)
      ≡ determinant a b c d e f g h k * determinant x y z p q r s t u
  unfolding determinant
  determinant-mul a b c d e f g h k x y z p q r s t u =
      ring R (a ∷ b ∷ c ∷ d ∷ e ∷ f ∷ g ∷ h ∷ k ∷ x ∷ y ∷ z ∷ p ∷ q ∷ r ∷ s ∷ t ∷ u ∷ []) (search reading depth 30 fits 9000) refl

  -- 11: the Vandermonde determinant of four variables, expanded along powers
  vandermonde : (a b c d : A)
      → (b - a) * (c - a) * (d - a) * (c - b) * (d - b) * (d - c)
      ≡ determinant (b - a) (b ^ 2 - a ^ 2) (b ^ 3 - a ^ 3) (c - a) (c ^ 2 - a ^ 2) (c ^ 3 - a ^ 3) (d - a) (d ^ 2 - a ^ 2) (d ^ 3 - a ^ 3)
  unfolding determinant
  vandermonde a b c d = ring R (a ∷ b ∷ c ∷ d ∷ []) (search reading depth 30 fits 9000) refl

  -- 12: 252 terms
  power_of_sum : (a b c d e f : A) → (a + b + c + d + e + f) ^ 5 ≡ (a + b + c + d + e + f) ^ 2 * (a + b + c + d + e + f) ^ 3
  power_of_sum a b c d e f = ring R (a ∷ b ∷ c ∷ d ∷ e ∷ f ∷ []) (search reading depth 30 fits 9000) refl

  module _ (D : Derivation R) where
    -- 13: the quotient rule respects the equality of fractions: from a/b = c/d, (D(a)·b - a·D(b))/b² = (D(c)·d - c·D(d))/d²
    quotient_rule_eq : (a b c d : A) → a * d ≡ c * b → (D.derive a * b - a * D.derive b) * (d * d) ≡ (D.derive c * d - c * D.derive d) * (b * b)
    quotient_rule_eq a b c d h =
        linear R (b * d) both (linear R (- (d * D.derive b + b * D.derive d)) h
        (ring R (a ∷ b ∷ c ∷ d ∷ D.derive a ∷ D.derive b ∷ D.derive c ∷ D.derive d ∷ []) (search reading depth 30 fits 9000) refl))
      where
        both : D.derive a * d + a * D.derive d ≡ D.derive c * b + c * D.derive b
        both = rw (← D.derive-mul a d, h, D.derive-mul c b)

    -- 14: the Leibniz rule for fractions, by cross products: D(a/b · c/d) = D(a/b)·c/d + a/b·D(c/d), over the denominators (b·d)² and b²·d·(b·d²)
    leibniz : (a b c d a' b' c' d' : A)
        → ((a' * c + a * c') * (b * d) - a * c * (b' * d + b * d')) * (b * b * d * (b * (d * d)))
        ≡ ((a' * b - a * b') * c * (b * (d * d)) + a * (c' * d - c * d') * (b * b * d)) * (b * d * (b * d))
    leibniz a b c d a' b' c' d' =
        ring R (a ∷ b ∷ c ∷ d ∷ a' ∷ b' ∷ c' ∷ d' ∷ []) (search reading depth 30 fits 9000) refl

    -- 15: the quotient rule on the sum of fractions, by cross products
    quotient_rule_add : (a b c d a' b' c' d' : A)
        → ((a' * d + a * d' + (c' * b + c * b')) * (b * d) - (a * d + c * b) * (b' * d + b * d')) * (b * b * (d * d))
        ≡ ((a' * b - a * b') * (d * d) + (c' * d - c * d') * (b * b)) * (b * d * (b * d))
    quotient_rule_add a b c d a' b' c' d' =
        ring R (a ∷ b ∷ c ∷ d ∷ a' ∷ b' ∷ c' ∷ d' ∷ []) (search reading depth 30 fits 9000) refl
