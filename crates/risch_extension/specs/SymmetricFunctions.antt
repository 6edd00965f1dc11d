-- Elementary symmetric functions and power sums of x_1, .., x_m, and the alternating sums of Newton's identities.
use Rattle.std.specs.Prelude.{ℕ, zero, suc, List, [], ◌∷◌}
use Rattle.risch_ring.specs.CommRing.{CommRing, power}
use Rattle.risch_ring.specs.Operators.{operators}
use Rattle.risch_ring.specs.Sums.{sum_over}

module _ {A : Type 0} (K : CommRing A) where
  open (operators K) use {𝟘, 𝟙, ◌+◌, ◌*◌, -◌}

  -- e_i, the sum of the products of i of the x
  unfoldable pub elementary : ℕ → List A → A
  elementary zero xs = 𝟙
  elementary (suc i) [] = 𝟘
  elementary (suc i) (x ∷ xs) = elementary (suc i) xs + x * elementary i xs

  -- Σ x^i
  abbrev pub power_sum : ℕ → List A → A
  power_sum i xs = sum_over K (λ x. power K x i) xs

  -- Σ over j ≤ i of (-1)^j·f(i - j)·g(j)
  unfoldable pub alternating : (ℕ → A) → (ℕ → A) → ℕ → A
  alternating f g zero = f 0 * g 0
  alternating f g (suc i) = f (suc i) * g 0 + - alternating f (λ j. g (suc j)) i

  -- (-1)^i·a
  abbrev pub signed : ℕ → A → A
  signed zero a = a
  signed (suc i) a = - signed i a
