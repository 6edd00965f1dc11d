-- Finite sums and products in a commutative ring: over a list, and over the numbers below n.
use Rattle.std.specs.Prelude.{ℕ, zero, suc, List, [], ◌∷◌}
use Rattle.risch_ring.specs.CommRing.{CommRing}

-- the sum of f x over the x of a list
unfoldable pub sum_over : {A X : Type 0} → CommRing A → (X → A) → List X → A
sum_over R f [] = R.zero
sum_over R f (x ∷ xs) = R.add (f x) (sum_over R f xs)

-- the sum of f 0, .., f (n - 1)
unfoldable pub sum_below : {A : Type 0} → CommRing A → (ℕ → A) → ℕ → A
sum_below R f zero = R.zero
sum_below R f (suc n) = R.add (sum_below R f n) (f n)

-- the product of f x over the x of a list
unfoldable pub product_over : {A X : Type 0} → CommRing A → (X → A) → List X → A
product_over R f [] = R.one
product_over R f (x ∷ xs) = R.mul (f x) (product_over R f xs)

-- the product of f 0, .., f (n - 1)
unfoldable pub product_below : {A : Type 0} → CommRing A → (ℕ → A) → ℕ → A
product_below R f zero = R.one
product_below R f (suc n) = R.mul (product_below R f n) (f n)
