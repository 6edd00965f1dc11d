-- The laws of finite sums and products in a commutative ring.
use Rattle.std.specs.Prelude.{◌≡◌, refl, ℕ, zero, suc, ◌-◌, ◌<◌, List, [], ◌∷◌, ◌++◌, map}
use Rattle.std.proofs.Common.{sym, ap, ap₂, ◌∙◌, arith, inl, inr}
use Prim.Native.Nat as Nat
use Rattle.risch_ring.specs.CommRing.{CommRing, Derivation, of_nat}
use Rattle.risch_ring.specs.Operators.{operators}
use Rattle.risch_ring.specs.Lists.{Member}
use Rattle.risch_ring.specs.Sums.{sum_over, sum_below, product_over}
use Rattle.risch_ring.proofs.Laws as Laws
use Rattle.risch_ring.proofs.Expression.{reading}
use Rattle.risch_ring.proofs.Solver.{ring}
use Rattle.risch_ring.proofs.Derivations.{derive-zero}

module _ {A : Type 0} (R : CommRing A) where
  open (operators R) use {𝟘, 𝟙, ◌+◌, ◌-◌ as ◌−◌, ◌*◌, -◌}

  -- ---- sums over a list
  -- equal terms have equal sums
  pub sum_over-ext : {X : Type 0} (f g : X → A) → ((x : X) → f x ≡ g x) → (xs : List X) → sum_over R f xs ≡ sum_over R g xs
  unfolding sum_over
  sum_over-ext f g e [] = refl
  sum_over-ext f g e (x ∷ xs) = ap₂ R.add (e x) (sum_over-ext f g e xs)

  -- the terms at the members alone count
  pub sum_over-ext_members : {X : Type 0} (f g : X → A) (xs : List X) → ((x : X) → Member x xs → f x ≡ g x) → sum_over R f xs ≡ sum_over R g xs
  unfolding sum_over
  sum_over-ext_members f g [] e = refl
  sum_over-ext_members f g (x ∷ xs) e = ap₂ R.add (e x (inl refl)) (sum_over-ext_members f g xs (λ y m. e y (inr m)))

  pub sum_over-zero : {X : Type 0} (xs : List X) → sum_over R (λ x. 𝟘) xs ≡ 𝟘
  unfolding sum_over
  sum_over-zero [] = refl
  sum_over-zero (x ∷ xs) = Laws.zero-add R (sum_over R (λ x. 𝟘) xs) ∙ sum_over-zero xs

  -- linearity
  pub sum_over-add : {X : Type 0} (f g : X → A) (xs : List X) → sum_over R (λ x. f x + g x) xs ≡ sum_over R f xs + sum_over R g xs
  unfolding sum_over
  sum_over-add f g [] = sym (R.add-zero 𝟘)
  sum_over-add f g (x ∷ xs) = ap (λ s. f x + g x + s) (sum_over-add f g xs) ∙ Laws.add_exchange R (f x) (g x) (sum_over R f xs) (sum_over R g xs)

  pub sum_over-mul : {X : Type 0} (c : A) (f : X → A) (xs : List X) → sum_over R (λ x. c * f x) xs ≡ c * sum_over R f xs
  unfolding sum_over
  sum_over-mul c f [] = sym (Laws.mul-zero R c)
  sum_over-mul c f (x ∷ xs) = ap (λ s. c * f x + s) (sum_over-mul c f xs) ∙ sym (R.mul-add c (f x) (sum_over R f xs))

  pub sum_over-mul_right : {X : Type 0} (f : X → A) (c : A) (xs : List X) → sum_over R (λ x. f x * c) xs ≡ sum_over R f xs * c
  sum_over-mul_right f c xs =
      sum_over-ext (λ x. f x * c) (λ x. c * f x) (λ x. R.mul_comm (f x) c) xs ∙ sum_over-mul c f xs ∙ R.mul_comm c (sum_over R f xs)

  pub sum_over-neg : {X : Type 0} (f : X → A) (xs : List X) → sum_over R (λ x. - f x) xs ≡ - sum_over R f xs
  unfolding sum_over
  sum_over-neg f [] = sym (Laws.neg-zero R)
  sum_over-neg f (x ∷ xs) = ap (λ s. - f x + s) (sum_over-neg f xs) ∙ sym (Laws.neg-add-eq R (f x) (sum_over R f xs))

  pub sum_over-sub : {X : Type 0} (f g : X → A) (xs : List X) → sum_over R (λ x. f x − g x) xs ≡ sum_over R f xs − sum_over R g xs
  sum_over-sub f g xs = sum_over-add f (λ x. - g x) xs ∙ ap (λ s. sum_over R f xs + s) (sum_over-neg g xs)

  -- splitting
  pub sum_over-append : {X : Type 0} (f : X → A) (xs ys : List X) → sum_over R f (xs ++ ys) ≡ sum_over R f xs + sum_over R f ys
  unfolding sum_over
  sum_over-append f [] ys = sym (Laws.zero-add R (sum_over R f ys))
  sum_over-append f (x ∷ xs) ys = ap (λ s. f x + s) (sum_over-append f xs ys) ∙ sym (R.add_assoc (f x) (sum_over R f xs) (sum_over R f ys))

  -- reindexing
  pub sum_over-map : {X Y : Type 0} (f : X → A) (h : Y → X) (ys : List Y) → sum_over R f (map h ys) ≡ sum_over R (λ y. f (h y)) ys
  unfolding sum_over
  sum_over-map f h [] = refl
  sum_over-map f h (y ∷ ys) = ap (λ s. f (h y) + s) (sum_over-map f h ys)

  -- the order of two sums can be exchanged
  pub sum_over-exchange : {X Y : Type 0} (f : X → Y → A) (xs : List X) (ys : List Y)
      → sum_over R (λ x. sum_over R (λ y. f x y) ys) xs ≡ sum_over R (λ y. sum_over R (λ x. f x y) xs) ys
  unfolding sum_over
  sum_over-exchange f [] ys = sym (sum_over-zero ys)
  sum_over-exchange f (x ∷ xs) ys =
      ap (λ s. sum_over R (f x) ys + s) (sum_over-exchange f xs ys) ∙ sym (sum_over-add (f x) (λ y. sum_over R (λ x. f x y) xs) ys)

  -- the product of two sums
  pub sum_over-product : {X Y : Type 0} (f : X → A) (g : Y → A) (xs : List X) (ys : List Y)
      → sum_over R f xs * sum_over R g ys ≡ sum_over R (λ x. sum_over R (λ y. f x * g y) ys) xs
  unfolding sum_over
  sum_over-product f g [] ys = Laws.zero-mul R (sum_over R g ys)
  sum_over-product f g (x ∷ xs) ys =
      Laws.add-mul R (f x) (sum_over R f xs) (sum_over R g ys)
      ∙ ap₂ R.add (sym (sum_over-mul (f x) g ys)) (sum_over-product f g xs ys)

  -- products
  pub product_over-append : {X : Type 0} (f : X → A) (xs ys : List X) → product_over R f (xs ++ ys) ≡ product_over R f xs * product_over R f ys
  unfolding product_over
  product_over-append f [] ys = sym (Laws.one-mul R (product_over R f ys))
  product_over-append f (x ∷ xs) ys = ap (λ s. f x * s) (product_over-append f xs ys) ∙ sym (R.mul_assoc (f x) (product_over R f xs) (product_over R f ys))

  pub product_over-mul : {X : Type 0} (f g : X → A) (xs : List X) → product_over R (λ x. f x * g x) xs ≡ product_over R f xs * product_over R g xs
  unfolding product_over
  product_over-mul f g [] = sym (R.mul-one 𝟙)
  product_over-mul f g (x ∷ xs) = ap (λ s. f x * g x * s) (product_over-mul f g xs) ∙ Laws.mul_exchange R (f x) (g x) (product_over R f xs) (product_over R g xs)

  -- a derivation of a sum
  pub sum_over-derive : {X : Type 0} (D : Derivation R) (f : X → A) (xs : List X) → D.derive (sum_over R f xs) ≡ sum_over R (λ x. D.derive (f x)) xs
  unfolding sum_over
  sum_over-derive D f [] = derive-zero D
  sum_over-derive D f (x ∷ xs) = D.derive-add (f x) (sum_over R f xs) ∙ ap (λ s. D.derive (f x) + s) (sum_over-derive D f xs)

  -- ---- sums over the numbers below n
  pub sum_below-ext : (f g : ℕ → A) (n : ℕ) → ((i : ℕ) → i < n → f i ≡ g i) → sum_below R f n ≡ sum_below R g n
  unfolding sum_below
  sum_below-ext f g zero e = refl
  sum_below-ext f g (suc n) e = ap₂ R.add (sum_below-ext f g n (λ i l. e i (omega arith))) (e n (omega arith))

  pub sum_below-zero : (n : ℕ) → sum_below R (λ i. 𝟘) n ≡ 𝟘
  unfolding sum_below
  sum_below-zero zero = refl
  sum_below-zero (suc n) = R.add-zero (sum_below R (λ i. 𝟘) n) ∙ sum_below-zero n

  pub sum_below-add : (f g : ℕ → A) (n : ℕ) → sum_below R (λ i. f i + g i) n ≡ sum_below R f n + sum_below R g n
  unfolding sum_below
  sum_below-add f g zero = sym (R.add-zero 𝟘)
  sum_below-add f g (suc n) = ap (λ s. s + (f n + g n)) (sum_below-add f g n) ∙ Laws.add_exchange R (sum_below R f n) (sum_below R g n) (f n) (g n)

  pub sum_below-mul : (c : A) (f : ℕ → A) (n : ℕ) → sum_below R (λ i. c * f i) n ≡ c * sum_below R f n
  unfolding sum_below
  sum_below-mul c f zero = sym (Laws.mul-zero R c)
  sum_below-mul c f (suc n) = ap (λ s. s + c * f n) (sum_below-mul c f n) ∙ sym (R.mul-add c (sum_below R f n) (f n))

  pub sum_below-mul_right : (f : ℕ → A) (c : A) (n : ℕ) → sum_below R (λ i. f i * c) n ≡ sum_below R f n * c
  sum_below-mul_right f c n =
      sum_below-ext (λ i. f i * c) (λ i. c * f i) n (λ i l. R.mul_comm (f i) c) ∙ sum_below-mul c f n ∙ R.mul_comm c (sum_below R f n)

  pub sum_below-neg : (f : ℕ → A) (n : ℕ) → sum_below R (λ i. - f i) n ≡ - sum_below R f n
  unfolding sum_below
  sum_below-neg f zero = sym (Laws.neg-zero R)
  sum_below-neg f (suc n) = ap (λ s. s + - f n) (sum_below-neg f n) ∙ sym (Laws.neg-add-eq R (sum_below R f n) (f n))

  -- the first term apart
  pub sum_below-first : (f : ℕ → A) (n : ℕ) → sum_below R f (suc n) ≡ f 0 + sum_below R (λ i. f (suc i)) n
  unfolding sum_below
  sum_below-first f zero = R.add_comm 𝟘 (f 0)
  sum_below-first f (suc n) = ap (λ s. s + f (suc n)) (sum_below-first f n) ∙ R.add_assoc (f 0) (sum_below R (λ i. f (suc i)) n) (f (suc n))

  -- splitting
  pub sum_below-split : (f : ℕ → A) (m n : ℕ) → sum_below R f (Nat.◌+◌ m n) ≡ sum_below R f m + sum_below R (λ i. f (Nat.◌+◌ m i)) n
  unfolding sum_below
  sum_below-split f m zero = let e : Nat.◌+◌ m 0 ≡ m = omega arith in ap (sum_below R f) e ∙ sym (R.add-zero (sum_below R f m))
  sum_below-split f m (suc n) =
      let e : Nat.◌+◌ m (suc n) ≡ suc (Nat.◌+◌ m n) = omega arith in
      ap (sum_below R f) e ∙ ap (λ s. s + f (Nat.◌+◌ m n)) (sum_below-split f m n)
      ∙ R.add_assoc (sum_below R f m) (sum_below R (λ i. f (Nat.◌+◌ m i)) n) (f (Nat.◌+◌ m n))

  -- in the other order
  pub sum_below-reverse : (f : ℕ → A) (n : ℕ) → sum_below R f n ≡ sum_below R (λ i. f (n - suc i)) n
  unfolding sum_below
  sum_below-reverse f zero = refl
  sum_below-reverse f (suc n) =
      let e : suc n - suc 0 ≡ n = omega arith in
      ap (λ s. s + f n) (sum_below-reverse f n) ∙ R.add_comm (sum_below R (λ i. f (n - suc i)) n) (f n)
      ∙ ap₂ R.add (ap f (sym e)) (sum_below-ext (λ i. f (n - suc i)) (λ i. f (suc n - suc (suc i))) n (λ i l. ap f (omega arith)))
      ∙ sym (sum_below-first (λ i. f (suc n - suc i)) n)

  -- the order of two sums can be exchanged
  pub sum_below-exchange : (f : ℕ → ℕ → A) (m n : ℕ) → sum_below R (λ i. sum_below R (λ j. f i j) n) m ≡ sum_below R (λ j. sum_below R (λ i. f i j) m) n
  unfolding sum_below
  sum_below-exchange f zero n = sym (sum_below-zero n)
  sum_below-exchange f (suc m) n =
      ap (λ s. s + sum_below R (f m) n) (sum_below-exchange f m n) ∙ sym (sum_below-add (λ j. sum_below R (λ i. f i j) m) (f m) n)

  -- the product of two sums
  pub sum_below-product : (f g : ℕ → A) (m n : ℕ) → sum_below R f m * sum_below R g n ≡ sum_below R (λ i. sum_below R (λ j. f i * g j) n) m
  unfolding sum_below
  sum_below-product f g zero n = Laws.zero-mul R (sum_below R g n)
  sum_below-product f g (suc m) n =
      Laws.add-mul R (sum_below R f m) (f m) (sum_below R g n) ∙ ap₂ R.add (sum_below-product f g m n) (sym (sum_below-mul (f m) g n))

  -- the terms f i j with j ≤ i < n, by rows and by columns, as in the product of two power series
  pub sum_below-triangle : (f : ℕ → ℕ → A) (n : ℕ)
      → sum_below R (λ i. sum_below R (λ j. f i j) (suc i)) n ≡ sum_below R (λ j. sum_below R (λ k. f (Nat.◌+◌ j k) j) (n - j)) n
  unfolding sum_below
  sum_below-triangle f zero = refl
  sum_below-triangle f (suc n) =
      let one_more : suc n - n ≡ 1 = omega arith in
      let last : sum_below R (λ k. f (Nat.◌+◌ n k) n) (suc n - n) ≡ f n n =
      ap (sum_below R (λ k. f (Nat.◌+◌ n k) n)) one_more ∙ Laws.zero-add R (f (Nat.◌+◌ n 0) n) ∙ ap (λ k. f k n) (omega arith) in
      let column : (j : ℕ) → j < n → sum_below R (λ k. f (Nat.◌+◌ j k) j) (suc n - j) ≡ sum_below R (λ k. f (Nat.◌+◌ j k) j) (n - j) + f n j =
      λ j l.
      let longer : suc n - j ≡ suc (n - j) = omega arith in
      let top : Nat.◌+◌ j (n - j) ≡ n = omega arith in
      ap (sum_below R (λ k. f (Nat.◌+◌ j k) j)) longer ∙ ap (λ k. sum_below R (λ k. f (Nat.◌+◌ j k) j) (n - j) + f k j) top in
      ap (λ s. s + sum_below R (f n) (suc n)) (sum_below-triangle f n)
      ∙ sym (R.add_assoc (sum_below R (λ j. sum_below R (λ k. f (Nat.◌+◌ j k) j) (n - j)) n) (sum_below R (f n) n) (f n n))
      ∙ ap₂ R.add (sym (sum_below-ext (λ j. sum_below R (λ k. f (Nat.◌+◌ j k) j) (suc n - j)) (λ j. sum_below R (λ k. f (Nat.◌+◌ j k) j) (n - j) + f n j) n column
      ∙ sum_below-add (λ j. sum_below R (λ k. f (Nat.◌+◌ j k) j) (n - j)) (f n) n)) (sym last)

  -- a sum of differences
  pub sum_below-telescope : (f : ℕ → A) (n : ℕ) → sum_below R (λ i. f (suc i) − f i) n ≡ f n − f 0
  unfolding sum_below
  sum_below-telescope f zero = sym (R.add-neg (f 0))
  sum_below-telescope f (suc n) =
      ap (λ s. s + (f (suc n) − f n)) (sum_below-telescope f n)
      ∙ ring R (f 0 ∷ f n ∷ f (suc n) ∷ []) (search reading depth 20 fits 4000) refl

  -- n equal terms
  pub sum_below-constant : (c : A) (n : ℕ) → sum_below R (λ i. c) n ≡ of_nat R n * c
  unfolding sum_below of_nat
  sum_below-constant c zero = sym (Laws.zero-mul R c)
  sum_below-constant c (suc n) =
      ap (λ s. s + c) (sum_below-constant c n) ∙ R.add_comm (of_nat R n * c) c ∙ ap (λ s. s + of_nat R n * c) (sym (Laws.one-mul R c))
      ∙ sym (Laws.add-mul R 𝟙 (of_nat R n) c)

  pub sum_below-derive : (D : Derivation R) (f : ℕ → A) (n : ℕ) → D.derive (sum_below R f n) ≡ sum_below R (λ i. D.derive (f i)) n
  unfolding sum_below
  sum_below-derive D f zero = derive-zero D
  sum_below-derive D f (suc n) = D.derive-add (sum_below R f n) (f n) ∙ ap (λ s. s + D.derive (f n)) (sum_below-derive D f n)
