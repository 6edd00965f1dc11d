-- Newton's identities: the power sums of x_1, .., x_m give the elementary symmetric functions, and these the coefficients of Π (t - x_i).
use Rattle.std.specs.Prelude.{◌≡◌, ℕ, zero, suc, ◌<◌, ◌≤◌, List, [], ◌∷◌, length}
use Prim.Native.Nat as Nat
use Rattle.std.proofs.Common.{refl, sym, ap, ap₂, ◌∙◌, arith}
use Rattle.risch_ring.specs.CommRing.{CommRing, Field, power, of_nat, HasCharacteristicZero}
use Rattle.risch_ring.proofs.Laws as Laws
use Rattle.risch_ring.proofs.Expression.{reading}
use Rattle.risch_ring.proofs.Solver.{ring}
use Rattle.risch_univariate.specs.Polynomial.{Polynomial, coefficient}
use Rattle.risch_ring.proofs.FieldLaws as FieldLaws
use Rattle.risch_univariate.proofs.Degree as Degree
use Rattle.risch_ring.specs.Operators.{operators}
use Rattle.risch_univariate.specs.PolynomialRing.{polynomials}
use Rattle.risch_univariate.proofs.Coefficients.{coefficient-constant-zero}
use Rattle.risch_ring.specs.CommRing.{RingMap}
use Rattle.risch_ring.specs.Sums.{sum_over}
use Rattle.risch_ring.proofs.RingMaps as RingMaps
use Rattle.risch_extension.specs.LinearFactors.{linear, product_of_linear}
use Rattle.risch_extension.specs.SymmetricFunctions.{elementary, power_sum, alternating, signed}
use Rattle.risch_extension.proofs.LinearFactors.{product_of_linear-nil, product_of_linear-cons, size-product_of_linear}

module _ {A : Type 0} (K : CommRing A) where
  open (operators K) use {𝟘, 𝟙, ◌+◌, ◌*◌, -◌}

  alternating_ext : (f f' g g' : ℕ → A) → ((i : ℕ) → f i ≡ f' i) → ((i : ℕ) → g i ≡ g' i) → (i : ℕ) → alternating K f g i ≡ alternating K f' g' i
  unfolding alternating
  alternating_ext f f' g g' e h zero = ap₂ K.mul (e 0) (h 0)
  alternating_ext f f' g g' e h (suc i) = ap₂ (λ x y. x + - y) (ap₂ K.mul (e (suc i)) (h 0)) (alternating_ext f f' (λ j. g (suc j)) (λ j. g' (suc j)) e (λ j. h (suc j)) i)

  -- only f(0), .., f(i) count
  alternating_below : (f f' g : ℕ → A) (i : ℕ) → ((k : ℕ) → k ≤ i → f k ≡ f' k) → alternating K f g i ≡ alternating K f' g i
  unfolding alternating
  alternating_below f f' g zero e = ap (λ x. x * g 0) (e 0 (omega arith))
  alternating_below f f' g (suc i) e =
      ap₂ (λ x y. x * g 0 + - y) (e (suc i) (omega arith)) (alternating_below f f' (λ j. g (suc j)) i (λ k l. e k (omega (arith, l))))

  alternating_add_left : (f f' g : ℕ → A) (i : ℕ) → alternating K (λ k. f k + f' k) g i ≡ alternating K f g i + alternating K f' g i
  unfolding alternating
  alternating_add_left f f' g zero = Laws.add-mul K (f 0) (f' 0) (g 0)
  alternating_add_left f f' g (suc i) =
      ap (λ y. (f (suc i) + f' (suc i)) * g 0 + - y) (alternating_add_left f f' (λ j. g (suc j)) i)
      ∙ identity (f (suc i)) (f' (suc i)) (g 0) (alternating K f (λ j. g (suc j)) i) (alternating K f' (λ j. g (suc j)) i)
    where
      identity : (a b c u v : A) → (a + b) * c + - (u + v) ≡ a * c + - u + (b * c + - v)
      identity a b c u v = ring K (a ∷ b ∷ c ∷ u ∷ v ∷ []) (search reading depth 20 fits 9000) refl

  alternating_add_right : (f g g' : ℕ → A) (i : ℕ) → alternating K f (λ k. g k + g' k) i ≡ alternating K f g i + alternating K f g' i
  unfolding alternating
  alternating_add_right f g g' zero = K.mul-add (f 0) (g 0) (g' 0)
  alternating_add_right f g g' (suc i) =
      ap (λ y. f (suc i) * (g 0 + g' 0) + - y) (alternating_add_right f (λ j. g (suc j)) (λ j. g' (suc j)) i)
      ∙ identity (f (suc i)) (g 0) (g' 0) (alternating K f (λ j. g (suc j)) i) (alternating K f (λ j. g' (suc j)) i)
    where
      identity : (a b c u v : A) → a * (b + c) + - (u + v) ≡ a * b + - u + (a * c + - v)
      identity a b c u v = ring K (a ∷ b ∷ c ∷ u ∷ v ∷ []) (search reading depth 20 fits 9000) refl

  alternating_mul_left : (c : A) (f g : ℕ → A) (i : ℕ) → alternating K (λ k. c * f k) g i ≡ c * alternating K f g i
  unfolding alternating
  alternating_mul_left c f g zero = K.mul_assoc c (f 0) (g 0)
  alternating_mul_left c f g (suc i) =
      ap (λ y. c * f (suc i) * g 0 + - y) (alternating_mul_left c f (λ j. g (suc j)) i) ∙ identity c (f (suc i)) (g 0) (alternating K f (λ j. g (suc j)) i)
    where
      identity : (c a b u : A) → c * a * b + - (c * u) ≡ c * (a * b + - u)
      identity c a b u = ring K (c ∷ a ∷ b ∷ u ∷ []) (search reading depth 20 fits 9000) refl

  alternating_mul_right : (c : A) (f g : ℕ → A) (i : ℕ) → alternating K f (λ k. c * g k) i ≡ c * alternating K f g i
  unfolding alternating
  alternating_mul_right c f g zero = Laws.mul_left_comm K (f 0) c (g 0)
  alternating_mul_right c f g (suc i) =
      ap (λ y. f (suc i) * (c * g 0) + - y) (alternating_mul_right c f (λ j. g (suc j)) i) ∙ identity c (f (suc i)) (g 0) (alternating K f (λ j. g (suc j)) i)
    where
      identity : (c a b u : A) → a * (c * b) + - (c * u) ≡ c * (a * b + - u)
      identity c a b u = ring K (c ∷ a ∷ b ∷ u ∷ []) (search reading depth 20 fits 9000) refl

  -- 0, f(0), f(1), ..
  shift : (ℕ → A) → ℕ → A
  shift f zero = 𝟘
  shift f (suc i) = f i

  alternating_shift-zero : (f g : ℕ → A) → alternating K (shift f) g 0 ≡ 𝟘
  unfolding alternating shift
  alternating_shift-zero f g = Laws.zero-mul K (g 0)

  alternating_shift-suc : (f g : ℕ → A) (i : ℕ) → alternating K (shift f) g (suc i) ≡ alternating K f g i
  unfolding alternating shift
  alternating_shift-suc f g zero =
      ap (λ y. f 0 * g 0 + - y) (Laws.zero-mul K (g 1)) ∙ ap (λ y. f 0 * g 0 + y) (Laws.neg-zero K) ∙ K.add-zero (f 0 * g 0)
  alternating_shift-suc f g (suc i) = ap (λ y. f (suc i) * g 0 + - y) (alternating_shift-suc f (λ j. g (suc j)) i)

  -- f + x·(shift f) against x, x², x³, .. is x·f: the sum telescopes
  telescope : (x : A) (f : ℕ → A) (i : ℕ) → alternating K (λ k. f k + x * shift f k) (λ j. power K x (suc j)) i ≡ x * f i
  unfolding alternating shift power
  telescope x f zero = identity (f 0) x
    where
      identity : (a x : A) → (a + x * 𝟘) * (x * 𝟙) ≡ x * a
      identity a x = ring K (a ∷ x ∷ []) (search reading depth 20 fits 9000) refl
  telescope x f (suc i) =
      ap (λ y. (f (suc i) + x * f i) * (x * 𝟙) + - y) (alternating_mul_right x (λ k. f k + x * shift f k) (λ j. power K x (suc j)) i ∙ ap (λ y. x * y) (telescope x f i))
      ∙ identity (f (suc i)) (f i) x
    where
      identity : (a b x : A) → (a + x * b) * (x * 𝟙) + - (x * (x * b)) ≡ x * a
      identity a b x = ring K (a ∷ b ∷ x ∷ []) (search reading depth 20 fits 9000) refl

  elementary-cons : (x : A) (xs : List A) (i : ℕ) → elementary K i (x ∷ xs) ≡ elementary K i xs + x * shift (λ k. elementary K k xs) i
  unfolding elementary shift
  elementary-cons x xs zero = sym (ap (λ y. 𝟙 + y) (Laws.mul-zero K x) ∙ K.add-zero 𝟙)
  elementary-cons x xs (suc i) = refl

  alternating_zero : (f g : ℕ → A) → ((j : ℕ) → g j ≡ 𝟘) → (i : ℕ) → alternating K f g i ≡ 𝟘
  unfolding alternating
  alternating_zero f g h zero = ap (λ y. f 0 * y) (h 0) ∙ Laws.mul-zero K (f 0)
  alternating_zero f g h (suc i) =
      ap₂ (λ y z. f (suc i) * y + - z) (h 0) (alternating_zero f (λ j. g (suc j)) (λ j. h (suc j)) i)
      ∙ ap₂ K.add (Laws.mul-zero K (f (suc i))) (Laws.neg-zero K) ∙ K.add-zero 𝟘

  elementary-nil : (i : ℕ) → elementary K (suc i) [] ≡ 𝟘
  unfolding elementary
  elementary-nil i = refl

  -- e_0 = 1
  pub elementary-zero : (xs : List A) → elementary K 0 xs ≡ 𝟙
  unfolding elementary
  elementary-zero xs = refl

  -- e_(i + 1) of x, x_1, .. is e_(i + 1) of x_1, .. and x·e_i of these
  pub elementary-suc : (x : A) (xs : List A) (i : ℕ) → elementary K (suc i) (x ∷ xs) ≡ elementary K (suc i) xs + x * elementary K i xs
  unfolding elementary
  elementary-suc x xs i = refl

  power_sum-nil : (i : ℕ) → power_sum K i [] ≡ 𝟘
  unfolding sum_over
  power_sum-nil i = refl

  power_sum-cons : (x : A) (xs : List A) (i : ℕ) → power_sum K i (x ∷ xs) ≡ power K x i + power_sum K i xs
  unfolding sum_over
  power_sum-cons x xs i = refl

  -- Newton: (i + 1)·e_(i+1) = Σ over j ≤ i of (-1)^j·e_(i-j)·p_(j+1)
  pub newton : (xs : List A) (i : ℕ) → of_nat K (suc i) * elementary K (suc i) xs ≡ alternating K (λ k. elementary K k xs) (λ j. power_sum K (suc j) xs) i
  newton [] i =
      ap (λ y. of_nat K (suc i) * y) (elementary-nil i) ∙ Laws.mul-zero K (of_nat K (suc i))
      ∙ sym (alternating_zero (λ k. elementary K k []) (λ j. power_sum K (suc j) []) (λ j. power_sum-nil (suc j)) i)
  newton (x ∷ xs) i = cases i (λ k. newton xs k) ∙ sym expand
    where
      e : ℕ → A
      e k = elementary K k xs

      p : ℕ → A
      p j = power_sum K (suc j) xs

      expand : alternating K (λ k. elementary K k (x ∷ xs)) (λ j. power_sum K (suc j) (x ∷ xs)) i ≡ x * e i + (alternating K e p i + x * alternating K (shift e) p i)
      expand =
          alternating_ext _ (λ k. e k + x * shift e k) _ (λ j. power K x (suc j) + p j) (elementary-cons x xs) (λ j. power_sum-cons x xs (suc j)) i
          ∙ alternating_add_right (λ k. e k + x * shift e k) (λ j. power K x (suc j)) p i
          ∙ ap₂ K.add (telescope x e i)
          (alternating_add_left e (λ k. x * shift e k) p i ∙ ap (λ y. alternating K e p i + y) (alternating_mul_left x (shift e) p i))

      first : (n a x b z : A) → n ≡ 𝟘 → z ≡ 𝟘 → b ≡ 𝟙 → (𝟙 + n) * (a + x * b) ≡ x * b + ((𝟙 + n) * a + x * z)
      first n a x b z hn hz hb =
          ap₂ (λ m w. (𝟙 + m) * (a + x * w)) hn hb ∙ identity a x ∙ ap₂ (λ m w. x * w + ((𝟙 + m) * a + x * 𝟘)) (sym hn) (sym hb) ∙ ap (λ w. x * b + ((𝟙 + n) * a + x * w)) (sym hz)
        where
          identity : (a x : A) → (𝟙 + 𝟘) * (a + x * 𝟙) ≡ x * 𝟙 + ((𝟙 + 𝟘) * a + x * 𝟘)
          identity a x = ring K (a ∷ x ∷ []) (search reading depth 20 fits 9000) refl

      next : (n a x b : A) → (𝟙 + n) * (a + x * b) ≡ x * b + ((𝟙 + n) * a + x * (n * b))
      next n a x b = ring K (n ∷ a ∷ x ∷ b ∷ []) (search reading depth 20 fits 9000) refl

      cases : (i : ℕ) → ((k : ℕ) → of_nat K (suc k) * e (suc k) ≡ alternating K e p k)
          → of_nat K (suc i) * elementary K (suc i) (x ∷ xs) ≡ x * e i + (alternating K e p i + x * alternating K (shift e) p i)
      cases zero ih =
          ap₂ K.mul (Laws.of_nat-suc K 0) (elementary-suc x xs 0)
          ∙ first (of_nat K 0) (e 1) x (e 0) (alternating K (shift e) p 0) (Laws.of_nat-zero K) (alternating_shift-zero e p) (elementary-zero xs)
          ∙ ap (λ y. x * e 0 + (y + x * alternating K (shift e) p 0)) (ap (λ y. y * e 1) (sym (Laws.of_nat-suc K 0)) ∙ ih 0)
      cases (suc k) ih =
          ap₂ K.mul (Laws.of_nat-suc K (suc k)) (elementary-suc x xs (suc k))
          ∙ next (of_nat K (suc k)) (e (suc (suc k))) x (e (suc k))
          ∙ ap₂ (λ y z. x * e (suc k) + (y + x * z)) (ap (λ y. y * e (suc (suc k))) (sym (Laws.of_nat-suc K (suc k))) ∙ ih (suc k)) (ih k ∙ sym (alternating_shift-suc e p k))

  -- e_i = 0 for i > m
  pub elementary-beyond : (xs : List A) (i : ℕ) → length xs < i → elementary K i xs ≡ 𝟘
  elementary-beyond xs zero l = absurd (omega (arith, l))
  elementary-beyond [] (suc i) l = elementary-nil i
  elementary-beyond (x ∷ xs) (suc i) l =
      elementary-suc x xs i ∙ ap₂ (λ y z. y + x * z) (elementary-beyond xs (suc i) (omega (arith, l))) (elementary-beyond xs i (omega (arith, l)))
      ∙ ap (λ y. 𝟘 + y) (Laws.mul-zero K x) ∙ K.add-zero 𝟘

  -- terms that are equal give equal alternating sums
  pub alternating-ext : (f g h : ℕ → A) → ((j : ℕ) → g j ≡ h j) → (i : ℕ) → alternating K f g i ≡ alternating K f h i
  alternating-ext f g h e = alternating_ext f f g h (λ j. refl) e

-- a homomorphism maps alternating sums to alternating sums
pub apply-alternating : {A B : Type 0} {R : CommRing A} {S : CommRing B} (f : RingMap R S) (u v : ℕ → A) (i : ℕ)
    → f.apply (alternating R u v i) ≡ alternating S (λ k. f.apply (u k)) (λ k. f.apply (v k)) i
unfolding alternating
apply-alternating f u v zero = f.apply-mul (u 0) (v 0)
apply-alternating {S = S} f u v (suc i) =
    f.apply-add _ _ ∙ ap₂ S.add (f.apply-mul (u (suc i)) (v 0)) (RingMaps.apply-neg f _ ∙ ap S.neg (apply-alternating f u (λ j. v (suc j)) i))

-- f((-1)^i·a) = (-1)^i·f(a)
pub apply-signed : {A B : Type 0} {R : CommRing A} {S : CommRing B} (f : RingMap R S) (i : ℕ) (a : A) → f.apply (signed R i a) ≡ signed S i (f.apply a)
apply-signed f zero a = refl
apply-signed {S = S} f (suc i) a = RingMaps.apply-neg f _ ∙ ap S.neg (apply-signed f i a)

module _ {A : Type 0} (F : Field A) where
  abbrev R : CommRing (Polynomial F)
  R = polynomials F

  -- the e_i are the only solution of Newton's equations with e_0 = 1, in characteristic 0
  pub newton_unique : HasCharacteristicZero F.ring → (xs : List A) (c : ℕ → A) → c 0 ≡ F.one
      → ((i : ℕ) → F.mul (of_nat F.ring (suc i)) (c (suc i)) ≡ alternating F.ring c (λ j. power_sum F.ring (suc j) xs) i)
      → (n i : ℕ) → i ≤ n → c i ≡ elementary F.ring i xs
  newton_unique char xs c h0 h n zero l = h0 ∙ sym (elementary-zero F.ring xs)
  newton_unique char xs c h0 h zero (suc i) l = absurd (omega (arith, l))
  newton_unique char xs c h0 h (suc n) (suc i) l =
      FieldLaws.mul_left_cancel F (of_nat F.ring (suc i)) (c (suc i)) (elementary F.ring (suc i) xs) (char i)
      (h i
      ∙ alternating_below F.ring c (λ k. elementary F.ring k xs) (λ j. power_sum F.ring (suc j) xs) i (λ k m. newton_unique char xs c h0 h n k (omega (arith, l, m)))
      ∙ sym (newton F.ring xs i))

  -- the coefficients of (t - x)·p
  linear_mul-zero : (x : A) (p : Polynomial F) → coefficient F (R.mul (linear F x) p) 0 ≡ F.mul (F.neg x) (coefficient F p 0)
  linear_mul-zero x p = Degree.horner_mul-zero F (F.neg x) R.one p

  linear_mul-suc : (x : A) (p : Polynomial F) (i : ℕ) → coefficient F (R.mul (linear F x) p) (suc i) ≡ F.add (F.mul (F.neg x) (coefficient F p (suc i))) (coefficient F p i)
  linear_mul-suc x p i =
      Degree.horner_mul-suc F (F.neg x) R.one p i ∙ ap (λ z. F.add (F.mul (F.neg x) (coefficient F p (suc i))) (coefficient F z i)) (Laws.one-mul R p)

  signed-add : (i : ℕ) (a b : A) → signed F.ring i (F.add a b) ≡ F.add (signed F.ring i a) (signed F.ring i b)
  signed-add zero a b = refl
  signed-add (suc i) a b = ap F.neg (signed-add i a b) ∙ Laws.neg-add-eq F.ring (signed F.ring i a) (signed F.ring i b)

  signed-mul : (i : ℕ) (x a : A) → signed F.ring i (F.mul x a) ≡ F.mul x (signed F.ring i a)
  signed-mul zero x a = refl
  signed-mul (suc i) x a = ap F.neg (signed-mul i x a) ∙ sym (Laws.mul-neg F.ring x (signed F.ring i a))

  -- (-x)·s + (-r) = -(r + x·s)
  step_identity : (x r s : A) → F.add (F.mul (F.neg x) s) (F.neg r) ≡ F.neg (F.add r (F.mul x s))
  step_identity x r s = ring F.ring (x ∷ r ∷ s ∷ []) (search reading depth 20 fits 9000) refl

  -- (-1)^(i+1)·(b + x·a) = -((-1)^i·b + x·(-1)^i·a)
  signed_step : (i : ℕ) (x a b : A) → F.neg (F.add (signed F.ring i b) (F.mul x (signed F.ring i a))) ≡ signed F.ring (suc i) (F.add b (F.mul x a))
  signed_step i x a b = ap F.neg (ap (F.add (signed F.ring i b)) (sym (signed-mul i x a)) ∙ sym (signed-add i b (F.mul x a)))

  -- the coefficient of t^k in Π (t - x_i) is (-1)^i·e_i, for k + i = m
  pub coefficient-product_of_linear : (xs : List A) (k i : ℕ) → Nat.◌+◌ k i ≡ length xs → coefficient F (product_of_linear F xs) k ≡ signed F.ring i (elementary F.ring i xs)
  coefficient-product_of_linear [] zero zero e =
      ap (λ z. coefficient F z 0) (product_of_linear-nil F ∙ sym (Degree.constant-one F)) ∙ coefficient-constant-zero F F.one ∙ sym (elementary-zero F.ring [])
  coefficient-product_of_linear [] zero (suc i) e = absurd (omega (arith, e))
  coefficient-product_of_linear [] (suc k) i e = absurd (omega (arith, e))
  coefficient-product_of_linear (x ∷ xs) zero zero e = absurd (omega (arith, e))
  coefficient-product_of_linear (x ∷ xs) zero (suc i) e =
      let a = elementary F.ring i xs in
      let b = elementary F.ring (suc i) xs in
      let b_zero : b ≡ F.zero = elementary-beyond F.ring xs (suc i) (omega (arith, e)) in
      ap (λ z. coefficient F z 0) (product_of_linear-cons F x xs) ∙ linear_mul-zero x (product_of_linear F xs)
      ∙ ap (F.mul (F.neg x)) (coefficient-product_of_linear xs zero i (omega (arith, e)))
      ∙ Laws.neg-mul F.ring x (signed F.ring i a)
      ∙ ap F.neg (sym (signed-mul i x a) ∙ ap (signed F.ring i) (sym (ap (λ z. F.add z (F.mul x a)) b_zero ∙ Laws.zero-add F.ring (F.mul x a)) ∙ sym (elementary-suc F.ring x xs i)))
  coefficient-product_of_linear (x ∷ xs) (suc k) zero e =
      ap (λ z. coefficient F z (suc k)) (product_of_linear-cons F x xs) ∙ linear_mul-suc x (product_of_linear F xs) k
      ∙ ap₂ (λ y z. F.add (F.mul (F.neg x) y) z)
      (Degree.below_size F (product_of_linear F xs) (suc k) (let s = size-product_of_linear F xs in omega (arith, s, e)))
      (coefficient-product_of_linear xs k zero (omega (arith, e)))
      ∙ ap (λ z. F.add z (elementary F.ring 0 xs)) (Laws.mul-zero F.ring (F.neg x)) ∙ Laws.zero-add F.ring (elementary F.ring 0 xs)
      ∙ elementary-zero F.ring xs ∙ sym (elementary-zero F.ring (x ∷ xs))
  coefficient-product_of_linear (x ∷ xs) (suc k) (suc i) e =
      let a = elementary F.ring i xs in
      let b = elementary F.ring (suc i) xs in
      ap (λ z. coefficient F z (suc k)) (product_of_linear-cons F x xs) ∙ linear_mul-suc x (product_of_linear F xs) k
      ∙ ap₂ (λ y z. F.add (F.mul (F.neg x) y) z)
      (coefficient-product_of_linear xs (suc k) i (omega (arith, e))) (coefficient-product_of_linear xs k (suc i) (omega (arith, e)))
      ∙ step_identity x (signed F.ring i b) (signed F.ring i a)
      ∙ signed_step i x a b ∙ ap (signed F.ring (suc i)) (sym (elementary-suc F.ring x xs i))
