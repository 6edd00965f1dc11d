-- The identities of commutative rings on which the laws of K[t] rest: Leibniz's rule, division, congruences and partial fractions.
use Rattle.std.specs.Prelude.{◌≡◌, refl, [], ◌∷◌}
use Rattle.std.proofs.Common.{ap, ◌∙◌}
use Rattle.risch_ring.specs.CommRing.{CommRing}
use Rattle.risch_ring.proofs.Laws as Laws
use Rattle.risch_ring.specs.Operators.{operators}
use Rattle.risch_ring.proofs.Expression.{reading}
use Rattle.risch_ring.proofs.Solver.{ring, linear}

module _ {A : Type 0} (R : CommRing A) where
  open (operators R) use {𝟙, ◌+◌, ◌-◌, ◌*◌, -◌}

  -- (a + t·p)·q for the derivation of a product: both sides of Leibniz's rule at a + t·p
  pub leibniz_identity : (da q a dq w p t dp : A) → da * q + a * dq + (w * (p * q) + t * (dp * q + p * dq)) ≡ (da + (w * p + t * dp)) * q + (a + t * p) * dq
  leibniz_identity da q a dq w p t dp = ring R (da ∷ q ∷ a ∷ dq ∷ w ∷ p ∷ t ∷ dp ∷ []) (search reading depth 40 fits 9000) refl

  -- both sides of Leibniz's rule for a·(b + t·q) with a constant
  pub leibniz_constant_identity : (da a b db w q t dq : A) → da * b + a * db + (w * (a * q) + t * (da * q + a * dq)) ≡ da * (b + t * q) + a * (db + (w * q + t * dq))
  leibniz_constant_identity da a b db w q t dq = ring R (da ∷ a ∷ b ∷ db ∷ w ∷ q ∷ t ∷ dq ∷ []) (search reading depth 40 fits 9000) refl

  -- (x + y) + ((z + w) + (u + v)) = (x + (z + u)) + (y + (w + v))
  pub add_exchange_three : (x y z w u v : A) → x + y + (z + w + (u + v)) ≡ x + (z + u) + (y + (w + v))
  add_exchange_three x y z w u v = ring R (x ∷ y ∷ z ∷ w ∷ u ∷ v ∷ []) (search reading depth 40 fits 9000) refl

  -- (a + t·p) + (b + t·q) = (a + b) + t·(p + q)
  pub add_horner_identity : (a b t p q : A) → a + t * p + (b + t * q) ≡ a + b + t * (p + q)
  add_horner_identity a b t p q = ring R (a ∷ b ∷ t ∷ p ∷ q ∷ []) (search reading depth 40 fits 9000) refl

  -- (a + t·p)·q = a·q + t·(p·q)
  pub mul_horner_identity : (a t p q : A) → (a + t * p) * q ≡ a * q + t * (p * q)
  mul_horner_identity a t p q = Laws.add-mul R a (t * p) q ∙ ap (λ w. a * q + w) (R.mul_assoc t p q)

  -- a + (w·p + t·(k + w·d)) = (a + t·k) + w·(p + t·d)
  pub split_identity : (a w p t k d : A) → a + (w * p + t * (k + w * d)) ≡ a + t * k + w * (p + t * d)
  split_identity a w p t k d = ring R (a ∷ w ∷ p ∷ t ∷ k ∷ d ∷ []) (search reading depth 40 fits 9000) refl

  -- (m·(y·d))·b + (x·y)·e = y·((m·d)·b + x·e)
  pub derive_power_mul_identity : (m y d b x e : A) → m * (y * d) * b + x * y * e ≡ y * (m * (d * b) + x * e)
  derive_power_mul_identity m y d b x e = ring R (m ∷ y ∷ d ∷ b ∷ x ∷ e ∷ []) (search reading depth 40 fits 9000) refl

  -- s·(e·s + f·(c·s)) for the derivative of c·(s·s)
  pub derive_square_identity : (dc c s ds : A) → dc * (s * s) + c * (ds * s + s * ds) ≡ (dc * s + (c * ds + c * ds)) * s
  derive_square_identity dc c s ds = ring R (dc ∷ c ∷ s ∷ ds ∷ []) (search reading depth 40 fits 9000) refl

  -- r·a + (y + (q·a)·b) = (q·b + r)·a + y
  pub diophantine_identity : (r a y q b : A) → r * a + (y + q * a * b) ≡ (q * b + r) * a + y
  diophantine_identity r a y q b = ring R (r ∷ a ∷ y ∷ q ∷ b ∷ []) (search reading depth 40 fits 9000) refl

  -- x + (q·c + s)·b = q·(b·c) + (x + s·b)
  pub partial_fractions_identity : (x q c s b : A) → x + (q * c + s) * b ≡ q * (b * c) + (x + s * b)
  partial_fractions_identity x q c s b = ring R (x ∷ q ∷ c ∷ s ∷ b ∷ []) (search reading depth 40 fits 9000) refl

  -- r - (r + x) = -x
  pub sub_add : (r x : A) → r - (r + x) ≡ - x
  sub_add r x = ring R (r ∷ x ∷ []) (search reading depth 20 fits 9000) refl

  -- (x - a) + (y - b) = (x + y) - (a + b)
  pub add_of_differences : (x a y b : A) → x - a + (y - b) ≡ x + y - (a + b)
  add_of_differences x a y b = ring R (x ∷ a ∷ y ∷ b ∷ []) (search reading depth 20 fits 9000) refl

  -- y·(x - a) + a·(y - b) = x·y - a·b
  pub mul_of_differences : (x a y b : A) → y * (x - a) + a * (y - b) ≡ x * y - a * b
  mul_of_differences x a y b = ring R (x ∷ a ∷ y ∷ b ∷ []) (search reading depth 20 fits 9000) refl

  -- -(x - a) = -x - (-a)
  pub neg_of_difference : (x a : A) → - (x - a) ≡ - x - - a
  neg_of_difference x a = ring R (x ∷ a ∷ []) (search reading depth 20 fits 9000) refl

  -- k - (k·r)·d = (k·l)·p, where l·p + r·d = 1
  pub root_derivative : (k l p r d : A) → l * p + r * d ≡ 𝟙 → k + - (k * r) * d ≡ k * l * p
  root_derivative k l p r d h = linear R (- k) h (ring R (k ∷ l ∷ p ∷ r ∷ d ∷ []) (search reading depth 20 fits 9000) refl)

  -- (r - b) - (r - a) = a - b
  pub sub_of_differences : (r a b : A) → r - b - (r - a) ≡ a - b
  sub_of_differences r a b = ring R (r ∷ a ∷ b ∷ []) (search reading depth 20 fits 9000) refl

  -- c·(l - l') = ((w' - w)·c + (r' - r))·b
  pub partial_left : (w w' b c l l' r r' : A) → w * (b * c) + (l * c + r * b) ≡ w' * (b * c) + (l' * c + r' * b)
      → c * (l - l') ≡ ((w' - w) * c + (r' - r)) * b
  partial_left w w' b c l l' r r' h = linear R 𝟙 h (ring R (w ∷ w' ∷ b ∷ c ∷ l ∷ l' ∷ r ∷ r' ∷ []) (search reading depth 20 fits 9000) refl)

  -- b·(r - r') = ((w' - w)·b + (l' - l))·c
  pub partial_right : (w w' b c l l' r r' : A) → w * (b * c) + (l * c + r * b) ≡ w' * (b * c) + (l' * c + r' * b)
      → b * (r - r') ≡ ((w' - w) * b + (l' - l)) * c
  partial_right w w' b c l l' r r' h = linear R 𝟙 h (ring R (w ∷ w' ∷ b ∷ c ∷ l ∷ l' ∷ r ∷ r' ∷ []) (search reading depth 20 fits 9000) refl)
