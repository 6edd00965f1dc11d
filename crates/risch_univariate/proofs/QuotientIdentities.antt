-- The identities of commutative rings on which the laws of K(t) rest: the operations on fractions a/b, the quotient rule, orders and Hermite's step.
use Rattle.std.specs.Prelude.{◌≡◌, refl, [], ◌∷◌}
use Rattle.std.proofs.Common.{ap₂}
use Rattle.risch_ring.specs.CommRing.{CommRing}
use Rattle.risch_ring.specs.Operators.{operators}
use Rattle.risch_ring.proofs.Expression.{reading}
use Rattle.risch_ring.proofs.Solver.{ring, linear}

module _ {A : Type 0} (R : CommRing A) where
  open (operators R) use {𝟙, ◌+◌, ◌-◌, ◌*◌, -◌}

  -- (c·x)·(y·g) = (x·g)·(c·y)
  pub reduced_identity : (c x y g : A) → c * x * (y * g) ≡ x * g * (c * y)
  reduced_identity c x y g = ring R (c ∷ x ∷ y ∷ g ∷ []) (search reading depth 40 fits 9000) refl

  -- ((a·d + c·b)·f + e·(b·d))·(b·(d·f)) = (a·(d·f) + (c·f + e·d)·b)·((b·d)·f)
  pub add_fractions_assoc_identity : (a b c d e f : A)
      → ((a * d + c * b) * f + e * (b * d)) * (b * (d * f)) ≡ (a * (d * f) + (c * f + e * d) * b) * (b * d * f)
  add_fractions_assoc_identity a b c d e f = ring R (a ∷ b ∷ c ∷ d ∷ e ∷ f ∷ []) (search reading depth 40 fits 9000) refl

  -- (a·d + c·b)·(d·b) = (c·b + a·d)·(b·d)
  pub add_fractions_comm_identity : (a b c d : A) → (a * d + c * b) * (d * b) ≡ (c * b + a * d) * (b * d)
  add_fractions_comm_identity a b c d = ap₂ R.mul (R.add_comm (a * d) (c * b)) (R.mul_comm d b)

  -- (a·(c·f + e·d))·((b·d)·(b·f)) = ((a·c)·(b·f) + (a·e)·(b·d))·(b·(d·f))
  pub mul-add_fractions_identity : (a b c d e f : A)
      → a * (c * f + e * d) * (b * d * (b * f)) ≡ (a * c * (b * f) + a * e * (b * d)) * (b * (d * f))
  mul-add_fractions_identity a b c d e f = ring R (a ∷ b ∷ c ∷ d ∷ e ∷ f ∷ []) (search reading depth 40 fits 9000) refl

  -- (n·(b·d))·(e·f) = ..., for the sum of fractions x/e = a/b and y/f = c/d
  pub add_represents_identity : (x y e f b d : A) → (x * f + y * e) * (b * d) ≡ x * b * (f * d) + y * d * (e * b)
  add_represents_identity x y e f b d = ring R (x ∷ y ∷ e ∷ f ∷ b ∷ d ∷ []) (search reading depth 40 fits 9000) refl

  -- (a·e)·(f·d) + (c·f)·(e·b) = (a·d + c·b)·(e·f)
  pub add_represents_identity' : (a c e f b d : A) → a * e * (f * d) + c * f * (e * b) ≡ (a * d + c * b) * (e * f)
  add_represents_identity' a c e f b d = ring R (a ∷ c ∷ e ∷ f ∷ b ∷ d ∷ []) (search reading depth 40 fits 9000) refl

  -- n/e = a/b, and the derivative of n·b = a·e, give (n'·e - n·e')/e² = (a'·b - a·b')/b²
  pub derive_represents : (n e a b n' e' a' b' : A) → n * b ≡ a * e → n' * b + n * b' ≡ a' * e + a * e'
      → (n' * e - n * e') * (b * b) ≡ (a' * b - a * b') * (e * e)
  derive_represents n e a b n' e' a' b' h k =
      linear R (- (e' * b + b' * e)) h (linear R (e * b) k (ring R (n ∷ e ∷ a ∷ b ∷ n' ∷ e' ∷ a' ∷ b' ∷ []) (search reading depth 30 fits 9000) refl))

  -- the derivative of a/b + c/d
  pub derive_sum_of_fractions : (a b c d a' b' c' d' : A)
      → ((a' * d + a * d' + (c' * b + c * b')) * (b * d) - (a * d + c * b) * (b' * d + b * d')) * (b * b * (d * d))
      ≡ ((a' * b - a * b') * (d * d) + (c' * d - c * d') * (b * b)) * (b * d * (b * d))
  derive_sum_of_fractions a b c d a' b' c' d' = ring R (a ∷ b ∷ c ∷ d ∷ a' ∷ b' ∷ c' ∷ d' ∷ []) (search reading depth 40 fits 9000) refl

  -- the derivative of a/b·c/d
  pub derive_product_of_fractions : (a b c d a' b' c' d' : A)
      → ((a' * c + a * c') * (b * d) - a * c * (b' * d + b * d')) * (b * b * d * (b * (d * d)))
      ≡ ((a' * b - a * b') * c * (b * (d * d)) + a * (c' * d - c * d') * (b * b * d)) * (b * d * (b * d))
  derive_product_of_fractions a b c d a' b' c' d' = ring R (a ∷ b ∷ c ∷ d ∷ a' ∷ b' ∷ c' ∷ d' ∷ []) (search reading depth 40 fits 9000) refl

  -- p·(x·(v·b) - (u·a)·y) = (u·v)·(x'·b - a·y'), where p·x = u·x' and p·y = v·y'
  pub order_numerator : (p u v a b x y x' y' : A) → p * x ≡ u * x' → p * y ≡ v * y' → p * (x * (v * b) - u * a * y) ≡ u * v * (x' * b - a * y')
  order_numerator p u v a b x y x' y' h k =
      linear R (v * b) h (linear R (- (u * a)) k (ring R (p ∷ u ∷ v ∷ a ∷ b ∷ x ∷ y ∷ x' ∷ y' ∷ []) (search reading depth 20 fits 9000) refl))

  -- (m·(d·a) + p·a')·b - a·(n·(d·b) + p·b') = (m - n)·(d·(a·b)) + p·(a'·b - a·b')
  pub order_leading : (m n d a b p a' b' : A) → (m * (d * a) + p * a') * b - a * (n * (d * b) + p * b') ≡ (m - n) * (d * (a * b)) + p * (a' * b - a * b')
  order_leading m n d a b p a' b' = ring R (m ∷ n ∷ d ∷ a ∷ b ∷ p ∷ a' ∷ b' ∷ []) (search reading depth 20 fits 9000) refl

  -- (v·b)·(v·b)·p = (v·v·p)·(b·b)
  pub order_denominator : (p v b : A) → p * (v * b * (v * b)) ≡ v * v * p * (b * b)
  order_denominator p v b = ring R (p ∷ v ∷ b ∷ []) (search reading depth 20 fits 9000) refl

  -- the sum of u·a/(v·b) and u'·c/(v'·d), where u'·v = u·v'·k
  pub order_sum : (u v u' v' a b c d k : A) → u' * v ≡ u * v' * k → u * a * (v' * d) + u' * c * (v * b) ≡ u * v' * (a * d + k * (c * b))
  order_sum u v u' v' a b c d k h = linear R (c * b) h (ring R (u ∷ v ∷ u' ∷ v' ∷ a ∷ b ∷ c ∷ d ∷ k ∷ []) (search reading depth 20 fits 9000) refl)

  -- x·b = a·e and x·d = c·e give e·(a·d) = e·(c·b)
  pub cross_of_both : (x e a b c d : A) → x * b ≡ a * e → x * d ≡ c * e → e * (a * d) ≡ e * (c * b)
  cross_of_both x e a b c d h k = linear R (- d) h (linear R b k (ring R (x ∷ e ∷ a ∷ b ∷ c ∷ d ∷ []) (search reading depth 20 fits 9000) refl))

  -- Hermite's step, with w = v^(j-1): from j·(b·(u·v') + c·v) = -a the cross products of both sides agree
  pub hermite_identity : (a b c u v w b' v' j : A) → j * (b * (u * v') + c * v) ≡ - a
      → a * (v * w * (v * w) * (u * (v * w))) ≡ ((b' * (v * w) + - (b * (j * (w * v')))) * (u * (v * w)) + (- (j * c) - u * b') * (v * w * (v * w))) * (u * (v * (v * w)))
  hermite_identity a b c u v w b' v' j h =
      linear R (u * (v * v * v) * (w * w * w)) h (ring R (a ∷ b ∷ c ∷ u ∷ v ∷ w ∷ b' ∷ v' ∷ j ∷ []) (search reading depth 30 fits 9000) refl)

  -- (x·u)·(v·b) - (u·a)·(y·v) = (u·v)·(x·b - a·y)
  pub special_numerator : (u v a b x y : A) → x * u * (v * b) - u * a * (y * v) ≡ u * v * (x * b - a * y)
  special_numerator u v a b x y = ring R (u ∷ v ∷ a ∷ b ∷ x ∷ y ∷ []) (search reading depth 20 fits 9000) refl
