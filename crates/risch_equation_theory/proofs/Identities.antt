-- The identities of commutative rings that the lemmas on the equation Dy + f·y = g rest on.
use Rattle.std.specs.Prelude.{◌≡◌, refl, [], ◌∷◌}
use Rattle.risch_ring.specs.CommRing.{CommRing}
use Rattle.risch_ring.proofs.Expression.{reading}
use Rattle.risch_ring.proofs.Solver.{ring, linear}
use Rattle.risch_ring.specs.Operators.{operators}

module _ {A : Type 0} (R : CommRing A) where
  open (operators R) use {𝟙, ◌+◌, ◌*◌, -◌, ◌-◌}

  -- D(a/(p·q·c)) with D(p·q·c) = q·(s·(p'·c) + p·c')
  pub pole_derivative : (p q c a s p' c' a' : A)
      → (a' * (p * q * c) - a * (q * (s * (p' * c) + p * c'))) * (p * (p * q) * (c * c)) ≡ (p * (a' * c - a * c') - s * (p' * (a * c))) * (p * q * c * (p * q * c))
  pole_derivative p q c a s p' c' a' = ring R (p ∷ q ∷ c ∷ a ∷ s ∷ p' ∷ c' ∷ a' ∷ []) (search reading depth 40 fits 9000) refl

  -- n/(p·p·q·c²) + u/(p·w·v)·a/(p·q·c) = (n·(w·v) + u·(a·c))/((p·w)·(p·q)·(v·c²))
  pub pole_sum : (p q c a n u w v : A)
      → (n * (p * w * v * (p * q * c)) + u * a * (p * (p * q) * (c * c))) * (p * w * (p * q) * (v * (c * c)))
      ≡ (n * (w * v) + u * (a * c)) * (p * (p * q) * (c * c) * (p * w * v * (p * q * c)))
  pole_sum p q c a n u w v = ring R (p ∷ q ∷ c ∷ a ∷ n ∷ u ∷ w ∷ v ∷ []) (search reading depth 40 fits 9000) refl

  -- the numerator of the sum modulo p
  pub pole_leading : (p c a u w v s p' c' a' : A)
      → (p * (a' * c - a * c') - s * (p' * (a * c))) * (w * v) + u * (a * c) ≡ a * c * (u - s * (v * (p' * w))) + p * ((a' * c - a * c') * (w * v))
  pole_leading p c a u w v s p' c' a' = ring R (p ∷ c ∷ a ∷ u ∷ w ∷ v ∷ s ∷ p' ∷ c' ∷ a' ∷ []) (search reading depth 40 fits 9000) refl

  -- f = u/(p·v) + q'/q for q = x·b with p·q' = x·y
  pub shifted_sum : (u p v q' x b y : A) → p * q' ≡ x * y → (u * (𝟙 * (x * b)) + q' * 𝟙 * (p * v)) * (p * (v * b)) ≡ (u * b + v * y) * (p * v * (𝟙 * (x * b)))
  shifted_sum u p v q' x b y h = linear R (v * p * v * b) h (ring R (u ∷ p ∷ v ∷ q' ∷ x ∷ b ∷ y ∷ []) (search reading depth 40 fits 9000) refl)

  -- the residue of the sum is larger by j
  pub shifted_residue : (u p v b j i p' b' : A) → u * b + v * (j * (p' * b) + p * b') - (i + j) * (v * b * p') ≡ b * (u - i * (v * p')) + p * (v * b')
  shifted_residue u p v b j i p' b' = ring R (u ∷ p ∷ v ∷ b ∷ j ∷ i ∷ p' ∷ b' ∷ []) (search reading depth 40 fits 9000) refl

  -- v·(n - l·(w·p')) = w·(u - l·(v·p')), where n·v = u·w
  pub residue_of_same : (v n l w p' u : A) → n * v ≡ u * w → v * (n - l * (w * p')) ≡ w * (u - l * (v * p'))
  residue_of_same v n l w p' u h = linear R 𝟙 h (ring R (v ∷ n ∷ l ∷ w ∷ p' ∷ u ∷ []) (search reading depth 40 fits 9000) refl)

  -- the residue n/(b·r·p') modulo p by α, where n = r·α + (p·b)·z
  pub residue_by_inverse : (n r α b p z l p' b' : A) → r * α + b * p * z ≡ n
      → r * (α - l * (b' * p + b * p')) ≡ n - l * (b * r * p') - p * (b * z + l * (r * b'))
  residue_by_inverse n r α b p z l p' b' h = linear R 𝟙 h (ring R (n ∷ r ∷ α ∷ b ∷ p ∷ z ∷ l ∷ p' ∷ b' ∷ []) (search reading depth 40 fits 9000) refl)

  -- (α - l·d) - (α - i·d) = (i - l)·d
  pub difference_of_residues : (α l i d : A) → α - l * d - (α - i * d) ≡ (i - l) * d
  difference_of_residues α l i d = ring R (α ∷ l ∷ i ∷ d ∷ []) (search reading depth 40 fits 9000) refl

  -- D(q·y) + (f - D(q)/q)·(q·y) = q·(D(y) + f·y), where i = 1/q
  pub normalized_equation : (q i y f q' y' : A) → q * i ≡ 𝟙 → q' * y + q * y' + (f - q' * i) * (q * y) ≡ q * (y' + f * y)
  normalized_equation q i y f q' y' h = linear R (- (q' * y)) h (ring R (q ∷ i ∷ y ∷ f ∷ q' ∷ y' ∷ []) (search reading depth 40 fits 9000) refl)

  -- f = (f - x) + x
  pub sub_add_cancel : (f x : A) → f ≡ f - x + x
  sub_add_cancel f x = ring R (f ∷ x ∷ []) (search reading depth 40 fits 9000) refl

  -- a·(r'/x - r·k/x) + (b/(s·w))·(r/x), where the derivative of x is x·k
  pub order_sum : (a r' r x k b s w : A)
      → (a * (r' * x - r * (x * k)) * (s * w * x) + b * r * (𝟙 * (x * x))) * (x * s * w) ≡ (s * (w * (a * (r' - k * r))) + b * r) * (𝟙 * (x * x) * (s * w * x))
  order_sum a r' r x k b s w = ring R (a ∷ r' ∷ r ∷ x ∷ k ∷ b ∷ s ∷ w ∷ []) (search reading depth 40 fits 9000) refl

  -- b·(q - r) = (z - q')·a from a·q' + b·q = b·r + a·z
  pub step_difference : (a b q q' r z : A) → a * q' + b * q ≡ b * r + a * z → b * (q - r) ≡ (z - q') * a
  step_difference a b q q' r z h = linear R 𝟙 h (ring R (a ∷ b ∷ q ∷ q' ∷ r ∷ z ∷ []) (search reading depth 40 fits 9000) refl)

  -- the equation for q = r + a·s, where s' = D(s), r' = D(r), a' = D(a)
  pub step_equation : (a b r z s a' r' s' : A) → a * (r' + (a' * s + a * s')) + b * (r + a * s) ≡ a * (a * s' + (b + a') * s) + (b * r + a * r')
  step_equation a b r z s a' r' s' = ring R (a ∷ b ∷ r ∷ s ∷ a' ∷ r' ∷ s' ∷ []) (search reading depth 40 fits 9000) refl

  -- a·x + (b·r + a·r') = b·r + a·z gives a·x = a·(z - r')
  pub step_cancel : (a b r z x r' : A) → a * x + (b * r + a * r') ≡ b * r + a * z → a * x ≡ a * (z - r')
  step_cancel a b r z x r' h = linear R 𝟙 h (ring R (a ∷ b ∷ r ∷ z ∷ x ∷ r' ∷ []) (search reading depth 40 fits 9000) refl)

  -- a·(z - r') + (b·r + a·r') = b·r + a·z
  pub step_back : (a b r z r' : A) → a * (z - r') + (b * r + a * r') ≡ b * r + a * z
  step_back a b r z r' = ring R (a ∷ b ∷ r ∷ z ∷ r' ∷ []) (search reading depth 40 fits 9000) refl

  -- (a·g)·q' + (b·g)·q = (a·q' + b·q)·g
  pub common_factor : (a b g q q' : A) → a * g * q' + b * g * q ≡ (a * q' + b * q) * g
  common_factor a b g q q' = ring R (a ∷ b ∷ g ∷ q ∷ q' ∷ []) (search reading depth 40 fits 9000) refl

  -- q' + b·q = c with q = y + s gives s' + b·s = c - (y' + b·y)
  pub without_term : (b c y s y' s' : A) → y' + s' + b * (y + s) ≡ c → s' + b * s ≡ c - (y' + b * y)
  without_term b c y s y' s' h = linear R 𝟙 h (ring R (b ∷ c ∷ y ∷ s ∷ y' ∷ s' ∷ []) (search reading depth 40 fits 9000) refl)

  -- and back
  pub with_term : (b c y s y' s' : A) → s' + b * s ≡ c - (y' + b * y) → y' + s' + b * (y + s) ≡ c
  with_term b c y s y' s' h = linear R 𝟙 h (ring R (b ∷ c ∷ y ∷ s ∷ y' ∷ s' ∷ []) (search reading depth 40 fits 9000) refl)

  -- (y' + η·(m·y)) + b·y = y' + (b + m·η)·y
  pub twisted_coefficient : (y' η m y b : A) → y' + η * (m * y) + b * y ≡ y' + (b + m * η) * y
  twisted_coefficient y' η m y b = ring R (y' ∷ η ∷ m ∷ y ∷ b ∷ []) (search reading depth 40 fits 9000) refl

  -- p·(n'·d - n·d') = x·y·(a·e - c·b) with p·n' = x·a, p·d' = y·b, n = x·c and d = y·e
  pub logarithmic_numerator : (p n n' d d' x a y b c e : A) → p * n' ≡ x * a → p * d' ≡ y * b → n ≡ x * c → d ≡ y * e
      → (n' * d - n * d') * (p * (c * e)) ≡ (a * e - c * b) * (n * d)
  logarithmic_numerator p n n' d d' x a y b c e h k l m =
      linear R (c * e * d) h (linear R (- (n * c * e)) k (linear R (- (a * e * d)) l (linear R (c * b * n) m
      (ring R (p ∷ n ∷ n' ∷ d ∷ d' ∷ x ∷ a ∷ y ∷ b ∷ c ∷ e ∷ []) (search reading depth 40 fits 9000) refl))))

  -- ((n'·d - n·d')·d)·(n·d) = (n'·d - n·d')·((d·d)·n)
  pub logarithmic_quotient : (u n d : A) → u * d * (n * d) ≡ u * (d * d * n)
  logarithmic_quotient u n d = ring R (u ∷ n ∷ d ∷ []) (search reading depth 40 fits 9000) refl

  -- s·w + (u - s·w) = u
  pub add_difference : (u s : A) → s + (u - s) ≡ u
  add_difference u s = ring R (u ∷ s ∷ []) (search reading depth 40 fits 9000) refl

  -- n·(v·(u·d)) = d·(n·u·v)
  pub rows_identity : (n v u d : A) → n * (v * (u * d)) ≡ d * (n * u * v)
  rows_identity n v u d = ring R (n ∷ v ∷ u ∷ d ∷ []) (search reading depth 40 fits 9000) refl

  -- n/d = s + p/q and w = u·d give (n·u - s·w)·q = p·w
  pub proper_identity : (n u s w q p d : A) → w ≡ u * d → n * q ≡ (s * q + p) * d → (n * u - s * w) * q ≡ p * w
  proper_identity n u s w q p d h k = linear R (- (s * q) + - p) h (linear R u k (ring R (n ∷ u ∷ s ∷ w ∷ q ∷ p ∷ d ∷ []) (search reading depth 40 fits 9000) refl))

  -- (x·m + y·m)·m = (x + y)·(m·m)
  pub common_denominator : (x y m : A) → (x * m + y * m) * m ≡ (x + y) * (m * m)
  common_denominator x y m = ring R (x ∷ y ∷ m ∷ []) (search reading depth 40 fits 9000) refl

  -- d·h·(y'·h + y·h') + (d·h·f - d·h')·(y·h) = d·(h·h)·(y' + f·y)
  pub denominator_equation : (d h f y y' h' : A) → d * h * (y' * h + y * h') + (d * h * f - d * h') * (y * h) ≡ d * (h * h) * (y' + f * y)
  denominator_equation d h f y y' h' = ring R (d ∷ h ∷ f ∷ y ∷ y' ∷ h' ∷ []) (search reading depth 40 fits 9000) refl

  -- a·(m·x·q + x·q') + b·(x·q) = x·(a·q' + (b + m·a)·q), for D(x) = m·x
  pub shift_equation : (a b m x q q' : A) → a * (m * x * q + x * q') + b * (x * q) ≡ x * (a * q' + (b + m * a) * q)
  shift_equation a b m x q q' = ring R (a ∷ b ∷ m ∷ x ∷ q ∷ q' ∷ []) (search reading depth 40 fits 9000) refl

  -- k·(x + y) + (s + u) = (k·x + s) + (k·y + u)
  pub combination_add : (k x y s u : A) → k * (x + y) + (s + u) ≡ k * x + s + (k * y + u)
  combination_add k x y s u = ring R (k ∷ x ∷ y ∷ s ∷ u ∷ []) (search reading depth 40 fits 9000) refl

  -- k·(b·x) + b·s = b·(k·x + s)
  pub combination_mul : (k b x s : A) → k * (b * x) + b * s ≡ b * (k * x + s)
  combination_mul k b x s = ring R (k ∷ b ∷ x ∷ s ∷ []) (search reading depth 40 fits 9000) refl

  -- r = (p - q)·w, where q·w + r = p·w
  pub add_mul_cancel : (q w r p : A) → q * w + r ≡ p * w → r ≡ (p - q) * w
  add_mul_cancel q w r p h = linear R 𝟙 h (ring R (q ∷ w ∷ r ∷ p ∷ []) (search reading depth 40 fits 9000) refl)

  -- d·h·(n/(d·s)) - d·h' = (n·h - s·(d·h'))/s
  pub coefficient_identity : (d h n s h' : A)
      → (d * h * n * (𝟙 * 𝟙) + - (d * h') * (𝟙 * 𝟙 * (d * s))) * s ≡ (n * h - s * (d * h')) * (𝟙 * 𝟙 * (d * s) * (𝟙 * 𝟙))
  coefficient_identity d h n s h' = ring R (d ∷ h ∷ n ∷ s ∷ h' ∷ []) (search reading depth 40 fits 9000) refl

  -- ((k·x)·w + s·(1·w))·w = (k·x + s)·((1·w)·w)
  pub total_identity : (k x s w : A) → (k * x * w + s * (𝟙 * w)) * w ≡ (k * x + s) * (𝟙 * w * w)
  total_identity k x s w = ring R (k ∷ x ∷ s ∷ w ∷ []) (search reading depth 40 fits 9000) refl
