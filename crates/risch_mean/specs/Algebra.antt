-- The algebra of polynomials in z modulo a monic polynomial z^m + r_(m-1)·z^(m-1) + .. + r_0 over a ring, given by the list r of its m ≥ 1 coefficients below the leading one.
-- Its members are the lists of exactly m coefficients.
use Rattle.std.specs.Prelude.{◌≡◌, ℕ, zero, suc, List, [], ◌∷◌, length}
use Rattle.risch_ring.specs.CommRing.{CommRing}
use Rattle.risch_ring.specs.Operators.{operators}
use Rattle.risch_mean.specs.Univariate.{coefficient_at, add_lists, scale, formal_derivative}

module _ {A : Type 0} (R : CommRing A) where
  open (operators R) use {𝟘, 𝟙, ◌+◌, -◌}

  -- the last entry
  abbrev pub last : List A → A
  last [] = 𝟘
  last (c ∷ []) = c
  last (c ∷ d ∷ cs) = last (d ∷ cs)

  -- all but the last entry, behind a new first one
  abbrev pub shifted : A → List A → List A
  shifted a [] = []
  shifted a (c ∷ cs) = a ∷ shifted c cs

  -- z·u for a member u: z^m is -(r_0 + .. + r_(m-1)·z^(m-1))
  abbrev pub times_z : List A → List A → List A
  times_z r u = add_lists R (shifted 𝟘 u) (scale R (- last u) r)

  -- the member 0
  abbrev pub zeros : List A → List A
  zeros [] = []
  zeros (c ∷ r) = 𝟘 ∷ zeros r

  -- the member 1
  abbrev pub one_mod : List A → List A
  one_mod [] = []
  one_mod (c ∷ r) = 𝟙 ∷ zeros r

  -- the remainder of the polynomial p, of any degree
  abbrev pub remainder : List A → List A → List A
  remainder r [] = zeros r
  remainder r (c ∷ p) = add_lists R (times_z r (remainder r p)) (c ∷ [])

  -- u·v for a polynomial u of any degree and a member v
  abbrev pub times_mod : List A → List A → List A → List A
  times_mod r [] v = zeros r
  times_mod r (c ∷ u) v = add_lists R (scale R c v) (times_z r (times_mod r u v))

  -- u^n
  abbrev pub power_mod : List A → List A → ℕ → List A
  power_mod r u zero = one_mod r
  power_mod r u (suc n) = times_mod r u (power_mod r u n)

  -- for v = z^i·u: the sum over j < k of the coefficient of z^(i+j) in z^(i+j)·u
  abbrev pub trace_from : List A → ℕ → ℕ → List A → A
  trace_from r zero i v = 𝟘
  trace_from r (suc k) i v = coefficient_at R i v + trace_from r k (suc i) (times_z r v)

  -- the trace of a member u: the sum over i < m of the coefficient of z^i in z^i·u
  abbrev pub trace : List A → List A → A
  trace r u = trace_from r (length r) 0 u

  -- the member v is the inverse of u: u·v = 1
  pub record IsInverse (r u v : List A) : Type 0 where
    pub member : length v ≡ length r
    pub is : times_mod r u v ≡ one_mod r

  -- u has an inverse
  pub record IsInvertible (r u : List A) : Type 0 where
    pub inverse : List A
    pub is_inverse : IsInverse r u inverse

  -- the modulus itself: r_0 + .. + r_(m-1)·z^(m-1) + z^m
  abbrev pub with_leading_one : List A → List A
  with_leading_one [] = 𝟙 ∷ []
  with_leading_one (c ∷ r) = c ∷ with_leading_one r

  -- its derivative by z: r_1 + 2·r_2·z + .. + m·z^(m-1)
  abbrev pub derivative_by_z : List A → List A
  derivative_by_z r = formal_derivative R (with_leading_one r)
