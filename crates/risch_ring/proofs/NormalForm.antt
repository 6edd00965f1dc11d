-- The normal form of an expression: a sum of monomials with integer coefficients, in the order of the monomials.
-- A monomial is one number, whose digits in base 256 are the exponents of the variables: the product is then the sum, as long as no digit is carried.
-- So expressions of degree 256 and more have no normal form here.
use Rattle.std.specs.Prelude.{ℕ, zero, suc, ◌+◌, ◌*◌, ◌^◌, max, ℤ, pos, negsuc, ◌+ℤ◌, ◌*ℤ◌, neg_ℤ}
use Prim.Native.Nat.{compare, Ordering}
use Rattle.risch_ring.proofs.Expression.{Expression, var, constant, plus, times, negative, raised}

-- a sum of terms, each a coefficient and a monomial
pub data Terms : Type 0 where
  none : Terms
  term : ℤ → ℕ → Terms → Terms

-- the term c·m before p, left out if c is zero
abbrev pub with_term : ℤ → ℕ → Terms → Terms
with_term (pos zero) m p = p
with_term (pos (suc c)) m p = term (pos (suc c)) m p
with_term (negsuc c) m p = term (negsuc c) m p

-- c·m + p + q, where `add` adds p, and m lies before all of p
abbrev pub add_term : ℤ → ℕ → (Terms → Terms) → Terms → Terms
add_term c m add none = term c m (add none)
add_term c m add (term d n q) =
    elim (compare m n) [
      | Ordering.lt ↦ term c m (add (term d n q))
      | Ordering.eq ↦ with_term (c +ℤ d) m (add q)
      | Ordering.gt ↦ term d n (add_term c m add q)
    ]

-- p + q
abbrev pub add_terms : Terms → Terms → Terms
add_terms none = λ q. q
add_terms (term c m p) = add_term c m (add_terms p)

-- c·m·p
abbrev pub mul_term : ℤ → ℕ → Terms → Terms
mul_term c m none = none
mul_term c m (term d n p) = with_term (c *ℤ d) (m + n) (mul_term c m p)

-- p·q
abbrev pub mul_terms : Terms → Terms → Terms
mul_terms none q = none
mul_terms (term c m p) q = add_terms (mul_term c m q) (mul_terms p q)

-- -p
abbrev pub neg_terms : Terms → Terms
neg_terms none = none
neg_terms (term c m p) = term (neg_ℤ c) m (neg_terms p)

-- p^n
abbrev pub power_terms : Terms → ℕ → Terms
power_terms p zero = term (pos 1) 0 none
power_terms p (suc n) = mul_terms p (power_terms p n)

-- the normal form
abbrev pub normal : Expression → Terms
normal (var i) = term (pos 1) (256 ^ i) none
normal (constant c) = with_term c 0 none
normal (plus a b) = add_terms (normal a) (normal b)
normal (times a b) = mul_terms (normal a) (normal b)
normal (negative a) = neg_terms (normal a)
normal (raised a n) = power_terms (normal a) n

-- a bound on the degree
abbrev pub degree : Expression → ℕ
degree (var i) = 1
degree (constant c) = 0
degree (plus a b) = max (degree a) (degree b)
degree (times a b) = degree a + degree b
degree (negative a) = degree a
degree (raised a n) = max (degree a) (n * degree a)
