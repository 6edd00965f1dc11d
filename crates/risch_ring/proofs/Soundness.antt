-- The normal form of an expression has the expression's value, in every commutative ring, if the degree is below 256.
use Rattle.std.specs.Prelude.{◌≡◌, refl, ℕ, zero, suc, ◌+◌, ◌*◌, ◌/◌, ◌%◌, ◌^◌, ◌<◌, ◌≤◌, T, ℤ, pos, negsuc, ◌+ℤ◌, ◌*ℤ◌, List, [], ◌∷◌}
use Rattle.std.proofs.Common.{sym, ap, ap₂, ◌∙◌, subst, arith, le_trans, le_refl, zero-le, pow-suc, eqb→eq}
use Prim.Native.Nat.{compare, Ordering}
use lib.Dec.{compare_is_eq}
use Rattle.risch_ring.specs.CommRing.{CommRing, power, of_nat, of_int}
use Rattle.risch_ring.proofs.Laws as Laws
use Rattle.risch_ring.proofs.Expression.{Expression, var, constant, plus, times, negative, raised, at, value}
use Rattle.risch_ring.proofs.NormalForm.{Terms, none, term, with_term, add_term, add_terms, mul_term, mul_terms, neg_terms, power_terms, normal, degree}

-- ---- digits in base 256
low_add : (m n d e : ℕ) → m % 256 ≤ d → n % 256 ≤ e → d + e < 256 → (m + n) % 256 ≡ m % 256 + n % 256
low_add m n d e p q r = omega arith

high_add : (m n d e : ℕ) → m % 256 ≤ d → n % 256 ≤ e → d + e < 256 → (m + n) / 256 ≡ m / 256 + n / 256
high_add m n d e p q r = omega arith

low_shift : (i : ℕ) → (256 ^ suc i) % 256 ≡ 0
low_shift i = let e = pow-suc 256 i in omega arith

high_shift : (i : ℕ) → (256 ^ suc i) / 256 ≡ 256 ^ i
high_shift i = let e = pow-suc 256 i in omega arith

compare-eq : (m n : ℕ) → compare m n ≡ Ordering.eq → m ≡ n
compare-eq m n e = eqb→eq m n (subst (λ o. T (compare_is_eq o)) (sym e) tt)

module _ {A : Type 0} (R : CommRing A) where
  -- the value of a monomial
  abbrev pub monomial : List A → ℕ → A
  monomial [] m = R.one
  monomial (x ∷ xs) m = R.mul (power R x (m % 256)) (monomial xs (m / 256))

  -- each exponent of m is at most d
  abbrev pub Small : List A → ℕ → ℕ → Type 0
  Small [] d m = Unit {0}
  Small (x ∷ xs) d m = (m % 256 ≤ d) × Small xs d (m / 256)

  small_add : (xs : List A) (m n d e : ℕ) → Small xs d m → Small xs e n → d + e < 256 → Small xs (d + e) (m + n)
  small_add [] m n d e p q r = tt
  small_add (x ∷ xs) m n d e p q r =
      let p0 = p.0 in let q0 = q.0 in
      (omega arith, subst (Small xs (d + e)) (sym (high_add m n d e p.0 q.0 r)) (small_add xs (m / 256) (n / 256) d e p.1 q.1 r))

  small_mono : (xs : List A) (m d e : ℕ) → d ≤ e → Small xs d m → Small xs e m
  small_mono [] m d e l p = tt
  small_mono (x ∷ xs) m d e l p = (le_trans p.0 l, small_mono xs (m / 256) d e l p.1)

  small_zero : (xs : List A) (d : ℕ) → Small xs d 0
  small_zero [] d = tt
  small_zero (x ∷ xs) d = (zero-le, small_zero xs d)

  small_var : (xs : List A) (i : ℕ) → Small xs 1 (256 ^ i)
  small_var [] i = tt
  small_var (x ∷ xs) zero = (le_refl 1, small_zero xs 1)
  small_var (x ∷ xs) (suc i) = let e = low_shift i in (omega arith, subst (Small xs 1) (sym (high_shift i)) (small_var xs i))

  monomial-add : (xs : List A) (m n d e : ℕ) → Small xs d m → Small xs e n → d + e < 256 → monomial xs (m + n) ≡ R.mul (monomial xs m) (monomial xs n)
  monomial-add [] m n d e p q r = sym (R.mul-one R.one)
  monomial-add (x ∷ xs) m n d e p q r =
      ap₂ R.mul (ap (power R x) (low_add m n d e p.0 q.0 r) ∙ Laws.power-add R x (m % 256) (n % 256))
      (ap (monomial xs) (high_add m n d e p.0 q.0 r) ∙ monomial-add xs (m / 256) (n / 256) d e p.1 q.1 r)
      ∙ Laws.mul_exchange R (power R x (m % 256)) (power R x (n % 256)) (monomial xs (m / 256)) (monomial xs (n / 256))

  monomial-zero : (xs : List A) → monomial xs 0 ≡ R.one
  unfolding power
  monomial-zero [] = refl
  monomial-zero (x ∷ xs) = ap (R.mul R.one) (monomial-zero xs) ∙ R.mul-one R.one

  monomial-var : (xs : List A) (i : ℕ) → monomial xs (256 ^ i) ≡ at R.one xs i
  unfolding power
  monomial-var [] i = refl
  monomial-var (x ∷ xs) zero = ap₂ R.mul (R.mul-one x) (monomial-zero xs) ∙ R.mul-one x
  monomial-var (x ∷ xs) (suc i) =
      ap₂ R.mul (ap (power R x) (low_shift i)) (ap (monomial xs) (high_shift i) ∙ monomial-var xs i) ∙ Laws.one-mul R (at R.one xs i)

  -- ---- the value of a sum of terms, for the values xs of the variables
  module _ (xs : List A) where
    abbrev pub single : ℤ → ℕ → A
    single c m = R.mul (of_int R c) (monomial xs m)

    abbrev pub total : Terms → A
    total none = R.zero
    total (term c m p) = R.add (single c m) (total p)

    abbrev pub AllSmall : ℕ → Terms → Type 0
    AllSmall d none = Unit {0}
    AllSmall d (term c m p) = Small xs d m × AllSmall d p

    all_mono : (d e : ℕ) → d ≤ e → (p : Terms) → AllSmall d p → AllSmall e p
    all_mono d e l none s = tt
    all_mono d e l (term c m p) s = (small_mono xs m d e l s.0, all_mono d e l p s.1)

    with_term-total : (c : ℤ) (m : ℕ) (p : Terms) → total (with_term c m p) ≡ R.add (single c m) (total p)
    unfolding of_int of_nat
    with_term-total (pos zero) m p = sym (ap (λ w. R.add w (total p)) (Laws.zero-mul R (monomial xs m)) ∙ Laws.zero-add R (total p))
    with_term-total (pos (suc c)) m p = refl
    with_term-total (negsuc c) m p = refl

    with_term-small : (d : ℕ) (c : ℤ) (m : ℕ) (p : Terms) → Small xs d m → AllSmall d p → AllSmall d (with_term c m p)
    with_term-small d (pos zero) m p s t = t
    with_term-small d (pos (suc c)) m p s t = (s, t)
    with_term-small d (negsuc c) m p s t = (s, t)

    add_term-total : (c : ℤ) (m : ℕ) (add : Terms → Terms) (v : A) → ((q : Terms) → total (add q) ≡ R.add v (total q))
        → (q : Terms) → total (add_term c m add q) ≡ R.add (R.add (single c m) v) (total q)
    add_term-total c m add v h none = ap (R.add (single c m)) (h none) ∙ sym (R.add_assoc (single c m) v R.zero)
    add_term-total c m add v h (term d n q) = split (compare m n) refl (add_term-total c m add v h q)
      where
        split : (o : Ordering) → compare m n ≡ o → total (add_term c m add q) ≡ R.add (R.add (single c m) v) (total q)
            → total (elim o [
              | Ordering.lt ↦ term c m (add (term d n q))
              | Ordering.eq ↦ with_term (c +ℤ d) m (add q)
              | Ordering.gt ↦ term d n (add_term c m add q)
            ]) ≡ R.add (R.add (single c m) v) (R.add (single d n) (total q))
        split Ordering.lt e below = ap (R.add (single c m)) (h (term d n q)) ∙ sym (R.add_assoc (single c m) v (R.add (single d n) (total q)))
        split Ordering.eq e below =
            with_term-total (c +ℤ d) m (add q)
            ∙ ap₂ R.add (ap (λ w. R.mul w (monomial xs m)) (Laws.of_int-add R c d) ∙ Laws.add-mul R (of_int R c) (of_int R d) (monomial xs m)
            ∙ ap (λ k. R.add (single c m) (single d k)) (compare-eq m n e)) (h q)
            ∙ Laws.add_exchange R (single c m) (single d n) v (total q)
        split Ordering.gt e below =
            ap (R.add (single d n)) below ∙ Laws.add_left_comm R (single d n) (R.add (single c m) v) (total q)

    add_term-small : (k : ℕ) (c : ℤ) (m : ℕ) (add : Terms → Terms) → Small xs k m → ((q : Terms) → AllSmall k q → AllSmall k (add q))
        → (q : Terms) → AllSmall k q → AllSmall k (add_term c m add q)
    add_term-small k c m add s h none t = (s, h none tt)
    add_term-small k c m add s h (term d n q) t = split (compare m n) (add_term-small k c m add s h q t.1)
      where
        split : (o : Ordering) → AllSmall k (add_term c m add q)
            → AllSmall k (elim o [
              | Ordering.lt ↦ term c m (add (term d n q))
              | Ordering.eq ↦ with_term (c +ℤ d) m (add q)
              | Ordering.gt ↦ term d n (add_term c m add q)
            ])
        split Ordering.lt below = (s, h (term d n q) t)
        split Ordering.eq below = with_term-small k (c +ℤ d) m (add q) s (h q t.1)
        split Ordering.gt below = (t.0, below)

    add_terms-total : (p q : Terms) → total (add_terms p q) ≡ R.add (total p) (total q)
    add_terms-total none q = sym (Laws.zero-add R (total q))
    add_terms-total (term c m p) q = add_term-total c m (add_terms p) (total p) (add_terms-total p) q

    add_terms-small : (k : ℕ) (p q : Terms) → AllSmall k p → AllSmall k q → AllSmall k (add_terms p q)
    add_terms-small k none q s t = t
    add_terms-small k (term c m p) q s t = add_term-small k c m (add_terms p) s.0 (λ r u. add_terms-small k p r s.1 u) q t

    mul_term-total : (d e : ℕ) → d + e < 256 → (c : ℤ) (m : ℕ) (p : Terms) → Small xs d m → AllSmall e p
        → total (mul_term c m p) ≡ R.mul (single c m) (total p)
    mul_term-total d e l c m none s t = sym (Laws.mul-zero R (single c m))
    mul_term-total d e l c m (term b n p) s t =
        with_term-total (c *ℤ b) (m + n) (mul_term c m p)
        ∙ ap₂ R.add (ap₂ R.mul (Laws.of_int-mul R c b) (monomial-add xs m n d e s t.0 l)
        ∙ Laws.mul_exchange R (of_int R c) (of_int R b) (monomial xs m) (monomial xs n)) (mul_term-total d e l c m p s t.1)
        ∙ sym (R.mul-add (single c m) (single b n) (total p))

    mul_term-small : (d e : ℕ) → d + e < 256 → (c : ℤ) (m : ℕ) (p : Terms) → Small xs d m → AllSmall e p → AllSmall (d + e) (mul_term c m p)
    mul_term-small d e l c m none s t = tt
    mul_term-small d e l c m (term b n p) s t =
        with_term-small (d + e) (c *ℤ b) (m + n) (mul_term c m p) (small_add xs m n d e s t.0 l) (mul_term-small d e l c m p s t.1)

    mul_terms-total : (d e : ℕ) → d + e < 256 → (p q : Terms) → AllSmall d p → AllSmall e q → total (mul_terms p q) ≡ R.mul (total p) (total q)
    mul_terms-total d e l none q s t = sym (Laws.zero-mul R (total q))
    mul_terms-total d e l (term c m p) q s t =
        add_terms-total (mul_term c m q) (mul_terms p q)
        ∙ ap₂ R.add (mul_term-total d e l c m q s.0 t) (mul_terms-total d e l p q s.1 t)
        ∙ sym (Laws.add-mul R (single c m) (total p) (total q))

    mul_terms-small : (d e : ℕ) → d + e < 256 → (p q : Terms) → AllSmall d p → AllSmall e q → AllSmall (d + e) (mul_terms p q)
    mul_terms-small d e l none q s t = tt
    mul_terms-small d e l (term c m p) q s t =
        add_terms-small (d + e) (mul_term c m q) (mul_terms p q) (mul_term-small d e l c m q s.0 t) (mul_terms-small d e l p q s.1 t)

    neg_terms-total : (p : Terms) → total (neg_terms p) ≡ R.neg (total p)
    neg_terms-total none = sym (Laws.neg-zero R)
    neg_terms-total (term c m p) =
        ap₂ R.add (ap (λ w. R.mul w (monomial xs m)) (Laws.of_int-neg R c) ∙ Laws.neg-mul R (of_int R c) (monomial xs m)) (neg_terms-total p)
        ∙ sym (Laws.neg-add-eq R (single c m) (total p))

    neg_terms-small : (d : ℕ) (p : Terms) → AllSmall d p → AllSmall d (neg_terms p)
    neg_terms-small d none s = tt
    neg_terms-small d (term c m p) s = (s.0, neg_terms-small d p s.1)

    one-total : total (term (pos 1) 0 none) ≡ R.one
    one-total =
        R.add-zero (single (pos 1) 0) ∙ ap₂ R.mul (Laws.of_int-one R) (monomial-zero xs) ∙ R.mul-one R.one

    power_terms-both : (d : ℕ) (p : Terms) → AllSmall d p → (n : ℕ) → n * d < 256
        → (total (power_terms p n) ≡ power R (total p) n) × AllSmall (n * d) (power_terms p n)
    unfolding power
    power_terms-both d p s zero l = (one-total, (small_zero xs (0 * d), tt))
    power_terms-both d p s (suc n) l =
        let e : suc n * d ≡ d + n * d = omega arith in
        let fits : d + n * d < 256 = omega arith in
        let less : n * d < 256 = omega arith in
        let before = power_terms-both d p s n less in (
          mul_terms-total d (n * d) fits p (power_terms p n) s before.1 ∙ ap (R.mul (total p)) before.0,
          subst (λ k. AllSmall k (power_terms p (suc n))) (sym e) (mul_terms-small d (n * d) fits p (power_terms p n) s before.1),
        )

    -- the normal form has the expression's value
    pub normal-both : (e : Expression) → degree e < 256 → (total (normal e) ≡ value R xs e) × AllSmall (degree e) (normal e)
    normal-both (var i) l = (
      R.add-zero (single (pos 1) (256 ^ i)) ∙ ap₂ R.mul (Laws.of_int-one R) (monomial-var xs i) ∙ Laws.one-mul R (at R.one xs i),
      (small_var xs i, tt),
    )
    normal-both (constant c) l = (
      with_term-total c 0 none ∙ R.add-zero (single c 0) ∙ ap (R.mul (of_int R c)) (monomial-zero xs) ∙ R.mul-one (of_int R c),
      with_term-small 0 c 0 none (small_zero xs 0) tt,
    )
    normal-both (plus a b) l =
        let p = normal-both a (omega arith) in
        let q = normal-both b (omega arith) in (
          add_terms-total (normal a) (normal b) ∙ ap₂ R.add p.0 q.0,
          add_terms-small (degree (plus a b)) (normal a) (normal b)
              (all_mono (degree a) (degree (plus a b)) (omega arith) (normal a) p.1)
              (all_mono (degree b) (degree (plus a b)) (omega arith) (normal b) q.1),
        )
    normal-both (times a b) l =
        let p = normal-both a (omega arith) in
        let q = normal-both b (omega arith) in (
          mul_terms-total (degree a) (degree b) l (normal a) (normal b) p.1 q.1 ∙ ap₂ R.mul p.0 q.0,
          mul_terms-small (degree a) (degree b) l (normal a) (normal b) p.1 q.1,
        )
    normal-both (negative a) l =
        let p = normal-both a l in
        (neg_terms-total (normal a) ∙ ap R.neg p.0, neg_terms-small (degree a) (normal a) p.1)
    normal-both (raised a n) l =
        let p = normal-both a (omega arith) in
        let q = power_terms-both (degree a) (normal a) p.1 n (omega arith) in (
          q.0 ∙ ap (λ w. power R w n) p.0,
          all_mono (n * degree a) (degree (raised a n)) (omega arith) (power_terms (normal a) n) q.1,
        )
