-- Polynomials in x alone with P'·Q = P·Q' are proportional, and polynomials without variables are whole numbers.
use Rattle.std.specs.Prelude.{◌≡◌, refl, ℕ, true, false, cond, T, List, [], ◌∷◌, ℤ, pos, ◌+ℤ◌, ◌*ℤ◌, neg_ℤ}
use Rattle.std.proofs.Common.{sym, ap, ap₂, ◌∙◌, subst, arith}
use Rattle.std.proofs.lemmas.Int.{ints}
use lib.IntN.{*ℤ_comm, zero-*ℤ, *ℤ-zero, +ℤ_invr}
use Rattle.std.specs.declared.cmp.Ordering.{Ordering}
use Rattle.std.specs.declared.cmp.Ordering.TheVariants.{Less, Equal}
use Rattle.std.specs.Ordering.{is_eq}
use native.Mathlib.Decide.{ℕ_discrete}
use Rattle.risch_ring.proofs.Expression.{reading, reading_ints}
use Rattle.risch_ring.proofs.Solver.{ring}
use Rattle.risch_ring.specs.Integers.{ints as int_ring, ints_mul-add, ints_mul-one, ints_neg-mul}
use Rattle.risch_mean.specs.Exponents
use Rattle.risch_mean.specs.ExponentLaws
use Rattle.risch_mean.specs.Exponents.{Exponents, compare}
use Rattle.risch_mean.specs.ExponentLaws.{compare_self}
use Rattle.risch_mean.specs.Terms.{Term, total, at, coefficient, is_normal, below_all, is_zero, times, product, derivative}
use Rattle.risch_mean.specs.TermLaws.{IsAdditive, additive_zero, at_additive, both, first, second, is_less, at_same, head_not_zero, coefficient_head, zero_is}
use Rattle.risch_mean.specs.ProductLaws.{append-nil, total-product-normal_form}
use Rattle.risch_mean.specs.Polynomial.{Polynomial, Within, add, all_below, coefficient_of, constant, monomial, mul, of_terms, partial, variable, zero}
use Rattle.risch_mean.proofs.PolynomialVariables.{Within-add, Within-constant, Within-mul, variable_terms}
use Rattle.risch_mean.specs.PolynomialLaws.{above_first, coefficient-add, coefficient-mul, coefficient-zero, coefficient_of_terms, empty_is_zero, ext, int_product_zero, least_product, monomial-zero, mul_assoc, mul_comm, of_terms-product, of_terms-terms, of_terms_ext, of_terms_is, partial-add, partial-constant, partial-is, partial-mul, polynomials, same_terms, total-mul}

-- ---- x·(the derivative by x): each term times its exponent
abbrev euler : ℕ → List Term → List Term
euler i [] = []
euler i (t ∷ r) = (t.0, pos (Exponents.exponent i t.0) *ℤ t.1) ∷ euler i r

total-euler : (φ : Exponents → ℤ → ℤ) → IsAdditive φ → (i : ℕ) (r : List Term) → total φ (times (Exponents.unit i, pos 1) (derivative i r)) ≡ total φ (euler i r)
unfolding total
total-euler φ a i [] = refl
total-euler φ a i (t ∷ r) = ap₂ ◌+ℤ◌ (by (ℕ_discrete (Exponents.exponent i t.0) 0)) (total-euler φ a i r)
  where
    one-times : (c : ℤ) → pos 1 *ℤ c ≡ c
    one-times c = *ℤ_comm (pos 1) c ∙ ints_mul-one c

    no_part : (e : Exponents) → Exponents.exponent i t.0 ≡ 0 → φ e (pos (Exponents.exponent i t.0) *ℤ t.1) ≡ pos 0
    no_part e h = ap (λ (n : ℕ). φ e (pos n *ℤ t.1)) h ∙ ap (φ e) (zero-*ℤ t.1) ∙ additive_zero φ a e

    by : Dec (Exponents.exponent i t.0 ≡ 0) → φ (Exponents.add (Exponents.unit i) (Exponents.lower i t.0)) (pos 1 *ℤ (pos (Exponents.exponent i t.0) *ℤ t.1)) ≡ φ t.0 (pos (Exponents.exponent i t.0) *ℤ t.1)
    by (yes h) = ap (φ (Exponents.add (Exponents.unit i) (Exponents.lower i t.0))) (one-times _) ∙ no_part _ h ∙ sym (no_part t.0 h)
    by (no h) = ap₂ φ (ExponentLaws.add-lower i t.0 h) (one-times _)

below-euler : (i : ℕ) (e : Exponents) (r : List Term) → T (below_all e r) → T (below_all e (euler i r))
below-euler i e [] h = tt
below-euler i e (t ∷ r) h = both _ _ (first _ _ h) (below-euler i e r (second _ _ h))

coefficient-euler : (i : ℕ) (p q : Polynomial) (e : Exponents) → coefficient_of (mul (variable i) (mul (partial i p) q)) e ≡ coefficient (product (euler i p.terms) q.terms) e
unfolding coefficient
coefficient-euler i p q e =
    ap (λ r. coefficient_of r e) (sym (mul_assoc (variable i) (partial i p) q) ∙ ap (λ r. mul r q) is_euler)
    ∙ total-mul (at e) (at_additive e) (of_terms (euler i p.terms)) q ∙ euler-product
  where
    is_euler : mul (variable i) (partial i p) ≡ of_terms (euler i p.terms)
    is_euler =
        ap₂ mul (sym (of_terms-terms (variable i)) ∙ ap of_terms (variable_terms i)) (partial-is i p)
        ∙ of_terms-product ((Exponents.unit i, pos 1) ∷ []) (derivative i p.terms)
        ∙ of_terms_ext _ _ (λ f. ap (total (at f)) (append-nil (times (Exponents.unit i, pos 1) (derivative i p.terms))) ∙ total-euler (at f) (at_additive f) i p.terms)

    euler-product : total (at e) (product (of_terms (euler i p.terms)).terms q.terms) ≡ total (at e) (product (euler i p.terms) q.terms)
    euler-product = ap (λ r. total (at e) (product r q.terms)) (of_terms_is (euler i p.terms)) ∙ total-product-normal_form (at e) (at_additive e) (euler i p.terms) q.terms

int_product_nonzero : (c d : ℤ) → ¬ (c ≡ pos 0) → ¬ (d ≡ pos 0) → ¬ (c *ℤ d ≡ pos 0)
int_product_nonzero c d h k e = k (int_product_zero c d e h)

same_numbers : (n m : ℕ) (c d : ℤ) → ¬ (c ≡ pos 0) → ¬ (d ≡ pos 0) → (pos n *ℤ c) *ℤ d ≡ c *ℤ (pos m *ℤ d) → n ≡ m
same_numbers n m c d p q h =
    let difference : (c *ℤ d) *ℤ (pos n +ℤ neg_ℤ (pos m)) ≡ pos 0 = spread (pos n) (pos m) c d ∙ ap (λ k. k +ℤ neg_ℤ (c *ℤ (pos m *ℤ d))) h ∙ +ℤ_invr (c *ℤ (pos m *ℤ d)) in
    let zero-difference = int_product_zero (c *ℤ d) (pos n +ℤ neg_ℤ (pos m)) difference (int_product_nonzero c d p q) in
    omega (arith, ints, zero-difference)
  where
    spread : (a b c d : ℤ) → (c *ℤ d) *ℤ (a +ℤ neg_ℤ b) ≡ (a *ℤ c) *ℤ d +ℤ neg_ℤ (c *ℤ (b *ℤ d))
    spread a b c d = ring int_ring (a ∷ b ∷ c ∷ d ∷ []) (search reading_ints depth 30 fits 4000) refl

-- where P'·Q = P·Q', the least exponents of P and Q agree at the variable
same_least : (i : ℕ) (p q : Polynomial) (t u : Term) (r s : List Term) → p.terms ≡ t ∷ r → q.terms ≡ u ∷ s → mul (partial i p) q ≡ mul p (partial i q) → Exponents.exponent i t.0 ≡ Exponents.exponent i u.0
same_least i p q t u r s hp hq e =
    same_numbers (Exponents.exponent i t.0) (Exponents.exponent i u.0) t.1 u.1 (head_not_zero t r np) (head_not_zero u s nq) (sym left ∙ middle ∙ right)
  where
    np : T (is_normal (t ∷ r))
    np = subst (λ l. T (is_normal l)) hp p.normal

    nq : T (is_normal (u ∷ s))
    nq = subst (λ l. T (is_normal l)) hq q.normal

    place_of : Exponents
    place_of = Exponents.add t.0 u.0

    left : coefficient_of (mul (variable i) (mul (partial i p) q)) place_of ≡ (pos (Exponents.exponent i t.0) *ℤ t.1) *ℤ u.1
    left =
        coefficient-euler i p q place_of ∙ ap₂ (λ l k. coefficient (product (euler i l) k) place_of) hp hq
        ∙ least_product (t.0, pos (Exponents.exponent i t.0) *ℤ t.1) u (euler i r) s (below-euler i t.0 r (above_first t r np)) (above_first u s nq)

    middle : coefficient_of (mul (variable i) (mul (partial i p) q)) place_of ≡ coefficient_of (mul (variable i) (mul (partial i q) p)) (Exponents.add u.0 t.0)
    middle = ap₂ (λ k f. coefficient_of (mul (variable i) k) f) (e ∙ mul_comm p (partial i q)) (ExponentLaws.add_comm t.0 u.0)

    right : coefficient_of (mul (variable i) (mul (partial i q) p)) (Exponents.add u.0 t.0) ≡ t.1 *ℤ (pos (Exponents.exponent i u.0) *ℤ u.1)
    right =
        coefficient-euler i q p (Exponents.add u.0 t.0) ∙ ap₂ (λ l k. coefficient (product (euler i k) l) (Exponents.add u.0 t.0)) hp hq
        ∙ least_product (u.0, pos (Exponents.exponent i u.0) *ℤ u.1) t (euler i s) r (below-euler i u.0 s (above_first u s nq)) (above_first t r np)
        ∙ *ℤ_comm (pos (Exponents.exponent i u.0) *ℤ u.1) t.1

-- the coefficient at the first exponents
first_coefficient : (p : Polynomial) (t : Term) (r : List Term) → p.terms ≡ t ∷ r → coefficient_of p t.0 ≡ t.1
first_coefficient p t r h = ap (λ l. coefficient l t.0) h ∙ coefficient_head t r (subst (λ l. T (is_normal l)) h p.normal)

-- c·P + d·Q
abbrev pub combination : ℤ → Polynomial → ℤ → Polynomial → Polynomial
combination c p d q = add (mul (constant c) p) (mul (constant d) q)

scaled_term : (c : ℤ) (e f : Exponents) (d : ℤ) → at e (Exponents.add Exponents.none f) (c *ℤ d) ≡ c *ℤ at e f d
unfolding at
scaled_term c e f d =
    ap (λ g. cond (is_eq (compare e g)) (c *ℤ d) (pos 0)) (ExponentLaws.none-add f)
    ∙ elim (is_eq (compare e f)) as (λ b. cond b (c *ℤ d) (pos 0) ≡ c *ℤ cond b d (pos 0)) [ true ↦ refl | false ↦ sym (*ℤ-zero c) ]

scaled_total : (c : ℤ) (e : Exponents) (r : List Term) → total (at e) (times (Exponents.none, c) r) ≡ c *ℤ total (at e) r
unfolding total
scaled_total c e [] = sym (*ℤ-zero c)
scaled_total c e (t ∷ r) = ap₂ ◌+ℤ◌ (scaled_term c e t.0 t.1) (scaled_total c e r) ∙ sym (ints_mul-add c (at e t.0 t.1) (total (at e) r))

pub coefficient-constant-mul : (c : ℤ) (p : Polynomial) (e : Exponents) → coefficient_of (mul (constant c) p) e ≡ c *ℤ coefficient_of p e
unfolding coefficient constant monomial of_terms
coefficient-constant-mul c p e =
    coefficient-mul (constant c) p e ∙ total-product-normal_form (at e) (at_additive e) ((Exponents.none, c) ∷ []) p.terms
    ∙ ap (total (at e)) (append-nil (times (Exponents.none, c) p.terms)) ∙ scaled_total c e p.terms

coefficient-combination : (c : ℤ) (p : Polynomial) (d : ℤ) (q : Polynomial) (e : Exponents) → coefficient_of (combination c p d q) e ≡ c *ℤ coefficient_of p e +ℤ d *ℤ coefficient_of q e
coefficient-combination c p d q e = coefficient-add _ _ e ∙ ap₂ ◌+ℤ◌ (coefficient-constant-mul c p e) (coefficient-constant-mul d q e)

partial-combination : (i : ℕ) (c : ℤ) (p : Polynomial) (d : ℤ) (q : Polynomial) → partial i (combination c p d q) ≡ combination c (partial i p) d (partial i q)
partial-combination i c p d q = partial-add i _ _ ∙ ap₂ add (scaled c p) (scaled d q)
  where
    nothing : (p q : Polynomial) → add (mul zero p) q ≡ q
    nothing p q = ring polynomials (p ∷ q ∷ []) (search reading depth 20) refl

    scaled : (c : ℤ) (p : Polynomial) → partial i (mul (constant c) p) ≡ mul (constant c) (partial i p)
    scaled c p = partial-mul i (constant c) p ∙ ap (λ k. add (mul k p) (mul (constant c) (partial i p))) (partial-constant i c) ∙ nothing p (mul (constant c) (partial i p))

head_below : (n : ℕ) (p : Polynomial) (t : Term) (r : List Term) → p.terms ≡ t ∷ r → Within n p → T (Exponents.below n t.0)
head_below n p t r h w = first _ _ (subst (λ l. T (all_below n l)) h w.within)

-- polynomials in x with P'·Q = P·Q' and Q ≠ 0: P is Q times a fraction
pub record Proportional (p q : Polynomial) : Type 0 where
  pub factor : ℤ
  pub divisor : ℤ
  pub divisor-ne-zero : ¬ (divisor ≡ pos 0)
  pub is : mul (constant divisor) p ≡ mul (constant factor) q

module _ (p q : Polynomial) (v : Within 1 p) (w : Within 1 q) (e : mul (partial 0 p) q ≡ mul p (partial 0 q)) where
  -- Q's first coefficient times P, less P's times Q
  combined : Term → Term → Polynomial
  combined t u = combination u.1 p (neg_ℤ t.1) q

  combined-derivative : (t u : Term) → mul (partial 0 (combined t u)) q ≡ mul (combined t u) (partial 0 q)
  unfolding combined
  combined-derivative t u =
      ap (λ k. mul k q) (partial-combination 0 u.1 p (neg_ℤ t.1) q) ∙ spread (constant u.1) (constant (neg_ℤ t.1)) (partial 0 p) (partial 0 q) q
      ∙ ap (λ k. add (mul (constant u.1) k) (mul (constant (neg_ℤ t.1)) (mul q (partial 0 q)))) e
      ∙ collect (constant u.1) (constant (neg_ℤ t.1)) p q (partial 0 q)
    where
      spread : (c d x y q : Polynomial) → mul (add (mul c x) (mul d y)) q ≡ add (mul c (mul x q)) (mul d (mul q y))
      spread c d x y q = ring polynomials (c ∷ d ∷ x ∷ y ∷ q ∷ []) (search reading depth 30 fits 4000) refl

      collect : (c d p q y : Polynomial) → add (mul c (mul p y)) (mul d (mul q y)) ≡ mul (add (mul c p) (mul d q)) y
      collect c d p q y = ring polynomials (c ∷ d ∷ p ∷ q ∷ y ∷ []) (search reading depth 30 fits 4000) refl

  combined-within : (t u : Term) → Within 1 (combined t u)
  unfolding combined
  combined-within t u = Within-add 1 _ _ (Within-mul 1 _ _ (Within-constant 1 _) v) (Within-mul 1 _ _ (Within-constant 1 _) w)

  module _ (t u : Term) (r s : List Term) (hp : p.terms ≡ t ∷ r) (hq : q.terms ≡ u ∷ s) where
    same_first : t.0 ≡ u.0
    same_first = ExponentLaws.same_in_one t.0 u.0 (head_below 1 p t r hp v) (head_below 1 q u s hq w) (same_least 0 p q t u r s hp hq e)

    -- it vanishes at the first exponents, and has no others
    vanishes : coefficient_of (combined t u) u.0 ≡ pos 0
    unfolding combined
    vanishes =
        coefficient-combination u.1 p (neg_ℤ t.1) q u.0
        ∙ ap₂ (λ x y. u.1 *ℤ x +ℤ neg_ℤ t.1 *ℤ y) (ap (coefficient_of p) (sym same_first) ∙ first_coefficient p t r hp) (first_coefficient q u s hq)
        ∙ cancels u.1 t.1
      where
        cancels : (a b : ℤ) → a *ℤ b +ℤ neg_ℤ b *ℤ a ≡ pos 0
        cancels a b = ring int_ring (a ∷ b ∷ []) (search reading_ints depth 30 fits 4000) refl

    no_terms : (l : List Term) → (combined t u).terms ≡ l → l ≡ []
    no_terms [] h = refl
    no_terms (g ∷ gs) h =
        let same_as : g.0 ≡ u.0 = ExponentLaws.same_in_one g.0 u.0 (head_below 1 (combined t u) g gs h (combined-within t u)) (head_below 1 q u s hq w)
        (same_least 0 (combined t u) q g u gs s h hq (combined-derivative t u)) in
        absurd (head_not_zero g gs (subst (λ l. T (is_normal l)) h (combined t u).normal) (sym (first_coefficient (combined t u) g gs h) ∙ ap (coefficient_of (combined t u)) same_as ∙ vanishes))

    combined-zero : combined t u ≡ zero
    combined-zero = empty_is_zero (combined t u) (no_terms (combined t u).terms refl)

    both_proportional : Proportional p q
    unfolding combined
    both_proportional = record {
      factor = t.1;
      divisor = u.1;
      divisor-ne-zero = head_not_zero u s (subst (λ l. T (is_normal l)) hq q.normal);
      is = ext _ _ (λ f.
          coefficient-constant-mul u.1 p f
          ∙ from_zero u.1 t.1 (coefficient_of p f) (coefficient_of q f) (sym (coefficient-combination u.1 p (neg_ℤ t.1) q f) ∙ ap (λ k. coefficient_of k f) combined-zero ∙ coefficient-zero f)
          ∙ sym (coefficient-constant-mul t.1 q f));
    }
      where
        from_zero : (a b x y : ℤ) → a *ℤ x +ℤ neg_ℤ b *ℤ y ≡ pos 0 → a *ℤ x ≡ b *ℤ y
        from_zero a b x y h = let k = ints_neg-mul b y in omega (arith, ints, h, k)

  zero_proportional : p.terms ≡ [] → Proportional p q
  zero_proportional h = record {
    factor = pos 0;
    divisor = pos 1;
    divisor-ne-zero = λ k. grind arith;
    is = ext _ _ (λ f.
        coefficient-constant-mul (pos 1) p f ∙ ap (λ k. pos 1 *ℤ coefficient_of k f) (empty_is_zero p h) ∙ ap (λ k. pos 1 *ℤ k) (coefficient-zero f)
        ∙ sym (coefficient-constant-mul (pos 0) q f ∙ zero-*ℤ (coefficient_of q f)));
  }

  by_terms : ¬ (q ≡ zero) → (l k : List Term) → p.terms ≡ l → q.terms ≡ k → Proportional p q
  by_terms n [] k hp hq = zero_proportional hp
  by_terms n (t ∷ r) [] hp hq = absurd (n (empty_is_zero q hq))
  by_terms n (t ∷ r) (u ∷ s) hp hq = both_proportional t u r s hp hq

  pub proportional : ¬ (q ≡ zero) → Proportional p q
  proportional n = by_terms n p.terms q.terms refl refl

pub coefficient-constant : (c : ℤ) → coefficient_of (constant c) Exponents.none ≡ c
unfolding coefficient constant monomial total
coefficient-constant c = coefficient_of_terms ((Exponents.none, c) ∷ []) Exponents.none ∙ ap (λ k. k +ℤ pos 0) (at_same Exponents.none c) ∙ omega (arith, ints)

constant_list : (c : ℤ) → ¬ (c ≡ pos 0) → (constant c).terms ≡ (Exponents.none, c) ∷ []
unfolding constant monomial of_terms
constant_list c n = elim (is_zero c) as (λ b. is_zero c ≡ b → cond {A = List Term} b [] ((Exponents.none, c) ∷ []) ≡ (Exponents.none, c) ∷ []) [ true ↦ λ h. absurd (n (zero_is c h)) | false ↦ λ h. refl ] refl

no_second : (e : Exponents) (u : Term) (s : List Term) → e ≡ Exponents.none → T (below_all e (u ∷ s)) → T (all_below 0 (u ∷ s)) → ⊥
no_second e u s h p q = apart_at (compare e u.0) (is_less _ (first _ _ p)) (ap₂ compare h (ExponentLaws.none_below u.0 (first _ _ q)) ∙ compare_self Exponents.none)
  where
    apart_at : (o : Ordering) → o ≡ Less → o ≡ Equal → ⊥
    apart_at o p q = grind arith

constant_terms : (r : List Term) → T (is_normal r) → T (all_below 0 r) → (c : ℤ) × (r ≡ (constant c).terms)
unfolding constant monomial of_terms
constant_terms [] p q = (pos 0, refl)
constant_terms (t ∷ []) p q =
    let same_exponents : t.0 ≡ Exponents.none = ExponentLaws.none_below t.0 (first _ _ q) in
    (t.1, (λ i. (same_exponents i, t.1) ∷ []) ∙ sym (constant_list t.1 (head_not_zero t [] p)))
constant_terms (t ∷ u ∷ s) p q = absurd (no_second t.0 u s (ExponentLaws.none_below t.0 (first _ _ q)) (above_first t (u ∷ s) p) (second _ _ q))

-- a polynomial without variables is a whole number
pub Within-none : (p : Polynomial) → Within 0 p → (c : ℤ) × (p ≡ constant c)
Within-none p w = let k = constant_terms p.terms p.normal w.within in (k.0, same_terms p (constant k.0) k.1)

pub constant-zero : constant (pos 0) ≡ zero
unfolding constant
constant-zero = monomial-zero Exponents.none
