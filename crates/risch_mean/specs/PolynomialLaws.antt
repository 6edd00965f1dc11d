-- The polynomials form a commutative ring without divisors of zero, in which equality can be decided.
--     polynomials      the ring.  ext: polynomials with equal coefficients are equal
--     same_is, same_if, discrete      the test of equality is one
--     mul_nonzero      no divisors of zero: the least term of a product is the product of the least terms
--     partial-add, partial-mul      the partial derivatives are derivations
use Rattle.std.specs.Prelude.{◌≡◌, refl, ℕ, zero as nat_zero, suc, ◌*◌, Bool, true, false, not, ◌&&◌, T, List, [], ◌∷◌, ◌++◌, ℤ, pos, negsuc, ◌+ℤ◌, ◌*ℤ◌, nat_abs, ◌⊎◌}
use Rattle.std.proofs.Common.{inl, inr, ⊎_elim, sym, ap, ap₂, ◌∙◌, subst, arith}
use Rattle.std.proofs.lemmas.Int.{ints}
use mathlib.Core.HLevel.{Σ_prop_path, Discrete, hedberg}
use lib.Dec.{T_prop}
use lib.Pointwise.{pointwise_decides}
use lib.IntN.{zero-*ℤ, +ℤ_assoc, +ℤ_comm}
use Rattle.std.specs.declared.cmp.Ordering.{Ordering}
use Rattle.std.specs.declared.cmp.Ordering.TheVariants.{Less, Equal}
use Rattle.std.specs.Ordering.{is_eq}
use Rattle.risch_ring.specs.CommRing.{CommRing}
use Rattle.risch_mean.specs.Exponents
use Rattle.risch_mean.specs.ExponentLaws
use Rattle.risch_mean.specs.Exponents.{Exponents, compare}
use Rattle.risch_mean.specs.ExponentLaws.{compare-Equal, compare_self}
use Rattle.risch_mean.specs.Terms.{Term, total, at, coefficient, normal_form, is_normal, below_all, is_zero, times, product, derivative}
use Rattle.risch_mean.specs.TermLaws.{total-append, IsAdditive, additive_zero, at_additive, normal_ext, coefficient-normal_form, total-normal_form, below_all_trans, coefficient_below, both, first, second, is_less, less_is, at_same, head_not_zero}
use Rattle.risch_mean.specs.ProductLaws.{product-append, product_assoc, times-one, one-product, total-product_comm, total-product-normal_form, total-product-normal_form_right, over_times, over_times_additive, total-derivative-normal_form, total-derivative-append, total-derivative-product}
use Rattle.risch_mean.specs.Polynomial.{Polynomial, add, coefficient_of, constant, monomial, mul, neg, of_terms, one, partial, same, same_int, same_term, variable, zero}

pub same_terms : (p q : Polynomial) → p.terms ≡ q.terms → p ≡ q
same_terms p q h =
    let pairs : ◌≡◌ {A = (l : List Term) × T (is_normal l)} (p.terms, p.normal) (q.terms, q.normal) = Σ_prop_path (λ l. T_prop _) h in
    λ i. record { terms = (pairs i).0; normal = (pairs i).1 }

-- polynomials with equal coefficients are equal
pub ext : (p q : Polynomial) → ((e : Exponents) → coefficient_of p e ≡ coefficient_of q e) → p ≡ q
ext p q h = same_terms p q (normal_ext p.terms q.terms p.normal q.normal h)

pub of_terms_is : (r : List Term) → (of_terms r).terms ≡ normal_form r
unfolding of_terms
of_terms_is r = refl

pub coefficient_of_terms : (r : List Term) (e : Exponents) → coefficient_of (of_terms r) e ≡ coefficient r e
unfolding of_terms
coefficient_of_terms r e = coefficient-normal_form r e

pub of_terms_ext : (r s : List Term) → ((e : Exponents) → total (at e) r ≡ total (at e) s) → of_terms r ≡ of_terms s
unfolding coefficient
of_terms_ext r s h = ext (of_terms r) (of_terms s) (λ e. coefficient_of_terms r e ∙ h e ∙ sym (coefficient_of_terms s e))

pub of_terms-terms : (p : Polynomial) → of_terms p.terms ≡ p
of_terms-terms p = ext (of_terms p.terms) p (coefficient_of_terms p.terms)

-- ---- the laws of a commutative ring
terms_of_terms : (φ : Exponents → ℤ → ℤ) → IsAdditive φ → (r : List Term) → total φ (of_terms r).terms ≡ total φ r
unfolding of_terms
terms_of_terms φ a r = total-normal_form φ a r

-- the coefficients of a sum are the sums of the coefficients
pub total-add : (φ : Exponents → ℤ → ℤ) → IsAdditive φ → (p q : Polynomial) → total φ (add p q).terms ≡ total φ p.terms +ℤ total φ q.terms
unfolding add
total-add φ a p q = terms_of_terms φ a (p.terms ++ q.terms) ∙ total-append φ p.terms q.terms

pub coefficient-add : (p q : Polynomial) (e : Exponents) → coefficient_of (add p q) e ≡ coefficient_of p e +ℤ coefficient_of q e
unfolding coefficient
coefficient-add p q e = total-add (at e) (at_additive e) p q

pub coefficient-zero : (e : Exponents) → coefficient_of zero e ≡ pos 0
unfolding coefficient zero of_terms total
coefficient-zero e = refl

pub add_comm : (p q : Polynomial) → add p q ≡ add q p
add_comm p q = ext (add p q) (add q p) (λ e. coefficient-add p q e ∙ +ℤ_comm (coefficient_of p e) (coefficient_of q e) ∙ sym (coefficient-add q p e))

pub add_assoc : (p q r : Polynomial) → add (add p q) r ≡ add p (add q r)
add_assoc p q r = ext _ _ (λ e.
    coefficient-add (add p q) r e ∙ ap (λ k. k +ℤ coefficient_of r e) (coefficient-add p q e) ∙ +ℤ_assoc (coefficient_of p e) (coefficient_of q e) (coefficient_of r e)
    ∙ sym (coefficient-add p (add q r) e ∙ ap (λ k. coefficient_of p e +ℤ k) (coefficient-add q r e)))

pub add-zero : (p : Polynomial) → add p zero ≡ p
add-zero p = ext _ _ (λ e. let h = coefficient-add p zero e in let k = coefficient-zero e in omega (arith, ints, h, k))

pub mul_comm : (p q : Polynomial) → mul p q ≡ mul q p
unfolding mul
mul_comm p q = of_terms_ext _ _ (λ e. total-product_comm (at e) p.terms q.terms)

pub mul_assoc : (p q r : Polynomial) → mul (mul p q) r ≡ mul p (mul q r)
unfolding mul of_terms
mul_assoc p q r = of_terms_ext _ _ (λ e.
    total-product-normal_form (at e) (at_additive e) (product p.terms q.terms) r.terms
    ∙ ap (total (at e)) (product_assoc p.terms q.terms r.terms)
    ∙ sym (total-product-normal_form_right (at e) (at_additive e) p.terms (product q.terms r.terms)))

one_terms : one.terms ≡ (Exponents.none, pos 1) ∷ []
unfolding one of_terms
one_terms = refl

pub one-mul : (p : Polynomial) → mul one p ≡ p
unfolding mul
one-mul p = ap (λ r. of_terms (product r p.terms)) one_terms ∙ ap of_terms (one-product p.terms) ∙ of_terms-terms p

pub mul-one : (p : Polynomial) → mul p one ≡ p
mul-one p = mul_comm p one ∙ one-mul p

pub total-mul : (φ : Exponents → ℤ → ℤ) → IsAdditive φ → (p q : Polynomial) → total φ (mul p q).terms ≡ total φ (product p.terms q.terms)
unfolding mul
total-mul φ a p q = terms_of_terms φ a (product p.terms q.terms)

pub coefficient-mul : (p q : Polynomial) (e : Exponents) → coefficient_of (mul p q) e ≡ coefficient (product p.terms q.terms) e
unfolding coefficient
coefficient-mul p q e = total-mul (at e) (at_additive e) p q

pub add-mul : (p q r : Polynomial) → mul (add p q) r ≡ add (mul p r) (mul q r)
unfolding coefficient add of_terms
add-mul p q r = ext _ _ (λ e. in_total e ∙ sym (total-add (at e) (at_additive e) (mul p r) (mul q r) ∙ ap₂ ◌+ℤ◌ (total-mul (at e) (at_additive e) p r) (total-mul (at e) (at_additive e) q r)))
  where
    in_total : (e : Exponents) → coefficient_of (mul (add p q) r) e ≡ total (at e) (product p.terms r.terms) +ℤ total (at e) (product q.terms r.terms)
    in_total e =
        total-mul (at e) (at_additive e) (add p q) r
        ∙ total-product-normal_form (at e) (at_additive e) (p.terms ++ q.terms) r.terms
        ∙ ap (total (at e)) (product-append p.terms q.terms r.terms) ∙ total-append (at e) (product p.terms r.terms) (product q.terms r.terms)

pub mul-add : (p q r : Polynomial) → mul p (add q r) ≡ add (mul p q) (mul p r)
mul-add p q r = mul_comm p (add q r) ∙ add-mul q r p ∙ ap₂ add (mul_comm q p) (mul_comm r p)

pub one-is : one ≡ constant (pos 1)
unfolding one
one-is = refl

pub add-neg : (p : Polynomial) → add p (neg p) ≡ zero
unfolding coefficient neg
add-neg p = ext _ _ (λ e.
    let a = coefficient-add p (neg p) e in
    let b = terms_of_terms (at e) (at_additive e) (times (Exponents.none, negsuc 0) p.terms) in
    let c = (over_times_additive (at e) (at_additive e) p.terms).sum Exponents.none (pos 1) (negsuc 0) in
    let d = additive_zero (over_times (at e) p.terms) (over_times_additive (at e) (at_additive e) p.terms) Exponents.none in
    let f = ap (total (at e)) (times-one p.terms) in
    let g = coefficient-zero e in
    omega (arith, ints, a, b, c, d, f, g))

same_int_decides : (c d : ℤ) → (same_int c d ≡ true → c ≡ d) × (c ≡ d → same_int c d ≡ true)
same_int_decides c d = (given c d, λ h. subst (λ k. same_int c k ≡ true) h (itself c))
  where
    given : (c d : ℤ) → same_int c d ≡ true → c ≡ d
    given (pos m) (pos n) h = ap pos (grind arith)
    given (pos m) (negsuc n) h = grind arith
    given (negsuc m) (pos n) h = grind arith
    given (negsuc m) (negsuc n) h = ap negsuc (grind arith)

    itself : (c : ℤ) → same_int c c ≡ true
    itself (pos m) = grind arith
    itself (negsuc m) = grind arith

same_term_decides : (t u : Term) → (same_term t u ≡ true → t ≡ u) × (t ≡ u → same_term t u ≡ true)
same_term_decides t u = (
  λ h. λ i. (compare-Equal t.0 u.0 (is_equal _ (first _ _ (subst T (sym h) tt))) i, (same_int_decides t.1 u.1).0 (is_true _ (second (is_eq (compare t.0 u.0)) _ (subst T (sym h) tt))) i),
  λ h. subst (λ v. same_term t v ≡ true) h (ap₂ ◌&&◌ (ap is_eq (compare_self t.0)) ((same_int_decides t.1 t.1).1 refl)),
)
  where
    is_equal : (o : Ordering) → T (is_eq o) → o ≡ Equal
    is_equal o h = grind arith

    is_true : (b : Bool) → T b → b ≡ true
    is_true b h = grind arith

pub same_is : (p q : Polynomial) → same p q ≡ true → p ≡ q
same_is p q h = same_terms p q ((pointwise_decides same_term_decides p.terms q.terms).0 h)

pub same_if : (p q : Polynomial) → p ≡ q → same p q ≡ true
same_if p q h = (pointwise_decides same_term_decides p.terms q.terms).1 (ap (λ (r : Polynomial). r.terms) h)

pub different : (p q : Polynomial) → same p q ≡ false → ¬ (p ≡ q)
different p q h e = grind (arith, same_if p q e)

unfoldable pub discrete : Discrete Polynomial
discrete p q =
    elim (same p q) as (λ b. same p q ≡ b → Dec (p ≡ q)) [
      | true ↦ λ h. yes (same_is p q h)
      | false ↦ λ h. no (different p q h)
    ] refl

pub is_set : IsSet Polynomial
is_set = hedberg discrete

abbrev pub polynomials : CommRing Polynomial
polynomials = record {
  zero = zero;
  one = one;
  add = add;
  mul = mul;
  neg = neg;
  is_set = is_set;
  add_assoc = add_assoc;
  add_comm = add_comm;
  add-zero = add-zero;
  add-neg = add-neg;
  mul_assoc = mul_assoc;
  mul_comm = mul_comm;
  mul-one = mul-one;
  mul-add = mul-add;
}

pub mul-zero : (p : Polynomial) → mul p zero ≡ zero
unfolding mul zero of_terms
mul-zero p = mul_comm p zero

-- ---- no divisors of zero: the least term of a product is the product of the least terms
below-append : (e : Exponents) (r s : List Term) → T (below_all e r) → T (below_all e s) → T (below_all e (r ++ s))
below-append e [] s p q = q
below-append e (t ∷ r) s p q = both _ _ (first _ _ p) (below-append e r s (second _ _ p) q)

below-times : (t : Term) (f : Exponents) (s : List Term) → T (below_all f s) → T (below_all (Exponents.add t.0 f) (times t s))
below-times t f [] h = tt
below-times t f (u ∷ s) h = both _ _ (less_is _ (ExponentLaws.compare-add t.0 f u.0 (is_less _ (first _ _ h)))) (below-times t f s (second _ _ h))

below-product : (e : Exponents) (r : List Term) (u : Term) (s : List Term) → T (below_all e r) → T (below_all u.0 s) → T (below_all (Exponents.add e u.0) (product r (u ∷ s)))
below-product e [] u s h k = tt
below-product e (t ∷ r) u s h k =
    let less : compare (Exponents.add e u.0) (Exponents.add t.0 u.0) ≡ Less =
    ap₂ compare (ExponentLaws.add_comm e u.0) (ExponentLaws.add_comm t.0 u.0) ∙ ExponentLaws.compare-add u.0 e t.0 (is_less _ (first _ _ h)) in
    both _ _ (less_is _ less)
    (below-append _ (times t s) (product r (u ∷ s)) (below_all_trans _ _ (times t s) less (below-times t u.0 s k)) (below-product e r u s (second _ _ h) k))

-- the least coefficient of a product of lists that rise
pub least_product : (t u : Term) (r s : List Term) → T (below_all t.0 r) → T (below_all u.0 s) → coefficient (product (t ∷ r) (u ∷ s)) (Exponents.add t.0 u.0) ≡ t.1 *ℤ u.1
unfolding coefficient total
least_product t u r s p q =
    let rest : total (at (Exponents.add t.0 u.0)) (times t s ++ product r (u ∷ s)) ≡ pos 0 =
    coefficient_below (Exponents.add t.0 u.0) (times t s ++ product r (u ∷ s))
    (below-append _ (times t s) (product r (u ∷ s)) (below-times t u.0 s q) (below-product t.0 r u s p q)) in
    let head = at_same (Exponents.add t.0 u.0) (t.1 *ℤ u.1) in
    omega (arith, ints, rest, head)

-- the terms after the first of a normal list are above it
pub above_first : (t : Term) (r : List Term) → T (is_normal (t ∷ r)) → T (below_all t.0 r)
above_first t r h = first (below_all t.0 r) _ (second (not (is_zero t.1)) _ h)

nat_product_zero : (m n : ℕ) → m * n ≡ 0 → ¬ (m ≡ 0) → n ≡ 0
nat_product_zero m nat_zero h k = refl
nat_product_zero m (suc n) h k = absurd (k (omega (arith, h)))

pub int_product_zero : (c d : ℤ) → c *ℤ d ≡ pos 0 → ¬ (c ≡ pos 0) → d ≡ pos 0
int_product_zero (pos m) (pos n) h k = ap pos (nat_product_zero m n (ap nat_abs h) (λ e. k (ap pos e)))
int_product_zero (pos m) (negsuc n) h k = absurd (k (ap pos (omega (arith, ints, h))))
int_product_zero (negsuc m) (pos n) h k = ap pos (omega (arith, ints, h))
int_product_zero (negsuc m) (negsuc n) h k = absurd (omega (arith, ints, h))

product_empty : (r s : List Term) → T (is_normal r) → T (is_normal s) → ((e : Exponents) → coefficient (product r s) e ≡ pos 0) → (r ≡ []) ⊎ (s ≡ [])
product_empty [] s p q h = inl refl
product_empty (t ∷ r) [] p q h = inr refl
product_empty (t ∷ r) (u ∷ s) p q h =
    absurd (head_not_zero u s q (int_product_zero t.1 u.1 (sym (least_product t u r s (above_first t r p) (above_first u s q)) ∙ h (Exponents.add t.0 u.0)) (head_not_zero t r p)))

pub empty_is_zero : (p : Polynomial) → p.terms ≡ [] → p ≡ zero
unfolding zero of_terms
empty_is_zero p h = same_terms p zero h

pub mul_nonzero : (p q : Polynomial) → ¬ (p ≡ zero) → ¬ (q ≡ zero) → ¬ (mul p q ≡ zero)
mul_nonzero p q np nq h =
    ⊎_elim (λ e. np (empty_is_zero p e)) (λ e. nq (empty_is_zero q e))
    (product_empty p.terms q.terms p.normal q.normal (λ e. sym (coefficient-mul p q e) ∙ ap (λ r. coefficient_of r e) h ∙ coefficient-zero e))

pub one_nonzero : ¬ (one ≡ zero)
unfolding one zero of_terms
one_nonzero h = grind (arith, same_if one zero h)

-- ---- constants and variables
pub of_terms-product : (r s : List Term) → mul (of_terms r) (of_terms s) ≡ of_terms (product r s)
unfolding mul of_terms
of_terms-product r s = of_terms_ext _ _ (λ e.
    total-product-normal_form (at e) (at_additive e) r (normal_form s) ∙ total-product-normal_form_right (at e) (at_additive e) r s)

pub of_terms-append : (r s : List Term) → add (of_terms r) (of_terms s) ≡ of_terms (r ++ s)
unfolding add of_terms
of_terms-append r s = of_terms_ext _ _ (λ e.
    total-append (at e) (normal_form r) (normal_form s) ∙ ap₂ ◌+ℤ◌ (total-normal_form (at e) (at_additive e) r) (total-normal_form (at e) (at_additive e) s)
    ∙ sym (total-append (at e) r s))

pub monomial-mul : (e f : Exponents) (c d : ℤ) → mul (monomial e c) (monomial f d) ≡ monomial (Exponents.add e f) (c *ℤ d)
unfolding monomial
monomial-mul e f c d = of_terms-product ((e, c) ∷ []) ((f, d) ∷ [])

pub monomial-add : (e : Exponents) (c d : ℤ) → add (monomial e c) (monomial e d) ≡ monomial e (c +ℤ d)
unfolding monomial total
monomial-add e c d = of_terms-append ((e, c) ∷ []) ((e, d) ∷ []) ∙ of_terms_ext _ _ (λ f.
    let h = (at_additive f).sum e c d in omega (arith, ints, h))

pub constant-add : (c d : ℤ) → constant (c +ℤ d) ≡ add (constant c) (constant d)
unfolding constant
constant-add c d = sym (monomial-add Exponents.none c d)

pub constant-mul : (c d : ℤ) → constant (c *ℤ d) ≡ mul (constant c) (constant d)
unfolding constant
constant-mul c d = sym (monomial-mul Exponents.none Exponents.none c d ∙ ap (λ e. monomial e (c *ℤ d)) (ExponentLaws.none-add Exponents.none))

-- ---- partial derivatives
pub total-partial : (φ : Exponents → ℤ → ℤ) → IsAdditive φ → (i : ℕ) (p : Polynomial) → total φ (partial i p).terms ≡ total φ (derivative i p.terms)
unfolding partial
total-partial φ a i p = terms_of_terms φ a (derivative i p.terms)

pub partial-is : (i : ℕ) (p : Polynomial) → partial i p ≡ of_terms (derivative i p.terms)
unfolding partial
partial-is i p = refl

pub partial-add : (i : ℕ) (p q : Polynomial) → partial i (add p q) ≡ add (partial i p) (partial i q)
unfolding coefficient add of_terms
partial-add i p q = ext _ _ (λ e.
    total-partial (at e) (at_additive e) i (add p q)
    ∙ total-derivative-normal_form (at e) (at_additive e) i (p.terms ++ q.terms)
    ∙ total-derivative-append (at e) (at_additive e) i p.terms q.terms
    ∙ sym (total-add (at e) (at_additive e) (partial i p) (partial i q) ∙ ap₂ ◌+ℤ◌ (total-partial (at e) (at_additive e) i p) (total-partial (at e) (at_additive e) i q)))

pub partial-mul : (i : ℕ) (p q : Polynomial) → partial i (mul p q) ≡ add (mul (partial i p) q) (mul p (partial i q))
unfolding coefficient mul of_terms partial
partial-mul i p q = ext _ _ (λ e.
    total-partial (at e) (at_additive e) i (mul p q)
    ∙ total-derivative-normal_form (at e) (at_additive e) i (product p.terms q.terms)
    ∙ total-derivative-product (at e) (at_additive e) i p.terms q.terms
    ∙ sym (total-add (at e) (at_additive e) (mul (partial i p) q) (mul p (partial i q))
    ∙ ap₂ ◌+ℤ◌
    (total-mul (at e) (at_additive e) (partial i p) q ∙ total-product-normal_form (at e) (at_additive e) (derivative i p.terms) q.terms)
    (total-mul (at e) (at_additive e) p (partial i q) ∙ total-product-normal_form_right (at e) (at_additive e) p.terms (derivative i q.terms))))

pub partial-constant : (i : ℕ) (c : ℤ) → partial i (constant c) ≡ zero
unfolding partial constant monomial of_terms zero total
partial-constant i c = of_terms_ext _ [] (λ e.
    total-derivative-normal_form (at e) (at_additive e) i ((Exponents.none, c) ∷ [])
    ∙ ap (λ k. k +ℤ pos 0) (ap (at e (Exponents.lower i Exponents.none)) (no_exponent i c) ∙ additive_zero (at e) (at_additive e) (Exponents.lower i Exponents.none)))
  where
    no_exponent : (i : ℕ) (c : ℤ) → pos (Exponents.exponent i Exponents.none) *ℤ c ≡ pos 0
    no_exponent i c = ap (λ (n : ℕ). pos n *ℤ c) (ExponentLaws.exponent-none i) ∙ zero-*ℤ c

-- the coefficient of a partial derivative of one term
partial-monomial : (i : ℕ) (e : Exponents) (c : ℤ) → partial i (monomial e c) ≡ monomial (Exponents.lower i e) (pos (Exponents.exponent i e) *ℤ c)
unfolding partial monomial of_terms
partial-monomial i e c = of_terms_ext _ _ (λ f. total-derivative-normal_form (at f) (at_additive f) i ((e, c) ∷ []))

pub monomial-zero : (e : Exponents) → monomial e (pos 0) ≡ zero
unfolding monomial zero of_terms
monomial-zero e = refl

pub partial-variable_same : (i : ℕ) → partial i (variable i) ≡ one
unfolding variable one constant
partial-variable_same i =
    partial-monomial i (Exponents.unit i) (pos 1)
    ∙ ap₂ monomial (ExponentLaws.lower-unit i) (ap (λ (n : ℕ). pos n *ℤ pos 1) (ExponentLaws.exponent-unit_same i))

pub partial-variable_other : (i j : ℕ) → ¬ (i ≡ j) → partial i (variable j) ≡ zero
unfolding variable
partial-variable_other i j h =
    partial-monomial i (Exponents.unit j) (pos 1)
    ∙ ap (λ (n : ℕ). monomial (Exponents.lower i (Exponents.unit j)) (pos n *ℤ pos 1)) (ExponentLaws.exponent-unit_other i j h)
    ∙ monomial-zero (Exponents.lower i (Exponents.unit j))
