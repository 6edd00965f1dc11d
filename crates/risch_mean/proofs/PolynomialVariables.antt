-- Which variables occur in a polynomial.
--     Within-add, Within-mul, ..      polynomials in the variables below n are closed under the operations
--     partial_past      a variable that does not occur has derivative 0
--     free_part_zero      P + t·Q = 0 with P free of t only if P = 0
use Rattle.std.specs.Prelude.{◌≡◌, refl, ℕ, ◌<◌, ◌≤◌, true, false, cond, T, List, [], ◌∷◌, ◌++◌, ℤ, pos, negsuc, ◌+ℤ◌, ◌*ℤ◌}
use Rattle.std.proofs.Common.{sym, ap, ap₂, ◌∙◌, arith}
use Rattle.std.proofs.lemmas.Int.{ints}
use lib.IntN.{*ℤ_comm, zero-*ℤ}
use Rattle.std.specs.declared.cmp.Ordering.TheVariants.{Less, Equal, Greater}
use Rattle.std.specs.Ordering.{is_eq}
use Rattle.std.specs.FinMap.Entries.{by_order}
use native.Mathlib.Decide.{ℕ_discrete}
use Rattle.risch_ring.specs.Integers.{ints_mul-one}
use Rattle.risch_mean.specs.Exponents
use Rattle.risch_mean.specs.ExponentLaws
use Rattle.risch_mean.specs.Exponents.{Exponents, compare}
use Rattle.risch_mean.specs.ExponentLaws.{compare-Equal}
use Rattle.risch_mean.specs.Terms.{Term, total, at, coefficient, normal_form, keep, place, is_zero, times, product, derivative}
use Rattle.risch_mean.specs.TermLaws.{IsAdditive, additive_zero, at_additive, both, first, second}
use Rattle.risch_mean.specs.ProductLaws.{append-nil}
use Rattle.risch_mean.specs.Polynomial.{Polynomial, Within, add, all_below, coefficient_of, constant, monomial, mul, neg, of_terms, one, partial, variable, zero}
use Rattle.risch_mean.specs.PolynomialLaws.{coefficient-add, coefficient-mul, coefficient-zero, ext, monomial-mul, of_terms-append, of_terms-terms, same_if, total-partial}

all_below-append : (n : ℕ) (r s : List Term) → T (all_below n r) → T (all_below n s) → T (all_below n (r ++ s))
all_below-append n [] s p q = q
all_below-append n (t ∷ r) s p q = both _ _ (first _ _ p) (all_below-append n r s (second _ _ p) q)

all_below-keep : (n : ℕ) (e : Exponents) (c : ℤ) (r : List Term) → T (Exponents.below n e) → T (all_below n r) → T (all_below n (keep e c r))
all_below-keep n e c r p q = elim (is_zero c) as (λ b. T (all_below n (cond b r ((e, c) ∷ r)))) [ true ↦ q | false ↦ both _ _ p q ]

all_below-place : (n : ℕ) (e : Exponents) (c : ℤ) (r : List Term) → T (Exponents.below n e) → T (all_below n r) → T (all_below n (place e c r))
all_below-place n e c [] p q = all_below-keep n e c [] p tt
all_below-place n e c (t ∷ r) p q =
    elim (compare e t.0) as (λ o. T (all_below n (by_order o (keep e c (t ∷ r)) (keep e (c +ℤ t.1) r) (t ∷ place e c r)))) [
      | Less ↦ all_below-keep n e c (t ∷ r) p q
      | Equal ↦ all_below-keep n e (c +ℤ t.1) r p (second _ _ q)
      | Greater ↦ both _ _ (first _ _ q) (all_below-place n e c r p (second _ _ q))
    ]

all_below-normal_form : (n : ℕ) (r : List Term) → T (all_below n r) → T (all_below n (normal_form r))
all_below-normal_form n [] h = tt
all_below-normal_form n (t ∷ r) h = all_below-place n t.0 t.1 (normal_form r) (first _ _ h) (all_below-normal_form n r (second _ _ h))

all_below-times : (n : ℕ) (t : Term) (s : List Term) → T (Exponents.below n t.0) → T (all_below n s) → T (all_below n (times t s))
all_below-times n t [] p q = tt
all_below-times n t (u ∷ s) p q = both _ _ (ExponentLaws.below-add n t.0 u.0 p (first _ _ q)) (all_below-times n t s p (second _ _ q))

all_below-product : (n : ℕ) (r s : List Term) → T (all_below n r) → T (all_below n s) → T (all_below n (product r s))
all_below-product n [] s p q = tt
all_below-product n (t ∷ r) s p q = all_below-append n (times t s) (product r s) (all_below-times n t s (first _ _ p) q) (all_below-product n r s (second _ _ p) q)

all_below-derivative : (n i : ℕ) (r : List Term) → T (all_below n r) → T (all_below n (derivative i r))
all_below-derivative n i [] h = tt
all_below-derivative n i (t ∷ r) h = both _ _ (ExponentLaws.below-lower n i t.0 (first _ _ h)) (all_below-derivative n i r (second _ _ h))

Within-of_terms : (n : ℕ) (r : List Term) → T (all_below n r) → Within n (of_terms r)
unfolding of_terms
Within-of_terms n r h = record { within = all_below-normal_form n r h }

pub Within-zero : (n : ℕ) → Within n zero
unfolding zero
Within-zero n = Within-of_terms n [] tt

pub Within-constant : (n : ℕ) (c : ℤ) → Within n (constant c)
unfolding constant monomial
Within-constant n c = Within-of_terms n ((Exponents.none, c) ∷ []) (both _ _ (ExponentLaws.below-none n) tt)

pub Within-one : (n : ℕ) → Within n one
unfolding one
Within-one n = Within-constant n (pos 1)

pub Within-variable : (n i : ℕ) → i < n → Within n (variable i)
unfolding variable monomial
Within-variable n i h = Within-of_terms n ((Exponents.unit i, pos 1) ∷ []) (both _ _ (ExponentLaws.below-unit n i h) tt)

pub Within-add : (n : ℕ) (p q : Polynomial) → Within n p → Within n q → Within n (add p q)
unfolding add
Within-add n p q h k = Within-of_terms n (p.terms ++ q.terms) (all_below-append n p.terms q.terms h.within k.within)

pub Within-mul : (n : ℕ) (p q : Polynomial) → Within n p → Within n q → Within n (mul p q)
unfolding mul
Within-mul n p q h k = Within-of_terms n (product p.terms q.terms) (all_below-product n p.terms q.terms h.within k.within)

pub Within-neg : (n : ℕ) (p : Polynomial) → Within n p → Within n (neg p)
unfolding neg
Within-neg n p h = Within-of_terms n _ (all_below-times n (Exponents.none, negsuc 0) p.terms (ExponentLaws.below-none n) h.within)

pub Within-partial : (n i : ℕ) (p : Polynomial) → Within n p → Within n (partial i p)
unfolding partial
Within-partial n i p h = Within-of_terms n (derivative i p.terms) (all_below-derivative n i p.terms h.within)

all_below_more : (n m : ℕ) (r : List Term) → n ≤ m → T (all_below n r) → T (all_below m r)
all_below_more n m [] h p = tt
all_below_more n m (t ∷ r) h p = both _ _ (ExponentLaws.below_more n m t.0 h (first _ _ p)) (all_below_more n m r h (second _ _ p))

pub Within_more : (n m : ℕ) (p : Polynomial) → n ≤ m → Within n p → Within m p
Within_more n m p h w = record { within = all_below_more n m p.terms h w.within }

-- a variable that does not occur has derivative 0
total-derivative_past : (φ : Exponents → ℤ → ℤ) → IsAdditive φ → (n i : ℕ) (r : List Term) → n ≤ i → T (all_below n r) → total φ (derivative i r) ≡ pos 0
unfolding total
total-derivative_past φ a n i [] h p = refl
total-derivative_past φ a n i (t ∷ r) h p =
    ap₂ ◌+ℤ◌
    (ap (λ (k : ℕ). φ (Exponents.lower i t.0) (pos k *ℤ t.1)) (ExponentLaws.exponent-below n i t.0 (first _ _ p) h) ∙ ap (φ (Exponents.lower i t.0)) (zero-*ℤ t.1) ∙ additive_zero φ a (Exponents.lower i t.0))
    (total-derivative_past φ a n i r h (second _ _ p))

pub partial_past : (n i : ℕ) (p : Polynomial) → n ≤ i → Within n p → partial i p ≡ zero
unfolding coefficient
partial_past n i p h w = ext _ _ (λ e. total-partial (at e) (at_additive e) i p ∙ total-derivative_past (at e) (at_additive e) n i p.terms h w.within ∙ sym (coefficient-zero e))

-- ---- a power of a variable that occurs in every term
-- the coefficient at e is 0 where each term has another exponent of variable i
abbrev AllApart : ℕ → Exponents → List Term → Type 0
AllApart i e [] = Unit {0}
AllApart i e (t ∷ r) = ¬ (Exponents.exponent i e ≡ Exponents.exponent i t.0) × AllApart i e r

coefficient_apart : (i : ℕ) (e : Exponents) (r : List Term) → AllApart i e r → coefficient r e ≡ pos 0
unfolding coefficient total at
coefficient_apart i e [] h = refl
coefficient_apart i e (t ∷ r) h =
    ap₂ ◌+ℤ◌
    (elim (compare e t.0) as (λ o. compare e t.0 ≡ o → cond (is_eq o) t.1 (pos 0) ≡ pos 0) [
      | Less ↦ λ _. refl
      | Equal ↦ λ p. absurd (h.0 (ap (Exponents.exponent i) (compare-Equal e t.0 p)))
      | Greater ↦ λ _. refl
    ] refl)
    (coefficient_apart i e r h.1)

apart_within : (n i : ℕ) (e : Exponents) (r : List Term) → n ≤ i → ¬ (Exponents.exponent i e ≡ 0) → T (all_below n r) → AllApart i e r
apart_within n i e [] h k p = tt
apart_within n i e (t ∷ r) h k p = (λ q. k (q ∙ ExponentLaws.exponent-below n i t.0 (first _ _ p) h), apart_within n i e r h k (second _ _ p))

apart_times : (i : ℕ) (e : Exponents) (c : ℤ) (r : List Term) → Exponents.exponent i e ≡ 0 → AllApart i e (times (Exponents.unit i, c) r)
apart_times i e c [] h = tt
apart_times i e c (t ∷ r) h = (λ q. omega (arith, q, h, ExponentLaws.exponent-add i (Exponents.unit i) t.0, ExponentLaws.exponent-unit_same i), apart_times i e c r h)

pub variable_terms : (i : ℕ) → (variable i).terms ≡ (Exponents.unit i, pos 1) ∷ []
unfolding variable monomial of_terms
variable_terms i = refl

-- P + t·Q = 0 with P free of t only if P = 0
pub free_part_zero : (n : ℕ) (p q : Polynomial) → Within n p → add p (mul (variable n) q) ≡ zero → p ≡ zero
free_part_zero n p q w h = ext _ _ (λ e. at_exponents e (ℕ_discrete (Exponents.exponent n e) 0) ∙ sym (coefficient-zero e))
  where
    product_at : (e : Exponents) → Exponents.exponent n e ≡ 0 → coefficient_of (mul (variable n) q) e ≡ pos 0
    product_at e k =
        coefficient-mul (variable n) q e ∙ ap (λ r. coefficient (product r q.terms) e) (variable_terms n)
        ∙ ap (λ r. coefficient r e) (append-nil (times (Exponents.unit n, pos 1) q.terms)) ∙ coefficient_apart n e _ (apart_times n e (pos 1) q.terms k)

    at_exponents : (e : Exponents) → Dec (Exponents.exponent n e ≡ 0) → coefficient_of p e ≡ pos 0
    at_exponents e (yes k) =
        let a = coefficient-add p (mul (variable n) q) e in
        let b = product_at e k in
        let c = ap (λ r. coefficient_of r e) h in
        let d = coefficient-zero e in
        omega (arith, ints, a, b, c, d)
    at_exponents e (no k) = coefficient_apart n e p.terms (apart_within n n e p.terms (omega arith) k w.within)

variable-ne-zero_terms : (i : ℕ) → ¬ (variable i ≡ zero)
unfolding variable monomial zero of_terms
variable-ne-zero_terms i h = grind (arith, same_if (variable i) zero h)

pub variable-ne-zero : (i : ℕ) → ¬ (variable i ≡ zero)
variable-ne-zero = variable-ne-zero_terms

-- ---- a polynomial is the sum of its terms
pub of_terms-cons : (t : Term) (r : List Term) → of_terms (t ∷ r) ≡ add (monomial t.0 t.1) (of_terms r)
unfolding monomial
of_terms-cons t r = sym (of_terms-append (t ∷ []) r)

pub of_own_terms : (p : Polynomial) → of_terms p.terms ≡ p
of_own_terms = of_terms-terms

pub of_terms-nil : of_terms [] ≡ zero
unfolding zero
of_terms-nil = refl

-- a monomial in which variable i occurs
pub monomial-lower : (i : ℕ) (e : Exponents) (c : ℤ) → ¬ (Exponents.exponent i e ≡ 0) → monomial e c ≡ mul (variable i) (monomial (Exponents.lower i e) c)
unfolding variable
monomial-lower i e c h = ap₂ monomial (sym (ExponentLaws.add-lower i e h)) (sym (*ℤ_comm (pos 1) c ∙ ints_mul-one c)) ∙ sym (monomial-mul (Exponents.unit i) (Exponents.lower i e) (pos 1) c)

pub Within-monomial : (n : ℕ) (e : Exponents) (c : ℤ) → T (Exponents.below n e) → Within n (monomial e c)
unfolding monomial
Within-monomial n e c h = Within-of_terms n ((e, c) ∷ []) (both _ _ h tt)
