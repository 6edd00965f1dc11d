-- Laws of products and partial derivatives of sums of terms.
-- Each is stated of the sum of any additive φ over the terms: with φ the part at one exponent list it speaks of coefficients.
use Rattle.std.specs.Prelude.{◌≡◌, refl, ℕ, List, [], ◌∷◌, ◌++◌, ℤ, pos, ◌+ℤ◌, ◌*ℤ◌}
use Rattle.std.proofs.Common.{sym, ap, ap₂, ◌∙◌, arith}
use Rattle.std.proofs.lemmas.Int.{ints}
use native.Mathlib.Decide.{ℕ_discrete}
use Rattle.risch_ring.specs.Integers.{ints_mul-add, ints_add-mul, ints_mul_assoc, ints_mul-one}
use lib.IntN.{*ℤ_comm, zero-*ℤ}
use Rattle.risch_mean.specs.Exponents
use Rattle.risch_mean.specs.ExponentLaws
use Rattle.risch_mean.specs.Exponents.{Exponents}
use Rattle.risch_mean.specs.Terms.{Term, total, normal_form, derivative, product, times}
use Rattle.risch_mean.specs.TermLaws.{IsAdditive, additive_zero, total-append, total-normal_form}

-- ---- lists that are equal
append_assoc : (r s u : List Term) → (r ++ s) ++ u ≡ r ++ (s ++ u)
append_assoc [] s u = refl
append_assoc (t ∷ r) s u = ap (λ (l : List Term). t ∷ l) (append_assoc r s u)

times-append : (t : Term) (r s : List Term) → times t (r ++ s) ≡ times t r ++ times t s
times-append t [] s = refl
times-append t (u ∷ r) s = ap (λ (l : List Term). (Exponents.add t.0 u.0, t.1 *ℤ u.1) ∷ l) (times-append t r s)

pub product-append : (r s u : List Term) → product (r ++ s) u ≡ product r u ++ product s u
product-append [] s u = refl
product-append (t ∷ r) s u = ap (λ l. times t u ++ l) (product-append r s u) ∙ sym (append_assoc (times t u) (product r u) (product s u))

times-times : (t u : Term) (s : List Term) → times (Exponents.add t.0 u.0, t.1 *ℤ u.1) s ≡ times t (times u s)
times-times t u [] = refl
times-times t u (v ∷ s) = λ i. (ExponentLaws.add_assoc t.0 u.0 v.0 i, ints_mul_assoc t.1 u.1 v.1 i) ∷ times-times t u s i

product-times : (t : Term) (s u : List Term) → product (times t s) u ≡ times t (product s u)
product-times t [] u = refl
product-times t (v ∷ s) u = ap₂ ◌++◌ (times-times t v u) (product-times t s u) ∙ sym (times-append t (times v u) (product s u))

pub product_assoc : (r s u : List Term) → product (product r s) u ≡ product r (product s u)
product_assoc [] s u = refl
product_assoc (t ∷ r) s u = product-append (times t s) (product r s) u ∙ ap₂ ◌++◌ (product-times t s u) (product_assoc r s u)

pub times-one : (s : List Term) → times (Exponents.none, pos 1) s ≡ s
times-one [] = refl
times-one (u ∷ s) = λ i. (ExponentLaws.none-add u.0 i, (*ℤ_comm (pos 1) u.1 ∙ ints_mul-one u.1) i) ∷ times-one s i

pub append-nil : (r : List Term) → r ++ [] ≡ r
append-nil [] = refl
append-nil (t ∷ r) = ap (λ (l : List Term). t ∷ l) (append-nil r)

pub one-product : (s : List Term) → product ((Exponents.none, pos 1) ∷ []) s ≡ s
one-product s = append-nil (times (Exponents.none, pos 1) s) ∙ times-one s

-- ---- sums over a product
module _ (φ : Exponents → ℤ → ℤ) where
  -- the sum over the products with one term
  abbrev pub over_times : List Term → Exponents → ℤ → ℤ
  over_times s e c = total φ (times (e, c) s)

  total-product : (r s : List Term) → total φ (product r s) ≡ total (over_times s) r
  unfolding total
  total-product [] s = refl
  total-product (t ∷ r) s = total-append φ (times t s) (product r s) ∙ ap (λ k. total φ (times t s) +ℤ k) (total-product r s)

  total-product-nil : (r : List Term) → total φ (product r []) ≡ pos 0
  unfolding total
  total-product-nil [] = refl
  total-product-nil (t ∷ r) = total-product-nil r

  total-product-cons : (r : List Term) (u : Term) (s : List Term) → total φ (product r (u ∷ s)) ≡ total φ (times u r) +ℤ total φ (product r s)
  unfolding total
  total-product-cons [] u s = refl
  total-product-cons (t ∷ r) u s =
      let h = total-product-cons r u s in
      let k : φ (Exponents.add t.0 u.0) (t.1 *ℤ u.1) ≡ φ (Exponents.add u.0 t.0) (u.1 *ℤ t.1) = ap₂ φ (ExponentLaws.add_comm t.0 u.0) (*ℤ_comm t.1 u.1) in
      let a = total-append φ (times t s) (product r (u ∷ s)) in
      let b = total-append φ (times t s) (product r s) in
      omega (arith, ints, h, k, a, b)

  pub total-product_comm : (r s : List Term) → total φ (product r s) ≡ total φ (product s r)
  unfolding total
  total-product_comm r [] = total-product-nil r
  total-product_comm r (u ∷ s) =
      total-product-cons r u s ∙ ap (λ k. total φ (times u r) +ℤ k) (total-product_comm r s) ∙ sym (total-append φ (times u r) (product s r))

  module _ (a : IsAdditive φ) where
    times_sum : (e : Exponents) (c d : ℤ) (s : List Term) → total φ (times (e, c +ℤ d) s) ≡ total φ (times (e, c) s) +ℤ total φ (times (e, d) s)
    unfolding total
    times_sum e c d [] = refl
    times_sum e c d (u ∷ s) =
        let h = times_sum e c d s in
        let k : φ (Exponents.add e u.0) ((c +ℤ d) *ℤ u.1) ≡ φ (Exponents.add e u.0) (c *ℤ u.1) +ℤ φ (Exponents.add e u.0) (d *ℤ u.1) =
        ap (φ (Exponents.add e u.0)) (ints_add-mul c d u.1) ∙ a.sum (Exponents.add e u.0) (c *ℤ u.1) (d *ℤ u.1) in
        omega (arith, ints, h, k)

    pub over_times_additive : (s : List Term) → IsAdditive (over_times s)
    over_times_additive s = record { sum = λ e c d. times_sum e c d s }

    -- a factor may be brought into its normal form
    pub total-product-normal_form : (r s : List Term) → total φ (product (normal_form r) s) ≡ total φ (product r s)
    total-product-normal_form r s =
        total-product (normal_form r) s ∙ total-normal_form (over_times s) (over_times_additive s) r ∙ sym (total-product r s)

    pub total-product-normal_form_right : (r s : List Term) → total φ (product r (normal_form s)) ≡ total φ (product r s)
    total-product-normal_form_right r s = total-product_comm r (normal_form s) ∙ total-product-normal_form s r ∙ total-product_comm s r

derivative-append : (i : ℕ) (r s : List Term) → derivative i (r ++ s) ≡ derivative i r ++ derivative i s
derivative-append i [] s = refl
derivative-append i (t ∷ r) s = ap (λ (l : List Term). (Exponents.lower i t.0, pos (Exponents.exponent i t.0) *ℤ t.1) ∷ l) (derivative-append i r s)

module _ (φ : Exponents → ℤ → ℤ) (a : IsAdditive φ) (i : ℕ) where
  abbrev pub over_derivative : Exponents → ℤ → ℤ
  over_derivative e c = φ (Exponents.lower i e) (pos (Exponents.exponent i e) *ℤ c)

  over_derivative_additive : IsAdditive over_derivative
  over_derivative_additive = record { sum = λ e c d. ap (φ (Exponents.lower i e)) (ints_mul-add (pos (Exponents.exponent i e)) c d) ∙ a.sum (Exponents.lower i e) _ _ }

  total-derivative : (r : List Term) → total φ (derivative i r) ≡ total over_derivative r
  unfolding total
  total-derivative [] = refl
  total-derivative (t ∷ r) = ap (λ k. over_derivative t.0 t.1 +ℤ k) (total-derivative r)

  pub total-derivative-normal_form : (r : List Term) → total φ (derivative i (normal_form r)) ≡ total φ (derivative i r)
  total-derivative-normal_form r = total-derivative (normal_form r) ∙ total-normal_form over_derivative over_derivative_additive r ∙ sym (total-derivative r)

  pub total-derivative-append : (r s : List Term) → total φ (derivative i (r ++ s)) ≡ total φ (derivative i r) +ℤ total φ (derivative i s)
  total-derivative-append r s = ap (total φ) (derivative-append i r s) ∙ total-append φ (derivative i r) (derivative i s)

  -- where the exponent is 0 the exponents of a term with that coefficient do not matter
  lower_left : (e f : Exponents) (c d : ℤ) →
      φ (Exponents.lower i (Exponents.add e f)) (pos (Exponents.exponent i e) *ℤ (c *ℤ d)) ≡ φ (Exponents.add (Exponents.lower i e) f) ((pos (Exponents.exponent i e) *ℤ c) *ℤ d)
  lower_left e f c d =
      elim (ℕ_discrete (Exponents.exponent i e) 0) [
        | yes p ↦
            ap (λ (n : ℕ). φ (Exponents.lower i (Exponents.add e f)) (pos n *ℤ (c *ℤ d))) p ∙ ap (φ (Exponents.lower i (Exponents.add e f))) (zero-*ℤ (c *ℤ d)) ∙ additive_zero φ a _
            ∙ sym (ap (λ (n : ℕ). φ (Exponents.add (Exponents.lower i e) f) ((pos n *ℤ c) *ℤ d)) p
            ∙ ap (λ k. φ (Exponents.add (Exponents.lower i e) f) (k *ℤ d)) (zero-*ℤ c) ∙ ap (φ (Exponents.add (Exponents.lower i e) f)) (zero-*ℤ d) ∙ additive_zero φ a _)
        | no n ↦ ap₂ φ (ExponentLaws.lower-add i e f n) (sym (ints_mul_assoc (pos (Exponents.exponent i e)) c d))
      ]

  lower_product : (e f : Exponents) (c d : ℤ) →
      φ (Exponents.lower i (Exponents.add e f)) (pos (Exponents.exponent i (Exponents.add e f)) *ℤ (c *ℤ d))
      ≡ φ (Exponents.add (Exponents.lower i e) f) ((pos (Exponents.exponent i e) *ℤ c) *ℤ d) +ℤ φ (Exponents.add e (Exponents.lower i f)) (c *ℤ (pos (Exponents.exponent i f) *ℤ d))
  lower_product e f c d =
      let m : Exponents = Exponents.lower i (Exponents.add e f) in
      ap (λ (n : ℕ). φ m (pos n *ℤ (c *ℤ d))) (ExponentLaws.exponent-add i e f)
      ∙ ap (φ m) (ints_add-mul (pos (Exponents.exponent i e)) (pos (Exponents.exponent i f)) (c *ℤ d))
      ∙ a.sum m _ _
      ∙ ap₂ ◌+ℤ◌ (lower_left e f c d)
      (ap₂ (λ g k. φ (Exponents.lower i g) (pos (Exponents.exponent i f) *ℤ k)) (ExponentLaws.add_comm e f) (*ℤ_comm c d)
      ∙ lower_left f e d c
      ∙ ap₂ φ (ExponentLaws.add_comm (Exponents.lower i f) e) (*ℤ_comm (pos (Exponents.exponent i f) *ℤ d) c))

  derivative-times : (t : Term) (s : List Term) →
      total φ (derivative i (times t s)) ≡ total φ (times (Exponents.lower i t.0, pos (Exponents.exponent i t.0) *ℤ t.1) s) +ℤ total φ (times t (derivative i s))
  unfolding total
  derivative-times t [] = refl
  derivative-times t (u ∷ s) =
      let k = lower_product t.0 u.0 t.1 u.1 in
      let h = derivative-times t s in
      omega (arith, ints, h, k)

  -- the derivative of a product
  pub total-derivative-product : (r s : List Term) → total φ (derivative i (product r s)) ≡ total φ (product (derivative i r) s) +ℤ total φ (product r (derivative i s))
  unfolding total
  total-derivative-product [] s = refl
  total-derivative-product (t ∷ r) s =
      let a = total-derivative-append (times t s) (product r s) in
      let b = derivative-times t s in
      let c = total-derivative-product r s in
      let d = total-append φ (times (Exponents.lower i t.0, pos (Exponents.exponent i t.0) *ℤ t.1) s) (product (derivative i r) s) in
      let e = total-append φ (times t (derivative i s)) (product r (derivative i s)) in
      omega (arith, ints, a, b, c, d, e)
