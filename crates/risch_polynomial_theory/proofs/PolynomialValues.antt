-- What the rules on polynomials form, where they give a value: polynomials with the sum, the product, .. of the values at every t.
use Rattle.std.specs.Prelude.{if◌then◌else◌, nat_le, slice_set}
use Rattle.std.proofs.Common.{◌≡◌, ℕ, zero, suc, ◌+◌, ◌-◌, ◌^◌, ◌<◌, ◌≤◌, Bool, true, false, ◌&&◌, List, [], ◌∷◌, ◌++◌, map, length, replicate, drop, Ok, Err, refl, sym, ◌∙◌, ap, ap₂, arith, append_assoc, subst}
use Rattle.std.proofs.lemmas.List.{length-set, length-replicate}
use Rattle.risch_ring.specs.CommRing.{CommRing, of_nat, power}
use Rattle.risch_ring.proofs.Laws as Laws
use Rattle.risch_ring.proofs.Expression.{reading}
use Rattle.risch_ring.proofs.Solver.{ring}
use Rattle.risch_mean.specs.Univariate.{value_at, numbered, formal_derivative}
use Rattle.risch_field.specs.Checked.{and_then}
use Rattle.risch_field.specs.Ops.{Ops}
use Rattle.risch_polynomial.specs.Poly as poly
use Rattle.risch_polynomial_theory.specs.Meaning.{Interprets, AllValid, HasValue, value}
use Rattle.risch_field.specs.declared.Fail.TheVariants.{Size}
use Rattle.risch_field.proofs.CheckedSteps.{and_then-ok, if-ok, if-then}

-- r is what is formed so far and then valid coefficients with this value
record Extends {E A : Type 0} (valid : E → Type 0) (value : List E → A) (formed r : List E) (v : A) : Type 0 where
  rest : List E
  is : r ≡ formed ++ rest
  all : AllValid valid rest
  means : value rest ≡ v

-- r has the length of p, valid coefficients and this value
record Changed {E A : Type 0} (valid : E → Type 0) (value : List E → A) (p r : List E) (v : A) : Type 0 where
  len : length r ≡ length p
  all : AllValid valid r
  means : value r ≡ v

module _ {E A : Type 0} {o : Ops E} {R : CommRing A} {valid : E → Type 0} {meaning : E → A} (h : Interprets o R valid meaning) where
  open R use {zero as 𝟘, one as 𝟙, add as ◌⊕◌, mul as ◌⊗◌, neg as ⊖◌}

  infixl 60 ◌⊕◌
  infixl 70 ◌⊗◌
  infix 80 ⊖◌
  abbrev at : A → List E → A
  at t p = value R meaning t p

  -- ---- lists of coefficients
  push_assoc : (formed rest r : List E) (c : E) → r ≡ (formed ++ c ∷ []) ++ rest → r ≡ formed ++ c ∷ rest
  push_assoc formed rest r c e = e ∙ append_assoc formed (c ∷ []) rest

  pub coefficient-valid : (p : List E) (k : ℕ) → AllValid valid p → valid (poly.coefficient o p k)
  coefficient-valid [] k all = h.zero-valid
  coefficient-valid (c ∷ p) zero all = all.0
  coefficient-valid (c ∷ p) (suc k) all = coefficient-valid p k all.1

  pub set-valid : (p : List E) (k : ℕ) (s : E) → AllValid valid p → valid s → AllValid valid (slice_set p k s)
  set-valid [] k s all v = tt
  set-valid (c ∷ p) zero s all v = (v, all.1)
  set-valid (c ∷ p) (suc k) s all v = (all.0, set-valid p k s all.1 v)

  pub power-next : (t : A) (k : ℕ) → power R t (k + 1) ≡ t ⊗ power R t k
  power-next t k = let next : k + 1 ≡ suc k = omega arith in ap (power R t) next ∙ Laws.power-suc R t k

  -- another coefficient at exponent k, which differs by d
  pub set-means : (t : A) (p : List E) (k : ℕ) (s : E) (d : A) → k < length p → meaning s ≡ meaning (poly.coefficient o p k) ⊕ d →
      at t (slice_set p k s) ≡ at t p ⊕ power R t k ⊗ d
  set-means t [] k s d below e = absurd (omega arith)
  set-means t (c ∷ p) zero s d below e =
      ap (λ m. m ⊕ t ⊗ at t p) e ∙ first (meaning c) d t (at t p) ∙ ap (λ w. meaning c ⊕ t ⊗ at t p ⊕ w ⊗ d) (sym (Laws.power-zero R t))
    where
      first : (c d t v : A) → c ⊕ d ⊕ t ⊗ v ≡ c ⊕ t ⊗ v ⊕ 𝟙 ⊗ d
      first c d t v = ring R (c ∷ d ∷ t ∷ v ∷ []) (search reading depth 30 fits 4000) refl
  set-means t (c ∷ p) (suc k) s d below e =
      ap (λ v. meaning c ⊕ t ⊗ v) (set-means t p k s d (omega arith) e) ∙ spread (meaning c) t (at t p) (power R t k) d
      ∙ ap (λ w. meaning c ⊕ t ⊗ at t p ⊕ w ⊗ d) (sym (Laws.power-suc R t k))
    where
      spread : (c t v w d : A) → c ⊕ t ⊗ (v ⊕ w ⊗ d) ≡ c ⊕ t ⊗ v ⊕ t ⊗ w ⊗ d
      spread c t v w d = ring R (c ∷ t ∷ v ∷ w ∷ d ∷ []) (search reading depth 30 fits 4000) refl

  pub zeros-means : (t : A) (n : ℕ) → at t (replicate n o.zero) ≡ 𝟘
  zeros-means t zero = refl
  zeros-means t (suc n) = ap₂ (λ c v. c ⊕ t ⊗ v) h.zero-means (zeros-means t n) ∙ nothing t
    where
      nothing : (t : A) → 𝟘 ⊕ t ⊗ 𝟘 ≡ 𝟘
      nothing t = ring R (t ∷ []) (search reading depth 20) refl

  pub zeros-valid : (n : ℕ) → AllValid valid (replicate n o.zero)
  zeros-valid zero = tt
  zeros-valid (suc n) = (h.zero-valid, zeros-valid n)

  -- ---- dropping zeros at the end
  leading-valid : (c : E) (p : List E) → valid c → AllValid valid p → AllValid valid (poly.leading o c p)
  leading-valid c [] v all = by_zero (o.is_zero c)
    where
      by_zero : (z : Bool) → AllValid valid (if z then [] else c ∷ [])
      by_zero true = tt
      by_zero false = (v, tt)
  leading-valid c (d ∷ p) v all = (v, all)

  leading-means : (t : A) (c : E) (p : List E) → valid c → at t (poly.leading o c p) ≡ meaning c ⊕ t ⊗ at t p
  leading-means t c [] v = by_zero (o.is_zero c) refl
    where
      nothing : (t : A) → 𝟘 ≡ 𝟘 ⊕ t ⊗ 𝟘
      nothing t = ring R (t ∷ []) (search reading depth 20) refl

      by_zero : (z : Bool) → o.is_zero c ≡ z → at t (if z then [] else c ∷ []) ≡ meaning c ⊕ t ⊗ 𝟘
      by_zero true z = nothing t ∙ ap (λ m. m ⊕ t ⊗ 𝟘) (sym (h.zero_is c v z))
      by_zero false z = refl
  leading-means t c (d ∷ p) v = refl

  pub trimmed-valid : (p : List E) → AllValid valid p → AllValid valid (poly.trimmed o p)
  trimmed-valid [] all = tt
  trimmed-valid (c ∷ p) all = leading-valid c (poly.trimmed o p) all.0 (trimmed-valid p all.1)

  pub trimmed-means : (t : A) (p : List E) → AllValid valid p → at t (poly.trimmed o p) ≡ at t p
  trimmed-means t [] all = refl
  trimmed-means t (c ∷ p) all = leading-means t c (poly.trimmed o p) all.0 ∙ ap (λ v. meaning c ⊕ t ⊗ v) (trimmed-means t p all.1)

  pub sized-is : (p r : List E) → poly.sized o p ≡ Ok r → p ≡ r
  sized-is p r e = if-ok (nat_le (length p) 256 && nat_le (poly.weight o p) 65536) p r e

  -- a polynomial that is formed from coefficients
  formed-means : (s r : List E) (v : A → A) → AllValid valid s → ((t : A) → at t s ≡ v t) → poly.sized o (poly.trimmed o s) ≡ Ok r → HasValue R valid meaning r v
  formed-means s r v all means e =
      let is = sized-is (poly.trimmed o s) r e in
      record {
        all_valid = subst (AllValid valid) is (trimmed-valid s all);
        value_is = λ t. ap (at t) (sym is) ∙ trimmed-means t s all ∙ means t;
      }

  -- ---- the sum
  sum_onto-means : (t : A) (formed p q r : List E) → AllValid valid p → AllValid valid q → poly.sum_onto o formed p q ≡ Ok r →
      Extends valid (at t) formed r (at t p ⊕ at t q)
  sum_onto-means t formed [] q r all_p all_q e = record { rest = q; is = cc; all = all_q; means = sym (Laws.zero-add R (at t q)) }
  sum_onto-means t formed (a ∷ p) [] r all_p all_q e = record { rest = a ∷ p; is = cc; all = all_p; means = sym (R.add-zero (at t (a ∷ p))) }
  sum_onto-means t formed (a ∷ p) (b ∷ q) r all_p all_q e =
      let first = and_then-ok (o.sum a b) (λ c. poly.sum_onto o (formed ++ c ∷ []) p q) r e in
      let c = first.value in
      let others = sum_onto-means t (formed ++ c ∷ []) p q r all_p.1 all_q.1 first.next in
      record {
        rest = c ∷ others.rest;
        is = push_assoc formed others.rest r c others.is;
        all = (h.sum-valid a b c all_p.0 all_q.0 first.is, others.all);
        means = ap₂ (λ m v. m ⊕ t ⊗ v) (h.sum-means a b c all_p.0 all_q.0 first.is) others.means ∙ spread (meaning a) (meaning b) t (at t p) (at t q);
      }
    where
      spread : (a b t v w : A) → a ⊕ b ⊕ t ⊗ (v ⊕ w) ≡ a ⊕ t ⊗ v ⊕ (b ⊕ t ⊗ w)
      spread a b t v w = ring R (a ∷ b ∷ t ∷ v ∷ w ∷ []) (search reading depth 30 fits 4000) refl

  -- where the first coefficients are none, the others are all
  extends-valid : (t v : A) (r : List E) → Extends valid (at t) [] r v → AllValid valid r
  extends-valid t v r x = subst (AllValid valid) (sym x.is) x.all

  extends-means : (t v : A) (r : List E) → Extends valid (at t) [] r v → at t r ≡ v
  extends-means t v r x = ap (at t) x.is ∙ x.means

  pub sum-means : (p q r : List E) → AllValid valid p → AllValid valid q → poly.sum o p q ≡ Ok r → HasValue R valid meaning r (λ t. at t p ⊕ at t q)
  unfolding poly.sum
  sum-means p q r all_p all_q e =
      let s = and_then-ok (poly.sum_onto o [] p q) (λ s. poly.sized o (poly.trimmed o s)) r e in
      formed-means s.value r (λ t. at t p ⊕ at t q)
      (extends-valid 𝟘 (at 𝟘 p ⊕ at 𝟘 q) s.value (sum_onto-means 𝟘 [] p q s.value all_p all_q s.is))
      (λ t. extends-means t (at t p ⊕ at t q) s.value (sum_onto-means t [] p q s.value all_p all_q s.is))
      s.next

  -- ---- the product with an element
  scaled_onto-means : (t : A) (formed : List E) (c : E) (p r : List E) → valid c → AllValid valid p → poly.scaled_onto o formed c p ≡ Ok r →
      Extends valid (at t) formed r (meaning c ⊗ at t p)
  scaled_onto-means t formed c [] r v all e = record { rest = []; is = cc (append_nil formed); all = tt; means = sym (Laws.mul-zero R (meaning c)) }
    where
      append_nil : (p : List E) → p ++ [] ≡ p
      append_nil [] = refl
      append_nil (a ∷ p) = ap (λ q. a ∷ q) (append_nil p)
  scaled_onto-means t formed c (a ∷ p) r v all e =
      let first = and_then-ok (o.product c a) (λ b. poly.scaled_onto o (formed ++ b ∷ []) c p) r e in
      let b = first.value in
      let others = scaled_onto-means t (formed ++ b ∷ []) c p r v all.1 first.next in
      record {
        rest = b ∷ others.rest;
        is = push_assoc formed others.rest r b others.is;
        all = (h.product-valid c a b v all.0 first.is, others.all);
        means = ap₂ (λ m w. m ⊕ t ⊗ w) (h.product-means c a b v all.0 first.is) others.means ∙ spread (meaning c) (meaning a) t (at t p);
      }
    where
      spread : (c a t v : A) → c ⊗ a ⊕ t ⊗ (c ⊗ v) ≡ c ⊗ (a ⊕ t ⊗ v)
      spread c a t v = ring R (c ∷ a ∷ t ∷ v ∷ []) (search reading depth 30 fits 4000) refl

  pub scaled-means : (c : E) (p r : List E) → valid c → AllValid valid p → poly.scaled o c p ≡ Ok r → HasValue R valid meaning r (λ t. meaning c ⊗ at t p)
  unfolding poly.scaled
  scaled-means c p r v all e =
      let s = and_then-ok (poly.scaled_onto o [] c p) (λ s. poly.sized o (poly.trimmed o s)) r e in
      formed-means s.value r (λ t. meaning c ⊗ at t p)
      (extends-valid 𝟘 (meaning c ⊗ at 𝟘 p) s.value (scaled_onto-means 𝟘 [] c p s.value v all s.is))
      (λ t. extends-means t (meaning c ⊗ at t p) s.value (scaled_onto-means t [] c p s.value v all s.is))
      s.next

  -- ---- the negative
  pub negatives-valid : (p : List E) → AllValid valid p → AllValid valid (poly.negatives o p)
  negatives-valid [] all = tt
  negatives-valid (c ∷ p) all = (h.negative-valid c all.0, negatives-valid p all.1)

  negatives-value : (t : A) (p : List E) → AllValid valid p → at t (poly.negatives o p) ≡ ⊖ at t p
  negatives-value t [] all = sym (Laws.neg-zero R)
  negatives-value t (c ∷ p) all = ap₂ (λ m v. m ⊕ t ⊗ v) (h.negative-means c all.0) (negatives-value t p all.1) ∙ spread (meaning c) t (at t p)
    where
      spread : (c t v : A) → ⊖ c ⊕ t ⊗ ⊖ v ≡ ⊖ (c ⊕ t ⊗ v)
      spread c t v = ring R (c ∷ t ∷ v ∷ []) (search reading depth 30 fits 4000) refl

  pub negatives-means : (p : List E) → AllValid valid p → HasValue R valid meaning (poly.negatives o p) (λ t. ⊖ at t p)
  negatives-means p all = record { all_valid = negatives-valid p all; value_is = λ t. negatives-value t p all }

  -- ---- the product
  -- 1, or -1 for a row that is taken away
  abbrev sign : Bool → A
  sign minus = if minus then ⊖ 𝟙 else 𝟙

  signed-valid : (minus : Bool) (c : E) → valid c → valid (poly.signed o minus c)
  signed-valid true c v = h.negative-valid c v
  signed-valid false c v = v

  signed-means : (minus : Bool) (c : E) → valid c → meaning (poly.signed o minus c) ≡ sign minus ⊗ meaning c
  signed-means true c v = h.negative-means c v ∙ opposite (meaning c)
    where
      opposite : (x : A) → ⊖ x ≡ ⊖ 𝟙 ⊗ x
      opposite x = ring R (x ∷ []) (search reading depth 20) refl
  signed-means false c v = sym (Laws.one-mul R (meaning c))

  -- a row adds ±a·t^k·q
  row-means : (t : A) (minus : Bool) (formed : List E) (k : ℕ) (a : E) (q r : List E) → AllValid valid formed → valid a → AllValid valid q → k + length q ≤ length formed →
      poly.row o minus formed k a q ≡ Ok r → Changed valid (at t) formed r (at t formed ⊕ power R t k ⊗ (sign minus ⊗ (meaning a ⊗ at t q)))
  row-means t minus formed k a [] r all v all_q room e =
      let is : formed ≡ r = cc in
      record { len = ap length (sym is); all = subst (AllValid valid) is all; means = ap (at t) (sym is) ∙ nothing (at t formed) (power R t k) (sign minus) (meaning a) }
    where
      nothing : (f w s a : A) → f ≡ f ⊕ w ⊗ (s ⊗ (a ⊗ 𝟘))
      nothing f w s a = ring R (f ∷ w ∷ s ∷ a ∷ []) (search reading depth 30 fits 4000) refl
  row-means t minus formed k a (b ∷ q) r all v all_q room e =
      let times = and_then-ok (o.product a b) (λ c. and_then (o.sum (poly.coefficient o formed k) (poly.signed o minus c)) (λ s. poly.row o minus (slice_set formed k s) (k + 1) a q)) r e in
      let c = times.value in
      let plus = and_then-ok (o.sum (poly.coefficient o formed k) (poly.signed o minus c)) (λ s. poly.row o minus (slice_set formed k s) (k + 1) a q) r times.next in
      let s = plus.value in
      let old = coefficient-valid formed k all in
      let c-valid = h.product-valid a b c v all_q.0 times.is in
      let term-valid = signed-valid minus c c-valid in
      let s-valid = h.sum-valid (poly.coefficient o formed k) (poly.signed o minus c) s old term-valid plus.is in
      let s-means : meaning s ≡ meaning (poly.coefficient o formed k) ⊕ sign minus ⊗ (meaning a ⊗ meaning b) =
      h.sum-means (poly.coefficient o formed k) (poly.signed o minus c) s old term-valid plus.is
      ∙ ap (λ x. meaning (poly.coefficient o formed k) ⊕ x) (signed-means minus c c-valid ∙ ap (λ x. sign minus ⊗ x) (h.product-means a b c v all_q.0 times.is)) in
      let len = length-set formed k s in
      let others = row-means t minus (slice_set formed k s) (k + 1) a q r (set-valid formed k s all s-valid) v all_q.1 (omega arith) plus.next in
      record {
        len = others.len ∙ len;
        all = others.all;
        means = others.means
            ∙ ap₂ (λ f w. f ⊕ w ⊗ (sign minus ⊗ (meaning a ⊗ at t q))) (set-means t formed k s (sign minus ⊗ (meaning a ⊗ meaning b)) (omega arith) s-means) (power-next t k)
            ∙ spread (at t formed) (power R t k) t (sign minus) (meaning a) (meaning b) (at t q);
      }
    where
      spread : (f w t s a b v : A) → f ⊕ w ⊗ (s ⊗ (a ⊗ b)) ⊕ t ⊗ w ⊗ (s ⊗ (a ⊗ v)) ≡ f ⊕ w ⊗ (s ⊗ (a ⊗ (b ⊕ t ⊗ v)))
      spread f w t s a b v = ring R (f ∷ w ∷ t ∷ s ∷ a ∷ b ∷ v ∷ []) (search reading depth 40 fits 8000) refl

  -- a row that is passed over where a is 0
  row_or_none-means : (t : A) (formed : List E) (k : ℕ) (a : E) (q r : List E) (z : Bool) → o.is_zero a ≡ z → AllValid valid formed → valid a → AllValid valid q → k + length q ≤ length formed →
      (if z then Ok formed else poly.row o false formed k a q) ≡ Ok r → Changed valid (at t) formed r (at t formed ⊕ power R t k ⊗ (meaning a ⊗ at t q))
  row_or_none-means t formed k a q r true z all v all_q room e =
      let is : formed ≡ r = cc in
      record {
        len = ap length (sym is);
        all = subst (AllValid valid) is all;
        means = ap (at t) (sym is) ∙ nothing (at t formed) (power R t k) (at t q) ∙ ap (λ x. at t formed ⊕ power R t k ⊗ (x ⊗ at t q)) (sym (h.zero_is a v z));
      }
    where
      nothing : (f w v : A) → f ≡ f ⊕ w ⊗ (𝟘 ⊗ v)
      nothing f w v = ring R (f ∷ w ∷ v ∷ []) (search reading depth 30 fits 4000) refl
  row_or_none-means t formed k a q r false z all v all_q room e =
      let one = row-means t false formed k a q r all v all_q room e in
      record { len = one.len; all = one.all; means = one.means ∙ ap (λ x. at t formed ⊕ power R t k ⊗ x) (Laws.one-mul R (meaning a ⊗ at t q)) }

  -- the rows add t^k·p·q
  rows-means : (t : A) (formed : List E) (k : ℕ) (p q r : List E) → AllValid valid formed → AllValid valid p → AllValid valid q → k + length p + length q ≤ length formed + 1 →
      poly.rows o formed k p q ≡ Ok r → Changed valid (at t) formed r (at t formed ⊕ power R t k ⊗ (at t p ⊗ at t q))
  rows-means t formed k [] q r all all_p all_q room e =
      let is : formed ≡ r = cc in
      record { len = ap length (sym is); all = subst (AllValid valid) is all; means = ap (at t) (sym is) ∙ nothing (at t formed) (power R t k) (at t q) }
    where
      nothing : (f w v : A) → f ≡ f ⊕ w ⊗ (𝟘 ⊗ v)
      nothing f w v = ring R (f ∷ w ∷ v ∷ []) (search reading depth 30 fits 4000) refl
  rows-means t formed k (a ∷ p) q r all all_p all_q room e =
      let first = and_then-ok (if o.is_zero a then Ok formed else poly.row o false formed k a q) (λ s. poly.rows o s (k + 1) p q) r e in
      let s = first.value in
      let one = row_or_none-means t formed k a q s (o.is_zero a) refl all all_p.0 all_q (omega arith) first.is in
      let same_len = one.len in
      let others = rows-means t s (k + 1) p q r one.all all_p.1 all_q (omega arith) first.next in
      record {
        len = others.len ∙ one.len;
        all = others.all;
        means = others.means ∙ ap₂ (λ f w. f ⊕ w ⊗ (at t p ⊗ at t q)) one.means (power-next t k) ∙ spread (at t formed) (power R t k) t (meaning a) (at t p) (at t q);
      }
    where
      spread : (f w t a v u : A) → f ⊕ w ⊗ (a ⊗ u) ⊕ t ⊗ w ⊗ (v ⊗ u) ≡ f ⊕ w ⊗ ((a ⊕ t ⊗ v) ⊗ u)
      spread f w t a v u = ring R (f ∷ w ∷ t ∷ a ∷ v ∷ u ∷ []) (search reading depth 40 fits 8000) refl

  nonzero-product-means : (p q r : List E) → 0 < length p → 0 < length q → AllValid valid p → AllValid valid q →
      and_then (poly.rows o (replicate (length p + length q - 1) o.zero) 0 p q) (λ r. poly.sized o (poly.trimmed o r)) ≡ Ok r → HasValue R valid meaning r (λ t. at t p ⊗ at t q)
  nonzero-product-means p q r some_p some_q all_p all_q e =
      let zeros = replicate (length p + length q - 1) o.zero in
      let s = and_then-ok (poly.rows o zeros 0 p q) (λ r. poly.sized o (poly.trimmed o r)) r e in
      let len : length zeros ≡ length p + length q - 1 = length-replicate (length p + length q - 1) o.zero in
      let all_zeros = zeros-valid (length p + length q - 1) in
      let room : 0 + length p + length q ≤ length zeros + 1 = omega arith in
      let rows = λ (t : A). rows-means t zeros 0 p q s.value all_zeros all_p all_q room s.is in
      formed-means s.value r (λ t. at t p ⊗ at t q) (rows 𝟘).all
      (λ t. (rows t).means ∙ ap₂ (λ f w. f ⊕ w ⊗ (at t p ⊗ at t q)) (zeros-means t (length p + length q - 1)) (Laws.power-zero R t) ∙ only (at t p ⊗ at t q))
      s.next
    where
      only : (x : A) → 𝟘 ⊕ 𝟙 ⊗ x ≡ x
      only x = ring R (x ∷ []) (search reading depth 20) refl

  pub product-means : (p q r : List E) → AllValid valid p → AllValid valid q → poly.product o p q ≡ Ok r → HasValue R valid meaning r (λ t. at t p ⊗ at t q)
  unfolding poly.product
  product-means [] q r all_p all_q e =
      let is : [] ≡ r = cc in
      record { all_valid = subst (AllValid valid) is tt; value_is = λ t. ap (at t) (sym is) ∙ sym (Laws.zero-mul R (at t q)) }
  product-means (a ∷ p) [] r all_p all_q e =
      let is : [] ≡ r = cc in
      record { all_valid = subst (AllValid valid) is tt; value_is = λ t. ap (at t) (sym is) ∙ sym (Laws.mul-zero R (at t (a ∷ p))) }
  product-means (a ∷ p) (b ∷ q) r all_p all_q e =
      nonzero-product-means (a ∷ p) (b ∷ q) r (omega arith) (omega arith) all_p all_q
      (if-then (nat_le (length (a ∷ p) + length (b ∷ q)) 257) (and_then (poly.rows o (replicate (length (a ∷ p) + length (b ∷ q) - 1) o.zero) 0 (a ∷ p) (b ∷ q)) (λ r. poly.sized o (poly.trimmed o r))) r e)

  -- ---- the monomial
  append-valid : (p q : List E) → AllValid valid p → AllValid valid q → AllValid valid (p ++ q)
  append-valid [] q all_p all_q = all_q
  append-valid (c ∷ p) q all_p all_q = (all_p.0, append-valid p q all_p.1 all_q)

  power_of-means : (t : A) (e : ℕ) (c : E) → at t (replicate e o.zero ++ c ∷ []) ≡ meaning c ⊗ power R t e
  power_of-means t zero c = only (meaning c) t ∙ ap (λ w. meaning c ⊗ w) (sym (Laws.power-zero R t))
    where
      only : (c t : A) → c ⊕ t ⊗ 𝟘 ≡ c ⊗ 𝟙
      only c t = ring R (c ∷ t ∷ []) (search reading depth 20) refl
  power_of-means t (suc e) c =
      ap₂ (λ m v. m ⊕ t ⊗ v) h.zero-means (power_of-means t e c) ∙ spread (meaning c) t (power R t e) ∙ ap (λ w. meaning c ⊗ w) (sym (Laws.power-suc R t e))
    where
      spread : (c t w : A) → 𝟘 ⊕ t ⊗ (c ⊗ w) ≡ c ⊗ (t ⊗ w)
      spread c t w = ring R (c ∷ t ∷ w ∷ []) (search reading depth 30 fits 4000) refl

  pub monomial-means : (c : E) (e : ℕ) (r : List E) → valid c → poly.monomial o c e ≡ Ok r → HasValue R valid meaning r (λ t. meaning c ⊗ power R t e)
  unfolding poly.monomial
  monomial-means c e r v is = by_zero (o.is_zero c) refl is
    where
      by_zero : (z : Bool) → o.is_zero c ≡ z → (if z then Ok [] else if nat_le e 255 then poly.sized o (poly.trimmed o (replicate e o.zero ++ c ∷ [])) else Err Size) ≡ Ok r →
          HasValue R valid meaning r (λ t. meaning c ⊗ power R t e)
      by_zero true z is =
          let none : [] ≡ r = cc in
          record { all_valid = subst (AllValid valid) none tt; value_is = λ t. ap (at t) (sym none) ∙ sym (ap (λ m. m ⊗ power R t e) (h.zero_is c v z) ∙ Laws.zero-mul R (power R t e)) }
      by_zero false z is =
          formed-means (replicate e o.zero ++ c ∷ []) r (λ t. meaning c ⊗ power R t e) (append-valid (replicate e o.zero) (c ∷ []) (zeros-valid e) (v, tt)) (λ t. power_of-means t e c)
          (if-then (nat_le e 255) (poly.sized o (poly.trimmed o (replicate e o.zero ++ c ∷ []))) r is)

  -- ---- the derivative by the variable itself
  -- n·c, where nothing is formed for c = 0
  multiple-valid : (n : ℕ) (c d : E) → n < 2 ^ 16 → valid c → poly.multiple o n c ≡ Ok d → valid d
  multiple-valid n c d small v e = by_zero (o.is_zero c) e
    where
      by_zero : (z : Bool) → (if z then Ok o.zero else o.product (o.whole n) c) ≡ Ok d → valid d
      by_zero true e = let is : o.zero ≡ d = cc in subst valid is h.zero-valid
      by_zero false e = h.product-valid (o.whole n) c d (h.whole-valid n small) v e

  multiple-means : (n : ℕ) (c d : E) → n < 2 ^ 16 → valid c → poly.multiple o n c ≡ Ok d → meaning d ≡ of_nat R n ⊗ meaning c
  multiple-means n c d small v e = by_zero (o.is_zero c) refl e
    where
      by_zero : (z : Bool) → o.is_zero c ≡ z → (if z then Ok o.zero else o.product (o.whole n) c) ≡ Ok d → meaning d ≡ of_nat R n ⊗ meaning c
      by_zero true z e =
          let is : o.zero ≡ d = cc in
          ap meaning (sym is) ∙ h.zero-means ∙ sym (ap (λ m. of_nat R n ⊗ m) (h.zero_is c v z) ∙ Laws.mul-zero R (of_nat R n))
      by_zero false z e = h.product-means (o.whole n) c d (h.whole-valid n small) v e ∙ ap (λ m. m ⊗ meaning c) (h.whole-means n small)

  multiples_onto-means : (t : A) (formed : List E) (n : ℕ) (p r : List E) → n + length p ≤ 2 ^ 16 → AllValid valid p → poly.multiples_onto o formed n p ≡ Ok r →
      Extends valid (at t) formed r (value_at R t (numbered R n (map meaning p)))
  multiples_onto-means t formed n [] r small all e = record { rest = []; is = cc (append_nil formed); all = tt; means = refl }
    where
      append_nil : (p : List E) → p ++ [] ≡ p
      append_nil [] = refl
      append_nil (a ∷ p) = ap (λ q. a ∷ q) (append_nil p)
  multiples_onto-means t formed n (c ∷ p) r small all e =
      let first = and_then-ok (poly.multiple o n c) (λ d. poly.multiples_onto o (formed ++ d ∷ []) (n + 1) p) r e in
      let d = first.value in
      let others = multiples_onto-means t (formed ++ d ∷ []) (n + 1) p r (omega arith) all.1 first.next in
      let next : n + 1 ≡ suc n = omega arith in
      record {
        rest = d ∷ others.rest;
        is = push_assoc formed others.rest r d others.is;
        all = (multiple-valid n c d (omega arith) all.0 first.is, others.all);
        means = ap₂ (λ m v. m ⊕ t ⊗ v) (multiple-means n c d (omega arith) all.0 first.is) (others.means ∙ ap (λ k. value_at R t (numbered R k (map meaning p))) next);
      }

  tail-valid : (p : List E) → AllValid valid p → AllValid valid (drop 1 p)
  tail-valid [] all = tt
  tail-valid (c ∷ p) all = all.1

  tail-formal : (p : List E) → numbered R 1 (map meaning (drop 1 p)) ≡ formal_derivative R (map meaning p)
  tail-formal [] = refl
  tail-formal (c ∷ p) = refl

  tail-length : (p : List E) → length (drop 1 p) ≤ length p
  tail-length [] = omega arith
  tail-length (c ∷ p) = omega arith

  pub partial-means : (p r : List E) → length p < 2 ^ 16 → AllValid valid p → poly.partial o p ≡ Ok r → HasValue R valid meaning r (λ t. value_at R t (formal_derivative R (map meaning p)))
  unfolding poly.partial
  partial-means p r small all e =
      let s = and_then-ok (poly.multiples_onto o [] 1 (drop 1 p)) (λ s. poly.sized o (poly.trimmed o s)) r e in
      let shorter = tail-length p in
      let below : 1 + length (drop 1 p) ≤ 2 ^ 16 = omega arith in
      let terms = λ (t : A). multiples_onto-means t [] 1 (drop 1 p) s.value below (tail-valid p all) s.is in
      formed-means s.value r (λ t. value_at R t (formal_derivative R (map meaning p))) (extends-valid 𝟘 (value_at R 𝟘 (numbered R 1 (map meaning (drop 1 p)))) s.value (terms 𝟘))
      (λ t. extends-means t (value_at R t (numbered R 1 (map meaning (drop 1 p)))) s.value (terms t) ∙ ap (value_at R t) (tail-formal p))
      s.next

  -- ---- the test of equality
  and-true : (a b : Bool) → (a && b) ≡ true → (a ≡ true) × (b ≡ true)
  and-true true b e = (refl, e)
  and-true false b e = cc

  pub same-means : (p q : List E) → AllValid valid p → AllValid valid q → poly.same o p q ≡ true → p ≡ q
  same-means [] [] all_p all_q e = refl
  same-means [] (b ∷ q) all_p all_q e = cc
  same-means (a ∷ p) [] all_p all_q e = cc
  same-means (a ∷ p) (b ∷ q) all_p all_q e =
      let both = and-true (o.same a b) (poly.same o p q) e in
      ap₂ (λ c r. c ∷ r) (h.same_is a b all_p.0 all_q.0 both.0) (same-means p q all_p.1 all_q.1 both.1)

  pub same_if : (p : List E) → AllValid valid p → poly.same o p p ≡ true
  same_if [] all = refl
  same_if (c ∷ p) all = rw (h.same_if c c all.0 all.0 refl) (same_if p all.1)
