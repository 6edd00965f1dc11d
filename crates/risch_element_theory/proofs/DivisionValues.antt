-- The values of the polynomials that a division and a monic multiple form, at every t of a ring: p(t) = a(t)·q(t) + r(t), and the monic multiple is u·p(t).
use Rattle.std.specs.Prelude.{if◌then◌else◌, nat_lt, slice_set}
use Rattle.std.proofs.Common.{◌≡◌, ℕ, zero, suc, ◌+◌, ◌-◌, ◌<◌, ◌≤◌, Bool, true, false, List, [], ◌∷◌, ◌++◌, length, take, replicate, Ok, refl, sym, ◌∙◌, ap, ap₂, arith, append_assoc, append-nil, subst}
use Rattle.std.proofs.lemmas.Bool.{ltb-true, ltb-false}
use Rattle.std.proofs.lemmas.List.{length-set, length-replicate, length-take-le}
use Rattle.risch_ring.specs.CommRing.{CommRing, power}
use Rattle.risch_ring.proofs.Laws as Laws
use Rattle.risch_ring.proofs.Expression.{reading}
use Rattle.risch_ring.proofs.Solver.{ring}
use Rattle.risch_field.specs.Checked.{and_then}
use Rattle.risch_field.specs.Ops.{Ops}
use Rattle.risch_polynomial.specs.Poly as poly
use Rattle.risch_polynomial_theory.specs.Meaning.{Interprets, AllValid, value}
use Rattle.risch_field.proofs.CheckedSteps.{and_then-ok}
use Rattle.risch_polynomial.proofs.CoefficientLists.{trimmed-trimmed}
use Rattle.risch_polynomial_theory.proofs.PolynomialValues.{coefficient-valid, set-valid, set-means, power-next, zeros-valid, zeros-means, trimmed-valid, trimmed-means, sized-is}
use Rattle.risch_polynomial_theory.proofs.PolynomialShapes as Shapes
use Rattle.risch_element_theory.specs.PolynomialMeaning.{IsKept}

-- r has valid coefficients, the length n and the value v
record Formed {E A : Type 0} (valid : E → Type 0) (value : List E → A) (r : List E) (n : ℕ) (v : A) : Type 0 where
  len : length r ≡ n
  all : AllValid valid r
  means : value r ≡ v

-- r is what is formed so far and then `rest`, which has valid coefficients, the length n and the value v
record Extended {E A : Type 0} (valid : E → Type 0) (value : List E → A) (formed r : List E) (n : ℕ) (v : A) : Type 0 where
  rest : List E
  is : r ≡ formed ++ rest
  ends : Formed valid value rest n v

module _ {E A : Type 0} {o : Ops E} {R : CommRing A} {valid : E → Type 0} {meaning : E → A} (h : Interprets o R valid meaning) (t : A) where
  open R use {zero as 𝟘, one as 𝟙, add as ◌⊕◌, mul as ◌⊗◌, neg as ⊖◌}

  infixl 60 ◌⊕◌
  infixl 70 ◌⊗◌
  infix 80 ⊖◌
  -- p(t)
  abbrev at : List E → A
  at p = value R meaning t p

  abbrev SamePair : List E × List E → List E × List E → Type 0
  SamePair d e = d ≡ e

  first-same : (a b c d : List E) → SamePair (a, b) (c, d) → a ≡ c
  first-same a b c d e = ap (λ x. x.0) e

  second-same : (a b c d : List E) → SamePair (a, b) (c, d) → b ≡ d
  second-same a b c d e = ap (λ x. x.1) e

  -- ---- the last coefficient
  trimmed-tail : (c d : E) (p : List E) → poly.trimmed o (c ∷ d ∷ p) ≡ c ∷ d ∷ p → poly.trimmed o (d ∷ p) ≡ d ∷ p
  trimmed-tail c d p e = by_tail (poly.trimmed o (d ∷ p)) e
    where
      by_tail : (s : List E) → poly.leading o c s ≡ c ∷ d ∷ p → s ≡ d ∷ p
      by_tail [] e = by_zero (o.is_zero c) e
        where
          by_zero : (z : Bool) → (if z then [] else c ∷ []) ≡ c ∷ d ∷ p → [] ≡ d ∷ p
          by_zero true e = cc
          by_zero false e = cc
      by_tail (b ∷ s) e = cc

  -- the last coefficient of a polynomial other than 0 is not 0
  last-not_zero : (c : E) (p : List E) → poly.trimmed o (c ∷ p) ≡ c ∷ p → o.is_zero (poly.coefficient o (c ∷ p) (length p)) ≡ false
  last-not_zero c [] e = by_zero (o.is_zero c) e
    where
      by_zero : (z : Bool) → (if z then [] else c ∷ []) ≡ c ∷ [] → z ≡ false
      by_zero true e = cc
      by_zero false e = refl
  last-not_zero c (d ∷ p) e = last-not_zero d p (trimmed-tail c d p e)

  -- u·lc(p) = 1
  pub record IsInverse (u : E) (p : List E) : Type 0 where
    pub is_valid : valid u
    pub equation : meaning u ⊗ meaning (poly.last o p) ≡ 𝟙

  last-is_not_zero : (c : E) (p : List E) → poly.trimmed o (c ∷ p) ≡ c ∷ p → o.is_zero (poly.last o (c ∷ p)) ≡ false
  last-is_not_zero c p e = let place : length (c ∷ p) - 1 ≡ length p = omega arith in ap (λ i. o.is_zero (poly.coefficient o (c ∷ p) i)) place ∙ last-not_zero c p e

  pub quotient-is_inverse : (c : E) (p : List E) (u : E) → IsKept o valid (c ∷ p) → o.quotient o.one (poly.last o (c ∷ p)) ≡ Ok u → IsInverse u (c ∷ p)
  quotient-is_inverse c p u k e =
      let last-valid = coefficient-valid h (c ∷ p) (length (c ∷ p) - 1) k.all_valid in
      let nonzero = last-is_not_zero c p k.ends_not_zero in
      record {
        is_valid = h.quotient-valid o.one (poly.last o (c ∷ p)) u h.one-valid last-valid nonzero e;
        equation = h.quotient-means o.one (poly.last o (c ∷ p)) u h.one-valid last-valid nonzero e ∙ h.one-means;
      }

  take-valid : (n : ℕ) (p : List E) → AllValid valid p → AllValid valid (take n p)
  take-valid zero p all = tt
  take-valid (suc n) [] all = tt
  take-valid (suc n) (c ∷ p) all = (all.0, take-valid n p all.1)

  -- p = (p_0 + .. + p_(n - 1)·t ^ (n - 1)) + p_n·t ^ n for deg p = n
  take-means : (n : ℕ) (p : List E) → length p ≡ suc n → at p ≡ at (take n p) ⊕ power R t n ⊗ meaning (poly.coefficient o p n)
  take-means n [] l = absurd (omega arith)
  take-means zero (c ∷ []) l = only (meaning c) t ∙ ap (λ w. 𝟘 ⊕ w ⊗ meaning c) (sym (Laws.power-zero R t))
    where
      only : (c t : A) → c ⊕ t ⊗ 𝟘 ≡ 𝟘 ⊕ 𝟙 ⊗ c
      only c t = ring R (c ∷ t ∷ []) (search reading depth 30 fits 4000) refl
  take-means zero (c ∷ (d ∷ p)) l = absurd (omega arith)
  take-means (suc n) (c ∷ p) l =
      ap (λ v. meaning c ⊕ t ⊗ v) (take-means n p (omega arith)) ∙ spread (meaning c) t (at (take n p)) (power R t n) (meaning (poly.coefficient o p n))
      ∙ ap (λ w. meaning c ⊕ t ⊗ at (take n p) ⊕ w ⊗ meaning (poly.coefficient o p n)) (sym (Laws.power-suc R t n))
    where
      spread : (c t v w d : A) → c ⊕ t ⊗ (v ⊕ w ⊗ d) ≡ c ⊕ t ⊗ v ⊕ t ⊗ w ⊗ d
      spread c t v w d = ring R (c ∷ t ∷ v ∷ w ∷ d ∷ []) (search reading depth 30 fits 4000) refl

  trimmed-length : (p : List E) → length (poly.trimmed o p) ≤ length p
  trimmed-length [] = omega arith
  trimmed-length (c ∷ p) = let others = trimmed-length p in by_tail (poly.trimmed o p) others
    where
      by_tail : (s : List E) → length s ≤ length p → length (poly.leading o c s) ≤ length (c ∷ p)
      by_tail [] l = by_zero (o.is_zero c)
        where
          by_zero : (z : Bool) → length (if z then [] else c ∷ []) ≤ length (c ∷ p)
          by_zero true = omega arith
          by_zero false = omega arith
      by_tail (b ∷ s) l = omega (arith, l)

  -- ---- one row is taken away
  -- a row takes a·t^k·q away
  row-means : (formed : List E) (k : ℕ) (a : E) (q r : List E) → AllValid valid formed → valid a → AllValid valid q → k + length q ≤ length formed →
      poly.row o true formed k a q ≡ Ok r → Formed valid at r (length formed) (at formed ⊕ power R t k ⊗ ⊖ (meaning a ⊗ at q))
  row-means formed k a [] r all v all_q room e =
      let is : formed ≡ r = cc in
      record { len = ap length (sym is); all = subst (AllValid valid) is all; means = ap at (sym is) ∙ nothing (at formed) (power R t k) (meaning a) }
    where
      nothing : (f w a : A) → f ≡ f ⊕ w ⊗ ⊖ (a ⊗ 𝟘)
      nothing f w a = ring R (f ∷ w ∷ a ∷ []) (search reading depth 30 fits 4000) refl
  row-means formed k a (b ∷ q) r all v all_q room e =
      let old = poly.coefficient o formed k in
      let times = and_then-ok (o.product a b) (λ c. and_then (o.sum old (o.negative c)) (λ s. poly.row o true (slice_set formed k s) (k + 1) a q)) r e in
      let c = times.value in
      let plus = and_then-ok (o.sum old (o.negative c)) (λ s. poly.row o true (slice_set formed k s) (k + 1) a q) r times.next in
      let s = plus.value in
      let old-valid = coefficient-valid h formed k all in
      let c-valid = h.product-valid a b c v all_q.0 times.is in
      let s-valid = h.sum-valid old (o.negative c) s old-valid (h.negative-valid c c-valid) plus.is in
      let s-means : meaning s ≡ meaning old ⊕ ⊖ (meaning a ⊗ meaning b) =
      h.sum-means old (o.negative c) s old-valid (h.negative-valid c c-valid) plus.is
      ∙ ap (λ x. meaning old ⊕ x) (h.negative-means c c-valid ∙ ap R.neg (h.product-means a b c v all_q.0 times.is)) in
      let len = length-set formed k s in
      let others = row-means (slice_set formed k s) (k + 1) a q r (set-valid h formed k s all s-valid) v all_q.1 (omega (arith, len, room)) plus.next in
      record {
        len = others.len ∙ len;
        all = others.all;
        means = others.means
            ∙ ap₂ (λ f w. f ⊕ w ⊗ ⊖ (meaning a ⊗ at q)) (set-means h t formed k s (⊖ (meaning a ⊗ meaning b)) (omega (arith, room)) s-means) (power-next h t k)
            ∙ spread (at formed) (power R t k) t (meaning a) (meaning b) (at q);
      }
    where
      spread : (f w t a b v : A) → f ⊕ w ⊗ ⊖ (a ⊗ b) ⊕ t ⊗ w ⊗ ⊖ (a ⊗ v) ≡ f ⊕ w ⊗ ⊖ (a ⊗ (b ⊕ t ⊗ v))
      spread f w t a b v = ring R (f ∷ w ∷ t ∷ a ∷ b ∷ v ∷ []) (search reading depth 40 fits 8000) refl

  -- ---- one step of a division
  set-below : (p : List E) (i k : ℕ) (s : E) → i < k → poly.coefficient o (slice_set p k s) i ≡ poly.coefficient o p i
  set-below [] i k s l = refl
  set-below (c ∷ p) i zero s l = absurd (omega (arith, l))
  set-below (c ∷ p) zero (suc k) s l = refl
  set-below (c ∷ p) (suc i) (suc k) s l = set-below p i k s (omega (arith, l))

  -- p(t) = quotient(t)·q(t) + r(t), and the coefficients of the quotient that are not yet formed are 0
  pub record Begun (p q quotient r : List E) : Type 0 where
    pub quotient_valid : AllValid valid quotient
    pub remainder_kept : IsKept o valid r
    pub equation : at p ≡ at quotient ⊗ at q ⊕ at r
    pub room : length r < length quotient + length q
    pub unformed : (i : ℕ) → i + length q ≤ length r → poly.coefficient o quotient i ≡ o.zero

  -- a step of the division keeps this, and the remainder becomes shorter
  record Goes_on (p q r quotient' r' : List E) : Type 0 where
    begun : Begun p q quotient' r'
    shorter : length r' < length r

  -- (a + t^k·c)·q + (x - t^k·c·f) = a·q + (x + t^(k + m)·c·g) for q = f + t^m·g
  step_identity : (a k c f g m x : A) → (a ⊕ k ⊗ c) ⊗ (f ⊕ m ⊗ g) ⊕ (x ⊕ k ⊗ ⊖ (c ⊗ f)) ≡ a ⊗ (f ⊕ m ⊗ g) ⊕ (x ⊕ k ⊗ m ⊗ (c ⊗ g))
  step_identity a k c f g m x = ring R (a ∷ k ∷ c ∷ f ∷ g ∷ m ∷ x ∷ []) (search reading depth 40 fits 8000) refl

  -- the leading coefficient of the remainder is c·lc(q) for c = lc(r)/lc(q), so it vanishes
  step-goes_on : (p q quotient r quotient' r' : List E) (u : E) → AllValid valid q → 0 < length q → valid u → meaning u ⊗ meaning (poly.last o q) ≡ 𝟙 →
      Begun p q quotient r → length q ≤ length r → poly.step o quotient r u q ≡ Ok (quotient', r') → Goes_on p q r quotient' r'
  unfolding poly.step
  step-goes_on p q quotient r quotient' r' u all_q some u-valid inverse b large e =
      let k = length r - length q in
      let n = length r - 1 in
      let m = length q - 1 in
      let lead = poly.last o r in
      let r-valid = b.remainder_kept.all_valid in
      let lead-valid = coefficient-valid h r n r-valid in
      let times = and_then-ok (o.product lead u) (λ c. and_then (poly.row o true (poly.front o r) k c (poly.front o q)) (λ s. Ok (slice_set quotient k c, poly.trimmed o s))) (quotient', r') e in
      let c = times.value in
      let rest = and_then-ok (poly.row o true (poly.front o r) k c (poly.front o q)) (λ s. Ok (slice_set quotient k c, poly.trimmed o s)) (quotient', r') times.next in
      let s = rest.value in
      let c-valid = h.product-valid lead u c lead-valid u-valid times.is in
      let r-len : length r ≡ suc n = omega (arith, large, some) in
      let q-len : length q ≡ suc m = omega (arith, some) in
      let front_r-len : length (poly.front o r) ≡ n = length-take-le n r (omega (arith, r-len)) in
      let front_q-len : length (poly.front o q) ≡ m = length-take-le m q (omega (arith, q-len)) in
      let row = row-means (poly.front o r) k c (poly.front o q) s (take-valid n r r-valid) c-valid (take-valid m q all_q) (omega (arith, front_r-len, front_q-len, r-len, q-len, large)) rest.is in
      let s-len = row.len in
      let shorter = trimmed-length s in
      let room = b.room in
      let limit = b.remainder_kept.degree_small in
      let below : k < length quotient = omega (arith, room, large, some) in
      let open_slot : poly.coefficient o quotient k ≡ o.zero = b.unformed k (omega (arith, large)) in
      let quotient-len = length-set quotient k c in
      let lead-means : meaning lead ≡ meaning c ⊗ meaning (poly.last o q) =
      sym (ap (λ x. x ⊗ meaning (poly.last o q)) (h.product-means lead u c lead-valid u-valid times.is)
      ∙ R.mul_assoc (meaning lead) (meaning u) (meaning (poly.last o q)) ∙ ap (λ x. meaning lead ⊗ x) inverse ∙ R.mul-one (meaning lead)) in
      let degree : n ≡ k + m = omega (arith, r-len, q-len, large) in
      let slot-means : meaning c ≡ meaning (poly.coefficient o quotient k) ⊕ meaning c =
      sym (ap (λ x. meaning x ⊕ meaning c) open_slot ∙ ap (λ x. x ⊕ meaning c) h.zero-means ∙ Laws.zero-add R (meaning c)) in
      let whole : at p ≡ at (slice_set quotient k c) ⊗ at q ⊕ at (poly.trimmed o s) =
      b.equation
      ∙ ap₂ (λ x y. at quotient ⊗ x ⊕ y) (take-means m q q-len)
      (take-means n r r-len ∙ ap₂ (λ w x. at (poly.front o r) ⊕ w ⊗ x) (ap (power R t) degree ∙ Laws.power-add R t k m) lead-means)
      ∙ sym (step_identity (at quotient) (power R t k) (meaning c) (at (poly.front o q)) (meaning (poly.last o q)) (power R t m) (at (poly.front o r)))
      ∙ sym (ap₂ (λ x y. x ⊗ y ⊕ at (poly.trimmed o s)) (set-means h t quotient k c (meaning c) below slot-means) (take-means m q q-len)
      ∙ ap (λ x. (at quotient ⊕ power R t k ⊗ meaning c) ⊗ (at (poly.front o q) ⊕ power R t m ⊗ meaning (poly.last o q)) ⊕ x) (trimmed-means h t s row.all ∙ row.means)) in
      let both : SamePair (slice_set quotient k c, poly.trimmed o s) (quotient', r') = cc rest.next in
      subst (λ d. Goes_on p q r d.0 d.1) both
      (record {
        begun = record {
          quotient_valid = set-valid h quotient k c b.quotient_valid c-valid;
          remainder_kept = record { all_valid = trimmed-valid h s row.all; ends_not_zero = trimmed-trimmed o s; degree_small = omega (arith, shorter, s-len, front_r-len, r-len, limit) };
          equation = whole;
          room = omega (arith, shorter, s-len, front_r-len, quotient-len, room, r-len);
          unformed = λ i l. set-below quotient i k c (omega (arith, l, shorter, s-len, front_r-len, r-len, large, some)) ∙ b.unformed i (omega (arith, l, shorter, s-len, front_r-len, r-len));
        };
        shorter = omega (arith, shorter, s-len, front_r-len, r-len);
      })

  -- ---- the loop
  -- p(t) = a(t)·q(t) + r(t) and deg r < deg q
  record Ended (p q a r : List E) : Type 0 where
    quotient_valid : AllValid valid a
    remainder_kept : IsKept o valid r
    equation : at p ≡ at a ⊗ at q ⊕ at r
    smaller : length r < length q

  begun-ended : (p q quotient r a r' : List E) → Begun p q quotient r → length r < length q → SamePair (quotient, r) (a, r') → Ended p q a r'
  begun-ended p q quotient r a r' b l e =
      subst (λ d. Ended p q d.0 d.1) e (record { quotient_valid = b.quotient_valid; remainder_kept = b.remainder_kept; equation = b.equation; smaller = l })

  divided-ended : (steps : ℕ) (p q quotient r a r' : List E) (u : E) → AllValid valid q → 0 < length q → valid u → meaning u ⊗ meaning (poly.last o q) ≡ 𝟙 →
      Begun p q quotient r → length r ≤ steps → poly.divided o steps quotient r u q ≡ Ok (a, r') → Ended p q a r'
  divided-ended zero p q quotient r a r' u all_q some u-valid inverse b enough e = begun-ended p q quotient r a r' b (omega (arith, enough, some)) (cc e)
  divided-ended (suc steps) p q quotient r a r' u all_q some u-valid inverse b enough e =
      by_size (nat_lt (length r) (length q)) refl e (λ (s r : List E). divided-ended steps p q s r a r' u all_q some u-valid inverse)
    where
      by_size : (z : Bool) → nat_lt (length r) (length q) ≡ z → (if z then Ok (quotient, r) else and_then (poly.step o quotient r u q) (λ d. poly.divided o steps d.0 d.1 u q)) ≡ Ok (a, r') →
          ((s r : List E) → Begun p q s r → length r ≤ steps → poly.divided o steps s r u q ≡ Ok (a, r') → Ended p q a r') → Ended p q a r'
      by_size true z e go_on = begun-ended p q quotient r a r' b (ltb-true (length r) (length q) z) (cc e)
      by_size false z e go_on =
          let first = and_then-ok (poly.step o quotient r u q) (λ d. poly.divided o steps d.0 d.1 u q) (a, r') e in
          let d = first.value in
          let next = step-goes_on p q quotient r d.0 d.1 u all_q some u-valid inverse b (ltb-false (length r) (length q) z) first.is in
          let l = next.shorter in
          go_on d.0 d.1 next.begun (omega (arith, l, enough)) first.next

  -- ---- the division
  zeros-coefficient : (n i : ℕ) → poly.coefficient o (replicate n o.zero) i ≡ o.zero
  zeros-coefficient zero i = refl
  zeros-coefficient (suc n) zero = refl
  zeros-coefficient (suc n) (suc i) = zeros-coefficient n i

  division-begun : (p q : List E) → IsKept o valid p → 0 < length q → Begun p q (replicate (length p + 1 - length q) o.zero) p
  division-begun p q k some =
      let n = length p + 1 - length q in
      let len : length (replicate n o.zero) ≡ n = length-replicate n o.zero in
      record {
        quotient_valid = zeros-valid h n;
        remainder_kept = k;
        equation = sym (ap (λ x. x ⊗ at q ⊕ at p) (zeros-means h t n) ∙ ap (λ x. x ⊕ at p) (Laws.zero-mul R (at q)) ∙ Laws.zero-add R (at p));
        room = omega (arith, len, some);
        unformed = λ i l. zeros-coefficient n i;
      }

  -- a and r are kept, p(t) = a(t)·q(t) + r(t) and deg r < deg q
  pub record Divided (p q a r : List E) : Type 0 where
    pub quotient_kept : IsKept o valid a
    pub remainder_kept : IsKept o valid r
    pub equation : at p ≡ at a ⊗ at q ⊕ at r
    pub smaller : length r < length q

  ended-divided : (p q a r a' r' : List E) → Ended p q a r → poly.trimmed o a ≡ a' → length a' ≤ 256 → poly.trimmed o r ≡ r' → Divided p q a' r'
  ended-divided p q a r a' r' d e limit f =
      let same : r ≡ r' = sym d.remainder_kept.ends_not_zero ∙ f in
      subst (λ r. Divided p q a' r) same (subst (λ a. Divided p q a r) e
      (record {
        quotient_kept = record { all_valid = trimmed-valid h a d.quotient_valid; ends_not_zero = trimmed-trimmed o a; degree_small = subst (λ c. length c ≤ 256) (sym e) limit };
        remainder_kept = d.remainder_kept;
        equation = d.equation ∙ ap (λ x. x ⊗ at q ⊕ at r) (sym (trimmed-means h t a d.quotient_valid));
        smaller = d.smaller;
      }))

  trimmed-same : (s a a' : List E) → poly.sized o (poly.trimmed o s) ≡ Ok a → a ≡ a' → poly.trimmed o s ≡ a'
  trimmed-same s a a' e f = sized-is h (poly.trimmed o s) a e ∙ f

  pub division-divided : (p q a r : List E) → IsKept o valid p → IsKept o valid q → ¬ (q ≡ []) → poly.division o p q ≡ Ok (a, r) → Divided p q a r
  unfolding poly.division
  division-divided p [] a r k l n e = absurd (n refl)
  division-divided p (c ∷ q) a r k l n e =
      let d = c ∷ q in
      let begin = replicate (length p + 1 - length d) o.zero in
      let some : 0 < length d = omega arith in
      let one = and_then-ok (o.quotient o.one (poly.last o d)) (λ u. and_then (poly.divided o (length p) begin p u d) (λ s. and_then (poly.sized o (poly.trimmed o s.0)) (λ quotient. and_then (poly.sized o (poly.trimmed o s.1)) (λ remainder. Ok (quotient, remainder))))) (a, r) e in
      let u = one.value in
      let inverse = quotient-is_inverse c q u l one.is in
      let two = and_then-ok (poly.divided o (length p) begin p u d) (λ s. and_then (poly.sized o (poly.trimmed o s.0)) (λ quotient. and_then (poly.sized o (poly.trimmed o s.1)) (λ remainder. Ok (quotient, remainder)))) (a, r) one.next in
      let s = two.value in
      let three = and_then-ok (poly.sized o (poly.trimmed o s.0)) (λ quotient. and_then (poly.sized o (poly.trimmed o s.1)) (λ remainder. Ok (quotient, remainder))) (a, r) two.next in
      let four = and_then-ok (poly.sized o (poly.trimmed o s.1)) (λ remainder. Ok (three.value, remainder)) (a, r) three.next in
      let both : SamePair (three.value, four.value) (a, r) = cc four.next in
      ended-divided p d s.0 s.1 a r
      (divided-ended (length p) p d begin p s.0 s.1 u l.all_valid some inverse.is_valid inverse.equation (division-begun p d k some) (omega arith) two.is)
      (trimmed-same s.0 three.value a three.is (first-same three.value four.value a r both))
      (subst (λ c. length c ≤ 256) (first-same three.value four.value a r both) (Shapes.formed-polynomial o s.0 three.value three.is).degree_small)
      (trimmed-same s.1 four.value r four.is (second-same three.value four.value a r both))

  -- ---- the monic multiple
  scaled_onto-means : (formed : List E) (c : E) (p r : List E) → valid c → AllValid valid p → poly.scaled_onto o formed c p ≡ Ok r → Extended valid at formed r (length p) (meaning c ⊗ at p)
  scaled_onto-means formed c [] r v all e = record { rest = []; is = cc (append-nil formed); ends = record { len = refl; all = tt; means = sym (Laws.mul-zero R (meaning c)) } }
  scaled_onto-means formed c (a ∷ p) r v all e =
      let first = and_then-ok (o.product c a) (λ b. poly.scaled_onto o (formed ++ b ∷ []) c p) r e in
      let b = first.value in
      let others = scaled_onto-means (formed ++ b ∷ []) c p r v all.1 first.next in
      let len = others.ends.len in
      record {
        rest = b ∷ others.rest;
        is = others.is ∙ append_assoc formed (b ∷ []) others.rest;
        ends = record {
          len = omega (arith, len);
          all = (h.product-valid c a b v all.0 first.is, others.ends.all);
          means = ap₂ (λ m w. m ⊕ t ⊗ w) (h.product-means c a b v all.0 first.is) others.ends.means ∙ spread (meaning c) (meaning a) t (at p);
        };
      }
    where
      spread : (c a t v : A) → c ⊗ a ⊕ t ⊗ (c ⊗ v) ≡ c ⊗ (a ⊕ t ⊗ v)
      spread c a t v = ring R (c ∷ a ∷ t ∷ v ∷ []) (search reading depth 30 fits 4000) refl

  push-valid : (p : List E) (c : E) → AllValid valid p → valid c → AllValid valid (p ++ c ∷ [])
  push-valid [] c all v = (v, tt)
  push-valid (a ∷ p) c all v = (all.0, push-valid p c all.1 v)

  push-means : (p : List E) (c : E) → at (p ++ c ∷ []) ≡ at p ⊕ power R t (length p) ⊗ meaning c
  push-means [] c = only (meaning c) t ∙ ap (λ w. 𝟘 ⊕ w ⊗ meaning c) (sym (Laws.power-zero R t))
    where
      only : (c t : A) → c ⊕ t ⊗ 𝟘 ≡ 𝟘 ⊕ 𝟙 ⊗ c
      only c t = ring R (c ∷ t ∷ []) (search reading depth 30 fits 4000) refl
  push-means (a ∷ p) c =
      ap (λ v. meaning a ⊕ t ⊗ v) (push-means p c) ∙ spread (meaning a) t (at p) (power R t (length p)) (meaning c)
      ∙ ap (λ w. meaning a ⊕ t ⊗ at p ⊕ w ⊗ meaning c) (sym (Laws.power-suc R t (length p)))
    where
      spread : (c t v w d : A) → c ⊕ t ⊗ (v ⊕ w ⊗ d) ≡ c ⊕ t ⊗ v ⊕ t ⊗ w ⊗ d
      spread c t v w d = ring R (c ∷ t ∷ v ∷ w ∷ d ∷ []) (search reading depth 30 fits 4000) refl

  -- r = u·p with u·lc(p) = 1
  pub record IsScaled (p r : List E) : Type 0 where
    pub kept : IsKept o valid r
    pub factor : E
    pub inverse : meaning factor ⊗ meaning (poly.last o p) ≡ 𝟙
    pub equation : at r ≡ meaning factor ⊗ at p

  pub monic-scaled : (p r : List E) → IsKept o valid p → ¬ (p ≡ []) → poly.monic o p ≡ Ok r → IsScaled p r
  unfolding poly.monic
  monic-scaled [] r k n e = absurd (n refl)
  monic-scaled (c ∷ p) r k n e =
      let q = c ∷ p in
      let m = length q - 1 in
      let place : m ≡ length p = omega arith in
      let lead = poly.last o q in
      let one = and_then-ok (o.quotient o.one lead) (λ u. and_then (poly.scaled_onto o [] u (poly.front o q)) (λ r. poly.sized o (poly.trimmed o (r ++ o.one ∷ [])))) r e in
      let u = one.value in
      let two = and_then-ok (poly.scaled_onto o [] u (poly.front o q)) (λ r. poly.sized o (poly.trimmed o (r ++ o.one ∷ []))) r one.next in
      let s = two.value in
      let y = quotient-is_inverse c p u k one.is in
      let x = scaled_onto-means [] u (poly.front o q) s y.is_valid (take-valid m q k.all_valid) two.is in
      let front-len : length (poly.front o q) ≡ m = length-take-le m q (omega (arith, place)) in
      let s-len : length s ≡ m = ap length x.is ∙ x.ends.len ∙ front-len in
      let all = push-valid s o.one (subst (AllValid valid) (sym x.is) x.ends.all) h.one-valid in
      let is = sized-is h (poly.trimmed o (s ++ o.one ∷ [])) r two.next in
      subst (λ r. IsScaled q r) is
      (record {
        kept = record { all_valid = trimmed-valid h (s ++ o.one ∷ []) all; ends_not_zero = trimmed-trimmed o (s ++ o.one ∷ []); degree_small = subst (λ c. length c ≤ 256) (sym is) (Shapes.formed-polynomial o (s ++ o.one ∷ []) r two.next).degree_small };
        factor = u;
        inverse = y.equation;
        equation =
            trimmed-means h t (s ++ o.one ∷ []) all ∙ push-means s o.one
            ∙ ap₂ (λ v w. v ⊕ w) (ap at x.is ∙ x.ends.means) (ap₂ (λ n y. power R t n ⊗ y) s-len (h.one-means ∙ sym y.equation))
            ∙ spread (meaning u) (at (poly.front o q)) (power R t m) (meaning lead)
            ∙ ap (λ v. meaning u ⊗ v) (sym (take-means m q (omega (arith, place))));
      })
    where
      spread : (u v w l : A) → u ⊗ v ⊕ w ⊗ (u ⊗ l) ≡ u ⊗ (v ⊕ w ⊗ l)
      spread u v w l = ring R (u ∷ v ∷ w ∷ l ∷ []) (search reading depth 30 fits 4000) refl
