-- A property of elements that the operations keep is kept by the rules on polynomials: where it holds of each coefficient of what is given, it holds of each coefficient of what is formed.
use Rattle.std.specs.Prelude.{if◌then◌else◌, nat_le, nat_lt, slice_set}
use Rattle.std.proofs.Common.{◌≡◌, ℕ, zero, suc, ◌+◌, ◌-◌, Bool, true, false, ◌&&◌, ◌||◌, List, [], ◌∷◌, ◌++◌, length, take, drop, replicate, Option, None, Some, Ok, Err, subst}
use Rattle.risch_ring.specs.Lists.{Each}
use Rattle.risch_field.specs.Checked.{and_then}
use Rattle.risch_field.specs.Ops.{Ops}
use Rattle.risch_field.specs.declared.Fail.TheVariants.{Size}
use Rattle.risch_field.proofs.CheckedSteps.{and_then-ok, if-ok, if-then}
use Rattle.risch_polynomial.specs.Poly as poly
use Rattle.risch_polynomial.specs.Modular as modular

-- the elements with the property P contain 0, 1 and the whole numbers, and are closed under the operations
pub record IsClosedUnder {E : Type 0} (o : Ops E) (P : E → Type 0) : Type 0 where
  pub zero_in : P o.zero
  pub one_in : P o.one
  pub whole_in : (n : ℕ) → P (o.whole n)
  pub negative_in : (e : E) → P e → P (o.negative e)
  pub sum_in : (a b c : E) → P a → P b → o.sum a b ≡ Ok c → P c
  pub product_in : (a b c : E) → P a → P b → o.product a b ≡ Ok c → P c
  pub quotient_in : (a b c : E) → P a → P b → o.quotient a b ≡ Ok c → P c

module _ {E : Type 0} {o : Ops E} {P : E → Type 0} (h : IsClosedUnder o P) where
  -- ---- lists of coefficients
  pub coefficient-keeps : (p : List E) (k : ℕ) → Each P p → P (poly.coefficient o p k)
  coefficient-keeps [] k all = h.zero_in
  coefficient-keeps (c ∷ p) zero all = all.0
  coefficient-keeps (c ∷ p) (suc k) all = coefficient-keeps p k all.1

  set-keeps : (p : List E) (k : ℕ) (s : E) → Each P p → P s → Each P (slice_set p k s)
  set-keeps [] k s all v = tt
  set-keeps (c ∷ p) zero s all v = (v, all.1)
  set-keeps (c ∷ p) (suc k) s all v = (all.0, set-keeps p k s all.1 v)

  append-keeps : (p q : List E) → Each P p → Each P q → Each P (p ++ q)
  append-keeps [] q all_p all_q = all_q
  append-keeps (c ∷ p) q all_p all_q = (all_p.0, append-keeps p q all_p.1 all_q)

  pub push-keeps : (p : List E) (c : E) → Each P p → P c → Each P (p ++ c ∷ [])
  push-keeps p c all v = append-keeps p (c ∷ []) all (v, tt)

  zeros-keep : (n : ℕ) → Each P (replicate n o.zero)
  zeros-keep zero = tt
  zeros-keep (suc n) = (h.zero_in, zeros-keep n)

  take-keeps : (n : ℕ) (p : List E) → Each P p → Each P (take n p)
  take-keeps zero p all = tt
  take-keeps (suc n) [] all = tt
  take-keeps (suc n) (c ∷ p) all = (all.0, take-keeps n p all.1)

  tail-keeps : (p : List E) → Each P p → Each P (drop 1 p)
  tail-keeps [] all = tt
  tail-keeps (c ∷ p) all = all.1

  -- ---- dropping zeros at the end
  leading-keeps : (c : E) (p : List E) → P c → Each P p → Each P (poly.leading o c p)
  leading-keeps c [] v all = by_zero (o.is_zero c)
    where
      by_zero : (z : Bool) → Each P (if z then [] else c ∷ [])
      by_zero true = tt
      by_zero false = (v, tt)
  leading-keeps c (d ∷ p) v all = (v, all)

  pub trimmed-keeps : (p : List E) → Each P p → Each P (poly.trimmed o p)
  trimmed-keeps [] all = tt
  trimmed-keeps (c ∷ p) all = leading-keeps c (poly.trimmed o p) all.0 (trimmed-keeps p all.1)

  -- a polynomial that is formed from coefficients
  pub formed-keeps : (s r : List E) → Each P s → poly.sized o (poly.trimmed o s) ≡ Ok r → Each P r
  formed-keeps s r all e =
      let p = poly.trimmed o s in
      subst (Each P) (if-ok (nat_le (length p) 256 && nat_le (poly.weight o p) 65536) p r e) (trimmed-keeps s all)

  -- ---- the sum
  sum_onto-keeps : (formed p q r : List E) → Each P formed → Each P p → Each P q → poly.sum_onto o formed p q ≡ Ok r → Each P r
  sum_onto-keeps formed [] q r all all_p all_q e = let is : formed ++ q ≡ r = cc in subst (Each P) is (append-keeps formed q all all_q)
  sum_onto-keeps formed (a ∷ p) [] r all all_p all_q e = let is : formed ++ a ∷ p ≡ r = cc in subst (Each P) is (append-keeps formed (a ∷ p) all all_p)
  sum_onto-keeps formed (a ∷ p) (b ∷ q) r all all_p all_q e =
      let first = and_then-ok (o.sum a b) (λ c. poly.sum_onto o (formed ++ c ∷ []) p q) r e in
      let c = first.value in
      sum_onto-keeps (formed ++ c ∷ []) p q r (push-keeps formed c all (h.sum_in a b c all_p.0 all_q.0 first.is)) all_p.1 all_q.1 first.next

  pub sum-keeps : (p q r : List E) → Each P p → Each P q → poly.sum o p q ≡ Ok r → Each P r
  unfolding poly.sum
  sum-keeps p q r all_p all_q e =
      let s = and_then-ok (poly.sum_onto o [] p q) (λ s. poly.sized o (poly.trimmed o s)) r e in
      formed-keeps s.value r (sum_onto-keeps [] p q s.value tt all_p all_q s.is) s.next

  -- ---- the product with an element
  scaled_onto-keeps : (formed : List E) (c : E) (p r : List E) → Each P formed → P c → Each P p → poly.scaled_onto o formed c p ≡ Ok r → Each P r
  scaled_onto-keeps formed c [] r all v all_p e = let is : formed ≡ r = cc in subst (Each P) is all
  scaled_onto-keeps formed c (a ∷ p) r all v all_p e =
      let first = and_then-ok (o.product c a) (λ b. poly.scaled_onto o (formed ++ b ∷ []) c p) r e in
      let b = first.value in
      scaled_onto-keeps (formed ++ b ∷ []) c p r (push-keeps formed b all (h.product_in c a b v all_p.0 first.is)) v all_p.1 first.next

  pub scaled-keeps : (c : E) (p r : List E) → P c → Each P p → poly.scaled o c p ≡ Ok r → Each P r
  unfolding poly.scaled
  scaled-keeps c p r v all e =
      let s = and_then-ok (poly.scaled_onto o [] c p) (λ s. poly.sized o (poly.trimmed o s)) r e in
      formed-keeps s.value r (scaled_onto-keeps [] c p s.value tt v all s.is) s.next

  -- ---- the negative
  pub negatives-keep : (p : List E) → Each P p → Each P (poly.negatives o p)
  negatives-keep [] all = tt
  negatives-keep (c ∷ p) all = (h.negative_in c all.0, negatives-keep p all.1)

  -- ---- the product
  signed-keeps : (minus : Bool) (c : E) → P c → P (poly.signed o minus c)
  signed-keeps true c v = h.negative_in c v
  signed-keeps false c v = v

  row-keeps : (minus : Bool) (formed : List E) (k : ℕ) (a : E) (q r : List E) → Each P formed → P a → Each P q → poly.row o minus formed k a q ≡ Ok r → Each P r
  row-keeps minus formed k a [] r all v all_q e = let is : formed ≡ r = cc in subst (Each P) is all
  row-keeps minus formed k a (b ∷ q) r all v all_q e =
      let times = and_then-ok (o.product a b) (λ c. and_then (o.sum (poly.coefficient o formed k) (poly.signed o minus c)) (λ s. poly.row o minus (slice_set formed k s) (k + 1) a q)) r e in
      let c = times.value in
      let plus = and_then-ok (o.sum (poly.coefficient o formed k) (poly.signed o minus c)) (λ s. poly.row o minus (slice_set formed k s) (k + 1) a q) r times.next in
      let s = plus.value in
      let term = signed-keeps minus c (h.product_in a b c v all_q.0 times.is) in
      let s-in = h.sum_in (poly.coefficient o formed k) (poly.signed o minus c) s (coefficient-keeps formed k all) term plus.is in
      row-keeps minus (slice_set formed k s) (k + 1) a q r (set-keeps formed k s all s-in) v all_q.1 plus.next

  -- a row that is passed over where a is 0
  row_or_none-keeps : (formed : List E) (k : ℕ) (a : E) (q r : List E) (z : Bool) → Each P formed → P a → Each P q → (if z then Ok formed else poly.row o false formed k a q) ≡ Ok r → Each P r
  row_or_none-keeps formed k a q r true all v all_q e = let is : formed ≡ r = cc in subst (Each P) is all
  row_or_none-keeps formed k a q r false all v all_q e = row-keeps false formed k a q r all v all_q e

  rows-keep : (formed : List E) (k : ℕ) (p q r : List E) → Each P formed → Each P p → Each P q → poly.rows o formed k p q ≡ Ok r → Each P r
  rows-keep formed k [] q r all all_p all_q e = let is : formed ≡ r = cc in subst (Each P) is all
  rows-keep formed k (a ∷ p) q r all all_p all_q e =
      let first = and_then-ok (if o.is_zero a then Ok formed else poly.row o false formed k a q) (λ s. poly.rows o s (k + 1) p q) r e in
      let s = first.value in
      rows-keep s (k + 1) p q r (row_or_none-keeps formed k a q s (o.is_zero a) all all_p.0 all_q first.is) all_p.1 all_q first.next

  pub product-keeps : (p q r : List E) → Each P p → Each P q → poly.product o p q ≡ Ok r → Each P r
  unfolding poly.product
  product-keeps p q r all_p all_q e = by_zero (poly.is_zero o p || poly.is_zero o q) e
    where
      by_zero : (z : Bool) → (if z then Ok [] else if nat_le (length p + length q) 257 then and_then (poly.rows o (replicate (length p + length q - 1) o.zero) 0 p q) (λ r. poly.sized o (poly.trimmed o r)) else Err Size) ≡ Ok r →
          Each P r
      by_zero true e = let is : [] ≡ r = cc in subst (Each P) is tt
      by_zero false e =
          let zeros = replicate (length p + length q - 1) o.zero in
          let s = and_then-ok (poly.rows o zeros 0 p q) (λ r. poly.sized o (poly.trimmed o r)) r (if-then (nat_le (length p + length q) 257) (and_then (poly.rows o zeros 0 p q) (λ r. poly.sized o (poly.trimmed o r))) r e) in
          formed-keeps s.value r (rows-keep zeros 0 p q s.value (zeros-keep (length p + length q - 1)) all_p all_q s.is) s.next

  -- ---- the derivative by the variable itself
  pub multiple-keeps : (n : ℕ) (c d : E) → P c → poly.multiple o n c ≡ Ok d → P d
  multiple-keeps n c d v e = by_zero (o.is_zero c) e
    where
      by_zero : (z : Bool) → (if z then Ok o.zero else o.product (o.whole n) c) ≡ Ok d → P d
      by_zero true e = let is : o.zero ≡ d = cc in subst P is h.zero_in
      by_zero false e = h.product_in (o.whole n) c d (h.whole_in n) v e

  multiples_onto-keep : (formed : List E) (n : ℕ) (p r : List E) → Each P formed → Each P p → poly.multiples_onto o formed n p ≡ Ok r → Each P r
  multiples_onto-keep formed n [] r all all_p e = let is : formed ≡ r = cc in subst (Each P) is all
  multiples_onto-keep formed n (c ∷ p) r all all_p e =
      let first = and_then-ok (poly.multiple o n c) (λ d. poly.multiples_onto o (formed ++ d ∷ []) (n + 1) p) r e in
      let d = first.value in
      multiples_onto-keep (formed ++ d ∷ []) (n + 1) p r (push-keeps formed d all (multiple-keeps n c d all_p.0 first.is)) all_p.1 first.next

  pub partial-keeps : (p r : List E) → Each P p → poly.partial o p ≡ Ok r → Each P r
  unfolding poly.partial
  partial-keeps p r all e =
      let s = and_then-ok (poly.multiples_onto o [] 1 (drop 1 p)) (λ s. poly.sized o (poly.trimmed o s)) r e in
      formed-keeps s.value r (multiples_onto-keep [] 1 (drop 1 p) s.value tt (tail-keeps p all) s.is) s.next

  -- ---- the monic multiple
  pub last-keeps : (p : List E) → Each P p → P (poly.last o p)
  last-keeps p all = coefficient-keeps p (length p - 1) all

  front-keeps : (p : List E) → Each P p → Each P (poly.front o p)
  front-keeps p all = take-keeps (length p - 1) p all

  inverse_of_last-keeps : (p : List E) (u : E) → Each P p → o.quotient o.one (poly.last o p) ≡ Ok u → P u
  inverse_of_last-keeps p u all e = h.quotient_in o.one (poly.last o p) u h.one_in (last-keeps p all) e

  pub monic-keeps : (p r : List E) → Each P p → poly.monic o p ≡ Ok r → Each P r
  unfolding poly.monic
  monic-keeps p r all e = by_zero (poly.is_zero o p) e
    where
      by_zero : (z : Bool) → (if z then Ok [] else and_then (o.quotient o.one (poly.last o p)) (λ u. and_then (poly.scaled_onto o [] u (poly.front o p)) (λ r. poly.sized o (poly.trimmed o (r ++ o.one ∷ []))))) ≡ Ok r →
          Each P r
      by_zero true e = let is : [] ≡ r = cc in subst (Each P) is tt
      by_zero false e =
          let u = and_then-ok (o.quotient o.one (poly.last o p)) (λ u. and_then (poly.scaled_onto o [] u (poly.front o p)) (λ r. poly.sized o (poly.trimmed o (r ++ o.one ∷ [])))) r e in
          let s = and_then-ok (poly.scaled_onto o [] u.value (poly.front o p)) (λ r. poly.sized o (poly.trimmed o (r ++ o.one ∷ []))) r u.next in
          let scaled = scaled_onto-keeps [] u.value (poly.front o p) s.value tt (inverse_of_last-keeps p u.value all u.is) (front-keeps p all) s.is in
          formed-keeps (s.value ++ o.one ∷ []) r (push-keeps s.value o.one scaled h.one_in) s.next

  -- ---- the division
  -- each coefficient of both
  abbrev pub Both : List E × List E → Type 0
  Both d = Each P d.0 × Each P d.1

  abbrev SamePair : List E × List E → List E × List E → Type 0
  SamePair d e = d ≡ e

  step-keeps : (quotient r : List E) (u : E) (q : List E) (d : List E × List E) → Each P quotient → Each P r → P u → Each P q → poly.step o quotient r u q ≡ Ok d → Both d
  unfolding poly.step
  step-keeps quotient r u q d all all_r v all_q e =
      let k = length r - length q in
      let times = and_then-ok (o.product (poly.last o r) u) (λ c. and_then (poly.row o true (poly.front o r) k c (poly.front o q)) (λ s. Ok (slice_set quotient k c, poly.trimmed o s))) d e in
      let c = times.value in
      let row = and_then-ok (poly.row o true (poly.front o r) k c (poly.front o q)) (λ s. Ok (slice_set quotient k c, poly.trimmed o s)) d times.next in
      let s = row.value in
      let c-in = h.product_in (poly.last o r) u c (last-keeps r all_r) v times.is in
      let s-in = row-keeps true (poly.front o r) k c (poly.front o q) s (front-keeps r all_r) c-in (front-keeps q all_q) row.is in
      let is : SamePair (slice_set quotient k c, poly.trimmed o s) d = cc row.next in
      subst Both is (set-keeps quotient k c all c-in, trimmed-keeps s s-in)

  divided-keeps : (steps : ℕ) (quotient r : List E) (u : E) (q : List E) (d : List E × List E) → Each P quotient → Each P r → P u → Each P q → poly.divided o steps quotient r u q ≡ Ok d → Both d
  divided-keeps zero quotient r u q d all all_r v all_q e = let is : SamePair (quotient, r) d = cc e in subst Both is (all, all_r)
  divided-keeps (suc steps) quotient r u q d all all_r v all_q e = by_length (λ x both is. divided-keeps steps x.0 x.1 u q d both.0 both.1 v all_q is) (nat_lt (length r) (length q)) e
    where
      by_length : ((x : List E × List E) → Both x → poly.divided o steps x.0 x.1 u q ≡ Ok d → Both d) →
          (z : Bool) → (if z then Ok (quotient, r) else and_then (poly.step o quotient r u q) (λ d. poly.divided o steps d.0 d.1 u q)) ≡ Ok d → Both d
      by_length others true e = let is : SamePair (quotient, r) d = cc e in subst Both is (all, all_r)
      by_length others false e =
          let first = and_then-ok (poly.step o quotient r u q) (λ d. poly.divided o steps d.0 d.1 u q) d e in
          others first.value (step-keeps quotient r u q first.value all all_r v all_q first.is) first.next

  pub division-keeps : (p q : List E) (d : List E × List E) → Each P p → Each P q → poly.division o p q ≡ Ok d → Both d
  unfolding poly.division
  division-keeps p q d all_p all_q e = by_zero (poly.is_zero o q) e
    where
      by_zero : (z : Bool) → (if z then Ok ([], p) else
          and_then (o.quotient o.one (poly.last o q)) (λ u.
          and_then (poly.divided o (length p) (replicate (length p + 1 - length q) o.zero) p u q) (λ d.
          and_then (poly.sized o (poly.trimmed o d.0)) (λ quotient.
          and_then (poly.sized o (poly.trimmed o d.1)) (λ remainder.
          Ok (quotient, remainder)))))) ≡ Ok d → Both d
      by_zero true e = let is : SamePair ([], p) d = cc e in subst Both is (tt, all_p)
      by_zero false e =
          let zeros = replicate (length p + 1 - length q) o.zero in
          let one = and_then-ok (o.quotient o.one (poly.last o q)) (λ u. and_then (poly.divided o (length p) zeros p u q) (λ d. and_then (poly.sized o (poly.trimmed o d.0)) (λ quotient. and_then (poly.sized o (poly.trimmed o d.1)) (λ remainder. Ok (quotient, remainder))))) d e in
          let u = one.value in
          let two = and_then-ok (poly.divided o (length p) zeros p u q) (λ d. and_then (poly.sized o (poly.trimmed o d.0)) (λ quotient. and_then (poly.sized o (poly.trimmed o d.1)) (λ remainder. Ok (quotient, remainder)))) d one.next in
          let x = two.value in
          let three = and_then-ok (poly.sized o (poly.trimmed o x.0)) (λ quotient. and_then (poly.sized o (poly.trimmed o x.1)) (λ remainder. Ok (quotient, remainder))) d two.next in
          let four = and_then-ok (poly.sized o (poly.trimmed o x.1)) (λ remainder. Ok (three.value, remainder)) d three.next in
          let both = divided-keeps (length p) zeros p u q x (zeros-keep (length p + 1 - length q)) all_p (inverse_of_last-keeps q u all_q one.is) all_q two.is in
          let is : SamePair (three.value, four.value) d = cc four.next in
          subst Both is (formed-keeps x.0 three.value both.0 three.is, formed-keeps x.1 four.value both.1 four.is)

  pub quo-keeps : (p q r : List E) → Each P p → Each P q → poly.quo o p q ≡ Ok r → Each P r
  unfolding poly.quo
  quo-keeps p q r all_p all_q e =
      let first = and_then-ok (poly.division o p q) (λ d. Ok d.0) r e in
      let same : first.value.0 ≡ r = cc first.next in
      subst (Each P) same (division-keeps p q first.value all_p all_q first.is).0

  -- ---- the common divisor
  monic_remainder-keeps : (a b r : List E) → Each P a → Each P b → poly.monic_remainder o a b ≡ Ok r → Each P r
  unfolding poly.monic_remainder
  monic_remainder-keeps a b r all_a all_b e =
      let first = and_then-ok (poly.division o a b) (λ d. poly.monic o d.1) r e in
      monic-keeps first.value.1 r (division-keeps a b first.value all_a all_b first.is).1 first.next

  remainders-keep : (steps : ℕ) (a b r : List E) → Each P a → Each P b → poly.remainders o steps a b ≡ Ok r → Each P r
  remainders-keep zero a b r all_a all_b e = let is : a ≡ r = cc e in subst (Each P) is all_a
  remainders-keep (suc steps) a [] r all_a all_b e = let is : a ≡ r = cc e in subst (Each P) is all_a
  remainders-keep (suc steps) a (d ∷ b) r all_a all_b e =
      let first = and_then-ok (poly.monic_remainder o a (d ∷ b)) (λ c. poly.remainders o steps (d ∷ b) c) r e in
      remainders-keep steps (d ∷ b) first.value r all_b (monic_remainder-keeps a (d ∷ b) first.value all_a all_b first.is) first.next

  unit_or_remainders-keep : (a b r : List E) (z : Bool) → Each P a → Each P b → (if z then Ok (o.one ∷ []) else poly.remainders o (length b + 1) a b) ≡ Ok r → Each P r
  unit_or_remainders-keep a b r true all_a all_b e = let is : o.one ∷ [] ≡ r = cc e in subst (Each P) is (h.one_in, tt)
  unit_or_remainders-keep a b r false all_a all_b e = remainders-keep (length b + 1) a b r all_a all_b e

  pub gcd-keeps : (p q r : List E) → Each P p → Each P q → poly.gcd o p q ≡ Ok r → Each P r
  unfolding poly.gcd
  gcd-keeps p [] r all_p all_q e = monic-keeps p r all_p e
  gcd-keeps [] (d ∷ q) r all_p all_q e = monic-keeps (d ∷ q) r all_q e
  gcd-keeps (c ∷ p) (d ∷ q) r all_p all_q e =
      let first = and_then-ok (poly.monic o (c ∷ p)) (λ a. and_then (poly.monic o (d ∷ q)) (λ b. if poly.is_one o a || poly.is_one o b then Ok (o.one ∷ []) else poly.remainders o (length b + 1) a b)) r e in
      let a = first.value in
      let second = and_then-ok (poly.monic o (d ∷ q)) (λ b. if poly.is_one o a || poly.is_one o b then Ok (o.one ∷ []) else poly.remainders o (length b + 1) a b) r first.next in
      let b = second.value in
      unit_or_remainders-keep a b r (poly.is_one o a || poly.is_one o b) (monic-keeps (c ∷ p) a all_p first.is) (monic-keeps (d ∷ q) b all_q second.is) second.next

  -- ---- the inverse modulo a polynomial
  less_product-keeps : (p q m r : List E) → Each P p → Each P q → Each P m → modular.less_product o p q m ≡ Ok r → Each P r
  unfolding modular.less_product
  less_product-keeps p q m r all_p all_q all_m e =
      let first = and_then-ok (poly.product o q m) (λ x. poly.sum o p (poly.negatives o x)) r e in
      sum-keeps p (poly.negatives o first.value) r all_p (negatives-keep first.value (product-keeps q m first.value all_q all_m first.is)) first.next

  -- each coefficient of the polynomial, where there is one
  abbrev pub EachOf : Option (List E) → Type 0
  EachOf None = Unit {0}
  EachOf (Some i) = Each P i

  -- each coefficient of the two polynomials, where there are two
  abbrev pub EachOfBoth : Option (List E × List E) → Type 0
  EachOfBoth None = Unit {0}
  EachOfBoth (Some s) = Both s

  inverse_of_constant-keeps : (c : E) (s : List E) (x : Option (List E)) → P c → Each P s → and_then (o.quotient o.one c) (λ u. and_then (poly.scaled o u s) (λ i. Ok (Some i))) ≡ Ok x → EachOf x
  inverse_of_constant-keeps c s x v all e =
      let first = and_then-ok (o.quotient o.one c) (λ u. and_then (poly.scaled o u s) (λ i. Ok (Some i))) x e in
      let u = first.value in
      let second = and_then-ok (poly.scaled o u s) (λ i. Ok (Some i)) x first.next in
      let is : Some second.value ≡ x = cc second.next in
      subst EachOf is (scaled-keeps u s second.value (h.quotient_in o.one c u h.one_in v first.is) all second.is)

  inverse_from-keeps : (steps : ℕ) (r' s' r s : List E) (x : Option (List E)) → Each P r' → Each P s' → Each P r → Each P s → modular.inverse_from o steps r' s' r s ≡ Ok x → EachOf x
  inverse_from-keeps steps r' s' [] s x all_r' all_s' all_r all_s e = let is : None ≡ x = cc e in subst EachOf is tt
  inverse_from-keeps steps r' s' (c ∷ []) s x all_r' all_s' all_r all_s e = inverse_of_constant-keeps c s x all_r.0 all_s e
  inverse_from-keeps zero r' s' (c ∷ (d ∷ r)) s x all_r' all_s' all_r all_s e = let is : None ≡ x = cc e in subst EachOf is tt
  inverse_from-keeps (suc steps) r' s' (c ∷ (d ∷ r)) s x all_r' all_s' all_r all_s e =
      let l = c ∷ d ∷ r in
      let first = and_then-ok (poly.division o r' l) (λ y. and_then (modular.less_product o s' y.0 s) (λ s''. modular.inverse_from o steps l s y.1 s'')) x e in
      let y = first.value in
      let second = and_then-ok (modular.less_product o s' y.0 s) (λ s''. modular.inverse_from o steps l s y.1 s'') x first.next in
      let both = division-keeps r' l y all_r' all_r first.is in
      inverse_from-keeps steps l s y.1 second.value x all_r all_s both.1 (less_product-keeps s' y.0 s second.value all_s' both.0 all_s second.is) second.next

  pub inverse-keeps : (b a : List E) (x : Option (List E)) → Each P b → Each P a → modular.inverse o b a ≡ Ok x → EachOf x
  unfolding modular.inverse
  inverse-keeps b a x all_b all_a e =
      let first = and_then-ok (poly.division o b a) (λ y. modular.inverse_from o (length a) a [] y.1 (o.one ∷ [])) x e in
      let both = division-keeps b a first.value all_b all_a first.is in
      inverse_from-keeps (length a) a [] first.value.1 (o.one ∷ []) x all_a tt both.1 (h.one_in, tt) first.next

  -- ---- the equation
  solution-keeps : (i a b c : List E) (s : List E × List E) → Each P i → Each P a → Each P b → Each P c → modular.solution o i a b c ≡ Ok s → Both s
  unfolding modular.solution
  solution-keeps i a b c s all_i all_a all_b all_c e =
      let one = and_then-ok (poly.division o c a) (λ x. and_then (poly.product o i x.1) (λ m. and_then (poly.division o m a) (λ y. and_then (modular.less_product o c b y.1) (λ n. and_then (poly.quo o n a) (λ z. Ok (y.1, z)))))) s e in
      let x = one.value in
      let two = and_then-ok (poly.product o i x.1) (λ m. and_then (poly.division o m a) (λ y. and_then (modular.less_product o c b y.1) (λ n. and_then (poly.quo o n a) (λ z. Ok (y.1, z))))) s one.next in
      let m = two.value in
      let three = and_then-ok (poly.division o m a) (λ y. and_then (modular.less_product o c b y.1) (λ n. and_then (poly.quo o n a) (λ z. Ok (y.1, z)))) s two.next in
      let y = three.value in
      let four = and_then-ok (modular.less_product o c b y.1) (λ n. and_then (poly.quo o n a) (λ z. Ok (y.1, z))) s three.next in
      let n = four.value in
      let five = and_then-ok (poly.quo o n a) (λ z. Ok (y.1, z)) s four.next in
      let z = five.value in
      let x-in = (division-keeps c a x all_c all_a one.is).1 in
      let m-in = product-keeps i x.1 m all_i x-in two.is in
      let y-in = (division-keeps m a y m-in all_a three.is).1 in
      let n-in = less_product-keeps c b y.1 n all_c all_b y-in four.is in
      let is : SamePair (y.1, z) s = cc five.next in
      subst Both is (y-in, quo-keeps n a z n-in all_a five.is)

  solution_by-keeps : (i : Option (List E)) (a b c : List E) (x : Option (List E × List E)) → EachOf i → Each P a → Each P b → Each P c → modular.solution_by o i a b c ≡ Ok x → EachOfBoth x
  solution_by-keeps None a b c x all_i all_a all_b all_c e = let is : None ≡ x = cc e in subst EachOfBoth is tt
  solution_by-keeps (Some i) a b c x all_i all_a all_b all_c e =
      let first = and_then-ok (modular.solution o i a b c) (λ s. Ok (Some s)) x e in
      let is : Some first.value ≡ x = cc first.next in
      subst EachOfBoth is (solution-keeps i a b c first.value all_i all_a all_b all_c first.is)

  pub solve-keeps : (a b c : List E) (x : Option (List E × List E)) → Each P a → Each P b → Each P c → modular.solve o a b c ≡ Ok x → EachOfBoth x
  unfolding modular.solve
  solve-keeps a b c x all_a all_b all_c e =
      let first = and_then-ok (modular.inverse o b a) (λ i. modular.solution_by o i a b c) x e in
      solution_by-keeps first.value a b c x (inverse-keeps b a first.value all_b all_a first.is) all_a all_b all_c first.next
