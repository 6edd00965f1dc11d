-- What the rule of the primitive remainder sequence keeps: a property of the polynomials in z that their rules keep holds of each coefficient of each member.
--     remainders-are_polynomials      the coefficients are in normal form
--     content-within, quotients-within, remainders-within      the variables that occur
use Rattle.std.specs.Prelude.{nat_le, if◌then◌else◌, replicate}
use Rattle.std.proofs.Common.{◌≡◌, refl, ap, ℕ, zero, suc, ◌+◌, ◌-◌, ◌<◌, Bool, true, false, List, [], ◌∷◌, ◌++◌, take, length, get_or, All, Ok, Err, arith, subst}
use Rattle.std.proofs.lemmas.List.Elements.{All-nil, All-cons, All-head, All-tail, All-push, All-replicate, All-take}
use Rattle.risch_univariate.specs.Degree.{IsMonic}
use Rattle.risch_mean.specs.ElementField.{elements}
use Rattle.risch_field.specs.Checked.{Checked, and_then}
use Rattle.risch_field.proofs.CheckedSteps.{Passes, and_then-ok, if-ok}
use Rattle.risch_polynomial.specs.Poly as poly
use Rattle.risch_level.specs.Levels.{element}
use Rattle.risch_element_theory.specs.WholeTower.{IsPolynomial, polynomial, AllWithin}
use Rattle.risch_element_theory.proofs.CoefficientProperties as Properties
use Rattle.risch_element_theory.proofs.ElementPolynomials as Polynomials
use Rattle.risch_element_theory.proofs.ElementPolynomials.{element_interprets}
use Rattle.risch_element_theory.proofs.GcdRule as GcdRule
use Rattle.risch_element_theory.proofs.PolynomialsWithin as Within
use Rattle.risch_element_theory.proofs.PolynomialsWithin.{within-closed}
use Rattle.risch_sub.specs.RemainderSequence.{InZ, Member, weight, with_first, trimmed, sized, leading, products_onto, differences_onto, pseudo_step, pseudo_steps, pseudo_remainder, divisor_with, divisor_of_all, content, quotients_onto, primitive_part, next_member, remainders_from, remainders}
use Rattle.risch_sub.proofs.SquareFreeRules.{monic-not_nil}

-- the rules on polynomials in z keep the property P where divisors have the property Q, which what is not 0 has, and common divisors with what has it
record Keeps (P Q : InZ → Type 0) : Type 0 where
  some_in : (p : InZ) → 0 < length p → Q p
  zero_in : P []
  negative_in : (p : InZ) → P p → P (poly.negatives element p)
  sum_in : (p q r : InZ) → P p → P q → poly.sum element p q ≡ Ok r → P r
  product_in : (p q r : InZ) → P p → P q → poly.product element p q ≡ Ok r → P r
  monic_in : (p r : InZ) → P p → Q p → poly.monic element p ≡ Ok r → P r × Q r
  divisor_in : (g p r : InZ) → P g → P p → 0 < length p → poly.gcd element g p ≡ Ok r → P r × Q r
  quotient_in : (p c r : InZ) → P p → P c → Q c → poly.quo element p c ≡ Ok r → P r

-- the leading coefficient is not 0
abbrev Leads : Member → Type 0
Leads m = 0 < length m → 0 < length (leading m)

with_first-leads : (p : InZ) (m : Member) → Leads m → Leads (with_first p m)
with_first-leads [] [] h some = absurd (omega arith)
with_first-leads [] (q ∷ m) h some = h (omega arith)
with_first-leads (c ∷ p) [] h some = omega arith
with_first-leads (c ∷ p) (q ∷ m) h some = h (omega arith)

trimmed-leads : (m : Member) → Leads (trimmed m)
trimmed-leads [] some = absurd (omega arith)
trimmed-leads (p ∷ m) some = with_first-leads p (trimmed m) (trimmed-leads m) some

sized-is : (m r : Member) → sized m ≡ Ok r → trimmed m ≡ r
unfolding sized
sized-is m r e = if-ok (nat_le (weight (trimmed m)) 65536) (trimmed m) r e

-- ---- the values that one step of the pseudo-division forms
record Formed (b r next : Member) (e : ℕ) : Type 0 where
  left : Member
  right : Member
  is_left : and_then (products_onto [] (leading b) (take (e + (length b - 1)) r)) sized ≡ Ok left
  is_right : and_then (products_onto (replicate e []) (get_or r (e + (length b - 1)) []) (take (length b - 1) b)) sized ≡ Ok right
  is_next : and_then (differences_onto [] left right) sized ≡ Ok next

limited-ok : {A : Type 0} (x : Checked Member) (next : Member → Checked A) (result : A) → and_then x (λ m. and_then (sized m) next) ≡ Ok result → Passes (and_then x sized) next result
limited-ok (Ok m) next result e = and_then-ok (sized m) next result e
limited-ok (Err stop) next result e = cc

formed_step : (b r next : Member) (e : ℕ) → pseudo_step b r e ≡ Ok next → Formed b r next e
unfolding pseudo_step
formed_step b r next e is =
    let first = limited-ok (products_onto [] (leading b) (take (e + (length b - 1)) r))
    (λ m. and_then (products_onto (replicate e []) (get_or r (e + (length b - 1)) []) (take (length b - 1) b)) (λ n. and_then (sized n) (λ n. and_then (differences_onto [] m n) sized))) next is in
    let second = limited-ok (products_onto (replicate e []) (get_or r (e + (length b - 1)) []) (take (length b - 1) b)) (λ n. and_then (differences_onto [] first.value n) sized) next first.next in
    record { left = first.value; right = second.value; is_left = first.is; is_right = second.is; is_next = second.next }

module _ {P Q : InZ → Type 0} (h : Keeps P Q) where
  -- each coefficient has the property, and the last may divide
  record IsMember (m : Member) : Type 0 where
    all : All P m
    leads : 0 < length m → Q (leading m)

  -- ---- lists of coefficients
  get-keeps : (m : Member) (i : ℕ) → All P m → P (get_or m i [])
  get-keeps [] i all = h.zero_in
  get-keeps (p ∷ m) zero all = All-head P p m all
  get-keeps (p ∷ m) (suc i) all = get-keeps m i (All-tail P p m all)

  leading-keeps : (m : Member) → All P m → P (leading m)
  leading-keeps [] all = h.zero_in
  leading-keeps (p ∷ []) all = All-head P p [] all
  leading-keeps (p ∷ (q ∷ m)) all = leading-keeps (q ∷ m) (All-tail P p (q ∷ m) all)

  with_first-keeps : (p : InZ) (m : Member) → P p → All P m → All P (with_first p m)
  with_first-keeps [] [] v all = All-nil P
  with_first-keeps [] (q ∷ m) v all = All-cons P [] (q ∷ m) v all
  with_first-keeps (c ∷ p) m v all = All-cons P (c ∷ p) m v all

  trimmed-keeps : (m : Member) → All P m → All P (trimmed m)
  trimmed-keeps [] all = All-nil P
  trimmed-keeps (p ∷ m) all = with_first-keeps p (trimmed m) (All-head P p m all) (trimmed-keeps m (All-tail P p m all))

  sized-keeps : (m r : Member) → All P m → sized m ≡ Ok r → IsMember r
  sized-keeps m r all e =
      let is = sized-is m r e in
      record { all = subst (All P) is (trimmed-keeps m all); leads = λ some. h.some_in (leading r) (subst Leads is (trimmed-leads m) some) }

  products-keep : (m formed r : Member) (c : InZ) → All P formed → P c → All P m → products_onto formed c m ≡ Ok r → All P r
  products-keep [] formed r c all_formed v all e = let same : formed ≡ r = cc in subst (All P) same all_formed
  products-keep (p ∷ m) formed r c all_formed v all e =
      let s = and_then-ok (poly.product element c p) (λ q. products_onto (formed ++ q ∷ []) c m) r e in
      products-keep m (formed ++ s.value ∷ []) r c (All-push P formed s.value all_formed (h.product_in c p s.value v (All-head P p m all) s.is)) v (All-tail P p m all) s.next

  differences-keep : (m n formed r : Member) → All P formed → All P m → All P n → differences_onto formed m n ≡ Ok r → All P r
  differences-keep [] [] formed r all_formed all_m all_n e = let same : formed ≡ r = cc in subst (All P) same all_formed
  differences-keep [] (q ∷ n) formed r all_formed all_m all_n e =
      differences-keep [] n (formed ++ poly.negatives element q ∷ []) r (All-push P formed (poly.negatives element q) all_formed (h.negative_in q (All-head P q n all_n))) all_m (All-tail P q n all_n) e
  differences-keep (p ∷ m) [] formed r all_formed all_m all_n e =
      differences-keep m [] (formed ++ p ∷ []) r (All-push P formed p all_formed (All-head P p m all_m)) (All-tail P p m all_m) all_n e
  differences-keep (p ∷ m) (q ∷ n) formed r all_formed all_m all_n e =
      let s = and_then-ok (poly.sum element p (poly.negatives element q)) (λ s. differences_onto (formed ++ s ∷ []) m n) r e in
      differences-keep m n (formed ++ s.value ∷ []) r
      (All-push P formed s.value all_formed
      (h.sum_in p (poly.negatives element q) s.value (All-head P p m all_m) (h.negative_in q (All-head P q n all_n)) s.is))
      (All-tail P p m all_m) (All-tail P q n all_n) s.next

  quotients-keep : (m formed r : Member) (c : InZ) → All P formed → P c → Q c → All P m → quotients_onto formed m c ≡ Ok r → All P r
  quotients-keep [] formed r c all_formed v some all e = let same : formed ≡ r = cc in subst (All P) same all_formed
  quotients-keep (p ∷ m) formed r c all_formed v some all e =
      let s = and_then-ok (poly.quo element p c) (λ q. quotients_onto (formed ++ q ∷ []) m c) r e in
      quotients-keep m (formed ++ s.value ∷ []) r c (All-push P formed s.value all_formed (h.quotient_in p c s.value (All-head P p m all) v some s.is)) v some (All-tail P p m all) s.next

  -- ---- the pseudo-division
  limited-keeps : (m formed l : Member) (c : InZ) → All P formed → P c → All P m → and_then (products_onto formed c m) sized ≡ Ok l → All P l
  limited-keeps m formed l c all_formed v all e =
      let s = and_then-ok (products_onto formed c m) sized l e in
      (sized-keeps s.value l (products-keep m formed s.value c all_formed v all s.is) s.next).all

  step-keeps : (b r next : Member) (e : ℕ) → All P b → All P r → pseudo_step b r e ≡ Ok next → IsMember next
  step-keeps b r next e all_b all_r is = of_formed (formed_step b r next e is)
    where
      of_formed : Formed b r next e → IsMember next
      of_formed x =
          let s = and_then-ok (differences_onto [] x.left x.right) sized next x.is_next in
          sized-keeps s.value next
          (differences-keep x.left x.right [] s.value (All-nil P)
          (limited-keeps (take (e + (length b - 1)) r) [] x.left (leading b) (All-nil P) (leading-keeps b all_b) (All-take P (e + (length b - 1)) r all_r) x.is_left)
          (limited-keeps (take (length b - 1) b) (replicate e []) x.right (get_or r (e + (length b - 1)) []) (All-replicate P e [] h.zero_in) (get-keeps r (e + (length b - 1)) all_r)
          (All-take P (length b - 1) b all_b) x.is_right) s.is) s.next

  steps-keep : (b : Member) → All P b → (steps : ℕ) (r result : Member) → IsMember r → pseudo_steps b steps r ≡ Ok result → IsMember result
  steps-keep b all_b zero r result k e = let same : r ≡ result = cc in subst IsMember same k
  steps-keep b all_b (suc steps) r result k e =
      let s = and_then-ok (pseudo_step b r steps) (pseudo_steps b steps) result e in
      steps-keep b all_b steps s.value result (step-keeps b r s.value steps all_b k.all s.is) s.next

  remainder-keeps : (a b r : Member) → IsMember a → All P b → pseudo_remainder a b ≡ Ok r → IsMember r
  remainder-keeps a b r k all_b e = steps-keep b all_b (length a + 1 - length b) a r k e

  -- ---- the content
  divisor-keeps : (p g r : InZ) → P g → Q g → P p → divisor_with g p ≡ Ok r → P r × Q r
  divisor-keeps [] g r v some w e = let same : g ≡ r = cc in subst (λ g. P g × Q g) same (v, some)
  divisor-keeps (c ∷ p) g r v some w e = h.divisor_in g (c ∷ p) r v w (omega arith) e

  divisors-keep : (m : Member) (g r : InZ) → P g → Q g → All P m → divisor_of_all m g ≡ Ok r → P r × Q r
  divisors-keep [] g r v some all e = let same : g ≡ r = cc in subst (λ g. P g × Q g) same (v, some)
  divisors-keep (p ∷ m) g r v some all e =
      let s = and_then-ok (divisor_of_all m g) (λ d. divisor_with d p) r e in
      let x = divisors-keep m g s.value v some (All-tail P p m all) s.is in
      divisor-keeps p s.value r x.0 x.1 (All-head P p m all) s.next

  content-keeps : (m : Member) (c : InZ) → IsMember m → 0 < length m → content m ≡ Ok c → P c × Q c
  unfolding content
  content-keeps m c k some e =
      let s = and_then-ok (poly.monic element (leading m)) (divisor_of_all (take (length m - 1) m)) c e in
      let x = h.monic_in (leading m) s.value (leading-keeps m k.all) (k.leads some) s.is in
      divisors-keep (take (length m - 1) m) s.value c x.0 x.1 (All-take P (length m - 1) m k.all) s.next

  part-keeps : (m r : Member) → IsMember m → 0 < length m → primitive_part m ≡ Ok r → IsMember r
  unfolding primitive_part
  part-keeps m r k some e =
      let first = and_then-ok (content m) (λ c. and_then (quotients_onto [] m c) sized) r e in
      let second = and_then-ok (quotients_onto [] m first.value) sized r first.next in
      let x = content-keeps m first.value k some first.is in
      sized-keeps second.value r (quotients-keep m [] second.value first.value (All-nil P) x.0 x.1 k.all second.is) second.next

  -- ---- the sequence
  next-keeps : (members result : List Member) (more : Member → Checked (List Member)) (r : Member) → All (All P) members → IsMember r →
      ((m : Member) → IsMember m → more m ≡ Ok result → All (All P) result) → next_member more members r ≡ Ok result → All (All P) result
  next-keeps members result more [] all k again e = let same : members ≡ result = cc in subst (All (All P)) same all
  next-keeps members result more (p ∷ r) all k again e =
      let s = and_then-ok (primitive_part (p ∷ r)) more result e in
      again s.value (part-keeps (p ∷ r) s.value k (omega arith) s.is) s.next

  sequence-keeps : (least steps : ℕ) (members result : List Member) (a b : Member) → All (All P) members → IsMember a → IsMember b → remainders_from least steps members a b ≡ Ok result → All (All P) result
  sequence-keeps least zero members result a b all k l e = let same : members ≡ result = cc in subst (All (All P)) same all
  sequence-keeps least (suc steps) members result a b all k l e =
      by_test (nat_le (length b) (least + 1))
      (λ m j e. sequence-keeps least steps (members ++ m ∷ []) result b m (All-push (All P) members m all j.all) l j e) e
    where
      by_test : (test : Bool) → ((m : Member) → IsMember m → remainders_from least steps (members ++ m ∷ []) b m ≡ Ok result → All (All P) result)
          → (if test then Ok members else and_then (pseudo_remainder a b) (next_member (λ m. remainders_from least steps (members ++ m ∷ []) b m) members)) ≡ Ok result → All (All P) result
      by_test true again e = let same : members ≡ result = cc in subst (All (All P)) same all
      by_test false again e =
          let s = and_then-ok (pseudo_remainder a b) (next_member (λ m. remainders_from least steps (members ++ m ∷ []) b m) members) result e in
          next-keeps members result (λ m. remainders_from least steps (members ++ m ∷ []) b m) s.value all (remainder-keeps a b s.value k l.all s.is) again s.next

  remainders-keep : (d b : Member) (least : ℕ) (result : List Member) → All P d → All P b → Q (leading d) → Q (leading b) → remainders d b least ≡ Ok result → All (All P) result
  unfolding remainders
  remainders-keep d b least result all_d all_b lead_d lead_b e =
      sequence-keeps least (length b) (d ∷ b ∷ []) result d b (All-cons (All P) d (b ∷ []) all_d (All-cons (All P) b [] all_b (All-nil (All P))))
      (record { all = all_d; leads = λ _. lead_d }) (record { all = all_b; leads = λ _. lead_b }) e

-- ---- coefficients in normal form
monic-some : (p : InZ) → IsMonic elements (polynomial p) → 0 < length p
monic-some [] m = absurd (monic-not_nil [] m refl)
monic-some (c ∷ p) m = omega arith

not_nil : (p : InZ) → 0 < length p → ¬ (p ≡ [])
not_nil p some e = let none = ap length e in absurd (omega (arith, none, some))

quotient-is_polynomial : (p c r : InZ) → IsPolynomial p → IsPolynomial c → 0 < length c → poly.quo element p c ≡ Ok r → IsPolynomial r
unfolding poly.quo
quotient-is_polynomial p c r k l some e =
    let s = and_then-ok (poly.division element p c) (λ d. Ok d.0) r e in
    let same : s.value.0 ≡ r = let next : Ok s.value.0 ≡ Ok r = s.next in cc in
    subst IsPolynomial same (Polynomials.quotient-is_polynomial p c s.value.0 s.value.1 k l some s.is)

keeps_polynomials : Keeps IsPolynomial (λ p. 0 < length p)
keeps_polynomials = record {
  some_in = λ p some. some;
  zero_in = Polynomials.zero-is_polynomial;
  negative_in = λ p k. Polynomials.negatives-is_polynomial p (poly.negatives element p) k refl;
  sum_in = Polynomials.sum-is_polynomial;
  product_in = Polynomials.product-is_polynomial;
  monic_in = λ p r k some e. (Polynomials.monic-is_polynomial p r k e, monic-some r (GcdRule.monic-is_monic elements element_interprets p r k e (not_nil p some)));
  divisor_in = λ g p r k l some e. let x = GcdRule.gcd-is_gcd elements element_interprets g p r k l (λ _ none. not_nil p some none) e in (x.kept, monic-some r x.is_monic);
  quotient_in = quotient-is_polynomial;
}

pub remainders-are_polynomials : (d b : Member) (least : ℕ) (result : List Member) → All IsPolynomial d → All IsPolynomial b → 0 < length (leading d) → 0 < length (leading b) →
    remainders d b least ≡ Ok result → All (All IsPolynomial) result
remainders-are_polynomials d b least result all_d all_b lead_d lead_b e = remainders-keep keeps_polynomials d b least result all_d all_b lead_d lead_b e

-- ---- the variables that occur
keeps_variables : (n : ℕ) → Keeps (AllWithin n) (λ p. Unit {0})
keeps_variables n = record {
  some_in = λ p some. tt;
  zero_in = tt;
  negative_in = λ p all. Within.negatives-within n p (poly.negatives element p) all refl;
  sum_in = Within.sum-within n;
  product_in = Within.product-within n;
  monic_in = λ p r all some e. (Within.monic-within n p r all e, tt);
  divisor_in = λ g p r all_g all some e. (Within.gcd-within n g p r all_g all e, tt);
  quotient_in = λ p c r all all_c some e. Properties.quo-keeps (within-closed n) p c r all all_c e;
}

pub content-within : (n : ℕ) (m : Member) (c : InZ) → All (AllWithin n) m → 0 < length m → content m ≡ Ok c → AllWithin n c
content-within n m c all some e = (content-keeps (keeps_variables n) m c (record { all = all; leads = λ some. tt }) some e).0

pub quotients-within : (n : ℕ) (m r : Member) (c : InZ) → All (AllWithin n) m → AllWithin n c → quotients_onto [] m c ≡ Ok r → All (AllWithin n) r
quotients-within n m r c all all_c e = quotients-keep (keeps_variables n) m [] r c (All-nil (AllWithin n)) all_c tt all e

pub remainders-within : (n : ℕ) (d b : Member) (least : ℕ) (result : List Member) → All (AllWithin n) d → All (AllWithin n) b → remainders d b least ≡ Ok result → All (All (AllWithin n)) result
remainders-within n d b least result all_d all_b e = remainders-keep (keeps_variables n) d b least result all_d all_b tt tt e
