-- The rule of the pseudo-remainder on lists of coefficients gives the pseudo-remainder in L[t], where the coefficients, polynomials in z, stand for elements of a field L.
--     size-coefficients      a list whose last coefficient is not 0 has the size of its polynomial
--     pseudo_remainder-coefficients      the rule
use Rattle.std.specs.Prelude.{nat_le, replicate}
use Rattle.std.proofs.Common.{◌≡◌, refl, sym, ap, ap₂, ◌∙◌, ℕ, zero, suc, pred, ◌+◌, ◌-◌, ◌≤◌, ◌<◌, [], ◌∷◌, ◌++◌, take, length, get_or, Ok, Err, arith, subst}
use Rattle.std.proofs.lemmas.List.{length-append, length-replicate, length-take, get_or_append_left, get_or-replicate, get_or-take, get_or_past}
use native.Mathlib.Decide.{dec_le}
use Rattle.risch_ring.specs.CommRing.{Field}
use Rattle.risch_ring.proofs.Laws as Laws
use Rattle.risch_univariate.specs.Polynomial.{Polynomial, coefficient, constant, variable}
use Rattle.risch_univariate.specs.PolynomialRing.{polynomials}
use Rattle.risch_univariate.specs.Degree.{size, leading_coefficient}
use Rattle.risch_univariate.proofs.Coefficients.{coefficient-add, coefficient-neg, coefficient-constant_mul, coefficient-variable_mul-zero, coefficient-variable_mul-suc}
use Rattle.risch_univariate.proofs.Degree as Degree
use Rattle.risch_field.specs.Checked.{Checked, and_then}
use Rattle.risch_field.proofs.CheckedSteps.{Passes, and_then-ok, if-ok}
use Rattle.risch_polynomial.specs.Poly as poly
use Rattle.risch_level.specs.Levels.{element}
use Rattle.risch_residue_theory.proofs.PseudoRemainder as theory
use Rattle.risch_sub.specs.RemainderSequence.{InZ, Member, weight, with_first, trimmed, sized, leading, products_onto, differences_onto, pseudo_step, pseudo_steps, pseudo_remainder}

-- polynomials in z stand for elements of L: the rules of sum, product and negative are the operations of L, and the empty list alone stands for 0
pub record StandsIn {B : Type 0} (L : Field B) (Stands : InZ → B → Type 0) : Type 0 where
  pub zero_in : Stands [] L.zero
  pub zero_is : (x : B) → Stands [] x → x ≡ L.zero
  pub some_is : (p : InZ) (x : B) → 0 < length p → Stands p x → ¬ (x ≡ L.zero)
  pub negative_in : (p : InZ) (x : B) → Stands p x → Stands (poly.negatives element p) (L.neg x)
  pub sum_in : (p q r : InZ) (x y : B) → Stands p x → Stands q y → poly.sum element p q ≡ Ok r → Stands r (L.add x y)
  pub product_in : (p q r : InZ) (x y : B) → Stands p x → Stands q y → poly.product element p q ≡ Ok r → Stands r (L.mul x y)

-- ---- lists without zeros at the end
with_first-get : (p : InZ) (m : Member) (i : ℕ) → get_or (with_first p m) i [] ≡ get_or (p ∷ m) i []
with_first-get [] [] zero = refl
with_first-get [] [] (suc i) = refl
with_first-get [] (q ∷ m) i = refl
with_first-get (c ∷ p) m i = refl

pub trimmed-get : (m : Member) (i : ℕ) → get_or (trimmed m) i [] ≡ get_or m i []
trimmed-get [] i = refl
trimmed-get (p ∷ m) zero = with_first-get p (trimmed m) zero
trimmed-get (p ∷ m) (suc i) = with_first-get p (trimmed m) (suc i) ∙ trimmed-get m i

with_first-length : (p : InZ) (m : Member) → length (with_first p m) ≤ suc (length m)
with_first-length [] [] = omega arith
with_first-length [] (q ∷ m) = omega arith
with_first-length (c ∷ p) m = omega arith

pub trimmed-length : (m : Member) → length (trimmed m) ≤ length m
trimmed-length [] = omega arith
trimmed-length (p ∷ m) = let l = with_first-length p (trimmed m) in let k = trimmed-length m in omega (arith, l, k)

-- the leading coefficient is not 0
abbrev pub Leads : Member → Type 0
Leads m = 0 < length m → 0 < length (leading m)

with_first-leads : (p : InZ) (m : Member) → Leads m → Leads (with_first p m)
with_first-leads [] [] h some = absurd (omega arith)
with_first-leads [] (q ∷ m) h some = h (omega arith)
with_first-leads (c ∷ p) [] h some = omega arith
with_first-leads (c ∷ p) (q ∷ m) h some = h (omega arith)

pub trimmed-leads : (m : Member) → Leads (trimmed m)
trimmed-leads [] some = absurd (omega arith)
trimmed-leads (p ∷ m) some = with_first-leads p (trimmed m) (trimmed-leads m) some

pub sized-is : (m r : Member) → sized m ≡ Ok r → trimmed m ≡ r
unfolding sized
sized-is m r e = if-ok (nat_le (weight (trimmed m)) 65536) (trimmed m) r e

-- what `sized` keeps of m
record IsSized (m r : Member) : Type 0 where
  same : (i : ℕ) → get_or r i [] ≡ get_or m i []
  shorter : length r ≤ length m
  leads : Leads r

sized-keeps : (m r : Member) → sized m ≡ Ok r → IsSized m r
sized-keeps m r e = subst (IsSized m) (sized-is m r e) (record { same = trimmed-get m; shorter = trimmed-length m; leads = trimmed-leads m })

pub leading-get : (m : Member) (k : ℕ) → length m ≡ suc k → leading m ≡ get_or m k []
leading-get [] k e = absurd (omega (arith, e))
leading-get (p ∷ []) zero e = refl
leading-get (p ∷ []) (suc k) e = absurd (omega (arith, e))
leading-get (p ∷ (q ∷ m)) zero e = absurd (omega (arith, e))
leading-get (p ∷ (q ∷ m)) (suc k) e = leading-get (q ∷ m) k (omega (arith, e))

pub push-length : (formed : Member) (q : InZ) → length (formed ++ q ∷ []) ≡ suc (length formed)
push-length formed q = omega (arith, length-append formed (q ∷ []))

pub push-last : (formed : Member) (q : InZ) → get_or (formed ++ q ∷ []) (length formed) [] ≡ q
push-last [] q = refl
push-last (p ∷ formed) q = push-last formed q

-- ---- the values that one step of the pseudo-division forms
record Formed (b r next : Member) (e : ℕ) : Type 0 where
  left : Member
  right : Member
  is_left : and_then (products_onto [] (leading b) (take (e + (length b - 1)) r)) sized ≡ Ok left
  is_right : and_then (products_onto (replicate e []) (get_or r (e + (length b - 1)) []) (take (length b - 1) b)) sized ≡ Ok right
  is_next : and_then (differences_onto [] left right) sized ≡ Ok next

limited-ok : {A : Type 0} (x : Checked Member) (next : Member → Checked A) (result : A) → and_then x (λ m. and_then (sized m) next) ≡ Ok result → Passes (and_then x sized) next result
limited-ok (Ok m) next result e = and_then-ok (sized m) next result e
limited-ok (Err stop) next result e = cc

formed_step : (b r next : Member) (e : ℕ) → pseudo_step b r e ≡ Ok next → Formed b r next e
unfolding pseudo_step
formed_step b r next e is =
    let first = limited-ok (products_onto [] (leading b) (take (e + (length b - 1)) r))
    (λ m. and_then (products_onto (replicate e []) (get_or r (e + (length b - 1)) []) (take (length b - 1) b)) (λ n. and_then (sized n) (λ n. and_then (differences_onto [] m n) sized))) next is in
    let second = limited-ok (products_onto (replicate e []) (get_or r (e + (length b - 1)) []) (take (length b - 1) b)) (λ n. and_then (differences_onto [] first.value n) sized) next first.next in
    record { left = first.value; right = second.value; is_left = first.is; is_right = second.is; is_next = second.next }

module _ {B : Type 0} {L : Field B} {Stands : InZ → B → Type 0} (h : StandsIn L Stands) where
  -- ---- the rules on lists of coefficients
  -- r is `formed` with the products of c and the coefficients of m after it
  record AreProducts (formed : Member) (c : InZ) (m r : Member) : Type 0 where
    long : length r ≡ length formed + length m
    first : (i : ℕ) → i < length formed → get_or r i [] ≡ get_or formed i []
    each : (i : ℕ) (x y : B) → Stands c x → Stands (get_or m i []) y → Stands (get_or r (length formed + i) []) (L.mul x y)

  products-are : (m formed r : Member) (c : InZ) → products_onto formed c m ≡ Ok r → AreProducts formed c m r
  products-are [] formed r c e =
      let same : formed ≡ r = cc in
      subst (AreProducts formed c []) same (record {
        long = omega arith;
        first = λ i l. refl;
        each = λ i x y u v. subst (λ z. Stands z (L.mul x y)) (sym (get_or_past formed (length formed + i) [] (omega arith)))
            (subst (Stands []) (sym (ap (L.mul x) (h.zero_is y v) ∙ Laws.mul-zero L.ring x)) h.zero_in);
      })
  products-are (p ∷ m) formed r c e =
      let s = and_then-ok (poly.product element c p) (λ q. products_onto (formed ++ q ∷ []) c m) r e in
      of_rest s.value s.is (products-are m (formed ++ s.value ∷ []) r c s.next)
    where
      of_rest : (q : InZ) → poly.product element c p ≡ Ok q → AreProducts (formed ++ q ∷ []) c m r → AreProducts formed c (p ∷ m) r
      of_rest q is g = record {
        long = let l = g.long in omega (arith, l, push-length formed q);
        first = λ i l. g.first i (omega (arith, l, push-length formed q)) ∙ get_or_append_left formed (q ∷ []) [] i l;
        each = each_of;
      }
        where
          each_of : (i : ℕ) (x y : B) → Stands c x → Stands (get_or (p ∷ m) i []) y → Stands (get_or r (length formed + i) []) (L.mul x y)
          each_of zero x y u v =
              let same : get_or r (length formed + 0) [] ≡ q = ap (λ i. get_or r i []) (omega arith) ∙ g.first (length formed) (omega (arith, push-length formed q)) ∙ push-last formed q in
              subst (λ z. Stands z (L.mul x y)) (sym same) (h.product_in c p q x y u v is)
          each_of (suc i) x y u v = subst (λ k. Stands (get_or r k []) (L.mul x y)) (omega (arith, push-length formed q)) (g.each i x y u v)

  -- r is `formed` with the differences of the coefficients of m and n after it
  record AreDifferences (formed m n r : Member) : Type 0 where
    long : (k : ℕ) → length m ≤ k → length n ≤ k → length r ≤ length formed + k
    first : (i : ℕ) → i < length formed → get_or r i [] ≡ get_or formed i []
    each : (i : ℕ) (x y : B) → Stands (get_or m i []) x → Stands (get_or n i []) y → Stands (get_or r (length formed + i) []) (L.add x (L.neg y))

  without : (x y : B) → y ≡ L.zero → x ≡ L.add x (L.neg y)
  without x y e = sym (ap (λ z. L.add x (L.neg z)) e ∙ ap (L.add x) (Laws.neg-zero L.ring) ∙ L.add-zero x)

  from_zero : (x y : B) → x ≡ L.zero → L.neg y ≡ L.add x (L.neg y)
  from_zero x y e = sym (ap (λ z. L.add z (L.neg y)) e ∙ Laws.zero-add L.ring (L.neg y))

  -- one more difference s, of the first coefficients
  difference-then : (formed m n m' n' r : Member) (s : InZ) → length m ≤ suc (length m') → length m' ≤ pred (length m) → length n' ≤ pred (length n) → 0 < length m + length n
      → ((i : ℕ) → get_or m (suc i) [] ≡ get_or m' i []) → ((i : ℕ) → get_or n (suc i) [] ≡ get_or n' i [])
      → ((x y : B) → Stands (get_or m 0 []) x → Stands (get_or n 0 []) y → Stands s (L.add x (L.neg y)))
      → AreDifferences (formed ++ s ∷ []) m' n' r → AreDifferences formed m n r
  difference-then formed m n m' n' r s lm km kn some em en here g = record {
    long = λ k l o. let t = g.long (pred k) (omega (arith, km, l)) (omega (arith, kn, o)) in omega (arith, t, push-length formed s, some, l, o);
    first = λ i l. g.first i (omega (arith, l, push-length formed s)) ∙ get_or_append_left formed (s ∷ []) [] i l;
    each = each_of;
  }
    where
      each_of : (i : ℕ) (x y : B) → Stands (get_or m i []) x → Stands (get_or n i []) y → Stands (get_or r (length formed + i) []) (L.add x (L.neg y))
      each_of zero x y u v =
          let same : get_or r (length formed + 0) [] ≡ s = ap (λ i. get_or r i []) (omega arith) ∙ g.first (length formed) (omega (arith, push-length formed s)) ∙ push-last formed s in
          subst (λ z. Stands z (L.add x (L.neg y))) (sym same) (here x y u v)
      each_of (suc i) x y u v =
          subst (λ k. Stands (get_or r k []) (L.add x (L.neg y))) (omega (arith, push-length formed s))
          (g.each i x y (subst (λ z. Stands z x) (em i) u) (subst (λ z. Stands z y) (en i) v))

  differences-are : (m n formed r : Member) → differences_onto formed m n ≡ Ok r → AreDifferences formed m n r
  differences-are [] [] formed r e =
      let same : formed ≡ r = cc in
      subst (AreDifferences formed [] []) same (record {
        long = λ k l o. omega arith;
        first = λ i l. refl;
        each = λ i x y u v. subst (λ z. Stands z (L.add x (L.neg y))) (sym (get_or_past formed (length formed + i) [] (omega arith)))
            (subst (Stands []) (sym (h.zero_is x u) ∙ without x y (h.zero_is y v)) h.zero_in);
      })
  differences-are [] (q ∷ n) formed r e =
      difference-then formed [] (q ∷ n) [] n r (poly.negatives element q) (omega arith) (omega arith) (omega arith) (omega arith) (λ i. refl) (λ i. refl)
      (λ x y u v. subst (Stands (poly.negatives element q)) (from_zero x y (h.zero_is x u)) (h.negative_in q y v))
      (differences-are [] n (formed ++ poly.negatives element q ∷ []) r e)
  differences-are (p ∷ m) [] formed r e =
      difference-then formed (p ∷ m) [] m [] r p (omega arith) (omega arith) (omega arith) (omega arith) (λ i. refl) (λ i. refl)
      (λ x y u v. subst (Stands p) (without x y (h.zero_is y v)) u)
      (differences-are m [] (formed ++ p ∷ []) r e)
  differences-are (p ∷ m) (q ∷ n) formed r e =
      let s = and_then-ok (poly.sum element p (poly.negatives element q)) (λ s. differences_onto (formed ++ s ∷ []) m n) r e in
      difference-then formed (p ∷ m) (q ∷ n) m n r s.value (omega arith) (omega arith) (omega arith) (omega arith) (λ i. refl) (λ i. refl)
      (λ x y u v. h.sum_in p (poly.negatives element q) s.value x (L.neg y) u (h.negative_in q y v) s.is)
      (differences-are m n (formed ++ s.value ∷ []) r s.next)

  -- ---- polynomials
  -- the coefficients of m stand for those of P
  abbrev pub AreCoefficients : Member → Polynomial L → Type 0
  AreCoefficients m P = (i : ℕ) → Stands (get_or m i []) (coefficient L P i)

  -- r is a list for P, and its last coefficient is not 0
  pub record IsListOf (P : Polynomial L) (r : Member) : Type 0 where
    pub are : AreCoefficients r P
    pub leads_list : Leads r

  -- beyond the list
  past-is_zero : (m : Member) (P : Polynomial L) → AreCoefficients m P → (i : ℕ) → length m ≤ i → coefficient L P i ≡ L.zero
  past-is_zero m P c i l = h.zero_is (coefficient L P i) (subst (λ z. Stands z (coefficient L P i)) (get_or_past m i [] l) (c i))

  pub size-coefficients-le : (m : Member) (P : Polynomial L) → AreCoefficients m P → size L P ≤ length m
  size-coefficients-le m P c = Degree.size-le L P (length m) (past-is_zero m P c)

  pub size-coefficients : (m : Member) (P : Polynomial L) → Leads m → AreCoefficients m P → size L P ≡ length m
  size-coefficients [] P leads c = let l = size-coefficients-le [] P c in omega (arith, l)
  size-coefficients (p ∷ m) P leads c =
      let l = size-coefficients-le (p ∷ m) P c in
      let s = Degree.size-ge L P (length m) (h.some_is (leading (p ∷ m)) _ (leads (omega arith)) (subst (λ z. Stands z (coefficient L P (length m))) (sym (leading-get (p ∷ m) (length m) refl)) (c (length m)))) in
      omega (arith, l, s)

  -- the last coefficient is not 0 where the list has the size of its polynomial
  pub leads_of_size : (m : Member) (P : Polynomial L) → AreCoefficients m P → size L P ≡ length m → Leads m
  leads_of_size [] P c e some = absurd (omega (arith, some))
  leads_of_size (p ∷ m) P c e some = subst (λ z. 0 < length z) (sym (leading-get (p ∷ m) (length m) refl)) (nonempty (get_or (p ∷ m) (length m) []) (c (length m)))
    where
      nonempty : (q : InZ) → Stands q (coefficient L P (length m)) → 0 < length q
      nonempty [] u = absurd (Degree.leading-nonzero L P (length m) e (h.zero_is (coefficient L P (length m)) u))
      nonempty (x ∷ q) u = omega arith

  leading-stands : (b : Member) (M : Polynomial L) (k : ℕ) → length b ≡ suc k → Leads b → AreCoefficients b M → Stands (leading b) (leading_coefficient L M)
  leading-stands b M k l leads c =
      let s = size-coefficients b M leads c in
      subst (λ z. Stands z (leading_coefficient L M)) (ap (λ i. get_or b i []) (omega (arith, s, l)) ∙ sym (leading-get b k l)) (c (pred (size L M)))

  -- ---- t^e·P
  abbrev shift : ℕ → Polynomial L → Polynomial L
  shift = theory.shift L

  coefficient-shift : (e : ℕ) (P : Polynomial L) (j : ℕ) → coefficient L (theory.shift L e P) (e + j) ≡ coefficient L P j
  unfolding theory.shift
  coefficient-shift zero P j = ap (coefficient L P) (omega arith)
  coefficient-shift (suc e) P j =
      subst (λ i. coefficient L ((polynomials L).mul (variable L) (theory.shift L e P)) i ≡ coefficient L P j) (omega arith)
      (coefficient-variable_mul-suc L (theory.shift L e P) (e + j) ∙ coefficient-shift e P j)

  coefficient-shift-below : (e : ℕ) (P : Polynomial L) (i : ℕ) → i < e → coefficient L (theory.shift L e P) i ≡ L.zero
  unfolding theory.shift
  coefficient-shift-below zero P i l = absurd (omega (arith, l))
  coefficient-shift-below (suc e) P zero l = coefficient-variable_mul-zero L (theory.shift L e P)
  coefficient-shift-below (suc e) P (suc i) l = coefficient-variable_mul-suc L (theory.shift L e P) i ∙ coefficient-shift-below e P i (omega (arith, l))

  -- ---- one step of the pseudo-division
  -- lc(M)·R - R_(e + deg M)·t^e·M
  abbrev stepped : ℕ → Polynomial L → Polynomial L → Polynomial L
  stepped e R M = (polynomials L).add ((polynomials L).mul (constant L (leading_coefficient L M)) R)
      ((polynomials L).neg ((polynomials L).mul (constant L (coefficient L R (e + pred (size L M)))) (theory.shift L e M)))

  coefficient-stepped : (e : ℕ) (R M : Polynomial L) (i : ℕ) → coefficient L (stepped e R M) i
      ≡ L.add (L.mul (leading_coefficient L M) (coefficient L R i)) (L.neg (L.mul (coefficient L R (e + pred (size L M))) (coefficient L (theory.shift L e M) i)))
  coefficient-stepped e R M i =
      coefficient-add L _ _ i ∙ ap₂ L.add (coefficient-constant_mul L _ R i) (coefficient-neg L _ i ∙ ap L.neg (coefficient-constant_mul L _ (theory.shift L e M) i))

  module _ (b : Member) (M : Polynomial L) (k : ℕ) (long : length b ≡ suc k) (leads : Leads b) (are_b : AreCoefficients b M) where
    same_size : size L M ≡ suc k
    same_size = size-coefficients b M leads are_b ∙ long

    -- what stands for lc(M)·R, below the exponent that becomes 0
    left-stands : (e : ℕ) (r left : Member) (R : Polynomial L) → AreCoefficients r R → and_then (products_onto [] (leading b) (take (e + (length b - 1)) r)) sized ≡ Ok left
        → (i : ℕ) → i < e + k → Stands (get_or left i []) (L.mul (leading_coefficient L M) (coefficient L R i))
    left-stands e r left R are_r is i l =
        let s = and_then-ok (products_onto [] (leading b) (take (e + (length b - 1)) r)) sized left is in
        let g = products-are (take (e + (length b - 1)) r) [] s.value (leading b) s.is in
        subst (λ z. Stands z (L.mul (leading_coefficient L M) (coefficient L R i)))
        (ap (λ j. get_or s.value j []) (omega arith) ∙ sym ((sized-keeps s.value left s.next).same i))
        (g.each i (leading_coefficient L M) (coefficient L R i) (leading-stands b M k long leads are_b)
        (subst (λ z. Stands z (coefficient L R i)) (sym (get_or-take (e + (length b - 1)) r i [] (omega (arith, l, long)))) (are_r i)))

    left-length : (e : ℕ) (r left : Member) → and_then (products_onto [] (leading b) (take (e + (length b - 1)) r)) sized ≡ Ok left → length left ≤ e + k
    left-length e r left is =
        let s = and_then-ok (products_onto [] (leading b) (take (e + (length b - 1)) r)) sized left is in
        let g = (products-are (take (e + (length b - 1)) r) [] s.value (leading b) s.is).long in
        let t = (sized-keeps s.value left s.next).shorter in
        let u = length-take (e + (length b - 1)) r in
        omega (arith, g, t, u, long)

    -- what stands for R_(e + deg M)·t^e·M there
    right-stands : (e : ℕ) (r right : Member) (R : Polynomial L) → AreCoefficients r R
        → and_then (products_onto (replicate e []) (get_or r (e + (length b - 1)) []) (take (length b - 1) b)) sized ≡ Ok right
        → (i : ℕ) → i < e + k → Stands (get_or right i []) (L.mul (coefficient L R (e + pred (size L M))) (coefficient L (theory.shift L e M) i))
    right-stands e r right R are_r is i l =
        let s = and_then-ok (products_onto (replicate e []) (get_or r (e + (length b - 1)) []) (take (length b - 1) b)) sized right is in
        subst (λ z. Stands z (L.mul (coefficient L R (e + pred (size L M))) (coefficient L (theory.shift L e M) i))) (sym ((sized-keeps s.value right s.next).same i))
        (by_place s.value (products-are (take (length b - 1) b) (replicate e []) s.value (get_or r (e + (length b - 1)) []) s.is) (dec_le e i))
      where
        by_place : (m : Member) → AreProducts (replicate e []) (get_or r (e + (length b - 1)) []) (take (length b - 1) b) m → Dec (e ≤ i)
            → Stands (get_or m i []) (L.mul (coefficient L R (e + pred (size L M))) (coefficient L (theory.shift L e M) i))
        by_place m g (no n) =
            subst (λ z. Stands z (L.mul (coefficient L R (e + pred (size L M))) (coefficient L (theory.shift L e M) i)))
            (sym (g.first i (omega (arith, n, length-replicate {A = InZ} e [])) ∙ get_or-replicate e i [] [] (omega (arith, n))))
            (subst (Stands []) (sym (ap (L.mul (coefficient L R (e + pred (size L M)))) (coefficient-shift-below e M i (omega (arith, n))) ∙ Laws.mul-zero L.ring _)) h.zero_in)
        by_place m g (yes n) =
            let same : coefficient L M (i - e) ≡ coefficient L (theory.shift L e M) i = sym (coefficient-shift e M (i - e)) ∙ ap (coefficient L (theory.shift L e M)) (omega (arith, n)) in
            subst (λ j. Stands (get_or m j []) (L.mul (coefficient L R (e + pred (size L M))) (coefficient L (theory.shift L e M) i))) (omega (arith, n, length-replicate {A = InZ} e []))
            (g.each (i - e) (coefficient L R (e + pred (size L M))) (coefficient L (theory.shift L e M) i)
            (subst (λ j. Stands (get_or r j []) (coefficient L R (e + pred (size L M)))) (let q = same_size in omega (arith, q, long)) (are_r (e + pred (size L M))))
            (subst (λ z. Stands z (coefficient L (theory.shift L e M) i)) (sym (get_or-take (length b - 1) b (i - e) [] (omega (arith, n, l, long)))) (subst (Stands (get_or b (i - e) [])) same (are_b (i - e)))))

    right-length : (e : ℕ) (r right : Member) → and_then (products_onto (replicate e []) (get_or r (e + (length b - 1)) []) (take (length b - 1) b)) sized ≡ Ok right → length right ≤ e + k
    right-length e r right is =
        let s = and_then-ok (products_onto (replicate e []) (get_or r (e + (length b - 1)) []) (take (length b - 1) b)) sized right is in
        let g = (products-are (take (length b - 1) b) (replicate e []) s.value (get_or r (e + (length b - 1)) []) s.is).long in
        let t = (sized-keeps s.value right s.next).shorter in
        let u = length-take (length b - 1) b in
        let v = length-replicate {A = InZ} e [] in
        omega (arith, g, t, u, v, long)

    -- what becomes 0 is 0
    stepped-zero : (e : ℕ) (r : Member) (R : Polynomial L) → AreCoefficients r R → length r ≤ suc (e + k) → (i : ℕ) → e + k ≤ i → coefficient L (stepped e R M) i ≡ L.zero
    stepped-zero e r R are_r l i o = coefficient-stepped e R M i ∙ by_place (dec_le i (e + k))
      where
        by_place : Dec (i ≤ e + k)
            → L.add (L.mul (leading_coefficient L M) (coefficient L R i)) (L.neg (L.mul (coefficient L R (e + pred (size L M))) (coefficient L (theory.shift L e M) i))) ≡ L.zero
        by_place (yes u) =
            ap (λ x. L.add (L.mul (leading_coefficient L M) (coefficient L R i)) (L.neg x))
            (ap₂ L.mul (ap (coefficient L R) (let q = same_size in omega (arith, q, o, u)))
            (ap (coefficient L (theory.shift L e M)) (let q = same_size in omega (arith, q, o, u)) ∙ coefficient-shift e M (pred (size L M)))
            ∙ L.mul_comm (coefficient L R i) (leading_coefficient L M))
            ∙ L.add-neg _
        by_place (no u) =
            ap₂ (λ x y. L.add (L.mul (leading_coefficient L M) x) (L.neg (L.mul (coefficient L R (e + pred (size L M))) y)))
            (past-is_zero r R are_r i (omega (arith, l, u)))
            (ap (coefficient L (theory.shift L e M)) (omega (arith, o)) ∙ coefficient-shift e M (i - e) ∙ Degree.below_size L M (i - e) (let q = same_size in omega (arith, q, u)))
            ∙ ap₂ (λ x y. L.add x (L.neg y)) (Laws.mul-zero L.ring _) (Laws.mul-zero L.ring _) ∙ L.add-neg L.zero

    -- the list that a step forms
    record IsStepped (e : ℕ) (R : Polynomial L) (next : Member) : Type 0 where
      are : AreCoefficients next (stepped e R M)
      shorter : length next ≤ e + k
      leads_next : Leads next

    step-coefficients : (e : ℕ) (r next : Member) (R : Polynomial L) → AreCoefficients r R → length r ≤ suc (e + k) → pseudo_step b r e ≡ Ok next → IsStepped e R next
    step-coefficients e r next R are_r l is = of_formed (formed_step b r next e is)
      where
        of_formed : Formed b r next e → IsStepped e R next
        of_formed f = record { are = λ i. by_place i (dec_le (e + k) i); shorter = shorter; leads_next = kept.leads }
          where
            s : Passes (differences_onto [] f.left f.right) sized next
            s = and_then-ok (differences_onto [] f.left f.right) sized next f.is_next

            g : AreDifferences [] f.left f.right s.value
            g = differences-are f.left f.right [] s.value s.is

            kept : IsSized s.value next
            kept = sized-keeps s.value next s.next

            shorter : length next ≤ e + k
            shorter = let a = g.long (e + k) (left-length e r f.left f.is_left) (right-length e r f.right f.is_right) in let c = kept.shorter in omega (arith, a, c)

            by_place : (i : ℕ) → Dec (e + k ≤ i) → Stands (get_or next i []) (coefficient L (stepped e R M) i)
            by_place i (yes o) = subst (λ z. Stands z (coefficient L (stepped e R M) i)) (sym (get_or_past next i [] (omega (arith, shorter, o))))
                (subst (Stands []) (sym (stepped-zero e r R are_r l i o)) h.zero_in)
            by_place i (no o) =
                subst (λ z. Stands z (coefficient L (stepped e R M) i)) (ap (λ j. get_or s.value j []) (omega arith) ∙ sym (kept.same i))
                (subst (Stands (get_or s.value (0 + i) [])) (sym (coefficient-stepped e R M i))
                (g.each i _ _ (left-stands e r f.left R are_r f.is_left i (omega (arith, o))) (right-stands e r f.right R are_r f.is_right i (omega (arith, o)))))

    -- ---- the pseudo-remainder
    steps-coefficients : (n : ℕ) (r result : Member) (R : Polynomial L) → IsListOf R r → length r ≤ n + k → pseudo_steps b n r ≡ Ok result → IsListOf (theory.pseudo_remainder L n R M) result
    unfolding theory.pseudo_remainder
    steps-coefficients zero r result R c l e = let same : r ≡ result = cc in subst (IsListOf R) same c
    steps-coefficients (suc n) r result R c l e =
        let s = and_then-ok (pseudo_step b r n) (pseudo_steps b n) result e in
        let g = step-coefficients n r s.value R c.are (omega (arith, l)) s.is in
        let t = g.shorter in
        steps-coefficients n s.value result (stepped n R M) (record { are = g.are; leads_list = g.leads_next }) (omega (arith, t)) s.next

    -- prem(P, M), where deg M ≤ deg P + 1
    pub pseudo_remainder-coefficients : (a r : Member) (P : Polynomial L) → IsListOf P a → length b ≤ suc (length a) → pseudo_remainder a b ≡ Ok r
        → IsListOf (theory.pseudo_remainder L (length a + 1 - length b) P M) r
    pseudo_remainder-coefficients a r P c l e = steps-coefficients (length a + 1 - length b) a r P c (omega (arith, long, l)) e
