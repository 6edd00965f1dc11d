-- Newton's identities by lists: the rule that forms e_0, e_1, .. from the traces gives the e_i of Newton's rule over K, and the characteristic polynomial is the one with the coefficients (-1)^i·e_i.
--     symmetric, symmetric-newton      the e_i over K
--     characteristic_polynomial-stands      the rule
use Rattle.std.specs.Prelude.{if◌then◌else◌}
use Rattle.std.proofs.Common.{◌≡◌, ◌≢◌, refl, sym, ap, ap₂, ◌∙◌, ℕ, zero, suc, ◌+◌, ◌-◌, ◌*◌, ◌^◌, ◌≤◌, ◌<◌, Bool, true, false, not, List, [], ◌∷◌, ◌++◌, length, reverse, get_or, map, pos, ◌*ℤ◌, unsigned_abs, Ok, arith, subst}
use Rattle.std.proofs.lemmas.List.{reverse-append}
use native.Mathlib.Decide.{dec_le}
use Rattle.risch_ring.specs.CommRing.{CommRing, Field, RingMap, HasCharacteristicZero, of_nat}
use Rattle.risch_ring.proofs.FieldLaws as FieldLaws
use Rattle.risch_ring.proofs.Expression.{reading, nat-is}
use Rattle.risch_ring.proofs.Laws as Laws
use Rattle.risch_ring.proofs.RingMaps as RingMaps
use Rattle.risch_ring.proofs.Solver.{ring}
use Rattle.risch_univariate.specs.Polynomial.{Polynomial, of_list, coefficient}
use Rattle.risch_univariate.specs.PolynomialLaws.{coefficient-of_list}
use Rattle.risch_univariate.specs.PolynomialRing.{polynomials}
use Rattle.risch_univariate.specs.Degree.{size}
use Rattle.risch_univariate.proofs.Degree as Degree
use Rattle.risch_extension.specs.PolynomialMap.{map_polynomial}
use Rattle.risch_extension.specs.SymmetricFunctions.{alternating, signed}
use Rattle.risch_frac.specs.Fraction as fraction
use Rattle.risch_frac.specs.Fraction.{Fraction, IsLowest}
use Rattle.risch_frac.proofs.Lowest.{quotient-is_lowest, quotient-value}
use Rattle.risch_mean.specs.Element as mean
use Rattle.risch_mean.specs.Element.{integer}
use Rattle.risch_mean.specs.ElementField.{elements}
use Rattle.risch_mean.specs.ElementLaws.{over-mul, mul_cancel}
use Rattle.risch_mean.proofs.IntegerLaws.{integer-mul, integer-one, integer-ne-zero, integer-is}
use Rattle.risch_field.specs.Checked.{and_then}
use Rattle.risch_field.proofs.CheckedSteps.{and_then-ok}
use Rattle.risch_polynomial.specs.Poly as poly
use Rattle.risch_polynomial_theory.specs.FractionMeaning.{fraction_meaning}
use Rattle.risch_level.specs.Accessors.{number}
use Rattle.risch_level.specs.Levels.{Element, element}
use Rattle.risch_element_theory.specs.WholeTower.{IsElement, meaning}
use Rattle.risch_element_theory.proofs.ElementPolynomials.{element_interprets}
use Rattle.risch_element_theory.proofs.ElementParts.{number-is_element, number-stands}
use Rattle.risch_logarithm_rules.specs.Newton as rule
use Rattle.risch_logarithm_rules.specs.Newton.{inverse_of, alternating_sum, next_symmetric, symmetrics_from}

-- ---- 1/i
lowest-of : (i : ℕ) → 0 < i → i < 2 ^ 16 → IsLowest (fraction.quotient (pos 1) (pos i))
lowest-of i some small = quotient-is_lowest (pos 1) (pos i) (λ e. let same : i ≡ 0 = cc in omega arith) (omega arith) (omega arith)

pub inverse_of-is_element : (i : ℕ) → 0 < i → i < 2 ^ 16 → IsElement (inverse_of i)
inverse_of-is_element i some small = number-is_element (fraction.quotient (pos 1) (pos i)) (lowest-of i some small)

-- (1/i)·i = 1
pub inverse_of-mul : (i : ℕ) → 0 < i → i < 2 ^ 16 → mean.mul (meaning (inverse_of i)) (of_nat elements.ring i) ≡ mean.one
inverse_of-mul i some small = by_value (fraction.quotient (pos 1) (pos i)) (lowest-of i some small) (quotient-value (pos 1) (pos i) (λ e. let same : i ≡ 0 = cc in omega arith)) (number-stands (fraction.quotient (pos 1) (pos i)))
  where
    by_value : (q : Fraction) → IsLowest q → q.num *ℤ pos i ≡ pos 1 *ℤ pos q.den → meaning (number 5 q) ≡ fraction_meaning q → mean.mul (meaning (number 5 q)) (of_nat elements.ring i) ≡ mean.one
    by_value q l e m =
        ap₂ mean.mul m (sym (integer-is (pos i) ∙ nat-is elements.ring i))
        ∙ mul_cancel (mean.mul (fraction_meaning q) (integer (pos i))) mean.one (integer (pos q.den)) nonzero
        (moved (fraction_meaning q) (integer (pos i)) (integer (pos q.den))
        ∙ ap (λ (x : mean.Element). mean.mul x (integer (pos i))) (over-mul (integer q.num) (integer (pos q.den)) nonzero)
        ∙ sym (integer-mul q.num (pos i)) ∙ ap integer e ∙ integer-mul (pos 1) (pos q.den) ∙ ap (λ (x : mean.Element). mean.mul x (integer (pos q.den))) integer-one)
      where
        nonzero : ¬ (integer (pos q.den) ≡ mean.zero)
        nonzero = integer-ne-zero (pos q.den) (λ z. let some = l.positive in let same : q.den ≡ 0 = cc in absurd (omega arith))

        moved : (x a b : mean.Element) → mean.mul (mean.mul x a) b ≡ mean.mul (mean.mul x b) a
        moved x a b = ring elements.ring (x ∷ a ∷ b ∷ []) (search reading depth 30 fits 4000) refl

module _ {A : Type 0} (F : Field A) where
  open F use {zero as 𝟘, one as 𝟙, add as ◌⊕◌, mul as ◌⊗◌, neg as ⊖◌}

  infixl 60 ◌⊕◌
  infixl 70 ◌⊗◌
  infix 80 ⊖◌
  -- only f(0), .., f(i) count
  alternating_below : (f h g : ℕ → A) (i : ℕ) → ((k : ℕ) → k ≤ i → f k ≡ h k) → alternating F.ring f g i ≡ alternating F.ring h g i
  unfolding alternating
  alternating_below f h g zero e = ap (λ x. x ⊗ g 0) (e 0 (omega arith))
  alternating_below f h g (suc i) e =
      ap₂ (λ x y. x ⊗ g 0 ⊕ ⊖ y) (e (suc i) (omega arith)) (alternating_below f h (λ j. g (suc j)) i (λ k l. e k (omega (arith, l))))

  alternating-suc : (f g : ℕ → A) (i : ℕ) → alternating F.ring f g (suc i) ≡ f (suc i) ⊗ g 0 ⊕ ⊖ alternating F.ring f (λ j. g (suc j)) i
  unfolding alternating
  alternating-suc f g i = refl

  alternating-zero : (f g : ℕ → A) → alternating F.ring f g 0 ≡ f 0 ⊗ g 0
  unfolding alternating
  alternating-zero f g = refl

  -- ---- the e_i by Newton's rule, from p_1 = P(0), p_2 = P(1), ..
  module _ (P : ℕ → A) where
    either : {k n : ℕ} → Dec (k ≤ n) → A → A → A
    either (yes l) x y = x
    either (no l) x y = y

    -- e_0, .., e_n
    up_to : ℕ → ℕ → A
    up_to zero k = 𝟙
    up_to (suc n) k = either (dec_le k n) (up_to n k) (F.inverse (of_nat F.ring (suc n)) ⊗ alternating F.ring (up_to n) P n)

    -- e_i
    pub symmetric : ℕ → A
    symmetric i = up_to i i

    up_to-kept : (n k : ℕ) → k ≤ n → up_to (suc n) k ≡ up_to n k
    unfolding up_to either
    up_to-kept n k l = by (dec_le k n)
      where
        by : (d : Dec (k ≤ n)) → either d (up_to n k) (F.inverse (of_nat F.ring (suc n)) ⊗ alternating F.ring (up_to n) P n) ≡ up_to n k
        by (yes m) = refl
        by (no m) = absurd (m l)

    up_to-symmetric : (n k : ℕ) → k ≤ n → up_to n k ≡ symmetric k
    unfolding symmetric
    up_to-symmetric zero k l = ap (λ i. up_to i k) (let e : 0 ≡ k = omega (arith, l) in e)
    up_to-symmetric (suc n) k l = by (dec_le k n) (up_to-symmetric n k)
      where
        by : Dec (k ≤ n) → (k ≤ n → up_to n k ≡ up_to k k) → up_to (suc n) k ≡ up_to k k
        by (yes m) again = up_to-kept n k m ∙ again m
        by (no m) again = ap (λ i. up_to i k) (let e : suc n ≡ k = omega (arith, l, m) in e)

    up_to-next : (n : ℕ) → up_to (suc n) (suc n) ≡ F.inverse (of_nat F.ring (suc n)) ⊗ alternating F.ring (up_to n) P n
    unfolding up_to either
    up_to-next n = by (dec_le (suc n) n)
      where
        by : (d : Dec (suc n ≤ n)) → either d (up_to n (suc n)) (F.inverse (of_nat F.ring (suc n)) ⊗ alternating F.ring (up_to n) P n) ≡ F.inverse (of_nat F.ring (suc n)) ⊗ alternating F.ring (up_to n) P n
        by (yes m) = absurd (omega (arith, m))
        by (no m) = refl

    pub symmetric-zero : symmetric 0 ≡ F.one
    unfolding symmetric up_to
    symmetric-zero = refl

    symmetric-next : (n : ℕ) → symmetric (suc n) ≡ F.inverse (of_nat F.ring (suc n)) ⊗ alternating F.ring symmetric P n
    unfolding symmetric
    symmetric-next n = up_to-next n ∙ ap (F.mul (F.inverse (of_nat F.ring (suc n)))) (alternating_below (up_to n) (λ i. up_to i i) P n (λ k l. unfold symmetric in up_to-symmetric n k l))

    -- (i + 1)·e_(i + 1) = Σ over j from 0 to i of (-1)^j·e_(i - j)·p_(j + 1)
    pub symmetric-newton : HasCharacteristicZero F.ring → (i : ℕ) → F.mul (of_nat F.ring (suc i)) (symmetric (suc i)) ≡ alternating F.ring symmetric P i
    symmetric-newton char i =
        ap (F.mul (of_nat F.ring (suc i))) (symmetric-next i)
        ∙ sym (F.mul_assoc (of_nat F.ring (suc i)) (F.inverse (of_nat F.ring (suc i))) (alternating F.ring symmetric P i))
        ∙ ap (λ x. F.mul x (alternating F.ring symmetric P i)) (F.mul-inverse (of_nat F.ring (suc i)) (char i)) ∙ Laws.one-mul F.ring (alternating F.ring symmetric P i)

-- ---- the rule
-- the sign of the terms
unfoldable pub parity : Bool → ℕ → Bool
parity b zero = b
parity b (suc n) = parity (not b) n

parity-not : (b : Bool) (n : ℕ) → parity (not b) n ≡ not (parity b n)
unfolding parity
parity-not b zero = refl
parity-not b (suc n) = parity-not (not b) n

pub parity-suc : (b : Bool) (n : ℕ) → parity b (suc n) ≡ not (parity b n)
unfolding parity
parity-suc b n = parity-not b n

pub alternating-push : (b : Bool) (es : List Element) (x : Element) → rule.alternating b (es ++ x ∷ []) ≡ rule.alternating b es ++ poly.signed element (parity b (length es)) x ∷ []
unfolding parity
alternating-push b [] x = refl
alternating-push b (e ∷ es) x = ap (λ (l : List Element). poly.signed element b e ∷ l) (alternating-push (not b) es x)

abbrev pub by_sign : Bool → mean.Element → mean.Element
by_sign false x = x
by_sign true x = mean.neg x

module _ {A : Type 0} (F : Field A) (f : RingMap F.ring elements.ring) where
  -- c is in normal form and stands for f(x)
  pub record IsImage (c : Element) (x : A) : Type 0 where
    pub normal : IsElement c
    pub image : f.apply x ≡ meaning c

  -- the list has the images of E(n), .., E(0)
  abbrev pub Descends : (ℕ → A) → ℕ → List Element → Type 0
  Descends E n [] = ⊥
  Descends E zero (c ∷ cs) = IsImage c (E 0) × (cs ≡ [])
  Descends E (suc n) (c ∷ cs) = IsImage c (E (suc n)) × Descends E n cs

  -- the list begins with the images of P(0), .., P(n)
  abbrev pub Ascends : (ℕ → A) → ℕ → List Element → Type 0
  Ascends P n [] = ⊥
  Ascends P zero (p ∷ ps) = IsImage p (P 0)
  Ascends P (suc n) (p ∷ ps) = IsImage p (P 0) × Ascends (λ j. P (suc j)) n ps

  pub negative-image : (c : Element) (x : A) → IsImage c x → IsImage (element.negative c) (F.neg x)
  negative-image c x h = record {
    normal = element_interprets.negative-valid c h.normal;
    image = RingMaps.apply-neg f x ∙ ap mean.neg h.image ∙ sym (element_interprets.negative-means c h.normal);
  }

  -- ---- the sum
  -- s is total + (±1)·f(a)
  pub record IsSum (minus : Bool) (total s : Element) (a : A) : Type 0 where
    pub normal : IsElement s
    pub sum : meaning s ≡ mean.add (meaning total) (by_sign minus (f.apply a))

  signed-product : (minus : Bool) (e p m : Element) (x y : A) → IsImage e x → IsImage p y → element.product (poly.signed element minus e) p ≡ Ok m → IsElement m × (meaning m ≡ by_sign minus (f.apply (F.mul x y)))
  signed-product false e p m x y h k is =
      (element_interprets.product-valid e p m h.normal k.normal is, element_interprets.product-means e p m h.normal k.normal is ∙ ap₂ mean.mul (sym h.image) (sym k.image) ∙ sym (f.apply-mul x y))
  signed-product true e p m x y h k is =
      let n = element_interprets.negative-valid e h.normal in (
        element_interprets.product-valid (element.negative e) p m n k.normal is,
        element_interprets.product-means (element.negative e) p m n k.normal is
            ∙ ap₂ mean.mul (element_interprets.negative-means e h.normal ∙ ap mean.neg (sym h.image)) (sym k.image) ∙ Laws.neg-mul elements.ring (f.apply x) (f.apply y) ∙ ap mean.neg (sym (f.apply-mul x y)),
      )

  one-term : (minus : Bool) (total e p m s : Element) (x y : A) → IsElement total → IsImage e x → IsImage p y → element.product (poly.signed element minus e) p ≡ Ok m → element.sum total m ≡ Ok s
      → IsSum minus total s (F.mul x y)
  one-term minus total e p m s x y v h k is next =
      let a = signed-product minus e p m x y h k is in
      record {
        normal = element_interprets.sum-valid total m s v a.0 next;
        sum = element_interprets.sum-means total m s v a.0 next ∙ ap (mean.add (meaning total)) a.1;
      }

  two-terms : (minus : Bool) (total b s : Element) (x y : A) → IsSum minus total b x → IsSum (not minus) b s y → IsSum minus total s (F.add x (F.neg y))
  two-terms false total b s x y h k = record {
    normal = k.normal;
    sum = k.sum ∙ ap (λ (z : mean.Element). mean.add z (mean.neg (f.apply y))) h.sum ∙ elements.add_assoc (meaning total) (f.apply x) (mean.neg (f.apply y))
        ∙ ap (mean.add (meaning total)) (ap (mean.add (f.apply x)) (sym (RingMaps.apply-neg f y)) ∙ sym (f.apply-add x (F.neg y)));
  }
  two-terms true total b s x y h k = record {
    normal = k.normal;
    sum = k.sum ∙ ap (λ (z : mean.Element). mean.add z (f.apply y)) h.sum ∙ moved (meaning total) (f.apply x) (f.apply y)
        ∙ ap (λ (z : mean.Element). mean.add (meaning total) (mean.neg z)) (ap (mean.add (f.apply x)) (sym (RingMaps.apply-neg f y)) ∙ sym (f.apply-add x (F.neg y)));
  }
    where
      moved : (t x y : mean.Element) → mean.add (mean.add t (mean.neg x)) y ≡ mean.add t (mean.neg (mean.add x (mean.neg y)))
      moved t x y = ring elements.ring (t ∷ x ∷ y ∷ []) (search reading depth 30 fits 4000) refl

  pub sum-is : (n : ℕ) (E P : ℕ → A) (minus : Bool) (total s : Element) (es ps : List Element) → Descends E n es → Ascends P n ps → IsElement total → alternating_sum minus total es ps ≡ Ok s
      → IsSum minus total s (alternating F.ring E P n)
  sum-is n E P minus total s [] ps h k v is = absurd h
  sum-is n E P minus total s (e ∷ es) [] h k v is = absurd (none n k)
    where
      none : (n : ℕ) → Ascends P n [] → ⊥
      none zero k = k
      none (suc n) k = k
  sum-is zero E P minus total s (e ∷ []) (p ∷ ps) h k v is =
      let a = and_then-ok (element.product (poly.signed element minus e) p) (λ m. and_then (element.sum total m) (λ x. alternating_sum (not minus) x [] ps)) s is in
      let b = and_then-ok (element.sum total a.value) (λ x. alternating_sum (not minus) x [] ps) s a.next in
      let same : b.value ≡ s = let next : Ok b.value ≡ Ok s = b.next in cc in
      subst (IsSum minus total s) (sym (alternating-zero F E P)) (one-term minus total e p a.value s (E 0) (P 0) v h.0 k a.is (b.is ∙ ap Ok same))
  sum-is zero E P minus total s (e ∷ (d ∷ es)) (p ∷ ps) h k v is = absurd (let z = h.1 in cc)
  sum-is (suc n) E P minus total s (e ∷ es) (p ∷ ps) h k v is =
      let a = and_then-ok (element.product (poly.signed element minus e) p) (λ m. and_then (element.sum total m) (λ x. alternating_sum (not minus) x es ps)) s is in
      let b = and_then-ok (element.sum total a.value) (λ x. alternating_sum (not minus) x es ps) s a.next in
      let first = one-term minus total e p a.value b.value (E (suc n)) (P 0) v h.0 k.0 a.is b.is in
      subst (IsSum minus total s) (sym (alternating-suc F E P n))
      (two-terms minus total b.value s (F.mul (E (suc n)) (P 0)) (alternating F.ring E (λ j. P (suc j)) n) first
      (sum-is n E (λ j. P (suc j)) (not minus) b.value s es ps h.1 k.1 first.normal b.next))
