-- What the values of the rules stand for: a polynomial in z over the elements of the tower, and an element where it has one coefficient at most.
use Rattle.std.specs.Prelude.{nat_le, if◌then◌else◌, unwrap_or, slice_get}
use Rattle.std.proofs.Common.{◌≡◌, ℕ, zero as nat_zero, suc, ◌≤◌, List, [], ◌∷◌, length, Bool, true, false, Option, None, Some, Ok, Err, refl, sym, ◌∙◌, ap, ap₂, subst, arith}
use Rattle.std.proofs.lemmas.Bool.{cond_both, leb-false}
use Rattle.std.proofs.lemmas.List.{length-map}
use Rattle.risch_ring.proofs.Expression.{reading}
use Rattle.risch_ring.proofs.Solver.{ring}
use Rattle.risch_univariate.specs.Polynomial.{Polynomial}
use Rattle.risch_univariate.specs.Degree.{size}
use Rattle.risch_univariate.proofs.Degree.{size-add-le, size-mul-le}
use Rattle.risch_mean.specs.Element as mean
use Rattle.risch_mean.specs.Element.{zero, add, mul, neg, ◌+ₑ◌, ◌*ₑ◌, ◌/ₑ◌}
use Rattle.risch_mean.specs.ElementField.{elements, ◌^ₑ◌}
use Rattle.risch_mean.specs.ElementFieldLaws.{mul-one, mul_assoc}
use Rattle.risch_mean.proofs.PowerLaws.{power-zero, power-suc}
use Rattle.risch_field.specs.Checked.{Checked, map_ok}
use Rattle.risch_field.proofs.CheckedSteps.{and_then-ok}
use Rattle.risch_polynomial.specs.Poly as poly
use Rattle.risch_polynomial_theory.proofs.PolynomialValues as Values
use Rattle.risch_level.specs.Levels.{Element, element}
use Rattle.risch_element_theory.specs.WholeTower.{IsElement, meaning, IsPolynomial, polynomial, value_of, Within, AllWithin}
use Rattle.risch_element_theory.proofs.PolynomialRules as Rules
use Rattle.risch_element_theory.proofs.ElementLaws.{zero-is_element, one-is_element, quotient-is_element, quotient-is_ratio}
use Rattle.risch_element_theory.proofs.ElementWithin.{zero-element-within, one-element-within, quotient-element-within}
use Rattle.risch_element_theory.proofs.ElementPolynomials as Polynomials
use Rattle.risch_element_theory.proofs.ElementPolynomials.{element_interprets}
use Rattle.risch_element_theory.proofs.PolynomialsWithin as Inside
use Rattle.risch_expression.specs.Evaluation.{Valued, valued, constant, constant_term, by_inverse, divided, divided_by, ratio, multiplied, power_of}
use Rattle.risch_expression.proofs.Constants.{constant_short}

-- a polynomial over the elements in which only the first n variables occur
pub record Lies (n : ℕ) (p : List Element) : Type 0 where
  pub kept : IsPolynomial p
  pub within : AllWithin n p

-- p is a constant, and stands for the element f
pub record Stands (p : List Element) (f : mean.Element) : Type 0 where
  pub short : length p ≤ 1
  pub is : value_of p zero ≡ f

-- ---- how many coefficients there are
size_of : (p : List Element) → IsPolynomial p → length p ≤ 1 → size elements (polynomial p) ≤ 1
size_of p k h = let same : size elements (polynomial p) ≡ length p = Rules.size-polynomial_of elements element_interprets p k in omega (arith, same, h)

short_of : (r : List Element) (v : Polynomial elements) → IsPolynomial r → polynomial r ≡ v → size elements v ≤ 1 → length r ≤ 1
short_of r v k e h = let same : length r ≡ size elements v = sym (Rules.size-polynomial_of elements element_interprets r k) ∙ ap (size elements) e in omega (arith, same, h)

-- ---- sums, products, negatives
pub sum-lies : (n : ℕ) (p q r : List Element) → Lies n p → Lies n q → poly.sum element p q ≡ Ok r → Lies n r
sum-lies n p q r a b h = record { kept = Polynomials.sum-is_polynomial p q r a.kept b.kept h; within = Inside.sum-within n p q r a.within b.within h }

pub sum-stands : (p q r : List Element) (f g : mean.Element) → IsPolynomial p → IsPolynomial q → Stands p f → Stands q g → poly.sum element p q ≡ Ok r → Stands r (f +ₑ g)
sum-stands p q r f g k l s t h = record {
  short = short_of r _ (Polynomials.sum-is_polynomial p q r k l h) (Polynomials.sum-stands p q r k l h)
      (size-add-le elements (polynomial p) (polynomial q) 1 (size_of p k s.short) (size_of q l t.short));
  is = (Values.sum-means element_interprets p q r k.all_valid l.all_valid h).value_is zero ∙ ap₂ add s.is t.is;
}

pub product-lies : (n : ℕ) (p q r : List Element) → Lies n p → Lies n q → poly.product element p q ≡ Ok r → Lies n r
product-lies n p q r a b h = record { kept = Polynomials.product-is_polynomial p q r a.kept b.kept h; within = Inside.product-within n p q r a.within b.within h }

pub product-stands : (p q r : List Element) (f g : mean.Element) → IsPolynomial p → IsPolynomial q → Stands p f → Stands q g → poly.product element p q ≡ Ok r → Stands r (f *ₑ g)
product-stands p q r f g k l s t h = record {
  short = short_of r _ (Polynomials.product-is_polynomial p q r k l h) (Polynomials.product-stands p q r k l h)
      (size-mul-le elements (polynomial p) (polynomial q) 0 0 (size_of p k s.short) (size_of q l t.short));
  is = (Values.product-means element_interprets p q r k.all_valid l.all_valid h).value_is zero ∙ ap₂ mul s.is t.is;
}

pub negatives-lie : (n : ℕ) (p : List Element) → Lies n p → Lies n (poly.negatives element p)
negatives-lie n p a = record { kept = Polynomials.negatives-is_polynomial p _ a.kept refl; within = Inside.negatives-within n p _ a.within refl }

pub negatives-stand : (p : List Element) (f : mean.Element) → IsPolynomial p → Stands p f → Stands (poly.negatives element p) (neg f)
negatives-stand p f k s = record {
  short = let same : length (poly.negatives element p) ≡ length p = length-map p element.negative in let short = s.short in omega (arith, same, short);
  is = (Values.negatives-means element_interprets p k.all_valid).value_is zero ∙ ap neg s.is;
}

-- ---- constants
alone : (c : mean.Element) → add c (mul zero zero) ≡ c
alone c = ring elements.ring (c ∷ []) (search reading depth 20) refl

pub constant-lies : (n : ℕ) (e : Element) → IsElement e → Within n e → Lies n (constant e)
constant-lies n e v w = record {
  kept = Polynomials.trimmed-is_polynomial (e ∷ []) (constant e) (v, tt) (constant_short (e ∷ []) e refl) refl;
  within = Inside.trimmed-within n (e ∷ []) (constant e) (w, tt) refl;
}

pub constant-stands : (e : Element) → IsElement e → Stands (constant e) (meaning e)
constant-stands e v = by_test (element.is_zero e) refl
  where
    by_test : (z : Bool) → element.is_zero e ≡ z → Stands (if z then [] else e ∷ []) (meaning e)
    by_test true t = record { short = omega arith; is = sym (element_interprets.zero_is e v t) }
    by_test false t = record { short = omega arith; is = alone (meaning e) }

pub constant_term-is_element : (p : List Element) → IsPolynomial p → IsElement (constant_term p)
constant_term-is_element [] k = zero-is_element
constant_term-is_element (c ∷ p) k = by_test (element.is_zero c)
  where
    by_test : (z : Bool) → IsElement (unwrap_or (if z then None else Some c) element.zero)
    by_test true = zero-is_element
    by_test false = k.all_valid.0

pub constant_term-within : (n : ℕ) (p : List Element) → AllWithin n p → Within n (constant_term p)
constant_term-within n [] all = zero-element-within n
constant_term-within n (c ∷ p) all = by_test (element.is_zero c)
  where
    by_test : (z : Bool) → Within n (unwrap_or (if z then None else Some c) element.zero)
    by_test true = zero-element-within n
    by_test false = all.0

pub constant_term-means : (p : List Element) (f : mean.Element) → IsPolynomial p → Stands p f → meaning (constant_term p) ≡ f
constant_term-means [] f k s = element_interprets.zero-means ∙ s.is
constant_term-means (c ∷ []) f k s = by_test (element.is_zero c) refl ∙ sym (alone (meaning c)) ∙ s.is
  where
    by_test : (z : Bool) → element.is_zero c ≡ z → meaning (unwrap_or (if z then None else Some c) element.zero) ≡ meaning c
    by_test true t = element_interprets.zero-means ∙ sym (element_interprets.zero_is c k.all_valid.0 t)
    by_test false t = refl
constant_term-means (c ∷ (d ∷ p)) f k s = let short : length (c ∷ (d ∷ p)) ≤ 1 = s.short in absurd (omega (arith, short))

-- ---- quotients
pub valued-ok : {A : Type 0} (rule : Checked A) (a : A) → valued rule ≡ Ok a → rule ≡ Ok a
valued-ok (Ok b) a e = cc
valued-ok (Err stop) a e = absurd (cc)

map_ok-is : {A B : Type 0} (f : A → B) (rule : Checked A) (r : B) → map_ok f rule ≡ Ok r → (a : A) × ((rule ≡ Ok a) × (f a ≡ r))
map_ok-is f (Ok a) r h = (a, (refl, cc))
map_ok-is f (Err stop) r h = absurd (cc)

-- the divisor of a quotient that is formed
pub record IsRatio (p q r : List Element) : Type 0 where
  pub divisor : Element
  pub found : poly.nonzero element (slice_get q 0) ≡ Some divisor
  pub formed : divided p divisor ≡ Ok r

pub ratio-formed : (left : ℕ) (p q r : List Element) → ratio left p q ≡ Ok r → IsRatio p q r
unfolding ratio
ratio-formed left p q r h =
    cond_both (nat_le (length q) 1) (divided_by left p (poly.nonzero element (slice_get q 0))) (Err _) (λ (rule : Valued (List Element)). rule ≡ Ok r → IsRatio p q r)
    (λ short k. of (poly.nonzero element (slice_get q 0)) refl k) (λ long k. absurd (cc)) h
  where
    of : (c : Option Element) → poly.nonzero element (slice_get q 0) ≡ c → divided_by left p c ≡ Ok r → IsRatio p q r
    of None found k = absurd (cc)
    of (Some c) found k = record { divisor = c; found = found; formed = valued-ok (divided p c) r k }

-- it is the constant term, and not 0
pub record IsDivisor (q : List Element) (c : Element) : Type 0 where
  pub is : constant_term q ≡ c
  pub not_zero : element.is_zero c ≡ false

pub divisor-found : (q : List Element) (c : Element) → poly.nonzero element (slice_get q 0) ≡ Some c → IsDivisor q c
divisor-found [] c e = absurd (cc)
divisor-found (d ∷ q) c e = record { is = ap (λ o. unwrap_or o element.zero) e; not_zero = by_test (element.is_zero d) refl e }
  where
    by_test : (z : Bool) → element.is_zero d ≡ z → (if z then None else Some d) ≡ Some c → element.is_zero c ≡ false
    by_test true t k = absurd (cc)
    by_test false t k = let same : d ≡ c = cc in subst (λ (x : Element). element.is_zero x ≡ false) same t

pub divided-lies : (n : ℕ) (p r : List Element) (c : Element) → Lies n p → IsElement c → Within n c → element.is_zero c ≡ false → divided p c ≡ Ok r → Lies n r
unfolding divided
divided-lies n p r c a v w t h =
    cond_both (nat_le (length p) 1) (map_ok constant (element.quotient (constant_term p) c)) (by_inverse p c) (λ (rule : Checked (List Element)). rule ≡ Ok r → Lies n r)
    (λ short k. of_element (map_ok-is constant (element.quotient (constant_term p) c) r k)) (λ long k. of_polynomial k) h
  where
    of_element : (d : Element) × ((element.quotient (constant_term p) c ≡ Ok d) × (constant d ≡ r)) → Lies n r
    of_element (d, (k, i)) =
        subst (Lies n) i
        (constant-lies n d (quotient-is_element (constant_term p) c d (constant_term-is_element p a.kept) v t k) (quotient-element-within n (constant_term p) c d (constant_term-within n p a.within) w k))

    of_polynomial : by_inverse p c ≡ Ok r → Lies n r
    of_polynomial k =
        let two = and_then-ok (element.quotient element.one c) (λ u. poly.scaled element u p) r k in
        record {
          kept = Polynomials.scaled-is_polynomial two.value p r (quotient-is_element element.one c two.value one-is_element v t two.is) a.kept two.next;
          within = Inside.scaled-within n two.value p r (quotient-element-within n element.one c two.value (one-element-within n) w two.is) a.within two.next;
        }

pub divided-stands : (p r : List Element) (c : Element) (f : mean.Element) → IsPolynomial p → Stands p f → IsElement c → element.is_zero c ≡ false → divided p c ≡ Ok r → Stands r (f /ₑ meaning c)
unfolding divided
divided-stands p r c f l s v t h =
    cond_both (nat_le (length p) 1) (map_ok constant (element.quotient (constant_term p) c)) (by_inverse p c) (λ (rule : Checked (List Element)). rule ≡ Ok r → Stands r (f /ₑ meaning c))
    (λ short k. of_element (map_ok-is constant (element.quotient (constant_term p) c) r k))
    (λ long k. let short = s.short in absurd (omega (arith, short, leb-false (length p) 1 long))) h
  where
    of_element : (d : Element) × ((element.quotient (constant_term p) c ≡ Ok d) × (constant d ≡ r)) → Stands r (f /ₑ meaning c)
    of_element (d, (k, i)) =
        let valid = constant_term-is_element p l in
        subst (λ (q : List Element). Stands q (f /ₑ meaning c)) i
        (subst (Stands (constant d)) (quotient-is_ratio (constant_term p) c d valid v t k ∙ ap (λ g. g /ₑ meaning c) (constant_term-means p f l s))
        (constant-stands d (quotient-is_element (constant_term p) c d valid v t k)))

-- ---- powers
multiplied-lies : (n : ℕ) (formed p r : List Element) (k : ℕ) → Lies n formed → Lies n p → multiplied formed p k ≡ Ok r → Lies n r
multiplied-lies n formed p r nat_zero a b h = let is : formed ≡ r = cc in subst (Lies n) is a
multiplied-lies n formed p r (suc k) a b h =
    let two = and_then-ok (poly.product element formed p) (λ q. multiplied q p k) r h in
    multiplied-lies n two.value p r k (product-lies n formed p two.value a b two.is) b two.next

pub power-lies : (n : ℕ) (p r : List Element) (k : ℕ) → Lies n p → power_of p k ≡ Ok r → Lies n r
unfolding power_of
power-lies n p r nat_zero a h = let is : constant element.one ≡ r = cc in subst (Lies n) is (constant-lies n element.one one-is_element (one-element-within n))
power-lies n p r (suc k) a h = multiplied-lies n p p r k a a h

multiplied-stands : (formed p r : List Element) (g f : mean.Element) (k : ℕ) → IsPolynomial formed → IsPolynomial p → Stands formed g → Stands p f → multiplied formed p k ≡ Ok r → Stands r (g *ₑ (f ^ₑ k))
multiplied-stands formed p r g f nat_zero j l s t h =
    let is : formed ≡ r = cc in
    subst (λ (q : List Element). Stands q (g *ₑ (f ^ₑ nat_zero))) is
    (subst (Stands formed) (sym (mul-one g) ∙ ap (mul g) (sym (power-zero f))) s)
multiplied-stands formed p r g f (suc k) j l s t h =
    let two = and_then-ok (poly.product element formed p) (λ q. multiplied q p k) r h in
    let q = two.value in
    subst (Stands r) (mul_assoc g f (f ^ₑ k) ∙ ap (mul g) (sym (power-suc f k)))
    (multiplied-stands q p r (g *ₑ f) f k (Polynomials.product-is_polynomial formed p q j l two.is) l (product-stands formed p q g f j l s t two.is) t two.next)

pub power-stands : (p r : List Element) (f : mean.Element) (k : ℕ) → IsPolynomial p → Stands p f → power_of p k ≡ Ok r → Stands r (f ^ₑ k)
unfolding power_of
power-stands p r f nat_zero l s h =
    let is : constant element.one ≡ r = cc in
    subst (λ (q : List Element). Stands q (f ^ₑ nat_zero)) is
    (subst (Stands (constant element.one)) (element_interprets.one-means ∙ sym (power-zero f)) (constant-stands element.one one-is_element))
power-stands p r f (suc k) l s h = subst (Stands r) (sym (power-suc f k)) (multiplied-stands p p r f f k l l s s h)
