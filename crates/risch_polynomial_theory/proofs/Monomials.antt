-- A sum with a monomial at an exponent where the other polynomial has the coefficient 0 puts its coefficient there, and always has a value.
use Rattle.std.specs.Prelude.{if◌then◌else◌, nat_le, fold}
use Rattle.std.proofs.Common.{◌≡◌, ℕ, zero, suc, ◌+◌, ◌≤◌, Bool, true, false, List, [], ◌∷◌, ◌++◌, length, replicate, max, Ok, refl, sym, ◌∙◌, ap, arith, append_assoc}
use Rattle.std.proofs.lemmas.Bool.{le-leb}
use Rattle.risch_ring.specs.CommRing.{CommRing}
use Rattle.risch_frac.specs.Fraction.{Fraction, IsLowest, is_zero}
use Rattle.risch_frac.proofs.Units.{sum-zero_left, sum-zero_right, product-zero_left, product-zero_right, product-one_left, product-one_right}
use Rattle.risch_field.specs.Checked.{and_then}
use Rattle.risch_field.specs.Ops.{Ops}
use Rattle.risch_field.specs.Ground.{ground, overflowing}
use Rattle.risch_polynomial.specs.Poly as poly
use Rattle.risch_polynomial_theory.specs.Replaced.{replaced}
use Rattle.risch_polynomial_theory.specs.Meaning.{Interprets, HasUnits, AllValid}
use Rattle.risch_polynomial_theory.proofs.FractionValues.{ground_means}

pub ground_has_units : HasUnits ground IsLowest
ground_has_units = record {
  sum-zero_left = λ p l. ap overflowing (sum-zero_left p l);
  sum-zero_right = λ p l. ap overflowing (sum-zero_right p l);
  product-zero_left = λ p l. ap overflowing (product-zero_left p l);
  product-zero_right = λ p l. ap overflowing (product-zero_right p l);
  product-one_left = λ p l. ap overflowing (product-one_left p l);
  product-one_right = λ p l. ap overflowing (product-one_right p l);
}

module _ {E : Type 0} (o : Ops E) where
  pub replaced-nil : (e : ℕ) (c : E) → replicate e o.zero ++ c ∷ [] ≡ replaced o [] e c
  replaced-nil zero c = refl
  replaced-nil (suc e) c = ap (λ p. o.zero ∷ p) (replaced-nil e c)

  pub length-replaced : (p : List E) (e : ℕ) (c : E) → length (replaced o p e c) ≡ max (length p) (e + 1)
  length-replaced [] zero c = refl
  length-replaced [] (suc e) c = let others = length-replaced [] e c in omega arith
  length-replaced (a ∷ p) zero c = omega arith
  length-replaced (a ∷ p) (suc e) c = let others = length-replaced p e c in omega arith

  -- where c is not 0, zeros at the end come no more
  leading-some : (a b : E) (p q : List E) → q ≡ b ∷ p → poly.leading o a q ≡ a ∷ q
  leading-some a b p q e = rw e refl

  replaced-some : (p : List E) (e : ℕ) (c : E) → (b : E) × (q : List E) × (replaced o p e c ≡ b ∷ q)
  replaced-some [] zero c = (c, [], refl)
  replaced-some [] (suc e) c = (o.zero, replaced o [] e c, refl)
  replaced-some (a ∷ p) zero c = (c, p, refl)
  replaced-some (a ∷ p) (suc e) c = (a, replaced o p e c, refl)

  trimmed-tail : (a : E) (p : List E) → poly.trimmed o (a ∷ p) ≡ a ∷ p → poly.trimmed o p ≡ p
  trimmed-tail a p e = by_rest (poly.trimmed o p) refl
    where
      by_rest : (q : List E) → poly.trimmed o p ≡ q → q ≡ p
      by_rest [] h = by_zero (o.is_zero a) (sym (ap (poly.leading o a) h) ∙ e)
        where
          by_zero : (z : Bool) → (if z then [] else a ∷ []) ≡ a ∷ p → [] ≡ p
          by_zero true e = cc
          by_zero false e = cc
      by_rest (b ∷ q) h = let whole : a ∷ b ∷ q ≡ a ∷ p = sym (ap (poly.leading o a) h) ∙ e in cc

  pub trimmed-replaced : (p : List E) (e : ℕ) (c : E) → poly.trimmed o p ≡ p → o.is_zero c ≡ false → poly.trimmed o (replaced o p e c) ≡ replaced o p e c
  trimmed-replaced [] zero c t n = rw n refl
  trimmed-replaced [] (suc e) c t n =
      let some = replaced-some [] e c in
      ap (poly.leading o o.zero) (trimmed-replaced [] e c refl n) ∙ leading-some o.zero some.0 some.1 (replaced o [] e c) some.2
  trimmed-replaced (a ∷ []) zero c t n = rw n refl
  trimmed-replaced (a ∷ (b ∷ p)) zero c t n = ap (poly.leading o c) (trimmed-tail a (b ∷ p) t)
  trimmed-replaced (a ∷ p) (suc e) c t n =
      let some = replaced-some p e c in
      ap (poly.leading o a) (trimmed-replaced p e c (trimmed-tail a p t) n) ∙ leading-some a some.0 some.1 (replaced o p e c) some.2

  pub sum_onto-nil : (formed p : List E) → poly.sum_onto o formed p [] ≡ Ok (formed ++ p)
  sum_onto-nil formed [] = refl
  sum_onto-nil formed (a ∷ p) = refl

module _ {E A : Type 0} {o : Ops E} {R : CommRing A} {valid : E → Type 0} {meaning : E → A} (h : Interprets o R valid meaning) (u : HasUnits o valid) where
  -- a valid element that is 0 is the element 0
  pub zero_unique : (e : E) → valid e → o.is_zero e ≡ true → e ≡ o.zero
  zero_unique e v z = h.injective e o.zero v h.zero-valid (h.zero_is e v z ∙ sym h.zero-means)

  sum-zero_at : (a c : E) → valid a → valid c → o.is_zero a ≡ true → o.sum a c ≡ Ok c
  sum-zero_at a c va vc z = ap (λ b. o.sum b c) (zero_unique a va z) ∙ u.sum-zero_left c vc

  sum_onto-monomial : (formed p : List E) (e : ℕ) (c : E) → AllValid valid p → valid c → o.is_zero (poly.coefficient o p e) ≡ true →
      poly.sum_onto o formed p (replicate e o.zero ++ c ∷ []) ≡ Ok (formed ++ replaced o p e c)
  sum_onto-monomial formed [] e c all v z = ap (λ q. Ok (formed ++ q)) (replaced-nil o e c)
  sum_onto-monomial formed (a ∷ p) zero c all v z =
      ap (λ x. and_then x (λ s. poly.sum_onto o (formed ++ s ∷ []) p [])) (sum-zero_at a c all.0 v z) ∙ sum_onto-nil o (formed ++ c ∷ []) p ∙ ap Ok (append_assoc formed (c ∷ []) p)
  sum_onto-monomial formed (a ∷ p) (suc e) c all v z =
      ap (λ x. and_then x (λ s. poly.sum_onto o (formed ++ s ∷ []) p (replicate e o.zero ++ c ∷ []))) (u.sum-zero_right a all.0)
      ∙ sum_onto-monomial (formed ++ a ∷ []) p e c all.1 v z ∙ ap Ok (append_assoc formed (a ∷ []) (replaced o p e c))

-- ---- over the fractions, where each coefficient that is not 0 weighs 1
weight_in-small : (c : Fraction) → poly.weight_in ground c ≤ 1
weight_in-small c = by_zero (is_zero c)
  where
    by_zero : (z : Bool) → (if z then 0 else 1) ≤ 1
    by_zero true = omega arith
    by_zero false = omega arith

weight_from-small : (a : ℕ) (p : List Fraction) → fold (λ w c. w + poly.weight_in ground c) a p ≤ a + length p
weight_from-small a [] = omega arith
weight_from-small a (c ∷ p) = let one = weight_in-small c in let others = weight_from-small (a + poly.weight_in ground c) p in omega arith

-- the number of the coefficients bounds the weight
pub weight-small : (p : List Fraction) → poly.weight ground p ≤ length p
weight-small p = let all = weight_from-small 0 p in omega arith

pub sized-small : (p : List Fraction) → length p ≤ 256 → poly.sized ground p ≡ Ok p
sized-small p small =
    let bound = weight-small p in
    let degree : nat_le (length p) 256 ≡ true = le-leb (length p) 256 small in
    let weight : nat_le (poly.weight ground p) 65536 ≡ true = le-leb (poly.weight ground p) 65536 (omega arith) in
    rw (degree, weight) refl

pub formed-small : (p q : List Fraction) → poly.trimmed ground p ≡ q → length q ≤ 256 → poly.sized ground (poly.trimmed ground p) ≡ Ok q
formed-small p q t small = ap (poly.sized ground) t ∙ sized-small q small

-- c·t^e for c other than 0
pub monomial-is : (c : Fraction) (e : ℕ) → is_zero c ≡ false → e ≤ 255 → poly.monomial ground c e ≡ Ok (replaced ground [] e c)
unfolding poly.monomial
monomial-is c e n small =
    let degree : nat_le e 255 ≡ true = le-leb e 255 small in
    let length_is = length-replaced ground [] e c in
    rw (n, degree)
    (ap (λ q. poly.sized ground (poly.trimmed ground q)) (replaced-nil ground e c)
    ∙ formed-small (replaced ground [] e c) (replaced ground [] e c) (trimmed-replaced ground [] e c refl n) (omega arith))

-- p + c·t^e where p has the coefficient 0 at e
pub sum-monomial : (p : List Fraction) (c : Fraction) (e : ℕ) → AllValid IsLowest p → IsLowest c → is_zero c ≡ false → poly.trimmed ground p ≡ p → length p ≤ 256 → e ≤ 255 →
    is_zero (poly.coefficient ground p e) ≡ true → poly.sum ground p (replaced ground [] e c) ≡ Ok (replaced ground p e c)
unfolding poly.sum
sum-monomial p c e all l n t degree small z =
    let length_is = length-replaced ground p e c in
    ap (λ q. and_then (poly.sum_onto ground [] p q) (λ r. poly.sized ground (poly.trimmed ground r))) (sym (replaced-nil ground e c))
    ∙ ap (λ s. and_then s (λ r. poly.sized ground (poly.trimmed ground r))) (sum_onto-monomial ground_means ground_has_units [] p e c all l z)
    ∙ formed-small (replaced ground p e c) (replaced ground p e c) (trimmed-replaced ground p e c t n) (omega arith)

-- p + 0
pub sum-nothing : (p : List Fraction) → poly.trimmed ground p ≡ p → length p ≤ 256 → poly.sum ground p [] ≡ Ok p
unfolding poly.sum
sum-nothing p t degree = ap (λ s. and_then s (λ r. poly.sized ground (poly.trimmed ground r))) (sum_onto-nil ground [] p) ∙ formed-small p p t degree
