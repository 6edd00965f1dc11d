-- The rules on polynomials give polynomials within the limits: the last coefficient is not 0, the degree at most 255, the weight at most 65536.
use Rattle.std.specs.Prelude.{if◌then◌else◌, nat_le}
use Rattle.std.proofs.Common.{◌≡◌, ℕ, ◌+◌, ◌-◌, Bool, true, false, ◌&&◌, ◌||◌, List, [], ◌∷◌, ◌++◌, length, replicate, drop, Ok, Err, refl, arith, subst}
use Rattle.std.proofs.lemmas.Bool.{leb-true}
use Rattle.risch_field.specs.Checked.{and_then}
use Rattle.risch_field.specs.Ops.{Ops}
use Rattle.risch_polynomial.specs.Poly as poly
use Rattle.risch_polynomial.specs.Polynomial.{IsPolynomial}
use Rattle.risch_field.specs.declared.Fail.TheVariants.{Size}
use Rattle.risch_field.proofs.CheckedSteps.{and_then-ok, if-then}
use Rattle.risch_polynomial.proofs.CoefficientLists.{trimmed-fixed}

module _ {E : Type 0} (o : Ops E) where
  pub zero-polynomial : IsPolynomial o [] 0
  zero-polynomial = record { ends_not_zero = refl; weight_is = refl; weight_small = omega arith; degree_small = omega arith }

  within : (p r : List E) (degree weight : Bool) → nat_le (length p) 256 ≡ degree → nat_le (poly.weight o p) 65536 ≡ weight → poly.trimmed o p ≡ p →
      (if degree && weight then Ok p else Err Size) ≡ Ok r → IsPolynomial o r (poly.weight o r)
  within p r true true d w t e =
      let is : p ≡ r = cc in
      subst (λ r. IsPolynomial o r (poly.weight o r)) is
      (record { ends_not_zero = t; weight_is = refl; weight_small = leb-true (poly.weight o p) 65536 w; degree_small = leb-true (length p) 256 d })
  within p r true false d w t e = cc
  within p r false weight d w t e = cc

  pub formed-polynomial : (s r : List E) → poly.sized o (poly.trimmed o s) ≡ Ok r → IsPolynomial o r (poly.weight o r)
  formed-polynomial s r e =
      let p = poly.trimmed o s in
      within p r (nat_le (length p) 256) (nat_le (poly.weight o p) 65536) refl refl (trimmed-fixed o s p refl) e

  pub sum-polynomial : (p q r : List E) → poly.sum o p q ≡ Ok r → IsPolynomial o r (poly.weight o r)
  unfolding poly.sum
  sum-polynomial p q r e = let s = and_then-ok (poly.sum_onto o [] p q) (λ s. poly.sized o (poly.trimmed o s)) r e in formed-polynomial s.value r s.next

  pub scaled-polynomial : (c : E) (p r : List E) → poly.scaled o c p ≡ Ok r → IsPolynomial o r (poly.weight o r)
  unfolding poly.scaled
  scaled-polynomial c p r e = let s = and_then-ok (poly.scaled_onto o [] c p) (λ s. poly.sized o (poly.trimmed o s)) r e in formed-polynomial s.value r s.next

  pub partial-polynomial : (p r : List E) → poly.partial o p ≡ Ok r → IsPolynomial o r (poly.weight o r)
  unfolding poly.partial
  partial-polynomial p r e =
      let s = and_then-ok (poly.multiples_onto o [] 1 (drop 1 p)) (λ s. poly.sized o (poly.trimmed o s)) r e in formed-polynomial s.value r s.next

  zero_is_formed : (r : List E) → [] ≡ r → IsPolynomial o r (poly.weight o r)
  zero_is_formed r is = subst (λ r. IsPolynomial o r (poly.weight o r)) is zero-polynomial

  pub product-polynomial : (p q r : List E) → poly.product o p q ≡ Ok r → IsPolynomial o r (poly.weight o r)
  unfolding poly.product
  product-polynomial p q r e = by_zero (poly.is_zero o p || poly.is_zero o q) e
    where
      by_zero : (z : Bool) → (if z then Ok [] else if nat_le (length p + length q) 257 then and_then (poly.rows o (replicate (length p + length q - 1) o.zero) 0 p q) (λ r. poly.sized o (poly.trimmed o r)) else Err Size) ≡ Ok r →
          IsPolynomial o r (poly.weight o r)
      by_zero true e = let is : [] ≡ r = cc in zero_is_formed r is
      by_zero false e =
          let rows = poly.rows o (replicate (length p + length q - 1) o.zero) 0 p q in
          let s = and_then-ok rows (λ r. poly.sized o (poly.trimmed o r)) r (if-then (nat_le (length p + length q) 257) (and_then rows (λ r. poly.sized o (poly.trimmed o r))) r e) in
          formed-polynomial s.value r s.next

  pub monomial-polynomial : (c : E) (e : ℕ) (r : List E) → poly.monomial o c e ≡ Ok r → IsPolynomial o r (poly.weight o r)
  unfolding poly.monomial
  monomial-polynomial c e r is = by_zero (o.is_zero c) is
    where
      by_zero : (z : Bool) → (if z then Ok [] else if nat_le e 255 then poly.sized o (poly.trimmed o (replicate e o.zero ++ c ∷ [])) else Err Size) ≡ Ok r → IsPolynomial o r (poly.weight o r)
      by_zero true is = let none : [] ≡ r = cc in zero_is_formed r none
      by_zero false is = formed-polynomial (replicate e o.zero ++ c ∷ []) r (if-then (nat_le e 255) (poly.sized o (poly.trimmed o (replicate e o.zero ++ c ∷ []))) r is)

  pub monic-polynomial : (p r : List E) → poly.monic o p ≡ Ok r → IsPolynomial o r (poly.weight o r)
  unfolding poly.monic
  monic-polynomial p r e = by_zero (poly.is_zero o p) e
    where
      by_zero : (z : Bool) → (if z then Ok [] else and_then (o.quotient o.one (poly.last o p)) (λ u. and_then (poly.scaled_onto o [] u (poly.front o p)) (λ r. poly.sized o (poly.trimmed o (r ++ o.one ∷ []))))) ≡ Ok r →
          IsPolynomial o r (poly.weight o r)
      by_zero true e = let is : [] ≡ r = cc in zero_is_formed r is
      by_zero false e =
          let u = and_then-ok (o.quotient o.one (poly.last o p)) (λ u. and_then (poly.scaled_onto o [] u (poly.front o p)) (λ r. poly.sized o (poly.trimmed o (r ++ o.one ∷ [])))) r e in
          let s = and_then-ok (poly.scaled_onto o [] u.value (poly.front o p)) (λ r. poly.sized o (poly.trimmed o (r ++ o.one ∷ []))) r u.next in
          formed-polynomial (s.value ++ o.one ∷ []) r s.next
