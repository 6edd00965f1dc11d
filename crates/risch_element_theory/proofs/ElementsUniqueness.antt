-- An element is determined by what it stands for: n(t)/m(t) = n'(t)/m'(t) only for n = n' and m = m', where both are in normal form.
use Rattle.std.proofs.Common.{◌≡◌, ◌<◌, ◌⊎◌, inl, inr, Bool, true, false, ◌&&◌, List, [], ◌∷◌, length, refl, sym, ◌∙◌, ap, ap₂, arith, subst}
use Rattle.risch_ring.specs.CommRing.{Field}
use Rattle.risch_ring.proofs.Laws as Laws
use Rattle.risch_univariate.specs.PolynomialRing.{polynomials}
use Rattle.risch_univariate.specs.Degree.{IsMonic}
use Rattle.risch_univariate.specs.Division.{Divides}
use Rattle.risch_univariate.proofs.Degree as Degree
use Rattle.risch_univariate.proofs.Divides as DividesLaws
use Rattle.risch_univariate.proofs.Gcd as Gcd
use Rattle.risch_field.specs.Ops.{Ops}
use Rattle.risch_polynomial.specs.Poly as poly
use Rattle.risch_level.specs.Over as level
use Rattle.risch_polynomial_theory.specs.Meaning.{value}
use Rattle.risch_level.specs.declared.over.Over.{Over}
use Rattle.risch_level.specs.declared.over.Over.TheVariants.{Below, Quotient}
use Rattle.risch_polynomial_theory.proofs.PolynomialValues as PolynomialValues
use Rattle.risch_element_theory.specs.PolynomialMeaning.{IsKept}
use Rattle.risch_element_theory.specs.ElementMeaning.{IsBelow, IsReduced, IsNormal, TellsOne, valid_over, meaning_over}
use Rattle.risch_element_theory.proofs.PolynomialRules as PolynomialRules
use Rattle.risch_element_theory.proofs.GcdRule as GcdRule
use Rattle.risch_element_theory.proofs.ElementsTranscendence as Transcendence
use Rattle.risch_element_theory.proofs.ElementsQuotients.{of, at-is, at-ne-zero, Over-of}
use Rattle.risch_element_theory.proofs.ElementsSums.{Is, below-represents, normal-represents}

module _ {E A : Type 0} (F : Field A) {o : Ops E} {valid : E → Type 0} {meaning : E → A} {P : A → Type 0} {t : A} (b : IsBelow F o valid meaning P t) where
  open (polynomials F) use {zero as 𝟘, one as 𝟙, add as ◌⊕◌, mul as ◌⊗◌, neg as ⊖◌}
  open F.ring use {add as ◌+◌, mul as ◌*◌}

  infixl 60 ◌⊕◌ ◌+◌
  infixl 70 ◌⊗◌ ◌*◌
  infix 80 ⊖◌
  -- p(t)
  abbrev at : List E → A
  at p = value F.ring meaning t p

  -- ⟦e⟧
  abbrev means : Over E → A
  means e = meaning_over F meaning t e

  abbrev Valid : Over E → Type 0
  Valid e = valid_over F o valid meaning e

  Over-product : (p q : List E) → IsKept o valid p → IsKept o valid q → Transcendence.Over F P b.is_closed (of F b p ⊗ of F b q)
  Over-product p q k l = Transcendence.Over-mul F P b.is_closed (of F b p) (of F b q) (Over-of F b p k.all_valid) (Over-of F b q l.all_valid)

  at-product_of : (p q : List E) → Transcendence.at F t (of F b p ⊗ of F b q) ≡ at p * at q
  at-product_of p q = Transcendence.at-mul F t (of F b p) (of F b q) ∙ ap₂ F.ring.mul (at-is F b p) (at-is F b q)

  -- n(t)/m(t) = n'(t)/m'(t) gives n·m' = n'·m in K[t]
  cross_products : (n m n' m' : List E) (x : A) → Is F b n m x → Is F b n' m' x → of F b n ⊗ of F b m' ≡ of F b n' ⊗ of F b m
  cross_products n m n' m' x r r' =
      Transcendence.same_of_value F P b.is_closed t b.transcendental (of F b n ⊗ of F b m') (of F b n' ⊗ of F b m)
      (Over-product n m' r.is_reduced.numerator_kept r'.is_reduced.denominator_kept) (Over-product n' m r'.is_reduced.numerator_kept r.is_reduced.denominator_kept)
      (at-product_of n m' ∙ ap (λ y. y * at m') (sym r.equation) ∙ Laws.mul_right_comm F.ring x (at m) (at m') ∙ ap (λ y. y * at m) r'.equation ∙ sym (at-product_of n' m))

  monic : (n m : List E) → IsReduced F o valid meaning n m → IsMonic F (of F b m)
  monic n m r = GcdRule.leading_coefficient-polynomial_of F b.interprets m r.denominator_kept ∙ r.is_monic

  -- m | m'
  denominator-divides : (n m n' m' : List E) (x : A) → Is F b n m x → Is F b n' m' x → Divides F (of F b m) (of F b m')
  denominator-divides n m n' m' x r r' =
      Gcd.coprime-divides_of_mul F (of F b m) (of F b n) (of F b m') (Gcd.coprime_sym F (of F b n) (of F b m) r.is_reduced.is_coprime)
      (subst (Divides F (of F b m)) (sym (cross_products n m n' m' x r r')) (DividesLaws.divides-mul F (of F b n') (of F b m)))

  same_denominator : (n m n' m' : List E) (x : A) → Is F b n m x → Is F b n' m' x → of F b m ≡ of F b m'
  same_denominator n m n' m' x r r' =
      Gcd.monic_antisymm F (of F b m) (of F b m') (monic n m r.is_reduced) (monic n' m' r'.is_reduced) (denominator-divides n m n' m' x r r') (denominator-divides n' m' n m x r' r)

  same_numerator : (n m n' m' : List E) (x : A) → Is F b n m x → Is F b n' m' x → of F b n ≡ of F b n'
  same_numerator n m n' m' x r r' =
      Degree.mul_polynomials_cancel F (of F b m) (of F b n) (of F b n') (Gcd.monic-nonzero F (of F b m) (monic n m r.is_reduced))
      ((polynomials F).mul_comm (of F b m) (of F b n) ∙ ap (λ p. of F b n ⊗ p) (same_denominator n m n' m' x r r') ∙ cross_products n m n' m' x r r' ∙ (polynomials F).mul_comm (of F b n') (of F b m))

  -- the numerators are the same lists, and so are the denominators
  pub represents_unique : (n m n' m' : List E) (x : A) → Is F b n m x → Is F b n' m' x → (n ≡ n') × (m ≡ m')
  represents_unique n m n' m' x r r' = (
    PolynomialRules.polynomial_of-injective F b.interprets n n' r.is_reduced.numerator_kept r'.is_reduced.numerator_kept (same_numerator n m n' m' x r r'),
    PolynomialRules.polynomial_of-injective F b.interprets m m' r.is_reduced.denominator_kept r'.is_reduced.denominator_kept (same_denominator n m n' m' x r r'),
  )

  -- ---- the test of 0
  -- n(t)/m(t) ≠ 0
  quotient-ne-zero : (n m : List E) → IsNormal F o valid meaning n m → ¬ (means (Quotient (n, m)) ≡ F.ring.zero)
  quotient-ne-zero n m k e =
      at-ne-zero F b n k.is_reduced.numerator_kept k.numerator-ne-zero
      (sym (normal-represents F b n m k.is_reduced).equation ∙ ap (λ x. x * at m) e ∙ Laws.zero-mul F.ring (at m))

  -- the test of 0 tells the truth
  pub zero_is : (e : Over E) → Valid e → level.is_zero o e ≡ true → means e ≡ F.ring.zero
  zero_is (Below c) v z = b.interprets.zero_is c v z
  zero_is (Quotient r) v z = cc

  -- .. and does not miss 0
  pub zero_if : (e : Over E) → Valid e → means e ≡ F.ring.zero → level.is_zero o e ≡ true
  zero_if (Below c) v z = b.interprets.zero_if c v z
  zero_if (Quotient r) v z = absurd (quotient-ne-zero r.0 r.1 v z)

  -- ---- different elements stand for different ones
  -- no quotient stands for an element of the level below
  below_no_quotient : (c : E) (n m : List E) → valid c → IsNormal F o valid meaning n m → ¬ (meaning c ≡ means (Quotient (n, m)))
  below_no_quotient c n m v k e = by_zero (o.is_zero c) refl
    where
      short : (n ≡ c ∷ []) × (m ≡ o.one ∷ []) → (1 < length n) ⊎ (1 < length m) → ⊥
      short e (inl l) = let s : length n ≡ 1 = ap length e.0 in omega arith
      short e (inr l) = let s : length m ≡ 1 = ap length e.1 in omega arith

      by_zero : (z : Bool) → o.is_zero c ≡ z → ⊥
      by_zero true z = quotient-ne-zero n m k (sym e ∙ b.interprets.zero_is c v z)
      by_zero false z =
          short (represents_unique n m (c ∷ []) (o.one ∷ []) (means (Quotient (n, m))) (normal-represents F b n m k.is_reduced) (subst (Is F b (c ∷ []) (o.one ∷ [])) e (below-represents F b c v z)))
          k.variable_occurs

  -- ⟦p⟧ = ⟦q⟧ gives p = q
  pub injective : (p q : Over E) → Valid p → Valid q → means p ≡ means q → p ≡ q
  injective (Below c) (Below d) v w e = ap Below (b.interprets.injective c d v w e)
  injective (Below c) (Quotient s) v w e = absurd (below_no_quotient c s.0 s.1 v w e)
  injective (Quotient r) (Below d) v w e = absurd (below_no_quotient d r.0 r.1 w v (sym e))
  injective (Quotient r) (Quotient s) v w e =
      let both = represents_unique r.0 r.1 s.0 s.1 (means (Quotient s)) (subst (Is F b r.0 r.1) e (normal-represents F b r.0 r.1 v.is_reduced)) (normal-represents F b s.0 s.1 w.is_reduced) in
      ap₂ (λ n m. Quotient (n, m)) both.0 both.1

  -- ---- the tests of equality and of 1
  and-true : (x y : Bool) → (x && y) ≡ true → (x ≡ true) × (y ≡ true)
  and-true true y e = (refl, e)
  and-true false y e = cc

  -- the test of equality tells the truth
  pub same_is : (p q : Over E) → Valid p → Valid q → level.same o p q ≡ true → p ≡ q
  same_is (Below c) (Below d) v w e = ap Below (b.interprets.same_is c d v w e)
  same_is (Below c) (Quotient s) v w e = cc
  same_is (Quotient r) (Below d) v w e = cc
  same_is (Quotient r) (Quotient s) v w e =
      let both = and-true (poly.same o r.0 s.0) (poly.same o r.1 s.1) e in
      ap₂ (λ n m. Quotient (n, m))
      (PolynomialValues.same-means b.interprets r.0 s.0 v.is_reduced.numerator_kept.all_valid w.is_reduced.numerator_kept.all_valid both.0)
      (PolynomialValues.same-means b.interprets r.1 s.1 v.is_reduced.denominator_kept.all_valid w.is_reduced.denominator_kept.all_valid both.1)

  same_itself : (p : Over E) → Valid p → level.same o p p ≡ true
  same_itself (Below c) v = b.interprets.same_if c c v v refl
  same_itself (Quotient r) v = rw (PolynomialValues.same_if b.interprets r.0 v.is_reduced.numerator_kept.all_valid, PolynomialValues.same_if b.interprets r.1 v.is_reduced.denominator_kept.all_valid) refl

  -- .. and does not miss equal elements
  pub same_if : (p q : Over E) → Valid p → Valid q → p ≡ q → level.same o p q ≡ true
  same_if p q v w e = subst (λ q. level.same o p q ≡ true) e (same_itself p v)

  one_is : (e : Over E) → Valid e → level.is_one o e ≡ true → means e ≡ F.ring.one
  one_is (Below c) v u = b.tells_one.one_is c v u
  one_is (Quotient r) v u = cc

  one_if : (e : Over E) → Valid e → means e ≡ F.ring.one → level.is_one o e ≡ true
  one_if (Below c) v u = b.tells_one.one_if c v u
  one_if (Quotient r) v u = absurd (below_no_quotient o.one r.0 r.1 b.interprets.one-valid v (b.interprets.one-means ∙ sym u))

  -- the test of 1 tells the truth
  pub over_tells_one : TellsOne F (level.over o) (valid_over F o valid meaning) (meaning_over F meaning t)
  over_tells_one = record { one_is = one_is; one_if = one_if }
