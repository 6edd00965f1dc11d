-- The element n/m of a level for coprime n and m with m monic: it stands for n(t)/m(t).
use Rattle.std.specs.Prelude.{nat_le, if◌then◌else◌}
use Rattle.std.proofs.Common.{◌≡◌, ◌+◌, ◌-◌, ◌<◌, ◌≤◌, Bool, true, false, ◌&&◌, List, [], ◌∷◌, map, length, Ok, inl, inr, ◌⊎◌, refl, sym, ◌∙◌, ap, ap₂, arith, subst}
use Rattle.std.proofs.lemmas.Bool.{leb-true, leb-false}
use native.Mathlib.Decide.{dec_lt}
use Rattle.risch_ring.specs.CommRing.{Field}
use Rattle.risch_ring.specs.Lists.{Each}
use Rattle.risch_ring.proofs.Laws as Laws
use Rattle.risch_ring.proofs.FieldLaws as FieldLaws
use Rattle.risch_univariate.specs.Polynomial.{Polynomial, constant, variable}
use Rattle.risch_univariate.specs.PolynomialRing.{polynomials}
use Rattle.risch_univariate.specs.Division.{Divides}
use Rattle.risch_univariate.proofs.Degree as Degree
use Rattle.risch_univariate.proofs.Divides as DividesLaws
use Rattle.risch_univariate.proofs.Evaluation as Evaluation
use Rattle.risch_univariate.proofs.Gcd as Gcd
use Rattle.risch_field.specs.Ops.{Ops}
use Rattle.risch_polynomial.specs.Poly as poly
use Rattle.risch_level.specs.Over as level
use Rattle.risch_polynomial_theory.specs.Meaning.{AllValid, value}
use Rattle.risch_level.specs.declared.over.Over.{Over}
use Rattle.risch_level.specs.declared.over.Over.TheVariants.{Below, Quotient}
use Rattle.risch_field.proofs.CheckedSteps.{if-ok}
use Rattle.risch_polynomial_theory.proofs.PolynomialValues as PolynomialValues
use Rattle.risch_element_theory.specs.PolynomialMeaning.{IsKept, polynomial_of}
use Rattle.risch_element_theory.specs.ElementMeaning.{IsBelow, IsReduced, valid_over, meaning_over}
use Rattle.risch_element_theory.proofs.PolynomialRules as PolynomialRules
use Rattle.risch_element_theory.proofs.DivisionRule as DivisionRule
use Rattle.risch_element_theory.proofs.ElementsTranscendence as Transcendence

-- e is valid, and ⟦e⟧·m(t) = n(t)
pub record Stands {E A : Type 0} (F : Field A) (o : Ops E) (valid : E → Type 0) (meaning : E → A) (t : A) (n m : List E) (e : Over E) : Type 0 where
  pub is_valid : valid_over F o valid meaning e
  pub means : F.ring.mul (meaning_over F meaning t e) (value F.ring meaning t m) ≡ value F.ring meaning t n

module _ {E A : Type 0} (F : Field A) {o : Ops E} {valid : E → Type 0} {meaning : E → A} {P : A → Type 0} {t : A} (b : IsBelow F o valid meaning P t) where
  open (polynomials F) use {zero as 𝟘, one as 𝟙, add as ◌⊕◌, mul as ◌⊗◌, neg as ⊖◌}

  infixl 60 ◌⊕◌
  infixl 70 ◌⊗◌
  infix 80 ⊖◌
  -- ⟦p⟧
  abbrev pub of : List E → Polynomial F
  of p = polynomial_of F meaning p

  -- p(t)
  abbrev at : List E → A
  at p = value F.ring meaning t p

  abbrev Kept : List E → Type 0
  Kept p = IsKept o valid p

  abbrev Reduced : List E → List E → Type 0
  Reduced n m = IsReduced F o valid meaning n m

  abbrev Gives : List E → List E → Over E → Type 0
  Gives n m e = Stands F o valid meaning t n m e

  -- ⟦p⟧(t) = p(t)
  pub at-is : (p : List E) → Transcendence.at F t (of p) ≡ at p
  unfolding polynomial_of
  at-is p = Transcendence.at-of_list F t (map meaning p)

  Each-meanings : (p : List E) → AllValid valid p → Each P (map meaning p)
  Each-meanings [] all = tt
  Each-meanings (c ∷ p) all = (b.lies c all.0, Each-meanings p all.1)

  -- the coefficients of ⟦p⟧ are those of the field below
  pub Over-of : (p : List E) → AllValid valid p → Transcendence.Over F P b.is_closed (of p)
  unfolding polynomial_of
  Over-of p all = Transcendence.Over-of_list F P b.is_closed (map meaning p) (Each-meanings p all)

  -- p(t) ≠ 0 for p ≠ 0
  pub at-ne-zero : (p : List E) → Kept p → ¬ (p ≡ []) → ¬ (at p ≡ F.ring.zero)
  at-ne-zero p k n e =
      DivisionRule.polynomial_of-nonzero F b.interprets p k n (Transcendence.zero_of_value F P b.is_closed t b.transcendental (of p) (Over-of p k.all_valid) (at-is p ∙ e))

  -- an identity of K[t] holds at t
  pub at-product : (p q r : List E) → of r ≡ of p ⊗ of q → at r ≡ F.ring.mul (at p) (at q)
  at-product p q r e = sym (at-is r) ∙ ap (Transcendence.at F t) e ∙ Transcendence.at-mul F t (of p) (of q) ∙ ap₂ F.ring.mul (at-is p) (at-is q)

  -- ---- the polynomial 1
  polynomial_of-one : (c : E) → of (c ∷ []) ≡ constant F (meaning c)
  polynomial_of-one c =
      PolynomialRules.polynomial_of-cons F b.interprets c [] ∙ ap (λ p. constant F (meaning c) ⊕ variable F ⊗ p) (PolynomialRules.polynomial_of-nil F b.interprets)
      ∙ Evaluation.horner-constant F (meaning c)

  -- the test of the polynomial 1 tells the truth
  pub one_is : (p : List E) → AllValid valid p → poly.is_one o p ≡ true → of p ≡ 𝟙
  one_is [] all e = cc
  one_is (c ∷ []) all e = polynomial_of-one c ∙ ap (constant F) (b.tells_one.one_is c all.0 e) ∙ Degree.constant-one F
  one_is (c ∷ (d ∷ p)) all e = cc

  -- a list of one coefficient or none
  at-short : (p : List E) → length p ≤ 1 → at p ≡ meaning (poly.coefficient o p 0)
  at-short [] short = sym b.interprets.zero-means
  at-short (c ∷ []) short = ap (F.ring.add (meaning c)) (Laws.mul-zero F.ring t) ∙ F.ring.add-zero (meaning c)
  at-short (c ∷ (d ∷ p)) short = absurd (omega arith)

  not_nil : (p : List E) → 0 < length p → ¬ (p ≡ [])
  not_nil p some e = let n : length p ≡ 0 = ap length e in omega arith

  some_length : (p : List E) → ¬ (p ≡ []) → 0 < length p
  some_length [] n = absurd (n refl)
  some_length (c ∷ p) n = omega arith

  one_if-short : (p : List E) → length p ≡ 1 → valid (poly.last o p) → meaning (poly.last o p) ≡ F.ring.one → poly.is_one o p ≡ true
  one_if-short [] l v e = absurd (omega arith)
  one_if-short (c ∷ []) l v e = b.tells_one.one_if c v e
  one_if-short (c ∷ (d ∷ p)) l v e = absurd (omega arith)

  -- the last coefficient is valid
  pub last-valid : (p : List E) → AllValid valid p → valid (poly.last o p)
  last-valid p all = PolynomialValues.coefficient-valid b.interprets p (length p - 1) all

  -- a monic polynomial of degree 0 is 1
  one_if : (n m : List E) → Reduced n m → length m ≤ 1 → poly.is_one o m ≡ true
  one_if n m r short =
      let some = some_length m r.denominator-ne-zero in
      one_if-short m (omega arith) (last-valid m r.denominator_kept.all_valid) r.is_monic

  denominator-ne-zero : (n m : List E) → Reduced n m → ¬ (of m ≡ 𝟘)
  denominator-ne-zero n m r = DivisionRule.polynomial_of-nonzero F b.interprets m r.denominator_kept r.denominator-ne-zero

  -- 0/m is reduced only for m = 1
  zero_numerator : (n m : List E) → Reduced n m → n ≡ [] → poly.is_one o m ≡ true
  zero_numerator n m r e =
      one_if n m r
      (let s = Gcd.size_of_unit F (of m) (Gcd.coprime-common_divisor F (of n) (of m) (of m) r.is_coprime (subst (Divides F (of m)) (sym (ap of e ∙ PolynomialRules.polynomial_of-nil F b.interprets)) (DividesLaws.divides-zero F (of m))) (DividesLaws.divides_refl F (of m))) in
      let l = PolynomialRules.size-polynomial_of F b.interprets m r.denominator_kept in
      omega (arith, s, l))

  -- ---- the element n/m
  whole-stands : (n m : List E) → Reduced n m → poly.is_one o m ≡ true → length n ≤ 1 → Gives n m (Below (poly.coefficient o n 0))
  whole-stands n m r one short = record {
    is_valid = PolynomialValues.coefficient-valid b.interprets n 0 r.numerator_kept.all_valid;
    means =
        ap (F.ring.mul (meaning (poly.coefficient o n 0))) (sym (at-is m) ∙ ap (Transcendence.at F t) (one_is m r.denominator_kept.all_valid one) ∙ Transcendence.at-one F t)
        ∙ F.ring.mul-one (meaning (poly.coefficient o n 0)) ∙ sym (at-short n short);
  }

  quotient-stands : (n m : List E) → Reduced n m → ¬ (n ≡ []) → (1 < length n) ⊎ (1 < length m) → Gives n m (Quotient (n, m))
  quotient-stands n m r some occurs = record {
    is_valid = record { is_reduced = r; numerator-ne-zero = some; variable_occurs = occurs };
    means = FieldLaws.quotient-mul F (at n) (at m) (at-ne-zero m r.denominator_kept r.denominator-ne-zero);
  }

  -- the rule of n/m stands for n(t)/m(t)
  pub element-stands : (n m : List E) (e : Over E) → Reduced n m → level.element o n m ≡ Ok e → Gives n m e
  unfolding level.element
  element-stands n m e r is = by_tests (poly.is_one o m) (nat_le (length n) 1) refl refl is
    where
      formed : (e' : Over E) → e' ≡ e → Gives n m e' → Gives n m e
      formed e' same g = subst (Gives n m) same g

      by_tests : (one short : Bool) → poly.is_one o m ≡ one → nat_le (length n) 1 ≡ short → (if one && short then Ok (Below (poly.coefficient o n 0)) else level.ratio o n m) ≡ Ok e → Gives n m e
      by_tests true true one short is =
          let same : Below (poly.coefficient o n 0) ≡ e = cc in
          formed (Below (poly.coefficient o n 0)) same (whole-stands n m r one (leb-true (length n) 1 short))
      by_tests true false one short is =
          let long = leb-false (length n) 1 short in
          formed (Quotient (n, m)) (if-ok (nat_le (poly.weight o n + poly.weight o m) 65536) (Quotient (n, m)) e is) (quotient-stands n m r (not_nil n (omega arith)) (inl (omega arith)))
      by_tests false short one s is =
          formed (Quotient (n, m)) (if-ok (nat_le (poly.weight o n + poly.weight o m) 65536) (Quotient (n, m)) e is)
          (quotient-stands n m r (λ z. different one (zero_numerator n m r z)) (inr (long (dec_lt 1 (length m)))))
        where
          different : poly.is_one o m ≡ false → poly.is_one o m ≡ true → ⊥
          different f t = cc

          long : Dec (1 < length m) → 1 < length m
          long (yes l) = l
          long (no l) = absurd (different one (one_if n m r (omega arith)))

  -- ---- common factors
  -- n = n'·k and m = m'·k
  pub stands-multiple : (n m n' m' : List E) (k : Polynomial F) (e : Over E) → of n ≡ of n' ⊗ k → of m ≡ of m' ⊗ k → Gives n' m' e → Gives n m e
  stands-multiple n m n' m' k e en em g = record {
    is_valid = g.is_valid;
    means =
        ap (F.ring.mul (meaning_over F meaning t e)) (times m m' em) ∙ sym (F.ring.mul_assoc (meaning_over F meaning t e) (at m') (Transcendence.at F t k))
        ∙ ap (λ x. F.ring.mul x (Transcendence.at F t k)) g.means ∙ sym (times n n' en);
  }
    where
      times : (p q : List E) → of p ≡ of q ⊗ k → at p ≡ F.ring.mul (at q) (Transcendence.at F t k)
      times p q e = sym (at-is p) ∙ ap (Transcendence.at F t) e ∙ Transcendence.at-mul F t (of q) k ∙ ap (λ x. F.ring.mul x (Transcendence.at F t k)) (at-is q)
