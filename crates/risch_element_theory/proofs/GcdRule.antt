-- The rules of the monic multiple and of the common divisor give those of K[t].
use Rattle.std.specs.Prelude.{if◌then◌else◌}
use Rattle.std.proofs.Common.{◌≡◌, ℕ, zero, suc, pred, ◌+◌, ◌-◌, ◌≤◌, ◌<◌, Bool, true, false, ◌||◌, List, [], ◌∷◌, length, get_or, map, Ok, refl, sym, ap, ap₂, subst, ◌∙◌, arith}
use Rattle.risch_ring.specs.CommRing.{CommRing, Field}
use Rattle.risch_ring.proofs.Laws as Laws
use Rattle.risch_univariate.specs.Polynomial.{Polynomial, coefficient, constant, variable}
use Rattle.risch_univariate.specs.PolynomialLaws.{coefficient-of_list}
use Rattle.risch_univariate.specs.PolynomialRing.{polynomials}
use Rattle.risch_univariate.specs.Degree.{size, leading_coefficient, IsMonic}
use Rattle.risch_univariate.specs.Division.{Divides, IsGcd}
use Rattle.risch_univariate.proofs.Degree as Degree
use Rattle.risch_univariate.proofs.Divides as Divides
use Rattle.risch_univariate.proofs.Gcd as Gcd
use Rattle.risch_field.specs.Checked.{and_then}
use Rattle.risch_field.specs.Ops.{Ops}
use Rattle.risch_polynomial.specs.Poly as poly
use Rattle.risch_polynomial_theory.specs.Meaning.{Interprets}
use Rattle.risch_field.proofs.CheckedSteps.{and_then-ok}
use Rattle.risch_element_theory.specs.PolynomialMeaning.{polynomial_of, IsKept, KeepsPolynomial, KeepsGcd}
use Rattle.risch_element_theory.proofs.DivisionValues as DivisionValues
use Rattle.risch_element_theory.proofs.DivisionRule as DivisionRule
use Rattle.risch_element_theory.proofs.PolynomialRules as Rules

module _ {E A : Type 0} {o : Ops E} (F : Field A) {valid : E → Type 0} {meaning : E → A} (h : Interprets o F.ring valid meaning) where
  abbrev R : CommRing (Polynomial F)
  R = polynomials F

  -- ⟦p⟧
  abbrev of : List E → Polynomial F
  of p = polynomial_of F meaning p

  -- ---- the leading coefficient
  get_or-meaning : (p : List E) (i : ℕ) → get_or (map meaning p) i F.zero ≡ meaning (poly.coefficient o p i)
  get_or-meaning [] i = sym h.zero-means
  get_or-meaning (c ∷ p) zero = refl
  get_or-meaning (c ∷ p) (suc i) = get_or-meaning p i

  pub coefficient-polynomial_of : (p : List E) (i : ℕ) → coefficient F (of p) i ≡ meaning (poly.coefficient o p i)
  unfolding polynomial_of
  coefficient-polynomial_of p i = coefficient-of_list F (map meaning p) i ∙ get_or-meaning p i

  pred-is : (n : ℕ) → pred n ≡ n - 1
  pred-is zero = refl
  pred-is (suc n) = omega arith

  pub leading_coefficient-polynomial_of : (p : List E) → IsKept o valid p → leading_coefficient F (of p) ≡ meaning (poly.last o p)
  leading_coefficient-polynomial_of p k =
      ap (coefficient F (of p)) (ap pred (Rules.size-polynomial_of F h p k) ∙ pred-is (length p)) ∙ coefficient-polynomial_of p (length p - 1)

  -- ---- the monic multiple
  pub nil-kept : IsKept o valid []
  nil-kept = record { all_valid = tt; ends_not_zero = refl; degree_small = omega arith }

  monic-zero : Gcd.monic F R.zero ≡ R.zero
  monic-zero = Gcd.monic-equation F R.zero ∙ Laws.mul-zero R (constant F (F.inverse (leading_coefficient F R.zero)))

  monic-nil : Gcd.monic F (of []) ≡ of []
  monic-nil = ap (Gcd.monic F) (Rules.polynomial_of-nil F h) ∙ monic-zero ∙ sym (Rules.polynomial_of-nil F h)

  -- u·x = 1 gives u = 1/x
  inverse_unique : (u x : A) → ¬ (x ≡ F.zero) → F.mul u x ≡ F.one → u ≡ F.inverse x
  inverse_unique u x n e =
      sym (F.mul-one u) ∙ ap (F.mul u) (sym (F.mul-inverse x n)) ∙ sym (F.mul_assoc u x (F.inverse x)) ∙ ap (λ y. F.mul y (F.inverse x)) e ∙ Laws.one-mul F.ring (F.inverse x)

  -- p / lc(p), and 0 for p = 0
  pub monic-polynomial : (p r : List E) → IsKept o valid p → poly.monic o p ≡ Ok r → KeepsPolynomial o F valid meaning r (Gcd.monic F (of p))
  unfolding poly.monic
  monic-polynomial [] r k e = let is : [] ≡ r = cc e in subst (λ r. KeepsPolynomial o F valid meaning r (Gcd.monic F (of []))) is (record { kept = nil-kept; means = sym monic-nil })
  monic-polynomial (c ∷ p) r k e =
      let q = c ∷ p in
      let x = DivisionValues.monic-scaled (Rules.over_polynomials F h) (variable F) q r k (λ (e : q ≡ []). cc e) e in
      let nonzero = DivisionRule.polynomial_of-nonzero F h q k (λ (e : q ≡ []). cc e) in
      let u = meaning x.factor in
      let lead = leading_coefficient-polynomial_of q k in
      let inverse : F.mul u (leading_coefficient F (of q)) ≡ F.one =
      ap (F.mul u) lead ∙ Rules.constant-injective F h (F.mul u (meaning (poly.last o q))) F.one (Degree.constant-mul F u (meaning (poly.last o q)) ∙ x.inverse ∙ sym (Degree.constant-one F)) in
      record {
        kept = x.kept;
        means =
            sym (Rules.value-polynomial_of F h r) ∙ x.equation
            ∙ ap₂ (λ c v. R.mul (constant F c) v) (inverse_unique u (leading_coefficient F (of q)) (Degree.leading_coefficient-nonzero F (of q) nonzero) inverse) (Rules.value-polynomial_of F h q)
            ∙ sym (Gcd.monic-equation F (of q));
      }

  -- ---- the common divisors of p and q are those of their monic multiples
  divides-monic_left : (d p : Polynomial F) → Divides F d (Gcd.monic F p) → Divides F d p
  divides-monic_left d p x = Divides.divides_trans F d (Gcd.monic F p) p x (Gcd.monic-divides F p p (Divides.divides_refl F p))

  divides-monic_right : (d p : Polynomial F) → Divides F d p → Divides F d (Gcd.monic F p)
  divides-monic_right d p x = Divides.divides_trans F d p (Gcd.monic F p) x (Gcd.divides-monic F p)

  gcd_of_monic : (g p q : Polynomial F) → IsGcd F g (Gcd.monic F p) (Gcd.monic F q) → IsGcd F g p q
  gcd_of_monic g p q x = record {
    divides_left = divides-monic_left g p x.divides_left;
    divides_right = divides-monic_left g q x.divides_right;
    greatest = λ d left right. x.greatest d (divides-monic_right d p left) (divides-monic_right d q right);
  }

  -- gcd(b, monic(r)) = gcd(p, b) for p = a·b + r
  gcd_of_remainder : (g p b a r : Polynomial F) → p ≡ R.add (R.mul a b) r → IsGcd F g b (Gcd.monic F r) → IsGcd F g p b
  gcd_of_remainder g p b a r e x = record {
    divides_left = subst (Divides F g) (sym e)
        (Divides.divides-add F g (R.mul a b) r (Divides.divides-mul_left F g a b x.divides_left) (divides-monic_left g r x.divides_right));
    divides_right = x.divides_left;
    greatest = λ d left right. x.greatest d right
        (divides-monic_right d r (Divides.divides_of_add F d (R.mul a b) r (Divides.divides-mul_left F d a b right) (subst (Divides F d) e left)));
  }

  -- gcd(p, 0) = p
  gcd_of_zero : (p : Polynomial F) → IsGcd F p p R.zero
  gcd_of_zero p = record { divides_left = Divides.divides_refl F p; divides_right = Divides.divides-zero F p; greatest = λ d left right. left }

  gcd_sym : (g p q : Polynomial F) → IsGcd F g p q → IsGcd F g q p
  gcd_sym g p q x = record { divides_left = x.divides_right; divides_right = x.divides_left; greatest = λ d left right. x.greatest d right left }

  -- ---- the remainders
  abbrev Keeps : List E → List E → List E → Type 0
  Keeps g p q = KeepsGcd o F valid meaning g p q

  abbrev IsMonicOrZero : List E → Type 0
  IsMonicOrZero p = ¬ (p ≡ []) → IsMonic F (of p)

  pub monic-is_monic : (p r : List E) → IsKept o valid p → poly.monic o p ≡ Ok r → ¬ (p ≡ []) → IsMonic F (of r)
  monic-is_monic p r k e n = subst (IsMonic F) (sym (monic-polynomial p r k e).means) (Gcd.monic-is_monic F (of p) (DivisionRule.polynomial_of-nonzero F h p k n))

  monic-length : (p r : List E) → IsKept o valid p → poly.monic o p ≡ Ok r → length r ≡ length p
  monic-length p r k e =
      let m = monic-polynomial p r k e in
      sym (Rules.size-polynomial_of F h r m.kept) ∙ ap (size F) m.means ∙ Gcd.size-monic F (of p) ∙ Rules.size-polynomial_of F h p k

  nil_of_length : (p : List E) → length p ≤ 0 → p ≡ []
  nil_of_length [] l = refl
  nil_of_length (c ∷ p) l = absurd (omega (arith, l))

  nil-length : (p : List E) → p ≡ [] → length p ≡ 0
  nil-length p e = ap length e

  remainders-done : (a b g : List E) → IsKept o valid a → IsMonic F (of a) → b ≡ [] → a ≡ g → Keeps g a b
  remainders-done a b g k m z e =
      subst (λ g. Keeps g a b) e (subst (λ b. Keeps a a b) (sym z) (record {
        kept = k;
        is_monic = m;
        is_gcd = subst (IsGcd F (of a) (of a)) (sym (Rules.polynomial_of-nil F h)) (gcd_of_zero (of a));
      }))

  -- r is the monic multiple of the remainder of a by b
  record IsMonicRemainder (a b r : List E) : Type 0 where
    kept : IsKept o valid r
    is_monic : IsMonicOrZero r
    smaller : length r < length b
    common : (g : Polynomial F) → IsGcd F g (of b) (of r) → IsGcd F g (of a) (of b)

  monic_remainder-is : (a b r : List E) → IsKept o valid a → IsKept o valid b → ¬ (b ≡ []) → poly.monic_remainder o a b ≡ Ok r → IsMonicRemainder a b r
  unfolding poly.monic_remainder
  monic_remainder-is a b r k l n e =
      let first = and_then-ok (poly.division o a b) (λ s. poly.monic o s.1) r e in
      let s = first.value in
      let x = DivisionRule.division-is_division F h a b s.0 s.1 k l n first.is in
      let y = monic-polynomial s.1 r x.remainder_kept first.next in
      let same = monic-length s.1 r x.remainder_kept first.next in
      let smaller = x.is_division.smaller in
      let s-size = Rules.size-polynomial_of F h s.1 x.remainder_kept in
      let b-size = Rules.size-polynomial_of F h b l in
      record {
        kept = y.kept;
        is_monic = λ z. monic-is_monic s.1 r x.remainder_kept first.next (λ (v : s.1 ≡ []). z (nil_of_length r (let w = nil-length s.1 v in omega (arith, w, same))));
        smaller = omega (arith, same, smaller, s-size, b-size);
        common = λ g c. gcd_of_remainder g (of a) (of b) (of s.0) (of s.1) x.is_division.equation (subst (IsGcd F g (of b)) y.means c);
      }

  remainders-is_gcd : (steps : ℕ) (a b g : List E) → IsKept o valid a → IsKept o valid b → IsMonic F (of a) → IsMonicOrZero b → length b ≤ steps → poly.remainders o steps a b ≡ Ok g → Keeps g a b
  remainders-is_gcd zero a b g k l m n enough e = remainders-done a b g k m (nil_of_length b enough) (cc e)
  remainders-is_gcd (suc steps) a [] g k l m n enough e = remainders-done a [] g k m refl (cc e)
  remainders-is_gcd (suc steps) a (c ∷ b) g k l m n enough e =
      let d = c ∷ b in
      let some : ¬ (d ≡ []) = λ (e : d ≡ []). cc e in
      let first = and_then-ok (poly.monic_remainder o a d) (λ r. poly.remainders o steps d r) g e in
      let x = monic_remainder-is a d first.value k l some first.is in
      let smaller = x.smaller in
      let others = remainders-is_gcd steps d first.value g l x.kept (n some) x.is_monic (omega (arith, smaller, enough)) first.next in
      record { kept = others.kept; is_monic = others.is_monic; is_gcd = x.common (of g) others.is_gcd }

  -- ---- a constant has the common divisor 1 with every polynomial
  pub one-kept : IsKept o valid (o.one ∷ [])
  one-kept = record { all_valid = (h.one-valid, tt); ends_not_zero = by_zero (o.is_zero o.one) refl; degree_small = omega arith }
    where
      by_zero : (z : Bool) → o.is_zero o.one ≡ z → (if z then [] else o.one ∷ []) ≡ o.one ∷ []
      by_zero true z = absurd (F.one-ne-zero (sym h.one-means ∙ h.zero_is o.one h.one-valid z))
      by_zero false z = refl

  pub polynomial_of-one : of (o.one ∷ []) ≡ R.one
  polynomial_of-one =
      sym (Rules.value-polynomial_of F h (o.one ∷ [])) ∙ ap₂ (λ c v. R.add c v) (ap (constant F) h.one-means ∙ Degree.constant-one F) (Laws.mul-zero R (variable F)) ∙ R.add-zero R.one

  gcd_of_unit : (a b : Polynomial F) → size F a ≡ 1 → IsGcd F R.one a b
  gcd_of_unit a b e = record {
    divides_left = Divides.unit-divides F R.one a (Degree.size-one F);
    divides_right = Divides.unit-divides F R.one b (Degree.size-one F);
    greatest = λ d left right. Divides.divides_trans F d a R.one left (Divides.unit-divides F a R.one e);
  }

  is_one-length : (p : List E) → poly.is_one o p ≡ true → length p ≡ 1
  is_one-length [] e = cc e
  is_one-length (c ∷ []) e = refl
  is_one-length (c ∷ (d ∷ p)) e = cc e

  or-true : (a b : Bool) → (a || b) ≡ true → (a ≡ false) → b ≡ true
  or-true true b e f = cc
  or-true false b e f = e

  unit-is_gcd : (a b : List E) → IsKept o valid a → IsKept o valid b → (poly.is_one o a || poly.is_one o b) ≡ true → IsGcd F R.one (of a) (of b)
  unit-is_gcd a b k l e = by_first (poly.is_one o a) refl
    where
      by_first : (z : Bool) → poly.is_one o a ≡ z → IsGcd F R.one (of a) (of b)
      by_first true z = gcd_of_unit (of a) (of b) (Rules.size-polynomial_of F h a k ∙ is_one-length a z)
      by_first false z = gcd_sym R.one (of b) (of a) (gcd_of_unit (of b) (of a) (Rules.size-polynomial_of F h b l ∙ is_one-length b (or-true (poly.is_one o a) (poly.is_one o b) e z)))

  one_is_gcd : (a b g : List E) → IsKept o valid a → IsKept o valid b → (poly.is_one o a || poly.is_one o b) ≡ true → o.one ∷ [] ≡ g → Keeps g a b
  one_is_gcd a b g k l e is =
      subst (λ g. Keeps g a b) is (record {
        kept = one-kept;
        is_monic = subst (IsMonic F) (sym polynomial_of-one) (Gcd.one-is_monic F);
        is_gcd = subst (λ x. IsGcd F x (of a) (of b)) (sym polynomial_of-one) (unit-is_gcd a b k l e);
      })

  -- ---- the common divisor
  gcd_of_monics : (a b g : List E) → IsKept o valid a → IsKept o valid b → IsMonic F (of a) → IsMonic F (of b) →
      (if poly.is_one o a || poly.is_one o b then Ok (o.one ∷ []) else poly.remainders o (length b + 1) a b) ≡ Ok g → Keeps g a b
  gcd_of_monics a b g k l m n e = by_unit (poly.is_one o a || poly.is_one o b) refl e
    where
      by_unit : (z : Bool) → (poly.is_one o a || poly.is_one o b) ≡ z → (if z then Ok (o.one ∷ []) else poly.remainders o (length b + 1) a b) ≡ Ok g → Keeps g a b
      by_unit true z e = one_is_gcd a b g k l z (cc e)
      by_unit false z e = remainders-is_gcd (length b + 1) a b g k l m (λ some. n) (omega arith) e

  -- monic(p) is the common divisor of p and 0
  monic-is_gcd : (p g : List E) → IsKept o valid p → ¬ (p ≡ []) → poly.monic o p ≡ Ok g → Keeps g p []
  monic-is_gcd p g k n e =
      let m = monic-polynomial p g k e in
      record {
        kept = m.kept;
        is_monic = monic-is_monic p g k e n;
        is_gcd = subst (IsGcd F (of g) (of p)) (sym (Rules.polynomial_of-nil F h)) (subst (λ x. IsGcd F x (of p) R.zero) (sym m.means) (record {
          divides_left = Gcd.monic-divides F (of p) (of p) (Divides.divides_refl F (of p));
          divides_right = Divides.divides-zero F (Gcd.monic F (of p));
          greatest = λ d left right. divides-monic_right d (of p) left;
        }));
      }

  pub gcd-is_gcd : (p q g : List E) → IsKept o valid p → IsKept o valid q → (p ≡ [] → q ≡ [] → ⊥) → poly.gcd o p q ≡ Ok g → KeepsGcd o F valid meaning g p q
  unfolding poly.gcd
  gcd-is_gcd p [] g k l n e = monic-is_gcd p g k (λ z. n z refl) e
  gcd-is_gcd [] (d ∷ q) g k l n e =
      let x = monic-is_gcd (d ∷ q) g l (λ z. n refl z) e in
      record { kept = x.kept; is_monic = x.is_monic; is_gcd = gcd_sym (of g) (of (d ∷ q)) (of []) x.is_gcd }
  gcd-is_gcd (c ∷ p) (d ∷ q) g k l n e =
      let first = and_then-ok (poly.monic o (c ∷ p)) (λ a. and_then (poly.monic o (d ∷ q)) (λ b. if poly.is_one o a || poly.is_one o b then Ok (o.one ∷ []) else poly.remainders o (length b + 1) a b)) g e in
      let a = first.value in
      let second = and_then-ok (poly.monic o (d ∷ q)) (λ b. if poly.is_one o a || poly.is_one o b then Ok (o.one ∷ []) else poly.remainders o (length b + 1) a b) g first.next in
      let b = second.value in
      let x = monic-polynomial (c ∷ p) a k first.is in
      let y = monic-polynomial (d ∷ q) b l second.is in
      let z = gcd_of_monics a b g x.kept y.kept (monic-is_monic (c ∷ p) a k first.is (λ (e : c ∷ p ≡ []). cc e)) (monic-is_monic (d ∷ q) b l second.is (λ (e : d ∷ q ≡ []). cc e)) second.next in
      record {
        kept = z.kept;
        is_monic = z.is_monic;
        is_gcd = gcd_of_monic (of g) (of (c ∷ p)) (of (d ∷ q)) (subst (λ v. IsGcd F (of g) v (Gcd.monic F (of (d ∷ q)))) x.means (subst (IsGcd F (of g) (of a)) y.means z.is_gcd));
      }

  -- it is the greatest common divisor of K[t]
  pub gcd-polynomial : (p q g : List E) → IsKept o valid p → IsKept o valid q → (p ≡ [] → q ≡ [] → ⊥) → poly.gcd o p q ≡ Ok g → of g ≡ Gcd.gcd F (of p) (of q)
  gcd-polynomial p q g k l n e = let x = gcd-is_gcd p q g k l n e in Gcd.gcd_unique F (of g) (of p) (of q) x.is_gcd x.is_monic
