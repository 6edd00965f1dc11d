-- The rules of sums: n/m + n'/m' stands for the sum.
use Rattle.std.specs.Prelude.{if◌then◌else◌}
use Rattle.std.proofs.Common.{◌≡◌, Bool, true, false, List, [], ◌∷◌, inl, Ok, Err, arith, refl, sym, ◌∙◌, ap, ap₂, subst}
use Rattle.risch_ring.specs.CommRing.{Field}
use Rattle.risch_ring.proofs.Laws as Laws
use Rattle.risch_ring.proofs.FieldLaws as FieldLaws
use Rattle.risch_ring.proofs.Expression.{reading}
use Rattle.risch_ring.proofs.Solver.{ring}
use Rattle.risch_univariate.specs.Polynomial.{Polynomial}
use Rattle.risch_univariate.specs.PolynomialRing.{polynomials}
use Rattle.risch_univariate.specs.Division.{IsCoprime}
use Rattle.risch_univariate.proofs.Degree as Degree
use Rattle.risch_field.specs.Checked.{Checked, and_then, map_ok}
use Rattle.risch_field.specs.Ops.{Ops}
use Rattle.risch_polynomial.specs.Poly as poly
use Rattle.risch_level.specs.Over as level
use Rattle.risch_polynomial_theory.specs.Meaning.{value}
use Rattle.risch_level.specs.declared.over.Over.{Over}
use Rattle.risch_level.specs.declared.over.Over.TheVariants.{Below, Quotient}
use Rattle.risch_field.proofs.CheckedSteps.{and_then-ok}
use Rattle.risch_polynomial_theory.proofs.PolynomialValues as PolynomialValues
use Rattle.risch_element_theory.specs.PolynomialMeaning.{IsKept}
use Rattle.risch_element_theory.specs.ElementMeaning.{IsBelow, IsReduced, IsNormal, valid_over, meaning_over}
use Rattle.risch_element_theory.proofs.PolynomialRules as PolynomialRules
use Rattle.risch_element_theory.proofs.DivisionRule as DivisionRule
use Rattle.risch_element_theory.proofs.ElementsTranscendence as Transcendence
use Rattle.risch_element_theory.proofs.ElementsQuotients.{Stands, of, at-is, at-product, at-ne-zero, one_is, element-stands}
use Rattle.risch_element_theory.proofs.ElementsNormalForms.{normal_form-stands, one-kept, whole-reduced}

-- e is valid and stands for x
pub record Means {E A : Type 0} (F : Field A) (o : Ops E) (valid : E → Type 0) (meaning : E → A) (t : A) (e : Over E) (x : A) : Type 0 where
  pub is_valid : valid_over F o valid meaning e
  pub is : meaning_over F meaning t e ≡ x

-- x = n(t)/m(t), where n/m is reduced
pub record Represents {E A : Type 0} (F : Field A) (o : Ops E) (valid : E → Type 0) (meaning : E → A) (t : A) (n m : List E) (x : A) : Type 0 where
  pub is_reduced : IsReduced F o valid meaning n m
  pub equation : F.ring.mul x (value F.ring meaning t m) ≡ value F.ring meaning t n

module _ {E A : Type 0} (F : Field A) {o : Ops E} {valid : E → Type 0} {meaning : E → A} {P : A → Type 0} {t : A} (b : IsBelow F o valid meaning P t) where
  open (polynomials F) use {zero as 𝟘, one as 𝟙, add as ◌⊕◌, mul as ◌⊗◌, neg as ⊖◌}
  open F.ring use {add as ◌+◌, mul as ◌*◌}

  infixl 60 ◌⊕◌ ◌+◌
  infixl 70 ◌⊗◌ ◌*◌
  infix 80 ⊖◌
  -- p(t)
  abbrev at : List E → A
  at p = value F.ring meaning t p

  abbrev Gives : List E → List E → Over E → Type 0
  Gives n m e = Stands F o valid meaning t n m e

  -- e is valid and stands for x
  abbrev pub Gets : Over E → A → Type 0
  Gets e x = Means F o valid meaning t e x

  -- x = n(t)/m(t), where n/m is reduced
  abbrev pub Is : List E → List E → A → Type 0
  Is n m x = Represents F o valid meaning t n m x

  -- ⟦e⟧ = x for x·m(t) = n(t), as m(t) ≠ 0
  pub resolve : (n m : List E) (e : Over E) (x : A) → Gives n m e → IsKept o valid m → ¬ (m ≡ []) → x * at m ≡ at n → Gets e x
  resolve n m e x g k some eq =
      record {
        is_valid = g.is_valid;
        is = FieldLaws.mul_left_cancel F (at m) (meaning_over F meaning t e) x (at-ne-zero F b m k some)
            (F.ring.mul_comm (at m) (meaning_over F meaning t e) ∙ g.means ∙ sym eq ∙ F.ring.mul_comm x (at m));
      }

  at-sum : (p q r : List E) → of F b r ≡ of F b p ⊕ of F b q → at r ≡ at p + at q
  at-sum p q r e = sym (at-is F b r) ∙ ap (Transcendence.at F t) e ∙ Transcendence.at-add F t (of F b p) (of F b q) ∙ ap₂ F.ring.add (at-is F b p) (at-is F b q)

  -- m(t) = 1 for m = 1
  pub at-one : (m : List E) → IsKept o valid m → poly.is_one o m ≡ true → at m ≡ F.ring.one
  at-one m k one = sym (at-is F b m) ∙ ap (Transcendence.at F t) (one_is F b m k.all_valid one) ∙ Transcendence.at-one F t

  -- a polynomial that stands for a product of polynomials other than 0
  pub product-ne-nil : (p q r : List E) → IsKept o valid p → IsKept o valid q → ¬ (p ≡ []) → ¬ (q ≡ []) → of F b r ≡ of F b p ⊗ of F b q → ¬ (r ≡ [])
  product-ne-nil p q r kp kq np nq e z =
      Degree.mul_polynomials-nonzero F (of F b p) (of F b q) (DivisionRule.polynomial_of-nonzero F b.interprets p kp np) (DivisionRule.polynomial_of-nonzero F b.interprets q kq nq)
      (sym e ∙ ap (of F b) z ∙ PolynomialRules.polynomial_of-nil F b.interprets)

  -- ---- equal denominators
  same_denominator : (n m n' : List E) (x x' : A) (e : Over E) → Is n m x → Is n' m x' →
      and_then (poly.sum o n n') (λ s. level.normal_form o s m) ≡ Ok e → Gets e (x + x')
  same_denominator n m n' x x' e r r' is =
      let s = and_then-ok (poly.sum o n n') (λ s. level.normal_form o s m) e is in
      let sum = PolynomialRules.sum-polynomial F b.interprets n n' s.value r.is_reduced.numerator_kept.all_valid r'.is_reduced.numerator_kept.all_valid s.is in
      resolve s.value m e (x + x') (normal_form-stands F b s.value m e sum.kept r.is_reduced.denominator_kept r.is_reduced.denominator-ne-zero s.next) r.is_reduced.denominator_kept r.is_reduced.denominator-ne-zero
      (Laws.add-mul F.ring x x' (at m) ∙ ap₂ F.ring.add r.equation r'.equation ∙ sym (at-sum n n' s.value sum.means))

  -- ---- a denominator 1: n + n'·m is coprime to m where n is
  coprime-shifted : (n m p : Polynomial F) → IsCoprime F n m → IsCoprime F (n ⊕ p ⊗ m) m
  coprime-shifted n m p c = record {
    left = c.left;
    right = c.right ⊕ ⊖ (c.left ⊗ p);
    equation = cancel c.left c.right n m p ∙ c.equation;
  }
    where
      cancel : (u v n m p : Polynomial F) → u ⊗ (n ⊕ p ⊗ m) ⊕ (v ⊕ ⊖ (u ⊗ p)) ⊗ m ≡ u ⊗ n ⊕ v ⊗ m
      cancel u v n m p = ring (polynomials F) (u ∷ v ∷ n ∷ m ∷ p ∷ []) (search reading depth 40 fits 8000) refl

  shifted-element : (n m n' s : List E) (x x' : A) (e : Over E) → Is n m x → x' ≡ at n' → IsKept o valid s → of F b s ≡ of F b n ⊕ of F b n' ⊗ of F b m → level.element o s m ≡ Ok e → Gets e (x + x')
  shifted-element n m n' s x x' e r x'-is k means is =
      let reduced : IsReduced F o valid meaning s m = record {
        numerator_kept = k;
        denominator_kept = r.is_reduced.denominator_kept;
        denominator-ne-zero = r.is_reduced.denominator-ne-zero;
        is_monic = r.is_reduced.is_monic;
        is_coprime = subst (λ p. IsCoprime F p (of F b m)) (sym means) (coprime-shifted (of F b n) (of F b m) (of F b n') r.is_reduced.is_coprime);
      } in
      resolve s m e (x + x') (element-stands F b s m e reduced is) r.is_reduced.denominator_kept r.is_reduced.denominator-ne-zero
      (Laws.add-mul F.ring x x' (at m) ∙ ap₂ (λ y z. y + z * at m) r.equation x'-is
      ∙ sym (sym (at-is F b s) ∙ ap (Transcendence.at F t) means ∙ Transcendence.at-add F t (of F b n) (of F b n' ⊗ of F b m)
      ∙ ap₂ F.ring.add (at-is F b n) (Transcendence.at-mul F t (of F b n') (of F b m) ∙ ap₂ F.ring.mul (at-is F b n') (at-is F b m))))

  whole-value : (n m : List E) (x : A) → Is n m x → poly.is_one o m ≡ true → x ≡ at n
  whole-value n m x r one = sym (F.ring.mul-one x) ∙ ap (F.ring.mul x) (sym (at-one m r.is_reduced.denominator_kept one)) ∙ r.equation

  right_whole : (n m n' m' : List E) (x x' : A) (e : Over E) → Is n m x → Is n' m' x' → poly.is_one o m' ≡ true →
      and_then (poly.product o n' m) (λ a. and_then (poly.sum o n a) (λ s. level.element o s m)) ≡ Ok e → Gets e (x + x')
  right_whole n m n' m' x x' e r r' one is =
      let product = and_then-ok (poly.product o n' m) (λ a. and_then (poly.sum o n a) (λ s. level.element o s m)) e is in
      let sum = and_then-ok (poly.sum o n product.value) (λ s. level.element o s m) e product.next in
      let a = PolynomialRules.product-polynomial F b.interprets n' m product.value r'.is_reduced.numerator_kept.all_valid r.is_reduced.denominator_kept.all_valid product.is in
      let s = PolynomialRules.sum-polynomial F b.interprets n product.value sum.value r.is_reduced.numerator_kept.all_valid a.kept.all_valid sum.is in
      shifted-element n m n' sum.value x x' e r (whole-value n' m' x' r' one) s.kept (s.means ∙ ap (λ p. of F b n ⊕ p) a.means) sum.next

  left_whole : (n m n' m' : List E) (x x' : A) (e : Over E) → Is n m x → Is n' m' x' → poly.is_one o m ≡ true →
      and_then (poly.product o n m') (λ a. and_then (poly.sum o a n') (λ s. level.element o s m')) ≡ Ok e → Gets e (x + x')
  left_whole n m n' m' x x' e r r' one is =
      let product = and_then-ok (poly.product o n m') (λ a. and_then (poly.sum o a n') (λ s. level.element o s m')) e is in
      let sum = and_then-ok (poly.sum o product.value n') (λ s. level.element o s m') e product.next in
      let a = PolynomialRules.product-polynomial F b.interprets n m' product.value r.is_reduced.numerator_kept.all_valid r'.is_reduced.denominator_kept.all_valid product.is in
      let s = PolynomialRules.sum-polynomial F b.interprets product.value n' sum.value a.kept.all_valid r'.is_reduced.numerator_kept.all_valid sum.is in
      subst (Gets e) (F.ring.add_comm x' x)
      (shifted-element n' m' n sum.value x' x e r' (whole-value n m x r one) s.kept (s.means ∙ ap (λ p. p ⊕ of F b n') a.means ∙ (polynomials F).add_comm (of F b n ⊗ of F b m') (of F b n')) sum.next)

  -- ---- any denominators
  cross_sum : (n m n' m' : List E) (x x' : A) (e : Over E) → Is n m x → Is n' m' x' →
      and_then (poly.product o n m') (λ p. and_then (poly.product o n' m) (λ q. and_then (poly.sum o p q) (λ s. and_then (poly.product o m m') (λ d. level.normal_form o s d)))) ≡ Ok e → Gets e (x + x')
  cross_sum n m n' m' x x' e r r' is =
      let first = and_then-ok (poly.product o n m') (λ p. and_then (poly.product o n' m) (λ q. and_then (poly.sum o p q) (λ s. and_then (poly.product o m m') (λ d. level.normal_form o s d)))) e is in
      let second = and_then-ok (poly.product o n' m) (λ q. and_then (poly.sum o first.value q) (λ s. and_then (poly.product o m m') (λ d. level.normal_form o s d))) e first.next in
      let third = and_then-ok (poly.sum o first.value second.value) (λ s. and_then (poly.product o m m') (λ d. level.normal_form o s d)) e second.next in
      let fourth = and_then-ok (poly.product o m m') (λ d. level.normal_form o third.value d) e third.next in
      let u = r.is_reduced in
      let v = r'.is_reduced in
      let p = PolynomialRules.product-polynomial F b.interprets n m' first.value u.numerator_kept.all_valid v.denominator_kept.all_valid first.is in
      let q = PolynomialRules.product-polynomial F b.interprets n' m second.value v.numerator_kept.all_valid u.denominator_kept.all_valid second.is in
      let s = PolynomialRules.sum-polynomial F b.interprets first.value second.value third.value p.kept.all_valid q.kept.all_valid third.is in
      let d = PolynomialRules.product-polynomial F b.interprets m m' fourth.value u.denominator_kept.all_valid v.denominator_kept.all_valid fourth.is in
      let some = product-ne-nil m m' fourth.value u.denominator_kept v.denominator_kept u.denominator-ne-zero v.denominator-ne-zero d.means in
      resolve third.value fourth.value e (x + x') (normal_form-stands F b third.value fourth.value e s.kept d.kept some fourth.next) d.kept some
      (ap (F.ring.mul (x + x')) (at-product F b m m' fourth.value d.means) ∙ spread x x' (at m) (at m') ∙ ap₂ (λ y z. y * at m' + z * at m) r.equation r'.equation
      ∙ ap₂ F.ring.add (sym (at-product F b n m' first.value p.means)) (sym (at-product F b n' m second.value q.means)) ∙ sym (at-sum first.value second.value third.value s.means))
    where
      spread : (x y m n : A) → (x + y) * (m * n) ≡ x * m * n + y * n * m
      spread x y m n = ring F.ring (x ∷ y ∷ m ∷ n ∷ []) (search reading depth 40 fits 8000) refl

  -- n/m + n'/m' stands for x + x'
  pub quotient_sum-means : (n m n' m' : List E) (x x' : A) (e : Over E) → Is n m x → Is n' m' x' → level.quotient_sum o n m n' m' ≡ Ok e → Gets e (x + x')
  unfolding level.quotient_sum
  quotient_sum-means n m n' m' x x' e r r' is = by_tests (poly.same o m m') (poly.is_one o m') (poly.is_one o m) refl refl refl is
    where
      by_tests : (same right left : Bool) → poly.same o m m' ≡ same → poly.is_one o m' ≡ right → poly.is_one o m ≡ left →
          (if same then and_then (poly.sum o n n') (λ s. level.normal_form o s m) else
          if right then and_then (poly.product o n' m) (λ a. and_then (poly.sum o n a) (λ s. level.element o s m)) else
          if left then and_then (poly.product o n m') (λ a. and_then (poly.sum o a n') (λ s. level.element o s m')) else
          and_then (poly.product o n m') (λ p. and_then (poly.product o n' m) (λ q. and_then (poly.sum o p q) (λ s. and_then (poly.product o m m') (λ d. level.normal_form o s d))))) ≡ Ok e →
          Gets e (x + x')
      by_tests true right left s u v is =
          let equal = PolynomialValues.same-means b.interprets m m' r.is_reduced.denominator_kept.all_valid r'.is_reduced.denominator_kept.all_valid s in
          same_denominator n m n' x x' e r (subst (λ p. Is n' p x') (sym equal) r') is
      by_tests false true left s u v is = right_whole n m n' m' x x' e r r' u is
      by_tests false false true s u v is = left_whole n m n' m' x x' e r r' v is
      by_tests false false false s u v is = cross_sum n m n' m' x x' e r r' is

  -- ---- an element of the level below as a fraction
  -- the list of the one coefficient 1 is the polynomial 1
  pub one-is_one : poly.is_one o (o.one ∷ []) ≡ true
  one-is_one = b.tells_one.one_if o.one b.interprets.one-valid b.interprets.one-means

  at-single : (c : E) → at (c ∷ []) ≡ meaning c
  at-single c = ap (F.ring.add (meaning c)) (Laws.mul-zero F.ring t) ∙ F.ring.add-zero (meaning c)

  -- c = c/1
  pub below-represents : (c : E) → valid c → o.is_zero c ≡ false → Is (c ∷ []) (o.one ∷ []) (meaning c)
  below-represents c v z = record {
    is_reduced = whole-reduced F b (c ∷ []) (o.one ∷ []) (record { all_valid = (v, tt); ends_not_zero = rw z refl; degree_small = omega arith }) (one-kept F b) (λ e. cc) one-is_one;
    equation = ap (F.ring.mul (meaning c)) (at-single o.one ∙ b.interprets.one-means) ∙ F.ring.mul-one (meaning c) ∙ sym (at-single c);
  }

  -- what n/m stands for is n(t)/m(t)
  pub normal-represents : (n m : List E) → IsReduced F o valid meaning n m → Is n m (meaning_over F meaning t (Quotient (n, m)))
  normal-represents n m r = record { is_reduced = r; equation = FieldLaws.quotient-mul F (at n) (at m) (at-ne-zero F b m r.denominator_kept r.denominator-ne-zero) }

  -- the sum of a and n/m stands for the sum
  pub sum_with-means : (left : Bool) (a : E) (n m : List E) (e : Over E) → valid a → IsNormal F o valid meaning n m → level.sum_with o left a (Quotient (n, m)) n m ≡ Ok e →
      Gets e (meaning a + meaning_over F meaning t (Quotient (n, m)))
  unfolding level.sum_with
  sum_with-means left a n m e v k is = by_zero left (o.is_zero a) refl is
    where
      by_zero : (left z : Bool) → o.is_zero a ≡ z →
          (if z then Ok (Quotient (n, m)) else if left then level.quotient_sum o (a ∷ []) (o.one ∷ []) n m else level.quotient_sum o n m (a ∷ []) (o.one ∷ [])) ≡ Ok e →
          Gets e (meaning a + meaning_over F meaning t (Quotient (n, m)))
      by_zero left true z is =
          let same : Quotient (n, m) ≡ e = cc in
          subst (λ e. Gets e (meaning a + meaning_over F meaning t (Quotient (n, m)))) same
          (record { is_valid = k; is = sym (ap (λ x. x + meaning_over F meaning t (Quotient (n, m))) (b.interprets.zero_is a v z) ∙ Laws.zero-add F.ring (meaning_over F meaning t (Quotient (n, m)))) })
      by_zero true false z is =
          quotient_sum-means (a ∷ []) (o.one ∷ []) n m (meaning a) (meaning_over F meaning t (Quotient (n, m))) e (below-represents a v z) (normal-represents n m k.is_reduced) is
      by_zero false false z is =
          subst (Gets e) (F.ring.add_comm (meaning_over F meaning t (Quotient (n, m))) (meaning a))
          (quotient_sum-means n m (a ∷ []) (o.one ∷ []) (meaning_over F meaning t (Quotient (n, m))) (meaning a) e (normal-represents n m k.is_reduced) (below-represents a v z) is)

  -- an element of the level below that is formed
  pub map-below : (s : Checked E) (e : Over E) → map_ok Below s ≡ Ok e → (c : E) × (s ≡ Ok c) × (Below c ≡ e)
  map-below (Ok c) e is = let same : Below c ≡ e = cc in (c, refl, same)
  map-below (Err stop) e is = cc

  -- p + q stands for ⟦p⟧ + ⟦q⟧
  pub sum-gets : (p q e : Over E) → valid_over F o valid meaning p → valid_over F o valid meaning q → level.sum o p q ≡ Ok e →
      Gets e (meaning_over F meaning t p + meaning_over F meaning t q)
  sum-gets (Below c) (Below d) e v w is =
      let s = map-below (o.sum c d) e is in
      subst (λ e. Gets e (meaning c + meaning d)) s.2 (record { is_valid = b.interprets.sum-valid c d s.0 v w s.1; is = b.interprets.sum-means c d s.0 v w s.1 })
  sum-gets (Below c) (Quotient s) e v w is = sum_with-means true c s.0 s.1 e v w is
  sum-gets (Quotient r) (Below d) e v w is =
      subst (Gets e) (F.ring.add_comm (meaning d) (meaning_over F meaning t (Quotient r))) (sum_with-means false d r.0 r.1 e w v is)
  sum-gets (Quotient r) (Quotient s) e v w is =
      quotient_sum-means r.0 r.1 s.0 s.1 (meaning_over F meaning t (Quotient r)) (meaning_over F meaning t (Quotient s)) e (normal-represents r.0 r.1 v.is_reduced) (normal-represents s.0 s.1 w.is_reduced) is

  -- ---- the variable of the level
  variable-kept : IsKept o valid (o.zero ∷ (o.one ∷ []))
  variable-kept = record { all_valid = (b.interprets.zero-valid, (one-kept F b).all_valid); ends_not_zero = ap (poly.leading o o.zero) (one-kept F b).ends_not_zero; degree_small = omega arith }

  variable-normal : IsNormal F o valid meaning (o.zero ∷ (o.one ∷ [])) (o.one ∷ [])
  variable-normal = record {
    is_reduced = whole-reduced F b (o.zero ∷ (o.one ∷ [])) (o.one ∷ []) variable-kept (one-kept F b) (λ e. cc) one-is_one;
    numerator-ne-zero = λ e. cc;
    variable_occurs = inl (omega arith);
  }

  -- (0 + 1·t)/1 stands for t
  pub variable-gets : Gets (Quotient (o.zero ∷ (o.one ∷ []), o.one ∷ [])) t
  variable-gets =
      resolve (o.zero ∷ (o.one ∷ [])) (o.one ∷ []) (Quotient (o.zero ∷ (o.one ∷ []), o.one ∷ [])) t
      (record { is_valid = variable-normal; means = (normal-represents (o.zero ∷ (o.one ∷ [])) (o.one ∷ []) variable-normal.is_reduced).equation }) (one-kept F b) (λ e. cc)
      (sym (ap (λ z. z + t * at (o.one ∷ [])) b.interprets.zero-means ∙ Laws.zero-add F.ring (t * at (o.one ∷ []))))
