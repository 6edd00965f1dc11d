-- The rule of the derivation gives the derivatives of the elements of a level.
--     derive_over-means      what is formed of e is valid and stands for D⟦e⟧
use Rattle.std.specs.Prelude.{if◌then◌else◌}
use Rattle.std.proofs.Common.{◌≡◌, Bool, true, false, List, [], Ok, Err, refl, sym, ◌∙◌, ap, ap₂, arith, subst}
use Rattle.risch_ring.specs.CommRing.{Field, Derivation, quotient}
use Rattle.risch_ring.proofs.FieldLaws as FieldLaws
use Rattle.risch_ring.proofs.QuotientRule as QuotientRule
use Rattle.risch_field.specs.Checked.{Checked, and_then, map_ok}
use Rattle.risch_field.specs.Ops.{Ops}
use Rattle.risch_polynomial.specs.Poly as poly
use Rattle.risch_polynomial.specs.Polynomial.{IsPolynomial}
use Rattle.risch_level.specs.Over as level
use Rattle.risch_polynomial_theory.specs.Meaning.{AllValid, value}
use Rattle.risch_level.specs.declared.over.Over.{Over}
use Rattle.risch_level.specs.declared.over.Over.TheVariants.{Below, Quotient}
use Rattle.risch_field.proofs.CheckedSteps.{and_then-ok}
use Rattle.risch_polynomial_theory.proofs.PolynomialShapes as Shapes
use Rattle.risch_polynomial_theory.proofs.PolynomialValues as Values
use Rattle.risch_derivation.specs.Derivation as rules
use Rattle.risch_derivation.specs.declared.rate.Rate.{Rate}
use Rattle.risch_element_theory.specs.DerivationMeaning.{Derives, IsRate}
use Rattle.risch_element_theory.specs.PolynomialMeaning.{IsKept}
use Rattle.risch_element_theory.specs.ElementMeaning.{IsBelow, valid_over, meaning_over}
use Rattle.risch_element_theory.proofs.DerivationPolynomials as Polynomials
use Rattle.risch_element_theory.proofs.ElementsQuotients.{at-is, at-ne-zero, one_is, element-stands}
use Rattle.risch_element_theory.proofs.ElementsNormalForms.{normal_form-stands, whole-reduced}
use Rattle.risch_element_theory.proofs.ElementsTranscendence as Transcendence

-- f is valid and stands for D⟦e⟧
pub record IsDerivative {E A : Type 0} (F : Field A) (D : Derivation F.ring) (o : Ops E) (valid : E → Type 0) (meaning : E → A) (t : A) (e f : Over E) : Type 0 where
  pub is_valid : valid_over F o valid meaning f
  pub means : meaning_over F meaning t f ≡ D.derive (meaning_over F meaning t e)

module _ {E A : Type 0} {F : Field A} {o : Ops E} {valid : E → Type 0} {meaning : E → A} {P : A → Type 0} {t : A} (b : IsBelow F o valid meaning P t)
    {D : Derivation F.ring} {rule : E → Checked E} (derives : Derives D valid meaning rule) {rate : Rate E} (is_rate : IsRate D valid meaning rate t) where
  open F.ring use {add as ◌⊕◌, mul as ◌⊗◌, neg as ⊖◌}

  infixl 60 ◌⊕◌
  infixl 70 ◌⊗◌
  infix 80 ⊖◌
  -- p(t)
  abbrev at : List E → A
  at p = value F.ring meaning t p

  -- r is kept, and r(t) = v
  record Keeps (r : List E) (v : A) : Type 0 where
    kept : IsKept o valid r
    is : at r ≡ v

  keeps : (r : List E) (v : A) → AllValid valid r → IsPolynomial o r (poly.weight o r) → at r ≡ v → Keeps r v
  keeps r v all is e = record { kept = record { all_valid = all; ends_not_zero = is.ends_not_zero; degree_small = is.degree_small }; is = e }

  derive_polynomial-keeps : (p r : List E) → IsKept o valid p → rules.derive_polynomial o rule rate p ≡ Ok r → Keeps r (D.derive (at p))
  derive_polynomial-keeps p r k e =
      let degree = k.degree_small in
      let g = Polynomials.derive_polynomial-means b.interprets derives is_rate p r (omega arith) k.all_valid e in
      keeps r (D.derive (at p)) g.all_valid (Polynomials.derive_polynomial-polynomial o rule rate p r e) g.value_is

  product-keeps : (p q r : List E) → AllValid valid p → AllValid valid q → poly.product o p q ≡ Ok r → Keeps r (at p ⊗ at q)
  product-keeps p q r all_p all_q e =
      let v = Values.product-means b.interprets p q r all_p all_q e in
      keeps r (at p ⊗ at q) v.all_valid (Shapes.product-polynomial o p q r e) (v.value_is t)

  -- p - q
  difference-keeps : (p q r : List E) → AllValid valid p → AllValid valid q → poly.sum o p (poly.negatives o q) ≡ Ok r → Keeps r (at p ⊕ ⊖ at q)
  difference-keeps p q r all_p all_q e =
      let n = Values.negatives-means b.interprets q all_q in
      let v = Values.sum-means b.interprets p (poly.negatives o q) r all_p n.all_valid e in
      keeps r (at p ⊕ ⊖ at q) v.all_valid (Shapes.sum-polynomial o p (poly.negatives o q) r e) (v.value_is t ∙ ap (λ y. at p ⊕ y) (n.value_is t))

  quotient_numerator-keeps : (n m r : List E) → IsKept o valid n → IsKept o valid m → rules.quotient_numerator o rule rate n m ≡ Ok r →
      Keeps r (D.derive (at n) ⊗ at m ⊕ ⊖ (at n ⊗ D.derive (at m)))
  unfolding rules.quotient_numerator
  quotient_numerator-keeps n m r kn km e =
      let rest_b = λ (a m' : List E). and_then (poly.product o n m') (λ b. poly.sum o a (poly.negatives o b)) in
      let rest_m = λ (a : List E). and_then (rules.derive_polynomial o rule rate m) (rest_b a) in
      let n' = and_then-ok (rules.derive_polynomial o rule rate n) (λ n'. and_then (poly.product o n' m) rest_m) r e in
      let a = and_then-ok (poly.product o n'.value m) rest_m r n'.next in
      let m' = and_then-ok (rules.derive_polynomial o rule rate m) (rest_b a.value) r a.next in
      let b = and_then-ok (poly.product o n m'.value) (λ b. poly.sum o a.value (poly.negatives o b)) r m'.next in
      let dn = derive_polynomial-keeps n n'.value kn n'.is in
      let dm = derive_polynomial-keeps m m'.value km m'.is in
      let left = product-keeps n'.value m a.value dn.kept.all_valid km.all_valid a.is in
      let right = product-keeps n m'.value b.value kn.all_valid dm.kept.all_valid b.is in
      let d = difference-keeps a.value b.value r left.kept.all_valid right.kept.all_valid b.next in
      record { kept = d.kept; is = d.is ∙ ap₂ (λ x y. x ⊕ ⊖ y) (left.is ∙ ap (λ x. x ⊗ at m) dn.is) (right.is ∙ ap (λ y. at n ⊗ y) dm.is) }

  -- x·y = z gives x = z/y
  quotient_of_product : (x y z : A) → ¬ (y ≡ F.ring.zero) → x ⊗ y ≡ z → x ≡ quotient F z y
  quotient_of_product x y z n e =
      FieldLaws.mul_left_cancel F y x (quotient F z y) n (F.ring.mul_comm y x ∙ e ∙ sym (F.ring.mul_comm y (quotient F z y) ∙ FieldLaws.quotient-mul F z y n))

  -- x/1 = x
  by_one : (x y : A) → ¬ (y ≡ F.ring.zero) → y ≡ F.ring.one → quotient F x y ≡ x
  by_one x y n e = sym (F.ring.mul-one (quotient F x y)) ∙ ap (λ z. quotient F x y ⊗ z) (sym e) ∙ FieldLaws.quotient-mul F x y n

  at-one : (m : List E) → IsKept o valid m → poly.is_one o m ≡ true → at m ≡ F.ring.one
  at-one m k one = sym (at-is F b m) ∙ ap (Transcendence.at F t) (one_is F b m k.all_valid one) ∙ Transcendence.at-one F t

  -- f is valid, and ⟦f⟧ = D(n(t)/m(t))
  record Derived (n m : List E) (f : Over E) : Type 0 where
    is_valid : valid_over F o valid meaning f
    means : meaning_over F meaning t f ≡ D.derive (quotient F (at n) (at m))

  whole-derived : (n m : List E) (f : Over E) → IsKept o valid n → IsKept o valid m → ¬ (m ≡ []) → poly.is_one o m ≡ true →
      and_then (rules.derive_polynomial o rule rate n) (λ n'. level.element o n' m) ≡ Ok f → Derived n m f
  whole-derived n m f kn km some one e =
      let n' = and_then-ok (rules.derive_polynomial o rule rate n) (λ n'. level.element o n' m) f e in
      let d = derive_polynomial-keeps n n'.value kn n'.is in
      let s = element-stands F b n'.value m f (whole-reduced F b n'.value m d.kept km some one) n'.next in
      let is_one = at-one m km one in
      record {
        is_valid = s.is_valid;
        means = sym (F.ring.mul-one (meaning_over F meaning t f)) ∙ ap (λ y. meaning_over F meaning t f ⊗ y) (sym is_one) ∙ s.means ∙ d.is
            ∙ ap D.derive (sym (by_one (at n) (at m) (at-ne-zero F b m km some) is_one));
      }

  quotient-derived : (n m : List E) (f : Over E) → IsKept o valid n → IsKept o valid m → ¬ (m ≡ []) →
      and_then (rules.quotient_numerator o rule rate n m) (λ a. and_then (poly.product o m m) (λ d. level.normal_form o a d)) ≡ Ok f → Derived n m f
  quotient-derived n m f kn km some e =
      let a = and_then-ok (rules.quotient_numerator o rule rate n m) (λ a. and_then (poly.product o m m) (λ d. level.normal_form o a d)) f e in
      let d = and_then-ok (poly.product o m m) (λ d. level.normal_form o a.value d) f a.next in
      let ka = quotient_numerator-keeps n m a.value kn km a.is in
      let kd = product-keeps m m d.value km.all_valid km.all_valid d.is in
      let y-ne-zero = at-ne-zero F b m km some in
      let yy-ne-zero = FieldLaws.mul-nonzero F (at m) (at m) y-ne-zero y-ne-zero in
      let s = normal_form-stands F b a.value d.value f ka.kept kd.kept (λ z. yy-ne-zero (sym kd.is ∙ ap at z)) d.next in
      record {
        is_valid = s.is_valid;
        means = quotient_of_product (meaning_over F meaning t f) (at m ⊗ at m) (D.derive (at n) ⊗ at m ⊕ ⊖ (at n ⊗ D.derive (at m))) yy-ne-zero
            (ap (λ y. meaning_over F meaning t f ⊗ y) (sym kd.is) ∙ s.means ∙ ka.is)
            ∙ sym (QuotientRule.derive-quotient F D (at n) (at m) y-ne-zero);
      }

  derive_quotient-derived : (n m : List E) (f : Over E) → IsKept o valid n → IsKept o valid m → ¬ (m ≡ []) →
      rules.derive_quotient o rule rate n m ≡ Ok f → Derived n m f
  unfolding rules.derive_quotient
  derive_quotient-derived n m f kn km some e = by_test (poly.is_one o m) refl e
    where
      by_test : (one : Bool) → poly.is_one o m ≡ one →
          (if one then and_then (rules.derive_polynomial o rule rate n) (λ n'. level.element o n' m) else
          and_then (rules.quotient_numerator o rule rate n m) (λ a. and_then (poly.product o m m) (λ d. level.normal_form o a d))) ≡ Ok f → Derived n m f
      by_test true one e = whole-derived n m f kn km some one e
      by_test false one e = quotient-derived n m f kn km some e

  map_ok-is : (x : Checked E) (f : Over E) → map_ok Below x ≡ Ok f → (g : E) × (x ≡ Ok g) × (Below g ≡ f)
  map_ok-is (Ok g) f e = (g, refl, cc)
  map_ok-is (Err stop) f e = cc

  pub derive_over-means : (e f : Over E) → valid_over F o valid meaning e → rules.derive_over o rule rate e ≡ Ok f → IsDerivative F D o valid meaning t e f
  derive_over-means (Below c) f v e =
      let d = map_ok-is (rule c) f e in
      subst (IsDerivative F D o valid meaning t (Below c)) d.2 (record { is_valid = derives.derived-valid c d.0 v d.1; means = derives.derived-means c d.0 v d.1 })
  derive_over-means (Quotient r) f v e =
      let d = derive_quotient-derived r.0 r.1 f v.is_reduced.numerator_kept v.is_reduced.denominator_kept v.is_reduced.denominator-ne-zero e in
      record { is_valid = d.is_valid; means = d.means }
