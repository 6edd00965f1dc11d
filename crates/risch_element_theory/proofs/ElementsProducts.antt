-- The rules of negatives, products and quotients: they stand for those of the field.
use Rattle.std.specs.Prelude.{if◌then◌else◌}
use Rattle.std.proofs.Common.{◌≡◌, ◌<◌, ◌⊎◌, Bool, true, false, ◌&&◌, List, length, [], ◌∷◌, Ok, refl, sym, ◌∙◌, ap, ap₂, subst}
use Rattle.std.proofs.lemmas.List.{length-map}
use Rattle.risch_ring.specs.CommRing.{Field}
use Rattle.risch_ring.proofs.Laws as Laws
use Rattle.risch_ring.proofs.FieldLaws as FieldLaws
use Rattle.risch_ring.proofs.Expression.{reading}
use Rattle.risch_ring.proofs.Solver.{ring}
use Rattle.risch_univariate.specs.Polynomial.{Polynomial, constant}
use Rattle.risch_univariate.specs.PolynomialRing.{polynomials}
use Rattle.risch_univariate.specs.Division.{IsCoprime}
use Rattle.risch_univariate.specs.Degree.{IsMonic, leading_coefficient}
use Rattle.risch_univariate.proofs.Divides as DividesLaws
use Rattle.risch_univariate.proofs.Gcd as Gcd
use Rattle.risch_field.specs.Checked.{and_then}
use Rattle.risch_field.specs.Ops.{Ops}
use Rattle.risch_polynomial.specs.Poly as poly
use Rattle.risch_level.specs.Over as level
use Rattle.risch_polynomial_theory.specs.Meaning.{value}
use Rattle.risch_level.specs.declared.over.Over.{Over}
use Rattle.risch_level.specs.declared.over.Over.TheVariants.{Below, Quotient}
use Rattle.risch_field.proofs.CheckedSteps.{and_then-ok}
use Rattle.risch_element_theory.specs.ElementMeaning.{IsBelow, IsReduced, IsNormal, valid_over, meaning_over}
use Rattle.risch_element_theory.proofs.PolynomialRules as PolynomialRules
use Rattle.risch_element_theory.proofs.DivisionRule as DivisionRule
use Rattle.risch_element_theory.proofs.GcdRule as GcdRule
use Rattle.risch_element_theory.proofs.ElementsTranscendence as Transcendence
use Rattle.risch_element_theory.proofs.ElementsQuotients.{of, at-is, at-product, at-ne-zero, element-stands, stands-multiple}
use Rattle.risch_element_theory.proofs.ElementsNormalForms.{normal_form-stands, inverse-last, last-ne-zero, scaled-back, coprime-multiples}
use Rattle.risch_element_theory.proofs.ElementsSums.{Gets, Is, resolve, at-one, product-ne-nil, normal-represents, map-below}

module _ {E A : Type 0} (F : Field A) {o : Ops E} {valid : E → Type 0} {meaning : E → A} {P : A → Type 0} {t : A} (b : IsBelow F o valid meaning P t) where
  open (polynomials F) use {zero as 𝟘, one as 𝟙, add as ◌⊕◌, mul as ◌⊗◌, neg as ⊖◌}
  open F.ring use {add as ◌+◌, mul as ◌*◌}

  infixl 60 ◌⊕◌ ◌+◌
  infixl 70 ◌⊗◌ ◌*◌
  infix 80 ⊖◌
  -- p(t)
  abbrev at : List E → A
  at p = value F.ring meaning t p

  -- ---- the negative
  not_nil-negatives : (p : List E) → ¬ (p ≡ []) → ¬ (poly.negatives o p ≡ [])
  not_nil-negatives [] n = absurd (n refl)
  not_nil-negatives (c ∷ p) n = λ e. cc

  coprime-neg : (n m : Polynomial F) → IsCoprime F n m → IsCoprime F (⊖ n) m
  coprime-neg n m c = record { left = ⊖ c.left; right = c.right; equation = twice c.left n c.right m ∙ c.equation }
    where
      twice : (u n v m : Polynomial F) → ⊖ u ⊗ ⊖ n ⊕ v ⊗ m ≡ u ⊗ n ⊕ v ⊗ m
      twice u n v m = ring (polynomials F) (u ∷ n ∷ v ∷ m ∷ []) (search reading depth 30 fits 4000) refl

  negative-normal : (n m : List E) → IsNormal F o valid meaning n m → IsNormal F o valid meaning (poly.negatives o n) m
  negative-normal n m k =
      let r = k.is_reduced in
      let neg = PolynomialRules.negatives-polynomial F b.interprets n r.numerator_kept in
      record {
        is_reduced = record {
          numerator_kept = neg.kept;
          denominator_kept = r.denominator_kept;
          denominator-ne-zero = r.denominator-ne-zero;
          is_monic = r.is_monic;
          is_coprime = subst (λ p. IsCoprime F p (of F b m)) (sym neg.means) (coprime-neg (of F b n) (of F b m) r.is_coprime);
        };
        numerator-ne-zero = not_nil-negatives n k.numerator-ne-zero;
        variable_occurs = subst (λ l. (1 < l) ⊎ (1 < length m)) (sym (length-map n o.negative)) k.variable_occurs;
      }

  -- -e stands for -⟦e⟧
  pub negative-gets : (e : Over E) → valid_over F o valid meaning e → Gets F b (level.negative o e) (F.ring.neg (meaning_over F meaning t e))
  negative-gets (Below c) v = record { is_valid = b.interprets.negative-valid c v; is = b.interprets.negative-means c v }
  negative-gets (Quotient r) v =
      let neg = PolynomialRules.negatives-polynomial F b.interprets r.0 v.is_reduced.numerator_kept in
      record {
        is_valid = negative-normal r.0 r.1 v;
        is = ap (λ x. x * F.inverse (at r.1)) (sym (at-is F b (poly.negatives o r.0)) ∙ ap (Transcendence.at F t) neg.means ∙ Transcendence.at-neg F t (of F b r.0) ∙ ap F.ring.neg (at-is F b r.0))
            ∙ Laws.neg-mul F.ring (at r.0) (F.inverse (at r.1));
      }

  -- ---- the product
  -- c·(n/m) stands for the product
  pub scaled_product-means : (c : E) (n m : List E) (e : Over E) → valid c → IsNormal F o valid meaning n m → level.scaled_product o c (Quotient (n, m)) n m ≡ Ok e →
      Gets F b e (meaning c * meaning_over F meaning t (Quotient (n, m)))
  unfolding level.scaled_product
  scaled_product-means c n m e v k is = by_tests (o.is_zero c) (o.is_one c) refl refl is
    where
      by_scaling : o.is_zero c ≡ false → and_then (poly.scaled o c n) (λ n'. level.element o n' m) ≡ Ok e → Gets F b e (meaning c * meaning_over F meaning t (Quotient (n, m)))
      by_scaling z is =
          let r = k.is_reduced in
          let s = and_then-ok (poly.scaled o c n) (λ n'. level.element o n' m) e is in
          let n' = PolynomialRules.scaled-polynomial F b.interprets c n s.value v r.numerator_kept.all_valid s.is in
          let nonzero : ¬ (meaning c ≡ F.ring.zero) = λ w. true_false (sym (b.interprets.zero_if c v w) ∙ z) in
          let reduced : IsReduced F o valid meaning s.value m = record {
            numerator_kept = n'.kept;
            denominator_kept = r.denominator_kept;
            denominator-ne-zero = r.denominator-ne-zero;
            is_monic = r.is_monic;
            is_coprime = subst (λ p. IsCoprime F p (of F b m)) (sym n'.means)
                (Gcd.coprime-constant_mul F (constant F (meaning c)) (of F b n) (of F b m) (DividesLaws.constant-divides F (meaning c) 𝟙 nonzero) r.is_coprime);
          } in
          resolve F b s.value m e (meaning c * meaning_over F meaning t (Quotient (n, m))) (element-stands F b s.value m e reduced s.next) r.denominator_kept r.denominator-ne-zero
          (F.ring.mul_assoc (meaning c) (meaning_over F meaning t (Quotient (n, m))) (at m) ∙ ap (F.ring.mul (meaning c)) (normal-represents F b n m r).equation
          ∙ sym (sym (at-is F b s.value) ∙ ap (Transcendence.at F t) n'.means ∙ Transcendence.at-mul F t (constant F (meaning c)) (of F b n)
          ∙ ap₂ F.ring.mul (Transcendence.at-constant F t (meaning c)) (at-is F b n)))
        where
          true_false : true ≡ false → ⊥
          true_false e = cc

      by_tests : (zero one : Bool) → o.is_zero c ≡ zero → o.is_one c ≡ one →
          (if zero then Ok (Below c) else if one then Ok (Quotient (n, m)) else and_then (poly.scaled o c n) (λ n'. level.element o n' m)) ≡ Ok e →
          Gets F b e (meaning c * meaning_over F meaning t (Quotient (n, m)))
      by_tests true one z u is =
          let same : Below c ≡ e = cc in
          subst (λ e. Gets F b e (meaning c * meaning_over F meaning t (Quotient (n, m)))) same
          (record {
            is_valid = v;
            is = b.interprets.zero_is c v z ∙ sym (ap (λ y. y * meaning_over F meaning t (Quotient (n, m))) (b.interprets.zero_is c v z) ∙ Laws.zero-mul F.ring (meaning_over F meaning t (Quotient (n, m))));
          })
      by_tests false true z u is =
          let same : Quotient (n, m) ≡ e = cc in
          subst (λ e. Gets F b e (meaning c * meaning_over F meaning t (Quotient (n, m)))) same
          (record { is_valid = k; is = sym (ap (λ y. y * meaning_over F meaning t (Quotient (n, m))) (b.tells_one.one_is c v u) ∙ Laws.one-mul F.ring (meaning_over F meaning t (Quotient (n, m)))) })
      by_tests false false z u is = by_scaling z is

  whole_product : (n m n' m' s : List E) (x x' : A) (e : Over E) → Is F b n m x → Is F b n' m' x' → poly.product o n n' ≡ Ok s →
      poly.is_one o m ≡ true → poly.is_one o m' ≡ true → level.normal_form o s m ≡ Ok e → Gets F b e (x * x')
  whole_product n m n' m' s x x' e r r' product u v is =
      let p = PolynomialRules.product-polynomial F b.interprets n n' s r.is_reduced.numerator_kept.all_valid r'.is_reduced.numerator_kept.all_valid product in
      let one = at-one F b m r.is_reduced.denominator_kept u in
      let one' = at-one F b m' r'.is_reduced.denominator_kept v in
      resolve F b s m e (x * x') (normal_form-stands F b s m e p.kept r.is_reduced.denominator_kept r.is_reduced.denominator-ne-zero is) r.is_reduced.denominator_kept r.is_reduced.denominator-ne-zero
      (turn x x' (at m) ∙ ap₂ F.ring.mul r.equation (sym (F.ring.mul-one x') ∙ ap (F.ring.mul x') (sym one') ∙ r'.equation) ∙ sym (at-product F b n n' s p.means))
    where
      turn : (x y m : A) → x * y * m ≡ x * m * y
      turn x y m = ring F.ring (x ∷ y ∷ m ∷ []) (search reading depth 30 fits 4000) refl

  cross_product : (n m n' m' s : List E) (x x' : A) (e : Over E) → Is F b n m x → Is F b n' m' x' → poly.product o n n' ≡ Ok s →
      and_then (poly.product o m m') (λ d. level.normal_form o s d) ≡ Ok e → Gets F b e (x * x')
  cross_product n m n' m' s x x' e r r' product is =
      let second = and_then-ok (poly.product o m m') (λ d. level.normal_form o s d) e is in
      let u = r.is_reduced in
      let v = r'.is_reduced in
      let p = PolynomialRules.product-polynomial F b.interprets n n' s u.numerator_kept.all_valid v.numerator_kept.all_valid product in
      let d = PolynomialRules.product-polynomial F b.interprets m m' second.value u.denominator_kept.all_valid v.denominator_kept.all_valid second.is in
      let some = product-ne-nil F b m m' second.value u.denominator_kept v.denominator_kept u.denominator-ne-zero v.denominator-ne-zero d.means in
      resolve F b s second.value e (x * x') (normal_form-stands F b s second.value e p.kept d.kept some second.next) d.kept some
      (ap (F.ring.mul (x * x')) (at-product F b m m' second.value d.means) ∙ Laws.mul_exchange F.ring x x' (at m) (at m') ∙ ap₂ F.ring.mul r.equation r'.equation ∙ sym (at-product F b n n' s p.means))

  -- (n/m)·(n'/m') stands for x·x'
  pub quotient_product-means : (n m n' m' : List E) (x x' : A) (e : Over E) → Is F b n m x → Is F b n' m' x' → level.quotient_product o n m n' m' ≡ Ok e → Gets F b e (x * x')
  unfolding level.quotient_product
  quotient_product-means n m n' m' x x' e r r' is =
      let first = and_then-ok (poly.product o n n') (λ s. if poly.is_one o m && poly.is_one o m' then level.normal_form o s m else and_then (poly.product o m m') (λ d. level.normal_form o s d)) e is in
      by_tests first.value first.is (poly.is_one o m) (poly.is_one o m') refl refl first.next
    where
      by_tests : (s : List E) → poly.product o n n' ≡ Ok s → (left right : Bool) → poly.is_one o m ≡ left → poly.is_one o m' ≡ right →
          (if left && right then level.normal_form o s m else and_then (poly.product o m m') (λ d. level.normal_form o s d)) ≡ Ok e → Gets F b e (x * x')
      by_tests s product true true u v is = whole_product n m n' m' s x x' e r r' product u v is
      by_tests s product true false u v is = cross_product n m n' m' s x x' e r r' product is
      by_tests s product false right u v is = cross_product n m n' m' s x x' e r r' product is

  -- p·q stands for ⟦p⟧·⟦q⟧
  pub product-gets : (p q e : Over E) → valid_over F o valid meaning p → valid_over F o valid meaning q → level.product o p q ≡ Ok e →
      Gets F b e (meaning_over F meaning t p * meaning_over F meaning t q)
  product-gets (Below c) (Below d) e v w is =
      let s = map-below F b (o.product c d) e is in
      subst (λ e. Gets F b e (meaning c * meaning d)) s.2 (record { is_valid = b.interprets.product-valid c d s.0 v w s.1; is = b.interprets.product-means c d s.0 v w s.1 })
  product-gets (Below c) (Quotient s) e v w is = scaled_product-means c s.0 s.1 e v w is
  product-gets (Quotient r) (Below d) e v w is =
      subst (Gets F b e) (F.ring.mul_comm (meaning d) (meaning_over F meaning t (Quotient r))) (scaled_product-means d r.0 r.1 e w v is)
  product-gets (Quotient r) (Quotient s) e v w is =
      quotient_product-means r.0 r.1 s.0 s.1 (meaning_over F meaning t (Quotient r)) (meaning_over F meaning t (Quotient s)) e
      (normal-represents F b r.0 r.1 v.is_reduced) (normal-represents F b s.0 s.1 w.is_reduced) is

  -- ---- the inverse
  -- e is valid and ⟦e⟧·x = 1
  pub record Inverts (e : Over E) (x : A) : Type 0 where
    pub is_valid : valid_over F o valid meaning e
    pub is : meaning_over F meaning t e * x ≡ F.ring.one

  inverse_factor : (x y : A) → x * y ≡ F.ring.one → ¬ (y ≡ F.ring.zero) → F.inverse y ≡ x
  inverse_factor x y e n = FieldLaws.mul_left_cancel F y (F.inverse y) x n (F.mul-inverse y n ∙ sym e ∙ F.ring.mul_comm x y)

  inverse_ratio-gets : (n m : List E) (e : Over E) → IsNormal F o valid meaning n m →
      and_then (o.quotient o.one (poly.last o n)) (λ u. and_then (poly.scaled o u m) (λ n'. and_then (poly.monic o n) (λ m'. level.element o n' m'))) ≡ Ok e →
      Inverts e (meaning_over F meaning t (Quotient (n, m)))
  inverse_ratio-gets n m e k is =
      let first = and_then-ok (o.quotient o.one (poly.last o n)) (λ u. and_then (poly.scaled o u m) (λ n'. and_then (poly.monic o n) (λ m'. level.element o n' m'))) e is in
      let u = first.value in
      let second = and_then-ok (poly.scaled o u m) (λ n'. and_then (poly.monic o n) (λ m'. level.element o n' m')) e first.next in
      let third = and_then-ok (poly.monic o n) (λ m'. level.element o second.value m') e second.next in
      let r = k.is_reduced in
      let i = inverse-last F b n u r.numerator_kept k.numerator-ne-zero first.is in
      let lc = GcdRule.leading_coefficient-polynomial_of F b.interprets n r.numerator_kept in
      let n' = PolynomialRules.scaled-polynomial F b.interprets u m second.value i.is_valid r.denominator_kept.all_valid second.is in
      let m' = GcdRule.monic-polynomial F b.interprets n third.value r.numerator_kept third.is in
      let nonzero = DivisionRule.polynomial_of-nonzero F b.interprets n r.numerator_kept k.numerator-ne-zero in
      let monic : IsMonic F (of F b third.value) = subst (IsMonic F) (sym m'.means) (Gcd.monic-is_monic F (of F b n) nonzero) in
      let u-is : F.inverse (leading_coefficient F (of F b n)) ≡ meaning u = ap F.inverse lc ∙ inverse_factor (meaning u) (meaning (poly.last o n)) i.times_last (last-ne-zero F b n r.numerator_kept k.numerator-ne-zero) in
      let scaled : of F b third.value ≡ constant F (meaning u) ⊗ of F b n = m'.means ∙ Gcd.monic-equation F (of F b n) ∙ ap (λ c. constant F c ⊗ of F b n) u-is in
      let back = scaled-back F b n m second.value u i n'.means in
      let back' = scaled-back F b n n third.value u i scaled in
      let reduced : IsReduced F o valid meaning second.value third.value = record {
        numerator_kept = n'.kept;
        denominator_kept = m'.kept;
        denominator-ne-zero = λ z. Gcd.monic-nonzero F (of F b third.value) monic (ap (of F b) z ∙ PolynomialRules.polynomial_of-nil F b.interprets);
        is_monic = sym (GcdRule.leading_coefficient-polynomial_of F b.interprets third.value m'.kept) ∙ monic;
        is_coprime = coprime-multiples F b (of F b m) (of F b n) (of F b second.value) (of F b third.value) (constant F (meaning (poly.last o n))) back back' (Gcd.coprime_sym F (of F b n) (of F b m) r.is_coprime);
      } in
      let g = stands-multiple F b m n second.value third.value (constant F (meaning (poly.last o n))) e back back' (element-stands F b second.value third.value e reduced third.next) in
      record {
        is_valid = g.is_valid;
        is = FieldLaws.mul_left_cancel F (at m) (meaning_over F meaning t e * meaning_over F meaning t (Quotient (n, m))) F.ring.one (at-ne-zero F b m r.denominator_kept r.denominator-ne-zero)
            (turn (at m) (meaning_over F meaning t e) (meaning_over F meaning t (Quotient (n, m)))
            ∙ ap (F.ring.mul (meaning_over F meaning t e)) (normal-represents F b n m r).equation ∙ g.means ∙ sym (F.ring.mul-one (at m)));
      }
    where
      turn : (m y x : A) → m * (y * x) ≡ y * (x * m)
      turn m y x = ring F.ring (m ∷ y ∷ x ∷ []) (search reading depth 30 fits 4000) refl

  inverse_ratio-inverts : (n m : List E) (e : Over E) → IsNormal F o valid meaning n m → level.inverse_ratio o n m ≡ Ok e → Inverts e (meaning_over F meaning t (Quotient (n, m)))
  unfolding level.inverse_ratio
  inverse_ratio-inverts [] m e k is = absurd (k.numerator-ne-zero refl)
  inverse_ratio-inverts (c ∷ n) m e k is = inverse_ratio-gets (c ∷ n) m e k is

  inverse-inverts : (q e : Over E) → valid_over F o valid meaning q → level.is_zero o q ≡ false → level.inverse o q ≡ Ok e → Inverts e (meaning_over F meaning t q)
  inverse-inverts (Below c) e v z is =
      let s = map-below F b (o.quotient o.one c) e is in
      subst (λ e. Inverts e (meaning c)) s.2 (record {
        is_valid = b.interprets.quotient-valid o.one c s.0 b.interprets.one-valid v z s.1;
        is = b.interprets.quotient-means o.one c s.0 b.interprets.one-valid v z s.1 ∙ b.interprets.one-means;
      })
  inverse-inverts (Quotient r) e v z is = inverse_ratio-inverts r.0 r.1 e v is

  -- ---- the quotient
  -- e is valid and ⟦e⟧·y = x
  pub record IsQuotient (e : Over E) (x y : A) : Type 0 where
    pub is_valid : valid_over F o valid meaning e
    pub is : meaning_over F meaning t e * y ≡ x

  inverse_product-is_quotient : (p q e : Over E) → valid_over F o valid meaning p → valid_over F o valid meaning q → level.is_zero o q ≡ false → level.inverse_product o p q ≡ Ok e →
      IsQuotient e (meaning_over F meaning t p) (meaning_over F meaning t q)
  unfolding level.inverse_product
  inverse_product-is_quotient p q e v w z is =
      let first = and_then-ok (level.inverse o q) (λ g. level.product o p g) e is in
      let i = inverse-inverts q first.value w z first.is in
      let g = product-gets p first.value e v i.is_valid first.next in
      record {
        is_valid = g.is_valid;
        is = ap (λ x. x * meaning_over F meaning t q) g.is ∙ F.ring.mul_assoc (meaning_over F meaning t p) (meaning_over F meaning t first.value) (meaning_over F meaning t q)
            ∙ ap (F.ring.mul (meaning_over F meaning t p)) i.is ∙ F.ring.mul-one (meaning_over F meaning t p);
      }

  -- p/q stands for e with ⟦e⟧·⟦q⟧ = ⟦p⟧
  pub quotient-is_quotient : (p q e : Over E) → valid_over F o valid meaning p → valid_over F o valid meaning q → level.is_zero o q ≡ false → level.quotient o p q ≡ Ok e →
      IsQuotient e (meaning_over F meaning t p) (meaning_over F meaning t q)
  quotient-is_quotient (Below c) (Below d) e v w z is =
      let s = map-below F b (o.quotient c d) e is in
      subst (λ e. IsQuotient e (meaning c) (meaning d)) s.2 (record { is_valid = b.interprets.quotient-valid c d s.0 v w z s.1; is = b.interprets.quotient-means c d s.0 v w z s.1 })
  quotient-is_quotient (Below c) (Quotient s) e v w z is = inverse_product-is_quotient (Below c) (Quotient s) e v w z is
  quotient-is_quotient (Quotient r) q e v w z is = inverse_product-is_quotient (Quotient r) q e v w z is
