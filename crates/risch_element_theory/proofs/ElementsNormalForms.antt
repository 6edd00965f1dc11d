-- The normal form of n/m for any m other than 0: an element of the level that stands for n(t)/m(t).
use Rattle.std.specs.Prelude.{if◌then◌else◌}
use Rattle.std.proofs.Common.{◌≡◌, pred, Bool, true, false, List, [], ◌∷◌, Ok, refl, sym, ◌∙◌, ap, ap₂, subst, arith}
use Rattle.risch_ring.specs.CommRing.{Field}
use Rattle.risch_ring.proofs.Laws as Laws
use Rattle.risch_ring.proofs.Expression.{reading}
use Rattle.risch_ring.proofs.Solver.{ring}
use Rattle.risch_univariate.specs.Polynomial.{Polynomial, constant, coefficient}
use Rattle.risch_univariate.specs.PolynomialRing.{polynomials}
use Rattle.risch_univariate.specs.Degree.{size, leading_coefficient}
use Rattle.risch_univariate.specs.Division.{IsCoprime}
use Rattle.risch_univariate.proofs.Coefficients as Coefficients
use Rattle.risch_univariate.proofs.Degree as Degree
use Rattle.risch_univariate.proofs.Gcd as Gcd
use Rattle.risch_field.specs.Checked.{Checked, and_then}
use Rattle.risch_field.specs.Ops.{Ops}
use Rattle.risch_polynomial.specs.Poly as poly
use Rattle.risch_level.specs.Over as level
use Rattle.risch_polynomial_theory.specs.Meaning.{value}
use Rattle.risch_level.specs.declared.over.Over.{Over}
use Rattle.risch_level.specs.declared.over.Over.TheVariants.{Below}
use Rattle.risch_field.proofs.CheckedSteps.{and_then-ok}
use Rattle.risch_element_theory.specs.PolynomialMeaning.{IsKept, polynomial_of, KeepsGcd}
use Rattle.risch_element_theory.specs.ElementMeaning.{IsBelow, IsReduced}
use Rattle.risch_element_theory.proofs.PolynomialRules as PolynomialRules
use Rattle.risch_element_theory.proofs.DivisionRule as DivisionRule
use Rattle.risch_element_theory.proofs.GcdRule as GcdRule
use Rattle.risch_element_theory.proofs.ElementsQuotients.{Stands, of, one_is, last-valid, element-stands, stands-multiple}

-- what the division by a common divisor g gives: n = n'·g and m = m'·g
record Divided {E A : Type 0} (F : Field A) (o : Ops E) (valid : E → Type 0) (meaning : E → A) (n m : List E) (g : Polynomial F) (d : List E × List E) : Type 0 where
  numerator_kept : IsKept o valid d.0
  denominator_kept : IsKept o valid d.1
  numerator : polynomial_of F meaning n ≡ (polynomials F).mul (polynomial_of F meaning d.0) g
  denominator : polynomial_of F meaning m ≡ (polynomials F).mul (polynomial_of F meaning d.1) g

-- what scaling gives: n = n'·k and m = m'·k, where m' is monic
record Scaled {E A : Type 0} (F : Field A) (o : Ops E) (valid : E → Type 0) (meaning : E → A) (n m : List E) (s : List E × List E) : Type 0 where
  is_reduced : IsReduced F o valid meaning s.0 s.1
  factor : Polynomial F
  numerator : polynomial_of F meaning n ≡ (polynomials F).mul (polynomial_of F meaning s.0) factor
  denominator : polynomial_of F meaning m ≡ (polynomials F).mul (polynomial_of F meaning s.1) factor

module _ {E A : Type 0} (F : Field A) {o : Ops E} {valid : E → Type 0} {meaning : E → A} {P : A → Type 0} {t : A} (b : IsBelow F o valid meaning P t) where
  open (polynomials F) use {zero as 𝟘, one as 𝟙, add as ◌⊕◌, mul as ◌⊗◌, neg as ⊖◌}

  infixl 60 ◌⊕◌
  infixl 70 ◌⊗◌
  infix 80 ⊖◌
  -- g | p for the greatest common divisor
  divided-means : (n m g : List E) (d : List E × List E) → IsKept o valid n → IsKept o valid m → ¬ (m ≡ []) → KeepsGcd o F valid meaning g n m →
      level.divided o g n m ≡ Ok d → Divided F o valid meaning n m (of F b g) d
  unfolding level.divided
  divided-means n m g d kn km some k is = by_one (poly.is_one o g) refl is
    where
      g-ne-nil : ¬ (g ≡ [])
      g-ne-nil e = Gcd.monic-nonzero F (of F b g) k.is_monic (ap (of F b) e ∙ PolynomialRules.polynomial_of-nil F b.interprets)

      divide : (p : List E) → Checked (List E)
      divide p = poly.quo o p g

      by_one : (one : Bool) → poly.is_one o g ≡ one →
          (if one then Ok (n, m) else and_then (poly.quo o n g) (λ n'. and_then (poly.quo o m g) (λ m'. Ok (n', m')))) ≡ Ok d → Divided F o valid meaning n m (of F b g) d
      by_one true one is =
          let same : ◌≡◌ {A = List E × List E} (n, m) d = cc in
          let whole = one_is F b g k.kept.all_valid one in
          subst (Divided F o valid meaning n m (of F b g)) same (record {
            numerator_kept = kn;
            denominator_kept = km;
            numerator = sym (ap (◌⊗◌ (of F b n)) whole ∙ (polynomials F).mul-one (of F b n));
            denominator = sym (ap (◌⊗◌ (of F b m)) whole ∙ (polynomials F).mul-one (of F b m));
          })
      by_one false one is =
          let first = and_then-ok (poly.quo o n g) (λ n'. and_then (poly.quo o m g) (λ m'. Ok (n', m'))) d is in
          let second = and_then-ok (poly.quo o m g) (λ m'. Ok (first.value, m')) d first.next in
          let same : ◌≡◌ {A = List E × List E} (first.value, second.value) d = cc second.next in
          let qn = DivisionRule.quo-exact F b.interprets n g first.value kn k.kept g-ne-nil k.is_gcd.divides_left first.is in
          let qm = DivisionRule.quo-exact F b.interprets m g second.value km k.kept g-ne-nil k.is_gcd.divides_right second.is in
          subst (Divided F o valid meaning n m (of F b g)) {x = (first.value, second.value)} same
          (record { numerator_kept = qn.kept; denominator_kept = qm.kept; numerator = qn.equation; denominator = qm.equation })

  -- the cofactors of the greatest common divisor are coprime
  coprime-divided : (n m g : List E) (d : List E × List E) → KeepsGcd o F valid meaning g n m → Divided F o valid meaning n m (of F b g) d → IsCoprime F (of F b d.0) (of F b d.1)
  coprime-divided n m g d k c =
      let same = Gcd.gcd_unique F (of F b g) (of F b n) (of F b m) k.is_gcd k.is_monic in
      let z = Gcd.gcd-bezout F (of F b n) (of F b m) in
      record {
        left = z.left;
        right = z.right;
        equation =
            Degree.mul_polynomials_cancel F (of F b g) (z.left ⊗ of F b d.0 ⊕ z.right ⊗ of F b d.1) 𝟙 (Gcd.monic-nonzero F (of F b g) k.is_monic)
            (collect (of F b g) z.left (of F b d.0) z.right (of F b d.1) ∙ ap₂ (λ x y. z.left ⊗ x ⊕ z.right ⊗ y) (sym c.numerator) (sym c.denominator)
            ∙ sym z.equation ∙ sym same ∙ sym ((polynomials F).mul-one (of F b g)));
      }
    where
      collect : (g u n v m : Polynomial F) → g ⊗ (u ⊗ n ⊕ v ⊗ m) ≡ u ⊗ (n ⊗ g) ⊕ v ⊗ (m ⊗ g)
      collect g u n v m = ring (polynomials F) (g ∷ u ∷ n ∷ v ∷ m ∷ []) (search reading depth 30 fits 4000) refl

  -- ---- multiples by a constant other than 0
  -- lc(m) ≠ 0 for m ≠ 0
  pub last-ne-zero : (m : List E) → IsKept o valid m → ¬ (m ≡ []) → ¬ (meaning (poly.last o m) ≡ F.ring.zero)
  last-ne-zero m k n e =
      Degree.leading_coefficient-nonzero F (of F b m) (DivisionRule.polynomial_of-nonzero F b.interprets m k n) (GcdRule.leading_coefficient-polynomial_of F b.interprets m k ∙ e)

  -- the test of 0 fails for ⟦e⟧ ≠ 0
  pub not_zero : (e : E) → valid e → ¬ (meaning e ≡ F.ring.zero) → o.is_zero e ≡ false
  not_zero e v n = by_zero (o.is_zero e) refl
    where
      by_zero : (z : Bool) → o.is_zero e ≡ z → z ≡ false
      by_zero true z = absurd (n (b.interprets.zero_is e v z))
      by_zero false z = refl

  -- u = 1/lc(m)
  pub record Inverse (m : List E) (u : E) : Type 0 where
    pub is_valid : valid u
    pub times_last : F.ring.mul (meaning u) (meaning (poly.last o m)) ≡ F.ring.one

  -- the rule of 1/lc(m) gives that
  pub inverse-last : (m : List E) (u : E) → IsKept o valid m → ¬ (m ≡ []) → o.quotient o.one (poly.last o m) ≡ Ok u → Inverse m u
  inverse-last m u k n is =
      let v = last-valid F b m k.all_valid in
      let z = not_zero (poly.last o m) v (last-ne-zero m k n) in
      record {
        is_valid = b.interprets.quotient-valid o.one (poly.last o m) u b.interprets.one-valid v z is;
        times_last = b.interprets.quotient-means o.one (poly.last o m) u b.interprets.one-valid v z is ∙ b.interprets.one-means;
      }

  -- p = (u·p)·lc(m)
  pub scaled-back : (m p p' : List E) (u : E) → Inverse m u → of F b p' ≡ constant F (meaning u) ⊗ of F b p → of F b p ≡ of F b p' ⊗ constant F (meaning (poly.last o m))
  scaled-back m p p' u i e =
      sym (ap (λ q. q ⊗ constant F (meaning (poly.last o m))) e ∙ turn (constant F (meaning u)) (of F b p) (constant F (meaning (poly.last o m)))
      ∙ ap (λ c. c ⊗ of F b p) (sym (Degree.constant-mul F (meaning u) (meaning (poly.last o m))) ∙ ap (constant F) i.times_last ∙ Degree.constant-one F)
      ∙ Laws.one-mul (polynomials F) (of F b p))
    where
      turn : (u p l : Polynomial F) → u ⊗ p ⊗ l ≡ u ⊗ l ⊗ p
      turn u p l = ring (polynomials F) (u ∷ p ∷ l ∷ []) (search reading depth 30 fits 4000) refl

  factor-ne-zero : (x y : A) → F.ring.mul x y ≡ F.ring.one → ¬ (x ≡ F.ring.zero)
  factor-ne-zero x y e z = F.one-ne-zero (sym e ∙ ap (λ w. F.ring.mul w y) z ∙ Laws.zero-mul F.ring y)

  -- lc(u·p) = u·lc(p)
  leading-constant_mul : (c : A) (p : Polynomial F) → ¬ (c ≡ F.ring.zero) → leading_coefficient F (constant F c ⊗ p) ≡ F.ring.mul c (leading_coefficient F p)
  leading-constant_mul c p n =
      ap (λ k. coefficient F (constant F c ⊗ p) (pred k)) (Degree.size-constant_mul F c p n) ∙ Coefficients.coefficient-constant_mul F c p (pred (size F p))

  -- coprime polynomials stay coprime when they are multiplied by a unit
  pub coprime-multiples : (n m n' m' k : Polynomial F) → n ≡ n' ⊗ k → m ≡ m' ⊗ k → IsCoprime F n m → IsCoprime F n' m'
  coprime-multiples n m n' m' k en em c = record {
    left = c.left ⊗ k;
    right = c.right ⊗ k;
    equation = regroup c.left k n' c.right m' ∙ ap₂ (λ x y. c.left ⊗ x ⊕ c.right ⊗ y) (sym en) (sym em) ∙ c.equation;
  }
    where
      regroup : (u k n v m : Polynomial F) → u ⊗ k ⊗ n ⊕ v ⊗ k ⊗ m ≡ u ⊗ (n ⊗ k) ⊕ v ⊗ (m ⊗ k)
      regroup u k n v m = ring (polynomials F) (u ∷ k ∷ n ∷ v ∷ m ∷ []) (search reading depth 30 fits 4000) refl

  scaled-means : (n m : List E) (s : List E × List E) → IsKept o valid n → IsKept o valid m → ¬ (m ≡ []) → IsCoprime F (of F b n) (of F b m) →
      level.scaled o n m ≡ Ok s → Scaled F o valid meaning n m s
  unfolding level.scaled
  scaled-means n m s kn km some c is = by_one (o.is_one (poly.last o m)) refl is
    where
      by_one : (one : Bool) → o.is_one (poly.last o m) ≡ one →
          (if one then Ok (n, m) else and_then (o.quotient o.one (poly.last o m)) (λ u. and_then (poly.scaled o u n) (λ n'. and_then (poly.scaled o u m) (λ m'. Ok (n', m'))))) ≡ Ok s → Scaled F o valid meaning n m s
      by_one true one is =
          let same : ◌≡◌ {A = List E × List E} (n, m) s = cc in
          subst (Scaled F o valid meaning n m) same (record {
            is_reduced = record {
              numerator_kept = kn;
              denominator_kept = km;
              denominator-ne-zero = some;
              is_monic = b.tells_one.one_is (poly.last o m) (last-valid F b m km.all_valid) one;
              is_coprime = c;
            };
            factor = 𝟙;
            numerator = sym ((polynomials F).mul-one (of F b n));
            denominator = sym ((polynomials F).mul-one (of F b m));
          })
      by_one false one is =
          let inverse = and_then-ok (o.quotient o.one (poly.last o m)) (λ u. and_then (poly.scaled o u n) (λ n'. and_then (poly.scaled o u m) (λ m'. Ok (n', m')))) s is in
          let u = inverse.value in
          let first = and_then-ok (poly.scaled o u n) (λ n'. and_then (poly.scaled o u m) (λ m'. Ok (n', m'))) s inverse.next in
          let second = and_then-ok (poly.scaled o u m) (λ m'. Ok (first.value, m')) s first.next in
          let same : ◌≡◌ {A = List E × List E} (first.value, second.value) s = cc second.next in
          subst (Scaled F o valid meaning n m) {x = (first.value, second.value)} same
          (scaled-reduced n m first.value second.value u kn km some c (inverse-last m u km some inverse.is) first.is second.is)
        where
          scaled-reduced : (n m n' m' : List E) (u : E) → IsKept o valid n → IsKept o valid m → ¬ (m ≡ []) → IsCoprime F (of F b n) (of F b m) → Inverse m u →
              poly.scaled o u n ≡ Ok n' → poly.scaled o u m ≡ Ok m' → Scaled F o valid meaning n m (n', m')
          scaled-reduced n m n' m' u kn km some c i en em =
              let sn = PolynomialRules.scaled-polynomial F b.interprets u n n' i.is_valid kn.all_valid en in
              let sm = PolynomialRules.scaled-polynomial F b.interprets u m m' i.is_valid km.all_valid em in
              let lc : leading_coefficient F (of F b m') ≡ F.ring.one = ap (leading_coefficient F) sm.means ∙ leading-constant_mul (meaning u) (of F b m) (factor-ne-zero (meaning u) (meaning (poly.last o m)) i.times_last)
              ∙ ap (F.ring.mul (meaning u)) (GcdRule.leading_coefficient-polynomial_of F b.interprets m km) ∙ i.times_last in
              let bn = scaled-back m n n' u i sn.means in
              let bm = scaled-back m m m' u i sm.means in
              record {
                is_reduced = record {
                  numerator_kept = sn.kept;
                  denominator_kept = sm.kept;
                  denominator-ne-zero = λ e. Gcd.monic-nonzero F (of F b m') lc (ap (of F b) e ∙ PolynomialRules.polynomial_of-nil F b.interprets);
                  is_monic = sym (GcdRule.leading_coefficient-polynomial_of F b.interprets m' sm.kept) ∙ lc;
                  is_coprime = coprime-multiples (of F b n) (of F b m) (of F b n') (of F b m') (constant F (meaning (poly.last o m))) bn bm c;
                };
                factor = constant F (meaning (poly.last o m));
                numerator = bn;
                denominator = bm;
              }

  -- ---- the normal form
  -- the list of the one coefficient 1
  pub one-kept : IsKept o valid (o.one ∷ [])
  one-kept = record { all_valid = (b.interprets.one-valid, tt); ends_not_zero = rw (not_zero o.one b.interprets.one-valid (λ e. F.one-ne-zero (sym b.interprets.one-means ∙ e))) refl; degree_small = omega arith }

  -- n/1 is reduced
  pub whole-reduced : (n m : List E) → IsKept o valid n → IsKept o valid m → ¬ (m ≡ []) → poly.is_one o m ≡ true → IsReduced F o valid meaning n m
  whole-reduced n m kn km some one =
      let is = one_is F b m km.all_valid one in
      record {
        numerator_kept = kn;
        denominator_kept = km;
        denominator-ne-zero = some;
        is_monic = sym (GcdRule.leading_coefficient-polynomial_of F b.interprets m km) ∙ ap (leading_coefficient F) is ∙ Gcd.one-is_monic F;
        is_coprime = record { left = 𝟘; right = 𝟙; equation = ap (λ p. 𝟘 ⊗ of F b n ⊕ 𝟙 ⊗ p) is ∙ only (of F b n) };
      }
    where
      only : (n : Polynomial F) → 𝟘 ⊗ n ⊕ 𝟙 ⊗ 𝟙 ≡ 𝟙
      only n = ring (polynomials F) (n ∷ []) (search reading depth 30 fits 4000) refl

  zero-stands : (n m : List E) (e : Over E) → poly.is_zero o n ≡ true → Below o.zero ≡ e → Stands F o valid meaning t n m e
  zero-stands [] m e z is = subst (Stands F o valid meaning t [] m) is
      (record { is_valid = b.interprets.zero-valid; means = ap (λ x. F.ring.mul x (value F.ring meaning t m)) b.interprets.zero-means ∙ Laws.zero-mul F.ring (value F.ring meaning t m) })
  zero-stands (c ∷ n) m e z is = cc

  by_division : (n m : List E) (e : Over E) → IsKept o valid n → IsKept o valid m → ¬ (m ≡ []) →
      and_then (poly.gcd o n m) (λ g. and_then (level.divided o g n m) (λ d. and_then (level.scaled o d.0 d.1) (λ s. level.element o s.0 s.1))) ≡ Ok e → Stands F o valid meaning t n m e
  by_division n m e kn km some is =
      let first = and_then-ok (poly.gcd o n m) (λ g. and_then (level.divided o g n m) (λ d. and_then (level.scaled o d.0 d.1) (λ s. level.element o s.0 s.1))) e is in
      let g = first.value in
      let second = and_then-ok (level.divided o g n m) (λ d. and_then (level.scaled o d.0 d.1) (λ s. level.element o s.0 s.1)) e first.next in
      let d = second.value in
      let third = and_then-ok (level.scaled o d.0 d.1) (λ s. level.element o s.0 s.1) e second.next in
      let s = third.value in
      let k = GcdRule.gcd-is_gcd F b.interprets n m g kn km (λ no_n no_m. some no_m) first.is in
      let dm = divided-means n m g d kn km some k second.is in
      let some' : ¬ (d.1 ≡ []) = λ z. DivisionRule.polynomial_of-nonzero F b.interprets m km some (dm.denominator ∙ ap (λ p. p ⊗ of F b g) (ap (of F b) z ∙ PolynomialRules.polynomial_of-nil F b.interprets) ∙ Laws.zero-mul (polynomials F) (of F b g)) in
      let sm = scaled-means d.0 d.1 s dm.numerator_kept dm.denominator_kept some' (coprime-divided n m g d k dm) third.is in
      stands-multiple F b n m d.0 d.1 (of F b g) e dm.numerator dm.denominator
      (stands-multiple F b d.0 d.1 s.0 s.1 sm.factor e sm.numerator sm.denominator (element-stands F b s.0 s.1 e sm.is_reduced third.next))

  -- the normal form of (n, m) stands for n(t)/m(t)
  pub normal_form-stands : (n m : List E) (e : Over E) → IsKept o valid n → IsKept o valid m → ¬ (m ≡ []) → level.normal_form o n m ≡ Ok e → Stands F o valid meaning t n m e
  unfolding level.normal_form
  normal_form-stands n m e kn km some is = by_tests (poly.is_zero o n) (poly.is_one o m) refl refl is
    where
      by_tests : (zero one : Bool) → poly.is_zero o n ≡ zero → poly.is_one o m ≡ one →
          (if zero then Ok (Below o.zero) else if one then level.element o n m else
          and_then (poly.gcd o n m) (λ g. and_then (level.divided o g n m) (λ d. and_then (level.scaled o d.0 d.1) (λ s. level.element o s.0 s.1)))) ≡ Ok e →
          Stands F o valid meaning t n m e
      by_tests true one z u is = zero-stands n m e z cc
      by_tests false true z u is = element-stands F b n m e (whole-reduced n m kn km some u) is
      by_tests false false z u is = by_division n m e kn km some is
