-- The value of an expression in which z may occur, at z as a variable beyond those of the tower: the polynomial has the written value, and no other one has it.
use Rattle.std.specs.Prelude.{nat_le, cond, if◌then◌else◌, unwrap_or}
use Rattle.std.proofs.Common.{◌≡◌, ℕ, zero as nat_zero, suc, ◌≤◌, List, [], ◌∷◌, length, Bool, true, false, Option, None, Some, Ok, Err, refl, sym, ap, ap₂, subst, ◌∙◌, arith, pos}
use Rattle.std.proofs.lemmas.Bool.{cond_both, leb-true}
use Rattle.risch_ring.proofs.Expression.{reading}
use Rattle.risch_ring.proofs.Solver.{ring}
use Rattle.risch_univariate.specs.Polynomial.{constant as constant_polynomial}
use Rattle.risch_univariate.specs.Degree.{size}
use Rattle.risch_univariate.proofs.Degree.{size-constant-le}
use Rattle.risch_mean.specs.Element as mean
use Rattle.risch_mean.specs.Element.{InField, add, mul, neg, integer, ◌+ₑ◌, ◌-ₑ◌, ◌*ₑ◌, ◌/ₑ◌, is_zero_test}
use Rattle.risch_mean.specs.ElementField.{elements, ◌^ₑ◌}
use Rattle.risch_mean.specs.ElementFieldLaws.{mul-one, mul_assoc}
use Rattle.risch_mean.specs.Written.{written_value, of_one, of_two}
use Rattle.risch_mean.proofs.PowerLaws.{power-zero, power-suc}
use Rattle.risch_mean.proofs.FieldClosure.{InField_more}
use Rattle.risch_frac.specs.Fraction.{whole}
use Rattle.risch_frac.proofs.Units.{whole-is_lowest}
use Rattle.risch_field.specs.Checked.{Checked, map_ok}
use Rattle.risch_field.proofs.CheckedSteps.{and_then-ok}
use Rattle.risch_polynomial.specs.Poly as poly
use Rattle.risch_polynomial_theory.proofs.PolynomialValues as Values
use Rattle.risch_level.specs.Levels.{Element, element}
use Rattle.risch_level.specs.Accessors as part
use Rattle.risch_element_theory.specs.ElementMeaning.{IsBelow, TellsOne}
use Rattle.risch_element_theory.specs.WholeTower.{IsElement, meaning, IsPolynomial, polynomial, value_of}
use Rattle.risch_element_theory.proofs.Levels.{level_below, level_tells_one}
use Rattle.risch_element_theory.proofs.PolynomialRules as Rules
use Rattle.risch_element_theory.proofs.ElementLaws.{one-is_element, quotient-is_element, quotient-stands, nonzero-stands}
use Rattle.risch_element_theory.proofs.ElementWithin.{element-within}
use Rattle.risch_element_theory.proofs.ElementDerivation.{element-lies}
use Rattle.risch_element_theory.proofs.ElementParts.{number-is_element, number-stands, variable-is_element, variable-stands}
use Rattle.risch_element_theory.proofs.ElementPolynomials as Polynomials
use Rattle.risch_element_theory.proofs.ElementPolynomials.{element_interprets}
use Rattle.risch_element_theory.proofs.ElementsTranscendence as Transcendence
use Rattle.risch_element_theory.proofs.ElementsQuotients as Quotients
use Rattle.risch_element_theory.proofs.PartsMeaning.{quotient_of_product}
use Rattle.risch_expression.specs.Results.{and_next, map_value}
use Rattle.risch_expression.specs.Tree.{Tree, number, variable, root, negated, sum, difference, product, quotient, power, expression_of, IsOver}
use Rattle.risch_expression.specs.Evaluation.{Valued, valued, constant, constant_term, number_value, variable_value, root_value, by_inverse, divided, ratio, operate, multiplied, power_of, evaluate}
use Rattle.risch_expression.specs.declared.program.Operation.TheVariants.{Sum, Difference, Product, Quotient}
use Rattle.risch_expression.proofs.Standing.{constant_term-is_element, valued-ok, ratio-formed, divisor-found}
use Rattle.risch_expression.proofs.EvaluationMeaning.{evaluate-means}
use Rattle.risch_round_trip.proofs.PrintedTerms.{over-one}

-- z
abbrev pub z : mean.Element
z = mean.variable 10

-- the value of p at z
abbrev pub at_z : List Element → mean.Element
at_z p = value_of p z

-- ---- a polynomial is determined by its value at z
tells_one : TellsOne elements element IsElement meaning
unfolding element IsElement meaning
tells_one = level_tells_one 5

z_below : IsBelow elements element IsElement meaning (InField 10) z
z_below = record {
  interprets = element_interprets;
  tells_one = tells_one;
  is_closed = (level_below 10).is_closed;
  lies = λ e v. InField_more 5 10 (meaning e) (omega arith) (element-lies 5 e v (element-within 5 (omega arith) e));
  transcendental = (level_below 10).transcendental;
}

pub same_at_z : (p q : List Element) → IsPolynomial p → IsPolynomial q → at_z p ≡ at_z q → p ≡ q
same_at_z p q kp kq e =
    Rules.polynomial_of-injective elements element_interprets p q kp kq
    (Transcendence.same_of_value elements (InField 10) z_below.is_closed z z_below.transcendental (polynomial p) (polynomial q)
    (Quotients.Over-of elements z_below p kp.all_valid) (Quotients.Over-of elements z_below q kq.all_valid)
    (Quotients.at-is elements z_below p ∙ e ∙ sym (Quotients.at-is elements z_below q)))

over-constant : (g : mean.Element) → InField 10 g → Transcendence.Over elements (InField 10) z_below.is_closed (constant_polynomial elements g)
unfolding constant_polynomial
over-constant g h = Transcendence.Over-of_list elements (InField 10) z_below.is_closed (g ∷ []) (h, tt)

-- a polynomial whose value lies in the tower is a constant
pub short_at_z : (q : List Element) (g : mean.Element) → IsPolynomial q → InField 5 g → at_z q ≡ g → length q ≤ 1
short_at_z q g k h e =
    let inside = InField_more 5 10 g (omega arith) h in
    let same : polynomial q ≡ constant_polynomial elements g
    = Transcendence.same_of_value elements (InField 10) z_below.is_closed z z_below.transcendental (polynomial q) (constant_polynomial elements g)
    (Quotients.Over-of elements z_below q k.all_valid) (over-constant g inside) (Quotients.at-is elements z_below q ∙ e ∙ sym (Transcendence.at-constant elements z g)) in
    let long : size elements (polynomial q) ≡ length q = Rules.size-polynomial_of elements element_interprets q k in
    let equal : size elements (polynomial q) ≡ size elements (constant_polynomial elements g) = ap (size elements) same in
    let low = size-constant-le elements g in
    omega (arith, long, equal, low)

-- ---- constants
alone : (t c : mean.Element) → c +ₑ t *ₑ mean.zero ≡ c
alone t c = ring elements.ring (t ∷ (c ∷ [])) (search reading depth 20) refl

constant-at : (e : Element) → IsElement e → at_z (constant e) ≡ meaning e
constant-at e v = by_test (element.is_zero e) refl
  where
    by_test : (t : Bool) → element.is_zero e ≡ t → at_z (if t then [] else e ∷ []) ≡ meaning e
    by_test true is = sym (element_interprets.zero_is e v is)
    by_test false is = alone z (meaning e)

pub constant_term-at : (p : List Element) → IsPolynomial p → length p ≤ 1 → meaning (constant_term p) ≡ at_z p
constant_term-at [] k h = element_interprets.zero-means
constant_term-at (c ∷ []) k h = by_test (element.is_zero c) refl ∙ sym (alone z (meaning c))
  where
    by_test : (t : Bool) → element.is_zero c ≡ t → meaning (unwrap_or (if t then None else Some c) element.zero) ≡ meaning c
    by_test true is = element_interprets.zero-means ∙ sym (element_interprets.zero_is c k.all_valid.0 is)
    by_test false is = refl
constant_term-at (c ∷ (d ∷ p)) k h = absurd (omega arith)

root-at : at_z root_value ≡ z
root-at = ap₂ (λ a b. a +ₑ z *ₑ (b +ₑ z *ₑ mean.zero)) element_interprets.zero-means element_interprets.one-means ∙ only z
  where
    only : (t : mean.Element) → mean.zero +ₑ t *ₑ (mean.one +ₑ t *ₑ mean.zero) ≡ t
    only t = ring elements.ring (t ∷ []) (search reading depth 20) refl

-- ---- quotients
map_ok-is : {A B : Type 0} (f : A → B) (rule : Checked A) (r : B) → map_ok f rule ≡ Ok r → (a : A) × ((rule ≡ Ok a) × (f a ≡ r))
map_ok-is f (Ok a) r h = (a, (refl, cc))
map_ok-is f (Err stop) r h = absurd (cc)

divided-at : (p r : List Element) (c : Element) → IsPolynomial p → IsElement c → element.is_zero c ≡ false → divided p c ≡ Ok r → at_z r ≡ at_z p /ₑ meaning c
unfolding divided
divided-at p r c k v t h =
    cond_both (nat_le (length p) 1) (map_ok constant (element.quotient (constant_term p) c)) (by_inverse p c) (λ (rule : Checked (List Element)). rule ≡ Ok r → at_z r ≡ at_z p /ₑ meaning c)
    (λ short k. of_element (leb-true (length p) 1 short) (map_ok-is constant (element.quotient (constant_term p) c) r k)) (λ long k. of_polynomial k) h
  where
    exchange : (a b d : mean.Element) → (a *ₑ b) *ₑ d ≡ (a *ₑ d) *ₑ b
    exchange a b d = ring elements.ring (a ∷ (b ∷ (d ∷ []))) (search reading depth 20) refl

    one-times : (a : mean.Element) → mean.one *ₑ a ≡ a
    one-times a = ring elements.ring (a ∷ []) (search reading depth 20) refl

    some : ¬ (meaning c ≡ mean.zero)
    some = nonzero-stands c v t

    of_element : length p ≤ 1 → (d : Element) × ((element.quotient (constant_term p) c ≡ Ok d) × (constant d ≡ r)) → at_z r ≡ at_z p /ₑ meaning c
    of_element short (d, (e, i)) =
        let valid = constant_term-is_element p k in
        ap at_z (sym i) ∙ constant-at d (quotient-is_element (constant_term p) c d valid v t e)
        ∙ quotient_of_product elements (meaning d) (meaning c) (at_z p) some (quotient-stands (constant_term p) c d valid v t e ∙ constant_term-at p k short)

    of_polynomial : by_inverse p c ≡ Ok r → at_z r ≡ at_z p /ₑ meaning c
    of_polynomial e =
        let two = and_then-ok (element.quotient element.one c) (λ u. poly.scaled element u p) r e in
        let u = two.value in
        let valid = quotient-is_element element.one c u one-is_element v t two.is in
        let unit : meaning u *ₑ meaning c ≡ mean.one = quotient-stands element.one c u one-is_element v t two.is ∙ element_interprets.one-means in
        (Values.scaled-means element_interprets u p r valid k.all_valid two.next).value_is z
        ∙ quotient_of_product elements (meaning u *ₑ at_z p) (meaning c) (at_z p) some (exchange (meaning u) (at_z p) (meaning c) ∙ ap (λ o. o *ₑ at_z p) unit ∙ one-times (at_z p))

-- ---- powers
multiplied-at : (formed p r : List Element) (k : ℕ) → IsPolynomial formed → IsPolynomial p → multiplied formed p k ≡ Ok r → at_z r ≡ at_z formed *ₑ at_z p ^ₑ k
multiplied-at formed p r nat_zero j l h = let is : r ≡ formed = cc in ap at_z is ∙ sym (mul-one (at_z formed)) ∙ ap (mul (at_z formed)) (sym (power-zero (at_z p)))
multiplied-at formed p r (suc k) j l h =
    let two = and_then-ok (poly.product element formed p) (λ q. multiplied q p k) r h in
    multiplied-at two.value p r k (Polynomials.product-is_polynomial formed p two.value j l two.is) l two.next
    ∙ ap (λ v. v *ₑ at_z p ^ₑ k) ((Values.product-means element_interprets formed p two.value j.all_valid l.all_valid two.is).value_is z)
    ∙ mul_assoc (at_z formed) (at_z p) (at_z p ^ₑ k) ∙ ap (mul (at_z formed)) (sym (power-suc (at_z p) k))

power-at : (p r : List Element) (k : ℕ) → IsPolynomial p → power_of p k ≡ Ok r → at_z r ≡ at_z p ^ₑ k
unfolding power_of
power-at p r nat_zero l h = let is : r ≡ constant element.one = cc in ap at_z is ∙ constant-at element.one one-is_element ∙ element_interprets.one-means ∙ sym (power-zero (at_z p))
power-at p r (suc k) l h = multiplied-at p p r k l l h ∙ sym (power-suc (at_z p) k)

-- ---- what is formed
record TwoFormed (va vb : Valued (List Element)) (operation : List Element → List Element → Valued (List Element)) (r : List Element) : Type 0 where
  p : List Element
  q : List Element
  left_is : va ≡ Ok p
  right_is : vb ≡ Ok q
  formed : operation p q ≡ Ok r

two_formed : (va vb : Valued (List Element)) (operation : List Element → List Element → Valued (List Element)) (r : List Element) → and_next va (λ p. and_next vb (operation p)) ≡ Ok r →
    TwoFormed va vb operation r
two_formed (Ok p) (Ok q) operation r h = record { p = p; q = q; left_is = refl; right_is = refl; formed = h }
two_formed (Ok p) (Err fault) operation r h = absurd (cc)
two_formed (Err fault) vb operation r h = absurd (cc)

record OneFormed (va : Valued (List Element)) (operation : List Element → Valued (List Element)) (r : List Element) : Type 0 where
  p : List Element
  is : va ≡ Ok p
  formed : operation p ≡ Ok r

one_formed : (va : Valued (List Element)) (operation : List Element → Valued (List Element)) (r : List Element) → and_next va operation ≡ Ok r → OneFormed va operation r
one_formed (Ok p) operation r h = record { p = p; is = refl; formed = h }
one_formed (Err fault) operation r h = absurd (cc)

mapped_formed : (va : Valued (List Element)) (f : List Element → List Element) (r : List Element) → map_value f va ≡ Ok r → OneFormed va (λ p. Ok (f p)) r
mapped_formed (Ok p) f r h = record { p = p; is = refl; formed = h }
mapped_formed (Err fault) f r h = absurd (cc)

-- ---- the written value
one_value : (h : mean.Element → mean.Element) (a : Option mean.Element) (f v : mean.Element) → ((u : mean.Element) → a ≡ Some u → f ≡ u) → of_one h a ≡ Some v → h f ≡ v
one_value h None f v k e = absurd (cc)
one_value h (Some u) f v k e = let is : h u ≡ v = cc in ap h (k u refl) ∙ is

two_values : (h : mean.Element → mean.Element → Option mean.Element) (a b : Option mean.Element) (f g v : mean.Element) → ((u : mean.Element) → a ≡ Some u → f ≡ u) →
    ((u : mean.Element) → b ≡ Some u → g ≡ u) → of_two h a b ≡ Some v → h f g ≡ Some v
two_values h None b f g v k l e = absurd (cc)
two_values h (Some t) None f g v k l e = absurd (cc)
two_values h (Some t) (Some u) f g v k l e = ap₂ h (k t refl) (l u refl) ∙ e

same_some : (x y : mean.Element) → Some x ≡ Some y → x ≡ y
same_some x y e = cc

same_ok : (p q : List Element) → ◌≡◌ {A = Valued (List Element)} (Ok p) (Ok q) → p ≡ q
same_ok p q e = cc

ratio_value : (f g v : mean.Element) → cond (is_zero_test g) None (Some (f /ₑ g)) ≡ Some v → f /ₑ g ≡ v
ratio_value f g v h = by_test (is_zero_test g) h
  where
    by_test : (t : Bool) → cond t None (Some (f /ₑ g)) ≡ Some v → f /ₑ g ≡ v
    by_test true e = absurd (cc)
    by_test false e = cc

-- The polynomial that an expression over the first n variables has as its value is, at z, the written value of the expression.
module _ (n : ℕ) (with_z : Bool) (most : n ≤ 5) where
  kept : (a : Tree) (p : List Element) → IsOver n with_z a → evaluate a ≡ Ok p → IsPolynomial p
  kept a p over h = (evaluate-means n with_z a p over h).lies.kept

  divisor_short : (q : List Element) (c : Element) (left : ℕ) (p r : List Element) → ratio left p q ≡ Ok r → length q ≤ 1
  unfolding ratio
  divisor_short q c left p r h =
      cond_both (nat_le (length q) 1) _ (Err _) (λ (rule : Valued (List Element)). rule ≡ Ok r → length q ≤ 1) (λ short k. leb-true (length q) 1 short) (λ long k. absurd (cc)) h

  pub evaluate-at : (a : Tree) (p : List Element) (v : mean.Element) → IsOver n with_z a → evaluate a ≡ Ok p → written_value (expression_of a) ≡ Some v → at_z p ≡ v
  unfolding operate number_value variable_value
  evaluate-at (number k) p v over h w =
      let is : p ≡ number_value (whole k) = cc in
      let valid : IsElement (part.number 5 (whole k)) = number-is_element (whole k) (whole-is_lowest k over) in
      ap at_z is ∙ constant-at (part.number 5 (whole k)) valid ∙ number-stands (whole k) ∙ over-one (integer (pos k)) ∙ same_some (integer (pos k)) v w
  evaluate-at (variable i) p v over h w =
      let is : p ≡ variable_value i = cc in
      ap at_z is ∙ constant-at (part.variable 5 i) (variable-is_element i) ∙ variable-stands i (omega arith) ∙ same_some (mean.variable i) v w
  evaluate-at root p v over h w = let is : p ≡ root_value = cc in ap at_z is ∙ root-at ∙ same_some z v w
  evaluate-at (negated a) p v over h w =
      let o = mapped_formed (evaluate a) (poly.negatives element) p h in
      let is : p ≡ poly.negatives element o.p = sym (same_ok (poly.negatives element o.p) p o.formed) in
      ap at_z is ∙ (Values.negatives-means element_interprets o.p (kept a o.p over o.is).all_valid).value_is z
      ∙ one_value neg (written_value (expression_of a)) (at_z o.p) v (λ u e. evaluate-at a o.p u over o.is e) w
  evaluate-at (sum a b) p v over h w =
      let o = two_formed (evaluate a) (evaluate b) (operate Sum) p h in
      let formed = valued-ok (poly.sum element o.p o.q) p o.formed in
      (Values.sum-means element_interprets o.p o.q p (kept a o.p over.0 o.left_is).all_valid (kept b o.q over.1 o.right_is).all_valid formed).value_is z
      ∙ same_some (at_z o.p +ₑ at_z o.q) v
      (two_values (λ f g. Some (f +ₑ g)) (written_value (expression_of a)) (written_value (expression_of b)) (at_z o.p) (at_z o.q) v (λ u e. evaluate-at a o.p u over.0 o.left_is e)
      (λ u e. evaluate-at b o.q u over.1 o.right_is e) w)
  evaluate-at (difference a b) p v over h w =
      let o = two_formed (evaluate a) (evaluate b) (operate Difference) p h in
      let formed = valued-ok (poly.sum element o.p (poly.negatives element o.q)) p o.formed in
      let minus = Values.negatives-means element_interprets o.q (kept b o.q over.1 o.right_is).all_valid in
      (Values.sum-means element_interprets o.p (poly.negatives element o.q) p (kept a o.p over.0 o.left_is).all_valid minus.all_valid formed).value_is z
      ∙ ap (add (at_z o.p)) (minus.value_is z)
      ∙ same_some (at_z o.p -ₑ at_z o.q) v
      (two_values (λ f g. Some (f -ₑ g)) (written_value (expression_of a)) (written_value (expression_of b)) (at_z o.p) (at_z o.q) v (λ u e. evaluate-at a o.p u over.0 o.left_is e)
      (λ u e. evaluate-at b o.q u over.1 o.right_is e) w)
  evaluate-at (product a b) p v over h w =
      let o = two_formed (evaluate a) (evaluate b) (operate Product) p h in
      let formed = valued-ok (poly.product element o.p o.q) p o.formed in
      (Values.product-means element_interprets o.p o.q p (kept a o.p over.0 o.left_is).all_valid (kept b o.q over.1 o.right_is).all_valid formed).value_is z
      ∙ same_some (at_z o.p *ₑ at_z o.q) v
      (two_values (λ f g. Some (f *ₑ g)) (written_value (expression_of a)) (written_value (expression_of b)) (at_z o.p) (at_z o.q) v (λ u e. evaluate-at a o.p u over.0 o.left_is e)
      (λ u e. evaluate-at b o.q u over.1 o.right_is e) w)
  evaluate-at (quotient left a b) p v over h w =
      let o = two_formed (evaluate a) (evaluate b) (operate (Quotient left)) p h in
      let formed = ratio-formed left o.p o.q p o.formed in
      let c = formed.divisor in
      let found = divisor-found o.q c formed.found in
      let kq = kept b o.q over.1 o.right_is in
      let valid : IsElement c = subst IsElement found.is (constant_term-is_element o.q kq) in
      let divisor_is : meaning c ≡ at_z o.q = ap meaning (sym found.is) ∙ constant_term-at o.q kq (divisor_short o.q c left o.p p o.formed) in
      divided-at o.p p c (kept a o.p over.0 o.left_is) valid found.not_zero formed.formed ∙ ap (λ d. at_z o.p /ₑ d) divisor_is
      ∙ ratio_value (at_z o.p) (at_z o.q) v
      (two_values (λ f g. cond (is_zero_test g) None (Some (f /ₑ g))) (written_value (expression_of a)) (written_value (expression_of b)) (at_z o.p) (at_z o.q) v
      (λ u e. evaluate-at a o.p u over.0 o.left_is e) (λ u e. evaluate-at b o.q u over.1 o.right_is e) w)
  evaluate-at (power a k) p v over h w =
      let o = one_formed (evaluate a) (λ q. valued (power_of q k)) p h in
      power-at o.p p k (kept a o.p over o.is) (valued-ok (power_of o.p k) p o.formed)
      ∙ one_value (λ f. f ^ₑ k) (written_value (expression_of a)) (at_z o.p) v (λ u e. evaluate-at a o.p u over o.is e) w
