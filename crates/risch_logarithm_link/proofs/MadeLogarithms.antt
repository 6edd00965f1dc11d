-- What the rule makes of R and S over the field below a level: the argument ordered by powers of z, as elements of the level, has the values at t of that of the theory.
--     made-stands, made-is_part, made-is_normal      a logarithm that the rule makes
use Rattle.std.specs.Prelude.{map, max, nat_eq, nat_le, if◌then◌else◌}
use Rattle.std.proofs.Common.{◌≡◌, refl, sym, ap, ap₂, ◌∙◌, ℕ, zero, suc, ◌+◌, ◌-◌, ◌≤◌, ◌<◌, Bool, true, false, ◌&&◌, List, [], ◌∷◌, ◌++◌, length, get_or, Ok, Err, arith, subst}
use Rattle.std.proofs.lemmas.List.{length-append, get_or_append_left, get_or_past, length-map}
use Rattle.std.proofs.lemmas.Bool.{eqb-true, eqb-false, leb-true}
use native.Mathlib.Decide.{dec_le}
use mathlib.Core.Logic.{∥∥₁_prop}
use Rattle.risch_ring.specs.CommRing.{CommRing, Field, RingMap}
use Rattle.risch_ring.proofs.Laws as Laws
use Rattle.risch_univariate.specs.Polynomial.{Polynomial, of_list, coefficient, constant}
use Rattle.risch_univariate.specs.PolynomialRing.{polynomials}
use Rattle.risch_univariate.specs.Degree.{size, IsMonic}
use Rattle.risch_univariate.proofs.Degree as Degree
use Rattle.risch_univariate.proofs.Evaluation as Evaluation
use Rattle.risch_ring.proofs.RingMaps.{identity_map}
use Rattle.risch_fraction_field.specs.FractionField.{fractions}
use Rattle.risch_extension.specs.LinearFactors as LinearFactors
use Rattle.risch_extension.specs.LinearFactors.{linear}
use Rattle.risch_residue_theory.specs.BivariatePolynomial.{coefficient_at, by_powers}
use Rattle.risch_residue_theory.specs.RuleLogarithm.{RuleLogarithm, at_point}
use Rattle.risch_mean.specs.Element as mean
use Rattle.risch_mean.specs.Element.{InField, variable}
use Rattle.risch_mean.specs.ElementField.{elements}
use Rattle.risch_mean.specs.Univariate.{value_at}
use Rattle.risch_mean.proofs.Subfield.{Subfield, inclusion, all_included}
use Rattle.risch_field.specs.Checked.{Checked, and_then}
use Rattle.risch_field.specs.declared.Fail.TheVariants.{Size}
use Rattle.risch_field.proofs.CheckedSteps.{and_then-ok, if-ok}
use Rattle.risch_polynomial.specs.Poly as poly
use Rattle.risch_polynomial_theory.specs.Meaning.{AllValid, value}
use Rattle.risch_level.specs.Levels.{Element, element}
use Rattle.risch_element_theory.specs.WholeTower.{IsElement, IsPolynomial, meaning, polynomial, Within, AllWithin}
use Rattle.risch_element_theory.proofs.ElementPolynomials as Polynomials
use Rattle.risch_element_theory.proofs.ElementPolynomials.{element_interprets}
use Rattle.risch_element_theory.proofs.GcdRule as GcdRule
use Rattle.risch_element_theory.proofs.PolynomialsWithin.{trimmed-within}
use Rattle.risch_polynomial_theory.proofs.PolynomialValues as Values
use Rattle.risch_monomial.specs.LevelElements.{of_polynomial}
use Rattle.risch_monomial.proofs.LevelElements.{IsValueOf, of_polynomial-stands}
use Rattle.risch_monomial.proofs.LevelPolynomials.{at, at-polynomial}
use Rattle.risch_frac.specs.Fraction.{IsLowest}
use Rattle.risch_rootsum.specs.Algebra.{modulus, IsMember, IsModulus}
use Rattle.risch_rootsum.specs.Derivative.{is_linear, argument}
use Rattle.risch_rootsum.specs.DerivativeMeaning.{IsLogPart}
use Rattle.risch_rootsum.specs.declared.integral.LogPart.{LogPart}
use Rattle.risch_sub.specs.RemainderSequence.{InZ, Member}
use Rattle.risch_logarithm_theory.specs.FieldBelow.{below, included_polynomial, value_below}
use Rattle.risch_logarithm_theory.specs.LogarithmElements.{StandsForLogarithm, IsNormalPart}
use Rattle.risch_logarithm_theory.proofs.FieldBelow as Below
use Rattle.risch_logarithm_theory.proofs.MappedPolynomials as Mapped
use Rattle.risch_logarithm_theory.proofs.LogarithmArguments.{value-coefficient, value-at_point}
use Rattle.risch_logarithm_rules.specs.Logarithms.{coefficients_at, polynomial_at, element_at, by_powers_from, width, power_count, logarithm, fractions_of}
use Rattle.risch_logarithm_link.proofs.FirstMembers.{coefficient-stands, trimmed-short}
use Rattle.risch_logarithm_link.proofs.StandingPolynomials as Standing
use Rattle.risch_logarithm_link.proofs.StandingPolynomials.{StandsFor}
use Rattle.risch_logarithm_link.proofs.StandingMembers.{AreAt}
use Rattle.risch_logarithm_link.proofs.RationalModuli.{modulus-same, fractions-lowest, fractions-length, fractions-modulus}
use Rattle.risch_logarithm_link.proofs.StandingLogarithms.{IsMadeOf}
use Rattle.risch_logarithm_link.proofs.VariablesOccurring.{within-of_lies}

value-is : (t : mean.Element) (p : List Element) → value elements.ring meaning t p ≡ value_at elements.ring t (map meaning p)
value-is t [] = refl
value-is t (c ∷ p) = ap (λ (x : mean.Element). mean.add (meaning c) (mean.mul t x)) (value-is t p)

coefficient-valid : (p : List Element) (k : ℕ) → AllValid IsElement p → IsElement (poly.coefficient element p k)
coefficient-valid [] k all = element_interprets.zero-valid
coefficient-valid (c ∷ p) zero all = all.0
coefficient-valid (c ∷ p) (suc k) all = coefficient-valid p k all.1

coefficient-past : (p : List Element) (k : ℕ) → length p ≤ k → poly.coefficient element p k ≡ element.zero
coefficient-past [] k l = refl
coefficient-past (c ∷ p) zero l = absurd (omega (arith, l))
coefficient-past (c ∷ p) (suc k) l = coefficient-past p k (omega (arith, l))

-- the list without zeros at its end, within its limits
record IsSizedList (p r : List Element) : Type 0 where
  same : r ≡ poly.trimmed element p
  short : length r ≤ 256
  light : poly.weight element r ≤ 65536

both-true : (x y : Bool) → (x && y) ≡ true → (x ≡ true) × (y ≡ true)
both-true true y e = (refl, e)
both-true false y e = cc

sized-list : (p r : List Element) → poly.sized element (poly.trimmed element p) ≡ Ok r → IsSizedList p r
sized-list p r e = by_test (nat_le (length (poly.trimmed element p)) 256 && nat_le (poly.weight element (poly.trimmed element p)) 65536) refl e
  where
    by_test : (t : Bool) → (nat_le (length (poly.trimmed element p)) 256 && nat_le (poly.weight element (poly.trimmed element p)) 65536) ≡ t
        → (if t then Ok (poly.trimmed element p) else Err Size) ≡ Ok r → IsSizedList p r
    by_test true t e =
        let same : poly.trimmed element p ≡ r = cc in
        let both = both-true (nat_le (length (poly.trimmed element p)) 256) (nat_le (poly.weight element (poly.trimmed element p)) 65536) t in
        record {
          same = sym same;
          short = subst (λ (r : List Element). length r ≤ 256) same (leb-true (length (poly.trimmed element p)) 256 both.0);
          light = subst (λ (r : List Element). poly.weight element r ≤ 65536) same (leb-true (poly.weight element (poly.trimmed element p)) 65536 both.1);
        }
    by_test false t e = cc

module _ (level : ℕ) (low : level ≤ 4) where
  abbrev K : Field (Subfield level)
  K = below level

  abbrev f : RingMap (below level).ring elements.ring
  f = inclusion level

  -- ---- the coefficients at z^k
  -- the images of the coefficients at z^k
  coefficients-images : (S : Member) (cs : List (Polynomial (below level))) (k : ℕ) → AreAt (below level) (inclusion level) S (coefficient_at (below level) cs) → length cs ≡ length S
      → all_included level (map (λ c. coefficient (below level) c k) cs) ≡ map meaning (coefficients_at k S)
  coefficients-images [] [] k h e = refl
  coefficients-images [] (c ∷ cs) k h e = absurd (omega (arith, e))
  coefficients-images (p ∷ S) [] k h e = absurd (omega (arith, e))
  coefficients-images (p ∷ S) (c ∷ cs) k h e =
      ap₂ (λ (x : mean.Element) (l : List mean.Element). x ∷ l) (sym (Below.inclusion-apply level (coefficient K c k)) ∙ coefficient-stands K f p c k (h 0)) (coefficients-images S cs k (λ i. h (suc i)) (omega (arith, e)))

  coefficients-valid : (S : Member) (g : ℕ → Polynomial (below level)) (k : ℕ) → AreAt (below level) (inclusion level) S g → AllValid IsElement (coefficients_at k S)
  coefficients-valid [] g k h = tt
  coefficients-valid (p ∷ S) g k h = (coefficient-valid p k (h 0).kept.all_valid, coefficients-valid S (λ i. g (suc i)) k (λ i. h (suc i)))

  coefficients-within : (S : Member) (g : ℕ → Polynomial (below level)) (k : ℕ) → AreAt (below level) (inclusion level) S g → AllWithin level (coefficients_at k S)
  coefficients-within [] g k h = tt
  coefficients-within (p ∷ S) g k h = (
    within-of_lies level (poly.coefficient element p k) (coefficient-valid p k (h 0).kept.all_valid)
        (subst (λ (x : mean.Element). ∥ InField level x ∥₁) (sym (Below.inclusion-apply level (coefficient K (g 0) k)) ∙ coefficient-stands K f p (g 0) k (h 0)) (coefficient K (g 0) k).lies),
    coefficients-within S (λ i. g (suc i)) k (λ i. h (suc i)),
  )

  -- ---- one element
  -- Σ (c_i)_k·t^i
  abbrev value-at : Member → ℕ → mean.Element
  value-at S k = value_at elements.ring (variable level) (map meaning (coefficients_at k S))

  -- e lies in the level and has this value
  record IsPower (S : Member) (k : ℕ) (e : Element) : Type 0 where
    normal : IsElement e
    within : Within (level + 1) e
    value : meaning e ≡ value_at elements.ring (variable level) (map meaning (coefficients_at k S))

  element-is : (S : Member) (g : ℕ → Polynomial (below level)) (k : ℕ) (e : Element) → AreAt (below level) (inclusion level) S g → element_at level k S ≡ Ok e → IsPower S k e
  unfolding element_at polynomial_at
  element-is S g k e h is =
      let s = and_then-ok (poly.sized element (poly.trimmed element (coefficients_at k S))) (of_polynomial level) e is in
      let p = sized-list (coefficients_at k S) s.value s.is in
      let valid = coefficients-valid S g k h in
      let kept = Polynomials.trimmed-is_polynomial (coefficients_at k S) s.value valid (subst (λ (r : List Element). length r ≤ 256) p.same p.short) p.same in
      let within = trimmed-within level (coefficients_at k S) s.value (coefficients-within S g k h) p.same in
      let v = of_polynomial-stands level s.value e low kept within s.next in
      record {
        normal = v.is_element;
        within = v.within;
        value = v.value ∙ ap (at level) (Polynomials.trimmed-stands (coefficients_at k S) s.value valid p.same) ∙ at-polynomial level (coefficients_at k S) ∙ value-is (variable level) (coefficients_at k S);
      }

  -- ---- the elements in their order
  record ArePowers (S : Member) (k steps : ℕ) (formed r : List Element) : Type 0 where
    long : length r ≡ length formed + steps
    first : (i : ℕ) → i < length formed → get_or r i element.zero ≡ get_or formed i element.zero
    each : (i : ℕ) → i < steps → IsPower S (k + i) (get_or r (length formed + i) element.zero)

  push-length : (formed : List Element) (x : Element) → length (formed ++ x ∷ []) ≡ suc (length formed)
  push-length formed x = omega (arith, length-append formed (x ∷ []))

  push-last : (formed : List Element) (x : Element) → get_or (formed ++ x ∷ []) (length formed) element.zero ≡ x
  push-last [] x = refl
  push-last (c ∷ formed) x = push-last formed x

  powers-are : (S : Member) (g : ℕ → Polynomial (below level)) → AreAt (below level) (inclusion level) S g → (steps k : ℕ) (formed r : List Element) → by_powers_from level k steps formed S ≡ Ok r → ArePowers S k steps formed r
  powers-are S g h zero k formed r is =
      let same : formed ≡ r = cc in
      subst (ArePowers S k 0 formed) same (record { long = omega arith; first = λ i l. refl; each = λ i l. absurd (omega (arith, l)) })
  powers-are S g h (suc steps) k formed r is =
      let s = and_then-ok (element_at level k S) (λ c. by_powers_from level (suc k) steps (formed ++ c ∷ []) S) r is in
      of_rest s.value (element-is S g k s.value h s.is) (powers-are S g h steps (suc k) (formed ++ s.value ∷ []) r s.next)
    where
      of_rest : (c : Element) → IsPower S k c → ArePowers S (suc k) steps (formed ++ c ∷ []) r → ArePowers S k (suc steps) formed r
      of_rest c p q = record {
        long = let l = q.long in omega (arith, l, push-length formed c);
        first = λ i l. q.first i (omega (arith, l, push-length formed c)) ∙ get_or_append_left formed (c ∷ []) element.zero i l;
        each = each_of;
      }
        where
          each_of : (i : ℕ) → i < suc steps → IsPower S (k + i) (get_or r (length formed + i) element.zero)
          each_of zero l =
              let same : get_or r (length formed + 0) element.zero ≡ c = ap (λ i. get_or r i element.zero) (omega arith) ∙ q.first (length formed) (omega (arith, push-length formed c)) ∙ push-last formed c in
              subst (λ i. IsPower S i (get_or r (length formed + 0) element.zero)) (let e : k ≡ k + 0 = omega arith in e) (subst (IsPower S k) (sym same) p)
          each_of (suc i) l =
              subst (λ j. IsPower S (k + suc i) (get_or r j element.zero)) (omega (arith, push-length formed c))
              (subst (λ j. IsPower S j (get_or r (length (formed ++ c ∷ []) + i) element.zero)) (let e : suc k + i ≡ k + suc i = omega arith in e) (q.each i (omega (arith, l))))

  -- ---- the logarithm
  -- the elements that are formed for R and S, and l of them
  record IsFormed (modulus_of : InZ) (S : Member) (l : LogPart) : Type 0 where
    formed : List Element
    powers : ArePowers S 0 (power_count modulus_of S) [] formed
    sized : IsSizedList formed l.arg
    poly_is : l.poly ≡ fractions_of modulus_of

  formed-is : (q : InZ) (S : Member) (g : ℕ → Polynomial (below level)) (l : LogPart) → AreAt (below level) (inclusion level) S g → logarithm level q S ≡ Ok l → IsFormed q S l
  unfolding logarithm
  formed-is q S g l h is =
      let s = and_then-ok (by_powers_from level 0 (power_count q S) [] S) (λ formed. and_then (poly.sized element (poly.trimmed element formed)) (λ arg. Ok (record { poly = fractions_of q; arg = arg }))) l is in
      let t = and_then-ok (poly.sized element (poly.trimmed element s.value)) (λ arg. Ok (record { poly = fractions_of q; arg = arg })) l s.next in
      let same : record { poly = fractions_of q; arg = t.value } ≡ l = cc in
      record {
        formed = s.value;
        powers = powers-are S g h (power_count q S) 0 [] s.value s.is;
        sized = subst (IsSizedList s.value) (ap (λ (x : LogPart). x.arg) same) (sized-list s.value t.value t.is);
        poly_is = ap (λ (x : LogPart). x.poly) (sym same);
      }

  valid-of : (p : List Element) → ((i : ℕ) → i < length p → IsElement (get_or p i element.zero)) → AllValid IsElement p
  valid-of [] h = tt
  valid-of (c ∷ p) h = (h 0 (omega arith), valid-of p (λ i l. h (suc i) (omega (arith, l))))

  within-of : (p : List Element) → ((i : ℕ) → i < length p → Within (level + 1) (get_or p i element.zero)) → AllWithin (level + 1) p
  within-of [] h = tt
  within-of (c ∷ p) h = (h 0 (omega arith), within-of p (λ i l. h (suc i) (omega (arith, l))))

  coefficient-get : (p : List Element) (k : ℕ) → poly.coefficient element p k ≡ get_or p k element.zero
  coefficient-get [] k = refl
  coefficient-get (c ∷ p) zero = refl
  coefficient-get (c ∷ p) (suc k) = coefficient-get p k

  module _ (q : InZ) (S : Member) (l : LogPart) (x : IsFormed q S l) where
    power-at : (i : ℕ) → i < length x.formed → IsPower S i (get_or x.formed i element.zero)
    power-at i k = subst (λ j. IsPower S i (get_or x.formed j element.zero)) (let e : 0 + i ≡ i = omega arith in e)
        (subst (λ j. IsPower S j (get_or x.formed (0 + i) element.zero)) (let e : 0 + i ≡ i = omega arith in e) (x.powers.each i (let n = x.powers.long in omega (arith, n, k))))

    formed-valid : AllValid IsElement x.formed
    formed-valid = valid-of x.formed (λ i k. (power-at i k).normal)

    -- the coefficients of the argument
    meaning-argument : (k : ℕ) → meaning (poly.coefficient element l.arg k) ≡ meaning (get_or x.formed k element.zero)
    meaning-argument k =
        sym (GcdRule.coefficient-polynomial_of elements element_interprets l.arg k)
        ∙ ap (λ p. coefficient elements p k) (Polynomials.trimmed-stands x.formed l.arg formed-valid x.sized.same)
        ∙ GcdRule.coefficient-polynomial_of elements element_interprets x.formed k ∙ ap meaning (coefficient-get x.formed k)

    meaning-below : (k : ℕ) → k < power_count q S → meaning (poly.coefficient element l.arg k) ≡ value_at elements.ring (variable level) (map meaning (coefficients_at k S))
    meaning-below k o = meaning-argument k ∙ (power-at k (let n = x.powers.long in omega (arith, n, o))).value

    meaning-past : (k : ℕ) → power_count q S ≤ k → meaning (poly.coefficient element l.arg k) ≡ mean.zero
    meaning-past k o = meaning-argument k ∙ ap meaning (get_or_past x.formed k element.zero (let n = x.powers.long in omega (arith, n, o))) ∙ element_interprets.zero-means

    argument-length : length l.arg ≤ power_count q S
    argument-length = let n = x.powers.long in let t = trimmed-short x.formed in let e = ap length x.sized.same in omega (arith, n, t, e)

  -- ---- the width
  width-small : (S : Member) (n : ℕ) → ((i : ℕ) → length (get_or S i []) ≤ n) → width S ≤ n
  width-small [] n h = omega arith
  width-small (p ∷ S) n h = let a = h 0 in let b = width-small S n (λ i. h (suc i)) in omega (arith, a, b)

  value-past : (S : Member) (k : ℕ) → width S ≤ k → value_at elements.ring (variable level) (map meaning (coefficients_at k S)) ≡ mean.zero
  value-past [] k l = refl
  value-past (p ∷ S) k l =
      ap₂ (λ (u v : mean.Element). mean.add u (mean.mul (variable level) v)) (ap meaning (coefficient-past p k (omega (arith, l))) ∙ element_interprets.zero-means) (value-past S k (omega (arith, l)))
      ∙ ap (mean.add mean.zero) (Laws.mul-zero elements.ring (variable level)) ∙ elements.add-zero mean.zero

  -- where the degrees in z are 0, the value at c is the coefficient at z^0
  values-constant : (c : Subfield level) (cs : List (Polynomial (below level))) → ((j : ℕ) → size (below level) (coefficient_at (below level) cs j) ≤ 1)
      → map (LinearFactors.value_at (below level) c) cs ≡ map (λ p. coefficient (below level) p 0) cs
  values-constant c [] h = refl
  values-constant c (p ∷ cs) h =
      ap₂ (λ (a : Subfield level) (l : List (Subfield level)). a ∷ l)
      (ap (LinearFactors.value_at K c) (Degree.constant_of_size K p (h 0)) ∙ Evaluation.value-constant K K.ring (identity_map K.ring) c (coefficient K p 0))
      (values-constant c cs (λ j. h (suc j)))

  -- ---- what l is
  module _ (l : LogPart) (r : RuleLogarithm (below level)) (made : IsMadeOf (below level) (inclusion level) level l r) (monic : IsMonic (below level) r.modulus) where
    q : InZ
    q = made.modulus

    is_formed : IsFormed made.modulus made.argument l
    is_formed = formed-is made.modulus made.argument (coefficient_at K r.argument) l made.argument_stands.are made.is_made

    length-R : length l.poly ≡ length made.modulus
    length-R = ap length is_formed.poly_is ∙ fractions-length made.modulus

    size-R : size (below level) r.modulus ≡ length made.modulus
    size-R = Standing.stands-size K f made.modulus r.modulus made.modulus_stands

    width-below : width made.argument ≤ length made.modulus - 1
    width-below = width-small made.argument (length made.modulus - 1) (λ i.
        let s = Standing.stands-size K f (get_or made.argument i []) (coefficient_at K r.argument i) (made.argument_stands.are i) in let t = made.small i in let u = size-R in omega (arith, s, t, u))

    count-linear : is_linear l ≡ true → power_count made.modulus made.argument ≡ 1
    count-linear e = by (nat_eq (length made.modulus) 2) refl
      where
        by : (t : Bool) → nat_eq (length made.modulus) 2 ≡ t → (if t then 1 else width made.argument) ≡ 1
        by true z = refl
        by false z = absurd (eqb-false (length made.modulus) 2 z (sym length-R ∙ eqb-true (length l.poly) 2 e))

    count-other : is_linear l ≡ false → power_count made.modulus made.argument ≡ width made.argument
    count-other e = by (nat_eq (length made.modulus) 2) refl
      where
        by : (t : Bool) → nat_eq (length made.modulus) 2 ≡ t → (if t then 1 else width made.argument) ≡ width made.argument
        by true z = absurd (eqb-false (length l.poly) 2 e (length-R ∙ eqb-true (length made.modulus) 2 z))
        by false z = refl

    count-small : power_count made.modulus made.argument ≤ length made.modulus - 1
    count-small = by (nat_eq (length made.modulus) 2)
      where
        by : (t : Bool) → (if t then 1 else width made.argument) ≤ length made.modulus - 1
        by true = let n = made.large in omega (arith, n)
        by false = width-below

    kept-R : IsPolynomial made.modulus
    kept-R = made.modulus_stands.kept

    of_sum : is_linear l ≡ false → (k : ℕ) → meaning (poly.coefficient element l.arg k) ≡ value_below level (coefficient (fractions (below level)) (by_powers (below level) r.argument) k)
    of_sum e k = by (dec_le (suc k) (width made.argument))
        ∙ sym (value-coefficient level r.argument k
        ∙ ap (value_at elements.ring (variable level)) (coefficients-images made.argument r.argument k made.argument_stands.are made.argument_stands.same_length))
      where
        by : Dec (suc k ≤ width made.argument) → meaning (poly.coefficient element l.arg k) ≡ value_at elements.ring (variable level) (map meaning (coefficients_at k made.argument))
        by (yes o) = meaning-below made.modulus made.argument l is_formed k (let c = count-other e in omega (arith, c, o))
        by (no o) = meaning-past made.modulus made.argument l is_formed k (let c = count-other e in omega (arith, c, o)) ∙ sym (value-past made.argument k (omega (arith, o)))

    of_logarithm : is_linear l ≡ true → (c : Subfield level) → r.modulus ≡ linear (below level) c → meaning (argument l) ≡ value_below level (at_point (below level) c r.argument)
    of_logarithm e c z =
        meaning-below made.modulus made.argument l is_formed 0 (let n = count-linear e in omega (arith, n))
        ∙ sym (value-at_point level c r.argument
        ∙ ap (λ cs. value_at elements.ring (variable level) (all_included level cs))
        (values-constant c r.argument (λ j. let t = made.small j in let u = size-R in let v = length-R in let w = eqb-true (length l.poly) 2 e in omega (arith, t, u, v, w)))
        ∙ ap (value_at elements.ring (variable level)) (coefficients-images made.argument r.argument 0 made.argument_stands.are made.argument_stands.same_length))

    pub made-stands : StandsForLogarithm level l r
    made-stands = record {
      same_modulus = made.modulus_stands.image ∙ ap polynomial (sym (ap modulus is_formed.poly_is ∙ modulus-same made.modulus kept-R.all_valid made.rational));
      of_sum = of_sum;
      of_logarithm = of_logarithm;
    }

    pub made-is_part : IsLogPart (level + 1) l
    made-is_part = record {
      modulus = subst IsModulus (sym is_formed.poly_is) (fractions-modulus made.modulus kept-R made.rational
          (subst (IsMonic elements) made.modulus_stands.image (Mapped.monic-map K elements f r.modulus monic)) (let n = made.large in omega (arith, n)));
      argument_member = record {
        degree_small = let a = argument-length made.modulus made.argument l is_formed in let b = count-small in let c = length-R in omega (arith, a, b, c);
        weight_small = is_formed.sized.light;
      };
      argument_within = trimmed-within (level + 1) is_formed.formed l.arg (within-of is_formed.formed (λ i k. (power-at made.modulus made.argument l is_formed i k).within)) is_formed.sized.same;
    }

    pub made-is_normal : IsNormalPart l
    made-is_normal = record {
      lowest = subst (AllValid IsLowest) (sym is_formed.poly_is) (fractions-lowest made.modulus kept-R.all_valid made.rational);
      normal = subst (AllValid IsElement) (sym is_formed.sized.same) (Values.trimmed-valid element_interprets is_formed.formed (formed-valid made.modulus made.argument l is_formed));
    }
