-- The test of a special part s: where it is not that of a sound tower, the element that it tells has the derivative 0 and is no rational number.
--     new_constant-means
use Rattle.std.specs.Prelude.{if◌then◌else◌, nat_le, MatchOption}
use Rattle.std.proofs.Common.{◌≡◌, ℕ, zero, suc, ◌+◌, ◌-◌, ◌≤◌, Bool, true, false, List, [], ◌∷◌, ◌++◌, length, replicate, Option, None, Some, Ok, Err, refl, sym, ◌∙◌, ap, arith, subst}
use Rattle.risch_ring.specs.CommRing.{CommRing, Derivation, of_nat, power}
use Rattle.risch_ring.specs.Lists.{Each}
use Rattle.risch_ring.proofs.FieldLaws as FieldLaws
use Rattle.risch_ring.proofs.Laws as Laws
use Rattle.risch_ring.proofs.RingMaps as RingMaps
use Rattle.risch_ring.proofs.RingMaps.{identity_map}
use Rattle.risch_univariate.specs.Polynomial.{Polynomial, constant, coefficient, variable as variableₚ}
use Rattle.risch_univariate.specs.PolynomialRing.{polynomials}
use Rattle.risch_univariate.specs.Degree.{size, degree, IsMonic}
use Rattle.risch_univariate.specs.Division.{Divides}
use Rattle.risch_univariate.specs.SplittingFactorization.{IsSpecial}
use Rattle.risch_univariate.proofs.Degree as Degree
use Rattle.risch_univariate.proofs.Derivation as PolynomialDerivation
use Rattle.risch_univariate.proofs.Evaluation as Evaluation
use Rattle.risch_univariate.proofs.Gcd as Gcd
use Rattle.risch_univariate.proofs.Special as Special
use Rattle.risch_mean.specs.Element as mean
use Rattle.risch_mean.specs.Element.{variable, ◌*ₑ◌}
use Rattle.risch_mean.specs.ElementField.{elements}
use Rattle.risch_mean.specs.Constants.{IsRational}
use Rattle.risch_mean.specs.Tower.{derive_in}
use Rattle.risch_mean.proofs.ConstantLaws.{rational_in}
use Rattle.risch_mean.proofs.FieldClosure as FieldClosure
use Rattle.risch_field.specs.Checked.{Checked, and_then, map_ok}
use Rattle.risch_field.specs.declared.Fail.TheVariants.{Size}
use Rattle.risch_field.proofs.CheckedSteps.{and_then-ok}
use Rattle.risch_polynomial.specs.Poly as poly
use Rattle.risch_level.specs.Levels.{Element, element}
use Rattle.risch_derivation.specs.declared.rate.Kind.{Kind}
use Rattle.risch_derivation.specs.declared.rate.Kind.TheVariants.{Primitive, Exponential}
use Rattle.risch_element_theory.specs.DerivationMeaning.{kind_with}
use Rattle.risch_element_theory.specs.WholeTower.{IsPolynomial, meaning, polynomial, Within, AllWithin}
use Rattle.risch_element_theory.proofs.CoefficientProperties as Properties
use Rattle.risch_element_theory.proofs.DerivationTower.{derivation_in, level-has_rate}
use Rattle.risch_element_theory.proofs.ElementDerivation.{element-lies, one-stands}
use Rattle.risch_element_theory.proofs.ElementLaws.{one-is_element}
use Rattle.risch_element_theory.proofs.ElementPolynomials.{element_interprets}
use Rattle.risch_element_theory.proofs.ElementsTranscendence as Transcendence
use Rattle.risch_element_theory.proofs.PolynomialRules as Rules
use Rattle.risch_element_theory.proofs.PolynomialsWithin.{within-closed}
use Rattle.risch_tower.specs.declared.level.Level.{Level}
use Rattle.risch_tower.specs.Tower.{rate_at}
use Rattle.risch_tower.specs.TowerMeaning.{monomials}
use Rattle.risch_monomial.specs.LevelElements.{of_polynomial}
use Rattle.risch_split.specs.Splitting.{without_variable, least_exponent, by_power_of_variable, new_constant}
use Rattle.risch_monomial.specs.LevelDerivation.{derivative_of_variable, level_derivation}
use Rattle.risch_monomial.specs.NormalPolynomials.{IsSpecialAt}
use Rattle.risch_split.specs.SplittingMeaning.{IsNewConstant}
use Rattle.risch_monomial.specs.LevelDerivation.{IsLevelOf}
use Rattle.risch_split.proofs.ConstantLaws.{derive-power_exponential, constant-of_ratio}
use Rattle.risch_split.proofs.LeastExponents.{IsShifted, without_variable-shifted}
use Rattle.risch_monomial.proofs.LevelElements.{IsValueOf, of_polynomial-stands, IsRatioOf, quotient-of_values}
use Rattle.risch_monomial.proofs.LevelPolynomials.{at, Over, Over-constant, Over-variable, Over-mul, Over-polynomial, same-of_values, derivative, at-derivative}
use Rattle.risch_monomial.proofs.MonicPolynomials as Monic
use Rattle.risch_split.proofs.PowersOfVariable as Powers

abbrev R : CommRing (Polynomial elements)
R = polynomials elements

abbrev tₚ : Polynomial elements
tₚ = variableₚ elements

-- ---- results
-- an element that is told
record Told (rule : Checked Element) (r : Option Element) : Type 0 where
  value : Element
  is : rule ≡ Ok value
  same : Some value ≡ r

told : (rule : Checked Element) (r : Option Element) → map_ok Some rule ≡ Ok r → Told rule r
told (Ok e) r h = record { value = e; is = refl; same = cc }
told (Err stop) r h = cc

-- ---- powers of t as polynomials and as elements
Over-power : (level n : ℕ) → Over level (power R tₚ n)
Over-power level zero = subst (Over level) (Degree.constant-one elements ∙ sym (Laws.power-zero R tₚ)) (Over-constant level mean.one (FieldClosure.InField-one level))
Over-power level (suc n) = subst (Over level) (sym (Laws.power-suc R tₚ n)) (Over-mul level tₚ (power R tₚ n) (Over-variable level) (Over-power level n))

-- (t^n)(t) = t^n
at-power : (level n : ℕ) → at level (power R tₚ n) ≡ power elements.ring (variable level) n
at-power level n =
    RingMaps.apply-power (Evaluation.evaluation elements elements.ring (identity_map elements.ring) (variable level)) tₚ n
    ∙ ap (λ v. power elements.ring v n) (Evaluation.value-variable elements elements.ring (identity_map elements.ring) (variable level))

replicate-within : (level n : ℕ) → Each (Within level) (replicate n element.zero)
replicate-within level zero = tt
replicate-within level (suc n) = ((within-closed level).zero_in, replicate-within level n)

-- the list of coefficients of t^n
pub record IsPower (level n : ℕ) (p : List Element) : Type 0 where
  pub kept : IsPolynomial p
  pub within : AllWithin level p
  pub means : polynomial p ≡ power R tₚ n
  pub some : ¬ (p ≡ [])

monomial-within : (level n : ℕ) (p : List Element) → poly.monomial element element.one n ≡ Ok p → AllWithin level p
unfolding poly.monomial
monomial-within level n p is = by (element.is_zero element.one) (nat_le n 255) is
  where
    formed : Checked (List Element)
    formed = poly.sized element (poly.trimmed element (replicate n element.zero ++ element.one ∷ []))

    by : (z b : Bool) → (if z then Ok [] else if b then formed else Err Size) ≡ Ok p → AllWithin level p
    by true b e = let none : [] ≡ p = cc in subst (AllWithin level) none tt
    by false true e = Properties.formed-keeps (within-closed level) (replicate n element.zero ++ element.one ∷ []) p
        (Properties.push-keeps (within-closed level) (replicate n element.zero) element.one (replicate-within level n) (within-closed level).one_in) e
    by false false e = cc

pub monomial-power : (level n : ℕ) (p : List Element) → poly.monomial element element.one n ≡ Ok p → IsPower level n p
monomial-power level n p is =
    let k = Rules.monomial-polynomial elements element_interprets element.one n p one-is_element is in
    let means : polynomial p ≡ power R tₚ n =
    k.means ∙ ap (λ c. R.mul (constant elements c) (power R tₚ n)) one-stands ∙ ap (λ c. R.mul c (power R tₚ n)) (Degree.constant-one elements) ∙ Laws.one-mul R (power R tₚ n) in
    record {
      kept = k.kept;
      within = monomial-within level n p is;
      means = means;
      some = λ e. Gcd.monic-nonzero elements (power R tₚ n) (Powers.power-is_monic elements n) (sym means ∙ ap polynomial e ∙ Rules.polynomial_of-nil elements element_interprets);
    }

-- s/t^n for n = deg s
pub by_power-ratio : (level : ℕ) (s : List Element) (e : Element) → level ≤ 4 → IsPolynomial s → AllWithin level s → by_power_of_variable level s ≡ Ok e →
    (q : List Element) × IsPower level (length s - 1) q × IsRatioOf level s q e
unfolding by_power_of_variable
by_power-ratio level s e low k w is =
    let top = and_then-ok (of_polynomial level s) (λ top. and_then (poly.monomial element element.one (length s - 1)) (λ q. and_then (of_polynomial level q) (λ bottom. element.quotient top bottom))) e is in
    let q = and_then-ok (poly.monomial element element.one (length s - 1)) (λ q. and_then (of_polynomial level q) (λ bottom. element.quotient top.value bottom)) e top.next in
    let bottom = and_then-ok (of_polynomial level q.value) (λ bottom. element.quotient top.value bottom) e q.next in
    let p = monomial-power level (length s - 1) q.value q.is in (
      q.value,
      p,
      quotient-of_values level s q.value top.value bottom.value e low p.kept p.within p.some
          (of_polynomial-stands level s top.value low k w top.is) (of_polynomial-stands level q.value bottom.value low p.kept p.within bottom.is) bottom.next,
    )

-- ---- no rational number
-- s(t) is none for deg s ≥ 1
not_rational : (level : ℕ) (s : List Element) → IsPolynomial s → AllWithin level s → 2 ≤ length s → ¬ IsRational (at level (polynomial s))
not_rational level s k w large r =
    let c = at level (polynomial s) in
    let lies = rational_in level c r in
    let same = same-of_values level (polynomial s) (constant elements c) (Over-polynomial level s k w) (Over-constant level c lies) (sym (Transcendence.at-constant elements (variable level) c)) in
    let sizes = ap (size elements) same in
    let small = Degree.size-constant-le elements c in
    let sized = Monic.size-is s k in
    omega (arith, sizes, small, sized, large)

-- v with v·t^(n + 1) = s(t) is none for s(0) ≠ 0
not_rational_ratio : (level n : ℕ) (s : List Element) (v : mean.Element) → IsPolynomial s → AllWithin level s → ¬ (coefficient elements (polynomial s) 0 ≡ mean.zero) →
    v *ₑ power elements.ring (variable level) (suc n) ≡ at level (polynomial s) → ¬ IsRational v
not_rational_ratio level n s v k w free e r =
    let lies = rational_in level v r in
    let p = R.mul (constant elements v) (power R tₚ (suc n)) in
    let value : at level p ≡ at level (polynomial s) =
    Transcendence.at-mul elements (variable level) (constant elements v) (power R tₚ (suc n))
    ∙ ap (λ c. c *ₑ at level (power R tₚ (suc n))) (Transcendence.at-constant elements (variable level) v) ∙ ap (mean.mul v) (at-power level (suc n)) ∙ e in
    let same = same-of_values level p (polynomial s) (Over-mul level (constant elements v) (power R tₚ (suc n)) (Over-constant level v lies) (Over-power level (suc n))) (Over-polynomial level s k w) value in
    free (sym (ap (λ q. coefficient elements q 0) same) ∙ Powers.coefficient-of_power elements v n)

-- ---- the derivation by the kind of the level
module _ (tower : List Level) (level : ℕ) (l : IsLevelOf tower level) where
  abbrev η : mean.Element
  η = meaning (rate_at tower level).eta

  abbrev δ : Derivation elements.ring
  δ = derivation_in (monomials tower)

  derived-by : (k : Kind) → (rate_at tower level).kind ≡ k → (p : Polynomial elements) →
      derivative tower level p ≡ PolynomialDerivation.derive_polynomial elements δ (derivative_of_variable (kind_with k η)) p
  unfolding level_derivation
  derived-by k e p = ap (λ kind. PolynomialDerivation.derive_polynomial elements δ (derivative_of_variable kind) p) (sym l.kind_is ∙ ap (λ k. kind_with k η) e)

  module _ (s : List Element) (kept : IsPolynomial s) (within : AllWithin level s) (monic : IsMonic elements (polynomial s)) (special : IsSpecial elements (level_derivation (monomials tower) level) (polynomial s)) where
    -- s divides its derivative by that rule
    special-by : (k : Kind) → (rate_at tower level).kind ≡ k → Divides elements (polynomial s) (PolynomialDerivation.derive_polynomial elements δ (derivative_of_variable (kind_with k η)) (polynomial s))
    special-by k e = subst (Divides elements (polynomial s)) (derived-by k e (polynomial s)) special

    -- ---- Dt = η
    -- D(s(t)) = 0
    primitive-constant : (rate_at tower level).kind ≡ Primitive → derive_in (monomials tower) (at level (polynomial s)) ≡ mean.zero
    primitive-constant e =
        sym (at-derivative tower level (polynomial s) l)
        ∙ ap (at level) (derived-by Primitive e (polynomial s) ∙ Special.special-primitive elements δ η (polynomial s) monic (special-by Primitive e))
        ∙ Evaluation.value-zero elements elements.ring (identity_map elements.ring) (variable level)

    told-primitive : (rate_at tower level).kind ≡ Primitive → poly.is_one element s ≡ false → (e : Element) → IsValueOf level s e → IsNewConstant tower level e
    told-primitive k other e v = record {
      within = v.within;
      is = record {
        in_field = element-lies (level + 1) e v.is_element v.within;
        constant = ap (derive_in (monomials tower)) v.value ∙ primitive-constant k;
        not_rational = λ r. not_rational level s kept within (Monic.not_one-length s kept monic other) (subst IsRational v.value r);
      };
    }

    primitive-means : (rate_at tower level).kind ≡ Primitive → (r : Option Element) → new_constant level Primitive s ≡ Ok r → MatchOption r (IsSpecialAt Primitive (polynomial s)) (IsNewConstant tower level)
    primitive-means k r is = by (poly.is_one element s) refl is
      where
        by : (z : Bool) → poly.is_one element s ≡ z → (if z then Ok None else map_ok Some (of_polynomial level s)) ≡ Ok r → MatchOption r (IsSpecialAt Primitive (polynomial s)) (IsNewConstant tower level)
        by true z e = let none : None ≡ r = cc in subst (λ r. MatchOption r (IsSpecialAt Primitive (polynomial s)) (IsNewConstant tower level)) none (Monic.is_one-stands s kept monic z)
        by false z e =
            let t = told (of_polynomial level s) r e in
            subst (λ r. MatchOption r (IsSpecialAt Primitive (polynomial s)) (IsNewConstant tower level)) t.same
            (told-primitive k z t.value (of_polynomial-stands level s t.value l.low kept within t.is))

    -- ---- Dt = η·t
    abbrev s' : List Element
    s' = without_variable s

    shifted : IsShifted level s s'
    shifted = without_variable-shifted level s kept within (Gcd.monic-nonzero elements (polynomial s) monic)

    -- s = s'·t^e
    abbrev by_power : Divides elements (power R tₚ (least_exponent s)) (polynomial s)
    by_power = record { cofactor = polynomial s'; equation = shifted.product ∙ R.mul_comm (power R tₚ (least_exponent s)) (polynomial s') }

    monic' : IsMonic elements (polynomial s')
    monic' = Gcd.cofactor-is_monic elements (power R tₚ (least_exponent s)) (polynomial s) by_power monic (Powers.power-is_monic elements (least_exponent s))

    -- deg s = deg s' + e
    degrees : degree elements (polynomial s) ≡ length s' - 1 + least_exponent s
    degrees =
        let product = Degree.size-mul-nonzero elements (power R tₚ (least_exponent s)) (polynomial s') (Gcd.monic-nonzero elements (power R tₚ (least_exponent s)) (Powers.power-is_monic elements (least_exponent s)))
        (Gcd.monic-nonzero elements (polynomial s') monic') in
        let same = ap (size elements) shifted.product in
        let power_size = Powers.size-power elements (least_exponent s) in
        let sized = Monic.size-is s' shifted.kept in
        let large = Monic.monic-length s' monic' in
        let own = Degree.size_of_nonzero elements (polynomial s) (Gcd.monic-nonzero elements (polynomial s) monic) in
        omega (arith, product, same, power_size, sized, large, own)

    -- Dt = η·t
    rate : (rate_at tower level).kind ≡ Exponential → derive_in (monomials tower) (variable level) ≡ η *ₑ variable level
    rate e = level-has_rate (monomials tower) l.is_tower level Exponential η (ap (λ k. kind_with k η) (sym e) ∙ l.kind_is)

    -- D(s(t)) = (η·deg s)·s(t)
    exponential-derivative : (rate_at tower level).kind ≡ Exponential →
        derive_in (monomials tower) (at level (polynomial s)) ≡ η *ₑ of_nat elements.ring (degree elements (polynomial s)) *ₑ at level (polynomial s)
    exponential-derivative e =
        let κ = η *ₑ of_nat elements.ring (degree elements (polynomial s)) in
        sym (at-derivative tower level (polynomial s) l)
        ∙ ap (at level) (derived-by Exponential e (polynomial s) ∙ Special.special-exponential elements δ η (polynomial s) monic (special-by Exponential e))
        ∙ Transcendence.at-mul elements (variable level) (constant elements κ) (polynomial s)
        ∙ ap (λ c. c *ₑ at level (polynomial s)) (Transcendence.at-constant elements (variable level) κ)

    -- v·t^(deg s) = s(t) where v·t^(deg s') = s'(t)
    whole-ratio : (v : mean.Element) → v *ₑ power elements.ring (variable level) (length s' - 1) ≡ at level (polynomial s') →
        v *ₑ power elements.ring (variable level) (degree elements (polynomial s)) ≡ at level (polynomial s)
    whole-ratio v e =
        let t = variable level in
        let n = length s' - 1 in
        let m = least_exponent s in
        ap (λ i. v *ₑ power elements.ring t i) degrees ∙ ap (mean.mul v) (Laws.power-add elements.ring t n m)
        ∙ sym (elements.ring.mul_assoc v (power elements.ring t n) (power elements.ring t m)) ∙ ap (λ x. x *ₑ power elements.ring t m) e
        ∙ elements.ring.mul_comm (at level (polynomial s')) (power elements.ring t m) ∙ ap (λ x. x *ₑ at level (polynomial s')) (sym (at-power level m))
        ∙ sym (Transcendence.at-mul elements t (power R tₚ m) (polynomial s')) ∙ ap (at level) (sym shifted.product)

    t_some : ¬ (variable level ≡ mean.zero)
    t_some z = Powers.variable-nonzero elements (same-of_values level tₚ R.zero (Over-variable level) (subst (Over level) (Degree.constant-zero elements) (Over-constant level mean.zero (FieldClosure.InField-zero level)))
        (Evaluation.value-variable elements elements.ring (identity_map elements.ring) (variable level) ∙ z
        ∙ sym (Evaluation.value-zero elements elements.ring (identity_map elements.ring) (variable level))))

    told-exponential : (rate_at tower level).kind ≡ Exponential → poly.is_one element s' ≡ false → (e : Element) (q : List Element) → IsPower level (length s' - 1) q → IsRatioOf level s' q e → IsNewConstant tower level e
    told-exponential k other e q p v = record {
      within = v.within;
      is = record { in_field = element-lies (level + 1) e v.is_element v.within; constant = constant; not_rational = none };
    }
      where
        ratio : meaning e *ₑ power elements.ring (variable level) (length s' - 1) ≡ at level (polynomial s')
        ratio = ap (mean.mul (meaning e)) (sym (ap (at level) p.means ∙ at-power level (length s' - 1))) ∙ v.product

        constant : derive_in (monomials tower) (meaning e) ≡ mean.zero
        constant =
            let d = degree elements (polynomial s) in
            constant-of_ratio elements δ (meaning e) (at level (polynomial s)) (power elements.ring (variable level) d) (η *ₑ of_nat elements.ring d) (whole-ratio (meaning e) ratio)
            (exponential-derivative k) (derive-power_exponential δ (variable level) η (rate k) d) (FieldLaws.power-nonzero elements (variable level) d t_some)

        large : 2 ≤ length s'
        large = Monic.not_one-length s' shifted.kept monic' other

        none : ¬ IsRational (meaning e)
        none r =
            let n = length s' - 2 in
            let more : length s' - 1 ≡ suc n = let l = large in omega (arith, l) in
            not_rational_ratio level n s' (meaning e) shifted.kept shifted.within shifted.free (ap (λ i. meaning e *ₑ power elements.ring (variable level) i) (sym more) ∙ ratio) r

    exponential-means : (rate_at tower level).kind ≡ Exponential → (r : Option Element) → new_constant level Exponential s ≡ Ok r → MatchOption r (IsSpecialAt Exponential (polynomial s)) (IsNewConstant tower level)
    exponential-means k r is = by (poly.is_one element s') refl is
      where
        by : (z : Bool) → poly.is_one element s' ≡ z → (if z then Ok None else map_ok Some (by_power_of_variable level s')) ≡ Ok r → MatchOption r (IsSpecialAt Exponential (polynomial s)) (IsNewConstant tower level)
        by true z e =
            let none : None ≡ r = cc in
            let unit = Monic.is_one-stands s' shifted.kept monic' z in
            subst (λ r. MatchOption r (IsSpecialAt Exponential (polynomial s)) (IsNewConstant tower level)) none
            (least_exponent s, shifted.product ∙ ap (R.mul (power R tₚ (least_exponent s))) unit ∙ R.mul-one (power R tₚ (least_exponent s)))
        by false z e =
            let t = told (by_power_of_variable level s') r e in
            let ratio = by_power-ratio level s' t.value l.low shifted.kept shifted.within t.is in
            subst (λ r. MatchOption r (IsSpecialAt Exponential (polynomial s)) (IsNewConstant tower level)) t.same (told-exponential k z t.value ratio.0 ratio.1 ratio.2)

    -- ---- both
    pub new_constant-means : (r : Option Element) → new_constant level ((rate_at tower level).kind) s ≡ Ok r → MatchOption r (IsSpecialAt ((rate_at tower level).kind) (polynomial s)) (IsNewConstant tower level)
    new_constant-means r is = by ((rate_at tower level).kind) refl is
      where
        by : (k : Kind) → (rate_at tower level).kind ≡ k → new_constant level k s ≡ Ok r → MatchOption r (IsSpecialAt k (polynomial s)) (IsNewConstant tower level)
        by Primitive e is = primitive-means e r is
        by Exponential e is = exponential-means e r is
