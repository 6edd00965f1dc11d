-- The numerator n and the denominator m of an element e of the field of some height, at a level l: both are polynomials over what lies below l, m is monic, and ⟦e⟧ = n(t)/m(t) where e lies within level l, whose variable is t.
use Rattle.std.specs.Prelude.{if◌then◌else◌, nat_eq}
use Rattle.std.proofs.Common.{◌≡◌, ℕ, zero, suc, ◌+◌, ◌-◌, ◌≤◌, Bool, true, false, List, [], ◌∷◌, refl, sym, ◌∙◌, ap, arith, subst, ne_eqb}
use Rattle.risch_ring.specs.CommRing.{Field, quotient}
use Rattle.risch_ring.proofs.Laws as Laws
use Rattle.risch_ring.proofs.FieldLaws as FieldLaws
use Rattle.risch_mean.specs.Element.{Element, variable, ◌*ₑ◌, ◌/ₑ◌}
use Rattle.risch_mean.specs.Element as Element
use Rattle.risch_mean.specs.ElementField.{elements}
use Rattle.risch_field.specs.Ops.{Ops}
use Rattle.risch_polynomial.specs.Poly as poly
use Rattle.risch_level.specs.Levels as tower
use Rattle.risch_level.specs.Levels.{field}
use Rattle.risch_level.specs.Tower.{lifted, lowered_element, own_numerator}
use Rattle.risch_level.specs.Parts.{levels, denominator, own_denominator}
use Rattle.risch_level.specs.declared.over.Over.TheVariants.{Below, Quotient}
use Rattle.risch_polynomial_theory.specs.Meaning.{Interprets, value}
use Rattle.risch_element_theory.specs.PolynomialMeaning.{IsKept}
use Rattle.risch_element_theory.specs.LevelMeaning.{valid_at, meaning_at}
use Rattle.risch_element_theory.specs.WholeTower.{WithinAt, AllWithinAt}
use Rattle.risch_element_theory.proofs.ElementsNormalForms.{one-kept}
use Rattle.risch_element_theory.proofs.ElementsQuotients.{at-ne-zero}
use Rattle.risch_element_theory.proofs.Levels.{level_below, level_means}
use Rattle.risch_element_theory.proofs.LiftedMeaning as LiftedMeaning

-- x·y = z gives x = z/y
pub quotient_of_product : {A : Type 0} (F : Field A) (x y z : A) → ¬ (y ≡ F.ring.zero) → F.ring.mul x y ≡ z → x ≡ quotient F z y
quotient_of_product F x y z n e =
    FieldLaws.mul_left_cancel F y x (quotient F z y) n (F.ring.mul_comm y x ∙ e ∙ sym (F.ring.mul_comm y (quotient F z y) ∙ FieldLaws.quotient-mul F z y n))

-- ---- polynomials of degree 0
module _ {E A : Type 0} (F : Field A) {o : Ops E} {valid : E → Type 0} {meaning : E → A} (h : Interprets o F.ring valid meaning) where
  -- e as a polynomial of degree 0, or 0
  constant-kept : (e : E) → valid e → IsKept o valid (if o.is_zero e then [] else e ∷ [])
  constant-kept e v = by_zero (o.is_zero e) refl
    where
      by_zero : (z : Bool) → o.is_zero e ≡ z → IsKept o valid (if z then [] else e ∷ [])
      by_zero true z = record { all_valid = tt; ends_not_zero = refl; degree_small = omega arith }
      by_zero false z = record { all_valid = (v, tt); ends_not_zero = rw z refl; degree_small = omega arith }

  value-single : (t : A) (e : E) → value F.ring meaning t (e ∷ []) ≡ meaning e
  value-single t e = ap (F.ring.add (meaning e)) (Laws.mul-zero F.ring t) ∙ F.ring.add-zero (meaning e)

  value-constant : (t : A) (e : E) → valid e → value F.ring meaning t (if o.is_zero e then [] else e ∷ []) ≡ meaning e
  value-constant t e v = by_zero (o.is_zero e) refl
    where
      by_zero : (z : Bool) → o.is_zero e ≡ z → value F.ring meaning t (if z then [] else e ∷ []) ≡ meaning e
      by_zero true z = sym (h.zero_is e v z)
      by_zero false z = value-single t e

  value-one : (t : A) → value F.ring meaning t (o.one ∷ []) ≡ F.ring.one
  value-one t = value-single t o.one ∙ h.one-means

-- ---- the field of each height
-- the polynomial over the field of this height is kept
abbrev pub Kept : (height : ℕ) → List (tower.Field height) → Type 0
Kept height p = IsKept (field height) (valid_at height) p

-- its value at t
abbrev pub at : (height : ℕ) → Element → List (tower.Field height) → Element
at height t p = value elements.ring (meaning_at height) t p

lifted-kept : (height : ℕ) (p : List (tower.Field height)) → Kept height p → Kept (suc height) (lifted (field height) p)
lifted-kept height = LiftedMeaning.lifted-kept elements (field height) (valid_at height) (meaning_at height)

at-lifted : (height : ℕ) (t : Element) (p : List (tower.Field height)) → at (suc height) t (lifted (field height) p) ≡ at height t p
at-lifted height t p = LiftedMeaning.value-lifted elements (field height) (valid_at height) (meaning_at height) (variable height) t p

lowered_element-valid : (height : ℕ) (e : tower.Field (suc height)) → valid_at (suc height) e → valid_at height (lowered_element (field height) e)
lowered_element-valid height (Below e) v = v
lowered_element-valid height (Quotient r) v = (level_means height).zero-valid

-- a level below is the same level of the field below
pub level_below_is : {X : Type 0} (down : ℕ) (own : X) (below : ℕ → X) → (if nat_eq (suc down) 0 then own else below (suc down - 1)) ≡ below down
level_below_is down own below =
    let some : nat_eq (suc down) 0 ≡ false = ne_eqb (suc down) 0 (λ e. omega arith) in
    let one_less : suc down - 1 ≡ down = omega arith in
    ap (λ z. if z then own else below (suc down - 1)) some ∙ ap below one_less

numerator-below : (height down : ℕ) (e : tower.Field (suc height)) →
    (levels (suc height)).numerator (suc down) e ≡ lifted (field height) ((levels height).numerator down (lowered_element (field height) e))
numerator-below height down e = level_below_is down (own_numerator (field height) e) (λ d. lifted (field height) ((levels height).numerator d (lowered_element (field height) e)))

denominator-below : (height down : ℕ) (e : tower.Field (suc height)) →
    denominator (suc height) (suc down) e ≡ lifted (field height) (denominator height down (lowered_element (field height) e))
denominator-below height down e = level_below_is down (own_denominator (field height) e) (λ d. lifted (field height) (denominator height d (lowered_element (field height) e)))

-- ---- numerators and denominators are polynomials
pub numerator-valid : (height down : ℕ) (e : tower.Field height) → valid_at height e → Kept height ((levels height).numerator down e)
numerator-valid zero down e v = constant-kept elements (level_means 0) e v
numerator-valid (suc height) zero (Below e) v = constant-kept elements (level_means (suc height)) (Below e) v
numerator-valid (suc height) zero (Quotient r) v = lifted-kept height r.0 v.is_reduced.numerator_kept
numerator-valid (suc height) (suc down) e v =
    let e' = lowered_element (field height) e in
    subst (Kept (suc height)) (sym (numerator-below height down e)) (lifted-kept height ((levels height).numerator down e') (numerator-valid height down e' (lowered_element-valid height e v)))

pub denominator-valid : (height down : ℕ) (e : tower.Field height) → valid_at height e → Kept height (denominator height down e)
denominator-valid zero down e v = one-kept elements (level_below 0)
denominator-valid (suc height) zero (Below e) v = one-kept elements (level_below (suc height))
denominator-valid (suc height) zero (Quotient r) v = lifted-kept height r.1 v.is_reduced.denominator_kept
denominator-valid (suc height) (suc down) e v =
    let e' = lowered_element (field height) e in
    subst (Kept (suc height)) (sym (denominator-below height down e)) (lifted-kept height (denominator height down e') (denominator-valid height down e' (lowered_element-valid height e v)))

-- the denominator is not 0
pub denominator-ne-nil : (height down : ℕ) (e : tower.Field height) → valid_at height e → ¬ (denominator height down e ≡ [])
denominator-ne-nil zero down e v z = cc
denominator-ne-nil (suc height) zero (Below e) v z = cc
denominator-ne-nil (suc height) zero (Quotient r) v z = LiftedMeaning.lifted-ne-nil elements (field height) (valid_at height) (meaning_at height) r.1 v.is_reduced.denominator-ne-zero z
denominator-ne-nil (suc height) (suc down) e v z =
    let e' = lowered_element (field height) e in
    LiftedMeaning.lifted-ne-nil elements (field height) (valid_at height) (meaning_at height) (denominator height down e') (denominator-ne-nil height down e' (lowered_element-valid height e v))
    (sym (denominator-below height down e) ∙ z)

-- its leading coefficient is 1
last-lifted : (height : ℕ) (p : List (tower.Field height)) → meaning_at (suc height) (poly.last (field (suc height)) (lifted (field height) p)) ≡ meaning_at height (poly.last (field height) p)
last-lifted height p = ap (meaning_at (suc height)) (LiftedMeaning.last-lifted elements (field height) (valid_at height) (meaning_at height) p)

pub denominator-monic : (height down : ℕ) (e : tower.Field height) → valid_at height e → meaning_at height (poly.last (field height) (denominator height down e)) ≡ Element.one
denominator-monic zero down e v = (level_means 0).one-means
denominator-monic (suc height) zero (Below e) v = (level_means (suc height)).one-means
denominator-monic (suc height) zero (Quotient r) v = last-lifted height r.1 ∙ v.is_reduced.is_monic
denominator-monic (suc height) (suc down) e v =
    let e' = lowered_element (field height) e in
    ap (λ p. meaning_at (suc height) (poly.last (field (suc height)) p)) (denominator-below height down e) ∙ last-lifted height (denominator height down e')
    ∙ denominator-monic height down e' (lowered_element-valid height e v)

-- ---- the variables that occur in the coefficients
pub within-own : (height n : ℕ) (e : tower.Field height) → height ≤ n → WithinAt height n e
within-own zero n e h = tt
within-own (suc height) n (Below e) h = within-own height n e (omega arith)
within-own (suc height) n (Quotient r) h = omega arith

within-one : (height n : ℕ) → WithinAt height n (field height).one
within-one zero n = tt
within-one (suc height) n = within-one height n

all_within-constant : (height n : ℕ) (e : tower.Field height) (z : Bool) → WithinAt height n e → AllWithinAt height n (if z then [] else e ∷ [])
all_within-constant height n e true w = tt
all_within-constant height n e false w = (w, tt)

-- coefficients of the field below
all_within-lifted : (height n : ℕ) (p : List (tower.Field height)) → AllWithinAt height n p → AllWithinAt (suc height) n (lifted (field height) p)
all_within-lifted height n [] w = tt
all_within-lifted height n (c ∷ p) w = (w.0, all_within-lifted height n p w.1)

all_within-own : (height n : ℕ) (p : List (tower.Field height)) → height ≤ n → AllWithinAt height n p
all_within-own height n [] h = tt
all_within-own height n (c ∷ p) h = (within-own height n c h, all_within-own height n p h)

pub numerator-within : (height l down : ℕ) (e : tower.Field height) → l + down + 1 ≡ height → AllWithinAt height l ((levels height).numerator down e)
numerator-within zero l down e h = absurd (omega arith)
numerator-within (suc height) l zero (Below e) h = all_within-constant (suc height) l (Below e) ((field height).is_zero e) (within-own height l e (omega arith))
numerator-within (suc height) l zero (Quotient r) h = all_within-lifted height l r.0 (all_within-own height l r.0 (omega arith))
numerator-within (suc height) l (suc down) e h =
    let e' = lowered_element (field height) e in
    subst (AllWithinAt (suc height) l) (sym (numerator-below height down e)) (all_within-lifted height l ((levels height).numerator down e') (numerator-within height l down e' (omega arith)))

pub denominator-within : (height l down : ℕ) (e : tower.Field height) → l + down + 1 ≡ height → AllWithinAt height l (denominator height down e)
denominator-within zero l down e h = absurd (omega arith)
denominator-within (suc height) l zero (Below e) h = (within-one height l, tt)
denominator-within (suc height) l zero (Quotient r) h = all_within-lifted height l r.1 (all_within-own height l r.1 (omega arith))
denominator-within (suc height) l (suc down) e h =
    let e' = lowered_element (field height) e in
    subst (AllWithinAt (suc height) l) (sym (denominator-below height down e)) (all_within-lifted height l (denominator height down e') (denominator-within height l down e' (omega arith)))

-- ---- what they stand for at the variable of the level
-- m(t) ≠ 0
pub denominator-ne-zero : (height l down : ℕ) (e : tower.Field height) → l + down + 1 ≡ height → valid_at height e → ¬ (at height (variable l) (denominator height down e) ≡ Element.zero)
denominator-ne-zero zero l down e h v z = omega arith
denominator-ne-zero (suc height) l zero (Below e) h v z = elements.one-ne-zero (sym (value-one elements (level_means (suc height)) (variable l)) ∙ z)
denominator-ne-zero (suc height) l zero (Quotient r) h v z =
    let own : height ≡ l = omega arith in
    at-ne-zero elements (level_below height) r.1 v.is_reduced.denominator_kept v.is_reduced.denominator-ne-zero
    (ap (λ i. at height (variable i) r.1) own ∙ sym (at-lifted height (variable l) r.1) ∙ z)
denominator-ne-zero (suc height) l (suc down) e h v z =
    let e' = lowered_element (field height) e in
    denominator-ne-zero height l down e' (omega arith) (lowered_element-valid height e v)
    (sym (at-lifted height (variable l) (denominator height down e')) ∙ ap (at (suc height) (variable l)) (sym (denominator-below height down e)) ∙ z)

-- ⟦e⟧·m(t) = n(t)
pub parts-product : (height l down : ℕ) (e : tower.Field height) → l + down + 1 ≡ height → valid_at height e → WithinAt height (l + 1) e →
    meaning_at height e *ₑ at height (variable l) (denominator height down e) ≡ at height (variable l) ((levels height).numerator down e)
parts-product zero l down e h v w = absurd (omega arith)
parts-product (suc height) l zero (Below e) h v w =
    ap (Element.mul (meaning_at height e)) (value-one elements (level_means (suc height)) (variable l)) ∙ elements.mul-one (meaning_at height e)
    ∙ sym (value-constant elements (level_means (suc height)) (variable l) (Below e) v)
parts-product (suc height) l zero (Quotient r) h v w =
    let own : height ≡ l = omega arith in
    let t = variable height in
    ap (λ i. meaning_at (suc height) (Quotient r) *ₑ at (suc height) (variable i) (lifted (field height) r.1)) (sym own)
    ∙ ap (Element.mul (meaning_at (suc height) (Quotient r))) (at-lifted height t r.1)
    ∙ FieldLaws.quotient-mul elements (at height t r.0) (at height t r.1) (at-ne-zero elements (level_below height) r.1 v.is_reduced.denominator_kept v.is_reduced.denominator-ne-zero)
    ∙ sym (at-lifted height t r.0) ∙ ap (λ i. at (suc height) (variable i) (lifted (field height) r.0)) own
parts-product (suc height) l (suc down) (Below e) h v w =
    ap (λ p. meaning_at height e *ₑ at (suc height) (variable l) p) (denominator-below height down (Below e))
    ∙ ap (Element.mul (meaning_at height e)) (at-lifted height (variable l) (denominator height down e))
    ∙ parts-product height l down e (omega arith) v w
    ∙ sym (at-lifted height (variable l) ((levels height).numerator down e)) ∙ ap (at (suc height) (variable l)) (sym (numerator-below height down (Below e)))
parts-product (suc height) l (suc down) (Quotient r) h v w = absurd (omega arith)

-- ⟦e⟧ = n(t)/m(t)
pub numerator-means : (height l down : ℕ) (e : tower.Field height) → l + down + 1 ≡ height → valid_at height e → WithinAt height (l + 1) e →
    meaning_at height e ≡ at height (variable l) ((levels height).numerator down e) /ₑ at height (variable l) (denominator height down e)
numerator-means height l down e h v w =
    quotient_of_product elements (meaning_at height e) (at height (variable l) (denominator height down e)) (at height (variable l) ((levels height).numerator down e))
    (denominator-ne-zero height l down e h v) (parts-product height l down e h v w)
