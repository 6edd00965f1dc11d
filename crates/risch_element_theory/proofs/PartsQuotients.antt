-- The quotient of polynomials p and q over what lies below a level l: where the rule gives an element, it lies within level l and stands for p(t)/q(t), where t is the variable of l.
use Rattle.std.specs.Prelude.{if◌then◌else◌, nat_eq}
use Rattle.std.proofs.Common.{◌≡◌, ℕ, zero, suc, ◌+◌, ◌-◌, ◌≤◌, ◌<◌, List, [], ◌∷◌, Ok, refl, sym, ◌∙◌, ap, arith, subst}
use Rattle.risch_mean.specs.Element.{Element, variable, ◌*ₑ◌, ◌/ₑ◌}
use Rattle.risch_mean.specs.Element as Element
use Rattle.risch_mean.specs.ElementField.{elements}
use Rattle.risch_field.specs.Checked.{Checked, and_then, map_ok}
use Rattle.risch_field.proofs.CheckedSteps.{and_then-ok}
use Rattle.risch_level.specs.Over.{normal_form}
use Rattle.risch_level.specs.Levels as tower
use Rattle.risch_level.specs.Levels.{field}
use Rattle.risch_level.specs.Tower.{lifted, lowered, formed_below, quotient_at}
use Rattle.risch_level.specs.Parts.{levels}
use Rattle.risch_level.specs.declared.over.Over.TheVariants.{Below, Quotient}
use Rattle.risch_element_theory.specs.LevelMeaning.{valid_at, meaning_at}
use Rattle.risch_element_theory.specs.WholeTower.{WithinAt, AllWithinAt}
use Rattle.risch_element_theory.proofs.ElementsNormalForms.{normal_form-stands}
use Rattle.risch_element_theory.proofs.ElementsQuotients.{at-ne-zero}
use Rattle.risch_element_theory.proofs.ElementsSums.{map-below}
use Rattle.risch_element_theory.proofs.Levels.{level_below, level_means}
use Rattle.risch_element_theory.proofs.LiftedMeaning as LiftedMeaning
use Rattle.risch_element_theory.proofs.PartsMeaning.{Kept, at, level_below_is, within-own, quotient_of_product}

-- ---- polynomials that lie below a level
-- where each coefficient lies below the level, lowering loses nothing
lies_below : (height n : ℕ) (p : List (tower.Field (suc height))) → n ≤ height → AllWithinAt (suc height) n p → lifted (field height) (lowered (field height) p) ≡ p
lies_below height n [] h w = refl
lies_below height n (Below c ∷ p) h w = ap (λ q. Below c ∷ q) (lies_below height n p h w.1)
lies_below height n (Quotient r ∷ p) h w = let beyond : height < n = w.0 in absurd (omega arith)

within-zero : (height n : ℕ) → WithinAt height n (field height).zero
within-zero zero n = tt
within-zero (suc height) n = within-zero height n

all_within-lowered : (height n : ℕ) (p : List (tower.Field (suc height))) → AllWithinAt (suc height) n p → AllWithinAt height n (lowered (field height) p)
all_within-lowered height n [] w = tt
all_within-lowered height n (Below c ∷ p) w = (w.0, all_within-lowered height n p w.1)
all_within-lowered height n (Quotient r ∷ p) w = (within-zero height n, all_within-lowered height n p w.1)

-- p' is the polynomial p over the field below, and has the same value at t
record IsLowered (height n : ℕ) (t : Element) (p : List (tower.Field (suc height))) (p' : List (tower.Field height)) : Type 0 where
  kept : Kept height p'
  within : AllWithinAt height n p'
  same_value : at height t p' ≡ at (suc height) t p
  ne-nil : ¬ (p ≡ []) → ¬ (p' ≡ [])

lies-lowered : (height n : ℕ) (t : Element) (p : List (tower.Field (suc height))) → n ≤ height → Kept (suc height) p → AllWithinAt (suc height) n p →
    IsLowered height n t p (lowered (field height) p)
lies-lowered height n t p h k w =
    let lies = lies_below height n p h w in
    record {
      kept = LiftedMeaning.lowered-kept elements (field height) (valid_at height) (meaning_at height) p lies k;
      within = all_within-lowered height n p w;
      same_value = LiftedMeaning.value-lowered elements (field height) (valid_at height) (meaning_at height) (variable height) t p lies;
      ne-nil = LiftedMeaning.lowered-ne-nil elements (field height) (valid_at height) (meaning_at height) p;
    }

-- that is what the rule forms
formed-lowered : (height n : ℕ) (t : Element) (p : List (tower.Field (suc height))) (p' : List (tower.Field height)) → n ≤ height → Kept (suc height) p → AllWithinAt (suc height) n p →
    formed_below (field height) p ≡ Ok p' → IsLowered height n t p p'
formed-lowered height n t p p' h k w is =
    let below_p = lies-lowered height n t p h k w in
    subst (IsLowered height n t p) {x = lowered (field height) p}
    (LiftedMeaning.formed_below-is elements (field height) (valid_at height) (meaning_at height) (level_means height) p p' below_p.kept is) below_p

-- q(t) ≠ 0 for q ≠ 0, where t is the variable of the level
pub value-ne-zero : (height l down : ℕ) (q : List (tower.Field height)) → l + down + 1 ≡ height → Kept height q → AllWithinAt height l q → ¬ (q ≡ []) →
    ¬ (at height (variable l) q ≡ Element.zero)
value-ne-zero zero l down q h k w some z = omega arith
value-ne-zero (suc height) l zero q h k w some z =
    let own : height ≡ l = omega arith in
    let below_q = lies-lowered height l (variable l) q (omega arith) k w in
    at-ne-zero elements (level_below height) (lowered (field height) q) below_q.kept (below_q.ne-nil some)
    (ap (λ i. at height (variable i) (lowered (field height) q)) own ∙ below_q.same_value ∙ z)
value-ne-zero (suc height) l (suc down) q h k w some z =
    let below_q = lies-lowered height l (variable l) q (omega arith) k w in
    value-ne-zero height l down (lowered (field height) q) (omega arith) below_q.kept below_q.within (below_q.ne-nil some) (below_q.same_value ∙ z)

-- ---- the rule
-- what it forms of the polynomials over the field below
abbrev formed_quotient : (height down : ℕ) (p q : List (tower.Field height)) → Checked (tower.Field (suc height))
formed_quotient height down p q = if nat_eq down 0 then normal_form (field height) p q else map_ok Below ((levels height).quotient (down - 1) p q)

-- e is valid and lies within level l, and ⟦e⟧·q(t) = p(t)
pub record IsQuotientOf (height l : ℕ) (p q : List (tower.Field height)) (e : tower.Field height) : Type 0 where
  pub is_valid : valid_at height e
  pub within : WithinAt height (l + 1) e
  pub product : meaning_at height e *ₑ at height (variable l) q ≡ at height (variable l) p

-- the normal form at the level itself
own-quotient : (height l : ℕ) (p q : List (tower.Field (suc height))) (p' q' : List (tower.Field height)) (e : tower.Field (suc height)) → height ≡ l →
    IsLowered height l (variable l) p p' → IsLowered height l (variable l) q q' → ¬ (q' ≡ []) → normal_form (field height) p' q' ≡ Ok e → IsQuotientOf (suc height) l p q e
own-quotient height l p q p' q' e own below_p below_q some is =
    let s = normal_form-stands elements (level_below height) p' q' e below_p.kept below_q.kept some is in
    record {
      is_valid = s.is_valid;
      within = within-own (suc height) (l + 1) e (omega arith);
      product =
          ap (Element.mul (meaning_at (suc height) e)) (sym below_q.same_value ∙ ap (λ i. at height (variable i) q') (sym own))
          ∙ s.means ∙ ap (λ i. at height (variable i) p') own ∙ below_p.same_value;
    }

-- the quotient in the field below
below-quotient : (height l : ℕ) (p q : List (tower.Field (suc height))) (p' q' : List (tower.Field height)) (c : tower.Field height) →
    IsLowered height l (variable l) p p' → IsLowered height l (variable l) q q' → IsQuotientOf height l p' q' c → IsQuotientOf (suc height) l p q (Below c)
below-quotient height l p q p' q' c below_p below_q is = record {
  is_valid = is.is_valid;
  within = is.within;
  product = ap (Element.mul (meaning_at height c)) (sym below_q.same_value) ∙ is.product ∙ below_p.same_value;
}

pub quotient-is_quotient : (height l down : ℕ) (p q : List (tower.Field height)) (e : tower.Field height) → l + down + 1 ≡ height → Kept height p → Kept height q →
    AllWithinAt height l p → AllWithinAt height l q → ¬ (q ≡ []) → (levels height).quotient down p q ≡ Ok e → IsQuotientOf height l p q e
unfolding quotient_at
quotient-is_quotient zero l down p q e h kp kq wp wq some is = absurd (omega arith)
quotient-is_quotient (suc height) l zero p q e h kp kq wp wq some is =
    let first = and_then-ok (formed_below (field height) p) (λ p'. and_then (formed_below (field height) q) (λ q'. normal_form (field height) p' q')) e is in
    let second = and_then-ok (formed_below (field height) q) (λ q'. normal_form (field height) first.value q') e first.next in
    let below_p = formed-lowered height l (variable l) p first.value (omega arith) kp wp first.is in
    let below_q = formed-lowered height l (variable l) q second.value (omega arith) kq wq second.is in
    own-quotient height l p q first.value second.value e (omega arith) below_p below_q (below_q.ne-nil some) second.next
quotient-is_quotient (suc height) l (suc down) p q e h kp kq wp wq some is =
    let first = and_then-ok (formed_below (field height) p) (λ p'. and_then (formed_below (field height) q) (formed_quotient height (suc down) p')) e is in
    let second = and_then-ok (formed_below (field height) q) (formed_quotient height (suc down) first.value) e first.next in
    let below_p = formed-lowered height l (variable l) p first.value (omega arith) kp wp first.is in
    let below_q = formed-lowered height l (variable l) q second.value (omega arith) kq wq second.is in
    let there = sym (level_below_is down (normal_form (field height) first.value second.value) (λ d. map_ok Below ((levels height).quotient d first.value second.value))) ∙ second.next in
    let c = map-below elements (level_below height) ((levels height).quotient down first.value second.value) e there in
    subst (IsQuotientOf (suc height) l p q) {x = Below c.0} c.2
    (below-quotient height l p q first.value second.value c.0 below_p below_q
    (quotient-is_quotient height l down first.value second.value c.0 (omega arith) below_p.kept below_q.kept below_p.within below_q.within (below_q.ne-nil some) c.1))

pub quotient-valid : (height l down : ℕ) (p q : List (tower.Field height)) (e : tower.Field height) → l + down + 1 ≡ height → Kept height p → Kept height q →
    AllWithinAt height l p → AllWithinAt height l q → ¬ (q ≡ []) → (levels height).quotient down p q ≡ Ok e → valid_at height e
quotient-valid height l down p q e h kp kq wp wq some is = (quotient-is_quotient height l down p q e h kp kq wp wq some is).is_valid

pub quotient-within : (height l down : ℕ) (p q : List (tower.Field height)) (e : tower.Field height) → l + down + 1 ≡ height → Kept height p → Kept height q →
    AllWithinAt height l p → AllWithinAt height l q → ¬ (q ≡ []) → (levels height).quotient down p q ≡ Ok e → WithinAt height (l + 1) e
quotient-within height l down p q e h kp kq wp wq some is = (quotient-is_quotient height l down p q e h kp kq wp wq some is).within

-- ⟦e⟧·q(t) = p(t)
pub quotient-product : (height l down : ℕ) (p q : List (tower.Field height)) (e : tower.Field height) → l + down + 1 ≡ height → Kept height p → Kept height q →
    AllWithinAt height l p → AllWithinAt height l q → ¬ (q ≡ []) → (levels height).quotient down p q ≡ Ok e →
    meaning_at height e *ₑ at height (variable l) q ≡ at height (variable l) p
quotient-product height l down p q e h kp kq wp wq some is = (quotient-is_quotient height l down p q e h kp kq wp wq some is).product

-- ⟦e⟧ = p(t)/q(t)
pub quotient-means : (height l down : ℕ) (p q : List (tower.Field height)) (e : tower.Field height) → l + down + 1 ≡ height → Kept height p → Kept height q →
    AllWithinAt height l p → AllWithinAt height l q → ¬ (q ≡ []) → (levels height).quotient down p q ≡ Ok e →
    meaning_at height e ≡ at height (variable l) p /ₑ at height (variable l) q
quotient-means height l down p q e h kp kq wp wq some is =
    quotient_of_product elements (meaning_at height e) (at height (variable l) q) (at height (variable l) p) (value-ne-zero height l down q h kq wq some)
    (quotient-product height l down p q e h kp kq wp wq some is)
