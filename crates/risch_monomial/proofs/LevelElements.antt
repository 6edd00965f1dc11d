-- Polynomials in the variable t of a level as elements of the level, and their quotients.
--     of_polynomial-stands      p as an element stands for p(t)
--     value-some      p(t) ≠ 0 for p ≠ 0
--     quotient-of_values      p(t)/q(t)
use Rattle.std.specs.Prelude.{IfOk}
use Rattle.std.proofs.Common.{◌≡◌, ℕ, ◌+◌, ◌≤◌, ◌<◌, Bool, true, false, List, [], ◌∷◌, length, Result, Ok, Err, refl, sym, ◌∙◌, ap, arith}
use Rattle.risch_mean.specs.Element as mean
use Rattle.risch_mean.specs.Element.{variable, ◌*ₑ◌}
use Rattle.risch_mean.specs.ElementField.{elements}
use Rattle.risch_level.specs.Levels.{Element, element}
use Rattle.risch_field.specs.Checked.{Checked, Agrees, and_then}
use Rattle.risch_field.specs.declared.Fail.{Fail}
use Rattle.risch_field.proofs.CheckedSteps.{and_then-ok}
use Rattle.risch_element_theory.specs.WholeTower.{IsElement, IsPolynomial, meaning, polynomial, value_of, Within, AllWithin}
use Rattle.risch_element_theory.proofs.ElementLaws.{quotient-is_element, quotient-stands, zero-told}
use Rattle.risch_element_theory.proofs.ElementWithin.{one-element-within, quotient-element-within}
use Rattle.risch_element_theory.proofs.ElementsTranscendence as Transcendence
use Rattle.risch_element_theory.proofs.PartsLaws as Parts
use Rattle.risch_monomial.specs.LevelElements.{one, of_polynomial, ratio}
use Rattle.risch_monomial.proofs.LevelPolynomials.{at, at-polynomial}
use Rattle.risch_monomial.proofs.MonicPolynomials.{one-is_polynomial, one-stands}

-- what holds of each value of a rule holds of the value of a call that agrees with it
pub agreed : {A : Type 0} (P : A → Type 0) (result : Result A Fail) (rule : Checked A) → Agrees result rule → ((a : A) → rule ≡ Ok a → P a) → IfOk result P
agreed P (Ok a) rule h all = all a h
agreed P (Err stop) rule h all = tt

-- a list other than [] has items
pub length-some : (p : List Element) → ¬ (p ≡ []) → 0 < length p
length-some [] some = absurd (some refl)
length-some (c ∷ p) some = omega arith

pub not-nil : (p : List Element) → 0 < length p → ¬ (p ≡ [])
not-nil p some e = let none = ap length e in omega (arith, none, some)

-- e lies in the level and stands for p(t)
pub record IsValueOf (level : ℕ) (p : List Element) (e : Element) : Type 0 where
  pub is_element : IsElement e
  pub within : Within (level + 1) e
  pub value : meaning e ≡ at level (polynomial p)

-- 1(t) = 1
at-one : (level : ℕ) → value_of one (variable level) ≡ mean.one
at-one level = sym (at-polynomial level one) ∙ ap (at level) one-stands ∙ Transcendence.at-one elements (variable level)

one_some : ¬ (one ≡ [])
one_some e = cc

pub of_polynomial-stands : (level : ℕ) (p : List Element) (e : Element) → level ≤ 4 → IsPolynomial p → AllWithin level p → of_polynomial level p ≡ Ok e → IsValueOf level p e
unfolding of_polynomial
of_polynomial-stands level p e low k w is =
    let below : AllWithin level one = (one-element-within level, tt) in
    record {
      is_element = Parts.quotient-is_element level p one e low k one-is_polynomial w below one_some is;
      within = Parts.quotient-within level p one e low k one-is_polynomial w below one_some is;
      value =
          sym (elements.ring.mul-one (meaning e)) ∙ ap (mean.mul (meaning e)) (sym (at-one level))
          ∙ Parts.quotient-product-stands level p one e low k one-is_polynomial w below one_some is ∙ sym (at-polynomial level p);
    }

-- p(t) ≠ 0
pub at-some : (level : ℕ) (p : List Element) → level ≤ 4 → IsPolynomial p → AllWithin level p → ¬ (p ≡ []) → ¬ (at level (polynomial p) ≡ mean.zero)
at-some level p low k w some z = Parts.value-ne-zero level p low k w some (sym (at-polynomial level p) ∙ z)

pub value-some : (level : ℕ) (p : List Element) (e : Element) → level ≤ 4 → IsPolynomial p → AllWithin level p → ¬ (p ≡ []) → IsValueOf level p e → element.is_zero e ≡ false
value-some level p e low k w some v = by (element.is_zero e) refl
  where
    by : (z : Bool) → element.is_zero e ≡ z → element.is_zero e ≡ false
    by false z = z
    by true z = absurd (at-some level p low k w some (sym v.value ∙ (zero-told e v.is_element).0 z))

-- e lies in the level and stands for p(t)/q(t)
pub record IsRatioOf (level : ℕ) (p q : List Element) (e : Element) : Type 0 where
  pub is_element : IsElement e
  pub within : Within (level + 1) e
  pub product : meaning e *ₑ at level (polynomial q) ≡ at level (polynomial p)

pub quotient-of_values : (level : ℕ) (p q : List Element) (a b e : Element) → level ≤ 4 → IsPolynomial q → AllWithin level q → ¬ (q ≡ []) → IsValueOf level p a → IsValueOf level q b →
    element.quotient a b ≡ Ok e → IsRatioOf level p q e
quotient-of_values level p q a b e low k w some va vb is =
    let nonzero = value-some level q b low k w some vb in
    record {
      is_element = quotient-is_element a b e va.is_element vb.is_element nonzero is;
      within = quotient-element-within (level + 1) a b e va.within vb.within is;
      product = ap (mean.mul (meaning e)) (sym vb.value) ∙ quotient-stands a b e va.is_element vb.is_element nonzero is ∙ va.value;
    }

-- the rule of the quotient
pub ratio-stands : (level : ℕ) (p q : List Element) (e : Element) → level ≤ 4 → IsPolynomial p → AllWithin level p → IsPolynomial q → AllWithin level q → ¬ (q ≡ []) → ratio level p q ≡ Ok e → IsRatioOf level p q e
unfolding ratio
ratio-stands level p q e low kp wp kq wq some is =
    let top = and_then-ok (of_polynomial level p) (λ top. and_then (of_polynomial level q) (λ bottom. element.quotient top bottom)) e is in
    let bottom = and_then-ok (of_polynomial level q) (λ bottom. element.quotient top.value bottom) e top.next in
    quotient-of_values level p q top.value bottom.value e low kq wq some (of_polynomial-stands level p top.value low kp wp top.is) (of_polynomial-stands level q bottom.value low kq wq bottom.is) bottom.next
