-- The rules of the elements of the whole tower keep them in normal form, and are the operations of the field; the tests of 0 and of equality tell the truth.
use Rattle.std.specs.Prelude.{◌^◌, ◌<◌, ◌↔◌, IsTrue, IsFalse}
use Rattle.std.proofs.Common.{◌≡◌, ℕ, Bool, true, false, Ok, refl, sym, ◌∙◌}
use Rattle.risch_ring.proofs.FieldLaws as FieldLaws
use Rattle.risch_mean.specs.Element as mean
use Rattle.risch_mean.specs.Element.{◌+ₑ◌, ◌*ₑ◌, ◌/ₑ◌}
use Rattle.risch_mean.specs.ElementField.{elements}
use Rattle.risch_level.specs.Levels.{Element, element}
use Rattle.risch_element_theory.specs.WholeTower.{IsElement, meaning}
use Rattle.risch_element_theory.proofs.Levels.{element_means, level_same}
use Rattle.risch_element_theory.proofs.ZeroDivisors.{quotient_by_zero-valid}

pub zero-is_element : IsElement element.zero
unfolding IsElement
zero-is_element = element_means.zero-valid

pub one-is_element : IsElement element.one
unfolding IsElement
one-is_element = element_means.one-valid

pub whole-is_element : (n : ℕ) → n < 2 ^ 16 → IsElement (element.whole n)
unfolding IsElement
whole-is_element = element_means.whole-valid

pub negative-is_element : (e : Element) → IsElement e → IsElement (element.negative e)
unfolding IsElement
negative-is_element = element_means.negative-valid

pub sum-is_element : (a b c : Element) → IsElement a → IsElement b → element.sum a b ≡ Ok c → IsElement c
unfolding IsElement
sum-is_element = element_means.sum-valid

pub product-is_element : (a b c : Element) → IsElement a → IsElement b → element.product a b ≡ Ok c → IsElement c
unfolding IsElement
product-is_element = element_means.product-valid

pub quotient-is_element : (a b c : Element) → IsElement a → IsElement b → element.is_zero b ≡ false → element.quotient a b ≡ Ok c → IsElement c
unfolding IsElement
quotient-is_element = element_means.quotient-valid

pub negative-stands : (e : Element) → IsElement e → meaning (element.negative e) ≡ mean.neg (meaning e)
unfolding IsElement meaning
negative-stands = element_means.negative-means

pub sum-stands : (a b c : Element) → IsElement a → IsElement b → element.sum a b ≡ Ok c → meaning c ≡ meaning a +ₑ meaning b
unfolding IsElement meaning
sum-stands = element_means.sum-means

pub product-stands : (a b c : Element) → IsElement a → IsElement b → element.product a b ≡ Ok c → meaning c ≡ meaning a *ₑ meaning b
unfolding IsElement meaning
product-stands = element_means.product-means

pub quotient_by_zero-is_element : (a b c : Element) → IsElement a → IsElement b → element.is_zero b ≡ true → element.quotient a b ≡ Ok c → IsElement c
unfolding IsElement element
quotient_by_zero-is_element = quotient_by_zero-valid 5

-- the same of every quotient
pub any_quotient-is_element : (a b c : Element) → IsElement a → IsElement b → element.quotient a b ≡ Ok c → IsElement c
any_quotient-is_element a b c v w is = by_test (element.is_zero b) refl
  where
    by_test : (test : Bool) → element.is_zero b ≡ test → IsElement c
    by_test true z = quotient_by_zero-is_element a b c v w z is
    by_test false z = quotient-is_element a b c v w z is

-- (a/b)·b = a
pub quotient-stands : (a b c : Element) → IsElement a → IsElement b → IsFalse (element.is_zero b) → element.quotient a b ≡ Ok c → meaning c *ₑ meaning b ≡ meaning a
unfolding IsElement meaning
quotient-stands = element_means.quotient-means

-- ---- the tests
pub zero-told : (e : Element) → IsElement e → IsTrue (element.is_zero e) ↔ (meaning e ≡ mean.zero)
unfolding IsElement meaning
zero-told e v = (element_means.zero_is e v, element_means.zero_if e v)

pub same-told : (a b : Element) → IsElement a → IsElement b → IsTrue (element.same a b) ↔ (meaning a ≡ meaning b)
unfolding IsElement meaning element
same-told a b v w = level_same 5 a b v w

-- an element other than 0 stands for one other than 0
pub nonzero-stands : (e : Element) → IsElement e → IsFalse (element.is_zero e) → ¬ (meaning e ≡ mean.zero)
nonzero-stands e v z h = true_false (sym ((zero-told e v).1 h) ∙ z)
  where
    true_false : true ≡ false → ⊥
    true_false e = cc

pub quotient-is_ratio : (a b c : Element) → IsElement a → IsElement b → IsFalse (element.is_zero b) → element.quotient a b ≡ Ok c → meaning c ≡ meaning a /ₑ meaning b
quotient-is_ratio a b c v w z is =
    let some = nonzero-stands b w z in
    FieldLaws.mul_left_cancel elements (meaning b) (meaning c) (meaning a /ₑ meaning b) some
    (elements.ring.mul_comm (meaning b) (meaning c) ∙ quotient-stands a b c v w z is ∙ sym (FieldLaws.quotient-mul elements (meaning a) (meaning b) some) ∙ elements.ring.mul_comm (meaning a /ₑ meaning b) (meaning b))
