-- The rules of the elements lead to no new variable: where the variables of the operands are among the first n, those of the sum, the product, the quotient and the negative are.
use Rattle.std.proofs.Common.{◌≡◌, ℕ, zero, suc, ◌≤◌, Ok, Err, arith, refl, subst}
use Rattle.risch_field.specs.Checked.{Checked, map_ok}
use Rattle.risch_level.specs.Levels.{Field, field, Element, element}
use Rattle.risch_level.specs.declared.over.Over.{Over}
use Rattle.risch_level.specs.declared.over.Over.TheVariants.{Below, Quotient}
use Rattle.risch_element_theory.specs.WholeTower.{WithinAt, Within}

-- each element of the field of the first n variables, or of fewer
pub all-within : (height n : ℕ) → height ≤ n → (e : Field height) → WithinAt height n e
all-within zero n h e = tt
all-within (suc height) n h (Below e) = all-within height n (omega arith) e
all-within (suc height) n h (Quotient r) = omega arith

-- more variables
pub more-within : (height n m : ℕ) → n ≤ m → (e : Field height) → WithinAt height n e → WithinAt height m e
more-within zero n m h e w = tt
more-within (suc height) n m h (Below e) w = more-within height n m h e w
more-within (suc height) n m h (Quotient r) w = omega arith

-- a value of the field below, as one of the level
pub record IsBelow {E : Type 0} (rule : Checked E) (result : Over E) : Type 0 where
  pub value : E
  pub is : rule ≡ Ok value
  pub same : Below value ≡ result

pub is_below : {E : Type 0} (rule : Checked E) (result : Over E) → map_ok Below rule ≡ Ok result → IsBelow rule result
is_below (Ok e) result is = record { value = e; is = refl; same = cc }
is_below (Err stop) result is = cc

pub sum-within : (height n : ℕ) (a b c : Field height) → WithinAt height n a → WithinAt height n b → (field height).sum a b ≡ Ok c → WithinAt height n c
sum-within zero n a b c v w is = tt
sum-within (suc height) n (Below a) (Below b) c v w is =
    let s = is_below ((field height).sum a b) c is in
    subst (WithinAt (suc height) n) s.same (sum-within height n a b s.value v w s.is)
sum-within (suc height) n (Below a) (Quotient s) c v w is = all-within (suc height) n (omega arith) c
sum-within (suc height) n (Quotient r) b c v w is = all-within (suc height) n (omega arith) c

pub product-within : (height n : ℕ) (a b c : Field height) → WithinAt height n a → WithinAt height n b → (field height).product a b ≡ Ok c → WithinAt height n c
product-within zero n a b c v w is = tt
product-within (suc height) n (Below a) (Below b) c v w is =
    let s = is_below ((field height).product a b) c is in
    subst (WithinAt (suc height) n) s.same (product-within height n a b s.value v w s.is)
product-within (suc height) n (Below a) (Quotient s) c v w is = all-within (suc height) n (omega arith) c
product-within (suc height) n (Quotient r) b c v w is = all-within (suc height) n (omega arith) c

pub quotient-within : (height n : ℕ) (a b c : Field height) → WithinAt height n a → WithinAt height n b → (field height).quotient a b ≡ Ok c → WithinAt height n c
quotient-within zero n a b c v w is = tt
quotient-within (suc height) n (Below a) (Below b) c v w is =
    let s = is_below ((field height).quotient a b) c is in
    subst (WithinAt (suc height) n) s.same (quotient-within height n a b s.value v w s.is)
quotient-within (suc height) n (Below a) (Quotient s) c v w is = all-within (suc height) n (omega arith) c
quotient-within (suc height) n (Quotient r) b c v w is = all-within (suc height) n (omega arith) c

pub negative-within : (height n : ℕ) (e : Field height) → WithinAt height n e → WithinAt height n ((field height).negative e)
negative-within zero n e w = tt
negative-within (suc height) n (Below e) w = negative-within height n e w
negative-within (suc height) n (Quotient r) w = w

pub zero-within : (height n : ℕ) → WithinAt height n (field height).zero
zero-within zero n = tt
zero-within (suc height) n = zero-within height n

pub one-within : (height n : ℕ) → WithinAt height n (field height).one
one-within zero n = tt
one-within (suc height) n = one-within height n

pub whole-within : (height n k : ℕ) → WithinAt height n ((field height).whole k)
whole-within zero n k = tt
whole-within (suc height) n k = whole-within height n k

-- ---- the elements of the whole tower
pub element-within : (n : ℕ) → 5 ≤ n → (e : Element) → Within n e
unfolding Within
element-within n h e = all-within 5 n h e

pub more-element-within : (n m : ℕ) → n ≤ m → (e : Element) → Within n e → Within m e
unfolding Within
more-element-within n m h e w = more-within 5 n m h e w

pub sum-element-within : (n : ℕ) (a b c : Element) → Within n a → Within n b → element.sum a b ≡ Ok c → Within n c
unfolding Within element
sum-element-within n a b c v w is = sum-within 5 n a b c v w is

pub product-element-within : (n : ℕ) (a b c : Element) → Within n a → Within n b → element.product a b ≡ Ok c → Within n c
unfolding Within element
product-element-within n a b c v w is = product-within 5 n a b c v w is

pub quotient-element-within : (n : ℕ) (a b c : Element) → Within n a → Within n b → element.quotient a b ≡ Ok c → Within n c
unfolding Within element
quotient-element-within n a b c v w is = quotient-within 5 n a b c v w is

pub negative-element-within : (n : ℕ) (e : Element) → Within n e → Within n (element.negative e)
unfolding Within element
negative-element-within n e w = negative-within 5 n e w

pub zero-element-within : (n : ℕ) → Within n element.zero
unfolding Within element
zero-element-within n = zero-within 5 n

pub one-element-within : (n : ℕ) → Within n element.one
unfolding Within element
one-element-within n = one-within 5 n

pub whole-element-within : (n k : ℕ) → Within n (element.whole k)
unfolding Within element
whole-element-within n k = whole-within 5 n k
