-- The parts of the elements: what a fraction and a variable stand for as elements, the level of an element, and its value where it is a fraction.
use Rattle.std.specs.Prelude.{nat_eq, if◌then◌else◌, ◌<◌, ◌+◌}
use Rattle.std.proofs.Common.{◌≡◌, ℕ, zero, suc, Bool, true, false, Some, arith, refl, sym, ◌∙◌, ap, eqb-true}
use Rattle.std.proofs.lemmas.Bool.{eqb-false}
use Rattle.risch_frac.specs.Fraction.{Fraction, IsLowest}
use Rattle.risch_mean.specs.Element as mean
use Rattle.risch_polynomial_theory.specs.FractionMeaning.{fraction_meaning}
use Rattle.risch_level.specs.Levels.{Field, field, Element}
use Rattle.risch_level.specs.Accessors.{number, as_number, own_variable, variable}
use Rattle.risch_level.specs.declared.over.Over.TheVariants.{Below, Quotient}
use Rattle.risch_element_theory.specs.LevelMeaning.{valid_at, meaning_at}
use Rattle.risch_element_theory.specs.WholeTower.{IsElement, meaning, WithinAt, Within}
use Rattle.risch_element_theory.proofs.Levels.{level_means, level_variable}

-- ---- fractions
number-valid : (height : ℕ) (q : Fraction) → IsLowest q → valid_at height (number height q)
number-valid zero q l = l
number-valid (suc height) q l = number-valid height q l

number-means : (height : ℕ) (q : Fraction) → meaning_at height (number height q) ≡ fraction_meaning q
number-means zero q = refl
number-means (suc height) q = number-means height q

number-within : (height n : ℕ) (q : Fraction) → WithinAt height n (number height q)
number-within zero n q = tt
number-within (suc height) n q = number-within height n q

as_number-means : (height : ℕ) (e : Field height) (q : Fraction) → as_number height e ≡ Some q → meaning_at height e ≡ fraction_meaning q
as_number-means zero p q is = let same : p ≡ q = cc in ap fraction_meaning same
as_number-means (suc height) (Below e) q is = as_number-means height e q is
as_number-means (suc height) (Quotient r) q is = cc

-- the fraction q as an element
pub number-is_element : (q : Fraction) → IsLowest q → IsElement (number 5 q)
unfolding IsElement
number-is_element q l = number-valid 5 q l

pub number-stands : (q : Fraction) → meaning (number 5 q) ≡ fraction_meaning q
unfolding meaning
number-stands q = number-means 5 q

-- no variable occurs in it
pub number-element-within : (n : ℕ) (q : Fraction) → Within n (number 5 q)
unfolding Within
number-element-within n q = number-within 5 n q

-- an element that is a fraction stands for it
pub as_number-stands : (e : Element) (q : Fraction) → as_number 5 e ≡ Some q → meaning e ≡ fraction_meaning q
unfolding meaning
as_number-stands e q is = as_number-means 5 e q is

-- ---- variables
own_variable-valid : (height : ℕ) → valid_at (suc height) (own_variable (field height))
own_variable-valid height = (level_variable height).is_valid

-- what holds of both values of a test
of_both : {A : Type 0} (P : A → Type 0) (test : Bool) (a b : A) → (test ≡ true → P a) → (test ≡ false → P b) → P (if test then a else b)
of_both P true a b f g = f refl
of_both P false a b f g = g refl

variable-valid : (height l : ℕ) → valid_at height (variable height l)
variable-valid zero l = (level_means 0).zero-valid
variable-valid (suc height) l =
    of_both (valid_at (suc height)) (nat_eq l height) (own_variable (field height)) (Below (variable height l)) (λ e. own_variable-valid height) (λ e. variable-valid height l)

variable-means : (height l : ℕ) → l < height → meaning_at height (variable height l) ≡ mean.variable l
variable-means zero l h = absurd (omega arith)
variable-means (suc height) l h =
    of_both (λ e. meaning_at (suc height) e ≡ mean.variable l) (nat_eq l height) (own_variable (field height)) (Below (variable height l))
    (λ e. (level_variable height).is ∙ ap mean.variable (sym (eqb-true l height e)))
    (λ e. let differ = eqb-false l height e in variable-means height l (omega arith))

variable-within : (height l : ℕ) → WithinAt height (l + 1) (variable height l)
variable-within zero l = tt
variable-within (suc height) l =
    of_both (WithinAt (suc height) (l + 1)) (nat_eq l height) (own_variable (field height)) (Below (variable height l))
    (λ e. let same = eqb-true l height e in omega arith) (λ e. variable-within height l)

-- the variable of a level
pub variable-is_element : (l : ℕ) → IsElement (variable 5 l)
unfolding IsElement
variable-is_element l = variable-valid 5 l

pub variable-stands : (l : ℕ) → l < 5 → meaning (variable 5 l) ≡ mean.variable l
unfolding meaning
variable-stands l h = variable-means 5 l h

pub variable-element-within : (l : ℕ) → Within (l + 1) (variable 5 l)
unfolding Within
variable-element-within l = variable-within 5 l
