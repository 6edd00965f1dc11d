-- The derivative of an integral, part by part: what is left of it after the parts so far.
--     first-rest, next-rest, last-rest      with all parts, one part less, no part
--     rest-part      the next part has a derivative
use Rattle.std.specs.Prelude.{not, cond, filter}
use Rattle.std.proofs.Common.{◌≡◌, sym, ap, ap₂, ◌∙◌, Bool, true, false, List, [], ◌∷◌, map, refl}
use Rattle.std.proofs.lemmas.Bool.{true≢false}
use Rattle.risch_ring.proofs.Laws as Laws
use Rattle.risch_mean.specs.Element as mean
use Rattle.risch_mean.specs.Element.{◌+ₑ◌}
use Rattle.risch_mean.specs.ElementField.{elements}
use Rattle.risch_mean.specs.Tower.{Tower, derive_in}
use Rattle.risch_mean.specs.ElementPolynomials.{times_modulo, z_times_modulo, trace_modulo}
use Rattle.risch_mean.specs.Answer.{Logarithm, RootSum, LogDerivative, SumDerivative, SumOf, HasDerivative}
use Rattle.risch_mean.proofs.AlgebraLaws.{inverse_unique}
use Rattle.risch_element_theory.specs.WholeTower.{meaning}
use Rattle.risch_rootsum.specs.Derivative.{is_linear}
use Rattle.risch_rootsum.specs.DerivativeMeaning.{logarithm_of, sum_of, logarithms_of, sums_of, answer_of, IsPartDerivative}
use Rattle.risch_rootsum.specs.declared.integral.LogPart.{LogPart}
use Rattle.risch_rootsum.specs.declared.integral.Integral.{Integral}

-- f is the total, and the derivatives of these parts besides
pub record IsRest (tower : Tower) (logs : List LogPart) (total f : mean.Element) : Type 0 where
  pub logarithms : mean.Element
  pub logarithms_are : SumOf (LogDerivative tower) (logarithms_of logs) logarithms
  pub sums : mean.Element
  pub sums_are : SumOf (SumDerivative tower) (sums_of logs) sums
  pub is : f ≡ total +ₑ (logarithms +ₑ sums)

pub first-rest : (tower : Tower) (integral : Integral) (f : mean.Element) → HasDerivative tower (answer_of integral) f → IsRest tower integral.logs (derive_in tower (meaning integral.part)) f
first-rest tower integral f h = record { logarithms = h.logs; logarithms_are = h.logs_are; sums = h.sums; sums_are = h.sums_are; is = h.is }

pub last-rest : (tower : Tower) (total f : mean.Element) → IsRest tower [] total f → f ≡ total
last-rest tower total f h =
    h.is ∙ ap₂ (λ x y. total +ₑ (x +ₑ y)) h.logarithms_are h.sums_are ∙ ap (λ x. total +ₑ x) (elements.ring.add-zero mean.zero) ∙ elements.ring.add-zero total

-- a part has at most one derivative
log_derivative-unique : (tower : Tower) (l : Logarithm) (f g : mean.Element) → LogDerivative tower l f → LogDerivative tower l g → f ≡ g
log_derivative-unique tower l f g a b = a.is ∙ sym b.is

sum_derivative-unique : (tower : Tower) (s : RootSum) (f g : mean.Element) → SumDerivative tower s f → SumDerivative tower s g → f ≡ g
sum_derivative-unique tower s f g a b =
    a.is ∙ ap (λ t. trace_modulo s.modulus (z_times_modulo s.modulus (times_modulo s.modulus (map (derive_in tower) s.inner) t)))
    (inverse_unique elements.ring s.modulus s.inner a.inverse b.inverse a.is_inverse b.is_inverse) ∙ sym b.is

-- x = h + x' and f = t + (x + y), so f = (t + h) + (x' + y)
first_moves : (f t x y h x' : mean.Element) → f ≡ t +ₑ (x +ₑ y) → x ≡ h +ₑ x' → f ≡ t +ₑ h +ₑ (x' +ₑ y)
first_moves f t x y h x' e i =
    e ∙ ap (λ w. t +ₑ (w +ₑ y)) i ∙ ap (λ w. t +ₑ w) (elements.ring.add_assoc h x' y) ∙ sym (elements.ring.add_assoc t h (x' +ₑ y))

-- y = h + y' and f = t + (x + y), so f = (t + h) + (x + y')
second_moves : (f t x y h y' : mean.Element) → f ≡ t +ₑ (x +ₑ y) → y ≡ h +ₑ y' → f ≡ t +ₑ h +ₑ (x +ₑ y')
second_moves f t x y h y' e i =
    e ∙ ap (λ w. t +ₑ (x +ₑ w)) i ∙ ap (λ w. t +ₑ w) (Laws.add_left_comm elements.ring x h y') ∙ sym (elements.ring.add_assoc t h (x +ₑ y'))

-- the parts with one more in front, by the test of the first
abbrev logarithms_by : Bool → LogPart → List LogPart → List Logarithm
logarithms_by t l logs = map logarithm_of (cond t (l ∷ filter is_linear logs) (filter is_linear logs))

abbrev sums_by : Bool → LogPart → List LogPart → List RootSum
sums_by t l logs = map sum_of (cond (not t) (l ∷ filter (λ l. not (is_linear l)) logs) (filter (λ l. not (is_linear l)) logs))

module _ (tower : Tower) (l : LogPart) (logs : List LogPart) where
  record IsRestBy (t : Bool) (total f : mean.Element) : Type 0 where
    logarithms : mean.Element
    logarithms_are : SumOf (LogDerivative tower) (logarithms_by t l logs) logarithms
    sums : mean.Element
    sums_are : SumOf (SumDerivative tower) (sums_by t l logs) sums
    is : f ≡ total +ₑ (logarithms +ₑ sums)

  rest_by : (total f : mean.Element) → IsRest tower (l ∷ logs) total f → IsRestBy (is_linear l) total f
  rest_by total f h = record { logarithms = h.logarithms; logarithms_are = h.logarithms_are; sums = h.sums; sums_are = h.sums_are; is = h.is }

  part_by : (t : Bool) → is_linear l ≡ t → (total f : mean.Element) → IsRestBy t total f → (g : mean.Element) × IsPartDerivative tower l g
  part_by true e total f h = (h.logarithms_are.0, record { of_logarithm = λ i. h.logarithms_are.2; of_sum = λ i. absurd (true≢false (sym e ∙ i)) })
  part_by false e total f h = (h.sums_are.0, record { of_logarithm = λ i. absurd (true≢false (sym i ∙ e)); of_sum = λ i. h.sums_are.2 })

  pub rest-part : (total f : mean.Element) → IsRest tower (l ∷ logs) total f → (g : mean.Element) × IsPartDerivative tower l g
  rest-part total f h = part_by (is_linear l) refl total f (rest_by total f h)

  next_by : (t : Bool) → is_linear l ≡ t → (total f g : mean.Element) → IsRestBy t total f → IsPartDerivative tower l g → IsRest tower logs (total +ₑ g) f
  next_by true e total f g h p =
      let s = h.logarithms_are in
      let same : s.0 ≡ g = log_derivative-unique tower (logarithm_of l) s.0 g s.2 (p.of_logarithm e) in
      record {
        logarithms = s.1;
        logarithms_are = s.3;
        sums = h.sums;
        sums_are = h.sums_are;
        is = first_moves f total h.logarithms h.sums s.0 s.1 h.is s.4 ∙ ap (λ x. total +ₑ x +ₑ (s.1 +ₑ h.sums)) same;
      }
  next_by false e total f g h p =
      let s = h.sums_are in
      let same : s.0 ≡ g = sum_derivative-unique tower (sum_of l) s.0 g s.2 (p.of_sum e) in
      record {
        logarithms = h.logarithms;
        logarithms_are = h.logarithms_are;
        sums = s.1;
        sums_are = s.3;
        is = second_moves f total h.logarithms h.sums s.0 s.1 h.is s.4 ∙ ap (λ x. total +ₑ x +ₑ (h.logarithms +ₑ s.1)) same;
      }

  pub next-rest : (total f g : mean.Element) → IsRest tower (l ∷ logs) total f → IsPartDerivative tower l g → IsRest tower logs (total +ₑ g) f
  next-rest total f g h p = next_by (is_linear l) refl total f g (rest_by total f h) p
