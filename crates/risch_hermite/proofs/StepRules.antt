-- The rules of powers and of the counted steps, step by step.
use Rattle.std.proofs.Common.{◌≡◌, ℕ, zero, suc, ◌-◌, ◌≤◌, ◌<◌, List, Option, Some, Result, Ok, Err, refl, arith}
use Rattle.risch_field.specs.Checked.{Checked, and_then, Agrees, IsStopOf}
use Rattle.risch_field.specs.declared.Fail.{Fail}
use Rattle.risch_field.proofs.CheckedSteps.{stop_passes, value_passes}
use Rattle.risch_polynomial.specs.Modular as modular
use Rattle.risch_polynomial.specs.Poly as poly
use Rattle.risch_level.specs.Levels.{Element, element}
use Rattle.risch_run.specs.declared.Ended.{Ended}
use Rattle.risch_run.specs.Ruled.{formed, ended_by}
use Rattle.risch_run.specs.Counted.{free, and_counted, one_unit, IsCountedResult}
use Rattle.risch_run.proofs.CountedSteps.{end_passes, result_passes, value_goes_on, stop_ends}
use Rattle.risch_tower.specs.declared.level.Level.{Level}
use Rattle.risch_hermite.specs.declared.partial.Partial.{Partial}
use Rattle.risch_hermite.specs.HermiteReduction.{negative_inverse, power, power_from, cofactor, multiple_of_derivative, solution, step_by, step, steps}

-- ---- powers
module _ (p : List Element) where
  pub power-start : (n : ℕ) → 1 ≤ n → power p n ≡ power_from (n - 1) p p
  power-start zero some = absurd (omega arith)
  power-start (suc n) some = let less : suc n - 1 ≡ n = omega arith in rw less refl

  pub power_from-more : (n : ℕ) (q r : List Element) → 0 < n → poly.product element q p ≡ Ok r → power_from n q p ≡ power_from (n - 1) r p
  power_from-more zero q r some e = absurd (omega arith)
  power_from-more (suc n) q r some e = let less : suc n - 1 ≡ n = omega arith in rw (less, e) refl

  pub power_from-stops : (stop : Fail) (n : ℕ) (q : List Element) → 0 < n → IsStopOf stop (poly.product element q p) → IsStopOf stop (power_from n q p)
  power_from-stops stop zero q some h = absurd (omega arith)
  power_from-stops stop (suc n) q some h = stop_passes stop (poly.product element q p) (λ r. power_from n r p) h

  pub power_from-done : (n : ℕ) (q : List Element) → n ≡ 0 → power_from n q p ≡ Ok q
  power_from-done n q e = rw e refl

-- w quo v^i
pub cofactor-found : (v w p q r : List Element) (i : ℕ) → power v i ≡ Ok p → poly.division element w p ≡ Ok (q, r) → cofactor v i w ≡ Ok q
unfolding cofactor poly.quo
cofactor-found v w p q r i formed divided = rw (formed, divided) refl

pub cofactor-stops : (stop : Fail) (v w p : List Element) (i : ℕ) → power v i ≡ Ok p → IsStopOf stop (poly.division element w p) → IsStopOf stop (cofactor v i w)
unfolding cofactor poly.quo
cofactor-stops stop v w p i formed h = value_passes {B = List Element} (Err stop) (power v i) (λ p. poly.quo element w p) p formed (stop_passes stop (poly.division element w p) (λ d. Ok d.0) h)

-- ---- b and c
pub solution-agrees : (tower : List Level) (level : ℕ) (u v a m right : List Element) (j : ℕ) (factor : Element) (result : Checked (Option (List Element × List Element))) → factor ≡ negative_inverse j →
    multiple_of_derivative tower level u v ≡ Ok m → poly.scaled element factor a ≡ Ok right → Agrees result (modular.solve element v m right) → Agrees result (solution tower level u v j a)
unfolding solution
solution-agrees tower level u v a m right j factor result is derived scaled h =
    value_passes result (multiple_of_derivative tower level u v) (λ m. and_then (poly.scaled element (negative_inverse j) a) (λ right. modular.solve element v m right)) m derived
    (value_passes result (poly.scaled element (negative_inverse j) a) (λ right. modular.solve element v m right) right (rw is at scaled) h)

pub right-stops : (stop : Fail) (tower : List Level) (level : ℕ) (u v a m : List Element) (j : ℕ) (factor : Element) → factor ≡ negative_inverse j → multiple_of_derivative tower level u v ≡ Ok m →
    IsStopOf stop (poly.scaled element factor a) → IsStopOf stop (solution tower level u v j a)
unfolding solution
right-stops stop tower level u v a m j factor is derived h =
    value_passes {B = Option (List Element × List Element)} (Err stop) (multiple_of_derivative tower level u v) (λ m. and_then (poly.scaled element (negative_inverse j) a) (λ right. modular.solve element v m right)) m derived
    (stop_passes stop (poly.scaled element (negative_inverse j) a) (λ right. modular.solve element v m right) (rw is at h))

-- ---- one step
module _ (tower : List Level) (level : ℕ) (u v : List Element) (j : ℕ) (partial : Partial) where
  pub solution-stops : (stop : Fail) → IsStopOf stop (solution tower level u v j partial.numerator) → IsStopOf stop (step tower level u v j partial)
  unfolding step
  solution-stops stop h = stop_passes stop (solution tower level u v j partial.numerator) (step_by tower level u v j partial) h

  pub step-solved : (solved : List Element × List Element) (result : Result Partial Fail) → solution tower level u v j partial.numerator ≡ Ok (Some solved) → Agrees result (step_by tower level u v j partial (Some solved)) →
      Agrees result (step tower level u v j partial)
  unfolding step
  step-solved solved result is h = value_passes result (solution tower level u v j partial.numerator) (step_by tower level u v j partial) (Some solved) is h

-- ---- the steps of a part
module _ (tower : List Level) (level : ℕ) (u v : List Element) where
  -- a unit that is refused ends the steps
  pub unit-ends : (end : Ended) (n : ℕ) (partial : Partial) (before after most : ℕ) → 0 < n → IsCountedResult (Err end) one_unit before after most →
      IsCountedResult {A = Partial} (Err end) (steps tower level u v n partial) before after most
  unit-ends end zero partial before after most some h = absurd (omega arith)
  unit-ends end (suc n) partial before after most some h =
      end_passes end one_unit (λ _. and_counted (free (formed (step tower level u v (suc n) partial))) (steps tower level u v n)) before after most h

  -- so does a stop of a step
  pub step-ends : (end : Ended) (stop : Fail) (n : ℕ) (partial : Partial) (before after most : ℕ) → 0 < n → IsCountedResult (Ok tt) one_unit before after most → end ≡ ended_by stop → IsStopOf stop (step tower level u v n partial) →
      IsCountedResult {A = Partial} (Err end) (steps tower level u v n partial) before after most
  step-ends end stop zero partial before after most some unit e h = absurd (omega arith)
  step-ends end stop (suc n) partial before after most some unit e h =
      result_passes (Err end) one_unit (λ _. and_counted (free (formed (step tower level u v (suc n) partial))) (steps tower level u v n)) tt before after after most unit
      (stop_ends end stop (step tower level u v (suc n) partial) (steps tower level u v n) after most e h)

  -- after a unit and a step the others go on
  pub steps-go_on : (result : Result Partial Ended) (n : ℕ) (partial next : Partial) (before middle after most : ℕ) → 0 < n → IsCountedResult (Ok tt) one_unit before middle most → step tower level u v n partial ≡ Ok next →
      IsCountedResult result (steps tower level u v (n - 1) next) middle after most → IsCountedResult result (steps tower level u v n partial) before after most
  steps-go_on result zero partial next before middle after most some unit e h = absurd (omega arith)
  steps-go_on result (suc n) partial next before middle after most some unit e h =
      let less : suc n - 1 ≡ n = omega arith in
      let rest = rw less at h in
      result_passes result one_unit (λ _. and_counted (free (formed (step tower level u v (suc n) partial))) (steps tower level u v n)) tt before middle after most unit
      (value_goes_on result (step tower level u v (suc n) partial) (steps tower level u v n) next middle after most e rest)

  -- no step is left
  pub steps-done : (n : ℕ) (partial : Partial) (count most : ℕ) → n ≡ 0 → IsCountedResult (Ok partial) (steps tower level u v n partial) count count most
  steps-done n partial count most e = rw e (refl, omega arith)
