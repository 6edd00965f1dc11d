-- The steps of a part so far.
use Rattle.std.proofs.Common.{◌≡◌, ℕ, ◌+◌, ◌-◌, ◌≤◌, ◌<◌, List, Result, Ok, Err, arith}
use Rattle.risch_ring.specs.CommRing.{power}
use Rattle.risch_univariate.specs.PolynomialRing.{polynomials}
use Rattle.risch_mean.specs.Element as mean
use Rattle.risch_mean.specs.ElementField.{elements}
use Rattle.risch_field.specs.Checked.{IsStopOf}
use Rattle.risch_field.specs.declared.Fail.{Fail}
use Rattle.risch_level.specs.Levels.{Element}
use Rattle.risch_element_theory.specs.ElementPolynomials.{◌*ₚ◌}
use Rattle.risch_element_theory.specs.WholeTower.{polynomial, Within, AllWithin}
use Rattle.risch_run.specs.declared.Ended.{Ended}
use Rattle.risch_run.specs.Ruled.{ended_by}
use Rattle.risch_run.specs.Counted.{one_unit, IsCountedResult}
use Rattle.risch_tower.specs.declared.level.Level.{Level}
use Rattle.risch_hermite.specs.declared.partial.Partial.{Partial}
use Rattle.risch_hermite.specs.HermiteReduction.{step, steps}
use Rattle.risch_hermite.specs.HermiteMeaning.{IsReducedTo}
use Rattle.risch_hermite.proofs.StepRules.{unit-ends, step-ends, steps-go_on, steps-done}

module _ (tower : List Level) (level : ℕ) (u v : List Element) (count : ℕ) (start : Partial) (before most : ℕ) where
  -- f = Dg + a/(u·v^n)
  abbrev pub IsOver : mean.Element → ℕ → Partial → Type 0
  IsOver f n partial = IsReducedTo tower level f (polynomial u *ₚ power (polynomials elements) (polynomial v) n) partial

  -- what the steps that are left give, all steps give
  pub record StepsSoFar (done : ℕ) (now : Partial) (middle : ℕ) : Type 0 where
    pub rule : (result : Result Partial Ended) (after : ℕ) → IsCountedResult result (steps tower level u v (count - done) now) middle after most → IsCountedResult result (steps tower level u v count start) before after most
    pub meaning : (f : mean.Element) → IsOver f (count + 1) start → IsOver f (count - done + 1) now
    pub numerator_within : AllWithin level now.numerator
    pub sum_within : Within (level + 1) now.sum

  pub so_far-begin : AllWithin level start.numerator → Within (level + 1) start.sum → StepsSoFar 0 start before
  so_far-begin wn ws =
      let all : count - 0 ≡ count = omega arith in
      record {
        rule = λ result after h. rw all at h;
        meaning = λ f h. rw all h;
        numerator_within = wn;
        sum_within = ws;
      }

  module _ (done : ℕ) (now : Partial) (middle : ℕ) (h : StepsSoFar done now middle) where
    pub so_far-unit_ends : (end : Ended) (after : ℕ) → done < count → IsCountedResult (Err end) one_unit middle after most → IsCountedResult {A = Partial} (Err end) (steps tower level u v count start) before after most
    so_far-unit_ends end after more unit = h.rule (Err end) after (unit-ends tower level u v end (count - done) now middle after most (omega arith) unit)

    pub so_far-step_ends : (end : Ended) (stop : Fail) (after : ℕ) → done < count → IsCountedResult (Ok tt) one_unit middle after most → end ≡ ended_by stop → IsStopOf stop (step tower level u v (count - done) now) →
        IsCountedResult {A = Partial} (Err end) (steps tower level u v count start) before after most
    so_far-step_ends end stop after more unit e stops = h.rule (Err end) after (step-ends tower level u v end stop (count - done) now middle after most (omega arith) unit e stops)

    pub so_far-next : (next : Partial) (after : ℕ) → done < count → IsCountedResult (Ok tt) one_unit middle after most → step tower level u v (count - done) now ≡ Ok next →
        ((f : mean.Element) → IsOver f (count - done + 1) now → IsOver f (count - done) next) → AllWithin level next.numerator → Within (level + 1) next.sum → StepsSoFar (done + 1) next after
    so_far-next next after more unit formed reduces wn ws =
        let fewer : count - done - 1 ≡ count - (done + 1) = omega arith in
        let still : count - (done + 1) + 1 ≡ count - done = omega arith in
        record {
          rule = λ result last k. h.rule result last (steps-go_on tower level u v result (count - done) now next middle after last most (omega arith) unit formed (rw fewer k));
          meaning = λ f k. rw still (reduces f (h.meaning f k));
          numerator_within = wn;
          sum_within = ws;
        }

    pub so_far-end : count ≤ done → IsCountedResult (Ok now) (steps tower level u v count start) before middle most
    so_far-end all = h.rule (Ok now) middle (steps-done tower level u v (count - done) now middle most (omega arith))

    pub so_far-means : count ≤ done → (f : mean.Element) → IsOver f (count + 1) start → IsOver f 1 now
    so_far-means all f k = let one : count - done + 1 ≡ 1 = omega arith in let means = h.meaning f k in rw one at means
