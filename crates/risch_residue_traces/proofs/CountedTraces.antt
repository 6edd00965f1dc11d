-- The rule of the traces, step by step.
use Rattle.std.specs.Prelude.{⊤}
use Rattle.std.proofs.Common.{◌≡◌, ℕ, zero, suc, ◌+◌, ◌-◌, ◌<◌, List, [], ◌∷◌, ◌++◌, length, None, Some, Result, Ok, Err, refl, sym, arith}
use Rattle.risch_frac.specs.Fraction.{Fraction}
use Rattle.risch_field.specs.Checked.{IsStopOf}
use Rattle.risch_field.specs.declared.Fail.{Fail}
use Rattle.risch_level.specs.Accessors.{as_number}
use Rattle.risch_level.specs.Levels.{Element}
use Rattle.risch_run.specs.declared.Ended.{Ended}
use Rattle.risch_run.specs.Ruled.{formed, ended_by}
use Rattle.risch_run.specs.Counted.{Counted, free, and_counted, one_unit, IsCountedResult}
use Rattle.risch_run.proofs.CountedSteps.{end_passes, result_passes, value_goes_on, stop_ends}
use Rattle.risch_tower.specs.declared.level.Level.{Level}
use Rattle.risch_tower.specs.Tower.{derivative}
use Rattle.risch_trace.specs.Traces.{trace}
use Rattle.risch_sub.specs.PowerTraces.{next_power}
use Rattle.risch_residue_traces.specs.declared.traces.Traces.{Traces}
use Rattle.risch_residue_traces.specs.declared.traces.Traces.TheVariants.{Constant}
use Rattle.risch_residue_traces.specs.ResidueTraces.{judged, trace_then, traces_from, traces_of}

-- ---- a trace
module _ (tower : List Level) (more : List Element → Counted Traces) (traces : List Element) (power : ℕ) (p : Element) where
  -- one that is no fraction is judged
  pub judged-ends : (result : Result Traces Ended) (k before after most : ℕ) → as_number 5 p ≡ None → k ≡ power →
      IsCountedResult result (and_counted (free (formed (derivative tower p))) (λ derived. free (judged tower k p derived))) before after most →
      IsCountedResult result (trace_then tower more traces power p (as_number 5 p)) before after most
  judged-ends result k before after most none same h = rw (none, ← same) h

  -- a fraction goes on
  pub number-goes_on : (result : Result Traces Ended) (number : Fraction) (before after most : ℕ) → as_number 5 p ≡ Some number →
      IsCountedResult result (more (traces ++ p ∷ [])) before after most → IsCountedResult result (trace_then tower more traces power p (as_number 5 p)) before after most
  number-goes_on result number before after most some h = rw some h

-- ---- the further powers
module _ (tower : List Level) (d rho : List Element) where
  abbrev after_trace : ℕ → List Element → List Element → Element → Counted Traces
  after_trace steps traces next p = trace_then tower (λ more. traces_from tower d rho steps more next) traces (length traces + 1) p (as_number 5 p)

  abbrev after_power : ℕ → List Element → List Element → Counted Traces
  after_power steps traces next = and_counted (free (formed (trace d next))) (after_trace steps traces next)

  abbrev after_unit : ℕ → List Element → List Element → Counted Traces
  after_unit steps traces power = and_counted (free (formed (next_power d rho power))) (after_power steps traces)

  -- a unit that is refused ends them
  pub unit-ends : (end : Ended) (n : ℕ) (traces power : List Element) (before after most : ℕ) → 0 < n → IsCountedResult {A = ⊤} (Err end) one_unit before after most →
      IsCountedResult {A = Traces} (Err end) (traces_from tower d rho n traces power) before after most
  unit-ends end zero traces power before after most some h = absurd (omega arith)
  unit-ends end (suc n) traces power before after most some h = end_passes {A = ⊤} {B = Traces} end one_unit (λ _. after_unit n traces power) before after most h

  -- so does a stop of the power
  pub power-ends : (end : Ended) (stop : Fail) (n : ℕ) (traces power : List Element) (before after most : ℕ) → 0 < n → IsCountedResult {A = ⊤} (Ok tt) one_unit before after most → end ≡ ended_by stop →
      IsStopOf stop (next_power d rho power) → IsCountedResult {A = Traces} (Err end) (traces_from tower d rho n traces power) before after most
  power-ends end stop zero traces power before after most some unit e h = absurd (omega arith)
  power-ends end stop (suc n) traces power before after most some unit e h =
      result_passes {A = ⊤} {B = Traces} (Err end) one_unit (λ _. after_unit n traces power) tt before after after most unit (stop_ends end stop (next_power d rho power) (after_power n traces) after most e h)

  -- and one of its trace
  pub trace-ends : (end : Ended) (stop : Fail) (n : ℕ) (traces power next : List Element) (before after most : ℕ) → 0 < n → IsCountedResult {A = ⊤} (Ok tt) one_unit before after most → next_power d rho power ≡ Ok next →
      end ≡ ended_by stop → IsStopOf stop (trace d next) → IsCountedResult {A = Traces} (Err end) (traces_from tower d rho n traces power) before after most
  trace-ends end stop zero traces power next before after most some unit is e h = absurd (omega arith)
  trace-ends end stop (suc n) traces power next before after most some unit is e h =
      result_passes {A = ⊤} {B = Traces} (Err end) one_unit (λ _. after_unit n traces power) tt before after after most unit
      (value_goes_on (Err end) (next_power d rho power) (after_power n traces) next after after most is (stop_ends end stop (trace d next) (after_trace n traces next) after most e h))

  -- the power and its trace are formed
  formed_goes-on : (result : Result Traces Ended) (n : ℕ) (traces power next : List Element) (p : Element) (before middle after most : ℕ) → IsCountedResult {A = ⊤} (Ok tt) one_unit before middle most →
      next_power d rho power ≡ Ok next → trace d next ≡ Ok p → IsCountedResult result (after_trace n traces next p) middle after most → IsCountedResult result (traces_from tower d rho (suc n) traces power) before after most
  formed_goes-on result n traces power next p before middle after most unit is value h =
      result_passes {A = ⊤} {B = Traces} result one_unit (λ _. after_unit n traces power) tt before middle after most unit
      (value_goes_on result (next_power d rho power) (after_power n traces) next middle after most is (value_goes_on result (trace d next) (after_trace n traces next) p middle after most value h))

  -- a trace that is no fraction ends them
  pub power-judged : (result : Result Traces Ended) (n k : ℕ) (traces power next : List Element) (p : Element) (before middle after most : ℕ) → 0 < n → IsCountedResult {A = ⊤} (Ok tt) one_unit before middle most →
      next_power d rho power ≡ Ok next → trace d next ≡ Ok p → None ≡ as_number 5 p → k ≡ length traces + 1 →
      IsCountedResult result (and_counted (free (formed (derivative tower p))) (λ derived. free (judged tower k p derived))) middle after most →
      IsCountedResult result (traces_from tower d rho n traces power) before after most
  power-judged result zero k traces power next p before middle after most some unit is value none same h = absurd (omega arith)
  power-judged result (suc n) k traces power next p before middle after most some unit is value none same h =
      formed_goes-on result n traces power next p before middle after most unit is value
      (judged-ends tower (λ more. traces_from tower d rho n more next) traces (length traces + 1) p result k middle after most (sym none) same h)

  -- a fraction goes on
  pub power-goes_on : (result : Result Traces Ended) (n : ℕ) (traces power next : List Element) (p : Element) (number : Fraction) (before middle after most : ℕ) → 0 < n → IsCountedResult {A = ⊤} (Ok tt) one_unit before middle most →
      next_power d rho power ≡ Ok next → trace d next ≡ Ok p → Some number ≡ as_number 5 p →
      IsCountedResult result (traces_from tower d rho (n - 1) (traces ++ p ∷ []) next) middle after most → IsCountedResult result (traces_from tower d rho n traces power) before after most
  power-goes_on result zero traces power next p number before middle after most some unit is value there h = absurd (omega arith)
  power-goes_on result (suc n) traces power next p number before middle after most some unit is value there h =
      let less : suc n - 1 ≡ n = omega arith in
      let rest = rw less at h in
      formed_goes-on result n traces power next p before middle after most unit is value
      (number-goes_on tower (λ more. traces_from tower d rho n more next) traces (length traces + 1) p result number middle after most (sym there) rest)

  -- no power is left
  pub powers-done : (n : ℕ) (traces power : List Element) (count most : ℕ) → n ≡ 0 → IsCountedResult (Ok (Constant traces)) (traces_from tower d rho n traces power) count count most
  powers-done n traces power count most e = rw e (refl, omega arith)

  -- ---- all powers
  abbrev after_first : Element → Counted Traces
  after_first p = trace_then tower (λ more. traces_from tower d rho (length d - 2) more rho) [] 1 p (as_number 5 p)

  abbrev after_first_unit : Counted Traces
  after_first_unit = and_counted (free (formed (trace d rho))) after_first

  pub first_unit-ends : (end : Ended) (before after most : ℕ) → IsCountedResult {A = ⊤} (Err end) one_unit before after most → IsCountedResult {A = Traces} (Err end) (traces_of tower d rho) before after most
  first_unit-ends end before after most h = end_passes {A = ⊤} {B = Traces} end one_unit (λ _. after_first_unit) before after most h

  pub first-ends : (end : Ended) (stop : Fail) (before after most : ℕ) → IsCountedResult {A = ⊤} (Ok tt) one_unit before after most → end ≡ ended_by stop → IsStopOf stop (trace d rho) →
      IsCountedResult {A = Traces} (Err end) (traces_of tower d rho) before after most
  first-ends end stop before after most unit e h =
      result_passes {A = ⊤} {B = Traces} (Err end) one_unit (λ _. after_first_unit) tt before after after most unit (stop_ends end stop (trace d rho) after_first after most e h)

  pub first-judged : (result : Result Traces Ended) (p : Element) (before middle after most : ℕ) → IsCountedResult {A = ⊤} (Ok tt) one_unit before middle most → trace d rho ≡ Ok p → None ≡ as_number 5 p →
      IsCountedResult result (and_counted (free (formed (derivative tower p))) (λ derived. free (judged tower 1 p derived))) middle after most → IsCountedResult result (traces_of tower d rho) before after most
  first-judged result p before middle after most unit is none h =
      result_passes {A = ⊤} {B = Traces} result one_unit (λ _. after_first_unit) tt before middle after most unit
      (value_goes_on result (trace d rho) after_first p middle after most is
      (judged-ends tower (λ more. traces_from tower d rho (length d - 2) more rho) [] 1 p result 1 middle after most (sym none) refl h))

  pub first-goes_on : (result : Result Traces Ended) (p : Element) (number : Fraction) (before middle after most : ℕ) → IsCountedResult {A = ⊤} (Ok tt) one_unit before middle most → trace d rho ≡ Ok p →
      Some number ≡ as_number 5 p → IsCountedResult result (traces_from tower d rho (length d - 2) (p ∷ []) rho) middle after most → IsCountedResult result (traces_of tower d rho) before after most
  first-goes_on result p number before middle after most unit is there h =
      result_passes {A = ⊤} {B = Traces} result one_unit (λ _. after_first_unit) tt before middle after most unit
      (value_goes_on result (trace d rho) after_first p middle after most is
      (number-goes_on tower (λ more. traces_from tower d rho (length d - 2) more rho) [] 1 p result number middle after most (sym there) h))
