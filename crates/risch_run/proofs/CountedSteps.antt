-- Steps of a rule that costs: what ends a value ends the rule, and a value goes on with the units that are left. The answer with the result of a rule is the rule's.
use Rattle.std.specs.Prelude.{◌↔◌, ⊤}
use Rattle.std.proofs.Common.{◌≡◌, ℕ, ◌+◌, ◌≤◌, ◌⊎◌, inl, inr, Result, Ok, Err, refl, ◌∙◌, ap, arith}
use Rattle.risch_field.specs.Checked.{Checked, IsStopOf}
use Rattle.risch_field.specs.declared.Fail.{Fail}
use Rattle.risch_field.specs.declared.Fail.TheVariants.{Overflow, Size, Memory}
use Rattle.risch_elem.specs.declared.units.Stop.{Stop}
use Rattle.risch_elem.specs.declared.units.Stop.TheVariants as stops
use Rattle.risch_elem.specs.declared.units.Run.{Run}
use Rattle.risch_elem.specs.declared.units.Run.TheVariants as run
use Rattle.risch_elem.specs.Runs.{OnDone, OnLeft, OnReturn, IsBudget, IsUnitAnswer, Rose}
use Rattle.risch_run.specs.declared.Ended.{Ended}
use Rattle.risch_run.specs.declared.Ended.TheVariants as ended
use Rattle.risch_run.specs.Ruled.{Ruled, formed, ended_by, run_of}
use Rattle.risch_run.specs.Counted.{Counted, free, charged, next_counted, and_counted, one_unit, IsNatural, IsOutOfBudget, IsCountedRun, IsCountedResult, LeavesOf, LeavesOfEnd}

-- a rule costs at least what its first part does
first-cost : {A B : Type 0} (cost : ℕ) (rule : Ruled A) (next : A → Counted B) → cost ≤ (next_counted cost rule next).cost
first-cost cost (Ok a) next = omega arith
first-cost cost (Err stop) next = omega arith

-- ---- a rule, and then a rule
stop_passes : {A B : Type 0} (stop : Stop) (rule : Counted A) (next : A → Counted B) (before after most : ℕ) →
    IsNatural A rule stop before after ⊎ IsOutOfBudget A rule stop before after most → IsNatural B (and_counted rule next) stop before after ⊎ IsOutOfBudget B (and_counted rule next) stop before after most
stop_passes stop rule next before after most (inl h) = inl (record { result = rw h.result refl; cost = rw h.result h.cost; not_budget = h.not_budget })
stop_passes stop rule next before after most (inr h) =
    let more = first-cost rule.cost rule.result next in
    let passed = h.passed in
    inr (record { budget = h.budget; stands = h.stands; passed = omega (arith, more, passed) })

pub end_passes : {A B : Type 0} (end : Ended) (rule : Counted A) (next : A → Counted B) (before after most : ℕ) →
    IsCountedResult {A = A} (Err end) rule before after most → IsCountedResult {A = B} (Err end) (and_counted rule next) before after most
end_passes (ended.Stopped stop) rule next before after most h = stop_passes stop rule next before after most h
end_passes ended.Left rule next before after most h = tt
end_passes ended.Memory rule next before after most h = tt

-- so many units more
charged-result : {A : Type 0} (result : Result A Ended) (cost : ℕ) (rule : Counted A) (before middle after most : ℕ) → middle ≡ before + cost →
    IsCountedResult result rule middle after most → IsCountedResult result (charged cost rule) before after most
charged-result (Ok a) cost rule before middle after most e h = let k = h.1 in (h.0, omega (arith, e, k))
charged-result (Err (ended.Stopped stop)) cost rule before middle after most e (inl h) = let k = h.cost in inl (record { result = h.result; cost = omega (arith, e, k); not_budget = h.not_budget })
charged-result (Err (ended.Stopped stop)) cost rule before middle after most e (inr h) = let k = h.passed in inr (record { budget = h.budget; stands = h.stands; passed = omega (arith, e, k) })
charged-result (Err ended.Left) cost rule before middle after most e h = tt
charged-result (Err ended.Memory) cost rule before middle after most e h = tt

pub result_passes : {A B : Type 0} (result : Result B Ended) (rule : Counted A) (next : A → Counted B) (a : A) (before middle after most : ℕ) →
    IsCountedResult (Ok a) rule before middle most → IsCountedResult result (next a) middle after most → IsCountedResult result (and_counted rule next) before after most
result_passes result rule next a before middle after most h k = rw h.0 (charged-result result rule.cost (next a) before middle after most h.1 k)

-- ---- a value is formed, which costs nothing, and then a rule goes on
pub value_goes_on : {A B : Type 0} (result : Result B Ended) (rule : Checked A) (next : A → Counted B) (a : A) (before after most : ℕ) →
    rule ≡ Ok a → IsCountedResult result (next a) before after most → IsCountedResult result (and_counted (free (formed rule)) next) before after most
value_goes_on result rule next a before after most e h = rw e (charged-result result 0 (next a) before before after most (omega arith) h)

pub value_ends : {A : Type 0} (rule : Checked A) (a : A) (n most : ℕ) → rule ≡ Ok a → IsCountedResult (Ok a) (free (formed rule)) n n most
value_ends rule a n most e = rw e (refl, omega arith)

natural : {A : Type 0} (stop : Stop) (n most : ℕ) → ¬ (stop ≡ stops.Budget) → IsCountedResult {A = A} (Err (ended.Stopped stop)) (free (Err stop)) n n most
natural stop n most other = inl (record { result = refl; cost = omega arith; not_budget = other })

pub stop_stands : {A : Type 0} (end : Ended) (stop : Fail) (rule : Checked A) (n most : ℕ) → end ≡ ended_by stop → IsStopOf stop rule → IsCountedResult {A = A} (Err end) (free (formed rule)) n n most
stop_stands {A} end (Overflow op) rule n most e h = rw (e, h) (natural {A = A} (stops.Overflow op) n most (λ (z : stops.Overflow op ≡ stops.Budget). cc z))
stop_stands {A} end Size rule n most e h = rw (e, h) (natural {A = A} stops.Size n most (λ (z : stops.Size ≡ stops.Budget). cc z))
stop_stands end Memory rule n most e h = rw e tt

pub stop_ends : {A B : Type 0} (end : Ended) (stop : Fail) (rule : Checked A) (next : A → Counted B) (n most : ℕ) →
    end ≡ ended_by stop → IsStopOf stop rule → IsCountedResult {A = B} (Err end) (and_counted (free (formed rule)) next) n n most
stop_ends {A} end stop rule next n most e h = end_passes {A = A} end (free (formed rule)) next n n most (stop_stands {A = A} end stop rule n most e h)

-- ---- the leaves of a call: what stops a value leaves them, and a first call that returns too
pub stop-leaves : (end : Ended) (stop : Fail) (n : ℕ) → end ≡ ended_by stop → LeavesOfEnd end n n
stop-leaves end (Overflow op) n e = rw e refl
stop-leaves end Size n e = rw e refl
stop-leaves end Memory n e = rw e tt

-- ---- one unit
pub unit_counted : (run : Run ⊤) (result : Result ⊤ Ended) (before after most : ℕ) → run ≡ run_of result → IsUnitAnswer run → OnDone run (after ≡ before + 1) → (IsBudget run ↔ (before ≡ most)) →
    before ≤ after → after ≤ most → IsCountedResult result one_unit before after most
unit_counted r (Ok u) before after most e answer done budget grow within = (refl, let k = rw e at done in omega (arith, k))
unit_counted r (Err (ended.Stopped stop)) before after most e answer done budget grow within =
    let is : stop ≡ stops.Budget = rw e at answer in
    let stands : before ≡ most = budget.0 (e ∙ ap run.Stopped is) in
    inr (record { budget = is; stands = omega arith; passed = omega arith })
unit_counted r (Err ended.Left) before after most e answer done budget grow within = tt
unit_counted r (Err ended.Memory) before after most e answer done budget grow within = tt

pub unit_leaves : {A : Type 0} (run : Run A) (result : Result A Ended) (before after : ℕ) → run ≡ run_of result → OnLeft run (Rose before after) → OnReturn run (after ≡ before) → LeavesOf result before after
unit_leaves r (Ok a) before after e left stays = rw e at stays
unit_leaves r (Err (ended.Stopped stop)) before after e left stays = rw e at stays
unit_leaves r (Err ended.Left) before after e left stays = rw e at left
unit_leaves r (Err ended.Memory) before after e left stays = tt

-- ---- the answer with a result
pub answer_is_counted : {A : Type 0} (run : Run A) (result : Result A Ended) (rule : Counted A) (before after most : ℕ) → run ≡ run_of result → IsCountedResult result rule before after most → IsCountedRun run rule before after most
answer_is_counted r (Ok a) rule before after most e h = rw e h
answer_is_counted r (Err (ended.Stopped stop)) rule before after most e h = rw e h
answer_is_counted r (Err ended.Left) rule before after most e h = rw e tt
answer_is_counted r (Err ended.Memory) rule before after most e h = rw e tt

pub answer_left : {A : Type 0} (run : Run A) (result : Result A Ended) (before after : ℕ) → run ≡ run_of result → LeavesOf result before after → OnLeft run (Rose before after)
answer_left r (Ok a) before after e h = rw e tt
answer_left r (Err (ended.Stopped stop)) before after e h = rw e tt
answer_left r (Err ended.Left) before after e h = rw e h
answer_left r (Err ended.Memory) before after e h = rw e tt

pub answer_not_left : {A : Type 0} (run : Run A) (result : Result A Ended) (before after : ℕ) → run ≡ run_of result → LeavesOf result before after → OnReturn run (after ≡ before)
answer_not_left r (Ok a) before after e h = rw e h
answer_not_left r (Err (ended.Stopped stop)) before after e h = rw e h
answer_not_left r (Err ended.Left) before after e h = rw e tt
answer_not_left r (Err ended.Memory) before after e h = rw e tt

-- ---- together
pub ruleset steps = (end_passes, result_passes, value_goes_on, value_ends, stop_stands, stop_ends, stop-leaves)

pub ruleset answers = (answer_is_counted, answer_left, answer_not_left)
