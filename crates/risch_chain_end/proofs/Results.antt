-- The result of an answer is the rule's, as the answer is, and has its properties; a rule that costs less than the most is not ended by the budget.
use Rattle.std.specs.Prelude.{IfOk}
use Rattle.std.proofs.Common.{◌≡◌, ℕ, ◌+◌, ◌≤◌, ◌⊎◌, inl, inr, Result, Ok, Err, arith}
use Rattle.risch_elem.specs.Runs.{OnLeft, Rose}
use Rattle.risch_elem.specs.declared.units.Stop.{Stop}
use Rattle.risch_elem.specs.declared.units.Run.{Run}
use Rattle.risch_run.specs.declared.Ended.{Ended}
use Rattle.risch_run.specs.declared.Ended.TheVariants as ended
use Rattle.risch_run.specs.Ruled.{Ruled, run_of, IsRun, IsResult, IfDone}
use Rattle.risch_run.specs.Counted.{Counted, IsNatural, IsOutOfBudget, IsCountedRun}

-- a fact that follows from another holds where the other does
pub if_ok-map : {A E : Type 0} (result : Result A E) (P Q : A → Type 0) → ((a : A) → P a → Q a) → IfOk result P → IfOk result Q
if_ok-map (Ok a) P Q f h = f a h
if_ok-map (Err e) P Q f h = tt

-- ---- a run
pub result-is_rule : {A : Type 0} (run : Run A) (result : Result A Ended) (rule : Ruled A) → run ≡ run_of result → IsRun run rule → IsResult result rule
result-is_rule run (Ok a) rule e h = rw e at h
result-is_rule run (Err (ended.Stopped stop)) rule e h = rw e at h
result-is_rule run (Err ended.Left) rule e h = rw e at h
result-is_rule run (Err ended.Memory) rule e h = tt

pub result-if_done : {A : Type 0} (run : Run A) (result : Result A Ended) (P : A → Type 0) → run ≡ run_of result → IfDone run P → IfOk result P
result-if_done run (Ok a) P e h = rw e at h
result-if_done run (Err end) P e h = tt

-- ---- a run that counts units
natural : {A : Type 0} (stop : Stop) (rule : Counted A) (before after most : ℕ) → before + rule.cost ≤ most → IsNatural A rule stop before after ⊎ IsOutOfBudget A rule stop before after most → rule.result ≡ Err stop
natural stop rule before after most small (inl h) = h.result
natural stop rule before after most small (inr h) = let passed = h.passed in absurd (omega (arith, small, passed))

never-left : ¬ Rose 0 0
never-left rose = omega (arith, rose)

-- where the cost stays within the most, and the count of leaves stands at 0
pub counted-is_rule : {A : Type 0} (run : Run A) (result : Result A Ended) (rule : Counted A) (before after most : ℕ) → run ≡ run_of result → before + rule.cost ≤ most →
    IsCountedRun run rule before after most → OnLeft run (Rose 0 0) → IsResult result rule.result
counted-is_rule run (Ok a) rule before after most e small h left = (rw e at h).0
counted-is_rule run (Err (ended.Stopped stop)) rule before after most e small h left = natural stop rule before after most small (rw e at h)
counted-is_rule run (Err ended.Left) rule before after most e small h left = never-left (rw e at left)
counted-is_rule run (Err ended.Memory) rule before after most e small h left = tt

pub ruleset results = (result-is_rule, result-if_done)
