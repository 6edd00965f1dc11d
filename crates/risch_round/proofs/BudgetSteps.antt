-- A call that counts units from 0 with a most gives what its rule gives within that budget, and is never left where no leaves are counted.
use Rattle.std.specs.Prelude.{IfOk, nat_lt}
use Rattle.std.proofs.Common.{◌≡◌, ℕ, ◌≤◌, ◌⊎◌, inl, inr, true, false, Result, Ok, Err, sym, ap, arith}
use Rattle.std.proofs.lemmas.Bool.{lt-ltb, le-ltb}
use Rattle.risch_elem.specs.declared.units.Run.{Run}
use Rattle.risch_elem.specs.Runs.{OnLeft, Rose}
use Rattle.risch_run.specs.declared.Ended.{Ended}
use Rattle.risch_run.specs.declared.Ended.TheVariants as ended
use Rattle.risch_run.specs.Ruled.{Ruled, run_of, IsResult, IfDone}
use Rattle.risch_run.specs.Counted.{Counted, IsCountedRun, IsNatural, IsOutOfBudget}
use Rattle.risch_round.specs.Budgets.{within_budget}

-- the cost is at most the budget
paid : {A : Type 0} (counted : Counted A) (answer : Ruled A) (budget : ℕ) → counted.cost ≤ budget → counted.result ≡ answer → within_budget budget counted ≡ answer
paid counted answer budget small h =
    let enough : nat_lt budget counted.cost ≡ false = le-ltb budget counted.cost small in
    rw enough h

pub result_is_within : {A : Type 0} (run : Run A) (result : Result A Ended) (counted : Counted A) (after most : ℕ) → run ≡ run_of result → IsCountedRun run counted 0 after most → after ≤ most → OnLeft run (Rose 0 0) →
    IsResult result (within_budget most counted)
result_is_within r (Ok a) counted after most e h most_is left =
    let k = rw e at h in
    let cost = k.1 in
    paid counted (Ok a) most (omega arith) k.0
result_is_within {A} r (Err (ended.Stopped stop)) counted after most e h most_is left = stopped (rw e at h)
  where
    stopped : IsNatural A counted stop 0 after ⊎ IsOutOfBudget A counted stop 0 after most → within_budget most counted ≡ Err stop
    stopped (inl k) = let cost = k.cost in paid counted (Err stop) most (omega arith) k.result
    stopped (inr k) =
        let passed = k.passed in
        let over : nat_lt most counted.cost ≡ true = lt-ltb most counted.cost (omega arith) in
        rw over (ap Err (sym k.budget))
result_is_within r (Err ended.Left) counted after most e h most_is left =
    let rose : Rose 0 0 = rw e at left in
    absurd (omega arith)
result_is_within r (Err ended.Memory) counted after most e h most_is left = tt

pub if_done_result : {A : Type 0} (run : Run A) (result : Result A Ended) (P : A → Type 0) → run ≡ run_of result → IfDone run P → IfOk result P
if_done_result run (Ok a) P e h = rw e at h
if_done_result run (Err end) P e h = tt
