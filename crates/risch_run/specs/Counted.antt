-- Rules that cost units: how many units a rule costs up to its value or stop, and what a run with a budget answers.
use Rattle.std.specs.Prelude.{◌≡◌, ℕ, ◌+◌, ◌<◌, ◌⊎◌, ⊤, Result, Ok, Err}
use Rattle.risch_elem.specs.declared.units.Stop.{Stop}
use Rattle.risch_elem.specs.declared.units.Stop.TheVariants.{Budget}
use Rattle.risch_elem.specs.declared.units.Run.{Run}
use Rattle.risch_elem.specs.declared.units.Run.TheVariants.{Done, Stopped, Left, Memory}
use Rattle.risch_elem.specs.Runs.{Rose}
use Rattle.risch_run.specs.declared.Ended.{Ended}
use Rattle.risch_run.specs.declared.Ended.TheVariants as ended
use Rattle.risch_run.specs.Ruled.{Ruled}

-- a value or a stop, and the units up to there
pub record Counted (A : Type 0) : Type 0 where
  pub cost : ℕ
  pub result : Ruled A

-- a rule that costs nothing
abbrev pub free : {A : Type 0} → Ruled A → Counted A
free rule = record { cost = 0; result = rule }

-- so many units more, before anything is formed
abbrev pub charged : {A : Type 0} → ℕ → Counted A → Counted A
charged n rule = record { cost = n + rule.cost; result = rule.result }

-- the first value, and then the second from it
abbrev pub next_counted : {A B : Type 0} → ℕ → Ruled A → (A → Counted B) → Counted B
next_counted cost (Ok a) f = charged cost (f a)
next_counted cost (Err stop) f = record { cost = cost; result = Err stop }

abbrev pub and_counted : {A B : Type 0} → Counted A → (A → Counted B) → Counted B
and_counted rule f = next_counted rule.cost rule.result f

-- one unit
abbrev pub one_unit : Counted ⊤
one_unit = charged 1 (free (Ok tt))

-- ---- answers
-- the stop of the rule, at its cost
pub record IsNatural (A : Type 0) (rule : Counted A) (stop : Stop) (before after : ℕ) : Type 0 where
  pub result : rule.result ≡ Err stop
  pub cost : after ≡ before + rule.cost
  pub not_budget : ¬ (stop ≡ Budget)

-- the stop Budget where the count stands at its most, which the cost of the rule passes
pub record IsOutOfBudget (A : Type 0) (rule : Counted A) (stop : Stop) (before after most : ℕ) : Type 0 where
  pub budget : stop ≡ Budget
  pub stands : after ≡ most
  pub passed : most < before + rule.cost

-- The answer of a call with a count of units, before and after, and their most: the value or the stop of the rule, with its cost; or Budget, exactly where the cost would pass the most; or it was left, or memory was wanting.
abbrev pub IsCountedRun : {A : Type 0} → Run A → Counted A → ℕ → ℕ → ℕ → Type 0
IsCountedRun (Done a) rule before after most = (rule.result ≡ Ok a) × (after ≡ before + rule.cost)
IsCountedRun {A} (Stopped stop) rule before after most = IsNatural A rule stop before after ⊎ IsOutOfBudget A rule stop before after most
IsCountedRun Left rule before after most = Unit {0}
IsCountedRun Memory rule before after most = Unit {0}

-- the same of a result
abbrev pub IsCountedResult : {A : Type 0} → Result A Ended → Counted A → ℕ → ℕ → ℕ → Type 0
IsCountedResult (Ok a) rule before after most = (rule.result ≡ Ok a) × (after ≡ before + rule.cost)
IsCountedResult {A} (Err (ended.Stopped stop)) rule before after most = IsNatural A rule stop before after ⊎ IsOutOfBudget A rule stop before after most
IsCountedResult (Err ended.Left) rule before after most = Unit {0}
IsCountedResult (Err ended.Memory) rule before after most = Unit {0}

-- ---- how a call leaves the leaves: where it was left, their count rose, and where it gave a value or a stop, it stands
abbrev pub LeavesOfEnd : Ended → ℕ → ℕ → Type 0
LeavesOfEnd (ended.Stopped stop) before after = after ≡ before
LeavesOfEnd ended.Left before after = Rose before after
LeavesOfEnd ended.Memory before after = Unit {0}

abbrev pub LeavesOf : {A : Type 0} → Result A Ended → ℕ → ℕ → Type 0
LeavesOf (Ok a) before after = after ≡ before
LeavesOf (Err end) before after = LeavesOfEnd end before after
