-- A rule that costs, with a budget.
use Rattle.std.specs.Prelude.{ℕ, nat_lt, if◌then◌else◌, Err}
use Rattle.risch_elem.specs.declared.units.Stop.TheVariants.{Budget}
use Rattle.risch_run.specs.Ruled.{Ruled}
use Rattle.risch_run.specs.Counted.{Counted}

-- the value or the stop of the rule where its whole cost is at most the budget, else Budget
abbrev pub within_budget : {A : Type 0} → ℕ → Counted A → Ruled A
within_budget budget rule = if nat_lt budget rule.cost then Err Budget else rule.result
