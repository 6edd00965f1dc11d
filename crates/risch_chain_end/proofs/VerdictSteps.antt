-- Conditions that are tested one after the other: a fault ends them, and where one holds the next is tested.
use Rattle.std.specs.Prelude.{⊤}
use Rattle.std.proofs.Common.{◌≡◌, Result, Ok, Err, refl}
use Rattle.risch_field.specs.Checked.{Checked, IsStopOf}
use Rattle.risch_field.specs.declared.Fail as fails
use Rattle.risch_field.specs.declared.Fail.{Fail}
use Rattle.risch_run.specs.Ruled.{Ruled, ended_by, IsResult}
use Rattle.risch_run.specs.declared.Ended.{Ended as End}
use Rattle.risch_run.specs.declared.Ended.TheVariants as ended
use Rattle.risch_chain_end.specs.declared.fault.Fault.{Fault}
use Rattle.risch_chain_end.specs.declared.fault.Fault.TheVariants.{Refused, Ended}
use Rattle.risch_chain_end.specs.Verdict.{Verdict, accepted, also, ruled, formed, EndsAt, Gives}

-- a value that cannot be formed ends the condition on it
pub stop_ends : {A : Type 0} (stop : Fail) (rule : Checked A) (condition : A → Verdict) → IsStopOf stop rule → EndsAt (ended_by stop) (formed rule condition)
stop_ends (fails.TheVariants.Overflow op) rule condition h = rw h refl
stop_ends fails.TheVariants.Size rule condition h = rw h refl
stop_ends fails.TheVariants.Memory rule condition h = tt

-- the condition on a value that is formed
pub value_goes_on : {A : Type 0} (result : Result ⊤ Fault) (rule : Checked A) (condition : A → Verdict) (a : A) → rule ≡ Ok a → Gives result (condition a) → Gives result (formed rule condition)
value_goes_on result rule condition a e h = rw e h

-- what ends a rule ends the condition on its value
pub end_ends : {A : Type 0} (end : End) (rule : Ruled A) (condition : A → Verdict) → IsResult {A = A} (Err end) rule → EndsAt end (ruled rule condition)
end_ends (ended.Stopped stop) rule condition h = rw h refl
end_ends ended.Left rule condition h = h
end_ends ended.Memory rule condition h = tt

-- the condition on the value of a rule
pub rule_goes_on : {A : Type 0} (result : Result ⊤ Fault) (rule : Ruled A) (condition : A → Verdict) (a : A) → IsResult (Ok a) rule → Gives result (condition a) → Gives result (ruled rule condition)
rule_goes_on result rule condition a e h = rw e h

-- a fault ends the conditions
pub fault_ends : (fault : Fault) (first next : Verdict) → Gives (Err fault) first → Gives (Err fault) (also first next)
fault_ends (Refused line left right) first next h = rw h refl
fault_ends (Ended (ended.Stopped stop)) first next h = rw h refl
fault_ends (Ended ended.Left) first next h = h
fault_ends (Ended ended.Memory) first next h = tt

-- the next condition, where the first holds
pub next_goes_on : (result : Result ⊤ Fault) (first next : Verdict) → first ≡ accepted → Gives result next → Gives result (also first next)
next_goes_on result first next e h = rw e h

pub ruleset steps = (stop_ends, value_goes_on, end_ends, rule_goes_on, fault_ends, next_goes_on)
