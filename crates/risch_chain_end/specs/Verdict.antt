-- What is said of a certificate, and of each condition on it.
use Rattle.std.specs.Prelude.{◌≡◌, ℕ, List, ⊤, Result, Ok, Err}
use Rattle.risch_field.specs.Checked.{Checked}
use Rattle.risch_elem.specs.declared.units.Stop.{Stop}
use Rattle.risch_run.specs.Ruled.{Ruled, stop_of}
use Rattle.risch_run.specs.declared.Ended.{Ended}
use Rattle.risch_run.specs.declared.Ended.TheVariants as ended
use Rattle.risch_chain_end.specs.declared.fault.Fault.{Fault}
use Rattle.risch_chain_end.specs.declared.fault.Fault.TheVariants as faults

pub data Verdict : Type 0 where
  -- each condition holds
  accepted : Verdict
  -- the first condition that does not: its line, what the certificate says or implies there, and what it should be
  refused : (line : ℕ) → (left right : List ℕ) → Verdict
  -- a value that a condition needs cannot be formed, or the tower has more constants than the fractions
  stopped : Stop → Verdict

-- the next condition, where those before it hold
abbrev pub also : Verdict → Verdict → Verdict
also accepted next = next
also (refused line left right) next = refused line left right
also (stopped stop) next = stopped stop

-- the condition on a value that a rule gives
abbrev pub ruled : {A : Type 0} → Ruled A → (A → Verdict) → Verdict
ruled (Ok a) condition = condition a
ruled (Err stop) condition = stopped stop

-- the condition on a value that a rule forms
abbrev pub formed : {A : Type 0} → Checked A → (A → Verdict) → Verdict
formed (Ok a) condition = condition a
formed (Err fail) condition = stopped (stop_of fail)

-- a stop is the verdict's; nothing is said of want of memory, and no condition is left
abbrev pub EndsAt : Ended → Verdict → Type 0
EndsAt (ended.Stopped stop) verdict = verdict ≡ stopped stop
EndsAt ended.Left verdict = ⊥
EndsAt ended.Memory verdict = Unit {0}

-- a condition is tested with this verdict, or memory is wanting
abbrev pub Gives : Result ⊤ Fault → Verdict → Type 0
Gives (Ok u) verdict = verdict ≡ accepted
Gives (Err (faults.Refused line left right)) verdict = verdict ≡ refused line left right
Gives (Err (faults.Ended end)) verdict = EndsAt end verdict
