-- Rules that give a value or a stop, and what it says that an answer is a rule's.
use Rattle.std.specs.Prelude.{◌≡◌, Result, Ok, Err}
use Rattle.risch_field.specs.Checked.{Checked}
use Rattle.risch_field.specs.declared.Fail.{Fail}
use Rattle.risch_field.specs.declared.Fail.TheVariants.{Overflow, Size, Memory}
use Rattle.risch_level.specs.Levels.{Element}
use Rattle.risch_elem.specs.declared.units.Stop.{Stop}
use Rattle.risch_elem.specs.declared.units.Stop.TheVariants as stop
use Rattle.risch_elem.specs.declared.units.Run.{Run}
use Rattle.risch_elem.specs.declared.units.Run.TheVariants as run
use Rattle.risch_run.specs.declared.Ended.{Ended}
use Rattle.risch_run.specs.declared.Ended.TheVariants as ended

-- a value, or a stop
abbrev pub Ruled : Type 0 → Type 0
Ruled A = Result A Stop

-- the stop of a value that cannot be formed; no rule gives want of memory, and what stands there only makes the definition whole
abbrev pub stop_of : Fail → Stop
stop_of (Overflow op) = stop.Overflow op
stop_of Size = stop.Size
stop_of Memory = stop.Size

-- a rule that forms values alone
abbrev pub formed : {A : Type 0} → Checked A → Ruled A
formed (Ok a) = Ok a
formed (Err fail) = Err (stop_of fail)

-- the first value, and then the second from it
abbrev pub and_ruled : {A B : Type 0} → Ruled A → (A → Ruled B) → Ruled B
and_ruled (Ok a) f = f a
and_ruled (Err stop) f = Err stop

-- ---- answers
-- what a value that cannot be formed ends a run with
abbrev pub ended_by : Fail → Ended
ended_by (Overflow op) = ended.Stopped (stop.Overflow op)
ended_by Size = ended.Stopped stop.Size
ended_by Memory = ended.Memory

-- the answer with this result
abbrev pub run_of : {A : Type 0} → Result A Ended → Run A
run_of (Ok a) = run.Done a
run_of (Err (ended.Stopped stop)) = run.Stopped stop
run_of (Err ended.Left) = run.Left
run_of (Err ended.Memory) = run.Memory

-- The answer is the rule's, or want of memory. A call that counts no units is never left.
abbrev pub IsRun : {A : Type 0} → Run A → Ruled A → Type 0
IsRun (run.Done a) rule = rule ≡ Ok a
IsRun (run.Stopped stop) rule = rule ≡ Err stop
IsRun run.Left rule = ⊥
IsRun run.Memory rule = Unit {0}

-- the same of a result
abbrev pub IsResult : {A : Type 0} → Result A Ended → Ruled A → Type 0
IsResult (Ok a) rule = rule ≡ Ok a
IsResult (Err (ended.Stopped stop)) rule = rule ≡ Err stop
IsResult (Err ended.Left) rule = ⊥
IsResult (Err ended.Memory) rule = Unit {0}

-- where the answer is a value, it has the property
abbrev pub IfDone : {A : Type 0} → Run A → (A → Type 0) → Type 0
IfDone (run.Done a) P = P a
IfDone (run.Stopped stop) P = Unit {0}
IfDone run.Left P = Unit {0}
IfDone run.Memory P = Unit {0}

-- where the stop is NotSound(e), e has the property
abbrev pub IfStopNotSound : Stop → (Element → Type 0) → Type 0
IfStopNotSound (stop.Overflow op) P = Unit {0}
IfStopNotSound stop.Size P = Unit {0}
IfStopNotSound (stop.Case case) P = Unit {0}
IfStopNotSound (stop.NotSound e) P = P e
IfStopNotSound stop.Budget P = Unit {0}

-- where the answer is NotSound(e), e has the property
abbrev pub IfNotSound : {A : Type 0} → Run A → (Element → Type 0) → Type 0
IfNotSound (run.Done a) P = Unit {0}
IfNotSound (run.Stopped stop) P = IfStopNotSound stop P
IfNotSound run.Left P = Unit {0}
IfNotSound run.Memory P = Unit {0}

-- the same of what ends a run, and of a result
abbrev pub IfEndNotSound : Ended → (Element → Type 0) → Type 0
IfEndNotSound (ended.Stopped stop) P = IfStopNotSound stop P
IfEndNotSound ended.Left P = Unit {0}
IfEndNotSound ended.Memory P = Unit {0}

abbrev pub IfErrNotSound : {A : Type 0} → Result A Ended → (Element → Type 0) → Type 0
IfErrNotSound (Ok a) P = Unit {0}
IfErrNotSound (Err end) P = IfEndNotSound end P
