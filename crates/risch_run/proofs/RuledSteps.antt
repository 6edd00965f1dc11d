-- Steps of a rule that may stop: what ends a value ends the rule, and a value goes on. The answer with the result of a rule is the rule's.
use Rattle.std.specs.Prelude.{IfOk}
use Rattle.std.proofs.Common.{◌≡◌, Result, Ok, Err, refl}
use Rattle.risch_field.specs.Checked.{Checked, IsStopOf}
use Rattle.risch_field.specs.declared.Fail.{Fail}
use Rattle.risch_field.specs.declared.Fail.TheVariants.{Overflow, Size, Memory}
use Rattle.risch_elem.specs.declared.units.Run.{Run}
use Rattle.risch_level.specs.Levels.{Element}
use Rattle.risch_run.specs.declared.Ended.{Ended}
use Rattle.risch_run.specs.declared.Ended.TheVariants as ended
use Rattle.risch_run.specs.Ruled.{Ruled, formed, and_ruled, ended_by, run_of, IsRun, IsResult, IfDone, IfNotSound, IfEndNotSound, IfErrNotSound}

-- ---- a value is formed, and then a rule goes on
pub stop_ends : {A B : Type 0} (end : Ended) (stop : Fail) (rule : Checked A) (next : A → Ruled B) →
    end ≡ ended_by stop → IsStopOf stop rule → IsResult {A = B} (Err end) (and_ruled (formed rule) next)
stop_ends end (Overflow op) rule next e h = rw (e, h) refl
stop_ends end Size rule next e h = rw (e, h) refl
stop_ends end Memory rule next e h = rw e tt

pub value_goes_on : {A B : Type 0} (result : Result B Ended) (rule : Checked A) (next : A → Ruled B) (a : A) →
    rule ≡ Ok a → IsResult result (next a) → IsResult result (and_ruled (formed rule) next)
value_goes_on result rule next a e h = rw e h

-- ---- a rule that forms values alone
pub formed_stops : {A : Type 0} (end : Ended) (stop : Fail) (rule : Checked A) → end ≡ ended_by stop → IsStopOf stop rule → IsResult {A = A} (Err end) (formed rule)
formed_stops end (Overflow op) rule e h = rw (e, h) refl
formed_stops end Size rule e h = rw (e, h) refl
formed_stops end Memory rule e h = rw e tt

pub formed_gives : {A : Type 0} (a : A) (rule : Checked A) → rule ≡ Ok a → IsResult (Ok a) (formed rule)
formed_gives a rule h = rw h refl

-- a stop of a value is not NotSound
pub stop_is_sound : (end : Ended) (stop : Fail) (P : Element → Type 0) → end ≡ ended_by stop → IfEndNotSound end P
stop_is_sound end (Overflow op) P e = rw e tt
stop_is_sound end Size P e = rw e tt
stop_is_sound end Memory P e = rw e tt

-- ---- a rule, and then a rule
pub end_passes : {A B : Type 0} (end : Ended) (rule : Ruled A) (next : A → Ruled B) → IsResult {A = A} (Err end) rule → IsResult {A = B} (Err end) (and_ruled rule next)
end_passes (ended.Stopped stop) rule next h = rw h refl
end_passes ended.Left rule next h = h
end_passes ended.Memory rule next h = tt

pub result_passes : {A B : Type 0} (result : Result B Ended) (rule : Ruled A) (next : A → Ruled B) (a : A) →
    IsResult (Ok a) rule → IsResult result (next a) → IsResult result (and_ruled rule next)
result_passes result rule next a e h = rw e h

-- ---- the answer with a result
pub answer_is_run : {A : Type 0} (run : Run A) (result : Result A Ended) (rule : Ruled A) → run ≡ run_of result → IsResult result rule → IsRun run rule
answer_is_run run (Ok a) rule e h = rw e h
answer_is_run run (Err (ended.Stopped stop)) rule e h = rw e h
answer_is_run run (Err ended.Left) rule e h = rw e h
answer_is_run run (Err ended.Memory) rule e h = rw e tt

pub answer_if_done : {A : Type 0} (run : Run A) (result : Result A Ended) (P : A → Type 0) → run ≡ run_of result → IfOk result P → IfDone run P
answer_if_done run (Ok a) P e h = rw e h
answer_if_done run (Err (ended.Stopped stop)) P e h = rw e tt
answer_if_done run (Err ended.Left) P e h = rw e tt
answer_if_done run (Err ended.Memory) P e h = rw e tt

pub answer_if_not_sound : {A : Type 0} (run : Run A) (result : Result A Ended) (P : Element → Type 0) → run ≡ run_of result → IfErrNotSound result P → IfNotSound run P
answer_if_not_sound run (Ok a) P e h = rw e tt
answer_if_not_sound run (Err (ended.Stopped stop)) P e h = rw e h
answer_if_not_sound run (Err ended.Left) P e h = rw e tt
answer_if_not_sound run (Err ended.Memory) P e h = rw e tt

-- ---- the result of an answer
pub result_is_rule : {A : Type 0} (run : Run A) (result : Result A Ended) (rule : Ruled A) → run ≡ run_of result → IsRun run rule → IsResult result rule
result_is_rule run (Ok a) rule e h = rw e at h
result_is_rule run (Err (ended.Stopped stop)) rule e h = rw e at h
result_is_rule run (Err ended.Left) rule e h = rw e at h
result_is_rule run (Err ended.Memory) rule e h = tt

-- ---- together
pub ruleset steps = (stop_ends, value_goes_on, formed_stops, formed_gives, stop_is_sound, end_passes, result_passes)

pub ruleset answers = (answer_is_run, answer_if_done, answer_if_not_sound)
