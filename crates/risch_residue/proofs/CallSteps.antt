-- The result of a run that counts units.
use Rattle.std.specs.Prelude.{IfOk}
use Rattle.std.proofs.Common.{◌≡◌, ℕ, Result, Ok, Err}
use Rattle.risch_level.specs.Levels.{Element}
use Rattle.risch_elem.specs.declared.units.Run.{Run}
use Rattle.risch_elem.specs.Runs.{OnLeft, OnReturn, Rose}
use Rattle.risch_run.specs.declared.Ended.{Ended}
use Rattle.risch_run.specs.declared.Ended.TheVariants as ended
use Rattle.risch_run.specs.Ruled.{run_of, IfDone, IfNotSound, IfErrNotSound}
use Rattle.risch_run.specs.Counted.{Counted, IsCountedRun, IsCountedResult, LeavesOf}

pub result_is_counted : {A : Type 0} (run : Run A) (result : Result A Ended) (rule : Counted A) (before after most : ℕ) → run ≡ run_of result → IsCountedRun run rule before after most →
    IsCountedResult result rule before after most
result_is_counted run (Ok a) rule before after most e h = rw e at h
result_is_counted run (Err (ended.Stopped stop)) rule before after most e h = rw e at h
result_is_counted run (Err ended.Left) rule before after most e h = tt
result_is_counted run (Err ended.Memory) rule before after most e h = tt

pub result_if_done : {A : Type 0} (run : Run A) (result : Result A Ended) (P : A → Type 0) → run ≡ run_of result → IfDone run P → IfOk result P
result_if_done run (Ok a) P e h = rw e at h
result_if_done run (Err end) P e h = tt

pub result_if_not_sound : {A : Type 0} (run : Run A) (result : Result A Ended) (P : Element → Type 0) → run ≡ run_of result → IfNotSound run P → IfErrNotSound result P
result_if_not_sound run (Ok a) P e h = tt
result_if_not_sound run (Err (ended.Stopped stop)) P e h = rw e at h
result_if_not_sound run (Err ended.Left) P e h = tt
result_if_not_sound run (Err ended.Memory) P e h = tt

pub result_leaves : {A : Type 0} (run : Run A) (result : Result A Ended) (before after : ℕ) → run ≡ run_of result → OnLeft run (Rose before after) → OnReturn run (after ≡ before) → LeavesOf result before after
result_leaves run (Ok a) before after e left stays = rw e at stays
result_leaves run (Err (ended.Stopped stop)) before after e left stays = rw e at stays
result_leaves run (Err ended.Left) before after e left stays = rw e at left
result_leaves run (Err ended.Memory) before after e left stays = tt

pub ruleset results = (result_is_counted, result_if_done, result_if_not_sound, result_leaves)
