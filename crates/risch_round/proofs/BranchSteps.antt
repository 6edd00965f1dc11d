-- The logarithms of a branch have derivatives: none at all, and those of constant residues.
use Rattle.std.specs.Prelude.{IfOk}
use Rattle.std.proofs.Common.{◌≡◌, ℕ, List, [], Result, Ok, Err, refl}
use Rattle.std.proofs.lemmas.List.Elements.{All-nil}
use Rattle.risch_mean.specs.Element as mean
use Rattle.risch_tower.specs.declared.level.Level.{Level}
use Rattle.risch_level.specs.Levels.{Element}
use Rattle.risch_elem.specs.declared.units.Run.{Run}
use Rattle.risch_run.specs.declared.Ended.{Ended}
use Rattle.risch_run.specs.Ruled.{run_of, IfDone}
use Rattle.risch_residue.specs.ResiduesMeaning.{IfConstant, AreLogarithmsOf, AllLogParts}
use Rattle.risch_residue.specs.declared.outcome.Residues.{Residues}
use Rattle.risch_residue.specs.declared.outcome.Residues.TheVariants.{Constant, NotConstant}
use Rattle.risch_round.specs.AnswerMeaning.{HaveDerivatives, IfConstantLogs}

pub nothing_has_derivatives : (tower : List Level) (n : ℕ) → HaveDerivatives tower n []
nothing_has_derivatives tower n = record { parts = All-nil _; plain = mean.zero; plain_are = refl; sums = mean.zero; sums_are = refl }

-- ---- constant residues
constant-derivatives : (tower : List Level) (h : Element) (it : Residues) → IfConstant it (AreLogarithmsOf tower 0 h) → IfConstant it (λ logs trace. AllLogParts 1 logs) →
    IfConstantLogs it (HaveDerivatives tower 1)
constant-derivatives tower h (Constant logs trace) are parts = record { parts = parts; plain = are.plain; plain_are = are.plain_are; sums = are.sums; sums_are = are.sums_are }
constant-derivatives tower h (NotConstant power trace) are parts = tt

pub result-derivatives : (tower : List Level) (h : Element) (run : Run Residues) (result : Result Residues Ended) → run ≡ run_of result → IfDone run (λ it. IfConstant it (AreLogarithmsOf tower 0 h)) →
    IfDone run (λ it. IfConstant it (λ logs trace. AllLogParts 1 logs)) → IfOk result (λ it. IfConstantLogs it (HaveDerivatives tower 1))
result-derivatives tower h run (Ok it) e are parts = constant-derivatives tower h it (rw e at are) (rw e at parts)
result-derivatives tower h run (Err end) e are parts = tt
