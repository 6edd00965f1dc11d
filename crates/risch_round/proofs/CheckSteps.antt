-- The final check: an integral that is formed over the empty tower has a derivative, and a stop of its values is the stop of the check.
use Rattle.std.specs.Prelude.{All, IfOk}
use Rattle.std.proofs.Common.{◌≡◌, ◌+◌, List, [], length, Result, Ok, Err, refl, sym, subst}
use Rattle.risch_field.specs.Checked.{Checked, IsStopOf}
use Rattle.risch_field.specs.declared.Fail.{Fail}
use Rattle.risch_field.specs.declared.Fail.TheVariants.{Overflow, Size, Memory}
use Rattle.risch_cert.specs.declared.answer.Halt.{Halt}
use Rattle.risch_cert.specs.declared.answer.Place.TheVariants.{Checking}
use Rattle.risch_cert.specs.declared.answer.Answer.{Answer}
use Rattle.risch_cert.specs.declared.answer.Answer.TheVariants.{Stopped}
use Rattle.risch_mean.specs.Element as mean
use Rattle.risch_mean.specs.Element.{◌+ₑ◌}
use Rattle.risch_mean.specs.Tower.{derive_in}
use Rattle.risch_mean.specs.Answer.{HasDerivative}
use Rattle.risch_element_theory.specs.WholeTower.{IsElement, meaning, Within}
use Rattle.risch_element_theory.proofs.ElementDerivation.{element-lies}
use Rattle.risch_tower.specs.declared.level.Level.{Level}
use Rattle.risch_tower.specs.TowerMeaning.{monomials}
use Rattle.risch_rootsum.specs.declared.integral.Integral.{Integral}
use Rattle.risch_rootsum.specs.DerivativeMeaning.{answer_of, IsLogPart}
use Rattle.risch_round.specs.AnswerMeaning.{IsFormed}
use Rattle.risch_round.specs.Procedure.{stop_of, stopped_in, IsUnchecked}

pub part-within : (tower : List Level) (it : Integral) → tower ≡ [] → IsFormed tower it → Within (length tower + 1) it.part
part-within tower it e h = rw e h.part

pub logs-formed : (tower : List Level) (it : Integral) → tower ≡ [] → IsFormed tower it → All (IsLogPart (length tower + 1)) it.logs
logs-formed tower it e h = rw e h.logs.parts

derivative-over_empty : (it : Integral) → IsElement it.part → IsFormed [] it → (f : mean.Element) × HasDerivative (monomials []) (answer_of it) f
derivative-over_empty it v h = (
  derive_in (monomials []) (meaning it.part) +ₑ (h.logs.plain +ₑ h.logs.sums),
  record {
    part_in_tower = element-lies 1 it.part v h.part;
    logs = h.logs.plain;
    logs_are = h.logs.plain_are;
    sums = h.logs.sums;
    sums_are = h.logs.sums_are;
    is = refl;
  },
)

pub has-derivative : (tower : List Level) (it : Integral) → tower ≡ [] → IsElement it.part → IsFormed tower it → (f : mean.Element) × HasDerivative (monomials tower) (answer_of it) f
has-derivative tower it e v h =
    subst (λ (levels : List Level). IsFormed levels it → (f : mean.Element) × HasDerivative (monomials levels) (answer_of it) f) (sym e) (derivative-over_empty it v) h

-- ---- a value of the check cannot be formed
pub check-stops : {A E : Type 0} (stop : Fail) (result : Result Answer E) (rule : Checked A) (answer : Checked A → Answer) → ((fail : Fail) → answer (Err fail) ≡ stopped_in Checking (stop_of fail)) →
    IsStopOf stop rule → IfOk result (IsUnchecked stop) → IfOk result (λ it. it ≡ answer rule)
check-stops (Overflow op) (Ok it) rule answer stops e h = rw (e, stops (Overflow op)) h
check-stops Size (Ok it) rule answer stops e h = rw (e, stops Size) h
check-stops Memory (Ok it) rule answer stops e h = absurd h
check-stops stop (Err error) rule answer stops e h = tt

pub unchecked-is : {E : Type 0} (stop : Fail) (result : Result Answer E) (P : Answer → Type 0) → ((halt : Halt) → P (Stopped halt)) → IfOk result (IsUnchecked stop) → IfOk result P
unchecked-is (Overflow op) (Ok it) P all h = rw h (all _)
unchecked-is Size (Ok it) P all h = rw h (all _)
unchecked-is Memory (Ok it) P all h = absurd h
unchecked-is stop (Err error) P all h = tt
