-- Stops at their steps: a value, or a stop and the step in which it comes.
use Rattle.std.specs.Prelude.{◌≡◌, Result, Ok, Err}
use Rattle.risch_cert.specs.declared.answer.Place.{Place}
use Rattle.risch_cert.specs.declared.answer.Halt.{Halt}
use Rattle.risch_run.specs.Ruled.{Ruled}
use Rattle.risch_round.specs.declared.halted.HaltFault.{HaltFault}
use Rattle.risch_round.specs.declared.halted.HaltFault.TheVariants.{Halted as HaltedAt, Memory}

abbrev pub Halted : Type 0 → Type 0
Halted A = Result A Halt

-- the rule in this step
abbrev pub in_step : {A : Type 0} → Place → Ruled A → Halted A
in_step place (Ok a) = Ok a
in_step place (Err stop) = Err (record { stop = stop; place = place })

-- the first value, and then the second from it
abbrev pub and_halted : {A B : Type 0} → Halted A → (A → Halted B) → Halted B
and_halted (Ok a) next = next a
and_halted (Err halt) next = Err halt

-- ---- answers
-- the answer is the rule's, or want of memory
abbrev pub IsHalted : {A : Type 0} → Result A HaltFault → Halted A → Type 0
IsHalted (Ok a) rule = rule ≡ Ok a
IsHalted (Err (HaltedAt halt)) rule = rule ≡ Err halt
IsHalted (Err Memory) rule = Unit {0}
