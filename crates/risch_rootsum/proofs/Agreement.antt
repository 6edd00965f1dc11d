-- What holds of each value of a rule holds of the value of a call that agrees with it.
use Rattle.std.specs.Prelude.{IfOk}
use Rattle.std.proofs.Common.{◌≡◌, Result, Ok, Err}
use Rattle.risch_field.specs.Checked.{Checked, Agrees}
use Rattle.risch_field.specs.declared.Fail.{Fail}

pub agreed : {A : Type 0} (P : A → Type 0) (result : Result A Fail) (rule : Checked A) → Agrees result rule → ((a : A) → rule ≡ Ok a → P a) → IfOk result P
agreed P (Ok a) rule h all = all a h
agreed P (Err stop) rule h all = tt

-- what follows from what holds of the value of a call
pub follows : {A : Type 0} (P Q : A → Type 0) (result : Result A Fail) → ((a : A) → P a → Q a) → IfOk result P → IfOk result Q
follows P Q (Ok a) all h = all a h
follows P Q (Err stop) all h = tt
