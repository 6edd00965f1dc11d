-- Steps of a rule: a stop ends it, and a value goes on; where it gives a value, each step gave one.
use Rattle.std.specs.Prelude.{if◌then◌else◌}
use Rattle.std.proofs.Common.{◌≡◌, Bool, true, false, Result, Ok, Err, refl}
use Rattle.risch_field.specs.Checked.{Checked, and_then, Agrees, IsStopOf}
use Rattle.risch_field.specs.declared.Fail.{Fail}
use Rattle.risch_field.specs.declared.Fail.TheVariants.{Overflow, Size, Memory}

pub stop_passes : {A B : Type 0} (stop : Fail) (rule : Checked A) (next : A → Checked B) → IsStopOf stop rule → IsStopOf stop (and_then rule next)
stop_passes (Overflow op) rule next h = rw h refl
stop_passes Size rule next h = rw h refl
stop_passes Memory rule next h = tt

pub value_passes : {A B : Type 0} (result : Result B Fail) (rule : Checked A) (next : A → Checked B) (a : A) → rule ≡ Ok a → Agrees result (next a) → Agrees result (and_then rule next)
value_passes result rule next a e h = rw e h

-- the first value of two steps, and the second from it
pub record Passes {A B : Type 0} (rule : Checked A) (continue : A → Checked B) (result : B) : Type 0 where
  pub value : A
  pub is : rule ≡ Ok value
  pub next : continue value ≡ Ok result

pub and_then-ok : {A B : Type 0} (rule : Checked A) (continue : A → Checked B) (result : B) → and_then rule continue ≡ Ok result → Passes rule continue result
and_then-ok (Ok a) continue result e = record { value = a; is = refl; next = e }
and_then-ok (Err stop) continue result e = cc

-- a value that passes a test
pub if-ok : {A : Type 0} (test : Bool) (a result : A) → (if test then Ok a else Err Size) ≡ Ok result → a ≡ result
if-ok true a result e = cc
if-ok false a result e = cc

pub if-then : {A : Type 0} (test : Bool) (rule : Checked A) (result : A) → (if test then rule else Err Size) ≡ Ok result → rule ≡ Ok result
if-then true rule result e = e
if-then false rule result e = cc

pub if-false : {A : Type 0} (test : Bool) (first rule : Checked A) (result : A) → test ≡ false → (if test then first else rule) ≡ Ok result → rule ≡ Ok result
if-false true first rule result h e = cc
if-false false first rule result h e = e
