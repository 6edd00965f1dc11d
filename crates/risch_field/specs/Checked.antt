-- Values that a rule forms, or the stop of the first value that cannot be formed.
use Rattle.std.specs.Prelude.{◌≡◌, ⊤, Result, Ok, Err}
use Rattle.risch_field.specs.declared.Fail.{Fail}
use Rattle.risch_field.specs.declared.Fail.TheVariants.{Overflow, Size, Memory}

-- a value, or the stop Overflow or Size
abbrev pub Checked : Type 0 → Type 0
Checked A = Result A Fail

-- forms the first value, and then the second from it
abbrev pub and_then : {A B : Type 0} → Checked A → (A → Checked B) → Checked B
and_then (Ok a) f = f a
and_then (Err stop) f = Err stop

-- what is made of a value that forms nothing more
abbrev pub map_ok : {A B : Type 0} → (A → B) → Checked A → Checked B
map_ok f (Ok a) = Ok (f a)
map_ok f (Err stop) = Err stop

-- a stop that is not want of memory is the rule's
abbrev pub IsStopOf : {A : Type 0} → Fail → Checked A → Type 0
IsStopOf (Overflow op) rule = rule ≡ Err (Overflow op)
IsStopOf Size rule = rule ≡ Err Size
IsStopOf Memory rule = Unit {0}

-- the answer is the rule's, or want of memory
abbrev pub Agrees : {A : Type 0} → Result A Fail → Checked A → Type 0
Agrees (Ok a) rule = rule ≡ Ok a
Agrees (Err stop) rule = IsStopOf stop rule

-- the same of a call that writes its value: on Ok, `written` is what stands there
abbrev pub AgreesWith : {A : Type 0} → Result ⊤ Fail → A → Checked A → Type 0
AgreesWith (Ok u) written rule = rule ≡ Ok written
AgreesWith (Err stop) written rule = IsStopOf stop rule
