-- One use of an argument, where the rows hold one value each.
use Rattle.std.proofs.Common.{◌≡◌, ◌∙◌, ◌&&◌, refl, ap, Bool, true, false, cond, List, [], ◌∷◌, ◌++◌, Option, Some, None}
use Rattle.std.specs.Option.{is_some}
use Rattle.clap.specs.Walk.{Held, Row, Rule, Text, has_row, settled, used}
use Rattle.clap.specs.Faults.{settle_fault, use_fault}
use Rattle.clap.specs.Kinds.{Kinds, or_else}
use Rattle.clap.specs.declared.error.kind.ErrorKind.TheVariants as kind
use Rattle.risch_words.specs.Words.{Name}
use Rattle.risch_words.proofs.Entries.{Entry, has_row-rows, one_more_row, put, rows, unless_there, value_at}
use Rattle.risch_words.proofs.Rules.{command_arg, command_id, found_by_id, id, option_arg, rules}

-- an argument
pub data Place : Type 0 where
  the_command : Place
  the_option : Name → Place

abbrev pub arg : Place → Rule
arg the_command = command_arg
arg (the_option name) = option_arg name

abbrev pub id_of : Place → Text
id_of the_command = command_id
id_of (the_option name) = id name

-- nothing is at fault
abbrev pub passes : Kinds → Bool
passes [] = true
passes (k ∷ ks) = false

-- what is at fault with a value, where the test says whether the argument has one
abbrev fault_where : Bool → Kinds
fault_where has = or_else (cond (has && true) (kind.ArgumentConflict ∷ []) []) []

use_fault-where : (p : Place) (value : Text) (rs : List Row) → use_fault false (arg p) (value ∷ []) rs ≡ fault_where (has_row (id_of p) rs)
use_fault-where the_command value rs = refl
use_fault-where (the_option name) value rs = refl

has : (p : Place) (es : List Entry) (o : Option Text) → value_at (id_of p) es ≡ o → has_row (id_of p) (rows es) ≡ is_some o
has p es o is = has_row-rows (id_of p) es ∙ ap is_some is

-- a value goes where there is none
pub use_fault-put : (p : Place) (value : Text) (es : List Entry) → passes (use_fault false (arg p) (value ∷ []) (rows es)) ≡ is_some (put (Some (id_of p, value)) es)
use_fault-put p value es = ap passes (use_fault-where p value (rows es)) ∙ go (value_at (id_of p) es) refl
  where
    go : (o : Option Text) → value_at (id_of p) es ≡ o → passes (fault_where (has_row (id_of p) (rows es))) ≡ is_some (unless_there o (id_of p, value) es)
    go None is = ap (λ b. passes (fault_where b)) (has p es None is)
    go (Some text) is = ap (λ b. passes (fault_where b)) (has p es (Some text) is)

used_none : (p : Place) (value : Text) (es : List Entry) → value_at (id_of p) es ≡ None → used (arg p) (value ∷ []) (rows es) ≡ rows (es ++ (id_of p, value) ∷ [])
used_none the_command value es none = one_more_row command_id value es none
used_none (the_option name) value es none = one_more_row (id name) value es none

pub used-put : (p : Place) (value : Text) (es fs : List Entry) → put (Some (id_of p, value)) es ≡ Some fs → used (arg p) (value ∷ []) (rows es) ≡ rows fs
used-put p value es fs = go (value_at (id_of p) es) refl
  where
    go : (o : Option Text) → value_at (id_of p) es ≡ o → unless_there o (id_of p, value) es ≡ Some fs → used (arg p) (value ∷ []) (rows es) ≡ rows fs
    go None is h = let same : es ++ (id_of p, value) ∷ [] ≡ fs = cc in used_none p value es is ∙ ap rows same
    go (Some text) is h = cc

-- ---- what is held between two words

-- an argument whose value is at hand, and is not in the rows yet
abbrev pub Pending : Type 0
Pending = Option (Place × Text)

abbrev pub entry_of : Pending → Option Entry
entry_of None = None
entry_of (Some p) = Some (id_of p.0, p.1)

abbrev pub raw_of : Pending → Option (Text × List Text)
raw_of None = None
raw_of (Some p) = Some (id_of p.0, p.1 ∷ [])

abbrev pub held : List Entry → Pending → Held
held es pending = record { rows = rows es; pending = raw_of pending; skip = 0 }

pub settle_fault-put : (es : List Entry) (pending : Pending) → passes (settle_fault rules false (held es pending)) ≡ is_some (put (entry_of pending) es)
settle_fault-put es None = refl
settle_fault-put es (Some (the_command, value)) = use_fault-put the_command value es
settle_fault-put es (Some (the_option name, value)) = rw (found_by_id name) (use_fault-put (the_option name) value es)

pub settled-put : (es fs : List Entry) (pending : Pending) → put (entry_of pending) es ≡ Some fs → (settled rules (held es pending)).rows ≡ rows fs
settled-put es fs None h = let same : es ≡ fs = cc in ap rows same
settled-put es fs (Some (the_command, value)) h = used-put the_command value es fs h
settled-put es fs (Some (the_option name, value)) h = rw (found_by_id name) (used-put (the_option name) value es fs h)
