-- What `clap` reads from a place among the words on, and what comes of one word.
use Rattle.std.proofs.Common.{◌≡◌, ◌∙◌, ◌||◌, refl, ap, Bool, true, false, not, cond, List, [], ◌∷◌, Option, Some, None}
use Rattle.std.specs.List.{fold}
use Rattle.std.specs.Option.{is_some}
use Rattle.clap.specs.Walk.{Held, Row, Text, Walk, finished, has_row, idle, option, settled, walked, with_default}
use Rattle.clap.specs.Takes.{is_given}
use Rattle.clap.specs.Faults.{check_fault, default_fault, defaults_fault, given_default_fault, settle_fault, turn_fault, walk_fault}
use Rattle.clap.specs.Kinds.{Kinds, or_else}
use Rattle.clap.specs.declared.error.kind.ErrorKind.TheVariants as kind
use Rattle.risch_words.specs.declared.request.Request.{Request}
use Rattle.risch_words.specs.Line.{read}
use Rattle.risch_words.specs.Words.{Name, Workers, Budget, Size, given, requested}
use Rattle.risch_words.proofs.Entries.{Entry, first_of-rows, is_given-rows, put, rows, value_at}
use Rattle.risch_words.proofs.Rules.{command_id, id, rules, shape}
use Rattle.risch_words.proofs.Uses.{Pending, arg, entry_of, held, passes, Place, the_command, the_option, settle_fault-put, settled-put}
use Rattle.risch_words.proofs.WordKinds.{holding}

-- ---- from a place on

abbrev pub end_fault : Held → Kinds
end_fault h = or_else (settle_fault rules false h) (or_else (defaults_fault (settled rules h).rows rules) (check_fault shape (finished rules h) false))

abbrev pub end_of : Walk → List Text → Held
end_of w words = (fold (walked rules []) w words).held

abbrev pub fault_from : Walk → List Text → Kinds
fault_from w words = or_else (walk_fault shape [] w words) (end_fault (end_of w words))

-- the request of the other words, where nothing is at fault
abbrev pub outcome : Walk → List Text → Option Request
outcome w words = cond (passes (fault_from w words)) (read (finished rules (end_of w words))) None

first_fault : (first second : Kinds) (result : Option Request) → cond (passes (or_else first second)) result None ≡ cond (passes first) (cond (passes second) result None) None
first_fault [] second result = refl
first_fault (k ∷ ks) second result = refl

or_else_assoc : (a b c : Kinds) → or_else (or_else a b) c ≡ or_else a (or_else b c)
or_else_assoc [] b c = refl
or_else_assoc (k ∷ ks) b c = refl

pub outcome-word : (w : Walk) (word : Text) (words : List Text) → outcome w (word ∷ words) ≡ cond (passes (turn_fault shape [] w word)) (outcome (walked rules [] w word) words) None
unfolding walk_fault
outcome-word w word words =
    let next : Walk = walked rules [] w word in
    let result : Option Request = read (finished rules (end_of next words)) in
    ap (λ (ks : Kinds). cond (passes ks) result None) (or_else_assoc (turn_fault shape [] w word) (walk_fault shape [] next words) (end_fault (end_of next words)))
    ∙ first_fault (turn_fault shape [] w word) (fault_from next words) result

-- ---- the end of the words

default_none : (p : Place) (rs : List Row) → default_fault rs (arg p) ≡ []
default_none the_command rs = go (has_row command_id rs)
  where
    go : (b : Bool) → cond (b || true) [] (given_default_fault (arg the_command) []) ≡ []
    go true = refl
    go false = refl
default_none (the_option name) rs = go (has_row (id name) rs)
  where
    go : (b : Bool) → cond (b || true) [] (given_default_fault (arg (the_option name)) []) ≡ []
    go true = refl
    go false = refl

with_default_none : (p : Place) (rs : List Row) → with_default rs (arg p) ≡ rs
with_default_none the_command rs = go (has_row command_id rs)
  where
    go : (b : Bool) → cond b rs rs ≡ rs
    go true = refl
    go false = refl
with_default_none (the_option name) rs = go (has_row (id name) rs)
  where
    go : (b : Bool) → cond b rs rs ≡ rs
    go true = refl
    go false = refl

no_defaults : (rs : List Row) → defaults_fault rs rules ≡ []
unfolding defaults_fault
no_defaults rs = rw (default_none the_command rs, default_none (the_option Workers) (with_default rs (arg the_command)), default_none (the_option Budget), default_none (the_option Size)) refl

all_defaults : (rs : List Row) → fold with_default rs rules ≡ rs
all_defaults rs =
    rw (with_default_none the_command rs, with_default_none (the_option Workers) rs, with_default_none (the_option Budget) rs, with_default_none (the_option Size) rs) refl

-- the walk where no option waits for its value; `seen` tells whether the command was met
abbrev pub idle_at : Bool → Bool → List Entry → Pending → Walk
idle_at seen ended es pending = record { held = held es pending; waiting = idle; position = cond seen 2 1; is_trailing = ended; stopped = None }

-- the walk where this option waits for its value
abbrev pub waits_at : Name → Bool → List Entry → Walk
waits_at name seen es = record { held = holding (rows es) (Some (id name, [])); waiting = option (id name); position = cond seen 2 1; is_trailing = false; stopped = None }

-- what the rows ask for
abbrev pub request_of : List Entry → Option Request
request_of fs = requested (value_at command_id fs) (value_at (id Workers) fs) (value_at (id Budget) fs) (value_at (id Size) fs)

read-rows : (fs : List Entry) → read (rows fs) ≡ request_of fs
read-rows fs = rw (first_of-rows command_id fs, first_of-rows (id Workers) fs, first_of-rows (id Budget) fs, first_of-rows (id Size) fs) refl

command_missing : (fs : List Entry) → passes (check_fault shape (rows fs) false) ≡ is_some (value_at command_id fs)
command_missing fs = go (is_given command_id (rows fs)) ∙ is_given-rows command_id fs
  where
    go : (g : Bool) → passes (cond (not g || false) (kind.MissingRequiredArgument ∷ []) []) ≡ g
    go true = refl
    go false = refl

request_present : (o workers budget size : Option Text) → cond (is_some o) (requested o workers budget size) None ≡ requested o workers budget size
request_present None workers budget size = refl
request_present (Some word) workers budget size = refl

end_at : (es fs : List Entry) (pending : Pending) → (settled rules (held es pending)).rows ≡ rows fs
    → cond (passes (or_else (defaults_fault (settled rules (held es pending)).rows rules) (check_fault shape (finished rules (held es pending)) false))) (read (finished rules (held es pending))) None
    ≡ request_of fs
end_at es fs pending is =
    let rs : List Row = (settled rules (held es pending)).rows in
    let last : finished rules (held es pending) ≡ rows fs = all_defaults rs ∙ is in
    ap (λ (ks : Kinds). cond (passes (or_else ks (check_fault shape (finished rules (held es pending)) false))) (read (finished rules (held es pending))) None) (no_defaults rs)
    ∙ ap (λ (xs : List Row). cond (passes (check_fault shape xs false)) (read xs) None) last
    ∙ ap (λ (b : Bool). cond b (read (rows fs)) None) (command_missing fs)
    ∙ ap (λ (o : Option Request). cond (is_some (value_at command_id fs)) o None) (read-rows fs)
    ∙ request_present (value_at command_id fs) (value_at (id Workers) fs) (value_at (id Budget) fs) (value_at (id Size) fs)

pub outcome-end : (seen ended : Bool) (es : List Entry) (pending : Pending) → outcome (idle_at seen ended es pending) [] ≡ given (put (entry_of pending) es) request_of
unfolding walk_fault
outcome-end seen ended es pending =
    first_fault (settle_fault rules false h) rest (read (finished rules h))
    ∙ ap (λ (b : Bool). cond b (cond (passes rest) (read (finished rules h)) None) None) (settle_fault-put es pending)
    ∙ go (put (entry_of pending) es) refl
  where
    h : Held
    h = held es pending

    rest : Kinds
    rest = or_else (defaults_fault (settled rules (held es pending)).rows rules) (check_fault shape (finished rules (held es pending)) false)

    go : (o : Option (List Entry)) → put (entry_of pending) es ≡ o → cond (is_some o) (cond (passes rest) (read (finished rules h)) None) None ≡ given o request_of
    go None is = refl
    go (Some fs) is = end_at es fs pending (settled-put es fs pending is)
