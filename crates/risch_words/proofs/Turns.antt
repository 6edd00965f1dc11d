-- What comes of one word, in `clap`'s reading and in the definition.
use Rattle.std.proofs.Common.{◌≡◌, ◌∙◌, ◌&&◌, refl, sym, ap, ap₂, Bool, true, false, cond, List, [], ◌∷◌, ◌++◌, Option, Some, None, bytes_eq}
use Rattle.std.specs.Option.{is_some, option_or}
use Rattle.clap.specs.Walk.{Held, Row, Step, Text, Walk, after_step, arg_by_index, idle, is_pending, settled, to_positional, value, walked, word_met}
use Rattle.clap.specs.Faults.{settle_fault, step_fault, word_fault}
use Rattle.clap.specs.Kinds.{Kinds, or_else}
use Rattle.clap.specs.declared.error.kind.ErrorKind.TheVariants as kind
use Rattle.risch_words.specs.declared.request.Request.{Request}
use Rattle.risch_words.specs.Words.{Name, Workers, Budget, Size, Places, given, unless_taken, with_command, with_next}
use Rattle.risch_words.proofs.Entries.{Entry, put, rows, unless_there, value_at, value_at-append}
use Rattle.risch_words.proofs.PlaceLemmas.{after, after-word, given_given, given_none, hyphen_command, or_none, places_of, with_command-put}
use Rattle.risch_words.proofs.Rules.{command_arg, command_id, id, rules, shape}
use Rattle.risch_words.proofs.Runs.{idle_at, outcome, outcome-word, waits_at}
use Rattle.risch_words.proofs.Uses.{Pending, entry_of, held, passes, raw_of, settle_fault-put, settled-put, the_command}
use Rattle.risch_words.proofs.WordKinds.{IsPlain, IsRefused, holding}

-- ---- a word, by what is at fault with it and what it is

abbrev pub turned : Kinds → Held × Step → Walk → Text → List Text → Option Request
turned fault met w word words = cond (passes fault) (cond (passes (step_fault shape w.position met.0 met.1)) (outcome (after_step rules word w met.0 met.1) words) None) None

abbrev pub met_at : Walk → Text → Held × Step
met_at w word = word_met rules [] w.is_trailing w.waiting w.position word w.held

abbrev pub fault_at : Walk → Text → Kinds
fault_at w word = word_fault shape [] w.is_trailing w.waiting word w.held

pub both_pass : (first second : Kinds) (result : Option Request) → cond (passes (or_else first second)) result None ≡ cond (passes first) (cond (passes second) result None) None
both_pass [] second result = refl
both_pass (k ∷ ks) second result = refl

pub idle_turn : (seen ended : Bool) (es : List Entry) (pending : Pending) (word : Text) (words : List Text)
    → outcome (idle_at seen ended es pending) (word ∷ words) ≡ turned (fault_at (idle_at seen ended es pending) word) (met_at (idle_at seen ended es pending) word) (idle_at seen ended es pending) word words
unfolding walked
idle_turn seen ended es pending word words =
    let w : Walk = idle_at seen ended es pending in
    outcome-word w word words ∙ both_pass (fault_at w word) (step_fault shape w.position (met_at w word).0 (met_at w word).1) (outcome (after_step rules word w (met_at w word).0 (met_at w word).1) words)

pub waits_turn : (name : Name) (seen : Bool) (es : List Entry) (word : Text) (words : List Text)
    → outcome (waits_at name seen es) (word ∷ words) ≡ turned (fault_at (waits_at name seen es) word) (met_at (waits_at name seen es) word) (waits_at name seen es) word words
unfolding walked
waits_turn name seen es word words =
    let w : Walk = waits_at name seen es in
    outcome-word w word words ∙ both_pass (fault_at w word) (step_fault shape w.position (met_at w word).0 (met_at w word).1) (outcome (after_step rules word w (met_at w word).0 (met_at w word).1) words)

-- ---- what is to be shown of the words from a place on

-- the command was met exactly where the rows hold it, what is pending among them
abbrev pub Sees : Bool → List Entry → Pending → Type 0
Sees seen es pending = (fs : List Entry) → put (entry_of pending) es ≡ Some fs → seen ≡ is_some (value_at command_id fs)

abbrev pub IdleAgrees : List Text → Type 0
IdleAgrees words = (seen ended : Bool) (es : List Entry) (pending : Pending) → Sees seen es pending
    → outcome (idle_at seen ended es pending) words ≡ given (put (entry_of pending) es) (λ fs. after (places_of fs None ended) words)

abbrev pub WaitsAgrees : List Text → Type 0
WaitsAgrees words = (name : Name) (seen : Bool) (es : List Entry) → seen ≡ is_some (value_at command_id es)
    → outcome (waits_at name seen es) words ≡ after (places_of es (Some name) false) words

-- ---- what is pending goes to the rows first

-- nothing comes of what is pending, or the rows hold it
pub settling : (es : List Entry) (pending : Pending) (result : Option Request) (f : List Entry → Option Request)
    → ((fs : List Entry) → put (entry_of pending) es ≡ Some fs → (settled rules (held es pending)).rows ≡ rows fs → result ≡ f fs)
    → cond (passes (settle_fault rules false (held es pending))) result None ≡ given (put (entry_of pending) es) f
settling es pending result f agrees = ap (λ (b : Bool). cond b result None) (settle_fault-put es pending) ∙ go (put (entry_of pending) es) refl
  where
    go : (o : Option (List Entry)) → put (entry_of pending) es ≡ o → cond (is_some o) result None ≡ given o f
    go None is = refl
    go (Some fs) is = agrees fs is (settled-put es fs pending is)

-- ---- a word that may be the command

-- the entries with one more, where its id had none
put_is : (e : Entry) (es fs : List Entry) → put (Some e) es ≡ Some fs → (value_at e.0 es ≡ None) × (es ++ e ∷ [] ≡ fs)
put_is e es fs = go (value_at e.0 es) refl
  where
    go : (o : Option Text) → value_at e.0 es ≡ o → unless_there o e es ≡ Some fs → (value_at e.0 es ≡ None) × (es ++ e ∷ [] ≡ fs)
    go None is h = (is, cc)
    go (Some text) is h = cc

sees_command : (word : Text) (es fs : List Entry) → put (Some (command_id, word)) es ≡ Some fs → true ≡ is_some (value_at command_id fs)
sees_command word es fs h =
    let is = put_is (command_id, word) es fs h in
    sym (ap (λ (xs : List Entry). is_some (value_at command_id xs)) (sym is.1) ∙ ap is_some (value_at-append command_id command_id word es ∙ ap (λ o. option_or o (Some word)) is.0))

other_name : (name : Name) → bytes_eq (id name) command_id ≡ false
other_name Workers = refl
other_name Budget = refl
other_name Size = refl

pub keeps_command : (name : Name) (text : Text) (es fs : List Entry) → put (Some (id name, text)) es ≡ Some fs → value_at command_id fs ≡ value_at command_id es
keeps_command name text es fs h =
    let is = put_is (id name, text) es fs h in
    ap (value_at command_id) (sym is.1) ∙ value_at-append command_id (id name) text es ∙ ap (λ b. option_or (value_at command_id es) (cond b (Some text) None)) (other_name name) ∙ or_none (value_at command_id es)

pub never : {X : Type 0} (b : Bool) (x y : X) → cond (b && false) x y ≡ y
never true x y = refl
never false x y = refl

-- the walk after a word that goes to the command
command_next : (ended : Bool) (fs : List Entry) (word : Text) (words : List Text) → IdleAgrees words
    → outcome (idle_at true ended fs (Some (the_command, word))) words ≡ given (with_command word (places_of fs None ended)) (λ q. after q words)
command_next ended fs word words agrees =
    agrees true ended fs (Some (the_command, word)) (λ gs. sees_command word fs gs)
    ∙ sym (ap (λ (o : Option Places). given o (λ q. after q words)) (with_command-put word fs ended)
    ∙ given_given (put (Some (command_id, word)) fs) (λ gs. Some (places_of gs None ended)) (λ q. after q words))

abbrev pub command_turn : Bool → Bool → List Entry → Pending → Text → List Text → Option Request
command_turn seen ended es pending word words =
    cond (passes (step_fault shape (cond seen 2 1) (held es pending) value))
    (outcome (to_positional rules (arg_by_index rules (cond seen 2 1)) word (idle_at seen ended es pending) (held es pending)) words) None

abbrev pub command_asked : Bool → List Entry → Pending → Text → List Text → Option Request
command_asked ended es pending word words = given (put (entry_of pending) es) (λ fs. given (with_command word (places_of fs None ended)) (λ q. after q words))

-- a second command
second_command : (ended : Bool) (es : List Entry) (pending : Pending) (word : Text) (words : List Text) → Sees true es pending → None ≡ command_asked ended es pending word words
second_command ended es pending word words sees = go (put (entry_of pending) es) refl
  where
    taken : (fs : List Entry) (o : Option Text) → true ≡ is_some o → None ≡ given (unless_taken o (record (places_of fs None ended) { command = Some word })) (λ q. after q words)
    taken fs None h = cc
    taken fs (Some text) h = refl

    go : (o : Option (List Entry)) → put (entry_of pending) es ≡ o → None ≡ given o (λ fs. given (with_command word (places_of fs None ended)) (λ q. after q words))
    go None is = refl
    go (Some fs) is = taken fs (value_at command_id fs) (sees fs is)

-- the walk with this held after a word that goes to the command
abbrev pub pushed_at : Bool → List Row → Text → Walk
pushed_at ended rs word = record { held = holding rs (Some (command_id, word ∷ [])); waiting = idle; position = 2; is_trailing = ended; stopped = None }

first_command : (ended : Bool) (es : List Entry) (pending : Pending) (word : Text) (words : List Text) → IdleAgrees words
    → cond (passes (settle_fault rules false (held es pending))) (outcome (pushed_at ended (settled rules (held es pending)).rows word) words) None ≡ command_asked ended es pending word words
first_command ended es pending word words agrees =
    settling es pending (outcome (pushed_at ended (settled rules (held es pending)).rows word) words) (λ fs. given (with_command word (places_of fs None ended)) (λ q. after q words))
    (λ fs is same. ap (λ (rs : List Row). outcome (pushed_at ended rs word) words) same ∙ command_next ended fs word words agrees)

pub command_agrees : (seen ended : Bool) (es : List Entry) (pending : Pending) (word : Text) (words : List Text) → Sees seen es pending → IdleAgrees words
    → command_turn seen ended es pending word words ≡ command_asked ended es pending word words
command_agrees true ended es pending word words sees agrees = second_command ended es pending word words sees
command_agrees false true es pending word words sees agrees =
    rw (never (is_pending command_arg (raw_of pending)) [] (settle_fault rules false (held es pending)), never (is_pending command_arg (raw_of pending)) (held es pending) (settled rules (held es pending)))
    (first_command true es pending word words agrees)
command_agrees false false es pending word words sees agrees =
    rw (never (is_pending command_arg (raw_of pending)) [] (settle_fault rules false (held es pending)), never (is_pending command_arg (raw_of pending)) (held es pending) (settled rules (held es pending)))
    (first_command false es pending word words agrees)

-- ---- lemmas on `given`

pub given_same : {A B : Type 0} (o : Option A) (f g : A → Option B) → ((a : A) → f a ≡ g a) → given o f ≡ given o g
given_same None f g same = refl
given_same (Some a) f g same = same a

pub turned_same : (fault fault' : Kinds) (met met' : Held × Step) (w : Walk) (word : Text) (words : List Text) → fault ≡ fault' → met ≡ met'
    → turned fault met w word words ≡ turned fault' met' w word words
turned_same fault fault' met met' w word words e f = ap₂ (λ (k : Kinds) (m : Held × Step). turned k m w word words) e f

-- ---- no option waits

abbrev pub asked_next : Bool → List Entry → Pending → Text → List Text → Option Request
asked_next ended es pending word words = given (put (entry_of pending) es) (λ fs. after (places_of fs None ended) (word ∷ words))

pub asked_word : (ended : Bool) (es : List Entry) (pending : Pending) (word : Text) (words : List Text)
    → asked_next ended es pending word words ≡ given (put (entry_of pending) es) (λ fs. given (with_next None word (places_of fs None ended)) (λ q. after q words))
asked_word ended es pending word words = given_same (put (entry_of pending) es) _ _ (λ fs. after-word (places_of fs None ended) word words)

pub idle_ended : (seen : Bool) (es : List Entry) (pending : Pending) (word : Text) (words : List Text) → Sees seen es pending → IdleAgrees words
    → outcome (idle_at seen true es pending) (word ∷ words) ≡ asked_next true es pending word words
idle_ended seen es pending word words sees agrees =
    idle_turn seen true es pending word words ∙ command_agrees seen true es pending word words sees agrees ∙ sym (asked_word true es pending word words)

pub idle_plain : (seen : Bool) (es : List Entry) (pending : Pending) (word : Text) (words : List Text) → IsPlain word → Sees seen es pending → IdleAgrees words
    → outcome (idle_at seen false es pending) (word ∷ words) ≡ asked_next false es pending word words
idle_plain seen es pending word words k sees agrees =
    let w : Walk = idle_at seen false es pending in
    let h : Held = held es pending in
    let fault : fault_at w word ≡ [] = rw k.not_end (k.fault (rows es) (raw_of pending)) in
    let met : met_at w word ≡ (h, value) = rw k.not_end (k.step idle (rows es) (raw_of pending)) in
    idle_turn seen false es pending word words ∙ turned_same (fault_at w word) [] (met_at w word) (h, value) w word words fault met
    ∙ command_agrees seen false es pending word words sees agrees
    ∙ sym (asked_word false es pending word words ∙ given_same (put (entry_of pending) es) _ _ (λ fs. rw k.hyphens refl))

pub idle_refused : (seen : Bool) (es : List Entry) (pending : Pending) (flags : Text) (words : List Text) → IsRefused (45 ∷ flags)
    → outcome (idle_at seen false es pending) ((45 ∷ flags) ∷ words) ≡ asked_next false es pending (45 ∷ flags) words
idle_refused seen es pending flags words k =
    let w : Walk = idle_at seen false es pending in
    let word : Text = 45 ∷ flags in
    let fault : fault_at w word ≡ kind.UnknownArgument ∷ [] = rw k.not_end (k.fault (rows es) (raw_of pending)) in
    idle_turn seen false es pending word words ∙ turned_same (fault_at w word) (kind.UnknownArgument ∷ []) (met_at w word) (met_at w word) w word words fault refl
    ∙ sym (asked_word false es pending word words
    ∙ given_same (put (entry_of pending) es) _ (λ fs. given (with_command word (places_of fs None false)) (λ q. after q words)) (λ fs. rw k.hyphens refl)
    ∙ given_none (put (entry_of pending) es) _ (λ fs. hyphen_command flags (places_of fs None false) words))

pub idle_ends : (seen : Bool) (es : List Entry) (pending : Pending) (words : List Text) → Sees seen es pending → IdleAgrees words
    → outcome (idle_at seen false es pending) ((45 ∷ 45 ∷ []) ∷ words) ≡ asked_next false es pending (45 ∷ 45 ∷ []) words
idle_ends seen es pending words sees agrees = idle_turn seen false es pending (45 ∷ 45 ∷ []) words ∙ agrees seen true es pending sees
