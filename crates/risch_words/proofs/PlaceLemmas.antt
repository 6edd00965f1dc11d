-- The places of the words that stand in the rows, and places whose texts ask for nothing.
use Rattle.std.proofs.Common.{◌≡◌, ◌∙◌, refl, sym, ap, subst, Bool, true, false, cond, ℕ, List, [], ◌∷◌, ◌++◌, Option, Some, None, bytes_eq}
use Rattle.std.specs.Option.{option_or}
use Rattle.clap.specs.Walk.{Text}
use Rattle.risch_words.specs.declared.request.Request.{Request}
use Rattle.risch_words.specs.Numbers.{number, number_or}
use Rattle.risch_words.specs.Words.{Name, Workers, Budget, Size, Places, before_equals, behind_equals, behind_hyphens, command_of, given, name_of, placed, request_at, requested, unless_taken, with_command, with_next, with_option, with_value, with_word}
use Rattle.risch_words.proofs.Entries.{Entry, put, unless_there, value_at, value_at-append}
use Rattle.risch_words.proofs.Rules.{command_id, id}

abbrev pub places_of : List Entry → Option Name → Bool → Places
places_of es waits ended = record {
  command = value_at command_id es;
  workers = value_at (id Workers) es;
  budget = value_at (id Budget) es;
  size = value_at (id Size) es;
  waits = waits;
  ended = ended;
}

-- what is asked once the other words stand in their places
abbrev pub after : Places → List Text → Option Request
after p words = given (placed p words) (λ q. request_at q.waits q)

-- ---- a word joins the rows

pub or_none : (o : Option Text) → option_or o None ≡ o
or_none None = refl
or_none (Some text) = refl

kept : (name other value : Text) (es : List Entry) → bytes_eq other name ≡ false → value_at name (es ++ (other, value) ∷ []) ≡ value_at name es
kept name other value es differs = value_at-append name other value es ∙ ap (λ b. option_or (value_at name es) (cond b (Some value) None)) differs ∙ or_none (value_at name es)

joined : (name value : Text) (es : List Entry) → bytes_eq name name ≡ true → value_at name es ≡ None → value_at name (es ++ (name, value) ∷ []) ≡ Some value
joined name value es same none = value_at-append name name value es ∙ ap (λ b. option_or (value_at name es) (cond b (Some value) None)) same ∙ ap (λ o. option_or o (Some value)) none

places_with_command : (word : Text) (es : List Entry) (ended : Bool) → value_at command_id es ≡ None
    → places_of (es ++ (command_id, word) ∷ []) None ended ≡ record (places_of es None ended) { command = Some word }
places_with_command word es ended none =
    let c : value_at command_id (es ++ (command_id, word) ∷ []) ≡ Some word = joined command_id word es refl none in
    let w : value_at (id Workers) (es ++ (command_id, word) ∷ []) ≡ value_at (id Workers) es = kept (id Workers) command_id word es refl in
    let b : value_at (id Budget) (es ++ (command_id, word) ∷ []) ≡ value_at (id Budget) es = kept (id Budget) command_id word es refl in
    let s : value_at (id Size) (es ++ (command_id, word) ∷ []) ≡ value_at (id Size) es = kept (id Size) command_id word es refl in
    λ i. record { command = c i; workers = w i; budget = b i; size = s i; waits = None; ended = ended }

pub with_command-put : (word : Text) (es : List Entry) (ended : Bool)
    → with_command word (places_of es None ended) ≡ given (put (Some (command_id, word)) es) (λ fs. Some (places_of fs None ended))
with_command-put word es ended = go (value_at command_id es) refl
  where
    go : (o : Option Text) → value_at command_id es ≡ o
        → unless_taken o (record (places_of es None ended) { command = Some word }) ≡ given (unless_there o (command_id, word) es) (λ fs. Some (places_of fs None ended))
    go None is = ap (λ (p : Places). Some p) (sym (places_with_command word es ended is))
    go (Some text) is = refl

places_with_workers : (text : Text) (es : List Entry) (ended : Bool) → value_at (id Workers) es ≡ None
    → places_of (es ++ (id Workers, text) ∷ []) None ended ≡ record (places_of es None ended) { workers = Some text }
places_with_workers text es ended none =
    let c : value_at command_id (es ++ (id Workers, text) ∷ []) ≡ value_at command_id es = kept command_id (id Workers) text es refl in
    let w : value_at (id Workers) (es ++ (id Workers, text) ∷ []) ≡ Some text = joined (id Workers) text es refl none in
    let b : value_at (id Budget) (es ++ (id Workers, text) ∷ []) ≡ value_at (id Budget) es = kept (id Budget) (id Workers) text es refl in
    let s : value_at (id Size) (es ++ (id Workers, text) ∷ []) ≡ value_at (id Size) es = kept (id Size) (id Workers) text es refl in
    λ i. record { command = c i; workers = w i; budget = b i; size = s i; waits = None; ended = ended }

places_with_budget : (text : Text) (es : List Entry) (ended : Bool) → value_at (id Budget) es ≡ None
    → places_of (es ++ (id Budget, text) ∷ []) None ended ≡ record (places_of es None ended) { budget = Some text }
places_with_budget text es ended none =
    let c : value_at command_id (es ++ (id Budget, text) ∷ []) ≡ value_at command_id es = kept command_id (id Budget) text es refl in
    let w : value_at (id Workers) (es ++ (id Budget, text) ∷ []) ≡ value_at (id Workers) es = kept (id Workers) (id Budget) text es refl in
    let b : value_at (id Budget) (es ++ (id Budget, text) ∷ []) ≡ Some text = joined (id Budget) text es refl none in
    let s : value_at (id Size) (es ++ (id Budget, text) ∷ []) ≡ value_at (id Size) es = kept (id Size) (id Budget) text es refl in
    λ i. record { command = c i; workers = w i; budget = b i; size = s i; waits = None; ended = ended }

places_with_size : (text : Text) (es : List Entry) (ended : Bool) → value_at (id Size) es ≡ None
    → places_of (es ++ (id Size, text) ∷ []) None ended ≡ record (places_of es None ended) { size = Some text }
places_with_size text es ended none =
    let c : value_at command_id (es ++ (id Size, text) ∷ []) ≡ value_at command_id es = kept command_id (id Size) text es refl in
    let w : value_at (id Workers) (es ++ (id Size, text) ∷ []) ≡ value_at (id Workers) es = kept (id Workers) (id Size) text es refl in
    let b : value_at (id Budget) (es ++ (id Size, text) ∷ []) ≡ value_at (id Budget) es = kept (id Budget) (id Size) text es refl in
    let s : value_at (id Size) (es ++ (id Size, text) ∷ []) ≡ Some text = joined (id Size) text es refl none in
    λ i. record { command = c i; workers = w i; budget = b i; size = s i; waits = None; ended = ended }

pub with_value-put : (name : Name) (text : Text) (es : List Entry) (waits : Option Name) (ended : Bool)
    → with_value name text (places_of es waits ended) ≡ given (put (Some (id name, text)) es) (λ fs. Some (places_of fs None ended))
with_value-put Workers text es waits ended = go (value_at (id Workers) es) refl
  where
    go : (o : Option Text) → value_at (id Workers) es ≡ o
        → unless_taken o (record (places_of es None ended) { workers = Some text }) ≡ given (unless_there o (id Workers, text) es) (λ fs. Some (places_of fs None ended))
    go None is = ap (λ (p : Places). Some p) (sym (places_with_workers text es ended is))
    go (Some other) is = refl
with_value-put Budget text es waits ended = go (value_at (id Budget) es) refl
  where
    go : (o : Option Text) → value_at (id Budget) es ≡ o
        → unless_taken o (record (places_of es None ended) { budget = Some text }) ≡ given (unless_there o (id Budget, text) es) (λ fs. Some (places_of fs None ended))
    go None is = ap (λ (p : Places). Some p) (sym (places_with_budget text es ended is))
    go (Some other) is = refl
with_value-put Size text es waits ended = go (value_at (id Size) es) refl
  where
    go : (o : Option Text) → value_at (id Size) es ≡ o
        → unless_taken o (record (places_of es None ended) { size = Some text }) ≡ given (unless_there o (id Size, text) es) (λ fs. Some (places_of fs None ended))
    go None is = ap (λ (p : Places). Some p) (sym (places_with_size text es ended is))
    go (Some other) is = refl

-- ---- texts that ask for nothing

-- the text at a place reads as nothing
abbrev pub Unread : {A : Type 0} → (Text → Option A) → Option Text → Type 0
Unread read None = ⊥
Unread read (Some text) = read text ≡ None

pub data Bad (p : Places) : Type 0 where
  bad_command : Unread command_of p.command → Bad p
  bad_workers : Unread (number 16) p.workers → Bad p
  bad_budget : Unread (number 9223372036854775807) p.budget → Bad p
  bad_size : Unread (number 64) p.size → Bad p

pub given_none : {A B : Type 0} (o : Option A) (f : A → Option B) → ((a : A) → f a ≡ None) → given o f ≡ None
given_none None f none = refl
given_none (Some a) f none = none a

pub given_given : {A B C : Type 0} (o : Option A) (f : A → Option B) (g : B → Option C) → given (given o f) g ≡ given o (λ a. given (f a) g)
given_given None f g = refl
given_given (Some a) f g = refl

number_or_unread : (default most : ℕ) (o : Option Text) → Unread (number most) o → number_or default most o ≡ None
number_or_unread default most None h = absurd h
number_or_unread default most (Some text) h = h

requested_command : (command workers budget size : Option Text) → Unread command_of command → requested command workers budget size ≡ None
requested_command None workers budget size h = refl
requested_command (Some word) workers budget size h = rw h refl

requested_workers : (command workers budget size : Option Text) → Unread (number 16) workers → requested command workers budget size ≡ None
requested_workers command workers budget size h = given_none command _ (λ word. given_none (command_of word) _ (λ name. rw (number_or_unread 1 16 workers h) refl))

requested_budget : (command workers budget size : Option Text) → Unread (number 9223372036854775807) budget → requested command workers budget size ≡ None
requested_budget command workers budget size h = given_none command _ (λ word. given_none (command_of word) _ (λ name. given_none (number_or 1 16 workers) _ (λ w.
    rw (number_or_unread 100000 9223372036854775807 budget h) refl)))

requested_size : (command workers budget size : Option Text) → Unread (number 64) size → requested command workers budget size ≡ None
requested_size command workers budget size h = given_none command _ (λ word. given_none (command_of word) _ (λ name. given_none (number_or 1 16 workers) _ (λ w.
    given_none (number_or 100000 9223372036854775807 budget) _ (λ b. rw (number_or_unread 8 64 size h) refl))))

request_bad : (waits : Option Name) (p : Places) → Bad p → request_at waits p ≡ None
request_bad (Some name) p bad = refl
request_bad None p (bad_command h) = requested_command p.command p.workers p.budget p.size h
request_bad None p (bad_workers h) = requested_workers p.command p.workers p.budget p.size h
request_bad None p (bad_budget h) = requested_budget p.command p.workers p.budget p.size h
request_bad None p (bad_size h) = requested_size p.command p.workers p.budget p.size h

-- ---- such texts stay

abbrev pub AsksNothing : List Text → Type 0
AsksNothing words = (q : Places) → Bad q → after q words ≡ None

unless_taken_bad : (o : Option Text) (q : Places) (words : List Text) → (o ≡ None → Bad q) → AsksNothing words → given (unless_taken o q) (λ r. after r words) ≡ None
unless_taken_bad None q words bad next = next q (bad refl)
unless_taken_bad (Some text) q words bad next = refl

unread_none : {A : Type 0} (read : Text → Option A) (o : Option Text) → Unread read o → o ≡ None → ⊥
unread_none read o h none = let P : Option Text → Type 0 = Unread read in subst P none h

command_bad : (word : Text) (p : Places) (words : List Text) → Bad p → AsksNothing words → given (with_command word p) (λ r. after r words) ≡ None
command_bad word p words bad next = unless_taken_bad p.command (record p { command = Some word }) words (still bad) next
  where
    still : Bad p → p.command ≡ None → Bad (record p { command = Some word })
    still (bad_command h) none = absurd (unread_none command_of p.command h none)
    still (bad_workers h) none = bad_workers h
    still (bad_budget h) none = bad_budget h
    still (bad_size h) none = bad_size h

value_bad : (name : Name) (text : Text) (p : Places) (words : List Text) → Bad p → AsksNothing words → given (with_value name text p) (λ r. after r words) ≡ None
value_bad Workers text p words bad next = unless_taken_bad p.workers (record p { workers = Some text; waits = None }) words (still bad) next
  where
    still : Bad p → p.workers ≡ None → Bad (record p { workers = Some text; waits = None })
    still (bad_command h) none = bad_command h
    still (bad_workers h) none = absurd (unread_none (number 16) p.workers h none)
    still (bad_budget h) none = bad_budget h
    still (bad_size h) none = bad_size h
value_bad Budget text p words bad next = unless_taken_bad p.budget (record p { budget = Some text; waits = None }) words (still bad) next
  where
    still : Bad p → p.budget ≡ None → Bad (record p { budget = Some text; waits = None })
    still (bad_command h) none = bad_command h
    still (bad_workers h) none = bad_workers h
    still (bad_budget h) none = absurd (unread_none (number 9223372036854775807) p.budget h none)
    still (bad_size h) none = bad_size h
value_bad Size text p words bad next = unless_taken_bad p.size (record p { size = Some text; waits = None }) words (still bad) next
  where
    still : Bad p → p.size ≡ None → Bad (record p { size = Some text; waits = None })
    still (bad_command h) none = bad_command h
    still (bad_workers h) none = bad_workers h
    still (bad_budget h) none = bad_budget h
    still (bad_size h) none = absurd (unread_none (number 64) p.size h none)

waiting_bad : (name : Name) (p : Places) → Bad p → Bad (record p { waits = Some name })
waiting_bad name p (bad_command h) = bad_command h
waiting_bad name p (bad_workers h) = bad_workers h
waiting_bad name p (bad_budget h) = bad_budget h
waiting_bad name p (bad_size h) = bad_size h

ended_bad : (p : Places) → Bad p → Bad (record p { ended = true })
ended_bad p (bad_command h) = bad_command h
ended_bad p (bad_workers h) = bad_workers h
ended_bad p (bad_budget h) = bad_budget h
ended_bad p (bad_size h) = bad_size h

option_bad : (name : Option Name) (value : Option Text) (p : Places) (words : List Text) → Bad p → AsksNothing words → given (with_option name value p) (λ r. after r words) ≡ None
option_bad None value p words bad next = refl
option_bad (Some name) None p words bad next = next (record p { waits = Some name }) (waiting_bad name p bad)
option_bad (Some name) (Some value) p words bad next = value_bad name value p words bad next

word_bad : (text : Option Text) (word : Text) (p : Places) (words : List Text) → Bad p → AsksNothing words → given (with_word text word p) (λ r. after r words) ≡ None
word_bad None word p words bad next = command_bad word p words bad next
word_bad (Some []) word p words bad next = next (record p { ended = true }) (ended_bad p bad)
word_bad (Some (b ∷ bs)) word p words bad next = option_bad (name_of (before_equals (b ∷ bs))) (behind_equals (b ∷ bs)) p words bad next

free_bad : (ended : Bool) (word : Text) (p : Places) (words : List Text) → Bad p → AsksNothing words
    → given (cond ended (with_command word p) (with_word (behind_hyphens word) word p)) (λ r. after r words) ≡ None
free_bad true word p words bad next = command_bad word p words bad next
free_bad false word p words bad next = word_bad (behind_hyphens word) word p words bad next

next_bad : (waits : Option Name) (word : Text) (p : Places) (words : List Text) → Bad p → AsksNothing words → given (with_next waits word p) (λ r. after r words) ≡ None
next_bad None word p words bad next = free_bad p.ended word p words bad next
next_bad (Some name) word p words bad next = value_bad name word p words bad next

-- one word, and then the others
pub after-word : (p : Places) (word : Text) (words : List Text) → after p (word ∷ words) ≡ given (with_next p.waits word p) (λ q. after q words)
after-word p word words = given_given (with_next p.waits word p) (λ q. placed q words) (λ q. request_at q.waits q)

pub asks_nothing : (words : List Text) → AsksNothing words
asks_nothing [] p bad = request_bad p.waits p bad
asks_nothing (word ∷ words) p bad = after-word p word words ∙ next_bad p.waits word p words bad (asks_nothing words)

-- ---- what a word that begins with a hyphen comes to

command_hyphen : (text : Text) → command_of (45 ∷ text) ≡ None
command_hyphen text = refl

number_hyphen : (most : ℕ) (text : Text) → number most (45 ∷ text) ≡ None
number_hyphen most text = refl

pub hyphen_command : (text : Text) (p : Places) (words : List Text) → given (with_command (45 ∷ text) p) (λ r. after r words) ≡ None
hyphen_command text p words = unless_taken_bad p.command (record p { command = Some (45 ∷ text) }) words (λ none. bad_command (command_hyphen text)) (asks_nothing words)

pub hyphen_value : (name : Name) (text : Text) (p : Places) (words : List Text) → given (with_value name (45 ∷ text) p) (λ r. after r words) ≡ None
hyphen_value Workers text p words = unless_taken_bad p.workers (record p { workers = Some (45 ∷ text); waits = None }) words (λ none. bad_workers (number_hyphen 16 text)) (asks_nothing words)
hyphen_value Budget text p words = unless_taken_bad p.budget (record p { budget = Some (45 ∷ text); waits = None }) words (λ none. bad_budget (number_hyphen 9223372036854775807 text)) (asks_nothing words)
hyphen_value Size text p words = unless_taken_bad p.size (record p { size = Some (45 ∷ text); waits = None }) words (λ none. bad_size (number_hyphen 64 text)) (asks_nothing words)
