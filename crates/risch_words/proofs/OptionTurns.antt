-- What comes of an option's word and of the word behind it.
use Rattle.std.proofs.Common.{◌≡◌, ◌∙◌, ◌||◌, ◌+◌, ◌==◌, refl, sym, ap, ap₂, Bool, true, false, not, cond, ℕ, List, [], ◌∷◌, Option, Some, None, take, drop}
use Rattle.std.proofs.Math.Nat.{suc-add}
use Rattle.std.proofs.Math.Numerals.{one-add}
use Rattle.std.specs.List.{after_first, before_first, position_or_len}
use Rattle.std.specs.Option.{is_some, option_map}
use Rattle.clap.specs.Lexer.{has_byte}
use Rattle.clap.specs.Walk.{Held, Row, Step, Text, Walk, after_flag, after_step, arg_by_long, idle, is_pending, long_met, next, option, plain_word, settled, used, value, walked}
use Rattle.clap.specs.Faults.{long_fault, settle_fault, step_fault, use_fault, walk_fault}
use Rattle.clap.specs.Kinds.{Kinds, or_else}
use Rattle.clap.specs.declared.error.kind.ErrorKind.TheVariants as kind
use Rattle.risch_words.specs.declared.request.Request.{Request}
use Rattle.risch_words.specs.Words.{Name, Workers, Budget, Size, Places, before_equals, behind_equals, given, name_of, with_option, with_value}
use Rattle.risch_words.proofs.Entries.{Entry, put, rows, value_at}
use Rattle.risch_words.proofs.PlaceLemmas.{after, after-word, given_given, given_none, hyphen_value, places_of, with_value-put}
use Rattle.risch_words.proofs.Rules.{command_arg, command_id, found_by_id, found_by_long, id, option_arg, rules, shape}
use Rattle.risch_words.proofs.Runs.{idle_at, outcome, outcome-word, waits_at}
use Rattle.risch_words.proofs.Turns.{IdleAgrees, Sees, WaitsAgrees, asked_next, asked_word, both_pass, fault_at, idle_turn, keeps_command, met_at, never, settling, turned, turned_same, waits_turn}
use Rattle.risch_words.proofs.Uses.{Pending, entry_of, held, passes, the_option, use_fault-put, used-put}
use Rattle.risch_words.proofs.WordKinds.{IsPlain, IsRefused, holding}

-- ---- a word is cut at its first `=`

name_cut : (text : Text) → before_first (λ x. x == 61) text ≡ before_equals text
name_cut [] = refl
name_cut (b ∷ bs) = go (b == 61) (name_cut bs)
  where
    go : (t : Bool) → before_first (λ x. x == 61) bs ≡ before_equals bs
        → take (cond (not t) (1 + position_or_len (λ x. x == 61) bs) 0) (b ∷ bs) ≡ cond t [] (b ∷ before_equals bs)
    go true h = refl
    go false h = rw one-add (ap (λ xs. b ∷ xs) h)

value_cut : (text : Text) → cond (has_byte 61 text) (Some (after_first (λ x. x == 61) text)) None ≡ behind_equals text
value_cut [] = refl
value_cut (b ∷ bs) = go (b == 61) (value_cut bs)
  where
    go : (t : Bool) → cond (has_byte 61 bs) (Some (after_first (λ x. x == 61) bs)) None ≡ behind_equals bs
        → cond (t || has_byte 61 bs) (Some (drop (cond (not t) (1 + position_or_len (λ x. x == 61) bs) 0 + 1) (b ∷ bs))) None ≡ cond t (Some bs) (behind_equals bs)
    go true h = refl
    go false h = rw (one-add, suc-add) h

-- ---- an option's word, where no option waits

-- what is at fault with an option's word, and what it is
abbrev pub option_fault : Option Name → Option Text → Held → Kinds
option_fault name v h = long_fault rules false (option_map option_arg name) v h

abbrev pub option_met : Option Name → Option Text → Text → Held → Held × Step
option_met name v word h = after_flag rules idle word (long_met rules (option_map option_arg name) v h).0 (long_met rules (option_map option_arg name) v h).1

-- the walk after an option with its value
abbrev pub used_at : Bool → List Row → Walk
used_at seen rs = record { held = holding rs None; waiting = idle; position = cond seen 2 1; is_trailing = false; stopped = None }

-- the walk after an option that waits for its value
abbrev pub opened_at : Name → Bool → List Row → Walk
opened_at name seen rs = record { held = holding rs (Some (id name, [])); waiting = option (id name); position = cond seen 2 1; is_trailing = false; stopped = None }

value_next : (seen : Bool) (fs : List Entry) (name : Name) (text : Text) (words : List Text) → seen ≡ is_some (value_at command_id fs) → IdleAgrees words
    → cond (passes (use_fault false (option_arg name) (text ∷ []) (rows fs))) (outcome (used_at seen (used (option_arg name) (text ∷ []) (rows fs))) words) None
    ≡ given (with_value name text (places_of fs None false)) (λ q. after q words)
value_next seen fs name text words sees agrees =
    ap (λ (b : Bool). cond b (outcome (used_at seen (used (option_arg name) (text ∷ []) (rows fs))) words) None) (use_fault-put (the_option name) text fs)
    ∙ go (put (Some (id name, text)) fs) refl
    ∙ sym (ap (λ (o : Option Places). given o (λ q. after q words)) (with_value-put name text fs None false)
    ∙ given_given (put (Some (id name, text)) fs) (λ gs. Some (places_of gs None false)) (λ q. after q words))
  where
    here : (gs : List Entry) → put (Some (id name, text)) fs ≡ Some gs → Sees seen gs None
    here gs is xs same = let e : gs ≡ xs = cc in sees ∙ ap is_some (sym (keeps_command name text fs gs is)) ∙ ap (λ (ys : List Entry). is_some (value_at command_id ys)) e

    go : (o : Option (List Entry)) → put (Some (id name, text)) fs ≡ o
        → cond (is_some o) (outcome (used_at seen (used (option_arg name) (text ∷ []) (rows fs))) words) None ≡ given o (λ gs. after (places_of gs None false) words)
    go None is = refl
    go (Some gs) is = ap (λ (rs : List Row). outcome (used_at seen rs) words) (used-put (the_option name) text fs gs is) ∙ agrees seen false gs None (here gs is)

abbrev pub option_asked : Option Name → Option Text → List Entry → Pending → List Text → Option Request
option_asked name v es pending words = given (put (entry_of pending) es) (λ fs. given (with_option name v (places_of fs None false)) (λ q. after q words))

option_turn : (seen : Bool) (es : List Entry) (pending : Pending) (name : Option Name) (v : Option Text) (word : Text) (words : List Text) → Sees seen es pending → IdleAgrees words → WaitsAgrees words
    → turned (option_fault name v (held es pending)) (option_met name v word (held es pending)) (idle_at seen false es pending) word words ≡ option_asked name v es pending words
option_turn seen es pending None v word words sees agrees waits = sym (given_none (put (entry_of pending) es) _ (λ fs. refl))
option_turn seen es pending (Some name) (Some text) word words sees agrees waits =
    let rs : List Row = (settled rules (held es pending)).rows in
    let at_fault : List Row → Kinds = use_fault false (option_arg name) (text ∷ []) in
    let result : List Row → Option Request = λ xs. outcome (used_at seen (used (option_arg name) (text ∷ []) xs)) words in
    both_pass (settle_fault rules false (held es pending)) (at_fault rs) (result rs)
    ∙ settling es pending (cond (passes (at_fault rs)) (result rs) None) (λ fs. given (with_value name text (places_of fs None false)) (λ q. after q words))
    (λ fs is same. ap (λ (xs : List Row). cond (passes (at_fault xs)) (result xs) None) same ∙ value_next seen fs name text words (sees fs is) agrees)
option_turn seen es pending (Some name) None word words sees agrees waits =
    settling es pending (outcome (opened_at name seen (settled rules (held es pending)).rows) words) (λ fs. after (places_of fs (Some name) false) words)
    (λ fs is same. ap (λ (xs : List Row). outcome (opened_at name seen xs) words) same ∙ waits name seen fs (sees fs is))

abbrev pub long_word_at : ℕ → Text → Text
long_word_at b bs = 45 ∷ 45 ∷ b ∷ bs

-- the option that the word names, as `clap` finds it
found_cut : (text : Text) → arg_by_long rules (before_first (λ x. x == 61) text) ≡ option_map option_arg (name_of (before_equals text))
found_cut text = ap (arg_by_long rules) (name_cut text) ∙ found_by_long (before_equals text)

pub idle_long : (seen : Bool) (es : List Entry) (pending : Pending) (b : ℕ) (bs : Text) (words : List Text) → Sees seen es pending → IdleAgrees words → WaitsAgrees words
    → outcome (idle_at seen false es pending) (long_word_at b bs ∷ words) ≡ asked_next false es pending (long_word_at b bs) words
idle_long seen es pending b bs words sees agrees waits =
    let text : Text = b ∷ bs in
    let word : Text = long_word_at b bs in
    let w : Walk = idle_at seen false es pending in
    let h : Held = held es pending in
    let fault : fault_at w word ≡ option_fault (name_of (before_equals text)) (behind_equals text) h = ap₂ (λ a v. long_fault rules false a v h) (found_cut text) (value_cut text) in
    let met : met_at w word ≡ option_met (name_of (before_equals text)) (behind_equals text) word h =
    ap₂ (λ a v. after_flag rules idle word (long_met rules a v h).0 (long_met rules a v h).1) (found_cut text) (value_cut text) in
    idle_turn seen false es pending word words
    ∙ turned_same (fault_at w word) (option_fault (name_of (before_equals text)) (behind_equals text) h) (met_at w word) (option_met (name_of (before_equals text)) (behind_equals text) word h) w word words fault met
    ∙ option_turn seen es pending (name_of (before_equals text)) (behind_equals text) word words sees agrees waits
    ∙ sym (asked_word false es pending word words)

-- ---- an option waits for its value

-- no value is at hand yet
abbrev pub no_value : Name → List Entry → Held
no_value name es = holding (rows es) (Some (id name, []))

missing : (name : Name) (es : List Entry) → settle_fault rules false (no_value name es) ≡ kind.InvalidValue ∷ []
missing name es = rw (found_by_id name) refl

-- `--` stands where the value should
abbrev pub cut_at : Name → Bool → List Entry → Walk
cut_at name seen es = record { held = no_value name es; waiting = option (id name); position = cond seen 2 1; is_trailing = true; stopped = None }

cut_command : (name : Name) (seen : Bool) (es : List Entry) (result : Option Request) → cond (passes (step_fault shape (cond seen 2 1) (no_value name es) value)) result None ≡ None
cut_command name true es result = refl
cut_command name false es result =
    ap (λ (ks : Kinds). cond (passes ks) result None) (never (is_pending command_arg (Some (id name, []))) [] (settle_fault rules false (no_value name es)) ∙ missing name es)

cut_off : (name : Name) (seen : Bool) (es : List Entry) (words : List Text) → outcome (cut_at name seen es) words ≡ None
unfolding walk_fault
cut_off name seen es [] = rw (missing name es) refl
cut_off name seen es (word ∷ words) = outcome-word (cut_at name seen es) word words ∙ cut_command name seen es (outcome (walked rules [] (cut_at name seen es) word) words)

asked_value : (name : Name) (es : List Entry) (word : Text) (words : List Text)
    → after (places_of es (Some name) false) (word ∷ words) ≡ given (with_value name word (places_of es (Some name) false)) (λ q. after q words)
asked_value name es word words = after-word (places_of es (Some name) false) word words

pub waits_ends : (name : Name) (seen : Bool) (es : List Entry) (words : List Text) → outcome (waits_at name seen es) ((45 ∷ 45 ∷ []) ∷ words) ≡ after (places_of es (Some name) false) ((45 ∷ 45 ∷ []) ∷ words)
waits_ends name seen es words =
    waits_turn name seen es (45 ∷ 45 ∷ []) words ∙ cut_off name seen es words
    ∙ sym (asked_value name es (45 ∷ 45 ∷ []) words ∙ hyphen_value name (45 ∷ []) (places_of es (Some name) false) words)

pub waits_refused : (name : Name) (seen : Bool) (es : List Entry) (flags : Text) (words : List Text) → IsRefused (45 ∷ flags)
    → outcome (waits_at name seen es) ((45 ∷ flags) ∷ words) ≡ after (places_of es (Some name) false) ((45 ∷ flags) ∷ words)
waits_refused name seen es flags words k =
    let w : Walk = waits_at name seen es in
    let word : Text = 45 ∷ flags in
    let fault : fault_at w word ≡ kind.UnknownArgument ∷ [] = rw k.not_end (k.fault (rows es) (Some (id name, []))) in
    waits_turn name seen es word words ∙ turned_same (fault_at w word) (kind.UnknownArgument ∷ []) (met_at w word) (met_at w word) w word words fault refl
    ∙ sym (asked_value name es word words ∙ hyphen_value name flags (places_of es (Some name) false) words)

-- another option's word
long_after : (name : Name) (es : List Entry) (other : Option Name) (v : Option Text) (result : Option Request) → cond (passes (option_fault other v (no_value name es))) result None ≡ None
long_after name es None v result = refl
long_after name es (Some other) None result = ap (λ (ks : Kinds). cond (passes ks) result None) (missing name es)
long_after name es (Some other) (Some text) result =
    ap (λ (ks : Kinds). cond (passes (or_else ks (use_fault false (option_arg other) (text ∷ []) (settled rules (no_value name es)).rows))) result None) (missing name es)

pub waits_long : (name : Name) (seen : Bool) (es : List Entry) (b : ℕ) (bs : Text) (words : List Text)
    → outcome (waits_at name seen es) (long_word_at b bs ∷ words) ≡ after (places_of es (Some name) false) (long_word_at b bs ∷ words)
waits_long name seen es b bs words =
    let text : Text = b ∷ bs in
    let word : Text = long_word_at b bs in
    let w : Walk = waits_at name seen es in
    let h : Held = no_value name es in
    let met : Held × Step = met_at w word in
    let fault : fault_at w word ≡ option_fault (name_of (before_equals text)) (behind_equals text) h = ap₂ (λ a v. long_fault rules false a v h) (found_cut text) (value_cut text) in
    waits_turn name seen es word words
    ∙ turned_same (fault_at w word) (option_fault (name_of (before_equals text)) (behind_equals text) h) met met w word words fault refl
    ∙ long_after name es (name_of (before_equals text)) (behind_equals text) (cond (passes (step_fault shape w.position met.0 met.1)) (outcome (after_step rules word w met.0 met.1) words) None)
    ∙ sym (asked_value name es word words ∙ hyphen_value name (45 ∷ b ∷ bs) (places_of es (Some name) false) words)

-- the value
value_met : (name : Name) (es : List Entry) (word : Text) → plain_word rules (option (id name)) word (no_value name es) ≡ (holding (rows es) (Some (id name, word ∷ [])), next idle)
value_met Workers es word = refl
value_met Budget es word = refl
value_met Size es word = refl

pub waits_plain : (name : Name) (seen : Bool) (es : List Entry) (word : Text) (words : List Text) → IsPlain word → seen ≡ is_some (value_at command_id es) → IdleAgrees words
    → outcome (waits_at name seen es) (word ∷ words) ≡ after (places_of es (Some name) false) (word ∷ words)
waits_plain name seen es word words k sees agrees =
    let w : Walk = waits_at name seen es in
    let got : Held × Step = (holding (rows es) (Some (id name, word ∷ [])), next idle) in
    let fault : fault_at w word ≡ [] = rw k.not_end (k.fault (rows es) (Some (id name, []))) in
    let met : met_at w word ≡ got = rw k.not_end (k.step (option (id name)) (rows es) (Some (id name, [])) ∙ value_met name es word) in
    let here : Sees seen es (Some (the_option name, word)) = λ fs is. sees ∙ ap is_some (sym (keeps_command name word es fs is)) in
    waits_turn name seen es word words ∙ turned_same (fault_at w word) [] (met_at w word) got w word words fault met
    ∙ agrees seen false es (Some (the_option name, word)) here
    ∙ sym (asked_value name es word words ∙ ap (λ (o : Option Places). given o (λ q. after q words)) (with_value-put name word es (Some name) false)
    ∙ given_given (put (Some (id name, word)) es) (λ fs. Some (places_of fs None false)) (λ q. after q words))

pub waits_end : (name : Name) (seen : Bool) (es : List Entry) → outcome (waits_at name seen es) [] ≡ None
unfolding walk_fault
waits_end name seen es = rw (missing name es) refl
