-- `clap` reads the words as the definition does.
use Rattle.std.proofs.Common.{◌≡◌, ◌∙◌, ◌⊎◌, inl, inr, refl, sym, ap, Bool, true, false, cond, List, [], ◌∷◌, Option, Some, None}
use Rattle.std.specs.Option.{is_some}
use Rattle.clap.specs.Walk.{Row, Text, finished, walk}
use Rattle.clap.specs.Simple.{built, entered, matches_of}
use Rattle.clap.specs.Faults.{built_fault, entered_fault, fault_of, level_fault}
use Rattle.clap.specs.Walk.{nothing_held}
use Rattle.clap.specs.Kinds.{IsAmong, Kinds}
use Rattle.clap.specs.declared.error.kind.ErrorKind.{ErrorKind}
use Rattle.clap.specs.declared.error.kind.ErrorKind.TheVariants.{OutOfMemory}
use Rattle.risch_words.specs.declared.fault.WordsFault.TheVariants.{Usage}
use Rattle.risch_words.specs.declared.request.Request.{Request}
use Rattle.risch_words.specs.Fault.{fault_of as fault_for}
use Rattle.risch_words.specs.Line.{line, read}
use Rattle.risch_words.specs.Words.{asked, given, nowhere}
use Rattle.risch_words.proofs.Entries.{Entry, put, value_at}
use Rattle.risch_words.proofs.OptionTurns.{idle_long, waits_end, waits_ends, waits_long, waits_plain, waits_refused}
use Rattle.risch_words.proofs.PlaceLemmas.{after, places_of}
use Rattle.risch_words.proofs.Rules.{command_id, rules, shape}
use Rattle.risch_words.proofs.Runs.{end_of, fault_from, idle_at, outcome, outcome-end}
use Rattle.risch_words.proofs.Turns.{IdleAgrees, Sees, WaitsAgrees, idle_ended, idle_ends, idle_plain, idle_refused}
use Rattle.risch_words.proofs.Uses.{Pending, entry_of, passes}
use Rattle.risch_words.proofs.WordKinds.{Kind, ends, kind_of, long, plain, refused}

-- ---- from each place on

record Agrees (words : List Text) : Type 0 where
  idles : IdleAgrees words
  waits : WaitsAgrees words

idle_word : {word : Text} {words : List Text} → Kind word → Agrees words → (seen ended : Bool) (es : List Entry) (pending : Pending) → Sees seen es pending
    → outcome (idle_at seen ended es pending) (word ∷ words) ≡ given (put (entry_of pending) es) (λ fs. after (places_of fs None ended) (word ∷ words))
idle_word {word = word} {words = words} kind agrees seen true es pending sees = idle_ended seen es pending word words sees agrees.idles
idle_word {words = words} ends agrees seen false es pending sees = idle_ends seen es pending words sees agrees.idles
idle_word {words = words} (long b bs) agrees seen false es pending sees = idle_long seen es pending b bs words sees agrees.idles agrees.waits
idle_word {words = words} (plain word is) agrees seen false es pending sees = idle_plain seen es pending word words is sees agrees.idles
idle_word {words = words} (refused flags is) agrees seen false es pending sees = idle_refused seen es pending flags words is

waits_word : {word : Text} {words : List Text} → Kind word → Agrees words → WaitsAgrees (word ∷ words)
waits_word {words = words} ends agrees name seen es sees = waits_ends name seen es words
waits_word {words = words} (long b bs) agrees name seen es sees = waits_long name seen es b bs words
waits_word {words = words} (plain word is) agrees name seen es sees = waits_plain name seen es word words is sees agrees.idles
waits_word {words = words} (refused flags is) agrees name seen es sees = waits_refused name seen es flags words is

agreement : (words : List Text) → Agrees words
agreement [] = record {
  idles = λ seen ended es pending sees. outcome-end seen ended es pending;
  waits = λ name seen es sees. waits_end name seen es;
}
agreement (word ∷ words) = record {
  idles = idle_word (kind_of word) (agreement words);
  waits = waits_word (kind_of word) (agreement words);
}

-- ---- from the first word on

no_subcommand : (words : List Text) (stop : Option (Text × List Text))
    → level_fault shape [] nothing_held words (is_some (entered (built line) stop)) (entered_fault (built line) stop) ≡ fault_from (idle_at false false [] None) words
no_subcommand words None = refl
no_subcommand words (Some stop) = refl

from_words : (words : List Text) → cond (passes (built_fault (built line) nothing_held words)) (read (finished rules (end_of (idle_at false false [] None) words))) None ≡ after nowhere words
from_words words =
    ap (λ (ks : Kinds). cond (passes ks) (read (finished rules (end_of (idle_at false false [] None) words))) None) (no_subcommand words (walk rules [] nothing_held words).stopped)
    ∙ (agreement words).idles false false [] None (λ fs is. let e : [] ≡ fs = cc in ap (λ (xs : List Entry). is_some (value_at command_id xs)) e)

read_as_asked : (words : List Text) → cond (passes (fault_of line words)) (read (matches_of line words)) None ≡ asked words
unfolding asked
read_as_asked [] = from_words []
read_as_asked (program ∷ words) = from_words words

-- the matches of words at which nothing is at fault hold what is asked for
pub asked_read : (words : List Text) (rs : List Row) → fault_of line words ≡ [] → rs ≡ matches_of line words → asked words ≡ read rs
asked_read words rs none same =
    sym (read_as_asked words) ∙ ap (λ (ks : Kinds). cond (passes ks) (read (matches_of line words)) None) none ∙ ap read (sym same)

among : (k : ErrorKind) (ks : Kinds) (result : Option Request) → IsAmong k ks → cond (passes ks) result None ≡ None
among k [] result h = absurd h
among k (x ∷ xs) result h = refl

-- words at which something is at fault ask for nothing
pub asked_none : (words : List Text) (k : ErrorKind) → IsAmong k (fault_of line words) → asked words ≡ None
asked_none words k h = sym (read_as_asked words) ∙ among k (fault_of line words) (read (matches_of line words)) h

-- words that `clap` refuses ask for nothing, unless memory ran out
pub asked_fault : (words : List Text) (kind : ErrorKind) → (kind ≡ OutOfMemory) ⊎ IsAmong kind (fault_of line words) → fault_for kind ≡ Usage → asked words ≡ None
asked_fault words kind (inl memory) usage = let e : fault_for OutOfMemory ≡ Usage = ap fault_for (sym memory) ∙ usage in cc
asked_fault words kind (inr h) usage = asked_none words kind h
