-- The four kinds of words, as `clap` and the definition see them.
use Rattle.std.proofs.Common.{◌≡◌, ◌==◌, refl, sym, subst, Bool, true, false, ℕ, List, [], ◌∷◌, Option, Some, None, bytes_eq, eqb-true}
use Rattle.std.specs.Prelude.{chars, slice_get}
use Rattle.clap.specs.Lexer.{long_of}
use Rattle.clap.specs.Walk.{Held, Row, Text, Waiting, bundle_met, long_or_other, plain_word, short_or_plain}
use Rattle.clap.specs.Faults.{bundle_fault, flag_word_fault, flags_fault}
use Rattle.clap.specs.declared.error.kind.ErrorKind.TheVariants as kind
use Rattle.risch_words.specs.Words.{behind_hyphens}
use Rattle.risch_words.proofs.Rules.{rules}

-- what is held before a word
abbrev pub holding : List Row → Option (Text × List Text) → Held
holding rs pending = record { rows = rs; pending = pending; skip = 0 }

-- the word is no flag
pub record IsPlain (word : Text) : Type 0 where
  pub hyphens : behind_hyphens word ≡ None
  pub not_end : bytes_eq word (45 ∷ 45 ∷ []) ≡ false
  pub step : (waiting : Waiting) (rs : List Row) (pending : Option (Text × List Text)) → long_or_other rules waiting word (long_of word) (holding rs pending) ≡ plain_word rules waiting word (holding rs pending)
  pub fault : (rs : List Row) (pending : Option (Text × List Text)) → flag_word_fault rules false (long_of word) word (holding rs pending) ≡ []

-- the word is a short flag, which the command line does not have
pub record IsRefused (word : Text) : Type 0 where
  pub hyphens : behind_hyphens word ≡ None
  pub not_end : bytes_eq word (45 ∷ 45 ∷ []) ≡ false
  pub fault : (rs : List Row) (pending : Option (Text × List Text)) → flag_word_fault rules false (long_of word) word (holding rs pending) ≡ kind.UnknownArgument ∷ []

pub data Kind : Text → Type 0 where
  ends : Kind (45 ∷ 45 ∷ [])
  long : (b : ℕ) (bs : Text) → Kind (45 ∷ 45 ∷ b ∷ bs)
  plain : (word : Text) → IsPlain word → Kind word
  refused : (flags : Text) → IsRefused (45 ∷ flags) → Kind (45 ∷ flags)

short_step : (word : Text) (x : ℕ) (xs : Text) → slice_get (chars (x ∷ xs)) 0 ≡ None → (waiting : Waiting) (rs : List Row) (pending : Option (Text × List Text))
    → short_or_plain rules waiting word (Some (x ∷ xs)) (holding rs pending) ≡ plain_word rules waiting word (holding rs pending)
unfolding bundle_met
short_step word x xs none waiting rs pending = rw none refl

short_fault_none : (x : ℕ) (xs : Text) → slice_get (chars (x ∷ xs)) 0 ≡ None → (rs : List Row) (pending : Option (Text × List Text)) → bundle_fault rules false (x ∷ xs) (holding rs pending) ≡ []
unfolding flags_fault
short_fault_none x xs none rs pending = rw none refl

short_fault_some : (x : ℕ) (xs : Text) (c : ℕ) → slice_get (chars (x ∷ xs)) 0 ≡ Some c → (rs : List Row) (pending : Option (Text × List Text)) → bundle_fault rules false (x ∷ xs) (holding rs pending) ≡ kind.UnknownArgument ∷ []
unfolding flags_fault
short_fault_some x xs c some rs pending = rw some refl

-- `-` and at least one character, which is no hyphen
short_kind : (x : ℕ) (xs : Text) → x == 45 ≡ false → Kind (45 ∷ x ∷ xs)
short_kind x xs other = go (slice_get (chars (x ∷ xs)) 0) refl
  where
    word : Text
    word = 45 ∷ x ∷ xs

    go : (first : Option ℕ) → slice_get (chars (x ∷ xs)) 0 ≡ first → Kind (45 ∷ x ∷ xs)
    go None is = plain (45 ∷ x ∷ xs) (record {
      hyphens = rw other refl;
      not_end = rw other refl;
      step = λ waiting rs pending. rw (other, other) (short_step (45 ∷ x ∷ xs) x xs is waiting rs pending);
      fault = λ rs pending. rw (other, other) (short_fault_none x xs is rs pending);
    })
    go (Some c) is = refused (x ∷ xs) (record {
      hyphens = rw other refl;
      not_end = rw other refl;
      fault = λ rs pending. rw (other, other) (short_fault_some x xs c is rs pending);
    })

-- a word with another first byte
plain_kind : (x : ℕ) (xs : Text) → x == 45 ≡ false → Kind (x ∷ xs)
plain_kind x [] other = plain (x ∷ []) (record {
  hyphens = refl;
  not_end = rw other refl;
  step = λ waiting rs pending. rw (other, other) refl;
  fault = λ rs pending. rw (other, other) refl;
})
plain_kind x (y ∷ ys) other = plain (x ∷ y ∷ ys) (record {
  hyphens = rw other refl;
  not_end = rw other refl;
  step = λ waiting rs pending. rw (other, other) refl;
  fault = λ rs pending. rw (other, other) refl;
})

hyphen_kind : (xs : Text) → Kind (45 ∷ xs)
hyphen_kind [] = plain (45 ∷ []) (record { hyphens = refl; not_end = refl; step = λ waiting rs pending. refl; fault = λ rs pending. refl })
hyphen_kind (x ∷ xs) = go (x == 45) refl
  where
    two : (ys : Text) → Kind (45 ∷ 45 ∷ ys)
    two [] = ends
    two (y ∷ ys) = long y ys

    go : (b : Bool) → x == 45 ≡ b → Kind (45 ∷ x ∷ xs)
    go true is = subst (λ (y : ℕ). Kind (45 ∷ y ∷ xs)) (sym (eqb-true x 45 is)) (two xs)
    go false is = short_kind x xs is

pub kind_of : (word : Text) → Kind word
kind_of [] = plain [] (record { hyphens = refl; not_end = refl; step = λ waiting rs pending. refl; fault = λ rs pending. refl })
kind_of (x ∷ xs) = go (x == 45) refl
  where
    go : (b : Bool) → x == 45 ≡ b → Kind (x ∷ xs)
    go true is = subst (λ (y : ℕ). Kind (y ∷ xs)) (sym (eqb-true x 45 is)) (hyphen_kind xs)
    go false is = plain_kind x xs is
