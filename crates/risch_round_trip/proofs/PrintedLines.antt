-- The fixed words and the numbers of printed lines are read.
use Rattle.std.specs.Prelude.{◌==◌, ◌^◌, cond, decimal}
use Rattle.std.specs.Option.{option_map_or}
use Rattle.std.proofs.Common.{◌≡◌, ℕ, ◌≤◌, ◌<◌, List, [], ◌∷◌, ◌++◌, true, false, None, Some, Ok, Err, refl, ap, ◌∙◌, arith, rules}
use Rattle.std.proofs.lemmas.Bool.{cond-true, cond-false}
use Rattle.risch_expression.specs.Words.{goes_on, after_blanks, after_word, Numeral}
use Rattle.risch_expression.specs.Fault.{unexpected}
use Rattle.risch_expression.specs.Grammar.{Read, wanted_number}
use Rattle.risch_expression.specs.declared.fault.Cause.{Cause}
use Rattle.risch_expression.specs.declared.names.Names.{Names}
use Rattle.risch_round_trip.proofs.Fronts.{AfterAtom, Begins, begins-kept}
use Rattle.risch_round_trip.proofs.WrittenTexts.{decimal-is_number, number_read}

-- ---- words
pub word-read : (word rest : List ℕ) → AfterAtom rest → after_word word (word ++ rest) ≡ Some (after_blanks rest)
unfolding after_word
word-read [] rest h = ends rest h
  where
    ends : (rest : List ℕ) → AfterAtom rest → cond (goes_on rest) None (Some (after_blanks rest)) ≡ Some (after_blanks rest)
    ends rest h = cond-false (goes_on rest) None (Some (after_blanks rest)) h
word-read (b ∷ word) rest h = cond-true (b == b) (after_word word (word ++ rest)) None (same b) ∙ word-read word rest h
  where
    same : (n : ℕ) → (n == n) ≡ true
    same n = search rules

-- a word, a space and a text
pub spaced_word-read : (word text : List ℕ) → Begins text → after_word word (word ++ (32 ∷ text)) ≡ Some text
unfolding after_blanks
spaced_word-read word text b = word-read word (32 ∷ text) refl ∙ ap Some (begins-kept text b)

-- another word does not stand there
pub word-other : (w b : ℕ) (word bytes : List ℕ) → (b == w) ≡ false → after_word (w ∷ word) (b ∷ bytes) ≡ None
unfolding after_word
word-other w b word bytes h = cond-false (b == w) (after_word word bytes) None h

-- ---- numbers
-- the number is read with whatever names are known
no_names : Names
no_names = record { monomials = 0; with_z = false }

pub wanted-read : (open_left most : ℕ) (above : Cause) (n : ℕ) (rest : List ℕ) → n < 2 ^ 127 → n ≤ most → AfterAtom rest →
    wanted_number open_left most above (decimal n ++ rest) ≡ Ok (record { value = n; rest = after_blanks rest })
unfolding wanted_number
wanted-read open_left most above n rest small low h =
    ap (λ found. option_map_or (λ (f : Read Numeral). f) found (Err (unexpected open_left (decimal n ++ rest)))) (number_read no_names most above (decimal n) n rest (decimal-is_number n (omega arith)) small low h)
