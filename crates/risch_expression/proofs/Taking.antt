-- What is taken off the front of the bytes at hand.
use Rattle.std.proofs.Common.{◌≡◌, ◌≢◌, ℕ, ◌+◌, ◌-◌, ◌*◌, ◌≤◌, ◌<◌, List, [], ◌∷◌, ◌++◌, length, take, drop, Bool, true, false, cond, refl, ap, ◌∙◌, arith, Option, Some, None, Ok, Err, ◌==◌}
use Rattle.std.proofs.lemmas.Bool.{lt-ltb, le-ltb, cond-true, cond-false, eq-eqb, eqb-true, ne_eqb, cond_both}
use Rattle.std.specs.Prelude.{nat_lt, option_map}
use Rattle.std.specs.List.{prefix_len}
use Rattle.risch_expression.specs.Words.{is_blank, after_blanks, after_byte, is_letter, is_letter_or_digit, front_name, name, is_digit, goes_on, after_word, Numeral, more_digits, numeral}
use Rattle.risch_expression.specs.Fault.{fault_at, most_number, is_wide}
use Rattle.risch_expression.specs.Grammar.{limited, number_found}
use Rattle.risch_expression.specs.Taken.{IsNumber}
use Rattle.risch_expression.specs.declared.fault.Cause.{Cause}
use Rattle.risch_expression.specs.declared.fault.Cause.TheVariants.{Wide}

pub after_blanks_end : (bytes : List ℕ) → length bytes ≡ 0 → after_blanks bytes ≡ bytes
unfolding after_blanks
after_blanks_end [] h = refl
after_blanks_end (b ∷ bs) h = absurd (omega arith)

pub after_blanks_more : (bytes : List ℕ) (b : ℕ) (bs : List ℕ) → bytes ≡ b ∷ bs → is_blank b bs ≡ true → after_blanks bytes ≡ after_blanks bs
unfolding after_blanks
after_blanks_more bytes b bs e h = rw e (cond-true (is_blank b bs) _ _ h)

pub after_blanks_stop : (bytes : List ℕ) (b : ℕ) (bs : List ℕ) → bytes ≡ b ∷ bs → is_blank b bs ≡ false → after_blanks bytes ≡ bytes
unfolding after_blanks
after_blanks_stop bytes b bs e h = rw e (cond-false (is_blank b bs) _ _ h)

pub after_byte_end : (byte : ℕ) (bytes : List ℕ) → length bytes ≡ 0 → after_byte byte bytes ≡ None
unfolding after_byte
after_byte_end byte [] h = refl
after_byte_end byte (b ∷ bs) h = absurd (omega arith)

pub after_byte_other : (byte : ℕ) (bytes : List ℕ) (b : ℕ) (bs : List ℕ) → bytes ≡ b ∷ bs → b ≢ byte → after_byte byte bytes ≡ None
unfolding after_byte
after_byte_other byte bytes b bs e h = rw e (cond-false (b == byte) _ _ (ne_eqb b byte h))

pub after_byte_found : (byte : ℕ) (bytes : List ℕ) (b : ℕ) (bs : List ℕ) → bytes ≡ b ∷ bs → b ≡ byte → after_byte byte bytes ≡ Some (after_blanks bs)
unfolding after_byte
after_byte_found byte bytes b bs e h = rw e (cond-true (b == byte) _ _ (eq-eqb b byte h))

-- the word, and then no letter or digit
after_word_front : (word rest : List ℕ) → after_word word (word ++ rest) ≡ cond (goes_on rest) None (Some (after_blanks rest))
unfolding after_word
after_word_front [] rest = refl
after_word_front (w ∷ ws) rest = cond-true (w == w) _ _ (eq-eqb w w refl) ∙ after_word_front ws rest

pub after_word_found : (word bytes rest : List ℕ) → bytes ≡ word ++ rest → goes_on rest ≡ false → after_word word bytes ≡ Some (after_blanks rest)
after_word_found word bytes rest e h = rw e (after_word_front word rest ∙ cond-false (goes_on rest) _ _ h)

pub after_word_goes_on : (word bytes rest : List ℕ) → bytes ≡ word ++ rest → goes_on rest ≡ true → after_word word bytes ≡ None
after_word_goes_on word bytes rest e h = rw e (after_word_front word rest ∙ cond-true (goes_on rest) _ _ h)

pub after_word_other : (word bytes : List ℕ) → ((rest : List ℕ) → bytes ≢ word ++ rest) → after_word word bytes ≡ None
unfolding after_word
after_word_other [] bytes h = absurd (h bytes refl)
after_word_other (w ∷ ws) [] h = refl
after_word_other (w ∷ ws) (b ∷ bs) h =
    cond_both (b == w) (after_word ws bs) None (λ r. r ≡ None)
    (λ e. after_word_other ws bs (λ rest same. h rest (let k : b ≡ w = eqb-true b w e in cc))) (λ _. refl)

pub more_digits_end : (value : ℕ) (bytes : List ℕ) → length bytes ≡ 0 → more_digits value bytes ≡ record { value = value; rest = bytes }
unfolding more_digits
more_digits_end value [] h = refl
more_digits_end value (b ∷ bs) h = absurd (omega arith)

pub more_digits_more : (value : ℕ) (bytes : List ℕ) (b : ℕ) (bs : List ℕ) → bytes ≡ b ∷ bs → is_digit b ≡ true → more_digits value bytes ≡ more_digits (value * 10 + (b - 48)) bs
unfolding more_digits
more_digits_more value bytes b bs e h = rw e (cond-true (is_digit b) _ _ h)

pub more_digits_stop : (value : ℕ) (bytes : List ℕ) (b : ℕ) (bs : List ℕ) → bytes ≡ b ∷ bs → is_digit b ≡ false → more_digits value bytes ≡ record { value = value; rest = after_blanks bytes }
unfolding more_digits
more_digits_stop value bytes b bs e h = rw e (cond-false (is_digit b) _ _ h)

-- More digits make no smaller value.
pub more_digits_rises : (value : ℕ) (bytes : List ℕ) → value ≤ (more_digits value bytes).value
unfolding more_digits
more_digits_rises value [] = omega arith
more_digits_rises value (b ∷ bs) =
    cond_both (is_digit b) (more_digits (value * 10 + (b - 48)) bs) (record { value = value; rest = after_blanks (b ∷ bs) }) (λ n. value ≤ n.value)
    (λ _. omega (arith, more_digits_rises (value * 10 + (b - 48)) bs)) (λ _. omega arith)

pub more_digits_large : (most value : ℕ) (bytes : List ℕ) (b : ℕ) (bs : List ℕ) → bytes ≡ b ∷ bs → is_digit b ≡ true → most ≤ value * 10 + (b - 48) → most ≤ (more_digits value bytes).value
more_digits_large most value bytes b bs e h large =
    rw (more_digits_more value bytes b bs e h) (omega (arith, more_digits_rises (value * 10 + (b - 48)) bs))

-- ---- names
pub begins_end : (bytes : List ℕ) → length bytes ≡ 0 → name bytes ≡ cond false (Some (front_name bytes)) None
unfolding name
begins_end [] h = refl
begins_end (b ∷ bs) h = absurd (omega arith)

pub begins_more : (begins : Bool) (bytes : List ℕ) (b : ℕ) (bs : List ℕ) → bytes ≡ b ∷ bs → begins ≡ is_letter b → name bytes ≡ cond begins (Some (front_name bytes)) None
unfolding name
begins_more begins bytes b bs e is = rw (e, is) refl

pub name_other : (begins : Bool) (bytes : List ℕ) → name bytes ≡ cond begins (Some (front_name bytes)) None → begins ≡ false → name bytes ≡ None
name_other begins bytes is h = is ∙ cond-false begins _ _ h

pub name_found : (begins : Bool) (bytes text rest : List ℕ) (size : ℕ) → name bytes ≡ cond begins (Some (front_name bytes)) None → begins ≡ true →
    size ≡ prefix_len is_letter_or_digit bytes → text ≡ take size bytes → rest ≡ after_blanks (drop size bytes) → name bytes ≡ Some (record { text = text; rest = rest })
name_found begins bytes text rest size is h n t r = rw (t, r, n) (is ∙ cond-true begins _ _ h)

-- ---- numbers
pub numeral_end : (bytes : List ℕ) → length bytes ≡ 0 → numeral bytes ≡ None
unfolding numeral
numeral_end [] h = refl
numeral_end (b ∷ bs) h = absurd (omega arith)

pub numeral_other : (bytes : List ℕ) (b : ℕ) (bs : List ℕ) → bytes ≡ b ∷ bs → is_digit b ≡ false → numeral bytes ≡ None
unfolding numeral
numeral_other bytes b bs e h = rw e (cond-false (is_digit b) _ _ h)

pub numeral_found : (bytes : List ℕ) (b : ℕ) (bs : List ℕ) → bytes ≡ b ∷ bs → is_digit b ≡ true → numeral bytes ≡ Some (more_digits (b - 48) bs)
unfolding numeral
numeral_found bytes b bs e h = rw e (cond-true (is_digit b) _ _ h)

pub number_none : (most : ℕ) (above : Cause) (bytes : List ℕ) → numeral bytes ≡ None → number_found most above bytes ≡ None
unfolding number_found
number_none most above bytes e = rw e refl

pub number_wide : (most : ℕ) (above : Cause) (bytes : List ℕ) → is_wide (numeral bytes) ≡ true → number_found most above bytes ≡ Some (Err (fault_at bytes Wide))
unfolding number_found
number_wide most above bytes e = by_numeral (numeral bytes) e
  where
    by_numeral : (n : Option Numeral) → is_wide n ≡ true → option_map (limited most above bytes) n ≡ Some (Err (fault_at bytes Wide))
    by_numeral None h = cc
    by_numeral (Some n) h = ap Some (cond-true (nat_lt most_number n.value) _ _ h)

pub number_above : (most : ℕ) (above : Cause) (bytes : List ℕ) (value : ℕ) (rest : List ℕ) → IsNumber value rest bytes → most < value → number_found most above bytes ≡ Some (Err (fault_at bytes above))
unfolding number_found
number_above most above bytes value rest n h =
    let fits : value ≤ most_number = omega (arith, n.fits) in
    rw n.is (ap Some (cond-false (nat_lt most_number value) _ _ (le-ltb most_number value fits) ∙ cond-true (nat_lt most value) _ _ (lt-ltb most value h)))

pub number_value : (most : ℕ) (above : Cause) (bytes : List ℕ) (value : ℕ) (rest : List ℕ) → IsNumber value rest bytes → value ≤ most →
    number_found most above bytes ≡ Some (Ok (record { value = value; rest = rest }))
unfolding number_found
number_value most above bytes value rest n h =
    let fits : value ≤ most_number = omega (arith, n.fits) in
    rw n.is (ap Some (cond-false (nat_lt most_number value) _ _ (le-ltb most_number value fits) ∙ cond-false (nat_lt most value) _ _ (le-ltb most value h)))
