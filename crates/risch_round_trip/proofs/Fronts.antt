-- What stands at the front of printed bytes: bytes that are no blanks, signs, numbers and names, each with what follows it.
use Rattle.std.specs.Prelude.{◌==◌, ◌-◌, ◌*◌, ◌/◌, ◌%◌, ◌^◌, cond, ◌||◌, decimal}
use Rattle.std.proofs.Common.{◌≡◌, ℕ, suc, ◌+◌, ◌≤◌, ◌<◌, List, [], ◌∷◌, ◌++◌, length, Bool, true, false, None, Some, refl, sym, ap, ◌∙◌, append_assoc, arith, rules, ne_eqb}
use Rattle.std.specs.List.{prefix_len}
use Rattle.std.proofs.lemmas.Bool.{cond-true, cond-false, le-leb}
use Rattle.std.proofs.lemmas.Fmt.{decimal_by_steps_wide}
use Rattle.risch_expression.specs.Words.{begins_with, is_blank, after_blanks, after_byte, is_digit, is_letter, is_letter_or_digit, goes_on, front_name, name, more_digits, numeral}

-- ---- blanks
-- a byte above the space is no blank
pub not-blank : (b : ℕ) (bs : List ℕ) → 33 ≤ b → is_blank b bs ≡ false
not-blank b bs h =
    let space : (b == 32) ≡ false = ne_eqb b 32 (λ e. omega arith) in
    let tab : (b == 9) ≡ false = ne_eqb b 9 (λ e. omega arith) in
    let return : (b == 13) ≡ false = ne_eqb b 13 (λ e. omega arith) in
    rw (space, tab, return) refl

pub after_blanks-kept : (b : ℕ) (bs : List ℕ) → 33 ≤ b → after_blanks (b ∷ bs) ≡ b ∷ bs
unfolding after_blanks
after_blanks-kept b bs h = cond-false (is_blank b bs) (after_blanks bs) (b ∷ bs) (not-blank b bs h)

-- blanks only make the bytes shorter
pub after_blanks-short : (bytes : List ℕ) → length (after_blanks bytes) ≤ length bytes
unfolding after_blanks
after_blanks-short [] = omega arith
after_blanks-short (b ∷ bs) = by_test (is_blank b bs) (after_blanks-short bs)
  where
    by_test : (t : Bool) → length (after_blanks bs) ≤ length bs → length (cond t (after_blanks bs) (b ∷ bs)) ≤ suc (length bs)
    by_test true h = omega arith
    by_test false h = omega arith

-- ---- bytes that are printed
-- The text begins with a byte that is no blank.
pub record Begins (text : List ℕ) : Type 0 where
  pub byte : ℕ
  pub more : List ℕ
  pub is : text ≡ byte ∷ more
  pub dark : 33 ≤ byte

pub begins-append : (text more : List ℕ) → Begins text → Begins (text ++ more)
begins-append text more b = record { byte = b.byte; more = b.more ++ more; is = ap (λ t. t ++ more) b.is; dark = b.dark }

pub begins-kept : (text : List ℕ) → Begins text → after_blanks text ≡ text
begins-kept text b = ap after_blanks b.is ∙ after_blanks-kept b.byte b.more b.dark ∙ sym b.is

pub begins-long : (text : List ℕ) → Begins text → 0 < length text
begins-long text b = rw b.is (omega arith)

-- ---- signs
pub after_byte-found : (byte : ℕ) (text : List ℕ) → Begins text → after_byte byte (byte ∷ text) ≡ Some text
unfolding after_byte
after_byte-found byte text b = cond-true (byte == byte) (Some (after_blanks text)) None (eqb_same byte) ∙ ap Some (begins-kept text b)
  where
    eqb_same : (n : ℕ) → (n == n) ≡ true
    eqb_same n = search rules

pub after_byte-behind : (byte : ℕ) (text : List ℕ) → after_byte byte (byte ∷ text) ≡ Some (after_blanks text)
unfolding after_byte
after_byte-behind byte text = cond-true (byte == byte) (Some (after_blanks text)) None (eqb_same byte)
  where
    eqb_same : (n : ℕ) → (n == n) ≡ true
    eqb_same n = search rules

pub after_byte-none : (byte : ℕ) (text : List ℕ) → begins_with byte text ≡ false → after_byte byte text ≡ None
unfolding after_byte
after_byte-none byte [] h = refl
after_byte-none byte (b ∷ bs) h = cond-false (b == byte) (Some (after_blanks bs)) None h

-- ---- what follows
-- no letter and no digit
abbrev pub AfterAtom : List ℕ → Type 0
AfterAtom rest = goes_on rest ≡ false

-- and past blanks no `^`
pub record AfterPower (rest : List ℕ) : Type 0 where
  pub atom : AfterAtom rest
  pub no_power : begins_with 94 (after_blanks rest) ≡ false

-- and no `*` and no `/`
pub record AfterTerm (rest : List ℕ) : Type 0 where
  pub power : AfterPower rest
  pub no_times : begins_with 42 (after_blanks rest) ≡ false
  pub no_over : begins_with 47 (after_blanks rest) ≡ false

-- and no `+` and no `-`
pub record AfterSum (rest : List ℕ) : Type 0 where
  pub term : AfterTerm rest
  pub no_plus : begins_with 43 (after_blanks rest) ≡ false
  pub no_minus : begins_with 45 (after_blanks rest) ≡ false

pub times-after_power : (more : List ℕ) → AfterPower (42 ∷ more)
unfolding after_blanks
times-after_power more = record { atom = refl; no_power = refl }

pub over-after_power : (more : List ℕ) → AfterPower (47 ∷ more)
unfolding after_blanks
over-after_power more = record { atom = refl; no_power = refl }

pub plus-after_term : (more : List ℕ) → AfterTerm (43 ∷ more)
unfolding after_blanks
plus-after_term more = record { power = record { atom = refl; no_power = refl }; no_times = refl; no_over = refl }

pub minus-after_term : (more : List ℕ) → AfterTerm (45 ∷ more)
unfolding after_blanks
minus-after_term more = record { power = record { atom = refl; no_power = refl }; no_times = refl; no_over = refl }

pub close-after_sum : (more : List ℕ) → AfterSum (41 ∷ more)
unfolding after_blanks
close-after_sum more = record { term = record { power = record { atom = refl; no_power = refl }; no_times = refl; no_over = refl }; no_plus = refl; no_minus = refl }

pub end-after_sum : AfterSum []
unfolding after_blanks
end-after_sum = record { term = record { power = record { atom = refl; no_power = refl }; no_times = refl; no_over = refl }; no_plus = refl; no_minus = refl }

-- a line's end, and ` of `
pub line-after_sum : (more : List ℕ) → AfterSum (10 ∷ more)
unfolding after_blanks
line-after_sum more = record { term = record { power = record { atom = refl; no_power = refl }; no_times = refl; no_over = refl }; no_plus = refl; no_minus = refl }

pub of-after_sum : (more : List ℕ) → AfterSum (32 ∷ (111 ∷ more))
unfolding after_blanks
of-after_sum more = record { term = record { power = record { atom = refl; no_power = refl }; no_times = refl; no_over = refl }; no_plus = refl; no_minus = refl }

-- ---- numbers
-- the digits of n: they begin with a digit, and the number goes on with what follows
pub record IsDigitsOf (n : ℕ) (text : List ℕ) : Type 0 where
  pub byte : ℕ
  pub more : List ℕ
  pub is : text ≡ byte ∷ more
  pub low : 48 ≤ byte
  pub high : byte ≤ 57
  pub reads : (rest : List ℕ) → numeral (text ++ rest) ≡ Some (more_digits n rest)

pub digit-is : (b : ℕ) → 48 ≤ b → b ≤ 57 → is_digit b ≡ true
digit-is b low high = rw (le-leb 48 b low, le-leb b 57 high) refl

one_digit : (n : ℕ) → n < 10 → IsDigitsOf n ((48 + n) ∷ [])
unfolding numeral
one_digit n h = record {
  byte = 48 + n;
  more = [];
  is = refl;
  low = omega arith;
  high = omega arith;
  reads = λ rest. cond-true (is_digit (48 + n)) (Some (more_digits (48 + n - 48) rest)) None (digit-is (48 + n) (omega arith) (omega arith))
      ∙ ap (λ k. Some (more_digits k rest)) (let same : 48 + n - 48 ≡ n = omega arith in same);
}

pub more_digits-one : (value b : ℕ) (rest : List ℕ) → is_digit b ≡ true → more_digits value (b ∷ rest) ≡ more_digits (value * 10 + (b - 48)) rest
unfolding more_digits
more_digits-one value b rest h = cond-true (is_digit b) (more_digits (value * 10 + (b - 48)) rest) (record { value = value; rest = after_blanks (b ∷ rest) }) h

one_digit_more : (n : ℕ) (ds : List ℕ) → 10 ≤ n → IsDigitsOf (n / 10) ds → IsDigitsOf n (ds ++ (48 + n % 10) ∷ [])
one_digit_more n ds h d = record {
  byte = d.byte;
  more = d.more ++ (48 + n % 10) ∷ [];
  is = ap (λ t. t ++ (48 + n % 10) ∷ []) d.is;
  low = d.low;
  high = d.high;
  reads = λ rest. ap numeral (append_assoc ds ((48 + n % 10) ∷ []) rest) ∙ d.reads ((48 + n % 10) ∷ rest)
      ∙ ap Some (more_digits-one (n / 10) (48 + n % 10) rest (digit-is (48 + n % 10) (omega arith) (omega arith)))
      ∙ ap (λ k. Some (more_digits k rest)) (let same : n / 10 * 10 + (48 + n % 10 - 48) ≡ n = omega arith in same);
}

pub decimal-is_digits_of : (n : ℕ) → n < 10 ^ 64 → IsDigitsOf n (decimal n)
decimal-is_digits_of n h = decimal_by_steps_wide IsDigitsOf one_digit one_digit_more n h

pub decimal-begins : (n : ℕ) → n < 10 ^ 64 → Begins (decimal n)
decimal-begins n h = let d = decimal-is_digits_of n h in let low = d.low in record { byte = d.byte; more = d.more; is = d.is; dark = omega arith }

pub more_digits-end : (n : ℕ) (rest : List ℕ) → AfterAtom rest → more_digits n rest ≡ record { value = n; rest = after_blanks rest }
unfolding more_digits after_blanks
more_digits-end n [] h = refl
more_digits-end n (b ∷ bs) h = cond-false (is_digit b) (more_digits (n * 10 + (b - 48)) bs) (record { value = n; rest = after_blanks (b ∷ bs) }) (by_tests (is_letter b) (is_digit b) h)
  where
    by_tests : (l d : Bool) → (l || d) ≡ false → d ≡ false
    by_tests true d e = cc
    by_tests false d e = e

-- a printed number is read
pub numeral-decimal : (n : ℕ) (rest : List ℕ) → n < 10 ^ 64 → AfterAtom rest → numeral (decimal n ++ rest) ≡ Some (record { value = n; rest = after_blanks rest })
numeral-decimal n rest small h = (decimal-is_digits_of n small).reads rest ∙ ap Some (more_digits-end n rest h)

-- ---- names
-- no letter or digit more
pub prefix-none : (rest : List ℕ) → AfterAtom rest → prefix_len is_letter_or_digit rest ≡ 0
prefix-none [] h = refl
prefix-none (b ∷ bs) h = cond-false (is_letter_or_digit b) (1 + prefix_len is_letter_or_digit bs) 0 h

front-one : (b : ℕ) (rest : List ℕ) → is_letter_or_digit b ≡ true → AfterAtom rest → front_name (b ∷ rest) ≡ record { text = b ∷ []; rest = after_blanks rest }
front-one b rest t h = rw (t, prefix-none rest h) refl

front-two : (b c : ℕ) (rest : List ℕ) → is_letter_or_digit b ≡ true → is_letter_or_digit c ≡ true → AfterAtom rest →
    front_name (b ∷ (c ∷ rest)) ≡ record { text = b ∷ (c ∷ []); rest = after_blanks rest }
front-two b c rest t u h = rw (t, u, prefix-none rest h) refl

-- one letter is a name
pub name-one : (b : ℕ) (rest : List ℕ) → is_letter b ≡ true → AfterAtom rest → name (b ∷ rest) ≡ Some (record { text = b ∷ []; rest = after_blanks rest })
unfolding name
name-one b rest l h = cond-true (is_letter b) (Some (front_name (b ∷ rest))) None l ∙ ap Some (front-one b rest (rw l refl) h)

-- a letter and a letter or digit
pub name-two : (b c : ℕ) (rest : List ℕ) → is_letter b ≡ true → is_letter_or_digit c ≡ true → AfterAtom rest →
    name (b ∷ (c ∷ rest)) ≡ Some (record { text = b ∷ (c ∷ []); rest = after_blanks rest })
unfolding name
name-two b c rest l t h = cond-true (is_letter b) (Some (front_name (b ∷ (c ∷ rest)))) None l ∙ ap Some (front-two b c rest (rw l refl) t h)
