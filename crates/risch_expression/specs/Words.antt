-- What stands at the front of the bytes at hand: blanks, fixed bytes and words, names, numerals. Whatever is read, the blanks behind it are passed too.
use Rattle.std.specs.Prelude.{ℕ, ◌+◌, ◌-◌, ◌*◌, ◌==◌, nat_le, Bool, false, ◌&&◌, ◌||◌, cond, Option, None, Some, List, [], ◌∷◌, take, drop}
use Rattle.std.specs.List.{prefix_len}

-- whether the bytes begin with this one
abbrev pub begins_with : ℕ → List ℕ → Bool
begins_with byte [] = false
begins_with byte (b ∷ bs) = b == byte

-- a blank is a space, a tab, or a byte 13 directly before byte 10
abbrev pub is_blank : ℕ → List ℕ → Bool
is_blank b bs = (b == 32 || b == 9) || (b == 13 && begins_with 10 bs)

unfoldable pub after_blanks : List ℕ → List ℕ
after_blanks [] = []
after_blanks (b ∷ bs) = cond (is_blank b bs) (after_blanks bs) (b ∷ bs)

-- what stands behind this byte, where the bytes begin with it
unfoldable pub after_byte : ℕ → List ℕ → Option (List ℕ)
after_byte byte [] = None
after_byte byte (b ∷ bs) = cond (b == byte) (Some (after_blanks bs)) None

abbrev pub is_digit : ℕ → Bool
is_digit b = nat_le 48 b && nat_le b 57

abbrev pub is_letter : ℕ → Bool
is_letter b = (nat_le 65 b && nat_le b 90) || (nat_le 97 b && nat_le b 122)

abbrev pub is_letter_or_digit : ℕ → Bool
is_letter_or_digit b = is_letter b || is_digit b

-- whether the bytes begin with a letter or a digit
abbrev pub goes_on : List ℕ → Bool
goes_on [] = false
goes_on (b ∷ bs) = is_letter_or_digit b

-- what stands behind this word, where the bytes begin with it and no letter or digit follows it
unfoldable pub after_word : List ℕ → List ℕ → Option (List ℕ)
after_word [] bytes = cond (goes_on bytes) None (Some (after_blanks bytes))
after_word (w ∷ ws) [] = None
after_word (w ∷ ws) (b ∷ bs) = cond (b == w) (after_word ws bs) None

-- a name, and the bytes behind it
pub record Name : Type 0 where
  pub text : List ℕ
  pub rest : List ℕ

-- the letters and digits at the front of the bytes
abbrev pub front_name : List ℕ → Name
front_name bytes = let size = prefix_len is_letter_or_digit bytes in record { text = take size bytes; rest = after_blanks (drop size bytes) }

-- the name at the front of the bytes, a letter and the letters and digits that follow it
unfoldable pub name : List ℕ → Option Name
name [] = None
name (b ∷ bs) = cond (is_letter b) (Some (front_name (b ∷ bs))) None

-- a whole number, and the bytes behind it
pub record Numeral : Type 0 where
  pub value : ℕ
  pub rest : List ℕ

-- the digits that follow those of a value
unfoldable pub more_digits : ℕ → List ℕ → Numeral
more_digits value [] = record { value = value; rest = [] }
more_digits value (b ∷ bs) = cond (is_digit b) (more_digits (value * 10 + (b - 48)) bs) (record { value = value; rest = after_blanks (b ∷ bs) })

-- the number at the front of the bytes, one or more digits
unfoldable pub numeral : List ℕ → Option Numeral
numeral [] = None
numeral (b ∷ bs) = cond (is_digit b) (Some (more_digits (b - 48) bs)) None
