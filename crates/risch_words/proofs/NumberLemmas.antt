-- What `parse` reads of digits, and numbers in their ranges.
use Rattle.std.proofs.Common.{◌≡◌, ◌∙◌, ◌<◌, ◌≤◌, ◌^◌, ◌⊎◌, refl, sym, ap, subst, arith, Bool, true, false, ℕ, List, [], ◌∷◌, length, Option, Some, None, option_map, inl, inr, Ok, Err, leb, leb-true, rules}
use Rattle.std.specs.Char.{is_ascii_digit}
use Rattle.std.specs.Coded.{×_prop, le_prop}
use Rattle.std.specs.Int.{IsInRange}
use Rattle.std.specs.List.{list_all}
use Rattle.std.specs.Str.Parse.{ParsesUnsigned, digits_value}
use Rattle.std.proofs.lemmas.Bool.{cases_lt, le-leb, lt-leb}
use Rattle.std.proofs.lemmas.Str.Parse.{IsDigitsTest, IsNumeralModel, numerals_by_value, parse_digits}
use Rattle.risch_words.specs.Numbers.{Number, number, when, within}

-- ---- a number in its range

abbrev pub value_of : {most : ℕ} → Option (Number most) → Option ℕ
value_of = option_map (λ n. n.value)

tested : (most n : ℕ) (low high : Bool) (range : low ≡ true → high ≡ true → IsInRange 1 most n) → Option (Number most)
tested most n low high range = when low (λ least. when high (λ in_most. Some (record { value = n; in_range = range least in_most })))

tested_true : (most n : ℕ) (low high : Bool) (range : low ≡ true → high ≡ true → IsInRange 1 most n) → low ≡ true → high ≡ true → value_of (tested most n low high range) ≡ Some n
unfolding tested
tested_true most n true true range l h = refl
tested_true most n true false range l h = cc
tested_true most n false high range l h = cc

tested_low : (most n : ℕ) (low high : Bool) (range : low ≡ true → high ≡ true → IsInRange 1 most n) → low ≡ false → value_of (tested most n low high range) ≡ None
unfolding tested
tested_low most n true high range l = cc
tested_low most n false high range l = refl

tested_high : (most n : ℕ) (low high : Bool) (range : low ≡ true → high ≡ true → IsInRange 1 most n) → high ≡ false → value_of (tested most n low high range) ≡ None
unfolding tested
tested_high most n true true range h = cc
tested_high most n true false range h = refl
tested_high most n false high range h = refl

in_range : (most n : ℕ) → leb 1 n ≡ true → leb n most ≡ true → IsInRange 1 most n
in_range most n least in_most = (leb-true 1 n least, leb-true n most in_most)

pub within_in : (most n : ℕ) → 1 ≤ n → n ≤ most → Some n ≡ value_of (within most n)
unfolding tested in_range
within_in most n least in_most = sym (tested_true most n (leb 1 n) (leb n most) (in_range most n) (le-leb 1 n least) (le-leb n most in_most))

within_low : (most n : ℕ) → n < 1 → None ≡ value_of (within most n)
unfolding tested in_range
within_low most n low = sym (tested_low most n (leb 1 n) (leb n most) (in_range most n) (lt-leb 1 n low))

within_high : (most n : ℕ) → most < n → None ≡ value_of (within most n)
unfolding tested in_range
within_high most n high = sym (tested_high most n (leb 1 n) (leb n most) (in_range most n) (lt-leb n most high))

-- ---- what `parse` reads

digits : IsDigitsTest (λ ds. list_all is_ascii_digit ds ≡ true)
digits = search rules

model : IsNumeralModel (λ ds. list_all is_ascii_digit ds ≡ true) (digits_value 10)
model = numerals_by_value _ digits

plain : (most : ℕ) (text : List ℕ) → list_all is_ascii_digit text ≡ true → 0 < length text → number most text ≡ within most (digits_value 10 text)
plain most [] all some = absurd (omega arith)
plain most (c ∷ cs) all some = rw all refl

-- digits that are no number of 64 bits
pub number_err : (most : ℕ) (text : List ℕ) → most < 2 ^ 64 → list_all is_ascii_digit text ≡ true → ParsesUnsigned {E = ℕ} 64 10 text (Err 0) → None ≡ value_of (number most text)
number_err most [] fits all read = refl
number_err most (c ∷ cs) fits all read = elim (cases_lt (digits_value 10 (c ∷ cs)) (2 ^ 64)) [
  | inl below ↦ absurd (parse_digits model {E = ℕ} 64 (c ∷ cs) (Err 0) read all (omega arith, below))
  | inr above ↦ within_high most (digits_value 10 (c ∷ cs)) (omega arith) ∙ ap value_of (sym (plain most (c ∷ cs) all (omega arith)))
]

-- the number of digits
number_is_within : (most : ℕ) (text : List ℕ) (n : ℕ) → list_all is_ascii_digit text ≡ true → ParsesUnsigned {E = ℕ} 64 10 text (Ok n) → number most text ≡ within most n
number_is_within most text n all read =
    let got = parse_digits model {E = ℕ} 64 text (Ok n) read all in
    plain most text all got.0.0 ∙ ap (within most) (sym got.1)

pub number_in : (most : ℕ) (text : List ℕ) (n : ℕ) → list_all is_ascii_digit text ≡ true → ParsesUnsigned {E = ℕ} 64 10 text (Ok n) → 1 ≤ n → n ≤ most → Some n ≡ value_of (number most text)
number_in most text n all read least in_most = within_in most n least in_most ∙ ap value_of (sym (number_is_within most text n all read))

pub number_out : (most : ℕ) (text : List ℕ) (n : ℕ) → list_all is_ascii_digit text ≡ true → ParsesUnsigned {E = ℕ} 64 10 text (Ok n) → (n < 1) ⊎ ((1 ≤ n) × (most < n)) → None ≡ value_of (number most text)
number_out most text n all read (inl low) = within_low most n low ∙ ap value_of (sym (number_is_within most text n all read))
number_out most text n all read (inr high) = within_high most n high.1 ∙ ap value_of (sym (number_is_within most text n all read))

-- ---- a number that is known

abbrev known : (most n : ℕ) → IsInRange 1 most n → Number most
known most n range = record { value = n; in_range = range }

range_prop : (most n : ℕ) (a b : IsInRange 1 most n) → a ≡ b
range_prop most n a b = ×_prop le_prop le_prop a b

same_number : (most v n : ℕ) → v ≡ n → (a : IsInRange 1 most v) (b : IsInRange 1 most n) → known most v a ≡ known most n b
same_number most v n e a =
    let P : ℕ → Type 0 = λ m. (b : IsInRange 1 most m) → known most v a ≡ known most m b in
    subst P e (λ b. ap (known most v) (range_prop most v a b))

-- a number is its value and any proof of its range
pub number_is : (most n : ℕ) (range : IsInRange 1 most n) (o : Option (Number most)) → value_of o ≡ Some n → o ≡ Some (record { value = n; in_range = range })
number_is most n range None h = cc
number_is most n range (Some x) h = let e : x.value ≡ n = cc in ap (λ (y : Number most). Some y) (same_number most x.value n e x.in_range range)
