-- The numbers that stand among the words.
use Rattle.std.proofs.Common.{leb-true}
use Rattle.std.specs.Char.{is_ascii_digit}
use Rattle.std.specs.Int.{IsInRange}
use Rattle.std.specs.List.{list_all}
use Rattle.std.specs.Prelude.{◌≡◌, ℕ, Bool, true, false, nat_le, cond, List, [], ◌∷◌, Option, Some, None, refl}
use Rattle.std.specs.Str.Parse.{digits_value}

-- a number from 1 to most
pub record Number (most : ℕ) : Type 0 where
  pub value : ℕ
  pub in_range : IsInRange 1 most value

-- what comes of a fact, where the test says that it holds
abbrev pub when : {A : Type 0} (test : Bool) → (test ≡ true → Option A) → Option A
when true f = f refl
when false f = None

-- n, if it lies in the range
abbrev pub within : (most n : ℕ) → Option (Number most)
within most n = when (nat_le 1 n) (λ least. when (nat_le n most) (λ in_most. Some (record {
  value = n;
  in_range = (leb-true 1 n least, leb-true n most in_most);
})))

-- one or more digits 0 to 9
abbrev pub is_numeral : List ℕ → Bool
is_numeral [] = false
is_numeral (c ∷ cs) = list_all is_ascii_digit (c ∷ cs)

-- the number that the text writes, in digits alone, if it lies in the range
abbrev pub number : (most : ℕ) → List ℕ → Option (Number most)
number most text = cond (is_numeral text) (within most (digits_value 10 text)) None

-- the number of a text, or the default where there is none
abbrev pub number_or : (default most : ℕ) → Option (List ℕ) → Option (Number most)
number_or default most None = within most default
number_or default most (Some text) = number most text
