-- Which texts are digits alone, and which are a variable with or without an exponent.
use Rattle.std.specs.Prelude.{ℕ, Bool, true, false, ◌&&◌, ◌||◌, ◌==◌, if◌then◌else◌, List, [], ◌∷◌}
use Rattle.std.specs.List.{list_all}
use Rattle.std.specs.Char.{is_ascii_digit}

-- one or more digits
abbrev pub is_digits : List ℕ → Bool
is_digits [] = false
is_digits (byte ∷ text) = is_ascii_digit byte && list_all is_ascii_digit text

-- what stands behind the digits at the front
abbrev pub after_digits : List ℕ → List ℕ
after_digits [] = []
after_digits (byte ∷ text) = if is_ascii_digit byte then after_digits text else byte ∷ text

-- nothing, or `^` and digits
abbrev pub is_exponent : List ℕ → Bool
is_exponent [] = true
is_exponent (byte ∷ text) = byte == 94 && is_digits text

-- digits, and behind them an exponent or nothing
abbrev pub is_numbered : List ℕ → Bool
is_numbered [] = false
is_numbered (byte ∷ text) = is_ascii_digit byte && is_exponent (after_digits text)

-- a variable with or without an exponent: `t` with its digits, `x` or `z`
unfoldable pub is_power : List ℕ → Bool
is_power [] = false
is_power (byte ∷ text) =
    if byte == 116 then is_numbered text else
    if byte == 120 || byte == 122 then is_exponent text else false
