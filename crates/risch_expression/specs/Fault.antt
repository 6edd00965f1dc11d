-- Where the bytes at hand do not fit a rule, and why.
use Rattle.std.specs.Prelude.{ℕ, ◌-◌, ◌^◌, ◌==◌, nat_lt, Bool, false, ◌&&◌, cond, Option, None, Some, List, [], ◌∷◌, length}
use Rattle.risch_expression.specs.Words.{Numeral, numeral}
use Rattle.risch_expression.specs.declared.fault.Cause.{Cause}
use Rattle.risch_expression.specs.declared.fault.Cause.TheVariants.{Byte, End, Wide, Deep}
use Rattle.risch_expression.specs.declared.fault.SyntaxFault.{SyntaxFault}

-- a cause at the front of the bytes; the place is told as how many bytes are left there
abbrev pub fault_at : List ℕ → Cause → SyntaxFault
fault_at bytes cause = record { left = length bytes; cause = cause }

-- the most that a number may be
abbrev pub most_number : ℕ
most_number = 2 ^ 127 - 1

-- whether a number above that stands there
abbrev pub is_wide : Option Numeral → Bool
is_wide None = false
is_wide (Some n) = nat_lt most_number n.value

-- Why the token at the front of the bytes fits no rule, where so many parentheses more may be open: the bytes end, a number is too wide anywhere, a parenthesis is one too many, or there is nothing else to say.
unfoldable pub unexpected_cause : ℕ → List ℕ → Cause
unexpected_cause open_left [] = End
unexpected_cause open_left (b ∷ bs) = cond (is_wide (numeral (b ∷ bs))) Wide (cond (b == 40 && open_left == 0) Deep Byte)

-- the fault of a token that fits no rule
abbrev pub unexpected : ℕ → List ℕ → SyntaxFault
unexpected open_left bytes = fault_at bytes (unexpected_cause open_left bytes)
