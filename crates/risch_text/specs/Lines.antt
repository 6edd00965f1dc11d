-- The lines of a file: the bytes at hand and their line, the lines that are passed over, and what has to stand in a line.
use Rattle.std.specs.Prelude.{ℕ, ◌+◌, ◌≤◌, ◌^◌, ◌==◌, Bool, true, false, ◌||◌, cond, Option, None, Some, option_map, List, [], ◌∷◌, length, Ok, Err}
use Rattle.risch_frac.specs.Fraction.{Fraction, whole}
use Rattle.std.specs.Option.{option_map_or}
use Rattle.risch_expression.specs.Words.{is_blank, after_byte, after_word, Name, name, Numeral}
use Rattle.risch_expression.specs.Fault.{fault_at, most_number, unexpected}
use Rattle.risch_expression.specs.Results.{and_next, map_value}
use Rattle.risch_expression.specs.Tree.{Tree}
use Rattle.risch_expression.specs.Grammar.{Read, variable_named, wanted_number, expression}
use Rattle.risch_expression.specs.declared.fault.Cause.TheVariants.{Wide, Name as UnknownName, Trailing}
use Rattle.risch_expression.specs.declared.fault.SyntaxFault.{SyntaxFault}
use Rattle.risch_expression.specs.declared.names.Names.{Names}

-- The bytes at hand, which begin past blanks; the number of their line, all lines counted from 1; and how many bytes were left at the first byte of that line.
pub record Front : Type 0 where
  pub rest : List ℕ
  pub line : ℕ
  pub start : ℕ

-- the front in the same line at which these bytes are left
abbrev pub moved : Front → List ℕ → Front
moved front rest = record front { rest = rest }

-- ---- lines that are passed over
-- The front at the first token from these bytes on, past blank lines and comments. A comment is a line whose first byte past blanks is `#`; `in_comment` says that the bytes are in one.
unfoldable pub after_lines : Bool → ℕ → ℕ → List ℕ → Front
after_lines in_comment line start [] = record { rest = []; line = line; start = start }
after_lines in_comment line start (b ∷ bs) =
    cond (b == 10) (after_lines false (line + 1) (length bs) bs)
    (cond (in_comment || is_blank b bs) (after_lines in_comment line start bs)
    (cond (b == 35) (after_lines true line start bs) (record { rest = b ∷ bs; line = line; start = start })))

-- the front at the first token from the first byte of a line on
unfoldable pub from_line : ℕ → List ℕ → Front
from_line line bytes = after_lines false line (length bytes) bytes

-- ---- what stands at the front
-- the front behind this word, or this byte, where it stands there
unfoldable pub behind_word : List ℕ → Front → Option Front
behind_word word front = option_map (moved front) (after_word word front.rest)

unfoldable pub behind_byte : ℕ → Front → Option Front
behind_byte byte front = option_map (moved front) (after_byte byte front.rest)

-- the fault of a token that fits no rule of lines; there 64 parentheses more may be open
abbrev pub unexpected_at : Front → SyntaxFault
unexpected_at front = unexpected 64 front.rest

-- what has to stand there
abbrev pub wanted : Front → Option Front → Read Front
wanted front None = Err (unexpected_at front)
wanted front (Some behind) = Ok behind

-- a word, or a byte, that has to stand there
unfoldable pub fixed : List ℕ → Front → Read Front
fixed word front = wanted front (behind_word word front)

unfoldable pub symbol : ℕ → Front → Read Front
symbol byte front = wanted front (behind_byte byte front)

-- the end of the line, which has to stand there: the end of the file, or byte 10, behind which the next line begins
abbrev pub ended_by : Front → List ℕ → Read Front
ended_by front [] = Ok front
ended_by front (b ∷ bs) = cond (b == 10) (Ok (from_line (front.line + 1) bs)) (Err (unexpected_at front))

unfoldable pub line_end : Front → Read Front
line_end front = ended_by front front.rest

-- ---- values that are read
-- a value, and the front behind it
pub record Reached (A : Type 0) : Type 0 where
  pub value : A
  pub front : Front

abbrev pub reached : {A : Type 0} → A → Front → Reached A
reached a front = record { value = a; front = front }

-- a rule for what stands at the front
abbrev pub LineRule : Type 0 → Type 0
LineRule A = Front → Read (Reached A)

-- a value, if the line ends behind it
abbrev pub to_line_end : {A : Type 0} → A → LineRule A
to_line_end a front = and_next (line_end front) (λ next. Ok (reached a next))

-- a number of at most 2^127 - 1
unfoldable pub number_of : LineRule Fraction
number_of front = map_value (λ n. reached (whole n.value) (moved front n.rest)) (wanted_number 64 most_number Wide front.rest)

-- a number of at most 65,535
unfoldable pub small_number_of : LineRule ℕ
small_number_of front = map_value (λ n. reached n.value (moved front n.rest)) (wanted_number 64 65535 Wide front.rest)

-- the number of the variable that a name stands for, over x and so many monomials; another name is not known
abbrev pub known_variable : ℕ → List ℕ → Name → Read Numeral
known_variable monomials bytes found =
    option_map_or (λ level. Ok (record { value = level; rest = found.rest })) (variable_named monomials found.text) (Err (fault_at bytes UnknownName))

-- the variable that has to be named there
unfoldable pub wanted_variable : ℕ → List ℕ → Read Numeral
wanted_variable monomials bytes = option_map_or (known_variable monomials bytes) (name bytes) (Err (unexpected 64 bytes))

unfoldable pub variable_of : ℕ → LineRule ℕ
variable_of monomials front = map_value (λ v. reached v.value (moved front v.rest)) (wanted_variable monomials front.rest)

-- an expression over these names
unfoldable pub sum_of : Names → LineRule Tree
sum_of names front = and_next (expression names front.rest) (λ p. Ok (reached p.tree (moved front p.rest)))

-- a line of this word alone
unfoldable pub bare_line : List ℕ → Front → Read Front
bare_line word front = and_next (fixed word front) line_end

-- a line of this word and an expression
unfoldable pub expression_line : List ℕ → Names → LineRule Tree
expression_line word names front =
    and_next (fixed word front) (λ behind.
    and_next (sum_of names behind) (λ sum.
    to_line_end sum.value sum.front))

-- ---- the end of the file
-- nothing more may stand there
abbrev pub nothing_by : Front → List ℕ → Read Front
nothing_by front [] = Ok front
nothing_by front (b ∷ bs) = Err (fault_at front.rest Trailing)

unfoldable pub nothing : Front → Read Front
nothing front = nothing_by front front.rest

-- a value, if nothing stands behind it
abbrev pub finished : {A : Type 0} → Reached A → Read A
finished r = and_next (nothing r.front) (λ end. Ok r.value)

-- ---- the front lies in a file of fewer than 2^32 bytes
unfoldable pub InFile : Front → Type 0
InFile front = front.line + length front.rest ≤ 2 ^ 32
