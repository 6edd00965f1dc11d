-- The written expressions: one definition for each rule of the grammar. A rule takes the bytes at hand, which begin past blanks. It gives the tree of the expression at their front and the
-- bytes behind it, or the first fault.
use Rattle.std.specs.Prelude.{ℕ, zero, suc, ◌==◌, ◌-◌, nat_le, nat_lt, Bool, false, ◌&&◌, cond, Option, None, Some, option_map, List, [], ◌∷◌, length, Result, Ok, Err}
use Rattle.std.specs.Option.{option_or, option_map_or}
use Rattle.risch_expression.specs.Words.{after_byte, Name, name, Numeral, numeral}
use Rattle.risch_expression.specs.Fault.{fault_at, most_number, unexpected}
use Rattle.risch_expression.specs.Results.{and_next}
use Rattle.risch_expression.specs.Tree.{Tree, number, variable, root, negated, sum, difference, product, quotient, power}
use Rattle.risch_expression.specs.declared.fault.Cause.{Cause}
use Rattle.risch_expression.specs.declared.fault.Cause.TheVariants.{Wide, Exponent, Name as UnknownName}
use Rattle.risch_expression.specs.declared.fault.SyntaxFault.{SyntaxFault}
use Rattle.risch_expression.specs.declared.names.Names.{Names}
use Rattle.risch_expression.specs.declared.program.Operation.{Operation}
use Rattle.risch_expression.specs.declared.program.Operation.TheVariants.{Sum, Difference, Product, Quotient}

-- what is read, or the first fault
abbrev pub Read : Type 0 → Type 0
Read A = Result A SyntaxFault

-- a tree, and the bytes behind it
pub record Parsed : Type 0 where
  pub tree : Tree
  pub rest : List ℕ

abbrev pub parsed : Tree → List ℕ → Read Parsed
parsed a bytes = Ok (record { tree = a; rest = bytes })

-- a rule of the grammar
abbrev pub Rule : Type 0
Rule = List ℕ → Read Parsed

-- ---- numbers and names
-- The numeral at the front of the bytes, if its value is at most this. Above it is this cause, and above 2^127 - 1 it is Wide.
abbrev pub limited : ℕ → Cause → List ℕ → Numeral → Read Numeral
limited most above bytes n =
    cond (nat_lt most_number n.value) (Err (fault_at bytes Wide)) (cond (nat_lt most n.value) (Err (fault_at bytes above)) (Ok n))

-- what is read of a numeral, where there is one
unfoldable pub number_found : ℕ → Cause → List ℕ → Option (Read Numeral)
number_found most above bytes = option_map (limited most above bytes) (numeral bytes)

-- the number that has to stand there, where so many parentheses more may be open
unfoldable pub wanted_number : ℕ → ℕ → Cause → List ℕ → Read Numeral
wanted_number open_left most above bytes = option_map_or (λ found. found) (number_found most above bytes) (Err (unexpected open_left bytes))

-- the variable that a name stands for: x is the variable 0, t1 to t9 are 1 to 9, as far as there are so many monomials
abbrev pub variable_named : ℕ → List ℕ → Option ℕ
variable_named monomials [] = None
variable_named monomials (b ∷ []) = cond (b == 120) (Some 0) None
variable_named monomials (b ∷ (d ∷ [])) = cond (b == 116 && ((nat_le 49 d && nat_le d 57) && nat_le (d - 48) monomials)) (Some (d - 48)) None
variable_named monomials (b ∷ (d ∷ (e ∷ es))) = None

abbrev pub is_z : List ℕ → Bool
is_z [] = false
is_z (b ∷ []) = b == 122
is_z (b ∷ (c ∷ cs)) = false

-- what a known name stands for
unfoldable pub named : Names → List ℕ → Option Tree
named names text = cond (names.with_z && is_z text) (Some root) (option_map variable (variable_named names.monomials text))

-- ---- an atom: a number of at most 2^127 - 1, a known name, or what stands in parentheses
abbrev pub number_atom : Numeral → Read Parsed
number_atom n = parsed (number n.value) n.rest

abbrev pub name_atom : Names → List ℕ → Name → Read Parsed
name_atom names bytes n = option_map_or (λ tree. parsed tree n.rest) (named names n.text) (Err (fault_at bytes UnknownName))

unfoldable pub atom : Names → Rule → Rule
atom names parenthesized bytes =
    option_map_or (λ found. and_next found number_atom) (number_found most_number Wide bytes)
    (option_map_or (name_atom names bytes) (name bytes) (parenthesized bytes))

-- ---- a power: an atom, or an atom, `^` and a number of at most 9999
abbrev pub raised : Tree → Numeral → Read Parsed
raised a n = parsed (power a n.value) n.rest

abbrev pub with_exponent : ℕ → Parsed → Option (List ℕ) → Read Parsed
with_exponent open_left p None = Ok p
with_exponent open_left p (Some rest) = and_next (wanted_number open_left 9999 Exponent rest) (raised p.tree)

unfoldable pub power_rule : ℕ → Rule → Rule
power_rule open_left base bytes = and_next (base bytes) (λ p. with_exponent open_left p (after_byte 94 p.rest))

-- ---- the sign of an operation, and the bytes behind it
pub record Sign : Type 0 where
  pub operation : Operation
  pub rest : List ℕ

abbrev pub signed : Operation → List ℕ → Sign
signed operation rest = record { operation = operation; rest = rest }

-- `*` or `/`
unfoldable pub product_sign : List ℕ → Option Sign
product_sign bytes = option_or (option_map (signed Product) (after_byte 42 bytes)) (option_map (signed (Quotient (length bytes))) (after_byte 47 bytes))

-- `+` or `-`
unfoldable pub sum_sign : List ℕ → Option Sign
sum_sign bytes = option_or (option_map (signed Sum) (after_byte 43 bytes)) (option_map (signed Difference) (after_byte 45 bytes))

abbrev pub joined : Operation → Tree → Tree → Tree
joined Sum a b = sum a b
joined Difference a b = difference a b
joined Product a b = product a b
joined (Quotient left) a b = quotient left a b

-- what is read so far, and any number of signs each with an operand, from the left. There are at most as many as bytes
abbrev pub joined_by_sign : Rule → (Parsed → Read Parsed) → Parsed → Option Sign → Read Parsed
joined_by_sign operand more p None = Ok p
joined_by_sign operand more p (Some s) = and_next (operand s.rest) (λ q. more (record { tree = joined s.operation p.tree q.tree; rest = q.rest }))

abbrev pub joined_by : (List ℕ → Option Sign) → Rule → ℕ → Parsed → Read Parsed
joined_by sign operand zero p = Ok p
joined_by sign operand (suc n) p = joined_by_sign operand (joined_by sign operand n) p (sign p.rest)

abbrev pub chain : (List ℕ → Option Sign) → Rule → Parsed → Read Parsed
chain sign operand p = joined_by sign operand (length p.rest) p

-- ---- a term: a power, then any number of `*` or `/` each with a power
unfoldable pub term_rule : Rule → Rule
term_rule factor bytes = and_next (factor bytes) (chain product_sign factor)

-- ---- a sum: an optional `-`, a term, then any number of `+` or `-` each with a term. The leading `-` negates the first term
abbrev pub opposite : Parsed → Read Parsed
opposite p = parsed (negated p.tree) p.rest

abbrev pub first_term : Rule → List ℕ → Option (List ℕ) → Read Parsed
first_term term bytes None = term bytes
first_term term bytes (Some rest) = and_next (term rest) opposite

unfoldable pub sum_rule : Rule → Rule
sum_rule term bytes = and_next (first_term term bytes (after_byte 45 bytes)) (chain sum_sign term)

-- ---- a sum in parentheses, where so many parentheses more may be open
abbrev pub closed : ℕ → Parsed → Read Parsed
closed open_left p = option_map_or (parsed p.tree) (after_byte 41 p.rest) (Err (unexpected open_left p.rest))

abbrev pub opened : ℕ → Rule → List ℕ → Read Parsed
opened open_left inside rest = and_next (inside rest) (closed open_left)

abbrev pub parenthesized : Names → ℕ → Rule
parenthesized names zero bytes = Err (unexpected zero bytes)
parenthesized names (suc n) bytes =
    option_map_or (opened n (sum_rule (term_rule (power_rule n (atom names (parenthesized names n)))))) (after_byte 40 bytes) (Err (unexpected (suc n) bytes))

-- ---- the rules where so many parentheses may be open
unfoldable pub atom_in : Names → ℕ → Rule
atom_in names open_left = atom names (parenthesized names open_left)

unfoldable pub power_in : Names → ℕ → Rule
power_in names open_left = power_rule open_left (atom_in names open_left)

unfoldable pub term_in : Names → ℕ → Rule
term_in names open_left = term_rule (power_in names open_left)

unfoldable pub sum_in : Names → ℕ → Rule
sum_in names open_left = sum_rule (term_in names open_left)

-- an expression: a sum with at most 64 parentheses open
unfoldable pub expression : Names → Rule
expression names = sum_in names 64
