-- What the code reads is what the grammar gives.
use Rattle.std.specs.Prelude.{◌≡◌, ℕ, suc, ◌+◌, Bool, true, false, Option, None, Some, List, [], ◌∷◌, ◌++◌, ⊤, Result, Ok, Err}
use Rattle.std.specs.Option.{option_map_or}
use Rattle.risch_expression.specs.Words.{after_byte, name}
use Rattle.risch_expression.specs.Fault.{most_number, unexpected}
use Rattle.risch_expression.specs.Results.{and_next}
use Rattle.risch_expression.specs.Tree.{Tree, IsOver}
use Rattle.risch_expression.specs.Program.{steps}
use Rattle.risch_expression.specs.Grammar.{Read, Parsed, parsed, number_found, number_atom, name_atom, parenthesized}
use Rattle.risch_expression.specs.declared.fault.Cause.TheVariants.{Wide}
use Rattle.risch_expression.specs.declared.names.Names.{Names}
use Rattle.risch_expression.specs.declared.program.Step.{Step}
use Rattle.risch_expression.specs.declared.fault.ReadFault.{ReadFault}
use Rattle.risch_expression.specs.declared.fault.ReadFault.TheVariants.{Syntax, Memory}

-- An expression is parsed: its steps are appended to the program, and the rest of the bytes is at hand.
pub record IsParsed (rule : Read Parsed) (program_old program_new : List Step) (rest : List ℕ) : Type 0 where
  pub tree : Tree
  pub is : rule ≡ parsed tree rest
  pub written : program_new ≡ program_old ++ steps tree

-- and it is an expression over these names
pub record IsParsedOver (names : Names) (rule : Read Parsed) (program_old program_new : List Step) (rest : List ℕ) : Type 0 where
  pub tree : Tree
  pub is : rule ≡ parsed tree rest
  pub written : program_new ≡ program_old ++ steps tree
  pub over : IsOver (names.monomials + 1) names.with_z tree

-- a fault that is not want of memory is the rule's
abbrev pub IsFaultOf : {A : Type 0} → ReadFault → Read A → Type 0
IsFaultOf (Syntax fault) rule = rule ≡ Err fault
IsFaultOf Memory rule = Unit {0}

-- the step of what a name stands for
abbrev pub IsStepOf : Option Step → Option Tree → Type 0
IsStepOf None tree = tree ≡ None
IsStepOf (Some step) None = ⊥
IsStepOf (Some step) (Some tree) = steps tree ≡ step ∷ []

-- ---- the answer of a call that reads: what is parsed, or the fault
abbrev pub Reads : Result ⊤ ReadFault → Read Parsed → List Step → List Step → List ℕ → Type 0
Reads (Ok u) rule program_old program_new rest = IsParsed rule program_old program_new rest
Reads (Err fault) rule program_old program_new rest = IsFaultOf fault rule

-- the same of a call that may find nothing, and then takes and writes nothing: what is read instead is then the rule's
abbrev pub ReadsOr : Result Bool ReadFault → (Read Parsed → Read Parsed) → List Step → List Step → List ℕ → List ℕ → Type 0
ReadsOr (Ok true) rule program_old program_new bytes rest = (other : Read Parsed) → IsParsed (rule other) program_old program_new rest
ReadsOr (Ok false) rule program_old program_new bytes rest = ((other : Read Parsed) → rule other ≡ other) × ((program_new ≡ program_old) × (rest ≡ bytes))
ReadsOr (Err fault) rule program_old program_new bytes rest = (other : Read Parsed) → IsFaultOf fault (rule other)

-- a name at the front of the bytes, or else this
abbrev pub name_or : Names → List ℕ → Read Parsed → Read Parsed
name_or names bytes other = option_map_or (name_atom names bytes) (name bytes) other

-- a number or a name at the front of the bytes, or else this
abbrev pub number_or : Names → List ℕ → Read Parsed → Read Parsed
number_or names bytes other = option_map_or (λ found. and_next found number_atom) (number_found most_number Wide bytes) (name_or names bytes other)

-- `(`, where at most so many parentheses may be open: how many more may be open behind it
abbrev pub ReadsOpening : Result ℕ ReadFault → ℕ → List ℕ → List ℕ → Type 0
ReadsOpening (Ok inside) open_left bytes rest = (open_left ≡ suc inside) × (after_byte 40 bytes ≡ Some rest)
ReadsOpening (Err fault) open_left bytes rest = (names : Names) → IsFaultOf fault (parenthesized names open_left bytes)

-- `)`, where so many parentheses more may be open
abbrev pub ReadsClosing : Result ⊤ ReadFault → ℕ → List ℕ → List ℕ → Type 0
ReadsClosing (Ok u) open_left bytes rest = after_byte 41 bytes ≡ Some rest
ReadsClosing (Err fault) open_left bytes rest = (after_byte 41 bytes ≡ None) × (fault ≡ Syntax (unexpected open_left bytes))
