-- What the code takes off the front of the bytes at hand: what is found there is taken, and where nothing is found, or a fault, the bytes stay as they are.
use Rattle.std.specs.Prelude.{◌≡◌, ℕ, ◌≤◌, ◌<◌, ◌^◌, Bool, true, false, Option, None, Some, List, length, Result, Ok, Err}
use Rattle.risch_expression.specs.Words.{Name, Numeral, numeral}
use Rattle.risch_expression.specs.Fault.{is_wide}
use Rattle.risch_expression.specs.Grammar.{Read, Sign}
use Rattle.risch_expression.specs.declared.fault.SyntaxFault.{SyntaxFault}
use Rattle.risch_expression.specs.declared.program.Operation.{Operation}
use Rattle.risch_expression.specs.declared.words.Digits as front

abbrev pub Takes : Bool → Option (List ℕ) → List ℕ → List ℕ → Type 0
Takes true found old new = found ≡ Some new
Takes false found old new = (found ≡ None) × (new ≡ old)

abbrev pub TakesSign : Option Operation → Option Sign → List ℕ → List ℕ → Type 0
TakesSign (Some operation) found old new = found ≡ Some (record { operation = operation; rest = new })
TakesSign None found old new = (found ≡ None) × (new ≡ old)

abbrev pub TakesName : Option (List ℕ) → Option Name → List ℕ → List ℕ → Type 0
TakesName (Some text) found old new = found ≡ Some (record { text = text; rest = new })
TakesName None found old new = (found ≡ None) × (new ≡ old)

-- a number that may stand there
abbrev pub TakesNumber : Result (Option ℕ) SyntaxFault → Option (Read Numeral) → List ℕ → List ℕ → Type 0
TakesNumber (Ok (Some n)) found old new = found ≡ Some (Ok (record { value = n; rest = new }))
TakesNumber (Ok None) found old new = (found ≡ None) × (new ≡ old)
TakesNumber (Err fault) found old new = (found ≡ Some (Err fault)) × (new ≡ old)

-- a number that has to stand there
abbrev pub TakesWanted : Result ℕ SyntaxFault → Read Numeral → List ℕ → List ℕ → Type 0
TakesWanted (Ok n) rule old new = rule ≡ Ok (record { value = n; rest = new })
TakesWanted (Err fault) rule old new = (rule ≡ Err fault) × (new ≡ old)

-- a numeral that is no number too wide
pub record IsNumber (value : ℕ) (rest bytes : List ℕ) : Type 0 where
  pub is : numeral bytes ≡ Some (record { value = value; rest = rest })
  pub fits : value < 2 ^ 127
  pub short : length rest ≤ length bytes

-- what the bytes begin with
abbrev pub IsDigits : front.Digits → List ℕ → Type 0
IsDigits front.TheVariants.None bytes = numeral bytes ≡ None
IsDigits front.TheVariants.Wide bytes = is_wide (numeral bytes) ≡ true
IsDigits (front.TheVariants.Value value rest) bytes = IsNumber value rest.now bytes
