-- The texts of faults of syntax and of refusals, with their places.
use Rattle.std.specs.Prelude.{ℕ, List, ◌++◌, codes, decimal}
use Rattle.risch_expression.specs.declared.fault.Cause.{Cause}
use Rattle.risch_expression.specs.declared.fault.Cause.TheVariants.{Byte, End, Wide, Exponent, Name, Deep, Trailing, Shape}
use Rattle.risch_text.specs.declared.fault.Refusal.{Refusal}
use Rattle.risch_text.specs.declared.fault.Refusal.TheVariants.{ZeroDivision, TooHigh, ZeroArgument, ConstantArgument}

-- why bytes do not fit the grammar
abbrev pub print_cause : Cause → List ℕ
print_cause Byte = codes "unexpected byte"
print_cause End = codes "unexpected end"
print_cause Wide = codes "number too wide"
print_cause Exponent = codes "exponent too wide"
print_cause Name = codes "unknown name"
print_cause Deep = codes "too deep"
print_cause Trailing = codes "trailing text"
print_cause Shape = codes "bad sum"

-- why a line has no value
abbrev pub print_refusal : Refusal → List ℕ
print_refusal ZeroDivision = codes "division by zero"
print_refusal TooHigh = codes "too high"
print_refusal ZeroArgument = codes "zero argument"
print_refusal ConstantArgument = codes "constant argument"

-- the cause at a place, which is the number of the bytes before it
abbrev pub print_syntax : ℕ → Cause → List ℕ
print_syntax at cause = codes "syntax at " ++ (decimal at ++ (codes ": " ++ print_cause cause))

abbrev pub print_refused : ℕ → Refusal → List ℕ
print_refused at cause = codes "refused at " ++ (decimal at ++ (codes ": " ++ print_refusal cause))
