-- The value of a written expression: the element that its operations give, and none where something is divided by 0.
use Rattle.std.specs.Prelude.{ℕ, cond, pos}
use Rattle.std.proofs.Common.{Option, Some, None}
use Rattle.risch_mean.specs.Element.{Element, neg, ◌+ₑ◌, ◌-ₑ◌, ◌*ₑ◌, ◌/ₑ◌, integer, variable, is_zero_test}
use Rattle.risch_mean.specs.ElementField.{◌^ₑ◌}

-- what can be written
pub data Expression : Type 0 where
  number : ℕ → Expression
  -- variable 0 is x, variable i is ti
  name : ℕ → Expression
  negated : Expression → Expression
  sum : Expression → Expression → Expression
  difference : Expression → Expression → Expression
  product : Expression → Expression → Expression
  quotient : Expression → Expression → Expression
  power : Expression → ℕ → Expression

-- g of the value, where there is one
abbrev pub of_one : (Element → Element) → Option Element → Option Element
of_one g None = None
of_one g (Some f) = Some (g f)

-- h of both values, where there are both
abbrev pub of_two : (Element → Element → Option Element) → Option Element → Option Element → Option Element
of_two h None b = None
of_two h (Some f) None = None
of_two h (Some f) (Some g) = h f g

-- also a power with exponent 0 has no value where its base has none
abbrev pub written_value : Expression → Option Element
written_value (number n) = Some (integer (pos n))
written_value (name i) = Some (variable i)
written_value (negated a) = of_one neg (written_value a)
written_value (sum a b) = of_two (λ f g. Some (f +ₑ g)) (written_value a) (written_value b)
written_value (difference a b) = of_two (λ f g. Some (f -ₑ g)) (written_value a) (written_value b)
written_value (product a b) = of_two (λ f g. Some (f *ₑ g)) (written_value a) (written_value b)
written_value (quotient a b) = of_two (λ f g. cond (is_zero_test g) None (Some (f /ₑ g))) (written_value a) (written_value b)
written_value (power a n) = of_one (λ f. f ^ₑ n) (written_value a)
