-- Values of written expressions at closed terms.
use Rattle.std.specs.Prelude.{◌≡◌, refl}
use Rattle.std.proofs.Common.{Some, None, arith}
use Rattle.risch_mean.specs.Element.{one, ◌+ₑ◌, ◌/ₑ◌}
use Rattle.risch_mean.specs.ElementField.{◌^ₑ◌}
use Rattle.risch_mean.specs.Written.{written_value, number, name, sum, difference, quotient, power}
use Rattle.risch_mean.proofs.ExampleTerms.{computing, x, t1, whole}

-- (x + 1)^2/t1
written : written_value (quotient (power (sum (name 0) (number 1)) 2) (name 1)) ≡ Some ((x +ₑ whole 1) ^ₑ 2 /ₑ t1)
unfolding computing
written = refl

-- 0^0 = 1
zeroth_power : written_value (power (number 0) 0) ≡ Some one
unfolding computing
zeroth_power = refl

-- 1/(x - x) has no value, and so neither has (1/(x - x))^0
division_by_zero : written_value (quotient (number 1) (difference (name 0) (name 0))) ≡ None
unfolding computing
division_by_zero = refl

inside_a_power : written_value (power (quotient (number 1) (difference (name 0) (name 0))) 0) ≡ None
unfolding computing
inside_a_power = refl

not_one : ¬ (written_value (power (quotient (number 1) (difference (name 0) (name 0))) 0) ≡ Some one)
not_one h = grind (arith, inside_a_power, h)
