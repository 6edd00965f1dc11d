-- The fractions as a field. No rule divides by 0; what stands there only makes the definition whole.
use Rattle.std.specs.Prelude.{pos, if◌then◌else◌, Ok, Err}
use Rattle.risch_frac.specs.Fraction as fraction
use Rattle.risch_frac.specs.Fraction.{Fraction}
use Rattle.risch_field.specs.Checked.{Checked}
use Rattle.risch_field.specs.Ops.{Ops}
use Rattle.risch_field.specs.declared.Fail.TheVariants.{Overflow}

-- the stop of an operation on numbers
abbrev pub overflowing : fraction.Checked Fraction → Checked Fraction
overflowing (Ok p) = Ok p
overflowing (Err op) = Err (Overflow op)

-- the field Q
abbrev pub ground : Ops Fraction
ground = record {
  zero = record { num = pos 0; den = 1 };
  one = record { num = pos 1; den = 1 };
  whole = λ n. record { num = pos n; den = 1 };
  is_zero = fraction.is_zero;
  is_one = fraction.is_one;
  same = fraction.same;
  weight = λ p. 1;
  negative = fraction.negative;
  sum = λ p q. overflowing (fraction.sum p q);
  product = λ p q. overflowing (fraction.product p q);
  quotient = λ p q. if fraction.is_zero q then Ok q else overflowing (fraction.ratio p q);
}
