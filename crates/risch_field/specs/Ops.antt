-- The operations on the elements of a field that contains the fractions. A sum, a product and a quotient may end with a stop.
use Rattle.std.specs.Prelude.{◌≡◌, ℕ, Bool}
use Rattle.risch_field.specs.Checked.{Checked}

pub record Ops (E : Type 0) : Type 0 where
  pub zero : E
  pub one : E
  -- n = 1 + .. + 1
  pub whole : ℕ → E
  pub is_zero : E → Bool
  pub is_one : E → Bool
  pub same : E → E → Bool
  pub weight : E → ℕ
  -- -a, a + b, a·b and a/b
  pub negative : E → E
  pub sum : E → E → Checked E
  pub product : E → E → Checked E
  pub quotient : E → E → Checked E

-- -e is 0 where e is, and has the weight of e
pub record KeepsNegatives {E : Type 0} (o : Ops E) : Type 0 where
  pub zero_kept : (e : E) → o.is_zero (o.negative e) ≡ o.is_zero e
  pub weight_kept : (e : E) → o.weight (o.negative e) ≡ o.weight e

-- the whole numbers 0 and 1 are the elements 0 and 1
pub record HasWholes {E : Type 0} (o : Ops E) : Type 0 where
  pub whole-zero : o.whole 0 ≡ o.zero
  pub whole-one : o.whole 1 ≡ o.one
