-- Liouville's form in the tower: f = Dv + c_1·Du_1/u_1 + .. + c_r·Du_r/u_r with v and u_j ≠ 0 in the tower and rational c_j.
use Rattle.std.specs.Prelude.{◌≡◌, List}
use Rattle.risch_mean.specs.Element.{Element, ◌+ₑ◌}
use Rattle.risch_mean.specs.Tower.{Tower, derive_in, InTower}
use Rattle.risch_mean.specs.Answer.{Logarithm, LogDerivative, SumOf}

-- part is v, logs are the c_j·log u_j, and derivative is the sum of their derivatives
pub record HasLiouvilleForm (tower : Tower) (f : Element) : Type 0 where
  pub part : Element
  pub part_in_tower : InTower tower part
  pub logs : List Logarithm
  pub derivative : Element
  pub logs_are : SumOf (LogDerivative tower) logs derivative
  pub is : f ≡ derive_in tower part +ₑ derivative
