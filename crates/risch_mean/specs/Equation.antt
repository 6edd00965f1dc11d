-- Risch differential equations with parameters: Dy + f·y = c_1·g_1 + .. + c_m·g_m over a field of the tower, for y in the field and rational c_1, .., c_m.
use Rattle.std.specs.Prelude.{◌≡◌, ℕ, ◌≤◌, List, [], ◌∷◌, length}
use Rattle.risch_mean.specs.Element.{Element, zero, ◌+ₑ◌, ◌*ₑ◌, level, InField, AllInField}
use Rattle.risch_mean.specs.Tower.{Tower, derive_in}
use Rattle.risch_mean.specs.Constants.{AllRational}

-- field is the number of variables of the field in which all lies, coefficient is f and columns are the g_j
pub record Equation : Type 0 where
  pub field : ℕ
  pub coefficient : Element
  pub columns : List Element

-- f and the g_j lie in the field
abbrev pub IsEquation : Equation → Type 0
IsEquation e = InField e.field e.coefficient × AllInField e.field e.columns

-- and this is a field of the tower
pub record IsEquationOf (tower : Tower) (e : Equation) : Type 0 where
  pub is_field : e.field ≤ level (length tower)
  pub coefficient_in : InField e.field e.coefficient
  pub columns_in : AllInField e.field e.columns

-- c_1·g_1 + .. + c_m·g_m
abbrev pub combined : List Element → List Element → Element
combined [] gs = zero
combined (c ∷ cs) [] = zero
combined (c ∷ cs) (g ∷ gs) = c *ₑ g +ₑ combined cs gs

-- Dy + f·y = c_1·g_1 + .. + c_m·g_m
pub record IsSolution (tower : Tower) (e : Equation) (cs : List Element) (y : Element) : Type 0 where
  pub as_many : length cs ≡ length e.columns
  pub rational : AllRational cs
  pub in_field : InField e.field y
  pub is : derive_in tower y +ₑ e.coefficient *ₑ y ≡ combined cs e.columns

-- c_1 = 0
abbrev pub FirstIsZero : List Element → Type 0
FirstIsZero [] = Unit {0}
FirstIsZero (c ∷ cs) = c ≡ zero

-- no element solves it: c_1 = 0 in each solution. As solutions may be scaled, no y and rational c_2, .., c_m give Dy + f·y = g_1 + c_2·g_2 + .. + c_m·g_m.
-- It is meant for equations with a column: without columns it holds of every equation
abbrev pub NoElementSolves : Tower → Equation → Type 0
NoElementSolves tower e = (cs : List Element) (y : Element) → IsSolution tower e cs y → FirstIsZero cs
