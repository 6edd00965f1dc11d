-- The tower's fields by their height: the fractions, and then one level after another.
use Rattle.std.specs.Prelude.{ℕ, zero, suc}
use Rattle.risch_frac.specs.Fraction.{Fraction}
use Rattle.risch_field.specs.Ops.{Ops}
use Rattle.risch_field.specs.Ground.{ground}
use Rattle.risch_level.specs.Over.{over}
use Rattle.risch_level.specs.declared.over.Over.{Over}

-- the elements of the field of this height: of height 0 the fractions, of height 1 those of level 0
abbrev pub Field : ℕ → Type 0
Field zero = Fraction
Field (suc height) = Over (Field height)

-- their operations, level by level
abbrev pub field : (height : ℕ) → Ops (Field height)
field zero = ground
field (suc height) = over (field height)

-- the elements of the whole tower, x and four monomials
abbrev pub Element : Type 0
Element = Field 5

-- their operations; a proof that needs the levels opens them
unfoldable pub element : Ops Element
element = field 5
