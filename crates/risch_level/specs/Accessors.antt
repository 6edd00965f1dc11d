-- The parts of an element of the field of some height: its level, and its value where it is a fraction.
use Rattle.std.specs.Prelude.{ℕ, zero, suc, Option, None, Some, nat_eq, if◌then◌else◌, [], ◌∷◌}
use Rattle.risch_frac.specs.Fraction.{Fraction}
use Rattle.risch_field.specs.Ops.{Ops}
use Rattle.risch_field.specs.Ground.{ground}
use Rattle.risch_level.specs.Levels.{Field, field}
use Rattle.risch_level.specs.declared.over.Over.{Over}
use Rattle.risch_level.specs.declared.over.Over.TheVariants.{Below, Quotient}

-- the fraction q as an element
abbrev pub number : (height : ℕ) → Fraction → Field height
number zero q = q
number (suc height) q = Below (number height q)

-- the fraction that the element is, where it is one
abbrev pub as_number : (height : ℕ) → Field height → Option Fraction
as_number zero q = Some q
as_number (suc height) (Below e) = as_number height e
as_number (suc height) (Quotient r) = None

-- the level of the element; a fraction has none
abbrev pub level : (height : ℕ) → Field height → Option ℕ
level zero q = None
level (suc height) (Below e) = level height e
level (suc height) (Quotient r) = Some height

-- t, the variable of the level over a field
abbrev pub own_variable : {E : Type 0} → Ops E → Over E
own_variable o = Quotient (o.zero ∷ o.one ∷ [], o.one ∷ [])

-- the variable of a level of the field, and 0 for a level that the field has not
abbrev pub variable : (height : ℕ) → ℕ → Field height
variable zero l = ground.zero
variable (suc height) l = if nat_eq l height then own_variable (field height) else Below (variable height l)
