-- The numerator and the denominator of an element of the field of some height, at one of its levels.
use Rattle.std.specs.Prelude.{ℕ, zero, suc, ◌-◌, nat_eq, if◌then◌else◌, List, [], ◌∷◌}
use Rattle.risch_frac.specs.Fraction.{Fraction}
use Rattle.risch_field.specs.Ops.{Ops}
use Rattle.risch_field.specs.Ground.{ground}
use Rattle.risch_level.specs.Over.{over}
use Rattle.risch_level.specs.Levels.{Field, field}
use Rattle.risch_level.specs.Tower as tower
use Rattle.risch_level.specs.Tower.{Levels}
use Rattle.risch_level.specs.declared.over.Over.{Over}
use Rattle.risch_level.specs.declared.over.Over.TheVariants.{Below, Quotient}

-- a fraction has the denominator 1
abbrev pub ground_denominator : ℕ → Fraction → List Fraction
ground_denominator down e = ground.one ∷ []

module _ {E : Type 0} (o : Ops E) where
  -- the denominator at the level itself
  abbrev pub own_denominator : Over E → List (Over E)
  own_denominator (Below e) = (over o).one ∷ []
  own_denominator (Quotient r) = tower.lifted o r.1

  -- the denominator at the level, or at one below
  abbrev pub denominator_at : (ℕ → E → List E) → ℕ → Over E → List (Over E)
  denominator_at below down e =
      if nat_eq down 0 then own_denominator e else tower.lifted o (below (down - 1) (tower.lowered_element o e))

-- numerators and quotients in the field of this height
abbrev pub levels : (height : ℕ) → Levels (Field height)
levels zero = tower.ground_levels
levels (suc height) = tower.levels_over (field height) (levels height)

-- denominators there
abbrev pub denominator : (height : ℕ) → ℕ → Field height → List (Field height)
denominator zero = ground_denominator
denominator (suc height) = denominator_at (field height) (denominator height)
