-- The level of an element is that of the highest variable that occurs in it.
use Rattle.std.specs.Prelude.{◌↔◌}
use Rattle.std.proofs.Common.{ℕ, zero, suc}
use Rattle.risch_level.specs.Accessors.{level}
use Rattle.risch_level.specs.Levels.{Field, Element}
use Rattle.risch_level.specs.declared.over.Over.TheVariants.{Below, Quotient}
use Rattle.risch_element_theory.specs.WholeTower.{WithinAt, Within}
use Rattle.risch_elem.specs.Accessors.{IsBelow}

field_level_is_within : (height n : ℕ) (e : Field height) → WithinAt height n e ↔ IsBelow (level height e) n
field_level_is_within zero n e = (λ w. tt, λ b. tt)
field_level_is_within (suc height) n (Below e) = field_level_is_within height n e
field_level_is_within (suc height) n (Quotient r) = (λ w. w, λ b. b)

pub level_is_within : (n : ℕ) (e : Element) → Within n e ↔ IsBelow (level 5 e) n
unfolding Within
level_is_within n e = field_level_is_within 5 n e
