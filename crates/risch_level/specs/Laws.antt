-- Laws of the operations at every level: what they keep of a negative, and the whole numbers 0 and 1.
use Rattle.std.specs.Prelude.{◌≡◌, ℕ, zero, suc, ◌+◌, refl}
use Rattle.std.proofs.Common.{ap}
use Rattle.risch_field.specs.Ops.{Ops, KeepsNegatives, HasWholes}
use Rattle.risch_polynomial.specs.Poly as poly
use Rattle.risch_polynomial.specs.Negatives.{weight-negatives}
use Rattle.risch_level.specs.Over as level
use Rattle.risch_level.specs.Levels.{field, element}
use Rattle.risch_field.specs.GroundLaws.{ground_keeps_negatives, ground_has_wholes}
use Rattle.risch_level.specs.declared.over.Over.{Over}
use Rattle.risch_level.specs.declared.over.Over.TheVariants.{Below, Quotient}

module _ {E : Type 0} (o : Ops E) where
  pub over_keeps_negatives : KeepsNegatives o → KeepsNegatives (level.over o)
  over_keeps_negatives k = record { zero_kept = zero_kept; weight_kept = weight_kept }
    where
      zero_kept : (e : Over E) → level.is_zero o (level.negative o e) ≡ level.is_zero o e
      zero_kept (Below e) = k.zero_kept e
      zero_kept (Quotient r) = refl

      weight_kept : (e : Over E) → level.weight o (level.negative o e) ≡ level.weight o e
      weight_kept (Below e) = k.weight_kept e
      weight_kept (Quotient r) = ap (λ w. w + poly.weight o r.1) (weight-negatives o k r.0)

  pub over_has_wholes : HasWholes o → HasWholes (level.over o)
  over_has_wholes h = record { whole-zero = ap Below h.whole-zero; whole-one = ap Below h.whole-one }

pub field_keeps_negatives : (height : ℕ) → KeepsNegatives (field height)
field_keeps_negatives zero = ground_keeps_negatives
field_keeps_negatives (suc height) = over_keeps_negatives (field height) (field_keeps_negatives height)

pub field_has_wholes : (height : ℕ) → HasWholes (field height)
field_has_wholes zero = ground_has_wholes
field_has_wholes (suc height) = over_has_wholes (field height) (field_has_wholes height)

pub element_keeps_negatives : KeepsNegatives element
unfolding element
element_keeps_negatives = field_keeps_negatives 5

pub element_has_wholes : HasWholes element
unfolding element
element_has_wholes = field_has_wholes 5
