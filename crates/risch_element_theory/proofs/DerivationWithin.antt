-- The rule of the derivation leads to no new variable, and an element stands for one of the field of the variables that occur in it.
--     derive-within      where the variables of e are among the first n, those of De are
--     within-lies      where they are, ⟦e⟧ lies in the field of the first n variables
use Rattle.std.proofs.Common.{◌≡◌, ℕ, zero, suc, Ok, arith, subst}
use Rattle.risch_mean.specs.Element.{InField}
use Rattle.risch_mean.proofs.FieldClosure.{InField_more}
use Rattle.risch_level.specs.Levels.{Field}
use Rattle.risch_level.specs.declared.over.Over.TheVariants.{Below, Quotient}
use Rattle.risch_derivation.specs.Derivation.{Rates, derive}
use Rattle.risch_element_theory.specs.LevelMeaning.{valid_at, meaning_at}
use Rattle.risch_element_theory.specs.WholeTower.{WithinAt}
use Rattle.risch_element_theory.proofs.ElementWithin.{all-within, is_below}
use Rattle.risch_element_theory.proofs.Levels.{level_lies}

pub derive-within : (height n : ℕ) (rates : Rates height) (e f : Field height) → WithinAt height n e → derive height rates e ≡ Ok f → WithinAt height n f
derive-within zero n rates e f w is = tt
derive-within (suc height) n rates (Below e) f w is =
    let s = is_below (derive height rates.0 e) f is in
    subst (WithinAt (suc height) n) s.same (derive-within height n rates.0 e s.value w s.is)
derive-within (suc height) n rates (Quotient r) f w is = all-within (suc height) n (omega arith) f

pub within-lies : (height n : ℕ) (e : Field height) → valid_at height e → WithinAt height n e → InField n (meaning_at height e)
within-lies zero n e v w = InField_more 0 n (meaning_at zero e) (omega arith) (level_lies zero e v)
within-lies (suc height) n (Below e) v w = within-lies height n e v w
within-lies (suc height) n (Quotient r) v w = InField_more (suc height) n (meaning_at (suc height) (Quotient r)) (omega arith) (level_lies (suc height) (Quotient r) v)
