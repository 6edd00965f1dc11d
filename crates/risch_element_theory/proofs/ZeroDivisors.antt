-- The value that stands for a quotient by 0, for which no rule asks, is a valid element too.
use Rattle.std.proofs.Common.{◌≡◌, ℕ, zero, suc, true, false, Bool, Ok, subst}
use Rattle.std.specs.Prelude.{if◌then◌else◌}
use Rattle.risch_frac.specs.Fraction as fraction
use Rattle.risch_frac.specs.Fraction.{Fraction, IsLowest}
use Rattle.risch_field.specs.Checked.{Checked}
use Rattle.risch_field.proofs.CheckedSteps.{and_then-ok}
use Rattle.risch_level.specs.Levels.{Field, field}
use Rattle.risch_level.specs.Over as level
use Rattle.risch_level.specs.declared.over.Over.TheVariants.{Below, Quotient}
use Rattle.risch_mean.specs.ElementField.{elements}
use Rattle.risch_element_theory.specs.LevelMeaning.{valid_at}
use Rattle.risch_element_theory.proofs.ElementsSums.{map-below}
use Rattle.risch_element_theory.proofs.Levels.{level_means, level_below}

ground-by_zero : (q c : Fraction) (z : Bool) (rule : Checked Fraction) → IsLowest q → z ≡ true → (if z then Ok q else rule) ≡ Ok c → IsLowest c
ground-by_zero q c true rule l h e = let same : q ≡ c = cc in subst IsLowest same l
ground-by_zero q c false rule l h e = cc

pub quotient_by_zero-valid : (height : ℕ) (a b c : Field height) → valid_at height a → valid_at height b → (field height).is_zero b ≡ true →
    (field height).quotient a b ≡ Ok c → valid_at height c
unfolding level.inverse_product
quotient_by_zero-valid zero a b c v w h e = ground-by_zero b c (fraction.is_zero b) _ w h e
quotient_by_zero-valid (suc n) (Below a) (Below b) c v w h e =
    let d = map-below elements (level_below n) ((field n).quotient a b) c e in
    subst (valid_at (suc n)) d.2 (quotient_by_zero-valid n a b d.0 v w h d.1)
quotient_by_zero-valid (suc n) (Quotient r) (Below b) c v w h e =
    let inverted = and_then-ok (level.inverse (field n) (Below b)) (λ g. level.product (field n) (Quotient r) g) c e in
    let d = map-below elements (level_below n) ((field n).quotient (field n).one b) inverted.value inverted.is in
    let inverse-valid : valid_at (suc n) inverted.value =
    subst (valid_at (suc n)) d.2 (quotient_by_zero-valid n (field n).one b d.0 (level_means n).one-valid w h d.1) in
    (level_means (suc n)).product-valid (Quotient r) inverted.value c v inverse-valid inverted.next
quotient_by_zero-valid (suc n) a (Quotient s) c v w h e = cc
