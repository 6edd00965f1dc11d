-- Steps of the rule of the derivative of an integral.
use Rattle.std.proofs.Common.{◌≡◌, refl, sym, ap, ◌∙◌, ℕ, ◌+◌, ◌<◌, ◌≤◌, true, List, [], ◌∷◌, get_or, drop, length, Ok}
use Rattle.std.proofs.lemmas.List.{drop_more, drop_all}
use Rattle.risch_field.specs.Checked.{Checked, and_then, IsStopOf}
use Rattle.risch_field.specs.declared.Fail.{Fail}
use Rattle.risch_field.proofs.CheckedSteps.{stop_passes}
use Rattle.risch_level.specs.Levels.{Element, element}
use Rattle.risch_rootsum.specs.Derivative.{is_linear, factor, argument, log_derivative, part_derivative, derivatives_from}
use Rattle.risch_rootsum.specs.declared.integral.LogPart.{LogPart}

-- the parts from a place on
pub next-part : (items logs : List LogPart) (i : ℕ) (l : LogPart) → items ≡ logs → i < length items → l ≡ get_or items i l → drop i logs ≡ l ∷ drop (i + 1) logs
next-part items logs i l same below read =
    ap (drop i) (sym same) ∙ drop_more items i l below ∙ ap (λ (x : LogPart). x ∷ drop (i + 1) items) (sym read) ∙ ap (λ (ls : List LogPart). l ∷ drop (i + 1) ls) same

pub no-part : (items logs : List LogPart) (i : ℕ) → items ≡ logs → length items ≤ i → drop i logs ≡ []
no-part items logs i same past = ap (drop i) (sym same) ∙ drop_all i items past

module _ (D : Element → Checked Element) where
  -- the derivative of a logarithm
  pub part-linear : (l : LogPart) → is_linear l ≡ true → part_derivative D l ≡ log_derivative D (factor l) (argument l)
  part-linear l e = rw e refl

  -- one part more
  pub derivatives-more : (total : Element) (l : LogPart) (logs : List LogPart) (d s : Element) → part_derivative D l ≡ Ok d → element.sum total d ≡ Ok s →
      derivatives_from D total (l ∷ logs) ≡ derivatives_from D s logs
  derivatives-more total l logs d s e f = rw (e, f) refl

  pub derivatives-stop : (stop : Fail) (total : Element) (l : LogPart) (logs : List LogPart) → IsStopOf stop (part_derivative D l) → IsStopOf stop (derivatives_from D total (l ∷ logs))
  derivatives-stop stop total l logs e = stop_passes stop (part_derivative D l) (λ d. and_then (element.sum total d) (λ s. derivatives_from D s logs)) e

  pub derivatives-sum_stops : (stop : Fail) (total : Element) (l : LogPart) (logs : List LogPart) (d : Element) → part_derivative D l ≡ Ok d → IsStopOf stop (element.sum total d) →
      IsStopOf stop (derivatives_from D total (l ∷ logs))
  derivatives-sum_stops stop total l logs d e f = rw e (stop_passes stop (element.sum total d) (λ s. derivatives_from D s logs) f)
