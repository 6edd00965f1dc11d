-- The steps of Newton's identities.
use Rattle.std.proofs.Common.{◌≡◌, ℕ, zero, suc, ◌+◌, ◌-◌, ◌<◌, ◌≤◌, Bool, not, true, false, leb, min, List, [], ◌∷◌, ◌++◌, length, drop, get_or, Result, Ok, refl, sym, ap, ◌∙◌, append_assoc, append-nil, arith}
use Rattle.std.specs.Result.{IsErrAnd}
use Rattle.std.proofs.lemmas.List.{drop_more, drop_all}
use Rattle.std.proofs.lemmas.Result.{err_from_is_err_and}
use Rattle.std.proofs.lemmas.Bool.{leb-true, leb-false}
use Rattle.risch_field.specs.Checked.{Checked, and_then, Agrees, IsStopOf}
use Rattle.risch_field.specs.declared.Fail.{Fail}
use Rattle.risch_field.proofs.CheckedSteps.{stop_passes}
use Rattle.risch_polynomial.specs.Poly as poly
use Rattle.risch_level.specs.Levels.{Element, element}
use Rattle.risch_logarithm_rules.specs.Newton.{alternating_sum, next_symmetric, symmetrics_from, alternating}

-- ---- the alternating sum
module _ (es ps : List Element) (j : ℕ) (minus : Bool) (total : Element) where
  -- one of the lists is at its end
  sum_done : length es ≤ j → alternating_sum minus total (drop j es) (drop j ps) ≡ Ok total
  sum_done h = rw (drop_all j es h) refl

  traces_done : length ps ≤ j → alternating_sum minus total (drop j es) (drop j ps) ≡ Ok total
  traces_done h = rw (drop_all j ps h) (by_case (drop j es))
    where
      by_case : (l : List Element) → alternating_sum minus total l [] ≡ Ok total
      by_case [] = refl
      by_case (e ∷ l) = refl

  -- both are read up to the end of the shorter one
  pub sum_end : j ≡ min (length es) (length ps) → alternating_sum minus total (drop j es) (drop j ps) ≡ Ok total
  sum_end h = by_order (leb (length es) (length ps)) refl
    where
      by_order : (t : Bool) → leb (length es) (length ps) ≡ t → alternating_sum minus total (drop j es) (drop j ps) ≡ Ok total
      by_order true e = let le = leb-true (length es) (length ps) e in sum_done (omega arith)
      by_order false e = let lt = leb-false (length es) (length ps) e in traces_done (omega arith)

  module _ (e p : Element) (below : j < length es) (small : j < length ps) (is_e : e ≡ get_or es j e) (is_p : p ≡ get_or ps j p) where
    sum_step : alternating_sum minus total (drop j es) (drop j ps)
        ≡ and_then (element.product (poly.signed element minus e) p) (λ m. and_then (element.sum total m) (λ s. alternating_sum (not minus) s (drop (j + 1) es) (drop (j + 1) ps)))
    sum_step = rw (drop_more es j e below, drop_more ps j p small, ← is_e, ← is_p) refl

    pub sum_more : (m s : Element) → element.product (poly.signed element minus e) p ≡ Ok m → element.sum total m ≡ Ok s →
        alternating_sum minus total (drop j es) (drop j ps) ≡ alternating_sum (not minus) s (drop (j + 1) es) (drop (j + 1) ps)
    sum_more m s f g = sum_step ∙ rw (f, g) refl

    pub product_stops : (stop : Fail) → IsStopOf stop (element.product (poly.signed element minus e) p) → IsStopOf stop (alternating_sum minus total (drop j es) (drop j ps))
    product_stops stop f = rw sum_step
        (stop_passes stop (element.product (poly.signed element minus e) p) (λ m. and_then (element.sum total m) (λ s. alternating_sum (not minus) s (drop (j + 1) es) (drop (j + 1) ps))) f)

    pub sum_stops : (stop : Fail) (m : Element) → element.product (poly.signed element minus e) p ≡ Ok m → IsStopOf stop (element.sum total m) →
        IsStopOf stop (alternating_sum minus total (drop j es) (drop j ps))
    sum_stops stop m f g = rw (sum_step, f) (stop_passes stop (element.sum total m) (λ s. alternating_sum (not minus) s (drop (j + 1) es) (drop (j + 1) ps)) g)

-- ---- the elementary symmetric functions
module _ (es ps : List Element) where
  pub symmetrics-more : (steps : ℕ) (e : Element) → 0 < steps → next_symmetric es ps ≡ Ok e → symmetrics_from steps es ps ≡ symmetrics_from (steps - 1) (es ++ e ∷ []) ps
  symmetrics-more zero e some f = absurd (omega arith)
  symmetrics-more (suc steps) e some f =
      let less : suc steps - 1 ≡ steps = omega arith in
      rw (less, f) refl

  symmetric_stops : (stop : Fail) (steps : ℕ) → 0 < steps → IsStopOf stop (next_symmetric es ps) → IsStopOf stop (symmetrics_from steps es ps)
  symmetric_stops stop zero some f = absurd (omega arith)
  symmetric_stops stop (suc steps) some f = stop_passes stop (next_symmetric es ps) (λ e. symmetrics_from steps (es ++ e ∷ []) ps) f

  pub next_stops : (n i : ℕ) {rule : Checked (List Element)} → rule ≡ symmetrics_from (n - i) es ps → i < n → (stop : Fail) (result : Result (List Element) Fail) → IsStopOf stop (next_symmetric es ps) →
      IsErrAnd result (λ s. s ≡ stop) → Agrees result rule
  next_stops n i so_far below stop result e is_err =
      let s = err_from_is_err_and result is_err in
      rw (s.1, s.2, so_far) (symmetric_stops stop (n - i) (omega arith) e)

-- ---- the signs
alternating-more : (es : List Element) (j : ℕ) (minus : Bool) (e : Element) → j < length es → e ≡ get_or es j e →
    alternating minus (drop j es) ≡ poly.signed element minus e ∷ alternating (not minus) (drop (j + 1) es)
alternating-more es j minus e below is = rw (drop_more es j e below, ← is) refl

module _ (es : List Element) (j : ℕ) (minus : Bool) (signs : List Element) {rule : List Element} (so_far : rule ≡ signs ++ alternating minus (drop j es)) where
  pub signs_kept : {e r : Element} {next : List Element} → j < length es → e ≡ get_or es j e → r ≡ poly.signed element minus e → next ≡ signs ++ r ∷ [] → rule ≡ next ++ alternating (not minus) (drop (j + 1) es)
  signs_kept {e} {r} below is r_is pushed =
      so_far ∙ ap (λ l. signs ++ l) (alternating-more es j minus e below is) ∙ rw (pushed, r_is) (sym (append_assoc signs (poly.signed element minus e ∷ []) (alternating (not minus) (drop (j + 1) es))))

  pub signs_whole : length es ≤ j → signs ≡ rule
  signs_whole past = sym (so_far ∙ rw (drop_all j es past) (append-nil signs))
