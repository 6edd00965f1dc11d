-- The steps of the rule of the inverse modulo a polynomial.
use Rattle.std.proofs.Common.{◌≡◌, ℕ, zero, suc, ◌-◌, ◌<◌, ◌≤◌, List, [], ◌∷◌, length, Ok, refl, arith}
use Rattle.risch_field.specs.Checked.{and_then, IsStopOf}
use Rattle.risch_field.specs.declared.Fail.{Fail}
use Rattle.risch_field.specs.Ops.{Ops}
use Rattle.risch_polynomial.specs.Poly as poly
use Rattle.risch_polynomial.specs.Modular as modular
use Rattle.risch_field.proofs.CheckedSteps.{stop_passes}

module _ {E : Type 0} (o : Ops E) where
  -- a constant remainder is the last
  pub inverse_done : (steps : ℕ) (r' s' r s : List E) → length r ≤ 1 → modular.inverse_from o steps r' s' r s ≡ modular.inverse_from o 0 [] [] r s
  inverse_done steps r' s' [] s h = refl
  inverse_done steps r' s' (c ∷ []) s h = refl
  inverse_done steps r' s' (c ∷ (d ∷ r)) s h = absurd (omega arith)

  pub inverse_ends : (r' s' r s : List E) → modular.inverse_from o 0 r' s' r s ≡ modular.inverse_from o 0 [] [] r s
  inverse_ends r' s' [] s = refl
  inverse_ends r' s' (c ∷ []) s = refl
  inverse_ends r' s' (c ∷ (d ∷ r)) s = refl

  pub inverse_more : (steps : ℕ) (r' s' r s q r'' s'' : List E) → 0 < steps → 1 < length r →
      poly.division o r' r ≡ Ok (q, r'') → modular.less_product o s' q s ≡ Ok s'' →
      modular.inverse_from o steps r' s' r s ≡ modular.inverse_from o (steps - 1) r s r'' s''
  inverse_more steps r' s' [] s q r'' s'' some long e f = absurd (omega arith)
  inverse_more steps r' s' (c ∷ []) s q r'' s'' some long e f = absurd (omega arith)
  inverse_more zero r' s' (c ∷ (d ∷ r)) s q r'' s'' some long e f = absurd (omega arith)
  inverse_more (suc steps) r' s' (c ∷ (d ∷ r)) s q r'' s'' some long e f =
      let less : suc steps - 1 ≡ steps = omega arith in
      rw (less, e, f) refl

  pub inverse_stops : (stop : Fail) (steps : ℕ) (r' s' r s : List E) → 0 < steps → 1 < length r →
      IsStopOf stop (poly.division o r' r) → IsStopOf stop (modular.inverse_from o steps r' s' r s)
  inverse_stops stop steps r' s' [] s some long e = absurd (omega arith)
  inverse_stops stop steps r' s' (c ∷ []) s some long e = absurd (omega arith)
  inverse_stops stop zero r' s' (c ∷ (d ∷ r)) s some long e = absurd (omega arith)
  inverse_stops stop (suc steps) r' s' (c ∷ (d ∷ r)) s some long e =
      stop_passes stop (poly.division o r' (c ∷ d ∷ r)) (λ x. and_then (modular.less_product o s' x.0 s) (λ s''. modular.inverse_from o steps (c ∷ d ∷ r) s x.1 s'')) e

  pub inverse_factor_stops : (stop : Fail) (steps : ℕ) (r' s' r s q r'' : List E) → 0 < steps → 1 < length r →
      poly.division o r' r ≡ Ok (q, r'') → IsStopOf stop (modular.less_product o s' q s) →
      IsStopOf stop (modular.inverse_from o steps r' s' r s)
  inverse_factor_stops stop steps r' s' [] s q r'' some long e f = absurd (omega arith)
  inverse_factor_stops stop steps r' s' (c ∷ []) s q r'' some long e f = absurd (omega arith)
  inverse_factor_stops stop zero r' s' (c ∷ (d ∷ r)) s q r'' some long e f = absurd (omega arith)
  inverse_factor_stops stop (suc steps) r' s' (c ∷ (d ∷ r)) s q r'' some long e f =
      rw e (stop_passes stop (modular.less_product o s' q s) (λ s''. modular.inverse_from o steps (c ∷ d ∷ r) s r'' s'') f)
