-- The steps of a division.
use Rattle.std.proofs.Common.{◌≡◌, ℕ, zero, suc, ◌-◌, ◌<◌, ◌≤◌, true, false, ltb, List, length, Ok, refl, arith}
use Rattle.std.proofs.lemmas.Bool.Decides.{nat_tests}
use Rattle.risch_field.specs.Checked.{IsStopOf}
use Rattle.risch_field.specs.declared.Fail.{Fail}
use Rattle.risch_field.specs.Ops.{Ops}
use Rattle.risch_polynomial.specs.Poly as poly
use Rattle.risch_field.proofs.CheckedSteps.{stop_passes}

module _ {E : Type 0} (o : Ops E) where
  not_below : (m n : ℕ) → n ≤ m → ltb m n ≡ false
  not_below m n h = grind (arith, nat_tests)

  below : (m n : ℕ) → m < n → ltb m n ≡ true
  below m n h = grind (arith, nat_tests)

  -- what is left is below q
  pub divided_done : (steps : ℕ) (quotient r : List E) (u : E) (q : List E) → length r < length q → poly.divided o steps quotient r u q ≡ Ok (quotient, r)
  divided_done zero quotient r u q h = refl
  divided_done (suc steps) quotient r u q h = rw (below (length r) (length q) h) refl

  pub divided_more : (steps : ℕ) (quotient r : List E) (u : E) (q quotient' r' : List E) → 0 < steps → length q ≤ length r →
      poly.step o quotient r u q ≡ Ok (quotient', r') → poly.divided o steps quotient r u q ≡ poly.divided o (steps - 1) quotient' r' u q
  divided_more zero quotient r u q quotient' r' some h e = absurd (omega arith)
  divided_more (suc steps) quotient r u q quotient' r' some h e =
      let less : suc steps - 1 ≡ steps = omega arith in
      rw (less, not_below (length r) (length q) h, e) refl

  pub divided_stops : (stop : Fail) (steps : ℕ) (quotient r : List E) (u : E) (q : List E) → 0 < steps → length q ≤ length r →
      IsStopOf stop (poly.step o quotient r u q) → IsStopOf stop (poly.divided o steps quotient r u q)
  divided_stops stop zero quotient r u q some h e = absurd (omega arith)
  divided_stops stop (suc steps) quotient r u q some h e =
      rw (not_below (length r) (length q) h) (stop_passes stop (poly.step o quotient r u q) (λ d. poly.divided o steps d.0 d.1 u q) e)

  pub remainders_done : (steps : ℕ) (a b : List E) → poly.is_zero o b ≡ true → poly.remainders o steps a b ≡ Ok a
  remainders_done zero a b h = refl
  remainders_done (suc steps) a b h = rw h refl

  pub remainders_more : (steps : ℕ) (a b c : List E) → 0 < steps → poly.is_zero o b ≡ false →
      poly.monic_remainder o a b ≡ Ok c → poly.remainders o steps a b ≡ poly.remainders o (steps - 1) b c
  remainders_more zero a b c some h e = absurd (omega arith)
  remainders_more (suc steps) a b c some h e =
      let less : suc steps - 1 ≡ steps = omega arith in
      rw (less, h, e) refl

  pub remainders_stop : (stop : Fail) (steps : ℕ) (a b : List E) → 0 < steps → poly.is_zero o b ≡ false →
      IsStopOf stop (poly.monic_remainder o a b) → IsStopOf stop (poly.remainders o steps a b)
  remainders_stop stop zero a b some h e = absurd (omega arith)
  remainders_stop stop (suc steps) a b some h e =
      rw h (stop_passes stop (poly.monic_remainder o a b) (λ c. poly.remainders o steps b c) e)
