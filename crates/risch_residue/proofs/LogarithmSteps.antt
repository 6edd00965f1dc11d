-- The steps of the rules of the logarithms, and the variables that occur.
use Rattle.std.specs.Prelude.{nat_le}
use Rattle.std.specs.Result.{IsErrAnd}
use Rattle.std.proofs.Common.{◌≡◌, ℕ, zero, suc, ◌+◌, ◌-◌, ◌≤◌, ◌<◌, ◌&&◌, List, [], ◌∷◌, ◌++◌, length, All, IfOk, Result, Ok, Err, refl, sym, subst, arith, add-one}
use Rattle.std.proofs.lemmas.List.Elements.{All-head, All-tail}
use Rattle.std.proofs.lemmas.Result.{err_from_is_err_and}
use Rattle.risch_field.specs.Checked.{Checked, Agrees, IsStopOf}
use Rattle.risch_field.specs.declared.Fail.{Fail}
use Rattle.risch_field.proofs.CheckedSteps.{stop_passes, if-ok}
use Rattle.risch_polynomial.specs.Poly as poly
use Rattle.risch_polynomial_theory.specs.Meaning.{AllValid}
use Rattle.risch_level.specs.Levels.{Element, element}
use Rattle.risch_element_theory.specs.WholeTower.{IsElement, IsPolynomial, AllWithin}
use Rattle.risch_element_theory.proofs.CoefficientProperties.{coefficient-keeps, formed-keeps}
use Rattle.risch_element_theory.proofs.ElementPolynomials.{trimmed-is_polynomial}
use Rattle.risch_element_theory.proofs.PolynomialsWithin.{within-closed}
use Rattle.risch_sub.specs.RemainderSequence.{InZ, Member}
use Rattle.risch_logarithm_rules.specs.Logarithms.{argument_of, coefficients_at, polynomial_at, element_at, by_powers_from}
use Rattle.risch_residue.proofs.ArgumentSteps.{argument_of-within}

-- ---- one logarithm
pub formed-is_polynomial : (s p : List Element) → AllValid IsElement s → poly.sized element (poly.trimmed element s) ≡ Ok p → length p ≤ 256 → IsPolynomial p
formed-is_polynomial s p all e small =
    let is : poly.trimmed element s ≡ p = if-ok (nat_le (length (poly.trimmed element s)) 256 && nat_le (poly.weight element (poly.trimmed element s)) 65536) (poly.trimmed element s) p e in
    trimmed-is_polynomial s p all (subst (λ (q : List Element). length q ≤ 256) (sym is) small) (sym is)

module _ (level k : ℕ) (formed : List Element) (m : Member) where
  pub by_powers-more : (steps : ℕ) (e : Element) → 0 < steps → element_at level k m ≡ Ok e → by_powers_from level k steps formed m ≡ by_powers_from level (k + 1) (steps - 1) (formed ++ e ∷ []) m
  by_powers-more zero e some is = absurd (omega arith)
  by_powers-more (suc steps) e some is =
      let less : suc steps - 1 ≡ steps = omega arith in
      let next : k + 1 ≡ suc k = add-one k in
      rw (less, is, next) refl

  element_stops : (stop : Fail) (steps : ℕ) → 0 < steps → IsStopOf stop (element_at level k m) → IsStopOf stop (by_powers_from level k steps formed m)
  element_stops stop zero some h = absurd (omega arith)
  element_stops stop (suc steps) some h = stop_passes stop (element_at level k m) (λ e. by_powers_from level (suc k) steps (formed ++ e ∷ []) m) h

  pub powers_stop : (count : ℕ) {rule : Checked (List Element)} → rule ≡ by_powers_from level k (count - k) formed m → k < count → (stop : Fail) (result : Result (List Element) Fail) → IsStopOf stop (element_at level k m) →
      IsErrAnd result (λ s. s ≡ stop) → Agrees result rule
  powers_stop count so_far below stop result e is_err =
      let s = err_from_is_err_and result is_err in
      rw (s.1, s.2, so_far) (element_stops stop (count - k) (omega arith) e)

-- ---- the variables that occur
coefficients_at-within : (n k : ℕ) (m : Member) → All (AllWithin n) m → AllWithin n (coefficients_at k m)
coefficients_at-within n k [] all = tt
coefficients_at-within n k (p ∷ m) all =
    (coefficient-keeps (within-closed n) p k (All-head (AllWithin n) p m all), coefficients_at-within n k m (All-tail (AllWithin n) p m all))

pub polynomial_at-within : (n k : ℕ) (m : Member) (p : List Element) → All (AllWithin n) m → polynomial_at k m ≡ Ok p → AllWithin n p
unfolding polynomial_at
polynomial_at-within n k m p all e = formed-keeps (within-closed n) (coefficients_at k m) p (coefficients_at-within n k m all) e

pub argument-within : (n : ℕ) (m : Member) (R : InZ) (result : Result Member Fail) → All (AllWithin n) m → AllWithin n R → Agrees result (argument_of m R) → IfOk result (λ it. All (AllWithin n) it)
argument-within n m R (Err stop) all all_R h = tt
argument-within n m R (Ok r) all all_R h = argument_of-within n R all_R m r all h
