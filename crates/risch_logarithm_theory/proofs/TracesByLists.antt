-- The trace modulo the monic polynomial R = z^m + r_(m-1)·z^(m-1) + .. + r_0 by lists of coefficients is the trace by polynomials.
--     remainder_of-variable_mul      the remainder of z·p
--     trace-by_list      the trace of u is that of its remainder
use Rattle.std.specs.Prelude.{replicate, get_or}
use Rattle.std.proofs.Common.{◌≡◌, refl, sym, ap, ap₂, subst, ◌∙◌, ℕ, zero, suc, pred, ◌+◌, ◌-◌, ◌≤◌, List, [], ◌∷◌, ◌++◌, length, arith}
use Rattle.risch_ring.specs.CommRing.{CommRing, Field, power}
use Rattle.risch_ring.specs.Sums.{sum_below}
use Rattle.risch_ring.proofs.Laws as Laws
use Rattle.risch_ring.proofs.Sums as Sums
use Rattle.risch_univariate.specs.Polynomial.{Polynomial, coefficient, variable}
use Rattle.risch_univariate.specs.PolynomialLaws.{of_list-coefficients}
use Rattle.risch_univariate.specs.PolynomialRing.{polynomials}
use Rattle.risch_univariate.proofs.Division as Division
use Rattle.risch_univariate.proofs.Evaluation.{horner-zero}
use Rattle.risch_extension.specs.Trace.{trace}
use Rattle.risch_mean.specs.Univariate.{coefficient_at}
use Rattle.risch_mean.specs.Algebra as algebra
use Rattle.risch_mean.specs.Algebra.{times_z}
use Rattle.risch_element_theory.proofs.ElementsTranscendence.{of_list-cons}
use Rattle.risch_trace.proofs.Remainders as Remainders
use Rattle.risch_trace.proofs.Remainders.{modulus_of}

module _ {A : Type 0} (F : Field A) where
  item-zeros : (k i : ℕ) → coefficient_at F.ring i (replicate k F.zero) ≡ F.zero
  item-zeros zero i = refl
  item-zeros (suc k) zero = refl
  item-zeros (suc k) (suc i) = item-zeros k i

  -- zeros at the end do not matter
  item-filled : (p : List A) (k i : ℕ) → coefficient_at F.ring i (p ++ replicate k F.zero) ≡ get_or p i F.zero
  item-filled [] k i = item-zeros k i
  item-filled (c ∷ p) k zero = refl
  item-filled (c ∷ p) k (suc i) = item-filled p k i

  module _ (r : List A) (some : 1 ≤ length r) where
    abbrev R : CommRing (Polynomial F)
    R = polynomials F

    abbrev remainder_of : Polynomial F → List A
    remainder_of p = Remainders.remainder_of F r some p

    -- z·p
    pub remainder_of-variable_mul : (p : Polynomial F) → Remainders.remainder_of F r some ((polynomials F).mul (variable F) p) ≡ times_z F.ring r (Remainders.remainder_of F r some p)
    remainder_of-variable_mul p =
        ap remainder_of (sym (horner-zero F p) ∙ ap (λ q. R.add _ (R.mul (variable F) q)) (sym (of_list-coefficients F p)) ∙ sym (of_list-cons F F.zero p.coefficients))
        ∙ Remainders.remainder_of-of_list F r some (F.zero ∷ p.coefficients) ∙ Remainders.remainder-shift F r some p.coefficients

    -- the coefficients of the remainder
    item-remainder : (n : ¬ (modulus_of F r ≡ R.zero)) (p : Polynomial F) (i : ℕ) → coefficient F (Division.divide F (modulus_of F r) n p).remainder i ≡ coefficient_at F.ring i (remainder_of p)
    unfolding coefficient
    item-remainder n p i =
        let d = Division.divide F (modulus_of F r) n p in
        let below = d.is_division.smaller in
        let whole = Remainders.size-modulus F r in
        let cs = d.remainder.coefficients in
        let small : length cs ≤ length r = omega (arith, below, whole) in
        sym (item-filled cs (length r - length cs) i)
        ∙ ap (coefficient_at F.ring i) (sym (Remainders.remainder-short F r some cs small) ∙ sym (Remainders.remainder_of-division F r some p d.quotient d.remainder d.is_division))

    module _ (u : Polynomial F) where
      -- z^i·u
      abbrev raised : ℕ → Polynomial F
      raised i = R.mul (power R (variable F) i) u

      raised-next : (i : ℕ) → remainder_of (raised (suc i)) ≡ times_z F.ring r (remainder_of (raised i))
      raised-next i =
          ap remainder_of (ap (λ x. R.mul x u) (Laws.power-suc R (variable F) i) ∙ R.mul_assoc (variable F) (power R (variable F) i) u)
          ∙ remainder_of-variable_mul (raised i)

      raised-first : raised 0 ≡ u
      raised-first = ap (λ x. R.mul x u) (Laws.power-zero R (variable F)) ∙ Laws.one-mul R u

      abbrev diagonal : ℕ → A
      diagonal i = coefficient_at F.ring i (remainder_of (raised i))

      trace_from-is : (k i : ℕ) → algebra.trace_from F.ring r k i (remainder_of (raised i)) ≡ sum_below F.ring (λ j. diagonal (i + j)) k
      unfolding sum_below
      trace_from-is zero i = refl
      trace_from-is (suc k) i =
          let first : i ≡ i + 0 = omega arith in
          ap₂ F.add (ap diagonal first)
          (ap (algebra.trace_from F.ring r k (suc i)) (sym (raised-next i)) ∙ trace_from-is k (suc i)
          ∙ Sums.sum_below-ext F.ring (λ j. diagonal (suc i + j)) (λ j. diagonal (i + suc j)) k (λ j l. let same : suc i + j ≡ i + suc j = omega arith in ap diagonal same))
          ∙ sym (Sums.sum_below-first F.ring (λ j. diagonal (i + j)) k)

      trace-of_modulus : (n : ¬ (modulus_of F r ≡ R.zero)) → trace F (modulus_of F r) n u ≡ algebra.trace F.ring r (remainder_of u)
      unfolding trace
      trace-of_modulus n =
          ap (λ k. sum_below F.ring (λ i. coefficient F (Division.divide F (modulus_of F r) n (raised i)).remainder i) (pred k)) (Remainders.size-modulus F r)
          ∙ Sums.sum_below-ext F.ring (λ i. coefficient F (Division.divide F (modulus_of F r) n (raised i)).remainder i) (λ j. diagonal (0 + j)) (length r) (λ i l.
          let same : i ≡ 0 + i = omega arith in item-remainder n (raised i) i ∙ ap diagonal same)
          ∙ sym (trace_from-is (length r) 0) ∙ ap (λ p. algebra.trace F.ring r (remainder_of p)) raised-first

    -- the trace of u modulo R is that of its remainder
    pub trace-by_list : (P : Polynomial F) → P ≡ modulus_of F r → (n : ¬ (P ≡ (polynomials F).zero)) (u : Polynomial F) → trace F P n u ≡ algebra.trace F.ring r (Remainders.remainder_of F r some u)
    trace-by_list P e n u = subst (λ (Q : Polynomial F). (n : ¬ (Q ≡ R.zero)) → trace F Q n u ≡ algebra.trace F.ring r (remainder_of u)) (sym e) (trace-of_modulus u) n
