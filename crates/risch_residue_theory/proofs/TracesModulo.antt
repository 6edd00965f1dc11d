-- The trace over K of an element of K[z]/(P) depends on its class alone; so the trace of z·k·T is the same for all T with T·s = 1 modulo P.
use Rattle.std.specs.Prelude.{◌≡◌, [], ◌∷◌}
use Rattle.std.proofs.Common.{refl, sym, ap, ap₂, subst, ◌∙◌}
use Rattle.risch_ring.specs.CommRing.{CommRing, Field, sub, power}
use Rattle.risch_ring.proofs.Laws as Laws
use Rattle.risch_ring.proofs.Sums as Sums
use Rattle.risch_ring.proofs.Expression.{reading}
use Rattle.risch_ring.proofs.Solver.{ring}
use Rattle.risch_univariate.specs.Polynomial.{Polynomial, variable, coefficient}
use Rattle.risch_univariate.specs.PolynomialRing.{polynomials}
use Rattle.risch_univariate.specs.Degree.{degree}
use Rattle.risch_univariate.specs.Division.{Divides}
use Rattle.risch_univariate.proofs.Divides as Divides
use Rattle.risch_univariate.proofs.Division as Division
use Rattle.risch_extension.specs.Trace.{trace}

module _ {A : Type 0} (F : Field A) (P : Polynomial F) where
  abbrev R : CommRing (Polynomial F)
  R = polynomials F

  -- u and v with P | u - v have the same remainder
  same_remainder : (n m : ¬ (P ≡ (polynomials F).zero)) (u v : Polynomial F) → Divides F P (sub (polynomials F) u v) → (Division.divide F P n u).remainder ≡ (Division.divide F P m v).remainder
  same_remainder n m u v h = (Division.division_unique F u P _ _ (R.add h.cofactor y.quotient) y.remainder x.is_division
      (record {
        equation =
            sym (Laws.neg-add_cancel R u v) ∙ ap₂ R.add h.equation y.is_division.equation ∙ sym (R.add_assoc (R.mul h.cofactor P) (R.mul y.quotient P) y.remainder)
            ∙ ap (λ z. R.add z y.remainder) (sym (Laws.add-mul R h.cofactor y.quotient P));
        smaller = y.is_division.smaller;
      })).1
    where
      x : Division.Division F u P
      x = Division.divide F P n u

      y : Division.Division F v P
      y = Division.divide F P m v

  -- P | u - v gives the same trace
  pub trace-congruent : (n m : ¬ (P ≡ (polynomials F).zero)) (u v : Polynomial F) → Divides F P (sub (polynomials F) u v) → trace F P n u ≡ trace F P m v
  unfolding trace
  trace-congruent n m u v h = Sums.sum_below-ext F.ring _ _ (degree F P) (λ i l.
      ap (λ z. coefficient F z i)
      (same_remainder n m (R.mul (power R (variable F) i) u) (R.mul (power R (variable F) i) v)
      (subst (Divides F P) (R.mul-add (power R (variable F) i) u (R.neg v) ∙ ap (R.add (R.mul (power R (variable F) i) u)) (Laws.mul-neg R (power R (variable F) i) v))
      (Divides.divides-mul_left F P (power R (variable F) i) (sub R u v) h))))

  -- T·s = 1 and U·s = 1 modulo P: z·(k·T) and z·(k·U) have the same trace
  pub trace-any_inverse : (n m : ¬ (P ≡ (polynomials F).zero)) (s k T U : Polynomial F) → Divides F P (sub (polynomials F) ((polynomials F).mul T s) (polynomials F).one)
      → Divides F P (sub (polynomials F) ((polynomials F).mul U s) (polynomials F).one)
      → trace F P n ((polynomials F).mul (variable F) ((polynomials F).mul k T)) ≡ trace F P m ((polynomials F).mul (variable F) ((polynomials F).mul k U))
  trace-any_inverse n m s k T U h g = trace-congruent n m _ _
      (subst (Divides F P) (sym (identity (variable F) k T U s))
      (Divides.divides-add F P _ _ (Divides.divides-mul_left F P (R.mul (R.mul (variable F) k) U) _ h)
      (Divides.divides-neg F P _ (Divides.divides-mul_left F P (R.mul (R.mul (variable F) k) T) _ g))))
    where
      -- z·k·T - z·k·U = z·k·U·(T·s - 1) - z·k·T·(U·s - 1)
      identity : (z k T U s : Polynomial F) → R.add (R.mul z (R.mul k T)) (R.neg (R.mul z (R.mul k U)))
          ≡ R.add (R.mul (R.mul (R.mul z k) U) (R.add (R.mul T s) (R.neg R.one))) (R.neg (R.mul (R.mul (R.mul z k) T) (R.add (R.mul U s) (R.neg R.one))))
      identity z k T U s = ring R (z ∷ k ∷ T ∷ U ∷ s ∷ []) (search reading depth 40 fits 9000) refl
