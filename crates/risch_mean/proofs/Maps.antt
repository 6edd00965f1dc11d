-- Ring maps and lists of coefficients: values, sums, products and derivatives of polynomials, and products and traces modulo a monic polynomial, commute with a ring map. For the inclusion of a subfield.
use Rattle.std.specs.Prelude.{◌≡◌, refl, ℕ, zero as nat_zero, suc, List, [], ◌∷◌, map, length}
use Rattle.std.proofs.Common.{sym, ap, ap₂, ◌∙◌}
use Rattle.risch_ring.specs.CommRing.{CommRing, RingMap, of_nat}
use Rattle.risch_ring.proofs.RingMaps as RingMaps
use Rattle.risch_mean.specs.Univariate
use Rattle.risch_mean.specs.Algebra

module _ {A B : Type 0} (R : CommRing A) (S : CommRing B) (h : RingMap R S) where
  -- ---- lists of coefficients
  pub apply-value : (t : A) (cs : List A) → h.apply (Univariate.value_at R t cs) ≡ Univariate.value_at S (h.apply t) (map h.apply cs)
  apply-value t [] = RingMaps.apply-zero h
  apply-value t (c ∷ cs) = h.apply-add c (R.mul t (Univariate.value_at R t cs)) ∙ ap (S.add (h.apply c)) (h.apply-mul t (Univariate.value_at R t cs) ∙ ap (S.mul (h.apply t)) (apply-value t cs))

  pub apply-add_lists : (cs ds : List A) → map h.apply (Univariate.add_lists R cs ds) ≡ Univariate.add_lists S (map h.apply cs) (map h.apply ds)
  apply-add_lists [] ds = refl
  apply-add_lists (c ∷ cs) [] = refl
  apply-add_lists (c ∷ cs) (d ∷ ds) = ap₂ ◌∷◌ (h.apply-add c d) (apply-add_lists cs ds)

  pub apply-scale : (a : A) (cs : List A) → map h.apply (Univariate.scale R a cs) ≡ Univariate.scale S (h.apply a) (map h.apply cs)
  apply-scale a [] = refl
  apply-scale a (c ∷ cs) = ap₂ ◌∷◌ (h.apply-mul a c) (apply-scale a cs)

  pub apply-mul_lists : (cs ds : List A) → map h.apply (Univariate.mul_lists R cs ds) ≡ Univariate.mul_lists S (map h.apply cs) (map h.apply ds)
  apply-mul_lists [] ds = refl
  apply-mul_lists (c ∷ cs) ds =
      apply-add_lists (Univariate.scale R c ds) (R.zero ∷ Univariate.mul_lists R cs ds)
      ∙ ap₂ (Univariate.add_lists S) (apply-scale c ds) (ap₂ ◌∷◌ (RingMaps.apply-zero h) (apply-mul_lists cs ds))

  pub apply-numbered : (n : ℕ) (cs : List A) → map h.apply (Univariate.numbered R n cs) ≡ Univariate.numbered S n (map h.apply cs)
  apply-numbered n [] = refl
  apply-numbered n (c ∷ cs) = ap₂ ◌∷◌ (h.apply-mul (of_nat R n) c ∙ ap (λ k. S.mul k (h.apply c)) (RingMaps.apply-of_nat h n)) (apply-numbered (suc n) cs)

  pub apply-formal_derivative : (cs : List A) → map h.apply (Univariate.formal_derivative R cs) ≡ Univariate.formal_derivative S (map h.apply cs)
  apply-formal_derivative [] = refl
  apply-formal_derivative (c ∷ cs) = apply-numbered 1 cs

  -- ---- modulo a monic polynomial
  apply-last : (u : List A) → h.apply (Algebra.last R u) ≡ Algebra.last S (map h.apply u)
  apply-last [] = RingMaps.apply-zero h
  apply-last (c ∷ []) = refl
  apply-last (c ∷ d ∷ u) = apply-last (d ∷ u)

  apply-shifted : (a : A) (u : List A) → map h.apply (Algebra.shifted R a u) ≡ Algebra.shifted S (h.apply a) (map h.apply u)
  apply-shifted a [] = refl
  apply-shifted a (c ∷ u) = ap (λ (l : List B). h.apply a ∷ l) (apply-shifted c u)

  apply-zeros : (r : List A) → map h.apply (Algebra.zeros R r) ≡ Algebra.zeros S (map h.apply r)
  apply-zeros [] = refl
  apply-zeros (c ∷ r) = ap₂ ◌∷◌ (RingMaps.apply-zero h) (apply-zeros r)

  pub apply-times_z : (r u : List A) → map h.apply (Algebra.times_z R r u) ≡ Algebra.times_z S (map h.apply r) (map h.apply u)
  apply-times_z r u =
      apply-add_lists (Algebra.shifted R R.zero u) (Univariate.scale R (R.neg (Algebra.last R u)) r)
      ∙ ap₂ (Univariate.add_lists S) (apply-shifted R.zero u ∙ ap (λ a. Algebra.shifted S a (map h.apply u)) (RingMaps.apply-zero h))
      (apply-scale (R.neg (Algebra.last R u)) r ∙ ap (λ a. Univariate.scale S a (map h.apply r)) (RingMaps.apply-neg h (Algebra.last R u) ∙ ap S.neg (apply-last u)))

  pub apply-times_mod : (r u v : List A) → map h.apply (Algebra.times_mod R r u v) ≡ Algebra.times_mod S (map h.apply r) (map h.apply u) (map h.apply v)
  apply-times_mod r [] v = apply-zeros r
  apply-times_mod r (c ∷ u) v =
      apply-add_lists (Univariate.scale R c v) (Algebra.times_z R r (Algebra.times_mod R r u v))
      ∙ ap₂ (Univariate.add_lists S) (apply-scale c v) (apply-times_z r (Algebra.times_mod R r u v) ∙ ap (Algebra.times_z S (map h.apply r)) (apply-times_mod r u v))

  apply-coefficient_at : (i : ℕ) (u : List A) → h.apply (Univariate.coefficient_at R i u) ≡ Univariate.coefficient_at S i (map h.apply u)
  apply-coefficient_at i [] = RingMaps.apply-zero h
  apply-coefficient_at nat_zero (c ∷ u) = refl
  apply-coefficient_at (suc i) (c ∷ u) = apply-coefficient_at i u

  apply-trace_from : (r : List A) (k i : ℕ) (u : List A) → h.apply (Algebra.trace_from R r k i u) ≡ Algebra.trace_from S (map h.apply r) k i (map h.apply u)
  apply-trace_from r nat_zero i u = RingMaps.apply-zero h
  apply-trace_from r (suc k) i u =
      h.apply-add _ _ ∙ ap₂ S.add (apply-coefficient_at i u) (apply-trace_from r k (suc i) (Algebra.times_z R r u) ∙ ap (Algebra.trace_from S (map h.apply r) k (suc i)) (apply-times_z r u))

  length-map : (r : List A) → length (map h.apply r) ≡ length r
  length-map [] = refl
  length-map (c ∷ r) = ap suc (length-map r)

  pub apply-trace : (r u : List A) → h.apply (Algebra.trace R r u) ≡ Algebra.trace S (map h.apply r) (map h.apply u)
  apply-trace r u = apply-trace_from r (length r) 0 u ∙ ap (λ (k : ℕ). Algebra.trace_from S (map h.apply r) k 0 (map h.apply u)) (sym (length-map r))
