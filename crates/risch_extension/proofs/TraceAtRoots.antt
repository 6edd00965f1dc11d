-- The trace over K[z]/(P), where P = Π (z - x_j) with distinct x_j in an extension: the trace of u is Σ u(x_j).
use Rattle.std.specs.Prelude.{◌≡◌, ℕ, zero, suc, ◌≤◌, List, [], ◌∷◌, length, pred}
use Rattle.std.proofs.Common.{sym, ap, ap₂, ◌∙◌, arith}
use Rattle.risch_ring.specs.CommRing.{CommRing, Field, power}
use Rattle.risch_ring.specs.Operators.{operators}
use Rattle.risch_ring.specs.Lists.{Member, Distinct}
use Rattle.risch_ring.specs.Sums.{sum_over, sum_below}
use Rattle.risch_ring.proofs.Laws as Laws
use Rattle.risch_ring.proofs.FieldLaws as FieldLaws
use Rattle.risch_ring.proofs.RingMaps as RingMaps
use Rattle.risch_ring.proofs.Sums as Sums
use Rattle.risch_ring.proofs.RingMaps.{identity_map}
use Rattle.risch_univariate.specs.Polynomial.{Polynomial, variable, coefficient}
use Rattle.risch_univariate.specs.PolynomialRing.{polynomials, horner}
use Rattle.risch_univariate.specs.Degree.{size}
use Rattle.risch_univariate.proofs.Coefficients.{coefficient-zero, coefficient-horner-zero, coefficient-horner-suc}
use Rattle.risch_univariate.proofs.PolynomialInduction.{polynomial_induction}
use Rattle.risch_univariate.proofs.Degree as Degree
use Rattle.risch_univariate.proofs.Division as Division
use Rattle.risch_univariate.proofs.Evaluation as Evaluation
use Rattle.risch_univariate.proofs.FormalDerivative as FormalDerivative
use Rattle.risch_extension.specs.LinearFactors.{value_at, product_of_linear}
use Rattle.risch_extension.proofs.LinearFactors.{value_at-zero, size-product_of_linear}
use Rattle.risch_univariate.specs.Degree.{degree}
use Rattle.risch_ring.specs.CommRing.{RingMap}
use Rattle.risch_extension.specs.PolynomialMap.{map_polynomial}
use Rattle.risch_extension.specs.Trace.{trace}
use Rattle.risch_extension.proofs.PolynomialMaps.{value-map_polynomial, size-map_polynomial, coefficient-map_polynomial}
use Rattle.risch_extension.proofs.Roots as Roots
use Rattle.risch_extension.proofs.LagrangeInterpolation.{IsCofactor, cofactors, size-cofactor, value_at-cofactor, sum_over-cofactors, coefficient-polynomial_sum, lagrange}

module _ {A : Type 0} (F : Field A) where
  abbrev R : CommRing (Polynomial F)
  R = polynomials F

  open (operators F.ring) use {𝟘, 𝟙, ◌+◌, ◌*◌, -◌}

  abbrev Π : List A → Polynomial F
  Π = product_of_linear F

  abbrev ∂ : Polynomial F → Polynomial F
  ∂ = FormalDerivative.formal_derivative F

  -- p(y) = Σ over i < n of y^i·p_i, for deg p < n
  pub value-sum : (y : A) (p : Polynomial F) (n : ℕ) → size F p ≤ n → sum_below F.ring (λ i. power F.ring y i * coefficient F p i) n ≡ value_at F y p
  unfolding sum_below
  value-sum y = polynomial_induction F (λ p. (n : ℕ) → size F p ≤ n → sum_below F.ring (λ i. power F.ring y i * coefficient F p i) n ≡ value_at F y p)
      (λ n l.
      Sums.sum_below-ext F.ring _ (λ i. 𝟘) n (λ i k. ap (λ z. power F.ring y i * z) (coefficient-zero F i) ∙ Laws.mul-zero F.ring (power F.ring y i)) ∙ Sums.sum_below-zero F.ring n ∙ sym (value_at-zero F y))
      step
    where
      step : (a : A) (p : Polynomial F) → ((n : ℕ) → size F p ≤ n → sum_below F.ring (λ i. power F.ring y i * coefficient F p i) n ≡ value_at F y p)
          → (n : ℕ) → size F (horner F a p) ≤ n → sum_below F.ring (λ i. power F.ring y i * coefficient F (horner F a p) i) n ≡ value_at F y (horner F a p)
      step a p ih zero l = sym (ap (value_at F y) (Degree.zero_of_size F (horner F a p) (omega (arith, l))) ∙ value_at-zero F y)
      step a p ih (suc n) l =
          Sums.sum_below-first F.ring (λ i. power F.ring y i * coefficient F (horner F a p) i) n
          ∙ ap₂ F.add
          (ap₂ F.mul (Laws.power-zero F.ring y) (coefficient-horner-zero F a p) ∙ Laws.one-mul F.ring a)
          (Sums.sum_below-ext F.ring _ (λ i. y * (power F.ring y i * coefficient F p i)) n
          (λ i k. ap₂ F.mul (Laws.power-suc F.ring y i) (coefficient-horner-suc F a p i) ∙ F.mul_assoc y (power F.ring y i) (coefficient F p i))
          ∙ Sums.sum_below-mul F.ring y (λ i. power F.ring y i * coefficient F p i) n
          ∙ ap (λ z. y * z) (ih n (Degree.size-le F p n λ i k. sym (coefficient-horner-suc F a p i) ∙ Degree.below_size F (horner F a p) (suc i) (omega (arith, l, k)))))
          ∙ sym (Evaluation.value-horner F F.ring (identity_map F.ring) y a p)

  -- the two sums change places
  exchange : {X : Type 0} (g : ℕ → X → A) (n : ℕ) (xs : List X)
      → sum_below F.ring (λ i. sum_over F.ring (g i) xs) n ≡ sum_over F.ring (λ x. sum_below F.ring (λ i. g i x) n) xs
  unfolding sum_over
  exchange g n [] = Sums.sum_below-zero F.ring n
  exchange g n (x ∷ xs) =
      Sums.sum_below-add F.ring (λ i. g i x) (λ i. sum_over F.ring (g i) xs) n ∙ ap (F.add (sum_below F.ring (λ i. g i x) n)) (exchange g n xs)

  -- p_i of degree below m with the values x_j^i·u(x_j): Σ over i < m of the coefficient of t^i in p_i is Σ u(x_j)
  pub trace_of_values : (xs : List A) → Distinct xs → (p : ℕ → Polynomial F) (u : A → A) → ((i : ℕ) → size F (p i) ≤ length xs)
      → ((i : ℕ) (y : A) → Member y xs → value_at F y (p i) ≡ power F.ring y i * u y)
      → sum_below F.ring (λ i. coefficient F (p i) i) (length xs) ≡ sum_over F.ring u xs
  trace_of_values xs d p u small values =
      Sums.sum_below-ext F.ring _ _ (length xs) (λ i l. reads i)
      ∙ exchange (λ i q. power F.ring q.0 i * ω q.0 * coefficient F q.1 i) (length xs) (cofactors F xs)
      ∙ sum_over-cofactors F F.ring _ u xs one_pair
    where
      slope : A → A
      slope y = value_at F y (FormalDerivative.formal_derivative F (product_of_linear F xs))

      ω : A → A
      ω y = u y * F.inverse (slope y)

      weight : (y : A) → Member y xs → ω y * slope y ≡ u y
      weight y m =
          F.mul_assoc (u y) (F.inverse (slope y)) (slope y) ∙ ap (F.mul (u y)) (FieldLaws.inverse-mul F (slope y) (Roots.derivative-nonzero F y xs d m)) ∙ F.mul-one (u y)

      reads : (i : ℕ) → coefficient F (p i) i ≡ sum_over F.ring (λ q. power F.ring q.0 i * ω q.0 * coefficient F q.1 i) (cofactors F xs)
      reads i =
          ap (λ z. coefficient F z i)
          (lagrange F xs (p i) (λ y. power F.ring y i * ω y) d (small i)
          (λ y m. F.mul_assoc (power F.ring y i) (ω y) (slope y) ∙ ap (F.mul (power F.ring y i)) (weight y m) ∙ sym (values i y m)))
          ∙ coefficient-polynomial_sum F i (λ y. power F.ring y i * ω y) (cofactors F xs)

      one_pair : (q : A × Polynomial F) → IsCofactor F xs q → sum_below F.ring (λ i. power F.ring q.0 i * ω q.0 * coefficient F q.1 i) (length xs) ≡ u q.0
      one_pair q h =
          Sums.sum_below-ext F.ring _ (λ i. ω q.0 * (power F.ring q.0 i * coefficient F q.1 i)) (length xs)
          (λ i l. ap (λ z. z * coefficient F q.1 i) (F.mul_comm (power F.ring q.0 i) (ω q.0)) ∙ F.mul_assoc (ω q.0) (power F.ring q.0 i) (coefficient F q.1 i))
          ∙ Sums.sum_below-mul F.ring (ω q.0) _ (length xs)
          ∙ ap (F.mul (ω q.0)) (value-sum q.0 q.1 (length xs) (size-cofactor F xs q h) ∙ value_at-cofactor F xs q h)
          ∙ weight q.0 h.0

module _ {A B : Type 0} (F : Field A) (G : Field B) (f : RingMap F.ring G.ring) (P : Polynomial F) (nonzero : ¬ (P ≡ (polynomials F).zero)) (xs : List B)
    (splits : map_polynomial F G f P ≡ product_of_linear G xs) (distinct : Distinct xs) where
  abbrev at : B → Polynomial F → B
  at x = Evaluation.value F G.ring f x

  -- P is 0 at each x_j
  pub value-root : (x : B) → Member x xs → Evaluation.value F G.ring f x P ≡ G.zero
  value-root x m = sym (value-map_polynomial F G f x P) ∙ ap (value_at G x) splits ∙ Roots.value_at-product_member G x xs m

  -- the trace of u is Σ u(x_j)
  pub trace-at_roots : (u : Polynomial F) → f.apply (trace F P nonzero u) ≡ sum_over G.ring (λ x. Evaluation.value F G.ring f x u) xs
  unfolding trace
  trace-at_roots u =
      RingMaps.sum_below-apply f _ (degree F P)
      ∙ ap (sum_below G.ring _) (ap pred (sym (size-map_polynomial F G f P) ∙ ap (size G) splits ∙ size-product_of_linear G xs))
      ∙ Sums.sum_below-ext G.ring _ (λ i. coefficient G (map_polynomial F G f (remainder i)) i) (length xs) (λ i l. sym (coefficient-map_polynomial F G f (remainder i) i))
      ∙ trace_of_values G xs distinct (λ i. map_polynomial F G f (remainder i)) (λ x. at x u)
      (λ i. let a = size-map_polynomial F G f P in let b = ap (size G) splits in let c = size-product_of_linear G xs in
      let d = size-map_polynomial F G f (remainder i) in let e = (division i).is_division.smaller in omega (arith, a, b, c, d, e))
      (λ i x m. value-map_polynomial F G f x (remainder i) ∙ values i x m)
    where
      division : (i : ℕ) → Division.Division F ((polynomials F).mul (power (polynomials F) (variable F) i) u) P
      division i = Division.divide F P nonzero ((polynomials F).mul (power (polynomials F) (variable F) i) u)

      remainder : ℕ → Polynomial F
      remainder i = (Division.divide F P nonzero ((polynomials F).mul (power (polynomials F) (variable F) i) u)).remainder

      values : (i : ℕ) (x : B) → Member x xs → at x (remainder i) ≡ G.mul (power G.ring x i) (at x u)
      values i x m =
          sym (Laws.zero-add G.ring _)
          ∙ ap (λ z. G.add z (at x (remainder i)))
          (sym (Evaluation.value-mul F G.ring f x (division i).quotient P ∙ ap (G.mul (at x (division i).quotient)) (value-root x m) ∙ Laws.mul-zero G.ring _))
          ∙ sym (Evaluation.value-add F G.ring f x _ _)
          ∙ ap (at x) (sym (division i).is_division.equation)
          ∙ Evaluation.value-mul F G.ring f x _ u
          ∙ ap (λ z. G.mul z (at x u))
          (RingMaps.apply-power (Evaluation.evaluation F G.ring f x) (variable F) i ∙ ap (λ z. power G.ring z i) (Evaluation.value-variable F G.ring f x))
