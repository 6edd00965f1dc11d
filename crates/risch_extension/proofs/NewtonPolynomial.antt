-- The characteristic polynomial of ρ modulo d by power traces and Newton's rule is Π (z - ρ(x_i)), where d = Π (t - x_i) with distinct x_i.
use Rattle.std.specs.Prelude.{◌≡◌, ℕ, suc, ◌+◌, ◌-◌, ◌≤◌, List, length, map}
use Rattle.std.proofs.Common.{sym, ap, ◌∙◌, arith}
use native.Mathlib.Decide.{dec_le}
use Rattle.risch_ring.specs.CommRing.{Field, RingMap, power, of_nat, HasCharacteristicZero}
use Rattle.risch_ring.specs.Lists.{Distinct}
use Rattle.risch_ring.proofs.RingMaps as RingMaps
use Rattle.risch_ring.proofs.Sums as Sums
use Rattle.risch_univariate.specs.Polynomial.{Polynomial, coefficient}
use Rattle.risch_univariate.specs.PolynomialRing.{polynomials}
use Rattle.risch_univariate.specs.PolynomialLaws.{polynomial_ext}
use Rattle.risch_univariate.specs.Degree.{size}
use Rattle.risch_univariate.proofs.Degree as Degree
use Rattle.risch_univariate.proofs.Evaluation as Evaluation
use Rattle.risch_extension.specs.PolynomialMap.{map_polynomial}
use Rattle.risch_extension.specs.LinearFactors.{product_of_linear}
use Rattle.risch_extension.specs.SymmetricFunctions.{elementary, power_sum, alternating, signed}
use Rattle.risch_extension.specs.NewtonPolynomial.{power_trace}
use Rattle.risch_extension.proofs.PolynomialMaps.{coefficient-map_polynomial}
use Rattle.risch_extension.proofs.LinearFactors.{size-product_of_linear}
use Rattle.risch_extension.proofs.TraceAtRoots.{trace-at_roots}
use Rattle.risch_extension.proofs.Newton.{newton_unique, coefficient-product_of_linear, apply-alternating, apply-signed, alternating-ext}

module _ {A B : Type 0} (F : Field A) (G : Field B) (f : RingMap F.ring G.ring) where
  -- the trace of ρ^j modulo d is the power sum of the ρ(x_i)
  pub power_trace-sum : (d : Polynomial F) (nonzero : ¬ (d ≡ (polynomials F).zero)) (ρ : Polynomial F) (xs : List B) → map_polynomial F G f d ≡ product_of_linear G xs → Distinct xs
      → (j : ℕ) → f.apply (power_trace F d nonzero ρ j) ≡ power_sum G.ring j (map (λ x. Evaluation.value F G.ring f x ρ) xs)
  power_trace-sum d nonzero ρ xs splits distinct j =
      trace-at_roots F G f d nonzero xs splits distinct (power (polynomials F) ρ j)
      ∙ Sums.sum_over-ext G.ring _ _ (λ x. RingMaps.apply-power (Evaluation.evaluation F G.ring f x) ρ j) xs
      ∙ sym (Sums.sum_over-map G.ring (λ x. power G.ring x j) (λ x. Evaluation.value F G.ring f x ρ) xs)

  -- C = Σ (-1)^i·e_i·z^(m - i), where Newton's rule gives the e_i from P_1, P_2, .. in K, and these are mapped to the power sums of y_1, .., y_m: C is mapped to Π (z - y_i)
  pub newton_polynomial-splits : HasCharacteristicZero F.ring → (C : Polynomial F) (m : ℕ) (P e : ℕ → A) (ys : List B) → length ys ≡ m → size F C ≤ suc m → e 0 ≡ F.one
      → ((i : ℕ) → F.mul (of_nat F.ring (suc i)) (e (suc i)) ≡ alternating F.ring e (λ j. P (suc j)) i)
      → ((k i : ℕ) → k + i ≡ m → coefficient F C k ≡ signed F.ring i (e i))
      → ((j : ℕ) → f.apply (P (suc j)) ≡ power_sum G.ring (suc j) ys)
      → map_polynomial F G f C ≡ product_of_linear G ys
  newton_polynomial-splits char C m P e ys count sC e0 newton coefficients traces = polynomial_ext G (map_polynomial F G f C) (product_of_linear G ys) λ k. elim (dec_le k m) [
    | yes l ↦
        let s : k + (m - k) ≡ m = omega (arith, l) in
        coefficient-map_polynomial F G f C k ∙ ap f.apply (coefficients k (m - k) s) ∙ apply-signed f (m - k) (e (m - k)) ∙ ap (signed G.ring (m - k)) (elementary-is (m - k))
        ∙ sym (coefficient-product_of_linear G ys k (m - k) (omega (arith, l, count)))
    | no l ↦
        coefficient-map_polynomial F G f C k ∙ ap f.apply (Degree.below_size F C k (omega (arith, l, sC))) ∙ RingMaps.apply-zero f
        ∙ sym (Degree.below_size G (product_of_linear G ys) k (let s = size-product_of_linear G ys in omega (arith, l, s, count)))
  ]
    where
      elementary-is : (i : ℕ) → f.apply (e i) ≡ elementary G.ring i ys
      elementary-is i = newton_unique G (RingMaps.apply-characteristic F G f char) ys (λ j. f.apply (e j)) (ap f.apply e0 ∙ f.apply-one)
          (λ j. ap (λ z. G.mul z (f.apply (e (suc j)))) (sym (RingMaps.apply-of_nat f (suc j)))
          ∙ sym (f.apply-mul (of_nat F.ring (suc j)) (e (suc j))) ∙ ap f.apply (newton j)
          ∙ apply-alternating f e (λ k. P (suc k)) j ∙ alternating-ext G.ring (λ k. f.apply (e k)) _ _ traces j)
          i i (omega arith)
