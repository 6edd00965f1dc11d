-- Lagrange's interpolation at distinct roots x_1, .., x_m of d = Π (t - x_i): a = Σ ω(x_i)·d/(t - x_i).
use Rattle.std.specs.Prelude.{◌≡◌, ℕ, ◌≤◌, ◌⊎◌, List, [], ◌∷◌, length, map}
use Rattle.std.proofs.Common.{refl, sym, ap, ap₂, ◌∙◌, arith, inl, inr}
use Rattle.risch_ring.specs.CommRing.{CommRing, Field}
use Rattle.risch_ring.specs.Operators.{operators}
use Rattle.risch_ring.specs.Lists.{Each, Member, Distinct}
use Rattle.risch_ring.specs.Sums.{sum_over}
use Rattle.risch_ring.proofs.Laws as Laws
use Rattle.risch_ring.proofs.RingMaps as RingMaps
use Rattle.risch_ring.proofs.Sums as Sums
use Rattle.risch_ring.proofs.RingMaps.{identity_map}
use Rattle.risch_ring.proofs.Lists.{each_of_members, each-member, each-map}
use Rattle.risch_univariate.specs.Polynomial.{Polynomial, constant, coefficient}
use Rattle.risch_univariate.specs.PolynomialRing.{polynomials}
use Rattle.risch_univariate.specs.Degree.{size}
use Rattle.risch_univariate.proofs.Coefficients.{coefficient-zero, coefficient-add, coefficient-constant_mul}
use Rattle.risch_univariate.proofs.Degree as Degree
use Rattle.risch_univariate.proofs.Evaluation as Evaluation
use Rattle.risch_univariate.proofs.FormalDerivative as FormalDerivative
use Rattle.risch_extension.specs.LinearFactors.{value_at, linear, product_of_linear}
use Rattle.risch_extension.proofs.LinearFactors.{value_at-add, value_at-mul, value_at-constant, value_at-linear_self, size-linear, linear-nonzero, product_of_linear-cons, product_of_linear-nonzero, size-product_of_linear}
use Rattle.risch_extension.proofs.Roots as Roots

module _ {A : Type 0} (F : Field A) where
  abbrev R : CommRing (Polynomial F)
  R = polynomials F

  open (operators F.ring) use {𝟘, 𝟙, ◌+◌, ◌*◌, -◌}

  abbrev Π : List A → Polynomial F
  Π = product_of_linear F

  abbrev ∂ : Polynomial F → Polynomial F
  ∂ = FormalDerivative.formal_derivative F

  -- ---- the pairs (x_i, d/(t - x_i))

  -- the pairs with each polynomial times t - x
  abbrev pub scaled : A → List (A × Polynomial F) → List (A × Polynomial F)
  scaled x qs = map (λ q. (q.0, R.mul (linear F x) q.1)) qs

  -- the pairs (x_i, Π over j ≠ i of (t - x_j))
  abbrev pub cofactors : List A → List (A × Polynomial F)
  cofactors [] = []
  cofactors (x ∷ xs) = (x, Π xs) ∷ scaled x (cofactors xs)

  -- the x_i of the pairs
  abbrev pub keys : List (A × Polynomial F) → List A
  keys qs = map (λ q. q.0) qs

  keys-scaled : (x : A) (qs : List (A × Polynomial F)) → keys (scaled x qs) ≡ keys qs
  keys-scaled x [] = refl
  keys-scaled x (q ∷ qs) = ap (λ z. q.0 ∷ z) (keys-scaled x qs)

  -- the x_i of the pairs are the roots, in their order
  pub keys-cofactors : (xs : List A) → keys (cofactors xs) ≡ xs
  keys-cofactors [] = refl
  keys-cofactors (x ∷ xs) = ap (λ z. x ∷ z) (keys-scaled x (cofactors xs) ∙ keys-cofactors xs)

  -- from the pairs to the scaled pairs
  each-scaled : (P Q : A × Polynomial F → Type 0) (x : A) → ((q : A × Polynomial F) → P q → Q (q.0, R.mul (linear F x) q.1))
      → (qs : List (A × Polynomial F)) → Each P qs → Each Q (scaled x qs)
  each-scaled P Q x f [] h = tt
  each-scaled P Q x f (q ∷ qs) h = (f q h.0, each-scaled P Q x f qs h.1)

  -- x_i is a root of d, and (t - x_i)·(d/(t - x_i)) = d
  abbrev pub IsCofactor : List A → A × Polynomial F → Type 0
  IsCofactor xs q = Member q.0 xs × (R.mul (linear F q.0) q.1 ≡ Π xs)

  -- each pair (x_i, d/(t - x_i)) is as said
  pub cofactors-are_cofactors : (xs : List A) → Each (IsCofactor xs) (cofactors xs)
  cofactors-are_cofactors [] = tt
  cofactors-are_cofactors (x ∷ xs) = (
    (inl refl, sym (product_of_linear-cons F x xs)),
    each-scaled (IsCofactor xs) (IsCofactor (x ∷ xs)) x
        (λ q h. (inr h.0, Laws.mul_left_comm R (linear F q.0) (linear F x) q.1 ∙ ap (R.mul (linear F x)) h.1 ∙ sym (product_of_linear-cons F x xs)))
        (cofactors xs) (cofactors-are_cofactors xs),
  )

  -- deg (d/(t - x_i)) < m
  pub size-cofactor : (xs : List A) (q : A × Polynomial F) → IsCofactor xs q → size F q.1 ≤ length xs
  size-cofactor xs q h =
      let a = Degree.size-mul-nonzero F (linear F q.0) q.1 (linear-nonzero F q.0) nonzero in
      let b = ap (size F) h.1 in
      let c = size-product_of_linear F xs in
      let e = size-linear F q.0 in
      omega (arith, a, b, c, e)
    where
      nonzero : ¬ (q.1 ≡ R.zero)
      nonzero = Degree.nonzero_of_mul_right F (linear F q.0) q.1 (λ z. product_of_linear-nonzero F xs (sym h.1 ∙ z))

  -- (d/(t - x_i))(x_i) = ∂d(x_i)
  pub value_at-cofactor : (xs : List A) (q : A × Polynomial F) → IsCofactor xs q → value_at F q.0 q.1 ≡ value_at F q.0 (∂ (Π xs))
  value_at-cofactor xs q h = sym (Roots.derivative-at F q.0 q.1) ∙ ap (λ z. value_at F q.0 (∂ z)) h.1

  -- ---- sums over the pairs

  -- Σ ω(x_i)·q_i
  abbrev pub polynomial_sum : (A → A) → List (A × Polynomial F) → Polynomial F
  polynomial_sum ω qs = sum_over R (λ q. R.mul (constant F (ω q.0)) q.1) qs

  -- a sum of equal terms at the cofactors is a sum over the x_i
  pub sum_over-cofactors : {B : Type 0} (S : CommRing B) (g : A × Polynomial F → B) (h : A → B) (xs : List A) → ((q : A × Polynomial F) → IsCofactor xs q → g q ≡ h q.0)
      → sum_over S g (cofactors xs) ≡ sum_over S h xs
  sum_over-cofactors S g h xs e =
      Sums.sum_over-ext_members S g (λ q. h q.0) (cofactors xs) (λ q m. e q (each-member (IsCofactor xs) q (cofactors xs) (cofactors-are_cofactors xs) m))
      ∙ sym (Sums.sum_over-map S h (λ q. q.0) (cofactors xs)) ∙ ap (sum_over S h) (keys-cofactors xs)

  -- the value of Σ ω(x_i)·q_i
  value_at-polynomial_sum : (z : A) (ω : A → A) (qs : List (A × Polynomial F)) → value_at F z (polynomial_sum ω qs) ≡ sum_over F.ring (λ q. ω q.0 * value_at F z q.1) qs
  value_at-polynomial_sum z ω qs =
      RingMaps.sum_over-apply (Evaluation.evaluation F F.ring (identity_map F.ring) z) (λ q. R.mul (constant F (ω q.0)) q.1) qs
      ∙ Sums.sum_over-ext F.ring _ (λ q. ω q.0 * value_at F z q.1)
      (λ q. value_at-mul F z (constant F (ω q.0)) q.1 ∙ ap (λ x. x * value_at F z q.1) (value_at-constant F z (ω q.0))) qs

  -- (Σ ω(x_i)·q_i)_k = Σ ω(x_i)·(q_i)_k
  pub coefficient-polynomial_sum : (i : ℕ) (ω : A → A) (qs : List (A × Polynomial F)) → coefficient F (polynomial_sum ω qs) i ≡ sum_over F.ring (λ q. ω q.0 * coefficient F q.1 i) qs
  unfolding sum_over
  coefficient-polynomial_sum i ω [] = coefficient-zero F i
  coefficient-polynomial_sum i ω (q ∷ qs) =
      coefficient-add F (R.mul (constant F (ω q.0)) q.1) (polynomial_sum ω qs) i
      ∙ ap₂ F.add (coefficient-constant_mul F (ω q.0) q.1 i) (coefficient-polynomial_sum i ω qs)

  -- deg (Σ ω(x_i)·q_i) < n
  size-polynomial_sum : (n : ℕ) (ω : A → A) (qs : List (A × Polynomial F)) → Each (λ q. size F q.1 ≤ n) qs → size F (polynomial_sum ω qs) ≤ n
  unfolding sum_over
  size-polynomial_sum n ω [] h = let z = Degree.size-zero F in omega (arith, z)
  size-polynomial_sum n ω (q ∷ qs) h =
      Degree.size-add-le F (R.mul (constant F (ω q.0)) q.1) (polynomial_sum ω qs) n
      (Degree.size-le F (R.mul (constant F (ω q.0)) q.1) n λ i l.
      coefficient-constant_mul F (ω q.0) q.1 i ∙ ap (F.mul (ω q.0)) (Degree.below_size F q.1 i (let k = h.0 in omega (arith, k, l))) ∙ Laws.mul-zero F.ring (ω q.0))
      (size-polynomial_sum n ω qs h.1)

  -- Σ ω(x_i)·(d/(t - x_i))(y) = ω(y)·∂d(y) at y = x_j
  sum-at-member : (ω : A → A) (y : A) (xs : List A) → Member y xs
      → sum_over F.ring (λ q. ω q.0 * value_at F y q.1) (cofactors xs) ≡ ω y * value_at F y (∂ (Π xs))
  unfolding sum_over
  sum-at-member ω y [] m = absurd m
  sum-at-member ω y (x ∷ xs) m =
      ap (λ z. ω x * value_at F y (Π xs) + z)
      (Sums.sum_over-map F.ring (λ q. ω q.0 * value_at F y q.1) (λ q. (q.0, R.mul (linear F x) q.1)) (cofactors xs)
      ∙ Sums.sum_over-ext F.ring _ _
      (λ q. ap (λ w. ω q.0 * w) (value_at-mul F y (linear F x) q.1) ∙ Laws.mul_left_comm F.ring (ω q.0) (value_at F y (linear F x)) (value_at F y q.1)) (cofactors xs)
      ∙ Sums.sum_over-mul F.ring (value_at F y (linear F x)) (λ q. ω q.0 * value_at F y q.1) (cofactors xs))
      ∙ go m (λ k. sum-at-member ω y xs k)
      ∙ ap (λ z. ω y * z) (sym (Roots.derivative-cons F y x xs))
    where
      rest : A
      rest = sum_over F.ring (λ q. ω q.0 * value_at F y q.1) (cofactors xs)

      go : (y ≡ x) ⊎ Member y xs
          → (Member y xs → sum_over F.ring (λ q. ω q.0 * value_at F y q.1) (cofactors xs) ≡ ω y * value_at F y (∂ (Π xs)))
          → ω x * value_at F y (Π xs) + value_at F y (linear F x) * sum_over F.ring (λ q. ω q.0 * value_at F y q.1) (cofactors xs)
          ≡ ω y * (value_at F y (Π xs) + value_at F y (linear F x) * value_at F y (∂ (Π xs)))
      go (inl e) ih =
          let z : value_at F y (linear F x) ≡ 𝟘 = ap (λ w. value_at F y (linear F w)) (sym e) ∙ value_at-linear_self F y in
          ap₂ (λ a b. ω a * value_at F y (Π xs) + b * rest) (sym e) z
          ∙ ap (λ w. ω y * value_at F y (Π xs) + w) (Laws.zero-mul F.ring rest) ∙ F.add-zero (ω y * value_at F y (Π xs))
          ∙ ap (λ w. ω y * w) (sym (ap (λ b. value_at F y (Π xs) + b * value_at F y (∂ (Π xs))) z
          ∙ ap (λ w. value_at F y (Π xs) + w) (Laws.zero-mul F.ring (value_at F y (∂ (Π xs)))) ∙ F.add-zero (value_at F y (Π xs))))
      go (inr k) ih =
          ap₂ (λ a b. ω x * a + value_at F y (linear F x) * b) (Roots.value_at-product_member F y xs k) (ih k)
          ∙ ap (λ w. w + value_at F y (linear F x) * (ω y * value_at F y (∂ (Π xs)))) (Laws.mul-zero F.ring (ω x))
          ∙ Laws.zero-add F.ring _ ∙ Laws.mul_left_comm F.ring (value_at F y (linear F x)) (ω y) (value_at F y (∂ (Π xs)))
          ∙ ap (λ w. ω y * w) (sym (ap (λ a. a + value_at F y (linear F x) * value_at F y (∂ (Π xs))) (Roots.value_at-product_member F y xs k) ∙ Laws.zero-add F.ring _))

  -- deg a < m and ω(x_i)·∂d(x_i) = a(x_i) give a = Σ ω(x_i)·(d/(t - x_i))
  pub lagrange : (xs : List A) (a : Polynomial F) (ω : A → A) → Distinct xs → size F a ≤ length xs
      → ((y : A) → Member y xs → ω y * value_at F y (∂ (Π xs)) ≡ value_at F y a)
      → a ≡ polynomial_sum ω (cofactors xs)
  lagrange xs a ω d l h = Laws.eq_of_sub R a (polynomial_sum ω (cofactors xs))
      (Roots.zero_of_roots F xs (R.add a (R.neg (polynomial_sum ω (cofactors xs)))) d
      (each_of_members xs (λ y m.
      value_at-add F y a (R.neg (polynomial_sum ω (cofactors xs)))
      ∙ ap (λ z. value_at F y a + z) (RingMaps.apply-neg (Evaluation.evaluation F F.ring (identity_map F.ring) y) (polynomial_sum ω (cofactors xs))
      ∙ ap (λ z. - z) (value_at-polynomial_sum y ω (cofactors xs) ∙ sum-at-member ω y xs m ∙ h y m))
      ∙ F.add-neg (value_at F y a)))
      (Degree.size-sub-le F a (polynomial_sum ω (cofactors xs)) (length xs) l
      (size-polynomial_sum (length xs) ω (cofactors xs) (each-map (size-cofactor xs) (cofactors xs) (cofactors-are_cofactors xs)))))
