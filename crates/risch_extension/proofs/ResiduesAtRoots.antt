-- Residues at the roots of d = Π (t - x_i), distinct: with α_i·D(d)(x_i) = a(x_i) and deg a < deg d it is
--   Σ α_i·D(t - x_i)·d/(t - x_i) = a where Dt = η is in K, and = a + η·(Σ α_i)·d where Dt = η·t.
-- Divided by d: Σ α_i·D(t - x_i)/(t - x_i) = a/d, and = a/d + η·Σ α_i.
use Rattle.std.specs.Prelude.{◌≡◌, ◌≤◌, ◌⊎◌, List, [], ◌∷◌, length}
use Rattle.std.proofs.Common.{refl, sym, ap, ap₂, ◌∙◌, inl, inr}
use Rattle.risch_ring.specs.CommRing.{CommRing, Field, Derivation}
use Rattle.risch_ring.proofs.Laws as Laws
use Rattle.risch_ring.proofs.Expression.{reading}
use Rattle.risch_ring.proofs.Solver.{ring}
use Rattle.risch_univariate.specs.Polynomial.{Polynomial, constant, variable}
use Rattle.risch_univariate.specs.Degree.{size}
use Rattle.risch_univariate.proofs.Degree as Degree
use Rattle.risch_univariate.proofs.Derivation as Derivation
use Rattle.risch_univariate.proofs.Evaluation as Evaluation
use Rattle.risch_univariate.proofs.FormalDerivative as FormalDerivative
use Rattle.risch_extension.proofs.Roots as Roots
use Rattle.risch_ring.proofs.RingMaps.{identity_map}
use Rattle.risch_ring.proofs.Derivations as Derivations
use Rattle.risch_ring.specs.Operators.{operators}
use Rattle.risch_univariate.specs.PolynomialRing.{polynomials}
use Rattle.risch_ring.specs.Sums.{sum_over}
use Rattle.risch_extension.specs.LinearFactors.{value_at, linear, product_of_linear}
use Rattle.risch_extension.proofs.LinearFactors.{product_of_linear-cons, value_at-linear_self}
use Rattle.risch_extension.proofs.LagrangeInterpolation as Lagrange
use Rattle.risch_ring.proofs.Lists.{each-map}
use Rattle.risch_ring.specs.Lists.{Each, Distinct, Member}

module _ {A : Type 0} (F : Field A) (D : Derivation F.ring) (w : Polynomial F) where
  abbrev R : CommRing (Polynomial F)
  R = polynomials F

  open (operators F.ring) use {𝟘, 𝟙, ◌+◌, ◌*◌, -◌}

  -- D on K[t] with Dt = w
  abbrev derive : Polynomial F → Polynomial F
  derive = Derivation.derive_polynomial F D w

  abbrev Π : List A → Polynomial F
  Π = product_of_linear F

  -- D(t - x) = w - D(x)
  pub derive-linear : (x : A) → derive (linear F x) ≡ R.add w (constant F (- D.derive x))
  derive-linear x =
      Derivation.derive_polynomial-add F D w (constant F (- x)) (R.mul (variable F) R.one)
      ∙ ap₂ R.add
      (Derivation.derive_polynomial-constant F D w (- x) ∙ ap (constant F) (Derivations.derive-neg D x))
      (ap derive (R.mul-one (variable F)) ∙ Derivation.derive_polynomial-variable F D w)
      ∙ R.add_comm (constant F (- D.derive x)) w

  -- D((t - x)·Π)(y) = D(t - x)(y)·Π(y) + (t - x)(y)·D(Π)(y)
  derive-cons : (y x : A) (xs : List A)
      → value_at F y (derive (Π (x ∷ xs))) ≡ value_at F y (derive (linear F x)) * value_at F y (Π xs) + value_at F y (linear F x) * value_at F y (derive (Π xs))
  derive-cons y x xs =
      ap (λ z. value_at F y (derive z)) (product_of_linear-cons F x xs) ∙ ap (value_at F y) (Derivation.derive_polynomial-mul F D w (linear F x) (Π xs))
      ∙ Evaluation.value-add F F.ring (identity_map F.ring) y _ _
      ∙ ap₂ F.add (Evaluation.value-mul F F.ring (identity_map F.ring) y _ _) (Evaluation.value-mul F F.ring (identity_map F.ring) y _ _)

  -- D(d)(y) = D(t - y)(y)·∂d(y) at a root y of d
  pub derive-at-root : (y : A) (xs : List A) → Member y xs
      → value_at F y (derive (Π xs)) ≡ value_at F y (derive (linear F y)) * value_at F y (FormalDerivative.formal_derivative F (Π xs))
  derive-at-root y [] m = absurd m
  derive-at-root y (x ∷ xs) m = derive-cons y x xs ∙ go m (λ k. derive-at-root y xs k) ∙ ap (λ z. value_at F y (derive (linear F y)) * z) (sym (Roots.derivative-cons F y x xs))
    where
      s : A
      s = value_at F y (linear F x)

      go : (y ≡ x) ⊎ Member y xs
          → (Member y xs → value_at F y (derive (Π xs)) ≡ value_at F y (derive (linear F y)) * value_at F y (FormalDerivative.formal_derivative F (Π xs)))
          → value_at F y (derive (linear F x)) * value_at F y (Π xs) + value_at F y (linear F x) * value_at F y (derive (Π xs))
          ≡ value_at F y (derive (linear F y)) * (value_at F y (Π xs) + value_at F y (linear F x) * value_at F y (FormalDerivative.formal_derivative F (Π xs)))
      go (inl e) ih =
          let z : value_at F y (linear F x) ≡ 𝟘 = ap (λ v. value_at F y (linear F v)) (sym e) ∙ value_at-linear_self F y in
          ap₂ (λ u v. value_at F y (derive (linear F u)) * value_at F y (Π xs) + v * value_at F y (derive (Π xs))) (sym e) z
          ∙ ap (λ v. value_at F y (derive (linear F y)) * value_at F y (Π xs) + v) (Laws.zero-mul F.ring (value_at F y (derive (Π xs))))
          ∙ F.add-zero _
          ∙ ap (λ v. value_at F y (derive (linear F y)) * v)
          (sym (ap (λ v. value_at F y (Π xs) + v * value_at F y (FormalDerivative.formal_derivative F (Π xs))) z
          ∙ ap (λ v. value_at F y (Π xs) + v) (Laws.zero-mul F.ring _) ∙ F.add-zero (value_at F y (Π xs))))
      go (inr k) ih =
          let z = Roots.value_at-product_member F y xs k in
          ap₂ (λ u v. value_at F y (derive (linear F x)) * u + value_at F y (linear F x) * v) z (ih k)
          ∙ ap (λ v. v + value_at F y (linear F x) * (value_at F y (derive (linear F y)) * value_at F y (FormalDerivative.formal_derivative F (Π xs))))
          (Laws.mul-zero F.ring (value_at F y (derive (linear F x))))
          ∙ Laws.zero-add F.ring _
          ∙ Laws.mul_left_comm F.ring (value_at F y (linear F x)) (value_at F y (derive (linear F y))) (value_at F y (FormalDerivative.formal_derivative F (Π xs)))
          ∙ ap (λ v. value_at F y (derive (linear F y)) * v)
          (sym (ap (λ v. v + value_at F y (linear F x) * value_at F y (FormalDerivative.formal_derivative F (Π xs))) z ∙ Laws.zero-add F.ring _))

  -- a = Σ α_i·D(t - x_i)(x_i)·d/(t - x_i), if α_i·D(d)(x_i) = a(x_i) and deg a < deg d
  pub residues : (xs : List A) (a : Polynomial F) (α : A → A) → Distinct xs → size F a ≤ length xs
      → ((y : A) → Member y xs → α y * value_at F y (derive (Π xs)) ≡ value_at F y a)
      → a ≡ Lagrange.polynomial_sum F (λ y. α y * value_at F y (derive (linear F y))) (Lagrange.cofactors F xs)
  residues xs a α d l h = Lagrange.lagrange F xs a (λ y. α y * value_at F y (derive (linear F y))) d l
      (λ y m. F.mul_assoc (α y) (value_at F y (derive (linear F y))) (value_at F y (FormalDerivative.formal_derivative F (Π xs)))
      ∙ ap (λ z. α y * z) (sym (derive-at-root y xs m)) ∙ h y m)

  -- Σ α(x_i)·D(t - x_i)·q_i
  abbrev pub logarithmic_sum : (A → A) → List (A × Polynomial F) → Polynomial F
  logarithmic_sum α qs = sum_over R (λ q. R.mul (constant F (α q.0)) (R.mul (derive (linear F q.0)) q.1)) qs

  -- D(t - x)(x)
  abbrev pub slope : A → A
  slope x = value_at F x (derive (linear F x))

-- ---- Dt = η in K

module _ {A : Type 0} (F : Field A) (D : Derivation F.ring) (η : A) where
  abbrev R₁ : CommRing (Polynomial F)
  R₁ = polynomials F

  -- D(t - x) is the constant η - D(x)
  derive-linear-primitive : (x : A) → Derivation.derive_polynomial F D (constant F η) (linear F x) ≡ constant F (F.add η (F.neg (D.derive x)))
  derive-linear-primitive x = derive-linear F D (constant F η) x ∙ sym (Degree.constant-add F η (F.neg (D.derive x)))

  slope-primitive : (x : A) → constant F (slope F D (constant F η) x) ≡ Derivation.derive_polynomial F D (constant F η) (linear F x)
  slope-primitive x =
      ap (constant F) (ap (value_at F x) (derive-linear-primitive x) ∙ Evaluation.value-constant F F.ring (identity_map F.ring) x _) ∙ sym (derive-linear-primitive x)

  sums-primitive : (α : A → A) (qs : List (A × Polynomial F))
      → Lagrange.polynomial_sum F (λ y. F.mul (α y) (slope F D (constant F η) y)) qs ≡ logarithmic_sum F D (constant F η) α qs
  unfolding sum_over
  sums-primitive α [] = refl
  sums-primitive α (q ∷ qs) = ap₂ R₁.add
      (ap (λ z. R₁.mul z q.1) (Degree.constant-mul F (α q.0) (slope F D (constant F η) q.0) ∙ ap (R₁.mul (constant F (α q.0))) (slope-primitive q.0))
      ∙ R₁.mul_assoc (constant F (α q.0)) (Derivation.derive_polynomial F D (constant F η) (linear F q.0)) q.1)
      (sums-primitive α qs)

  -- a = Σ α_i·D(t - x_i)·d/(t - x_i)
  pub residues-primitive : (xs : List A) (a : Polynomial F) (α : A → A) → Distinct xs → size F a ≤ length xs
      → ((y : A) → Member y xs → F.mul (α y) (value_at F y (Derivation.derive_polynomial F D (constant F η) (product_of_linear F xs))) ≡ value_at F y a)
      → a ≡ logarithmic_sum F D (constant F η) α (Lagrange.cofactors F xs)
  residues-primitive xs a α d l h = residues F D (constant F η) xs a α d l h ∙ sums-primitive α (Lagrange.cofactors F xs)

-- ---- Dt = η·t

module _ {A : Type 0} (F : Field A) (D : Derivation F.ring) (η : A) where
  abbrev R₂ : CommRing (Polynomial F)
  R₂ = polynomials F

  abbrev ηt : Polynomial F
  ηt = R₂.mul (constant F η) (variable F)

  -- D(t - x) = η·(t - x) + (η·x - D(x))
  derive-linear-exponential : (x : A) → Derivation.derive_polynomial F D (R₂.mul (constant F η) (variable F)) (linear F x)
      ≡ R₂.add (R₂.mul (constant F η) (linear F x)) (constant F (F.add (F.mul η x) (F.neg (D.derive x))))
  derive-linear-exponential x =
      derive-linear F D (R₂.mul (constant F η) (variable F)) x
      ∙ ring_identity (constant F η) (variable F) (constant F x) (constant F (F.neg (D.derive x)))
      ∙ ap₂ (λ y z. R₂.add (R₂.mul (constant F η) (R₂.add y (R₂.mul (variable F) R₂.one))) (R₂.add z (constant F (F.neg (D.derive x)))))
      (sym (Degree.constant-neg F x)) (sym (Degree.constant-mul F η x))
      ∙ ap (R₂.add (R₂.mul (constant F η) (linear F x))) (sym (Degree.constant-add F (F.mul η x) (F.neg (D.derive x))))
    where
      ring_identity : (e t y d : Polynomial F) → R₂.add (R₂.mul e t) d ≡ R₂.add (R₂.mul e (R₂.add (R₂.neg y) (R₂.mul t R₂.one))) (R₂.add (R₂.mul e y) d)
      ring_identity e t y d = ring R₂ (e ∷ t ∷ y ∷ d ∷ []) (search reading depth 20 fits 9000) refl

  slope-exponential : (x : A) → slope F D (R₂.mul (constant F η) (variable F)) x ≡ F.add (F.mul η x) (F.neg (D.derive x))
  slope-exponential x =
      ap (value_at F x) (derive-linear-exponential x) ∙ Evaluation.value-add F F.ring (identity_map F.ring) x _ _
      ∙ ap₂ F.add
      (Evaluation.value-mul F F.ring (identity_map F.ring) x (constant F η) (linear F x) ∙ ap (F.mul (value_at F x (constant F η))) (value_at-linear_self F x) ∙ Laws.mul-zero F.ring _)
      (Evaluation.value-constant F F.ring (identity_map F.ring) x _)
      ∙ Laws.zero-add F.ring _

  -- Σ α_i·D(t - x_i)·q_i = η·(Σ α_i)·d + Σ α_i·D(t - x_i)(x_i)·q_i, where (t - x_i)·q_i = d
  sums-exponential : (d : Polynomial F) (α : A → A) (qs : List (A × Polynomial F)) → Each (λ q. R₂.mul (linear F q.0) q.1 ≡ d) qs
      → logarithmic_sum F D (R₂.mul (constant F η) (variable F)) α qs
      ≡ R₂.add (R₂.mul (constant F (F.mul η (sum_over F.ring (λ q. α q.0) qs))) d)
      (Lagrange.polynomial_sum F (λ y. F.mul (α y) (slope F D (R₂.mul (constant F η) (variable F)) y)) qs)
  unfolding sum_over
  sums-exponential d α [] h =
      sym (ap (λ z. R₂.add z R₂.zero) (ap (λ z. R₂.mul z d) (ap (constant F) (Laws.mul-zero F.ring η) ∙ Degree.constant-zero F) ∙ Laws.zero-mul R₂ d) ∙ R₂.add-zero R₂.zero)
  sums-exponential d α (q ∷ qs) h =
      let c = constant F (α q.0) in
      let s = slope F D (R₂.mul (constant F η) (variable F)) q.0 in
      let S = sum_over F.ring (λ q. α q.0) qs in
      let rest = Lagrange.polynomial_sum F (λ y. F.mul (α y) (slope F D (R₂.mul (constant F η) (variable F)) y)) qs in
      ap₂ R₂.add
      (ap (λ z. R₂.mul c (R₂.mul z q.1)) (derive-linear-exponential q.0 ∙ ap (λ z. R₂.add (R₂.mul (constant F η) (linear F q.0)) (constant F z)) (sym (slope-exponential q.0)))
      ∙ first c (constant F η) (linear F q.0) (constant F s) q.1 ∙ ap (λ z. R₂.add (R₂.mul c (R₂.mul (constant F η) z)) (R₂.mul (R₂.mul c (constant F s)) q.1)) h.0)
      (sums-exponential d α qs h.1)
      ∙ ap (λ z. R₂.add (R₂.add (R₂.mul c (R₂.mul (constant F η) d)) (R₂.mul (R₂.mul c (constant F s)) q.1)) (R₂.add (R₂.mul z d) rest)) (Degree.constant-mul F η S)
      ∙ second c (constant F η) d (R₂.mul c (constant F s)) q.1 (constant F S) rest
      ∙ ap₂ (λ y z. R₂.add (R₂.mul y d) (R₂.add (R₂.mul z q.1) rest))
      (ap (R₂.mul (constant F η)) (sym (Degree.constant-add F (α q.0) S)) ∙ sym (Degree.constant-mul F η (F.add (α q.0) S)))
      (sym (Degree.constant-mul F (α q.0) s))
    where
      first : (c e l s q : Polynomial F) → R₂.mul c (R₂.mul (R₂.add (R₂.mul e l) s) q) ≡ R₂.add (R₂.mul c (R₂.mul e (R₂.mul l q))) (R₂.mul (R₂.mul c s) q)
      first c e l s q = ring R₂ (c ∷ e ∷ l ∷ s ∷ q ∷ []) (search reading depth 20 fits 9000) refl

      second : (c e d v q S r : Polynomial F)
          → R₂.add (R₂.add (R₂.mul c (R₂.mul e d)) (R₂.mul v q)) (R₂.add (R₂.mul (R₂.mul e S) d) r) ≡ R₂.add (R₂.mul (R₂.mul e (R₂.add c S)) d) (R₂.add (R₂.mul v q) r)
      second c e d v q S r = ring R₂ (c ∷ e ∷ d ∷ v ∷ q ∷ S ∷ r ∷ []) (search reading depth 20 fits 9000) refl

  -- Σ α_i·D(t - x_i)·d/(t - x_i) = η·(Σ α_i)·d + a
  pub residues-exponential : (xs : List A) (a : Polynomial F) (α : A → A) → Distinct xs → size F a ≤ length xs
      → ((y : A) → Member y xs → F.mul (α y) (value_at F y (Derivation.derive_polynomial F D (R₂.mul (constant F η) (variable F)) (product_of_linear F xs))) ≡ value_at F y a)
      → logarithmic_sum F D (R₂.mul (constant F η) (variable F)) α (Lagrange.cofactors F xs)
      ≡ R₂.add (R₂.mul (constant F (F.mul η (sum_over F.ring α xs))) (product_of_linear F xs)) a
  residues-exponential xs a α d l h =
      sums-exponential (product_of_linear F xs) α (Lagrange.cofactors F xs) (each-map (λ q h. h.1) (Lagrange.cofactors F xs) (Lagrange.cofactors-are_cofactors F xs))
      ∙ ap₂ (λ y z. R₂.add (R₂.mul (constant F (F.mul η y)) (product_of_linear F xs)) z) (Lagrange.sum_over-cofactors F F.ring (λ q. α q.0) α xs (λ q h. refl)) (sym (residues F D (R₂.mul (constant F η) (variable F)) xs a α d l h))
