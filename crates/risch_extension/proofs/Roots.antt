-- Roots of d = Π (t - x_i): d and its derivative at the x_i, and what vanishes at distinct x_i.
use Rattle.std.specs.Prelude.{◌≡◌, ◌≤◌, ◌⊎◌, List, [], ◌∷◌, length}
use Rattle.std.proofs.Common.{refl, sym, ap, ap₂, subst, ◌∙◌, arith, inl, inr}
use Rattle.risch_ring.specs.CommRing.{CommRing, Field}
use Rattle.risch_ring.specs.Operators.{operators}
use Rattle.risch_ring.specs.Lists.{Each, Member, Distinct}
use Rattle.risch_ring.proofs.Laws as Laws
use Rattle.risch_ring.proofs.FieldLaws as FieldLaws
use Rattle.risch_ring.proofs.Lists.{each_of_members, each-member}
use Rattle.risch_univariate.specs.Polynomial.{Polynomial, constant}
use Rattle.risch_univariate.specs.PolynomialRing.{polynomials}
use Rattle.risch_univariate.specs.Degree.{size}
use Rattle.risch_univariate.specs.Division.{Divides, IsCoprime}
use Rattle.risch_univariate.proofs.Degree as Degree
use Rattle.risch_univariate.proofs.Divides as Divides
use Rattle.risch_univariate.proofs.Derivation as Derivation
use Rattle.risch_univariate.proofs.FormalDerivative as FormalDerivative
use Rattle.risch_extension.specs.LinearFactors.{value_at, linear, product_of_linear}
use Rattle.risch_extension.proofs.LinearFactors.{value_at-add, value_at-mul, value_at-one, value_at-linear_self, value_at-linear-nonzero, linear-divides, formal_derivative-linear, product_of_linear-nil, product_of_linear-cons, size-product_of_linear}

module _ {A : Type 0} (F : Field A) where
  abbrev R : CommRing (Polynomial F)
  R = polynomials F

  open (operators F.ring) use {𝟘, 𝟙, ◌+◌, ◌*◌, -◌}

  abbrev Π : List A → Polynomial F
  Π = product_of_linear F

  abbrev ∂ : Polynomial F → Polynomial F
  ∂ = FormalDerivative.formal_derivative F

  -- (Π over x ∷ xs)(y) = (t - x)(y)·(Π over xs)(y)
  value_at-product_cons : (y x : A) (xs : List A) → value_at F y (Π (x ∷ xs)) ≡ value_at F y (linear F x) * value_at F y (Π xs)
  value_at-product_cons y x xs = ap (value_at F y) (product_of_linear-cons F x xs) ∙ value_at-mul F y (linear F x) (Π xs)

  -- Π (t - x_i) is 0 at each x_i
  pub value_at-product_member : (y : A) (xs : List A) → Member y xs → value_at F y (Π xs) ≡ 𝟘
  value_at-product_member y [] m = absurd m
  value_at-product_member y (x ∷ xs) m = value_at-product_cons y x xs ∙ go m (λ k. value_at-product_member y xs k)
    where
      go : (y ≡ x) ⊎ Member y xs → (Member y xs → value_at F y (Π xs) ≡ 𝟘) → value_at F y (linear F x) * value_at F y (Π xs) ≡ 𝟘
      go (inl e) ih = ap (λ z. value_at F y (linear F z) * value_at F y (Π xs)) (sym e) ∙ ap (λ z. z * value_at F y (Π xs)) (value_at-linear_self F y) ∙ Laws.zero-mul F.ring (value_at F y (Π xs))
      go (inr k) ih = ap (λ z. value_at F y (linear F x) * z) (ih k) ∙ Laws.mul-zero F.ring (value_at F y (linear F x))

  -- Π (t - x_i) is not 0 elsewhere
  value_at-product-nonzero : (y : A) (xs : List A) → Each (λ x. ¬ (y ≡ x)) xs → ¬ (value_at F y (Π xs) ≡ 𝟘)
  value_at-product-nonzero y [] h e = F.one-ne-zero (sym (value_at-one F y) ∙ ap (value_at F y) (sym (product_of_linear-nil F)) ∙ e)
  value_at-product-nonzero y (x ∷ xs) h e =
      FieldLaws.mul-nonzero F (value_at F y (linear F x)) (value_at F y (Π xs)) (value_at-linear-nonzero F y x (λ z. h.0 (sym z))) (value_at-product-nonzero y xs h.1) (sym (value_at-product_cons y x xs) ∙ e)

  -- p is a multiple of Π (t - x_i), if it is 0 at the distinct x_i
  pub product-divides : (xs : List A) (p : Polynomial F) → Distinct xs → Each (λ x. value_at F x p ≡ 𝟘) xs → Divides F (Π xs) p
  product-divides [] p d h = subst (λ z. Divides F z p) (sym (product_of_linear-nil F)) (Divides.unit-divides F R.one p (Degree.size-one F))
  product-divides (x ∷ xs) p d h = finish (product-divides xs first.cofactor d.1 (roots xs d.0 h.1))
    where
      first : Divides F (linear F x) p
      first = linear-divides F x p h.0

      roots : (ys : List A) → Each (λ y. ¬ (x ≡ y)) ys → Each (λ y. value_at F y p ≡ 𝟘) ys → Each (λ y. value_at F y first.cofactor ≡ 𝟘) ys
      roots [] n k = tt
      roots (y ∷ ys) n k = (
        FieldLaws.zero_of_mul F (value_at F y (linear F x)) (value_at F y first.cofactor) (value_at-linear-nonzero F y x n.0)
            (F.mul_comm (value_at F y (linear F x)) (value_at F y first.cofactor) ∙ sym (value_at-mul F y first.cofactor (linear F x)) ∙ ap (value_at F y) (sym first.equation) ∙ k.0),
        roots ys n.1 k.1,
      )

      finish : Divides F (Π xs) first.cofactor → Divides F (Π (x ∷ xs)) p
      finish s = record {
        cofactor = s.cofactor;
        equation =
            first.equation ∙ ap (λ z. R.mul z (linear F x)) s.equation ∙ R.mul_assoc s.cofactor (Π xs) (linear F x)
            ∙ ap (R.mul s.cofactor) (R.mul_comm (Π xs) (linear F x) ∙ sym (product_of_linear-cons F x xs));
      }

  -- a polynomial of degree below m that is 0 at m distinct elements is 0
  pub zero_of_roots : (xs : List A) (p : Polynomial F) → Distinct xs → Each (λ x. value_at F x p ≡ 𝟘) xs → size F p ≤ length xs → p ≡ R.zero
  zero_of_roots xs p d h l = elim (Degree.dec_zero F p) [
    | yes e ↦ e
    | no n ↦ let k = Divides.size-divides F (Π xs) p (product-divides xs p d h) n in let s = size-product_of_linear F xs in absurd (omega (arith, k, s, l))
  ]

  -- ---- the derivative at the roots

  -- ∂((t - x)·Π) = Π + (t - x)·∂Π
  pub derivative-cons : (y x : A) (xs : List A) → value_at F y (∂ (Π (x ∷ xs))) ≡ value_at F y (Π xs) + value_at F y (linear F x) * value_at F y (∂ (Π xs))
  derivative-cons y x xs =
      ap (λ z. value_at F y (∂ z)) (product_of_linear-cons F x xs)
      ∙ ap (value_at F y) ((Derivation.formal_derivation F).derive-mul (linear F x) (Π xs))
      ∙ value_at-add F y _ _
      ∙ ap₂ F.add
      (ap (value_at F y) (ap (λ z. R.mul z (Π xs)) (formal_derivative-linear F x) ∙ Laws.one-mul R (Π xs)))
      (value_at-mul F y (linear F x) (∂ (Π xs)))

  -- ∂((t - y)·q)(y) = q(y)
  pub derivative-at : (y : A) (q : Polynomial F) → value_at F y (∂ (R.mul (linear F y) q)) ≡ value_at F y q
  derivative-at y q =
      ap (value_at F y) ((Derivation.formal_derivation F).derive-mul (linear F y) q)
      ∙ value_at-add F y _ _
      ∙ ap₂ F.add
      (ap (λ z. value_at F y (R.mul z q)) (formal_derivative-linear F y) ∙ ap (value_at F y) (Laws.one-mul R q))
      (value_at-mul F y (linear F y) (∂ q) ∙ ap (λ z. z * value_at F y (∂ q)) (value_at-linear_self F y) ∙ Laws.zero-mul F.ring _)
      ∙ F.add-zero (value_at F y q)

  -- ∂d is not 0 at a root of d = Π (t - x_i) with distinct x_i
  pub derivative-nonzero : (y : A) (xs : List A) → Distinct xs → Member y xs → ¬ (value_at F y (∂ (Π xs)) ≡ 𝟘)
  derivative-nonzero y [] d m e = m
  derivative-nonzero y (x ∷ xs) d (inl k) e =
      value_at-product-nonzero x xs d.0
      (sym (F.add-zero (value_at F x (Π xs)))
      ∙ ap (λ z. value_at F x (Π xs) + z) (sym (ap (λ w. w * value_at F x (∂ (Π xs))) (value_at-linear_self F x) ∙ Laws.zero-mul F.ring _))
      ∙ sym (derivative-cons x x xs) ∙ ap (λ z. value_at F z (∂ (Π (x ∷ xs)))) (sym k) ∙ e)
  derivative-nonzero y (x ∷ xs) d (inr k) e =
      FieldLaws.mul-nonzero F (value_at F y (linear F x)) (value_at F y (∂ (Π xs))) (value_at-linear-nonzero F y x (each-member (λ z. ¬ (x ≡ z)) y xs d.0 k)) (derivative-nonzero y xs d.1 k)
      (sym (Laws.zero-add F.ring _) ∙ ap (λ z. z + value_at F y (linear F x) * value_at F y (∂ (Π xs))) (sym (value_at-product_member y xs k))
      ∙ sym (derivative-cons y x xs) ∙ e)

  -- ∂d ≠ 0 at every root of d = Π (t - x_i) makes the x_i distinct
  pub distinct_of_derivative : (xs : List A) → ((y : A) → Member y xs → ¬ (value_at F y (∂ (Π xs)) ≡ 𝟘)) → Distinct xs
  distinct_of_derivative [] h = tt
  distinct_of_derivative (x ∷ xs) h = (
    each_of_members xs (λ y m e. h x (inl refl)
        (derivative-cons x x xs
        ∙ ap₂ (λ a b. a + b * value_at F x (∂ (Π xs))) (ap (λ z. value_at F z (Π xs)) e ∙ value_at-product_member y xs m) (value_at-linear_self F x)
        ∙ Laws.zero-add F.ring _ ∙ Laws.zero-mul F.ring (value_at F x (∂ (Π xs))))),
    distinct_of_derivative xs (λ y m e. h y (inr m)
        (derivative-cons y x xs ∙ ap₂ (λ a b. a + value_at F y (linear F x) * b) (value_at-product_member y xs m) e
        ∙ Laws.zero-add F.ring _ ∙ Laws.mul-zero F.ring (value_at F y (linear F x)))),
  )

  -- d = c·Π (t - x_i) with gcd(d, ∂d) = 1 has distinct x_i
  pub distinct_of_coprime : (c : A) (xs : List A) → IsCoprime F (R.mul (constant F c) (Π xs)) (∂ (R.mul (constant F c) (Π xs))) → Distinct xs
  distinct_of_coprime c xs h = distinct_of_derivative xs λ y m e. F.one-ne-zero
      (sym (value_at-one F y) ∙ ap (value_at F y) (sym h.equation)
      ∙ value_at-add F y _ _ ∙ ap₂ F.add (value_at-mul F y h.left _ ∙ ap (λ z. value_at F y h.left * z) (zero y m)) (value_at-mul F y h.right _ ∙ ap (λ z. value_at F y h.right * z) (slope-zero y m e))
      ∙ ap₂ F.add (Laws.mul-zero F.ring (value_at F y h.left)) (Laws.mul-zero F.ring (value_at F y h.right)) ∙ F.add-zero 𝟘)
    where
      zero : (y : A) → Member y xs → value_at F y (R.mul (constant F c) (Π xs)) ≡ 𝟘
      zero y m = value_at-mul F y (constant F c) (Π xs) ∙ ap (λ z. value_at F y (constant F c) * z) (value_at-product_member y xs m) ∙ Laws.mul-zero F.ring (value_at F y (constant F c))

      slope-zero : (y : A) → Member y xs → value_at F y (∂ (Π xs)) ≡ 𝟘 → value_at F y (∂ (R.mul (constant F c) (Π xs))) ≡ 𝟘
      slope-zero y m e =
          ap (value_at F y) ((Derivation.formal_derivation F).derive-mul (constant F c) (Π xs)) ∙ value_at-add F y _ _
          ∙ ap₂ F.add
          (value_at-mul F y _ (Π xs) ∙ ap (λ z. value_at F y (∂ (constant F c)) * z) (value_at-product_member y xs m) ∙ Laws.mul-zero F.ring _)
          (value_at-mul F y (constant F c) _ ∙ ap (λ z. value_at F y (constant F c) * z) e ∙ Laws.mul-zero F.ring _)
          ∙ F.add-zero 𝟘
