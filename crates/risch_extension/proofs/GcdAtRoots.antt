-- For d = Π (t - x_i) with distinct x_i: gcd(d, p) is the product of the t - x_i with p(x_i) = 0.
use Rattle.std.specs.Prelude.{◌≡◌, ◌≤◌, List, [], ◌∷◌}
use Rattle.std.proofs.Common.{sym, ap, ap₂, subst, ◌∙◌, arith}
use native.Mathlib.Decide.{dec_le}
use Rattle.risch_ring.specs.CommRing.{CommRing, Field}
use Rattle.risch_ring.proofs.Laws as Laws
use Rattle.risch_univariate.specs.Polynomial.{Polynomial}
use Rattle.risch_univariate.specs.Degree.{size}
use Rattle.risch_univariate.specs.Division.{Divides, IsCoprime}
use Rattle.risch_univariate.proofs.Divides as Divides
use Rattle.risch_univariate.proofs.Gcd as Gcd
use Rattle.risch_univariate.proofs.Irreducible as Irreducible
use Rattle.risch_extension.proofs.Roots as Roots
use Rattle.risch_univariate.specs.PolynomialRing.{polynomials}
use Rattle.risch_extension.specs.LinearFactors.{value_at, linear, product_of_linear}
use Rattle.risch_extension.proofs.LinearFactors.{size-linear, value_of_linear-divides, product_of_linear-nil, product_of_linear-cons, linear-nonzero, product_of_linear-is_monic}
use Rattle.risch_ring.specs.Lists.{Each, Distinct}

module _ {A : Type 0} (F : Field A) (p : Polynomial F) where
  abbrev R : CommRing (Polynomial F)
  R = polynomials F

  abbrev Π : List A → Polynomial F
  Π = product_of_linear F

  -- p(x) ≠ 0 gives gcd(t - x, p) = 1
  pub linear-coprime : (x : A) → ¬ (value_at F x p ≡ F.zero) → IsCoprime F (linear F x) p
  linear-coprime x n = Gcd.coprime_of_divisors F (linear F x) p nonzero small
    where
      nonzero : ¬ (linear F x ≡ R.zero)
      nonzero = linear-nonzero F x

      small : (d : Polynomial F) → Divides F d (linear F x) → Divides F d p → size F d ≤ 1
      small d h k = elim (dec_le (size F d) 1) [
        | yes l ↦ l
        | no m ↦
            let s = size-linear F x in
            let l = Divides.size-divides F d (linear F x) h nonzero in
            absurd (n (value_of_linear-divides F x p
            (Divides.divides_trans F (linear F x) d p (Irreducible.divides_of_same_size F d (linear F x) h nonzero (omega (arith, s, l, m))) k)))
      ]

  -- the x_i with p(x_i) = 0, and the others
  unfoldable pub roots_of : List A → List A
  roots_of [] = []
  roots_of (x ∷ xs) = elim (F.is_zero (value_at F x p)) [ yes e ↦ x ∷ roots_of xs | no n ↦ roots_of xs ]

  others_of : List A → List A
  others_of [] = []
  others_of (x ∷ xs) = elim (F.is_zero (value_at F x p)) [ yes e ↦ others_of xs | no n ↦ x ∷ others_of xs ]

  -- d is the product over both
  product-split : (xs : List A) → Π xs ≡ R.mul (Π (roots_of xs)) (Π (others_of xs))
  unfolding roots_of others_of
  product-split [] = product_of_linear-nil F ∙ sym (ap₂ R.mul (product_of_linear-nil F) (product_of_linear-nil F) ∙ R.mul-one R.one)
  product-split (x ∷ xs) = product_of_linear-cons F x xs ∙ ap (R.mul (linear F x)) (product-split xs) ∙ go (F.is_zero (value_at F x p))
    where
      go : (d : Dec (value_at F x p ≡ F.zero)) → R.mul (linear F x) (R.mul (Π (roots_of xs)) (Π (others_of xs)))
          ≡ R.mul (Π (elim d as (λ z. List A) [ yes e ↦ x ∷ roots_of xs | no n ↦ roots_of xs ])) (Π (elim d as (λ z. List A) [ yes e ↦ others_of xs | no n ↦ x ∷ others_of xs ]))
      go (yes e) =
          sym (R.mul_assoc (linear F x) (Π (roots_of xs)) (Π (others_of xs))) ∙ ap (λ z. R.mul z (Π (others_of xs))) (sym (product_of_linear-cons F x (roots_of xs)))
      go (no n) =
          Laws.mul_left_comm R (linear F x) (Π (roots_of xs)) (Π (others_of xs)) ∙ ap (R.mul (Π (roots_of xs))) (sym (product_of_linear-cons F x (others_of xs)))

  -- p is 0 at each of them
  pub roots-zero : (xs : List A) → Each (λ x. value_at F x p ≡ F.zero) (roots_of xs)
  unfolding roots_of
  roots-zero [] = tt
  roots-zero (x ∷ xs) = go (F.is_zero (value_at F x p)) (roots-zero xs)
    where
      go : (d : Dec (value_at F x p ≡ F.zero)) → Each (λ x. value_at F x p ≡ F.zero) (roots_of xs)
          → Each (λ x. value_at F x p ≡ F.zero) (elim d as (λ z. List A) [ yes e ↦ x ∷ roots_of xs | no n ↦ roots_of xs ])
      go (yes e) h = (e, h)
      go (no n) h = h

  -- what holds of each x_i holds of each root
  pub roots-each : (P : A → Type 0) (xs : List A) → Each P xs → Each P (roots_of xs)
  unfolding roots_of
  roots-each P [] h = tt
  roots-each P (x ∷ xs) h = go (F.is_zero (value_at F x p)) (roots-each P xs h.1)
    where
      go : (d : Dec (value_at F x p ≡ F.zero)) → Each P (roots_of xs) → Each P (elim d as (λ z. List A) [ yes e ↦ x ∷ roots_of xs | no n ↦ roots_of xs ])
      go (yes e) k = (h.0, k)
      go (no n) k = k

  roots-distinct : (xs : List A) → Distinct xs → Distinct (roots_of xs)
  unfolding roots_of
  roots-distinct [] h = tt
  roots-distinct (x ∷ xs) h = go (F.is_zero (value_at F x p)) (roots-distinct xs h.1)
    where
      go : (d : Dec (value_at F x p ≡ F.zero)) → Distinct (roots_of xs) → Distinct (elim d as (λ z. List A) [ yes e ↦ x ∷ roots_of xs | no n ↦ roots_of xs ])
      go (yes e) k = (roots-each (λ y. ¬ (x ≡ y)) xs h.0, k)
      go (no n) k = k

  others-coprime : (xs : List A) → IsCoprime F (Π (others_of xs)) p
  unfolding others_of
  others-coprime [] = record {
    left = R.one;
    right = R.zero;
    equation = ap₂ R.add (ap (R.mul R.one) (product_of_linear-nil F) ∙ R.mul-one R.one) (Laws.zero-mul R p) ∙ R.add-zero R.one;
  }
  others-coprime (x ∷ xs) = go (F.is_zero (value_at F x p)) (others-coprime xs)
    where
      go : (d : Dec (value_at F x p ≡ F.zero)) → IsCoprime F (Π (others_of xs)) p → IsCoprime F (Π (elim d as (λ z. List A) [ yes e ↦ others_of xs | no n ↦ x ∷ others_of xs ])) p
      go (yes e) h = h
      go (no n) h =
          subst (λ z. IsCoprime F z p) (sym (product_of_linear-cons F x (others_of xs))) (Gcd.coprime-mul F (linear F x) (Π (others_of xs)) p (linear-coprime x n) h)

  -- gcd(Π (t - x_i), p) = Π over p(x_i) = 0 of (t - x_i)
  pub gcd-at_roots : (xs : List A) → Distinct xs → Π (roots_of xs) ≡ Gcd.gcd F (Π xs) p
  gcd-at_roots xs d = Gcd.gcd_unique F (Π (roots_of xs)) (Π xs) p
      (record {
        divides_left = subst (Divides F (Π (roots_of xs))) (sym (product-split xs)) (Divides.divides-mul_right F (Π (roots_of xs)) (Π (others_of xs)));
        divides_right = Roots.product-divides F (roots_of xs) p (roots-distinct xs d) (roots-zero xs);
        greatest = λ g h k.
            Gcd.coprime-divides_of_mul F g (Π (others_of xs)) (Π (roots_of xs))
            (Gcd.coprime_of_divides F g p (Π (others_of xs)) k (Gcd.coprime_sym F (Π (others_of xs)) p (others-coprime xs)))
            (subst (Divides F g) (product-split xs ∙ R.mul_comm (Π (roots_of xs)) (Π (others_of xs))) h);
      })
      (product_of_linear-is_monic F (roots_of xs))
