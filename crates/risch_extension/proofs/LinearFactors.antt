-- Laws of linear factors t - x and their products: values, degrees, divisibility and derivatives.
use Rattle.std.specs.Prelude.{◌≡◌, ℕ, zero, suc, ◌≤◌, List, [], ◌∷◌}
use Rattle.std.proofs.Common.{refl, sym, ap, ap₂, ◌∙◌, arith}
use Rattle.risch_ring.specs.CommRing.{CommRing, Field, RingMap}
use Rattle.risch_ring.proofs.Laws as Laws
use Rattle.risch_univariate.specs.Polynomial.{Polynomial, constant, variable, coefficient}
use Rattle.risch_univariate.specs.Degree.{size}
use Rattle.risch_univariate.specs.Division.{Divides}
use Rattle.risch_univariate.proofs.Degree as Degree
use Rattle.risch_univariate.proofs.Division as Division
use Rattle.risch_univariate.proofs.Evaluation as Evaluation
use Rattle.risch_ring.proofs.RingMaps.{identity_map, compose}
use Rattle.risch_ring.proofs.RingMaps as RingMaps
use Rattle.risch_univariate.proofs.Evaluation.{constants}
use Rattle.risch_univariate.specs.PolynomialRing.{polynomials, horner}
use Rattle.risch_univariate.proofs.Coefficients.{coefficient-horner-suc}
use Rattle.std.specs.Prelude.{pred, length, map}
use Rattle.std.proofs.Common.{subst}
use Rattle.risch_univariate.specs.Degree.{IsMonic}
use Rattle.risch_univariate.proofs.Gcd as Gcd
use Rattle.risch_univariate.proofs.Derivation as Derivation
use Rattle.risch_univariate.proofs.FormalDerivative as FormalDerivative
use Rattle.risch_ring.proofs.Derivations as Derivations
use Rattle.risch_univariate.proofs.Coefficients.{coefficient-constant-zero}
use Rattle.risch_extension.specs.PolynomialMap.{map_polynomial}
use Rattle.risch_extension.specs.LinearFactors.{value_at, linear, product_of_linear}
use Rattle.risch_extension.proofs.PolynomialMaps.{map_polynomial-horner, map_polynomial-one, map_polynomial-mul}

module _ {A : Type 0} (F : Field A) where
  abbrev R : CommRing (Polynomial F)
  R = polynomials F

  -- (p + q)(x) = p(x) + q(x)
  pub value_at-add : (x : A) (p q : Polynomial F) → value_at F x (R.add p q) ≡ F.add (value_at F x p) (value_at F x q)
  value_at-add = Evaluation.value-add F F.ring (identity_map F.ring)

  -- (p·q)(x) = p(x)·q(x)
  pub value_at-mul : (x : A) (p q : Polynomial F) → value_at F x (R.mul p q) ≡ F.mul (value_at F x p) (value_at F x q)
  value_at-mul = Evaluation.value-mul F F.ring (identity_map F.ring)

  -- a(x) = a for a in K
  pub value_at-constant : (x a : A) → value_at F x (constant F a) ≡ a
  value_at-constant = Evaluation.value-constant F F.ring (identity_map F.ring)

  -- 0(x) = 0
  pub value_at-zero : (x : A) → value_at F x R.zero ≡ F.zero
  value_at-zero = Evaluation.value-zero F F.ring (identity_map F.ring)

  -- 1(x) = 1
  pub value_at-one : (x : A) → value_at F x R.one ≡ F.one
  value_at-one = Evaluation.value-one F F.ring (identity_map F.ring)

  -- (t - x)(y) = -x + y
  pub value_at-linear : (y x : A) → value_at F y (linear F x) ≡ F.add (F.neg x) y
  value_at-linear y x =
      Evaluation.value-horner F F.ring (identity_map F.ring) y (F.neg x) R.one ∙ ap (λ z. F.add (F.neg x) (F.mul y z)) (value_at-one y)
      ∙ ap (F.add (F.neg x)) (F.mul-one y)

  -- (t - x)(x) = 0
  pub value_at-linear_self : (x : A) → value_at F x (linear F x) ≡ F.zero
  value_at-linear_self x = value_at-linear x x ∙ Laws.neg-add F.ring x

  -- (t - x)(y) ≠ 0 for x ≠ y
  pub value_at-linear-nonzero : (y x : A) → ¬ (x ≡ y) → ¬ (value_at F y (linear F x) ≡ F.zero)
  value_at-linear-nonzero y x n e =
      n (sym (Laws.neg-neg F.ring x) ∙ ap F.neg (Laws.neg_of_add F.ring y (F.neg x) (sym (value_at-linear y x) ∙ e)) ∙ Laws.neg-neg F.ring y)

  -- deg (t - x) = 1
  pub size-linear : (x : A) → size F (linear F x) ≡ 2
  size-linear x =
      let k = Degree.size-ge F (linear F x) 1 (λ e. F.one-ne-zero
      (sym (coefficient-one) ∙ sym (coefficient-horner-suc F (F.neg x) R.one 0) ∙ e)) in
      let l = Degree.size-le F (linear F x) 2 beyond in
      omega (arith, k, l)
    where
      coefficient-one : coefficient F R.one 0 ≡ F.one
      coefficient-one = ap (λ z. coefficient F z 0) (sym (Degree.constant-one F)) ∙ coefficient-constant-zero F F.one

      beyond : (i : ℕ) → 2 ≤ i → coefficient F (linear F x) i ≡ F.zero
      beyond zero l = absurd (omega (arith, l))
      beyond (suc i) l = coefficient-horner-suc F (F.neg x) R.one i ∙ Degree.below_size F R.one i (let o = Degree.size-one F in omega (arith, o, l))

  -- t - x ≠ 0
  pub linear-nonzero : (x : A) → ¬ (linear F x ≡ R.zero)
  linear-nonzero x = Degree.nonzero_of_size F (linear F x) (let s = size-linear x in omega (arith, s))

  -- t - x is monic
  pub linear-is_monic : (x : A) → IsMonic F (linear F x)
  linear-is_monic x =
      ap (coefficient F (linear F x)) (ap pred (size-linear x)) ∙ coefficient-horner-suc F (F.neg x) R.one 0
      ∙ ap (λ z. coefficient F z 0) (sym (Degree.constant-one F)) ∙ coefficient-constant-zero F F.one

  -- ∂(t - x) = 1
  pub formal_derivative-linear : (x : A) → FormalDerivative.formal_derivative F (linear F x) ≡ R.one
  formal_derivative-linear x =
      FormalDerivative.formal_derivative-horner F (F.neg x) R.one
      ∙ ap (R.add R.one) (ap (R.mul (variable F)) (Derivations.derive-one (Derivation.formal_derivation F)) ∙ Laws.mul-zero R (variable F)) ∙ R.add-zero R.one

  -- p(x) = 0 gives t - x | p
  pub linear-divides : (x : A) (p : Polynomial F) → value_at F x p ≡ F.zero → Divides F (linear F x) p
  linear-divides x p h = record {
    cofactor = d.quotient;
    equation = d.is_division.equation ∙ ap (R.add (R.mul d.quotient (linear F x))) remainder-zero ∙ R.add-zero (R.mul d.quotient (linear F x));
  }
    where
      d : Division.Division F p (linear F x)
      d = Division.divide F (linear F x) (linear-nonzero x) p

      r : A
      r = coefficient F d.remainder 0

      is_constant : d.remainder ≡ constant F r
      is_constant = Degree.constant_of_size F d.remainder (let s = size-linear x in let l = d.is_division.smaller in omega (arith, s, l))

      value-remainder : r ≡ F.zero
      value-remainder =
          sym (Evaluation.value-constant F F.ring (identity_map F.ring) x r) ∙ ap (value_at F x) (sym is_constant)
          ∙ sym (Laws.zero-add F.ring (value_at F x d.remainder))
          ∙ ap (λ z. F.add z (value_at F x d.remainder))
          (sym (Evaluation.value-mul F F.ring (identity_map F.ring) x d.quotient (linear F x) ∙ ap (F.mul (value_at F x d.quotient)) (value_at-linear_self x) ∙ Laws.mul-zero F.ring (value_at F x d.quotient)))
          ∙ sym (Evaluation.value-add F F.ring (identity_map F.ring) x (R.mul d.quotient (linear F x)) d.remainder)
          ∙ ap (value_at F x) (sym d.is_division.equation) ∙ h

      remainder-zero : d.remainder ≡ R.zero
      remainder-zero = is_constant ∙ ap (constant F) value-remainder ∙ Degree.constant-zero F

  -- t - x | p gives p(x) = 0
  pub value_of_linear-divides : (x : A) (p : Polynomial F) → Divides F (linear F x) p → value_at F x p ≡ F.zero
  value_of_linear-divides x p h =
      ap (value_at F x) h.equation ∙ Evaluation.value-mul F F.ring (identity_map F.ring) x h.cofactor (linear F x) ∙ ap (F.mul (value_at F x h.cofactor)) (value_at-linear_self x)
      ∙ Laws.mul-zero F.ring (value_at F x h.cofactor)

  -- Π over x ∷ xs is (t - x)·Π over xs
  pub product_of_linear-cons : (x : A) (xs : List A) → product_of_linear F (x ∷ xs) ≡ R.mul (linear F x) (product_of_linear F xs)
  unfolding product_of_linear
  product_of_linear-cons x xs = refl

  -- the empty product is 1
  pub product_of_linear-nil : product_of_linear F [] ≡ R.one
  unfolding product_of_linear
  product_of_linear-nil = refl

  -- deg Π (t - x_i) = m
  pub size-product_of_linear : (xs : List A) → size F (product_of_linear F xs) ≡ suc (length xs)
  size-product_of_linear [] = ap (size F) product_of_linear-nil ∙ Degree.size-one F
  size-product_of_linear (x ∷ xs) =
      ap (size F) (product_of_linear-cons x xs) ∙ Degree.size-mul F (linear F x) (product_of_linear F xs) 1 (length xs) (size-linear x) (size-product_of_linear xs) ∙ omega arith

  -- Π (t - x_i) ≠ 0
  pub product_of_linear-nonzero : (xs : List A) → ¬ (product_of_linear F xs ≡ R.zero)
  product_of_linear-nonzero xs = Degree.nonzero_of_size F (product_of_linear F xs) (let s = size-product_of_linear xs in omega (arith, s))

  -- Π (t - x_i) is monic
  pub product_of_linear-is_monic : (xs : List A) → IsMonic F (product_of_linear F xs)
  product_of_linear-is_monic [] = subst (IsMonic F) (sym product_of_linear-nil) (Gcd.one-is_monic F)
  product_of_linear-is_monic (x ∷ xs) =
      subst (IsMonic F) (sym (product_of_linear-cons x xs)) (Gcd.mul-is_monic F (linear F x) (product_of_linear F xs) (linear-is_monic x) (product_of_linear-is_monic xs))

-- t - x is mapped to t - f(x)
pub map_polynomial-linear : {A B : Type 0} (F : Field A) (G : Field B) (f : RingMap F.ring G.ring) (x : A) → map_polynomial F G f (linear F x) ≡ linear G (f.apply x)
map_polynomial-linear F G f x =
    map_polynomial-horner F G f (F.neg x) (polynomials F).one ∙ ap₂ (horner G) (RingMaps.apply-neg f x) (map_polynomial-one F G f)

-- Π (t - x_i) is mapped to Π (t - f(x_i))
pub map-product_of_linear : {A B : Type 0} (F : Field A) (G : Field B) (f : RingMap F.ring G.ring) (xs : List A)
    → map_polynomial F G f (product_of_linear F xs) ≡ product_of_linear G (map f.apply xs)
map-product_of_linear F G f [] = ap (map_polynomial F G f) (product_of_linear-nil F) ∙ map_polynomial-one F G f ∙ sym (product_of_linear-nil G)
map-product_of_linear F G f (x ∷ xs) =
    ap (map_polynomial F G f) (product_of_linear-cons F x xs) ∙ map_polynomial-mul F G f (linear F x) (product_of_linear F xs)
    ∙ ap₂ (polynomials G).mul (map_polynomial-linear F G f x) (map-product_of_linear F G f xs) ∙ sym (product_of_linear-cons G (f.apply x) (map f.apply xs))
