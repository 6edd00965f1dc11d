-- Laws of homomorphisms of fields on polynomials: f applied to the coefficients is a homomorphism, and keeps degrees and values.
use Rattle.std.specs.Prelude.{◌≡◌, ℕ, zero, suc, ◌≤◌}
use Rattle.std.proofs.Common.{refl, sym, ap, ◌∙◌, arith}
use Rattle.risch_ring.specs.CommRing.{CommRing, Field, RingMap}
use Rattle.risch_univariate.specs.Polynomial.{Polynomial, constant, variable, coefficient}
use Rattle.risch_univariate.specs.Degree.{size}
use Rattle.risch_univariate.proofs.Degree as Degree
use Rattle.risch_univariate.proofs.Evaluation as Evaluation
use Rattle.risch_ring.proofs.RingMaps.{identity_map, compose}
use Rattle.risch_ring.proofs.RingMaps as RingMaps
use Rattle.risch_univariate.proofs.Evaluation.{constants}
use Rattle.risch_univariate.specs.PolynomialRing.{polynomials, horner}
use Rattle.risch_univariate.proofs.PolynomialInduction.{polynomial_induction}
use Rattle.risch_univariate.proofs.Coefficients.{coefficient-zero, coefficient-horner-zero, coefficient-horner-suc}
use Rattle.risch_extension.specs.PolynomialMap.{map_polynomial}

module _ {A B : Type 0} (F : Field A) (G : Field B) (f : RingMap F.ring G.ring) where
  abbrev R : CommRing (Polynomial F)
  R = polynomials F

  abbrev S : CommRing (Polynomial G)
  S = polynomials G

  -- f(0) = 0
  pub map_polynomial-zero : map_polynomial F G f R.zero ≡ S.zero
  unfolding map_polynomial
  map_polynomial-zero = Evaluation.value-zero F S (compose (constants G) f) (variable G)

  -- f(a + t·p) = f(a) + t·f(p)
  pub map_polynomial-horner : (a : A) (p : Polynomial F) → map_polynomial F G f (horner F a p) ≡ horner G (f.apply a) (map_polynomial F G f p)
  unfolding map_polynomial
  map_polynomial-horner = Evaluation.value-horner F S (compose (constants G) f) (variable G)

  -- f on a constant
  pub map_polynomial-constant : (a : A) → map_polynomial F G f (constant F a) ≡ constant G (f.apply a)
  unfolding map_polynomial
  map_polynomial-constant = Evaluation.value-constant F S (compose (constants G) f) (variable G)

  -- f(p·q) = f(p)·f(q)
  pub map_polynomial-mul : (p q : Polynomial F) → map_polynomial F G f (R.mul p q) ≡ S.mul (map_polynomial F G f p) (map_polynomial F G f q)
  unfolding map_polynomial
  map_polynomial-mul = Evaluation.value-mul F S (compose (constants G) f) (variable G)

  -- f(p + q) = f(p) + f(q)
  pub map_polynomial-add : (p q : Polynomial F) → map_polynomial F G f (R.add p q) ≡ S.add (map_polynomial F G f p) (map_polynomial F G f q)
  unfolding map_polynomial
  map_polynomial-add = Evaluation.value-add F S (compose (constants G) f) (variable G)

  -- f(t) = t
  pub map_polynomial-variable : map_polynomial F G f (variable F) ≡ variable G
  unfolding map_polynomial
  map_polynomial-variable =
      ap (Evaluation.value F S (compose (constants G) f) (variable G)) (sym (R.mul-one (variable F)))
      ∙ Evaluation.value-variable_mul F S (compose (constants G) f) (variable G) R.one
      ∙ ap (S.mul (variable G))
      (ap (Evaluation.value F S (compose (constants G) f) (variable G)) (sym (Degree.constant-one F))
      ∙ Evaluation.value-constant F S (compose (constants G) f) (variable G) F.one ∙ ap (constant G) f.apply-one ∙ Degree.constant-one G)
      ∙ S.mul-one (variable G)

  -- f(1) = 1
  pub map_polynomial-one : map_polynomial F G f R.one ≡ S.one
  map_polynomial-one = ap (map_polynomial F G f) (sym (Degree.constant-one F)) ∙ map_polynomial-constant F.one ∙ ap (constant G) f.apply-one ∙ Degree.constant-one G

  -- f(p)_i = f(p_i)
  pub coefficient-map_polynomial : (p : Polynomial F) (i : ℕ) → coefficient G (map_polynomial F G f p) i ≡ f.apply (coefficient F p i)
  coefficient-map_polynomial = polynomial_induction F (λ p. (i : ℕ) → coefficient G (map_polynomial F G f p) i ≡ f.apply (coefficient F p i))
      (λ i. ap (λ z. coefficient G z i) map_polynomial-zero ∙ coefficient-zero G i ∙ sym (ap f.apply (coefficient-zero F i) ∙ RingMaps.apply-zero f))
      step
    where
      step : (a : A) (p : Polynomial F) → ((i : ℕ) → coefficient G (map_polynomial F G f p) i ≡ f.apply (coefficient F p i))
          → (i : ℕ) → coefficient G (map_polynomial F G f (horner F a p)) i ≡ f.apply (coefficient F (horner F a p) i)
      step a p ih zero =
          ap (λ z. coefficient G z 0) (map_polynomial-horner a p) ∙ coefficient-horner-zero G (f.apply a) (map_polynomial F G f p) ∙ ap f.apply (sym (coefficient-horner-zero F a p))
      step a p ih (suc i) =
          ap (λ z. coefficient G z (suc i)) (map_polynomial-horner a p) ∙ coefficient-horner-suc G (f.apply a) (map_polynomial F G f p) i ∙ ih i
          ∙ ap f.apply (sym (coefficient-horner-suc F a p i))

  -- f keeps the degree
  pub size-map_polynomial : (p : Polynomial F) → size G (map_polynomial F G f p) ≡ size F p
  size-map_polynomial p = go (size F p) refl (Degree.size-le G (map_polynomial F G f p) (size F p) λ i l.
      coefficient-map_polynomial p i ∙ ap f.apply (Degree.below_size F p i l) ∙ RingMaps.apply-zero f)
    where
      go : (n : ℕ) → size F p ≡ n → size G (map_polynomial F G f p) ≤ size F p → size G (map_polynomial F G f p) ≡ size F p
      go zero e l = omega (arith, e, l)
      go (suc n) e l =
          let k = Degree.size-ge G (map_polynomial F G f p) n (λ z. RingMaps.apply-nonzero F G f (coefficient F p n) (Degree.leading-nonzero F p n e) (sym (coefficient-map_polynomial p n) ∙ z)) in
          omega (arith, e, l, k)

  -- p ≠ 0 gives f(p) ≠ 0
  pub map_polynomial-nonzero : (p : Polynomial F) → ¬ (p ≡ R.zero) → ¬ (map_polynomial F G f p ≡ S.zero)
  map_polynomial-nonzero p n =
      Degree.nonzero_of_size G (map_polynomial F G f p) (let s = size-map_polynomial p in let o = Degree.size_of_nonzero F p n in omega (arith, s, o))

  -- the value at x with f for the coefficients is the value of the mapped polynomial
  pub value-map_polynomial : (x : B) (p : Polynomial F) → Evaluation.value G G.ring (identity_map G.ring) x (map_polynomial F G f p) ≡ Evaluation.value F G.ring f x p
  value-map_polynomial x = polynomial_induction F
      (λ p. Evaluation.value G G.ring (identity_map G.ring) x (map_polynomial F G f p) ≡ Evaluation.value F G.ring f x p)
      (ap (Evaluation.value G G.ring (identity_map G.ring) x) map_polynomial-zero ∙ Evaluation.value-zero G G.ring (identity_map G.ring) x ∙ sym (Evaluation.value-zero F G.ring f x))
      (λ a p ih.
      ap (Evaluation.value G G.ring (identity_map G.ring) x) (map_polynomial-horner a p)
      ∙ Evaluation.value-horner G G.ring (identity_map G.ring) x (f.apply a) (map_polynomial F G f p)
      ∙ ap (λ z. G.add (f.apply a) (G.mul x z)) ih ∙ sym (Evaluation.value-horner F G.ring f x a p))

-- the identity on the coefficients is the identity
pub map_polynomial-identity : {A : Type 0} (F : Field A) (p : Polynomial F) → map_polynomial F F (identity_map F.ring) p ≡ p
map_polynomial-identity F = polynomial_induction F (λ p. map_polynomial F F (identity_map F.ring) p ≡ p)
    (map_polynomial-zero F F (identity_map F.ring))
    (λ a p ih. map_polynomial-horner F F (identity_map F.ring) a p ∙ ap (horner F a) ih)

-- (g ∘ f) on the coefficients
pub map_polynomial-compose : {A B C : Type 0} (F : Field A) (G : Field B) (H : Field C) (f : RingMap F.ring G.ring) (g : RingMap G.ring H.ring) (p : Polynomial F)
    → map_polynomial F H (compose g f) p ≡ map_polynomial G H g (map_polynomial F G f p)
map_polynomial-compose F G H f g = polynomial_induction F (λ p. map_polynomial F H (compose g f) p ≡ map_polynomial G H g (map_polynomial F G f p))
    (map_polynomial-zero F H (compose g f) ∙ sym (ap (map_polynomial G H g) (map_polynomial-zero F G f) ∙ map_polynomial-zero G H g))
    (λ a p ih.
    map_polynomial-horner F H (compose g f) a p ∙ ap (horner H (g.apply (f.apply a))) ih
    ∙ sym (ap (map_polynomial G H g) (map_polynomial-horner F G f a p) ∙ map_polynomial-horner G H g (f.apply a) (map_polynomial F G f p)))
