-- The value of a polynomial at an element of a ring above K, as a homomorphism of rings.
use Rattle.std.specs.Prelude.{◌≡◌}
use Rattle.std.proofs.Common.{sym, ap, ap₂, ◌∙◌}
use Rattle.risch_ring.specs.CommRing.{CommRing, Field, RingMap}
use Rattle.risch_ring.proofs.Laws as Laws
use Rattle.risch_univariate.specs.Polynomial.{Polynomial, constant, variable}
use Rattle.risch_univariate.proofs.Degree as Degree
use Rattle.risch_ring.proofs.RingMaps as RingMaps
use Rattle.risch_univariate.proofs.Identities as Identities
use Rattle.risch_univariate.specs.PolynomialRing.{polynomials, horner}
use Rattle.risch_univariate.proofs.PolynomialInduction.{polynomial_induction, recursion, recursion-zero, recursion-horner}

module _ {A : Type 0} (F : Field A) where
  abbrev R : CommRing (Polynomial F)
  R = polynomials F

  -- a + t·p and b + t·q add up to (a + b) + t·(p + q)
  pub horner-add : (a b : A) (p q : Polynomial F) → R.add (horner F a p) (horner F b q) ≡ horner F (F.add a b) (R.add p q)
  horner-add a b p q =
      Identities.add_horner_identity R (constant F a) (constant F b) (variable F) p q ∙ ap (λ z. R.add z (R.mul (variable F) (R.add p q))) (sym (Degree.constant-add F a b))

  -- 0 + t·p = t·p
  pub horner-zero : (p : Polynomial F) → horner F F.zero p ≡ R.mul (variable F) p
  horner-zero p = ap (λ z. R.add z (R.mul (variable F) p)) (Degree.constant-zero F) ∙ Laws.zero-add R (R.mul (variable F) p)

  -- a + t·0 = a
  pub horner-constant : (a : A) → horner F a R.zero ≡ constant F a
  horner-constant a = ap (R.add (constant F a)) (Laws.mul-zero R (variable F)) ∙ R.add-zero (constant F a)

  -- b·(a + t·p) = b·a + t·(b·p)
  pub constant-mul-horner : (b a : A) (p : Polynomial F) → R.mul (constant F b) (horner F a p) ≡ horner F (F.mul b a) (R.mul (constant F b) p)
  constant-mul-horner b a p =
      R.mul-add (constant F b) (constant F a) (R.mul (variable F) p) ∙ ap₂ R.add (sym (Degree.constant-mul F b a)) (Laws.mul_left_comm R (constant F b) (variable F) p)

  module _ {B : Type 0} (S : CommRing B) (f : RingMap F.ring S) (x : B) where
    -- the value at x, with f for the coefficients: Σ f(a_i)·x^i
    pub value : Polynomial F → B
    value = recursion F S.zero (λ a p v. S.add (f.apply a) (S.mul x v))

    -- f(0) + x·0 = 0
    base : S.add (f.apply F.zero) (S.mul x S.zero) ≡ S.zero
    base = ap₂ S.add (RingMaps.apply-zero f) (Laws.mul-zero S x) ∙ S.add-zero S.zero

    -- 0(x) = 0
    pub value-zero : value R.zero ≡ S.zero
    unfolding value
    value-zero = recursion-zero F S.zero (λ a p v. S.add (f.apply a) (S.mul x v))

    -- the value of a + t·p is f(a) + x·value(p)
    pub value-horner : (a : A) (p : Polynomial F) → value (horner F a p) ≡ S.add (f.apply a) (S.mul x (value p))
    unfolding value
    value-horner = recursion-horner F S.zero (λ a p v. S.add (f.apply a) (S.mul x v)) base

    -- a(x) = f(a) for a in K
    pub value-constant : (a : A) → value (constant F a) ≡ f.apply a
    value-constant a =
        ap value (sym (horner-constant a)) ∙ value-horner a R.zero ∙ ap (λ z. S.add (f.apply a) (S.mul x z)) value-zero
        ∙ ap (S.add (f.apply a)) (Laws.mul-zero S x) ∙ S.add-zero (f.apply a)

    -- (t·p)(x) = x·p(x)
    pub value-variable_mul : (p : Polynomial F) → value (R.mul (variable F) p) ≡ S.mul x (value p)
    value-variable_mul p =
        ap value (sym (horner-zero p)) ∙ value-horner F.zero p ∙ ap (λ z. S.add z (S.mul x (value p))) (RingMaps.apply-zero f) ∙ Laws.zero-add S (S.mul x (value p))

    -- 1(x) = 1
    pub value-one : value R.one ≡ S.one
    value-one = ap value (sym (Degree.constant-one F)) ∙ value-constant F.one ∙ f.apply-one

    -- t(x) = x
    pub value-variable : value (variable F) ≡ x
    value-variable = ap value (sym (R.mul-one (variable F))) ∙ value-variable_mul R.one ∙ ap (S.mul x) value-one ∙ S.mul-one x

    -- (p + q)(x) = p(x) + q(x)
    pub value-add : (p q : Polynomial F) → value (R.add p q) ≡ S.add (value p) (value q)
    value-add = polynomial_induction F (λ p. (q : Polynomial F) → value (R.add p q) ≡ S.add (value p) (value q))
        (λ q. ap value (Laws.zero-add R q) ∙ sym (ap (λ z. S.add z (value q)) value-zero ∙ Laws.zero-add S (value q)))
        (λ a p ih. polynomial_induction F (λ q. value (R.add (horner F a p) q) ≡ S.add (value (horner F a p)) (value q))
        (ap value (R.add-zero (horner F a p)) ∙ sym (ap (S.add (value (horner F a p))) value-zero ∙ S.add-zero (value (horner F a p))))
        (λ b q no_hypothesis.
        ap value (horner-add a b p q) ∙ value-horner (F.add a b) (R.add p q)
        ∙ ap₂ (λ y z. S.add y (S.mul x z)) (f.apply-add a b) (ih q)
        ∙ sym (Identities.add_horner_identity S (f.apply a) (f.apply b) x (value p) (value q))
        ∙ ap₂ S.add (sym (value-horner a p)) (sym (value-horner b q))))

    -- (b·p)(x) = f(b)·p(x) for b in K
    pub value-constant_mul : (b : A) (p : Polynomial F) → value (R.mul (constant F b) p) ≡ S.mul (f.apply b) (value p)
    value-constant_mul b = polynomial_induction F (λ p. value (R.mul (constant F b) p) ≡ S.mul (f.apply b) (value p))
        (ap value (Laws.mul-zero R (constant F b)) ∙ value-zero ∙ sym (ap (S.mul (f.apply b)) value-zero ∙ Laws.mul-zero S (f.apply b)))
        (λ a p ih.
        ap value (constant-mul-horner b a p) ∙ value-horner (F.mul b a) (R.mul (constant F b) p)
        ∙ ap₂ (λ y z. S.add y (S.mul x z)) (f.apply-mul b a) ih
        ∙ ap (S.add (S.mul (f.apply b) (f.apply a))) (Laws.mul_left_comm S x (f.apply b) (value p))
        ∙ sym (S.mul-add (f.apply b) (f.apply a) (S.mul x (value p)))
        ∙ ap (S.mul (f.apply b)) (sym (value-horner a p)))

    -- (p·q)(x) = p(x)·q(x)
    pub value-mul : (p q : Polynomial F) → value (R.mul p q) ≡ S.mul (value p) (value q)
    value-mul p q = polynomial_induction F (λ p. value (R.mul p q) ≡ S.mul (value p) (value q))
        (ap value (Laws.zero-mul R q) ∙ value-zero ∙ sym (ap (λ z. S.mul z (value q)) value-zero ∙ Laws.zero-mul S (value q)))
        (λ a p ih.
        ap value (Identities.mul_horner_identity R (constant F a) (variable F) p q) ∙ value-add (R.mul (constant F a) q) (R.mul (variable F) (R.mul p q))
        ∙ ap₂ S.add (value-constant_mul a q) (value-variable_mul (R.mul p q) ∙ ap (S.mul x) ih)
        ∙ sym (Identities.mul_horner_identity S (f.apply a) x (value p) (value q))
        ∙ ap (λ z. S.mul z (value q)) (sym (value-horner a p)))
        p

    -- p ↦ p(x) is a homomorphism
    abbrev pub evaluation : RingMap R S
    evaluation = record {
      apply = value;
      apply-one = value-one;
      apply-add = value-add;
      apply-mul = value-mul;
    }

-- K → K[t], a ↦ a
abbrev pub constants : {A : Type 0} (F : Field A) → RingMap F.ring (polynomials F)
constants F = record { apply = constant F; apply-one = Degree.constant-one F; apply-add = Degree.constant-add F; apply-mul = Degree.constant-mul F }
