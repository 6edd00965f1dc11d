-- The derivation of K[t] that extends a derivation of K by a given value of Dt; with zero on K and Dt = 1 it is ∂.
use Rattle.std.specs.Prelude.{◌≡◌}
use Rattle.std.proofs.Common.{sym, ap, ap₂, ◌∙◌}
use Rattle.risch_ring.specs.CommRing.{CommRing, Field, Derivation}
use Rattle.risch_ring.proofs.Laws as Laws
use Rattle.risch_univariate.specs.Polynomial.{Polynomial, constant, variable}
use Rattle.risch_univariate.proofs.Degree as Degree
use Rattle.risch_univariate.proofs.Evaluation as Evaluation
use Rattle.risch_univariate.proofs.Identities as Identities
use Rattle.risch_ring.proofs.Derivations as Derivations
use Rattle.risch_univariate.specs.PolynomialRing.{polynomials, horner}
use Rattle.risch_univariate.proofs.PolynomialInduction.{polynomial_induction, recursion, recursion-zero, recursion-horner}

module _ {A : Type 0} (F : Field A) where
  abbrev R : CommRing (Polynomial F)
  R = polynomials F

  module _ (D : Derivation F.ring) (w : Polynomial F) where
    -- D(a + t·p) = D(a) + (p·w + t·D(p)), where w = Dt
    pub derive_polynomial : Polynomial F → Polynomial F
    derive_polynomial = recursion F R.zero (λ a p b. R.add (constant F (D.derive a)) (R.add (R.mul w p) (R.mul (variable F) b)))

    -- D(0) + (w·0 + t·0) = 0
    base : R.add (constant F (D.derive F.zero)) (R.add (R.mul w R.zero) (R.mul (variable F) R.zero)) ≡ R.zero
    base =
        ap₂ R.add (ap (constant F) (Derivations.derive-zero D) ∙ Degree.constant-zero F) (ap₂ R.add (Laws.mul-zero R w) (Laws.mul-zero R (variable F)) ∙ R.add-zero R.zero)
        ∙ R.add-zero R.zero

    -- D(0) = 0
    pub derive_polynomial-zero : derive_polynomial R.zero ≡ R.zero
    unfolding derive_polynomial
    derive_polynomial-zero = recursion-zero F R.zero (λ a p b. R.add (constant F (D.derive a)) (R.add (R.mul w p) (R.mul (variable F) b)))

    -- D(a + t·p) = D(a) + (w·p + t·D(p))
    pub derive_polynomial-horner : (a : A) (p : Polynomial F)
        → derive_polynomial (horner F a p) ≡ R.add (constant F (D.derive a)) (R.add (R.mul w p) (R.mul (variable F) (derive_polynomial p)))
    unfolding derive_polynomial
    derive_polynomial-horner = recursion-horner F R.zero (λ a p b. R.add (constant F (D.derive a)) (R.add (R.mul w p) (R.mul (variable F) b))) base

    -- D(a) in K[t] is D(a) in K
    pub derive_polynomial-constant : (a : A) → derive_polynomial (constant F a) ≡ constant F (D.derive a)
    derive_polynomial-constant a =
        ap derive_polynomial (sym (Evaluation.horner-constant F a)) ∙ derive_polynomial-horner a R.zero
        ∙ ap (λ z. R.add (constant F (D.derive a)) (R.add (R.mul w R.zero) (R.mul (variable F) z))) derive_polynomial-zero
        ∙ ap (R.add (constant F (D.derive a))) (ap₂ R.add (Laws.mul-zero R w) (Laws.mul-zero R (variable F)) ∙ R.add-zero R.zero)
        ∙ R.add-zero (constant F (D.derive a))

    -- D(t·p) = w·p + t·D(p)
    derive-variable_mul : (p : Polynomial F) → derive_polynomial (R.mul (variable F) p) ≡ R.add (R.mul w p) (R.mul (variable F) (derive_polynomial p))
    derive-variable_mul p =
        ap derive_polynomial (sym (Evaluation.horner-zero F p)) ∙ derive_polynomial-horner F.zero p
        ∙ ap (λ z. R.add z (R.add (R.mul w p) (R.mul (variable F) (derive_polynomial p)))) (ap (constant F) (Derivations.derive-zero D) ∙ Degree.constant-zero F)
        ∙ Laws.zero-add R (R.add (R.mul w p) (R.mul (variable F) (derive_polynomial p)))

    -- Dt = w
    pub derive_polynomial-variable : derive_polynomial (variable F) ≡ w
    derive_polynomial-variable =
        ap derive_polynomial (sym (R.mul-one (variable F))) ∙ derive-variable_mul R.one
        ∙ ap₂ R.add (R.mul-one w)
        (ap (R.mul (variable F)) (ap derive_polynomial (sym (Degree.constant-one F)) ∙ derive_polynomial-constant F.one ∙ ap (constant F) (Derivations.derive-one D) ∙ Degree.constant-zero F)
        ∙ Laws.mul-zero R (variable F))
        ∙ R.add-zero w

    -- D(p + q) = D(p) + D(q)
    pub derive_polynomial-add : (p q : Polynomial F) → derive_polynomial (R.add p q) ≡ R.add (derive_polynomial p) (derive_polynomial q)
    derive_polynomial-add = polynomial_induction F (λ p. (q : Polynomial F) → derive_polynomial (R.add p q) ≡ R.add (derive_polynomial p) (derive_polynomial q))
        (λ q. ap derive_polynomial (Laws.zero-add R q) ∙ sym (ap (λ z. R.add z (derive_polynomial q)) derive_polynomial-zero ∙ Laws.zero-add R (derive_polynomial q)))
        (λ a p ih. polynomial_induction F (λ q. derive_polynomial (R.add (horner F a p) q) ≡ R.add (derive_polynomial (horner F a p)) (derive_polynomial q))
        (ap derive_polynomial (R.add-zero (horner F a p)) ∙ sym (ap (R.add (derive_polynomial (horner F a p))) derive_polynomial-zero ∙ R.add-zero (derive_polynomial (horner F a p))))
        (λ b q no_hypothesis.
        ap derive_polynomial (Evaluation.horner-add F a b p q) ∙ derive_polynomial-horner (F.add a b) (R.add p q)
        ∙ ap₂ R.add (ap (constant F) (D.derive-add a b) ∙ Degree.constant-add F (D.derive a) (D.derive b))
        (ap₂ R.add (R.mul-add w p q) (ap (R.mul (variable F)) (ih q) ∙ R.mul-add (variable F) (derive_polynomial p) (derive_polynomial q)))
        ∙ Identities.add_exchange_three R (constant F (D.derive a)) (constant F (D.derive b)) (R.mul w p) (R.mul w q)
        (R.mul (variable F) (derive_polynomial p)) (R.mul (variable F) (derive_polynomial q))
        ∙ ap₂ R.add (sym (derive_polynomial-horner a p)) (sym (derive_polynomial-horner b q))))

    -- D(b·p) = D(b)·p + b·D(p) for b in K
    derive-constant_mul : (b : A) (p : Polynomial F)
        → derive_polynomial (R.mul (constant F b) p) ≡ R.add (R.mul (constant F (D.derive b)) p) (R.mul (constant F b) (derive_polynomial p))
    derive-constant_mul b = polynomial_induction F
        (λ p. derive_polynomial (R.mul (constant F b) p) ≡ R.add (R.mul (constant F (D.derive b)) p) (R.mul (constant F b) (derive_polynomial p)))
        (ap derive_polynomial (Laws.mul-zero R (constant F b)) ∙ derive_polynomial-zero
        ∙ sym (ap₂ R.add (Laws.mul-zero R (constant F (D.derive b))) (ap (R.mul (constant F b)) derive_polynomial-zero ∙ Laws.mul-zero R (constant F b)) ∙ R.add-zero R.zero))
        (λ a p ih.
        ap derive_polynomial (Evaluation.constant-mul-horner F b a p) ∙ derive_polynomial-horner (F.mul b a) (R.mul (constant F b) p)
        ∙ ap₂ R.add
        (ap (constant F) (D.derive-mul b a) ∙ Degree.constant-add F (F.mul (D.derive b) a) (F.mul b (D.derive a))
        ∙ ap₂ R.add (Degree.constant-mul F (D.derive b) a) (Degree.constant-mul F b (D.derive a)))
        (ap (λ z. R.add (R.mul w (R.mul (constant F b) p)) (R.mul (variable F) z)) ih)
        ∙ Identities.leibniz_constant_identity R (constant F (D.derive b)) (constant F b) (constant F a) (constant F (D.derive a)) w p (variable F) (derive_polynomial p)
        ∙ ap (λ z. R.add (R.mul (constant F (D.derive b)) (horner F a p)) (R.mul (constant F b) z)) (sym (derive_polynomial-horner a p)))

    -- Leibniz: D(p·q) = D(p)·q + p·D(q)
    pub derive_polynomial-mul : (p q : Polynomial F) → derive_polynomial (R.mul p q) ≡ R.add (R.mul (derive_polynomial p) q) (R.mul p (derive_polynomial q))
    derive_polynomial-mul p q = polynomial_induction F
        (λ p. derive_polynomial (R.mul p q) ≡ R.add (R.mul (derive_polynomial p) q) (R.mul p (derive_polynomial q)))
        (ap derive_polynomial (Laws.zero-mul R q) ∙ derive_polynomial-zero
        ∙ sym (ap₂ R.add (ap (λ z. R.mul z q) derive_polynomial-zero ∙ Laws.zero-mul R q) (Laws.zero-mul R (derive_polynomial q)) ∙ R.add-zero R.zero))
        (λ a p ih.
        ap derive_polynomial (Identities.mul_horner_identity R (constant F a) (variable F) p q)
        ∙ derive_polynomial-add (R.mul (constant F a) q) (R.mul (variable F) (R.mul p q))
        ∙ ap₂ R.add (derive-constant_mul a q) (derive-variable_mul (R.mul p q) ∙ ap (λ z. R.add (R.mul w (R.mul p q)) (R.mul (variable F) z)) ih)
        ∙ Identities.leibniz_identity R (constant F (D.derive a)) q (constant F a) (derive_polynomial q) w p (variable F) (derive_polynomial p)
        ∙ ap (λ z. R.add (R.mul z q) (R.mul (horner F a p) (derive_polynomial q))) (sym (derive_polynomial-horner a p)))
        p

    -- the derivation of K[t] with D on K and Dt = w
    abbrev pub derivation : Derivation R
    derivation = record { derive = derive_polynomial; derive-add = derive_polynomial-add; derive-mul = derive_polynomial-mul }

  -- ∂ = d/dt
  abbrev pub formal_derivation : Derivation R
  formal_derivation = derivation (Derivations.zero_derivation F.ring) R.one
