-- For R over a differential field L with constant coefficients, which in an extension M is Π (z - x_j) with distinct x_j, and s invertible modulo R:
--   the trace over L[z]/(R) of z·D(s)·s⁻¹ is Σ x_j·D(s(x_j))/s(x_j), where D(s) has Dz = 0.
use Rattle.std.specs.Prelude.{◌≡◌, List}
use Rattle.std.proofs.Common.{sym, ap, ap₂, ◌∙◌}
use Rattle.risch_ring.specs.CommRing.{CommRing, Field, Derivation}
use Rattle.risch_ring.specs.Sums.{sum_over}
use Rattle.risch_ring.proofs.Laws as Laws
use Rattle.risch_ring.proofs.Sums as RingSums
use Rattle.risch_univariate.specs.Polynomial.{Polynomial, variable}
use Rattle.risch_univariate.specs.Division.{IsCoprime}
use Rattle.risch_ring.proofs.FieldLaws as FieldLaws
use Rattle.risch_univariate.proofs.FormalDerivative as FormalDerivative
use Rattle.risch_univariate.proofs.Evaluation as Evaluation
use Rattle.risch_extension.proofs.Roots as Roots
use Rattle.risch_ring.proofs.Derivations as Derivations
use Rattle.risch_univariate.specs.PolynomialRing.{polynomials}
use Rattle.risch_extension.specs.PolynomialMap.{map_polynomial}
use Rattle.risch_extension.specs.LinearFactors.{value_at, product_of_linear}
use Rattle.risch_extension.proofs.PolynomialMaps.{value-map_polynomial}
use Rattle.risch_extension.specs.Extension.{Extension}
use Rattle.risch_extension.proofs.Extensions.{derive-at, map-formal_derivative}
use Rattle.risch_ring.specs.Lists.{Distinct, Member}
use Rattle.risch_ring.specs.LogarithmicDerivative.{logarithmic_derivative}
use Rattle.risch_extension.specs.Trace.{trace}
use Rattle.risch_extension.proofs.TraceAtRoots.{value-root, trace-at_roots}

module _ {A : Type 0} (F : Field A) (D : Derivation F.ring) (X : Extension F D) where
  abbrev R : CommRing (Polynomial F)
  R = polynomials F

  abbrev G : Field X.carrier
  G = X.field

  -- p(x) for p over L and x in M
  abbrev pub at : X.carrier → Polynomial F → X.carrier
  at x = Evaluation.value F X.field.ring X.map x

  abbrev κ : Polynomial F → Polynomial F
  κ = FormalDerivative.coefficientwise F D

  module _ (P : Polynomial F) (nonzero : ¬ (P ≡ (polynomials F).zero)) (xs : List X.carrier)
      (splits : map_polynomial F X.field X.map P ≡ product_of_linear X.field xs) (distinct : Distinct xs) where
    -- the roots of a polynomial with constant coefficients are constant
    pub constant_root : FormalDerivative.coefficientwise F D P ≡ (polynomials F).zero → (x : X.carrier) → Member x xs → X.derivation.derive x ≡ X.field.zero
    constant_root c x m = FieldLaws.zero_of_mul G (at x (FormalDerivative.formal_derivative F P)) (X.derivation.derive x) slope-nonzero
        (sym (Laws.zero-add G.ring _)
        ∙ ap (λ z. G.add z (G.mul (at x (FormalDerivative.formal_derivative F P)) (X.derivation.derive x))) (sym (ap (at x) c ∙ Evaluation.value-zero F G.ring X.map x))
        ∙ sym (derive-at F D X x P) ∙ ap X.derivation.derive (value-root F X.field X.map P nonzero xs splits distinct x m) ∙ Derivations.derive-zero X.derivation)
      where
        slope-nonzero : ¬ (at x (FormalDerivative.formal_derivative F P) ≡ X.field.zero)
        slope-nonzero e = Roots.derivative-nonzero G x xs distinct m
            (ap (value_at G x) (ap (FormalDerivative.formal_derivative G) (sym splits) ∙ sym (map-formal_derivative F G X.map P))
            ∙ value-map_polynomial F G X.map x (FormalDerivative.formal_derivative F P) ∙ e)

    -- s(x) has the inverse v(x) at the roots of P
    pub inverse-at : (s : Polynomial F) (c : IsCoprime F s P) (x : X.carrier) → Member x xs → X.field.mul (at x c.left) (at x s) ≡ X.field.one
    inverse-at s c x m =
        sym (G.add-zero _)
        ∙ ap₂ G.add (sym (Evaluation.value-mul F G.ring X.map x c.left s))
        (sym (Evaluation.value-mul F G.ring X.map x c.right P ∙ ap (G.mul (at x c.right)) (value-root F X.field X.map P nonzero xs splits distinct x m) ∙ Laws.mul-zero G.ring _))
        ∙ sym (Evaluation.value-add F G.ring X.map x _ _) ∙ ap (at x) c.equation ∙ (Evaluation.evaluation F G.ring X.map x).apply-one

    -- the trace of z·D(s)·s⁻¹
    abbrev pub logarithmic_trace : (s : Polynomial F) → IsCoprime F s P → A
    logarithmic_trace s c = trace F P nonzero ((polynomials F).mul (variable F) ((polynomials F).mul (FormalDerivative.coefficientwise F D s) c.left))

    -- the trace of z·D(s)·s⁻¹ is Σ x_j·D(s(x_j))/s(x_j)
    pub trace-logarithm : FormalDerivative.coefficientwise F D P ≡ (polynomials F).zero → (s : Polynomial F) (c : IsCoprime F s P)
        → X.map.apply (trace F P nonzero ((polynomials F).mul (variable F) ((polynomials F).mul (FormalDerivative.coefficientwise F D s) c.left)))
        ≡ sum_over X.field.ring (λ x. X.field.mul x (logarithmic_derivative X.field X.derivation (at x s))) xs
    trace-logarithm k s c =
        trace-at_roots F X.field X.map P nonzero xs splits distinct (R.mul (variable F) (R.mul (κ s) c.left))
        ∙ RingSums.sum_over-ext_members G.ring _ _ xs (λ x m.
        Evaluation.value-mul F G.ring X.map x (variable F) _
        ∙ ap₂ G.mul (Evaluation.value-variable F X.field.ring X.map x)
        (Evaluation.value-mul F G.ring X.map x (κ s) c.left
        ∙ ap₂ G.mul (derivative x m) (inverse x m)))
      where
        derivative : (x : X.carrier) → Member x xs → at x (FormalDerivative.coefficientwise F D s) ≡ X.derivation.derive (at x s)
        derivative x m = sym
            (derive-at F D X x s ∙ ap (λ z. G.add (at x (κ s)) (G.mul (at x (FormalDerivative.formal_derivative F s)) z)) (constant_root k x m)
            ∙ ap (G.add (at x (κ s))) (Laws.mul-zero G.ring _) ∙ G.add-zero (at x (κ s)))

        inverse : (x : X.carrier) → Member x xs → at x c.left ≡ X.field.inverse (at x s)
        inverse x m =
            let e = inverse-at s c x m in
            let n : ¬ (at x s ≡ X.field.zero) = λ z. G.one-ne-zero (sym e ∙ ap (G.mul (at x c.left)) z ∙ Laws.mul-zero G.ring _) in
            FieldLaws.mul_left_cancel G (at x s) _ _ n (G.mul_comm (at x s) (at x c.left) ∙ e ∙ sym (G.mul-inverse (at x s) n))
