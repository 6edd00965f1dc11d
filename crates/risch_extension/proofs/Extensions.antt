-- Laws of extensions E of a differential field K: K[t] → E[t] commutes with derivations and keeps coprimality, and D(p(x)) in E.
use Rattle.std.specs.Prelude.{◌≡◌, [], ◌∷◌}
use Rattle.std.proofs.Common.{refl, sym, ap, ap₂, ◌∙◌}
use Rattle.risch_ring.specs.CommRing.{Field, RingMap, Derivation}
use Rattle.risch_univariate.specs.Polynomial.{Polynomial, constant, variable}
use Rattle.risch_univariate.specs.Division.{IsCoprime}
use Rattle.risch_univariate.proofs.Evaluation as Evaluation
use Rattle.risch_univariate.proofs.Derivation as Derivation
use Rattle.risch_ring.proofs.RingMaps.{identity_map, compose}
use Rattle.risch_ring.proofs.RingMaps as RingMaps
use Rattle.risch_univariate.specs.PolynomialRing.{polynomials}
use Rattle.risch_univariate.proofs.PolynomialInduction.{polynomial_induction}
use Rattle.risch_ring.specs.CommRing.{CommRing}
use Rattle.risch_ring.proofs.Laws as Laws
use Rattle.risch_ring.proofs.Derivations as Derivations
use Rattle.risch_ring.proofs.Expression.{reading}
use Rattle.risch_ring.proofs.Solver.{ring}
use Rattle.risch_univariate.proofs.FormalDerivative as FormalDerivative
use Rattle.risch_extension.specs.PolynomialMap.{map_polynomial}
use Rattle.risch_extension.proofs.PolynomialMaps.{map_polynomial-zero, map_polynomial-constant, map_polynomial-horner, map_polynomial-add, map_polynomial-variable, map_polynomial-one, map_polynomial-mul}
use Rattle.risch_extension.specs.Extension.{Extension}

module _ {A : Type 0} (F : Field A) (D : Derivation F.ring) (X : Extension F D) where
  abbrev mapped : Polynomial F → Polynomial X.field
  mapped = map_polynomial F X.field X.map

  -- the coefficients of D(p) in the extension are those of D of p in the extension
  pub map-derive_polynomial : (w p : Polynomial F)
      → map_polynomial F X.field X.map (Derivation.derive_polynomial F D w p) ≡ Derivation.derive_polynomial X.field X.derivation (map_polynomial F X.field X.map w) (map_polynomial F X.field X.map p)
  map-derive_polynomial w = polynomial_induction F
      (λ p. map_polynomial F X.field X.map (Derivation.derive_polynomial F D w p) ≡ Derivation.derive_polynomial X.field X.derivation (map_polynomial F X.field X.map w) (map_polynomial F X.field X.map p))
      (ap mapped (Derivation.derive_polynomial-zero F D w) ∙ map_polynomial-zero F X.field X.map
      ∙ sym (ap (Derivation.derive_polynomial X.field X.derivation (mapped w)) (map_polynomial-zero F X.field X.map) ∙ Derivation.derive_polynomial-zero X.field X.derivation (mapped w)))
      (λ a p ih.
      ap mapped (Derivation.derive_polynomial-horner F D w a p)
      ∙ map_polynomial-add F X.field X.map _ _
      ∙ ap₂ (polynomials X.field).add
      (map_polynomial-constant F X.field X.map (D.derive a) ∙ ap (constant X.field) (sym (X.map-derive a)))
      (map_polynomial-add F X.field X.map _ _
      ∙ ap₂ (polynomials X.field).add (map_polynomial-mul F X.field X.map w p)
      (map_polynomial-mul F X.field X.map (variable F) (Derivation.derive_polynomial F D w p) ∙ ap₂ (polynomials X.field).mul (map_polynomial-variable F X.field X.map) ih))
      ∙ sym (Derivation.derive_polynomial-horner X.field X.derivation (mapped w) (X.map.apply a) (mapped p))
      ∙ ap (Derivation.derive_polynomial X.field X.derivation (mapped w)) (sym (map_polynomial-horner F X.field X.map a p)))

  abbrev R : CommRing (Polynomial F)
  R = polynomials F

  abbrev G : Field X.carrier
  G = X.field

  -- p(x) for p over K and x in E
  abbrev pub at : X.carrier → Polynomial F → X.carrier
  at x = Evaluation.value F X.field.ring X.map x

  abbrev κ : Polynomial F → Polynomial F
  κ = FormalDerivative.coefficientwise F D

  -- D(p(x)) = (κ_D p)(x) + (∂p)(x)·D(x)
  pub derive-at : (x : X.carrier) (p : Polynomial F)
      → X.derivation.derive (at x p) ≡ X.field.add (at x (FormalDerivative.coefficientwise F D p)) (X.field.mul (at x (FormalDerivative.formal_derivative F p)) (X.derivation.derive x))
  derive-at x = polynomial_induction F
      (λ p. X.derivation.derive (at x p) ≡ G.add (at x (κ p)) (G.mul (at x (FormalDerivative.formal_derivative F p)) (X.derivation.derive x)))
      (ap X.derivation.derive (Evaluation.value-zero F G.ring X.map x) ∙ Derivations.derive-zero X.derivation
      ∙ sym (ap₂ (λ y z. G.add y (G.mul z (X.derivation.derive x)))
      (ap (at x) (Derivation.derive_polynomial-zero F D R.zero) ∙ Evaluation.value-zero F G.ring X.map x)
      (ap (at x) (Derivation.derive_polynomial-zero F (Derivations.zero_derivation F.ring) R.one) ∙ Evaluation.value-zero F G.ring X.map x)
      ∙ Laws.zero-add G.ring _ ∙ Laws.zero-mul G.ring (X.derivation.derive x)))
      (λ a p ih.
      ap X.derivation.derive (Evaluation.value-horner F G.ring X.map x a p)
      ∙ X.derivation.derive-add _ _
      ∙ ap₂ G.add (X.map-derive a) (X.derivation.derive-mul x (at x p) ∙ ap (λ z. G.add (G.mul (X.derivation.derive x) (at x p)) (G.mul x z)) ih)
      ∙ identity (X.map.apply (D.derive a)) x (X.derivation.derive x) (at x p) (at x (κ p)) (at x (FormalDerivative.formal_derivative F p))
      ∙ sym (ap₂ (λ y z. G.add y (G.mul z (X.derivation.derive x)))
      (ap (at x) (FormalDerivative.coefficientwise-horner F D a p) ∙ Evaluation.value-horner F G.ring X.map x (D.derive a) (κ p))
      (ap (at x) (FormalDerivative.formal_derivative-horner F a p) ∙ Evaluation.value-add F G.ring X.map x _ _
      ∙ ap (G.add (at x p)) (Evaluation.value-variable_mul F G.ring X.map x (FormalDerivative.formal_derivative F p)))))
    where
      identity : (b x y p k d : X.carrier) → X.field.add b (X.field.add (X.field.mul y p) (X.field.mul x (X.field.add k (X.field.mul d y))))
          ≡ X.field.add (X.field.add b (X.field.mul x k)) (X.field.mul (X.field.add p (X.field.mul x d)) y)
      identity b x y p k d = ring G.ring (b ∷ x ∷ y ∷ p ∷ k ∷ d ∷ []) (search reading depth 40 fits 9000) refl

-- ∂ commutes with a homomorphism of fields
pub map-formal_derivative : {A B : Type 0} (F : Field A) (G : Field B) (f : RingMap F.ring G.ring) (p : Polynomial F)
    → map_polynomial F G f (FormalDerivative.formal_derivative F p) ≡ FormalDerivative.formal_derivative G (map_polynomial F G f p)
map-formal_derivative {B = B} F G f p =
    map-derive_polynomial F (Derivations.zero_derivation F.ring)
    (record {
      carrier = B;
      field = G;
      derivation = Derivations.zero_derivation G.ring;
      map = f;
      map-derive = λ x. sym (RingMaps.apply-zero f);
    })
    (polynomials F).one p
    ∙ ap (λ w. Derivation.derive_polynomial G (Derivations.zero_derivation G.ring) w (map_polynomial F G f p)) (map_polynomial-one F G f)

-- gcd(a, b) = 1 stays in an extension
pub map-coprime : {A B : Type 0} (F : Field A) (G : Field B) (f : RingMap F.ring G.ring) (a b : Polynomial F) → IsCoprime F a b → IsCoprime G (map_polynomial F G f a) (map_polynomial F G f b)
map-coprime F G f a b h = record {
  left = map_polynomial F G f h.left;
  right = map_polynomial F G f h.right;
  equation =
      ap₂ (polynomials G).add (sym (map_polynomial-mul F G f h.left a)) (sym (map_polynomial-mul F G f h.right b))
      ∙ sym (map_polynomial-add F G f _ _) ∙ ap (map_polynomial F G f) h.equation ∙ map_polynomial-one F G f;
}
