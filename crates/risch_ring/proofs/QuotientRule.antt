-- A derivation of a field: the derivatives of 1/y and x/y, and the logarithmic derivative of a product.
use Rattle.std.specs.Prelude.{◌≡◌, refl, [], ◌∷◌}
use Rattle.std.proofs.Common.{sym, ap, ◌∙◌}
use Rattle.risch_ring.specs.CommRing.{Field, Derivation}
use Rattle.risch_ring.specs.Operators.{field_operators}
use Rattle.risch_ring.proofs.Solver.{linear}
use Rattle.risch_ring.proofs.Fields.{fractions, field}
use Rattle.risch_ring.proofs.Derivations.{derive-one}
use Rattle.risch_ring.specs.LogarithmicDerivative.{logarithmic_derivative}

module _ {A : Type 0} (F : Field A) (D : Derivation F.ring) where
  open (field_operators F) use {𝟘, 𝟙, ◌+◌, ◌-◌, ◌*◌, ◌/◌, -◌}

  -- D(1/y) = - D(y)/y^2
  pub derive-inverse : (y : A) → ¬ (y ≡ 𝟘) → D.derive (F.inverse y) ≡ - (D.derive y / (y * y))
  derive-inverse y p =
      let e : D.derive y * F.inverse y + y * D.derive (F.inverse y) ≡ 𝟘 =
      sym (D.derive-mul y (F.inverse y)) ∙ ap D.derive (F.mul-inverse y p) ∙ derive-one D in
      linear F.ring (F.inverse y) e (field F (y ∷ D.derive y ∷ D.derive (F.inverse y) ∷ []) (search fractions depth 20 fits 9000) refl)

  -- D(x/y) = (D(x)·y - x·D(y))/y^2
  pub derive-quotient : (x y : A) → ¬ (y ≡ 𝟘) → D.derive (x / y) ≡ (D.derive x * y - x * D.derive y) / (y * y)
  derive-quotient x y p =
      D.derive-mul x (F.inverse y) ∙ ap (λ w. D.derive x * F.inverse y + x * w) (derive-inverse y p)
      ∙ field F (x ∷ y ∷ D.derive x ∷ D.derive y ∷ []) (search fractions depth 20 fits 9000) refl

  -- x·(D(x)/x) = D(x)
  pub mul-logarithmic_derivative : (x : A) → ¬ (x ≡ 𝟘) → x * logarithmic_derivative F D x ≡ D.derive x
  mul-logarithmic_derivative x p = field F (x ∷ D.derive x ∷ []) (search fractions depth 20 fits 9000) refl

  -- D(x·y)/(x·y) = D(x)/x + D(y)/y
  pub logarithmic_derivative-mul : (x y : A) → ¬ (x ≡ 𝟘) → ¬ (y ≡ 𝟘) → logarithmic_derivative F D (x * y) ≡ logarithmic_derivative F D x + logarithmic_derivative F D y
  logarithmic_derivative-mul x y p q =
      ap (λ w. w / (x * y)) (D.derive-mul x y) ∙ field F (x ∷ y ∷ D.derive x ∷ D.derive y ∷ []) (search fractions depth 20 fits 9000) refl
