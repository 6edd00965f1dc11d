-- The logarithmic derivative of a product, for any derivation on a field.
use Rattle.std.specs.Prelude.{◌≡◌, refl, [], ◌∷◌}
use Rattle.std.proofs.Common.{ap, ◌∙◌}
use Rattle.risch_ring.specs.CommRing.{Field, Derivation}
use Rattle.risch_ring.specs.Operators.{field_operators}
use Rattle.risch_ring.proofs.Fields.{fractions, field}

module _ {A : Type 0} (F : Field A) (D : Derivation F.ring) where
  open (field_operators F) use {𝟘, ◌+◌, ◌*◌, ◌/◌}

  -- D(x·y)/(x·y) = Dx/x + Dy/y
  pub log_derivative-mul : (x y : A) → ¬ (x ≡ 𝟘) → ¬ (y ≡ 𝟘) → D.derive (x * y) / (x * y) ≡ D.derive x / x + D.derive y / y
  log_derivative-mul x y h k = ap (λ w. w / (x * y)) (D.derive-mul x y) ∙ field F (x ∷ y ∷ D.derive x ∷ D.derive y ∷ []) (search fractions depth 20 fits 9000) refl
