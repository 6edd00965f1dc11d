-- Worked examples of the solver in fields.
use Rattle.std.specs.Prelude.{◌≡◌, refl, [], ◌∷◌}
use Rattle.risch_ring.specs.CommRing.{Field}
use Rattle.risch_ring.specs.Operators.{field_operators}
use Rattle.risch_ring.proofs.Solver.{linear}
use Rattle.risch_ring.proofs.Fields.{fractions, field}

module _ {A : Type 0} (F : Field A) where
  open (field_operators F) use {𝟘, 𝟙, ◌+◌, ◌-◌, ◌*◌, ◌/◌, -◌, ◌^◌}

  quotient_add : (a b c d : A) → ¬ (b ≡ 𝟘) → ¬ (d ≡ 𝟘) → a / b + c / d ≡ (a * d + c * b) / (b * d)
  quotient_add a b c d p q = field F (a ∷ b ∷ c ∷ d ∷ []) (search fractions depth 20 fits 9000) refl

  quotient_of_quotients : (a b c d : A) → ¬ (b ≡ 𝟘) → ¬ (c ≡ 𝟘) → ¬ (d ≡ 𝟘) → ¬ (c / d ≡ 𝟘) → (a / b) / (c / d) ≡ (a * d) / (b * c)
  quotient_of_quotients a b c d p q r s = field F (a ∷ b ∷ c ∷ d ∷ []) (search fractions depth 20 fits 9000) refl

  -- a step of the partial fractions
  partial : (x y : A) → ¬ (x ≡ 𝟘) → ¬ (y ≡ 𝟘) → ¬ (x - y ≡ 𝟘) → 𝟙 / ((x - y) * y) - 𝟙 / ((x - y) * x) ≡ 𝟙 / (x * y)
  partial x y p q r = field F (x ∷ y ∷ []) (search fractions depth 20 fits 9000) refl

  -- with powers
  square_of_sum : (x y : A) → ¬ (x ≡ 𝟘) → ¬ (y ≡ 𝟘) → (x / y + y / x) ^ 2 ≡ (x ^ 4 + y ^ 4) / (x ^ 2 * y ^ 2) + 𝟙 + 𝟙
  square_of_sum x y p q = field F (x ∷ y ∷ []) (search fractions depth 20 fits 9000) refl

  -- Hermite's reduction of a/(u·v^(j+1)), with w for v^(j-1): from b·u·D(v) + c·v = -a/j it is D(b/v^j) + (-j·c - u·D(b))/(u·v^j)
  hermite : (a b c j u v w Db Dv : A) → ¬ (u ≡ 𝟘) → ¬ (v ≡ 𝟘) → ¬ (w ≡ 𝟘) → ¬ (j ≡ 𝟘)
      → b * (u * Dv) + c * v ≡ - (a / j)
      → a / (u * (w * v * v)) ≡ (Db * (w * v) - b * (j * w * Dv)) / (w * v * (w * v)) + (- (j * c) - u * Db) / (u * (w * v))
  hermite a b c j u v w Db Dv p q r s h =
      linear F.ring (j / (u * (w * v * v))) h
      (field F (a ∷ b ∷ c ∷ j ∷ u ∷ v ∷ w ∷ Db ∷ Dv ∷ []) (search fractions depth 20 fits 9000) refl)
