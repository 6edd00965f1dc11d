-- The identity of a step of Hermite reduction, in a commutative ring with a derivation: E = b/v^j, x = a/(u·v^(j + 1)) and b·(u·Dv) + c·v = -a/j give x - DE = (-(j·c) - u·Db)/(u·v^j).
use Rattle.std.proofs.Common.{◌≡◌, [], ◌∷◌, refl}
use Rattle.risch_ring.specs.CommRing.{CommRing}
use Rattle.risch_ring.specs.Operators.{operators}
use Rattle.risch_ring.proofs.Expression.{reading}
use Rattle.risch_ring.proofs.Solver.{ring, linear}

module _ {A : Type 0} (R : CommRing A) where
  open (operators R) use {𝟙, ◌+◌, ◌-◌, ◌*◌, -◌}

  -- with w = v^(j - 1), both sides times v
  pub hermite_step-identity : (x e e' a b b' c u v v' w j : A) → x * (u * (v * (v * w))) ≡ a → e * (v * w) ≡ b → e' * (v * w) + e * (j * w * v') ≡ b' → j * (u * v' * b + v * c) ≡ - a →
      v * ((x - e') * (u * (v * w))) ≡ v * (- (j * c) + - (u * b'))
  hermite_step-identity x e e' a b b' c u v v' w j whole piece derived solved =
      linear R 𝟙 whole (linear R (- (u * v)) derived (linear R (u * j * v') piece (linear R 𝟙 solved
      (ring R (x ∷ e ∷ e' ∷ a ∷ b ∷ b' ∷ c ∷ u ∷ v ∷ v' ∷ w ∷ j ∷ []) (search reading depth 40 fits 9000) refl))))
