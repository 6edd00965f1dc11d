-- The variable of a level as a polynomial.
use Rattle.std.specs.Prelude.{IsTrue, IsFalse}
use Rattle.std.proofs.Common.{◌≡◌, ◌+◌, ◌≤◌, [], ◌∷◌, refl, arith}
use Rattle.risch_field.specs.Ops.{Ops}
use Rattle.risch_polynomial.specs.Poly as poly
use Rattle.risch_polynomial.specs.Polynomial.{IsPolynomial}

module _ {E : Type 0} (o : Ops E) where
  pub variable_is_polynomial : IsTrue (o.is_zero o.zero) → IsFalse (o.is_zero o.one) → o.weight o.one ≡ 1 → IsPolynomial o (o.zero ∷ o.one ∷ []) 1
  variable_is_polynomial z s w = record {
    ends_not_zero = rw s refl;
    weight_is = rw (z, s, w) refl;
    weight_small = omega arith;
    degree_small = omega arith;
  }

  pub variable_is_light : IsTrue (o.is_zero o.zero) → IsFalse (o.is_zero o.one) → o.weight o.one ≡ 1 →
      poly.weight o (o.zero ∷ o.one ∷ []) + poly.weight o (o.one ∷ []) ≤ 65536
  variable_is_light z s w = rw (z, s, w) (omega arith)
