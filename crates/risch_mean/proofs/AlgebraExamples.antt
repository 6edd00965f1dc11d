-- The algebra modulo a monic polynomial at closed terms.
use Rattle.std.specs.Prelude.{◌≡◌, refl, List, [], ◌∷◌}
use Rattle.std.proofs.Common.{ap, ap₂, sym, ◌∙◌, arith}
use Rattle.risch_ring.proofs.Expression.{reading}
use Rattle.risch_ring.proofs.Solver.{ring}
use Rattle.risch_mean.specs.Element.{Element, zero, one, neg, ◌+ₑ◌, ◌*ₑ◌}
use Rattle.risch_mean.specs.ElementField.{elements, ◌^ₑ◌}
use Rattle.risch_mean.specs.ElementFieldLaws.{one-ne-zero}
use Rattle.risch_mean.specs.ElementLaws.{same_is, different}
use Rattle.risch_mean.specs.ElementPolynomials.{coefficient, times_modulo, power_modulo, trace_modulo, remainder_modulo, derivative_of_modulus, monic_polynomial, IsInverseModulo}
use Rattle.risch_mean.proofs.ExampleTerms.{computing, x, whole}

-- z^2 - 1
abbrev square_minus_one : List Element
square_minus_one = neg one ∷ zero ∷ []

-- its derivative is 2·z
derivative : derivative_of_modulus square_minus_one ≡ zero ∷ whole 2 ∷ []
unfolding computing
derivative = ap₂ ◌∷◌ (same_is _ _ refl) (ap₂ ◌∷◌ (same_is _ _ refl) refl)

-- modulo z^2 - 1: z^3 + x has the remainder z + x, and z^2 - 1 itself the remainder 0
cube : remainder_modulo square_minus_one (x ∷ zero ∷ zero ∷ one ∷ []) ≡ x ∷ one ∷ []
unfolding computing
cube = ap₂ ◌∷◌ (same_is _ _ refl) (ap₂ ◌∷◌ (same_is _ _ refl) refl)

modulus : remainder_modulo square_minus_one (monic_polynomial square_minus_one) ≡ zero ∷ zero ∷ []
unfolding computing
modulus = ap₂ ◌∷◌ (same_is _ _ refl) (ap₂ ◌∷◌ (same_is _ _ refl) refl)

-- z is its own inverse
z_inverse : IsInverseModulo square_minus_one (zero ∷ one ∷ []) (zero ∷ one ∷ [])
unfolding computing
z_inverse = record { member = refl; is = ap₂ ◌∷◌ (same_is _ _ refl) (ap₂ ◌∷◌ (same_is _ _ refl) refl) }

-- the trace is the sum of the values at the roots 1 and -1: 2·x for x + z, and x^2 + 1 taken twice for (x + z)^2
trace_of_sum : trace_modulo square_minus_one (x ∷ one ∷ []) ≡ whole 2 *ₑ x
unfolding computing
trace_of_sum = same_is _ _ refl

trace_of_square : trace_modulo square_minus_one (power_modulo square_minus_one (x ∷ one ∷ []) 2) ≡ whole 2 *ₑ (x ^ₑ 2 +ₑ one)
unfolding computing
trace_of_square = same_is _ _ refl

not_constant_coefficient : ¬ (trace_modulo square_minus_one (x ∷ one ∷ []) ≡ x)
unfolding computing
not_constant_coefficient = different _ _ refl

-- ---- what has no inverse
zero_times : (r0 r1 v0 v1 : Element) → coefficient 0 (times_modulo (r0 ∷ r1 ∷ []) (zero ∷ zero ∷ []) (v0 ∷ v1 ∷ [])) ≡ zero
zero_times r0 r1 v0 v1 = ring elements.ring (r0 ∷ r1 ∷ v0 ∷ v1 ∷ []) (search reading depth 60 fits 16000) refl

-- 0, modulo any polynomial of degree 2
pub no_inverse_of_zero : (r0 r1 : Element) (v : List Element) → ¬ IsInverseModulo (r0 ∷ r1 ∷ []) (zero ∷ zero ∷ []) v
no_inverse_of_zero r0 r1 [] i = absurd (omega (arith, i.member))
no_inverse_of_zero r0 r1 (v0 ∷ []) i = absurd (omega (arith, i.member))
no_inverse_of_zero r0 r1 (v0 ∷ v1 ∷ []) i = one-ne-zero (sym (ap (coefficient 0) i.is) ∙ zero_times r0 r1 v0 v1)
no_inverse_of_zero r0 r1 (v0 ∷ v1 ∷ v2 ∷ v) i = absurd (omega (arith, i.member))

zero_times_one : (r v : Element) → coefficient 0 (times_modulo (r ∷ []) (zero ∷ []) (v ∷ [])) ≡ zero
zero_times_one r v = ring elements.ring (r ∷ v ∷ []) (search reading depth 60 fits 16000) refl

-- 0, modulo any polynomial of degree 1
pub no_inverse_of_zero_one : (r : Element) (v : List Element) → ¬ IsInverseModulo (r ∷ []) (zero ∷ []) v
no_inverse_of_zero_one r [] i = absurd (omega (arith, i.member))
no_inverse_of_zero_one r (v0 ∷ []) i = one-ne-zero (sym (ap (coefficient 0) i.is) ∙ zero_times_one r v0)
no_inverse_of_zero_one r (v0 ∷ v1 ∷ v) i = absurd (omega (arith, i.member))

-- c·z, modulo z^2
multiple_times : (c v0 v1 : Element) → coefficient 0 (times_modulo (zero ∷ zero ∷ []) (zero ∷ c ∷ []) (v0 ∷ v1 ∷ [])) ≡ zero
multiple_times c v0 v1 = ring elements.ring (c ∷ v0 ∷ v1 ∷ []) (search reading depth 60 fits 16000) refl

pub no_inverse_of_multiple : (c : Element) (v : List Element) → ¬ IsInverseModulo (zero ∷ zero ∷ []) (zero ∷ c ∷ []) v
no_inverse_of_multiple c [] i = absurd (omega (arith, i.member))
no_inverse_of_multiple c (v0 ∷ []) i = absurd (omega (arith, i.member))
no_inverse_of_multiple c (v0 ∷ v1 ∷ []) i = one-ne-zero (sym (ap (coefficient 0) i.is) ∙ multiple_times c v0 v1)
no_inverse_of_multiple c (v0 ∷ v1 ∷ v2 ∷ v) i = absurd (omega (arith, i.member))
