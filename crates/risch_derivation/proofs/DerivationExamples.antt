-- The rule of the derivation, worked by hand and by the definition, in Q(x) and in the towers over it with t1 = exp(x^2) and with t1 = log x.
use Rattle.std.specs.Prelude.{◌≡◌, refl, List, [], ◌∷◌, ℤ, pos, negsuc, Ok, Err}
use Rattle.risch_frac.specs.Fraction as fraction
use Rattle.risch_frac.specs.Fraction.{Fraction}
use Rattle.risch_frac.specs.Gcd.{gcd}
use Rattle.risch_frac.specs.declared.Op.TheVariants.{Mul}
use Rattle.risch_polynomial.specs.Poly as poly
use Rattle.risch_level.specs.Over as level
use Rattle.risch_level.specs.Levels.{Field}
use Rattle.risch_field.specs.declared.Fail.TheVariants.{Overflow}
use Rattle.risch_level.specs.declared.over.Over.TheVariants.{Below, Quotient}
use Rattle.risch_derivation.specs.declared.rate.Kind.TheVariants.{Primitive, Exponential}
use Rattle.risch_derivation.specs.Derivation.{Rates, derive, derive_polynomial, derive_quotient, quotient_numerator}

-- the whole number z
abbrev whole : ℤ → Fraction
whole z = record { num = z; den = 1 }

-- the whole number z as an element of Q(x)
abbrev below : ℤ → Field 1
below z = Below (whole z)

-- c·x
abbrev times_x : ℤ → Field 1
times_x c = Quotient (whole (pos 0) ∷ whole c ∷ [], whole (pos 1) ∷ [])

-- c/x
abbrev by_x : ℤ → Field 1
by_x c = Quotient (whole c ∷ [], whole (pos 0) ∷ whole (pos 1) ∷ [])

-- a polynomial in t1
abbrev polynomial : List (Field 1) → Field 2
polynomial p = Quotient (p, below (pos 1) ∷ [])

-- Dx = 1
abbrev with_x : Rates 1
with_x = (tt, record { kind = Primitive; eta = whole (pos 1) })

-- Dt1 = 2·x·t1
abbrev with_exp : Rates 2
with_exp = (with_x, record { kind = Exponential; eta = times_x (pos 2) })

-- Dt1 = 1/x
abbrev with_log : Rates 2
with_log = (with_x, record { kind = Primitive; eta = by_x (pos 1) })

-- ---- in Q(x)
-- D(3) = 0
of_number : derive 1 with_x (below (pos 3)) ≡ Ok (below (pos 0))
of_number = refl

-- D(x^2) = 2·x
of_square : derive 1 with_x (Quotient (whole (pos 0) ∷ whole (pos 0) ∷ whole (pos 1) ∷ [], whole (pos 1) ∷ [])) ≡ Ok (times_x (pos 2))
unfolding derive_quotient derive_polynomial fraction.sum fraction.product fraction.lowest gcd level.element
of_square = refl

-- D(1/x) = -1/x^2
of_inverse : derive 1 with_x (by_x (pos 1)) ≡ Ok (Quotient (whole (negsuc 0) ∷ [], whole (pos 0) ∷ whole (pos 0) ∷ whole (pos 1) ∷ []))
unfolding derive_quotient quotient_numerator derive_polynomial fraction.sum fraction.product fraction.ratio fraction.quotient fraction.lowest gcd poly.sum poly.product poly.scaled poly.monic poly.gcd level.element level.normal_form level.divided level.scaled
of_inverse = refl

-- 2·(2^127 - 1) is too large, and so D((2^127 - 1)·x^2) has no value
of_largest :
    derive 1 with_x (Quotient (whole (pos 0) ∷ whole (pos 0) ∷ whole (pos 170141183460469231731687303715884105727) ∷ [], whole (pos 1) ∷ [])) ≡ Err (Overflow Mul)
unfolding derive_quotient derive_polynomial fraction.sum fraction.product fraction.lowest gcd level.element
of_largest = refl

-- ---- where t1 = exp(x^2)
-- D(t1) = 2·x·t1
of_exp : derive 2 with_exp (polynomial (below (pos 0) ∷ below (pos 1) ∷ [])) ≡ Ok (polynomial (below (pos 0) ∷ times_x (pos 2) ∷ []))
unfolding derive_quotient derive_polynomial fraction.sum fraction.product fraction.lowest gcd level.element level.sum_with level.scaled_product
of_exp = refl

-- D(t1^2) = 4·x·t1^2
of_exp_square : derive 2 with_exp (polynomial (below (pos 0) ∷ below (pos 0) ∷ below (pos 1) ∷ [])) ≡ Ok (polynomial (below (pos 0) ∷ below (pos 0) ∷ times_x (pos 4) ∷ []))
unfolding derive_quotient derive_polynomial fraction.sum fraction.product fraction.lowest gcd level.element level.sum_with poly.scaled level.scaled_product
of_exp_square = refl

-- D(1/t1) = -2·x/t1
of_inverse_exp : derive 2 with_exp (Quotient (below (pos 1) ∷ [], below (pos 0) ∷ below (pos 1) ∷ [])) ≡ Ok (Quotient (times_x (negsuc 1) ∷ [], below (pos 0) ∷ below (pos 1) ∷ []))
unfolding derive_quotient quotient_numerator derive_polynomial fraction.sum fraction.product fraction.ratio fraction.quotient fraction.lowest gcd poly.sum poly.product poly.scaled poly.monic poly.gcd poly.division poly.step poly.quo poly.monic_remainder level.element level.normal_form level.divided level.scaled level.sum_with level.scaled_product level.quotient_sum level.quotient_product level.inverse_product level.inverse_ratio
of_inverse_exp = refl

-- ---- where t1 = log x
-- D(x·t1) = t1 + 1
of_product : derive 2 with_log (polynomial (below (pos 0) ∷ times_x (pos 1) ∷ [])) ≡ Ok (polynomial (below (pos 1) ∷ below (pos 1) ∷ []))
unfolding derive_quotient quotient_numerator derive_polynomial fraction.sum fraction.product fraction.ratio fraction.quotient fraction.lowest gcd poly.sum poly.product poly.scaled poly.monic poly.gcd poly.division poly.step poly.quo poly.monic_remainder level.element level.normal_form level.divided level.scaled level.sum_with level.scaled_product level.quotient_sum level.quotient_product
of_product = refl

-- D(t1^2) = (2/x)·t1
of_log_square : derive 2 with_log (polynomial (below (pos 0) ∷ below (pos 0) ∷ below (pos 1) ∷ [])) ≡ Ok (polynomial (below (pos 0) ∷ by_x (pos 2) ∷ []))
unfolding derive_quotient quotient_numerator derive_polynomial fraction.sum fraction.product fraction.ratio fraction.quotient fraction.lowest gcd poly.sum poly.product poly.scaled poly.monic poly.gcd poly.division poly.step poly.quo poly.monic_remainder level.element level.normal_form level.divided level.scaled level.sum_with level.scaled_product level.quotient_sum level.quotient_product
of_log_square = refl

-- D(1/t1) = (-1/x)/t1^2
of_inverse_log : derive 2 with_log (Quotient (below (pos 1) ∷ [], below (pos 0) ∷ below (pos 1) ∷ [])) ≡ Ok (Quotient (by_x (negsuc 0) ∷ [], below (pos 0) ∷ below (pos 0) ∷ below (pos 1) ∷ []))
unfolding derive_quotient quotient_numerator derive_polynomial fraction.sum fraction.product fraction.ratio fraction.quotient fraction.lowest gcd poly.sum poly.product poly.scaled poly.monic poly.gcd level.element level.normal_form level.divided level.scaled level.sum_with level.scaled_product level.quotient_sum level.quotient_product level.inverse_product level.inverse_ratio
of_inverse_log = refl
