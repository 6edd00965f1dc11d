-- Polynomials, elements and fields at closed terms.
use Rattle.std.specs.Prelude.{◌≡◌, refl, T, [], ◌∷◌, pos, negsuc}
use Rattle.std.proofs.Common.{arith}
use Rattle.risch_mean.specs.ExponentLists.{is_trimmed}
use Rattle.risch_mean.specs.Exponents
use Rattle.risch_mean.specs.Polynomial
use Rattle.risch_mean.specs.Polynomial.{Within}
use Rattle.risch_mean.specs.PolynomialLaws as PolynomialLaws
use Rattle.risch_mean.specs.Element.{zero, one, inverse, ◌+ₑ◌, ◌-ₑ◌, ◌*ₑ◌, ◌/ₑ◌, level, InField}
use Rattle.risch_mean.specs.ElementField.{◌^ₑ◌}
use Rattle.risch_mean.specs.ElementLaws.{same_is, different}
use Rattle.risch_mean.specs.Constants.{IsRational}
use Rattle.risch_mean.proofs.FieldClosure
use Rattle.risch_mean.proofs.Sound.{variable-not-below}
use Rattle.risch_mean.proofs.ConstantLaws.{rational_ground}
use Rattle.risch_mean.proofs.ExampleTerms.{computing, x, t1, x_in}

-- a list of exponents with a 0 at its end is none
not_trimmed : ¬ T (is_trimmed (1 ∷ 0 ∷ []))
not_trimmed h = h

-- 3·x - 3·x has no terms
no_terms : Polynomial.of_terms ((Exponents.unit 0, pos 3) ∷ (Exponents.unit 0, negsuc 2) ∷ []) ≡ Polynomial.zero
unfolding computing
no_terms = PolynomialLaws.same_is _ _ refl

-- the partial derivative of x·x·t1 by x is 2·x·t1, and not x·t1
partial_by_x : Polynomial.partial 0 (Polynomial.mul (Polynomial.variable 0) (Polynomial.mul (Polynomial.variable 0) (Polynomial.variable 1))) ≡ Polynomial.mul (Polynomial.constant (pos 2)) (Polynomial.mul (Polynomial.variable 0) (Polynomial.variable 1))
unfolding computing
partial_by_x = PolynomialLaws.same_is _ _ refl

not_partial_by_x : ¬ (Polynomial.partial 0 (Polynomial.mul (Polynomial.variable 0) (Polynomial.mul (Polynomial.variable 0) (Polynomial.variable 1))) ≡ Polynomial.mul (Polynomial.variable 0) (Polynomial.variable 1))
unfolding computing
not_partial_by_x = PolynomialLaws.different _ _ refl

-- t1 does not occur in x, and occurs in t1
only_x : Within 1 (Polynomial.variable 0)
unfolding computing
only_x = record { within = tt }

not_only_x : ¬ Within 1 (Polynomial.variable 1)
unfolding computing
not_only_x w = w.within

-- (x + 1)·(x - 1) = x^2 - 1
difference_of_squares : (x +ₑ one) *ₑ (x -ₑ one) ≡ x ^ₑ 2 -ₑ one
unfolding computing
difference_of_squares = same_is _ _ refl

-- x·t1/(x·x) = t1/x
cancelled : x *ₑ t1 /ₑ (x *ₑ x) ≡ t1 /ₑ x
unfolding computing
cancelled = same_is _ _ refl

-- x is not 1/x
not_inverse : ¬ (x ≡ inverse x)
unfolding computing
not_inverse = different _ _ refl

-- division by 0 gives 0, so each definition that divides has to say that it does not divide by 0
divided_by_zero : one /ₑ zero ≡ zero
unfolding computing
divided_by_zero = same_is _ _ refl

-- 1/x lies in the field of level 0, t1 does not
inverse_in_level_0 : InField (level 0) (inverse x)
inverse_in_level_0 = FieldClosure.InField-inverse (level 0) x (x_in (level 0) (omega arith))

not_in_level_0 : ¬ InField (level 0) t1
not_in_level_0 h = variable-not-below 1 t1 h refl

-- x is not rational
x_not_rational : ¬ IsRational x
x_not_rational q = variable-not-below 0 x (rational_ground x q) refl
