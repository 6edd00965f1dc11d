-- Polynomials in one variable at closed terms.
use Rattle.std.specs.Prelude.{◌≡◌, refl, [], ◌∷◌}
use Rattle.std.proofs.Common.{ap₂}
use Rattle.risch_mean.specs.Element.{zero, one, neg, inverse, ◌+ₑ◌, ◌*ₑ◌, ◌/ₑ◌}
use Rattle.risch_mean.specs.ElementField.{elements, ◌^ₑ◌}
use Rattle.risch_mean.specs.ElementLaws.{same_is, different}
use Rattle.risch_mean.specs.Univariate.{mul_lists, formal_derivative}
use Rattle.risch_mean.specs.ElementPolynomials.{coefficient, at_variable, polynomial_derivative}
use Rattle.risch_mean.proofs.ExampleTerms.{computing, x, t1, whole, logarithm, exponential}

-- x + t1^2/x as the list x, 0, 1/x
value : at_variable 1 (x ∷ zero ∷ inverse x ∷ []) ≡ x +ₑ t1 ^ₑ 2 /ₑ x
unfolding computing
value = same_is _ _ refl

not_value : ¬ (at_variable 1 (x ∷ zero ∷ inverse x ∷ []) ≡ x +ₑ t1 /ₑ x)
unfolding computing
not_value = different _ _ refl

-- its coefficient at exponent 2, and at exponent 3
second_coefficient : coefficient 2 (x ∷ zero ∷ inverse x ∷ []) ≡ inverse x
second_coefficient = refl

third_coefficient : coefficient 3 (x ∷ zero ∷ inverse x ∷ []) ≡ zero
third_coefficient = refl

-- (t - 1)·(t + 1) = t^2 - 1
product : mul_lists elements.ring (neg one ∷ one ∷ []) (one ∷ one ∷ []) ≡ neg one ∷ zero ∷ one ∷ []
unfolding computing
product = ap₂ ◌∷◌ (same_is _ _ refl) (ap₂ ◌∷◌ (same_is _ _ refl) (ap₂ ◌∷◌ (same_is _ _ refl) refl))

-- the derivative of x + t^3 by t is 3·t^2
by_variable : formal_derivative elements.ring (x ∷ zero ∷ zero ∷ one ∷ []) ≡ zero ∷ zero ∷ whole 3 ∷ []
unfolding computing
by_variable = ap₂ ◌∷◌ (same_is _ _ refl) (ap₂ ◌∷◌ (same_is _ _ refl) (ap₂ ◌∷◌ (same_is _ _ refl) refl))

-- over t1 = log x and over t1 = exp x the derivative of x + t1^2 is 1 + 2·t1/x and 1 + 2·t1^2
over_log : at_variable 1 (polynomial_derivative logarithm 1 (x ∷ zero ∷ one ∷ [])) ≡ one +ₑ whole 2 *ₑ t1 /ₑ x
unfolding computing
over_log = same_is _ _ refl

over_exp : at_variable 1 (polynomial_derivative exponential 1 (x ∷ zero ∷ one ∷ [])) ≡ one +ₑ whole 2 *ₑ t1 ^ₑ 2
unfolding computing
over_exp = same_is _ _ refl

not_over_exp : ¬ (at_variable 1 (polynomial_derivative exponential 1 (x ∷ zero ∷ one ∷ [])) ≡ one +ₑ whole 2 *ₑ t1)
unfolding computing
not_over_exp = different _ _ refl
