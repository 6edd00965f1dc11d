-- Answers, their derivatives and integrals at closed terms.
use Rattle.std.specs.Prelude.{◌≡◌, refl, List, [], ◌∷◌, pos}
use Rattle.std.proofs.Common.{ap₂, subst, arith}
use Rattle.risch_mean.specs.Element.{Element, zero, one, neg, inverse, ◌+ₑ◌, ◌*ₑ◌, ◌/ₑ◌}
use Rattle.risch_mean.specs.ElementField.{◌^ₑ◌}
use Rattle.risch_mean.specs.ElementLaws.{same_is, different}
use Rattle.risch_mean.specs.Tower.{Tower, derive_in}
use Rattle.risch_mean.specs.ElementPolynomials.{derivative_of_modulus, IsInverseModulo, IsInvertibleModulo}
use Rattle.risch_mean.specs.Answer.{Answer, Logarithm, LogDerivative, SumDerivative, IsIntegral}
use Rattle.risch_mean.proofs.FieldClosure.{InField-zero, InField-one, InField-integer, InField-add}
use Rattle.risch_mean.proofs.Sound.{variable-not-below}
use Rattle.risch_mean.proofs.ConstantLaws.{rational_ground}
use Rattle.risch_mean.proofs.AnswerLaws.{derivative_unique}
use Rattle.risch_mean.proofs.AlgebraExamples.{no_inverse_of_zero, no_inverse_of_multiple}
use Rattle.risch_mean.proofs.ExampleTerms.{computing, x, t1, whole, x_in, t1_in, exponential, zero_rational, minus_one_rational, quarter_rational}

-- ---- the sum over the roots z of z^2 + 1/4 of z·log(2·z + x) is an integral of 1/(x^2 + 1)
modulus : List Element
modulus = one /ₑ whole 4 ∷ zero ∷ []

inner : List Element
inner = x ∷ whole 2 ∷ []

-- (x - 2·z)/(x^2 + 1)
inverse_of_inner : List Element
inverse_of_inner = x /ₑ (x ^ₑ 2 +ₑ one) ∷ neg (whole 2) /ₑ (x ^ₑ 2 +ₑ one) ∷ []

inner_inverse : IsInverseModulo modulus inner inverse_of_inner
unfolding computing modulus inner inverse_of_inner
inner_inverse = record { member = refl; is = ap₂ ◌∷◌ (same_is _ _ refl) (ap₂ ◌∷◌ (same_is _ _ refl) refl) }

-- 2·z has the inverse -2·z
separable : IsInvertibleModulo modulus (derivative_of_modulus modulus)
unfolding computing modulus
separable = record { inverse = zero ∷ neg (whole 2) ∷ []; is_inverse = record { member = refl; is = ap₂ ◌∷◌ (same_is _ _ refl) (ap₂ ◌∷◌ (same_is _ _ refl) refl) } }

arctangent : Answer
arctangent = record { part = zero; logs = []; sums = record { modulus = modulus; inner = inner } ∷ [] }

arctangent_sum : SumDerivative [] record { modulus = modulus; inner = inner } (inverse (x ^ₑ 2 +ₑ one))
unfolding computing modulus inner inverse_of_inner
arctangent_sum = record {
  degree = omega arith;
  rational = (quarter_rational, (zero_rational, tt));
  separable = separable;
  in_tower = (x_in 1 (omega arith), (InField-integer 1 (pos 2), tt));
  inner_degree = omega arith;
  inverse = inverse_of_inner;
  is_inverse = inner_inverse;
  is = same_is _ _ refl;
}

arctangent_integral : IsIntegral [] arctangent (inverse (x ^ₑ 2 +ₑ one))
unfolding computing arctangent
arctangent_integral = record {
  part_in_tower = InField-zero 1;
  logs = zero;
  logs_are = refl;
  sums = inverse (x ^ₑ 2 +ₑ one) +ₑ zero;
  sums_are = (inverse (x ^ₑ 2 +ₑ one), zero, arctangent_sum, refl, refl);
  is = same_is _ _ refl;
}

-- and of nothing else, as an answer has at most one derivative
different_integrand : ¬ (inverse (x ^ₑ 2 +ₑ one) ≡ inverse x)
unfolding computing
different_integrand = different _ _ refl

not_of_inverse : ¬ IsIntegral [] arctangent (inverse x)
not_of_inverse i = different_integrand (derivative_unique [] arctangent _ _ arctangent_integral i)

-- over t1 = exp x, the sum over the same roots of z·log(2·z + t1) has the derivative t1/(t1^2 + 1): D acts on the coefficients of 2·z + t1
inverse_over_exp : List Element
inverse_over_exp = t1 /ₑ (t1 ^ₑ 2 +ₑ one) ∷ neg (whole 2) /ₑ (t1 ^ₑ 2 +ₑ one) ∷ []

exp_sum : SumDerivative exponential record { modulus = modulus; inner = t1 ∷ whole 2 ∷ [] } (t1 /ₑ (t1 ^ₑ 2 +ₑ one))
unfolding computing modulus inverse_over_exp
exp_sum = record {
  degree = omega arith;
  rational = (quarter_rational, (zero_rational, tt));
  separable = separable;
  in_tower = (t1_in 2 (omega arith), (InField-integer 2 (pos 2), tt));
  inner_degree = omega arith;
  inverse = inverse_over_exp;
  is_inverse = record { member = refl; is = ap₂ ◌∷◌ (same_is _ _ refl) (ap₂ ◌∷◌ (same_is _ _ refl) refl) };
  is = same_is _ _ refl;
}

-- ---- over t1 = exp x, x - log(t1 + 1) is an integral of 1/(t1 + 1)
t1_plus_one : ¬ (t1 +ₑ one ≡ zero)
unfolding computing
t1_plus_one = different _ _ refl

abbrev pub minus_log : Logarithm
minus_log = record { factor = neg one; argument = t1 +ₑ one }

abbrev pub minus_log_derivative : Element
minus_log_derivative = neg one *ₑ (derive_in exponential (t1 +ₑ one) /ₑ (t1 +ₑ one))

pub minus_log_derived : LogDerivative exponential minus_log minus_log_derivative
minus_log_derived = record { rational = minus_one_rational; in_tower = InField-add 2 t1 one (t1_in 2 (omega arith)) (InField-one 2); argument-ne-zero = t1_plus_one; is = refl }

exp_integral : IsIntegral exponential record { part = x; logs = minus_log ∷ []; sums = [] } (inverse (t1 +ₑ one))
unfolding computing
exp_integral = record {
  part_in_tower = x_in 2 (omega arith);
  logs = minus_log_derivative +ₑ zero;
  logs_are = (minus_log_derivative, zero, minus_log_derived, refl, refl);
  sums = zero;
  sums_are = refl;
  is = same_is _ _ refl;
}

-- ---- what has no derivative
-- log 0, x·log x, whose factor is not rational, and log t1 in the tower without monomials
log_of_zero : (tower : Tower) (c f : Element) → ¬ LogDerivative tower record { factor = c; argument = zero } f
log_of_zero tower c f d = d.argument-ne-zero refl

factor_not_rational : (tower : Tower) (f : Element) → ¬ LogDerivative tower record { factor = x; argument = x } f
factor_not_rational tower f d = variable-not-below 0 x (rational_ground x d.rational) refl

log_outside : (c f : Element) → ¬ LogDerivative [] record { factor = c; argument = t1 } f
log_outside c f d = variable-not-below 1 t1 d.in_tower refl

-- a sum over the roots of a polynomial of degree 1; one with S = 0; one over the roots of z^2, which has a root twice
degree_1 : (tower : Tower) (c f : Element) (s : List Element) → ¬ SumDerivative tower record { modulus = c ∷ []; inner = s } f
degree_1 tower c f s d = absurd (omega (arith, d.degree))

inner_zero : (tower : Tower) (r0 r1 f : Element) → ¬ SumDerivative tower record { modulus = r0 ∷ r1 ∷ []; inner = zero ∷ zero ∷ [] } f
inner_zero tower r0 r1 f d = no_inverse_of_zero r0 r1 d.inverse d.is_inverse

square_derivative : derivative_of_modulus (zero ∷ zero ∷ []) ≡ zero ∷ whole 2 ∷ []
unfolding computing
square_derivative = ap₂ ◌∷◌ (same_is _ _ refl) (ap₂ ◌∷◌ (same_is _ _ refl) refl)

double_root : (tower : Tower) (s : List Element) (f : Element) → ¬ SumDerivative tower record { modulus = zero ∷ zero ∷ []; inner = s } f
double_root tower s f d = no_inverse_of_multiple (whole 2) d.separable.inverse (subst (λ u. IsInverseModulo (zero ∷ zero ∷ []) u d.separable.inverse) square_derivative d.separable.is_inverse)

-- an answer whose part is a variable that the tower does not have
outside : ¬ IsIntegral [] record { part = t1; logs = []; sums = [] } zero
outside i = variable-not-below 1 t1 i.part_in_tower refl
