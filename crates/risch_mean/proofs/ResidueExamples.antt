-- Residues of simple fractions at closed terms.
use Rattle.std.specs.Prelude.{◌≡◌, refl, ℕ, List, [], ◌∷◌}
use Rattle.std.proofs.Common.{sym, ap₂, subst, ◌∙◌, arith}
use Rattle.risch_mean.specs.Element.{Element, zero, one, neg, ◌/ₑ◌}
use Rattle.risch_mean.specs.ElementField.{◌^ₑ◌}
use Rattle.risch_mean.specs.ElementFieldLaws.{one-ne-zero}
use Rattle.risch_mean.specs.ElementLaws.{same_is, different}
use Rattle.risch_mean.specs.Tower.{Tower, derive_in, derivatives}
use Rattle.risch_mean.specs.Constants.{IsRational}
use Rattle.risch_mean.specs.ElementPolynomials.{polynomial_derivative, monic_polynomial, remainder_modulo, power_modulo, trace_modulo, IsInverseModulo}
use Rattle.risch_mean.specs.Residues.{SimplePart, residue_of, NotConstant}
use Rattle.risch_mean.proofs.FieldClosure.{InField-zero, InField-one, InField-add}
use Rattle.risch_mean.proofs.FieldClosure
use Rattle.risch_mean.proofs.Levels.{derivative-x}
use Rattle.risch_mean.proofs.ConstantLaws.{derive-rational}
use Rattle.risch_mean.proofs.AlgebraExamples.{no_inverse_of_zero_one}
use Rattle.risch_mean.proofs.ExampleTerms.{computing, x, whole, logarithm, exponential, zero_rational}

-- ---- over t1 = log x, 1/t1 has the residue x
pub inverse_of_log : SimplePart logarithm 1 (one ∷ []) (zero ∷ [])
unfolding computing
inverse_of_log = record {
  below_a = (InField-one 1, tt);
  below_d = (InField-zero 1, tt);
  degree = omega arith;
  positive = omega arith;
  inverse_a = one ∷ [];
  is_inverse_a = record { member = refl; is = ap₂ ◌∷◌ (same_is _ _ refl) refl };
  inverse_derivative = x ∷ [];
  is_inverse_derivative = record { member = refl; is = ap₂ ◌∷◌ (same_is _ _ refl) refl };
}

pub log_residue : NotConstant logarithm 1 (one ∷ []) (zero ∷ []) 1 x
unfolding computing inverse_of_log
log_residue = record {
  part = inverse_of_log;
  at_least_one = omega arith;
  lower_traces = λ j h k. absurd (omega arith);
  is_trace = same_is _ _ refl;
  not_constant = λ h. one-ne-zero (sym (derivative-x logarithm) ∙ h);
}

-- ---- over t1 = log x, 1/(t1^2 - 1) has the residues x/2 and -x/2: their sum is 0, the sum of their squares x^2/2
two_residues : SimplePart logarithm 1 (one ∷ zero ∷ []) (neg one ∷ zero ∷ [])
unfolding computing
two_residues = record {
  below_a = (InField-one 1, (InField-zero 1, tt));
  below_d = (FieldClosure.InField-neg 1 one (InField-one 1), (InField-zero 1, tt));
  degree = omega arith;
  positive = omega arith;
  inverse_a = one ∷ zero ∷ [];
  is_inverse_a = record { member = refl; is = ap₂ ◌∷◌ (same_is _ _ refl) (ap₂ ◌∷◌ (same_is _ _ refl) refl) };
  inverse_derivative = zero ∷ x /ₑ whole 2 ∷ [];
  is_inverse_derivative = record { member = refl; is = ap₂ ◌∷◌ (same_is _ _ refl) (ap₂ ◌∷◌ (same_is _ _ refl) refl) };
}

first_power : trace_modulo (neg one ∷ zero ∷ []) (power_modulo (neg one ∷ zero ∷ []) (residue_of two_residues) 1) ≡ zero
unfolding computing two_residues
first_power = same_is _ _ refl

derivative_of_trace : derive_in logarithm (x ^ₑ 2 /ₑ whole 2) ≡ x
unfolding computing
derivative_of_trace = same_is _ _ refl

x_ne_zero : ¬ (x ≡ zero)
unfolding computing
x_ne_zero = different _ _ refl

squares : NotConstant logarithm 1 (one ∷ zero ∷ []) (neg one ∷ zero ∷ []) 2 (x ^ₑ 2 /ₑ whole 2)
unfolding computing two_residues
squares = record {
  part = two_residues;
  at_least_one = omega arith;
  lower_traces = λ j h k.
      let one_is : 1 ≡ j = omega (arith, h, k) in
      subst (λ (i : ℕ). IsRational (trace_modulo (neg one ∷ zero ∷ []) (power_modulo (neg one ∷ zero ∷ []) (residue_of two_residues) i))) one_is
      (subst IsRational (sym first_power) zero_rational);
  is_trace = same_is _ _ refl;
  not_constant = λ h. x_ne_zero (sym derivative_of_trace ∙ h);
}

-- ---- what must not hold
-- residues with a rational trace, as those of (1/x)/t1, are not shown not to be constant by it
rational_trace : (tower : Tower) (n i : ℕ) (a d : List Element) (p : Element) → IsRational p → ¬ NotConstant tower n a d i p
rational_trace tower n i a d p q r = r.not_constant (derive-rational (derivatives tower) p q)

-- power 0
power_0 : (tower : Tower) (n : ℕ) (a d : List Element) (p : Element) → ¬ NotConstant tower n a d 0 p
power_0 tower n a d p r = absurd (omega (arith, r.at_least_one))

-- no simple fraction has a denominator of degree 0, or a numerator of as high a degree as the denominator
degree_0 : (tower : Tower) (n : ℕ) (a : List Element) → ¬ SimplePart tower n a []
degree_0 tower n a s = absurd (omega (arith, s.positive))

improper : (tower : Tower) (n : ℕ) (a b c : Element) → ¬ SimplePart tower n (a ∷ b ∷ []) (c ∷ [])
improper tower n a b c s = absurd (omega (arith, s.degree))

-- over t1 = exp x, D t1 is 0 modulo t1, so t1 is no denominator of a simple fraction
special_derivative : remainder_modulo (zero ∷ []) (polynomial_derivative exponential 1 (monic_polynomial (zero ∷ []))) ≡ zero ∷ []
unfolding computing
special_derivative = ap₂ ◌∷◌ (same_is _ _ refl) refl

special : (a : List Element) → ¬ SimplePart exponential 1 a (zero ∷ [])
special a s = no_inverse_of_zero_one zero s.inverse_derivative (subst (λ u. IsInverseModulo (zero ∷ []) u s.inverse_derivative) special_derivative s.is_inverse_derivative)
