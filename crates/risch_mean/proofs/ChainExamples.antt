-- Chains, their parts and ends at closed terms.
use Rattle.std.specs.Prelude.{◌≡◌, refl, ℕ, List, [], ◌∷◌, length, pos, negsuc}
use Rattle.std.proofs.Common.{sym, ap, ap₂, ◌∙◌, arith}
use Rattle.risch_mean.specs.Element.{Element, zero, one, neg, inverse, ◌+ₑ◌, ◌*ₑ◌, ◌/ₑ◌, level, integer}
use Rattle.risch_mean.specs.ElementFieldLaws.{one-ne-zero}
use Rattle.risch_mean.specs.ElementLaws.{same_is, different}
use Rattle.risch_mean.specs.Tower.{Tower, derive_in, primitive}
use Rattle.risch_mean.specs.Answer.{Answer, HasDerivative}
use Rattle.risch_mean.specs.Equation.{Equation, IsSolution}
use Rattle.risch_mean.specs.Residues.{SimplePart}
use Rattle.risch_mean.specs.Chain.{Chain, CanonicalParts, ShiftAllowed, ReadOff, IsExact, IsTrueChain, residue, exponent, degree, residue_read, exponent_read, degree_read, no_part, simple}
use Rattle.risch_mean.proofs.FieldClosure.{InField-zero, InField-one, InField-add, InField-mul, InField-inverse, InField-over}
use Rattle.risch_mean.proofs.AnswerLaws.{derivative_unique}
use Rattle.risch_mean.proofs.ResidueExamples.{inverse_of_log, log_residue}
use Rattle.risch_mean.proofs.ExampleTerms.{computing, x, t1, x_in, t1_in, logarithm, exponential, one_rational, minus_one_rational}

nothing_yet : Answer
nothing_yet = record { part = zero; logs = []; sums = [] }

nothing_derivative : (tower : Tower) → derive_in tower zero ≡ zero → HasDerivative tower nothing_yet zero
unfolding computing nothing_yet
nothing_derivative tower h = record { part_in_tower = InField-zero (level (length tower)); logs = zero; logs_are = refl; sums = zero; sums_are = refl; is = sym (ap (λ d. d +ₑ (zero +ₑ zero)) h ∙ same_is _ _ refl) }

-- ---- over t1 = log x, 1/t1 has the residue x: a true chain
log_chain : Chain
log_chain = record { partial = nothing_yet; rest = inverse t1; level = 1; end = residue 1 x }

log_exact : IsExact logarithm (inverse t1) log_chain
unfolding computing nothing_yet log_chain
log_exact = record {
  derivative = zero;
  has_derivative = nothing_derivative logarithm (same_is _ _ refl);
  is = same_is _ _ refl;
  is_level = omega arith;
  in_level = InField-inverse (level 1) t1 (t1_in (level 1) (omega arith));
  us = [];
  shift = 0;
  shift_allowed = refl;
  a = one ∷ [];
  d = zero ∷ [];
  parts = record { below_us = tt; is = same_is _ _ refl };
  normal = simple inverse_of_log;
  read_off = residue_read log_residue;
}

log_true : IsTrueChain logarithm (inverse t1) log_chain
unfolding log_exact log_chain
log_true = record { exact = log_exact; unsolved = tt }

-- it is no chain for 1/t1 + 1
other_integrand : ¬ (inverse t1 +ₑ one ≡ zero +ₑ inverse t1)
unfolding computing
other_integrand = different _ _ refl

not_exact : ¬ IsExact logarithm (inverse t1 +ₑ one) log_chain
unfolding computing log_chain
not_exact e = other_integrand (e.is ∙ ap (λ d. d +ₑ inverse t1) (derivative_unique logarithm nothing_yet e.derivative zero e.has_derivative (nothing_derivative logarithm (same_is _ _ refl))))

-- ---- over t1 = exp x, t1/x has the coefficient 1/x at exponent 1: the equation is Dy + y = c/x
exp_equation : Equation
exp_equation = record { field = level 0; coefficient = integer (pos 1) *ₑ derive_in exponential x; columns = inverse x ∷ [] }

exp_chain : Chain
exp_chain = record { partial = nothing_yet; rest = t1 /ₑ x; level = 1; end = exponent (pos 1) exp_equation }

exp_exact : IsExact exponential (t1 /ₑ x) exp_chain
unfolding computing nothing_yet exp_chain exp_equation
exp_exact = record {
  derivative = zero;
  has_derivative = nothing_derivative exponential (same_is _ _ refl);
  is = same_is _ _ refl;
  is_level = omega arith;
  in_level = InField-over (level 1) t1 x (t1_in (level 1) (omega arith)) (x_in (level 1) (omega arith));
  us = zero ∷ inverse x ∷ [];
  shift = 0;
  shift_allowed = tt;
  a = [];
  d = [];
  parts = record { below_us = (InField-zero 1, (InField-inverse 1 x (x_in 1 (omega arith)), tt)); is = same_is _ _ refl };
  normal = no_part;
  read_off = exponent_read 1 refl (λ e. grind arith) refl refl;
}

exp_coefficient : exp_equation.coefficient ≡ one
unfolding computing exp_equation
exp_coefficient = same_is _ _ refl

-- ---- over t1 = exp x, 1/(x·t1) + 1/(t1 + 1): the coefficient at exponent -1 stands at place 0 with shift 1, beside the simple part 1/(t1 + 1)
low_equation : Equation
low_equation = record { field = level 0; coefficient = integer (negsuc 0) *ₑ derive_in exponential x; columns = inverse x ∷ [] }

low_rest : Element
low_rest = inverse (x *ₑ t1) +ₑ inverse (t1 +ₑ one)

low_chain : Chain
low_chain = record { partial = nothing_yet; rest = low_rest; level = 1; end = exponent (negsuc 0) low_equation }

beside : SimplePart exponential 1 (one ∷ []) (one ∷ [])
unfolding computing
beside = record {
  below_a = (InField-one 1, tt);
  below_d = (InField-one 1, tt);
  degree = omega arith;
  positive = omega arith;
  inverse_a = one ∷ [];
  is_inverse_a = record { member = refl; is = ap₂ ◌∷◌ (same_is _ _ refl) refl };
  inverse_derivative = neg one ∷ [];
  is_inverse_derivative = record { member = refl; is = ap₂ ◌∷◌ (same_is _ _ refl) refl };
}

low_exact : IsExact exponential low_rest low_chain
unfolding computing nothing_yet low_chain low_equation low_rest
low_exact = record {
  derivative = zero;
  has_derivative = nothing_derivative exponential (same_is _ _ refl);
  is = same_is _ _ refl;
  is_level = omega arith;
  in_level =
      InField-add (level 1) _ _ (InField-inverse (level 1) _ (InField-mul (level 1) x t1 (x_in (level 1) (omega arith)) (t1_in (level 1) (omega arith))))
      (InField-inverse (level 1) _ (InField-add (level 1) t1 one (t1_in (level 1) (omega arith)) (InField-one (level 1))));
  us = inverse x ∷ [];
  shift = 1;
  shift_allowed = tt;
  a = one ∷ [];
  d = one ∷ [];
  parts = record { below_us = (InField-inverse 1 x (x_in 1 (omega arith)), tt); is = same_is _ _ refl };
  normal = simple beside;
  read_off = exponent_read 0 refl (λ e. grind arith) refl refl;
}

-- ---- over t1 = log x, t1/x has degree 1: its equation is Dy = c_1/x + c_2/x. The chain is exact; c_1 = 1, c_2 = -1, y = 0 solve the equation, so it is not true
log_equation : Equation
log_equation = record { field = level 0; coefficient = zero; columns = inverse x ∷ derive_in logarithm x /ₑ x ∷ [] }

degree_chain : Chain
degree_chain = record { partial = nothing_yet; rest = t1 /ₑ x; level = 1; end = degree 1 log_equation }

inverse_ne_zero : ¬ (inverse x ≡ zero)
unfolding computing
inverse_ne_zero = different _ _ refl

degree_exact : IsExact logarithm (t1 /ₑ x) degree_chain
unfolding computing nothing_yet degree_chain log_equation
degree_exact = record {
  derivative = zero;
  has_derivative = nothing_derivative logarithm (same_is _ _ refl);
  is = same_is _ _ refl;
  is_level = omega arith;
  in_level = InField-over (level 1) t1 x (t1_in (level 1) (omega arith)) (x_in (level 1) (omega arith));
  us = zero ∷ inverse x ∷ [];
  shift = 0;
  shift_allowed = refl;
  a = [];
  d = [];
  parts = record { below_us = (InField-zero 1, (InField-inverse 1 x (x_in 1 (omega arith)), tt)); is = same_is _ _ refl };
  normal = no_part;
  read_off = degree_read refl (omega arith) refl inverse_ne_zero refl;
}

solved : IsSolution logarithm log_equation (one ∷ neg one ∷ []) zero
unfolding computing log_equation
solved = record { as_many = refl; rational = (one_rational, (minus_one_rational, tt)); in_field = InField-zero (level 0); is = same_is _ _ refl }

degree_not_true : ¬ IsTrueChain logarithm (t1 /ₑ x) degree_chain
unfolding degree_chain
degree_not_true h = one-ne-zero (h.unsolved (one ∷ neg one ∷ []) zero solved)

-- ---- what must not hold
-- t1 is not the sum of no parts
no_parts : ¬ CanonicalParts logarithm 1 t1 [] 0 [] []
unfolding computing
no_parts p = different t1 (zero /ₑ one +ₑ zero /ₑ (one +ₑ x *ₑ zero)) refl (p.is ∙ same_is _ _ refl)

-- no negative power of a logarithm
no_shift : (η : Element) → ¬ ShiftAllowed (primitive η) 1
no_shift η e = grind arith

-- exponent 0 is never read off, nor degree 0
exponent_0 : (tower : Tower) (n shift : ℕ) (us a d : List Element) (e : Equation) → ¬ ReadOff tower n us shift a d (exponent (pos 0) e)
exponent_0 tower n shift us a d e (exponent_read place k n0 p q) = n0 refl

degree_0 : (tower : Tower) (n shift : ℕ) (us a d : List Element) (e : Equation) → ¬ ReadOff tower n us shift a d (degree 0 e)
degree_0 tower n shift us a d e (degree_read k h l z q) = absurd (omega (arith, h))

-- where there is no simple part, no residues are read off
no_residue : (tower : Tower) (n shift i : ℕ) (us : List Element) (p : Element) → ¬ ReadOff tower n us shift [] [] (residue i p)
no_residue tower n shift i us p (residue_read h) = absurd (omega (arith, h.part.positive))

-- no chain is exact at a level that the tower does not have
no_level : (f : Element) (c : Chain) → c.level ≡ 1 → ¬ IsExact [] f c
no_level f c h e = absurd (omega (arith, h, e.is_level))
