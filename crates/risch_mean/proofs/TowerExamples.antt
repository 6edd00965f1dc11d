-- Towers, their derivations, the kinds of their levels and their soundness at closed terms.
use Rattle.std.specs.Prelude.{◌≡◌, refl, [], ◌∷◌}
use Rattle.std.proofs.Common.{arith, ap}
use Rattle.risch_mean.specs.Element.{Element, zero, one, neg, inverse, ◌+ₑ◌, ◌-ₑ◌, ◌*ₑ◌, ◌/ₑ◌, level, InField}
use Rattle.risch_mean.specs.ElementField.{elements, ◌^ₑ◌}
use Rattle.risch_mean.specs.ElementLaws.{same_is, different}
use Rattle.risch_mean.specs.Tower.{Tower, log, exp, derive_in, IsTower, InTower, kind_of, primitive, exponential as exponential_kind}
use Rattle.risch_mean.specs.Constants.{IsRational, IsSound, IsNewConstant}
use Rattle.risch_mean.proofs.FieldClosure.{InField-add, InField-mul, InField-minus, InField-integer, InField-one, InField-variable}
use Rattle.risch_mean.proofs.Sound.{variable-not-below}
use Rattle.risch_mean.proofs.ConstantLaws.{rational_functions_sound, rational_in}
use Rattle.risch_ring.proofs.Expression.{reading}
use Rattle.risch_ring.proofs.Solver.{ring}
use Rattle.risch_mean.proofs.ExampleTerms.{computing, x, t1, t2, whole, x_in, t1_in, logarithm, exponential, one_rational}

-- ---- towers
-- t1 = exp x, t2 = log(t1 + 1)
abbrev softplus : Tower
softplus = exp x ∷ log (t1 +ₑ one) ∷ []

t1_plus_one : ¬ (t1 +ₑ one ≡ zero)
unfolding computing
t1_plus_one = different _ _ refl

is_tower : IsTower softplus
is_tower = (x_in (level 0) (omega arith), (InField-add (level 1) t1 one (t1_in (level 1) (omega arith)) (InField-one (level 1)), tt, t1_plus_one), tt)

-- log 0 is no monomial, and neither is log t1 as the first one, which would be t1 itself
not_log_of_zero : ¬ IsTower (log zero ∷ [])
not_log_of_zero h = h.2 refl

not_above_itself : ¬ IsTower (log t1 ∷ [])
not_above_itself h = variable-not-below 1 t1 h.0 refl

-- t1 is an element of the tower log x, t2 is none
t1_in_tower : InTower logarithm t1
t1_in_tower = t1_in 2 (omega arith)

t2_not_in_tower : ¬ InTower logarithm t2
t2_not_in_tower h = variable-not-below 2 t2 h refl

-- ---- derivations
-- over t1 = log x: D(x·t1 - x) = t1 and D(1/t1) = -1/(x·t1^2), and D(x·t1) is not t1
log_antiderivative : derive_in logarithm (x *ₑ t1 -ₑ x) ≡ t1
unfolding computing
log_antiderivative = same_is _ _ refl

log_inverse : derive_in logarithm (inverse t1) ≡ neg one /ₑ (x *ₑ t1 ^ₑ 2)
unfolding computing
log_inverse = same_is _ _ refl

not_log_antiderivative : ¬ (derive_in logarithm (x *ₑ t1) ≡ t1)
unfolding computing
not_log_antiderivative = different _ _ refl

-- over t1 = exp(x^2): Dt1 = 2·x·t1
exp_of_square : derive_in (exp (x ^ₑ 2) ∷ []) t1 ≡ whole 2 *ₑ x *ₑ t1
unfolding computing
exp_of_square = same_is _ _ refl

-- over t1 = exp x, t2 = log(t1 + 1): D(t2^2/2) = t1·t2/(t1 + 1)
half_square : derive_in softplus (t2 ^ₑ 2 /ₑ whole 2) ≡ t1 *ₑ t2 /ₑ (t1 +ₑ one)
unfolding computing
half_square = same_is _ _ refl

-- ---- kinds
-- log x is primitive with η = 1/x, exp x an exponential with η = 1, and x is primitive with η = 1
log_kind : kind_of logarithm 1 ≡ primitive (inverse x)
unfolding computing
log_kind = ap primitive (same_is (derive_in logarithm x /ₑ x) (inverse x) refl)

exp_kind : kind_of exponential 1 ≡ exponential_kind one
unfolding computing
exp_kind = ap exponential_kind (same_is (derive_in exponential x) one refl)

x_kind : kind_of exponential 0 ≡ primitive one
x_kind = refl

exp_not_primitive : (η : Element) → ¬ (kind_of exponential 1 ≡ primitive η)
exp_not_primitive η e = grind arith

-- ---- soundness
-- the tower without monomials is sound
rational_functions : IsSound []
rational_functions = rational_functions_sound []

-- over t1 = log x, t2 = log(x^2): t2 - 2·t1 is a constant and not rational, so the tower is not sound
abbrev two_logarithms : Tower
two_logarithms = log x ∷ log (x ^ₑ 2) ∷ []

abbrev constant : Element
constant = t2 -ₑ whole 2 *ₑ t1

constant_in : InField (level 2) constant
constant_in = InField-minus (level 2) t2 (whole 2 *ₑ t1) (InField-variable (level 2) 2 (omega arith)) (InField-mul (level 2) (whole 2) t1 (InField-integer (level 2) _) (t1_in (level 2) (omega arith)))

constant_derivative : derive_in two_logarithms constant ≡ zero
unfolding computing
constant_derivative = same_is _ _ refl

constant_not_rational : ¬ IsRational constant
constant_not_rational q =
    variable-not-below 2 (constant +ₑ whole 2 *ₑ t1)
    (InField-add 2 constant (whole 2 *ₑ t1) (rational_in 2 constant q) (InField-mul 2 (whole 2) t1 (InField-integer 2 _) (t1_in 2 (omega arith))))
    (back t2 (whole 2 *ₑ t1))
  where
    back : (f g : Element) → f ≡ f -ₑ g +ₑ g
    back f g = ring elements.ring (f ∷ g ∷ []) (search reading depth 20) refl

new_constant : IsNewConstant two_logarithms (level 2) constant
new_constant = record { in_field = constant_in; constant = constant_derivative; not_rational = constant_not_rational }

not_sound : ¬ IsSound two_logarithms
not_sound s = constant_not_rational (s constant constant_in constant_derivative)

-- 1 is a constant, but no new one
not_new : ¬ IsNewConstant two_logarithms (level 2) one
not_new c = c.not_rational one_rational
