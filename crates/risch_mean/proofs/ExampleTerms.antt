-- The closed terms of the examples. An equation between closed elements is decided by computing: `same_is _ _ refl` where it holds and `different _ _ refl` where it does not.
use Rattle.std.specs.Prelude.{ℕ, ◌<◌, refl, [], ◌∷◌, pos, negsuc}
use Rattle.std.proofs.Common.{arith}
use mathlib.Core.Quot.Quotient
use Rattle.risch_ring.specs.CommRing
use Rattle.risch_mean.specs.Exponents
use Rattle.risch_mean.specs.Polynomial
use Rattle.risch_mean.specs.PolynomialLaws
use Rattle.risch_mean.specs.Fractions
use Rattle.risch_mean.specs.Element
use Rattle.risch_mean.specs.Element.{Element, zero, one, neg, ◌/ₑ◌, integer, variable, InField}
use Rattle.risch_mean.specs.ElementLaws.{same_is}
use Rattle.risch_mean.specs.QuotientRule
use Rattle.risch_mean.specs.Derivation
use Rattle.risch_mean.specs.Tower.{Tower, log, exp}
use Rattle.risch_mean.specs.Constants.{IsRational}
use Rattle.risch_mean.proofs.FieldClosure.{InField-variable}

-- names all that the computations look through
unfoldable pub computing : Unit {0}
unfolding Exponents.add Exponents.below Exponents.none Exponents.compare Exponents.lower Exponents.exponent Exponents.unit Polynomial.of_terms Polynomial.zero Polynomial.monomial Polynomial.constant Polynomial.one Polynomial.variable Polynomial.add Polynomial.mul Polynomial.neg Polynomial.partial PolynomialLaws.discrete Quotient.lift Quotient.lift₂ Fractions.add Fractions.mul Fractions.neg Fractions.inverse Fractions.whole Fractions.zero Fractions.one Element.Element Element.of_pair Element.zero Element.one Element.add Element.mul Element.neg Element.inverse Element.polynomial Element.is_zero_test Element.same QuotientRule.derive_from QuotientRule.derive_polynomial Derivation.derive CommRing.power CommRing.of_nat
computing = tt

abbrev pub x : Element
x = variable 0

abbrev pub t1 : Element
t1 = variable 1

abbrev pub t2 : Element
t2 = variable 2

abbrev pub whole : ℕ → Element
whole n = integer (pos n)

pub x_in : (n : ℕ) → 0 < n → InField n x
x_in n h = InField-variable n 0 h

pub t1_in : (n : ℕ) → 1 < n → InField n t1
t1_in n h = InField-variable n 1 h

-- ---- the towers t1 = log x and t1 = exp x
abbrev pub logarithm : Tower
logarithm = log x ∷ []

abbrev pub exponential : Tower
exponential = exp x ∷ []

-- ---- rational elements
pub zero_rational : IsRational zero
unfolding computing
zero_rational = record { num = pos 0; den = pos 1; den-ne-zero = λ e. grind arith; is = same_is _ _ refl }

pub one_rational : IsRational one
unfolding computing
one_rational = record { num = pos 1; den = pos 1; den-ne-zero = λ e. grind arith; is = same_is _ _ refl }

pub minus_one_rational : IsRational (neg one)
unfolding computing
minus_one_rational = record { num = negsuc 0; den = pos 1; den-ne-zero = λ e. grind arith; is = same_is _ _ refl }

pub quarter_rational : IsRational (one /ₑ whole 4)
unfolding computing
quarter_rational = record { num = pos 1; den = pos 4; den-ne-zero = λ e. grind arith; is = same_is _ _ refl }
