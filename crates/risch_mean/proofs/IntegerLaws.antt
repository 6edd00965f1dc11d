-- The whole numbers as elements: an injective ring map.
--     integer-add, integer-mul, integer-neg, integer-zero, integer-one, integer_map      it is a ring map
--     integer_injective, integer-ne-zero      it is injective
--     integer-is      it is the ring map that every commutative ring has
use Rattle.std.specs.Prelude.{◌≡◌, refl, ℤ, pos, negsuc, suc, ◌+ℤ◌, ◌*ℤ◌, neg_ℤ}
use Rattle.std.proofs.Common.{sym, ap, ◌∙◌}
use Rattle.risch_ring.specs.CommRing.{RingMap, of_int}
use Rattle.risch_ring.specs.Integers.{ints}
use Rattle.risch_ring.proofs.Expression.{ints_of_nat}
use Rattle.risch_ring.proofs.RingMaps as RingMaps
use Rattle.risch_mean.specs.Exponents
use Rattle.risch_mean.specs.Polynomial
use Rattle.risch_mean.specs.PolynomialLaws
use Rattle.risch_mean.proofs.PolynomialConstants
use Rattle.risch_mean.specs.Element.{zero, one, add, mul, neg, polynomial, integer}
use Rattle.risch_mean.specs.ElementField.{elements}
use Rattle.risch_mean.specs.ElementLaws.{polynomial-add, polynomial-mul, polynomial-zero, polynomial-one, polynomial_injective}

pub integer-add : (a b : ℤ) → integer (a +ℤ b) ≡ add (integer a) (integer b)
integer-add a b = ap polynomial (PolynomialLaws.constant-add a b) ∙ polynomial-add (Polynomial.constant a) (Polynomial.constant b)

pub integer-mul : (a b : ℤ) → integer (a *ℤ b) ≡ mul (integer a) (integer b)
integer-mul a b = ap polynomial (PolynomialLaws.constant-mul a b) ∙ polynomial-mul (Polynomial.constant a) (Polynomial.constant b)

pub integer-zero : integer (pos 0) ≡ zero
integer-zero = ap polynomial PolynomialConstants.constant-zero ∙ polynomial-zero

pub integer-one : integer (pos 1) ≡ one
integer-one = ap polynomial (sym PolynomialLaws.one-is) ∙ polynomial-one

unfoldable pub integer_map : RingMap ints elements.ring
integer_map = record { apply = integer; apply-one = integer-one; apply-add = integer-add; apply-mul = integer-mul }

pub integer-neg : (a : ℤ) → integer (neg_ℤ a) ≡ neg (integer a)
unfolding integer_map
integer-neg a = RingMaps.apply-neg integer_map a

pub integer_injective : (a b : ℤ) → integer a ≡ integer b → a ≡ b
integer_injective a b h =
    sym (PolynomialConstants.coefficient-constant a)
    ∙ ap (λ p. Polynomial.coefficient_of p Exponents.none) (polynomial_injective (Polynomial.constant a) (Polynomial.constant b) h)
    ∙ PolynomialConstants.coefficient-constant b

pub integer-ne-zero : (a : ℤ) → ¬ (a ≡ pos 0) → ¬ (integer a ≡ zero)
integer-ne-zero a n h = n (integer_injective a (pos 0) (h ∙ sym integer-zero))

ints_of_int : (c : ℤ) → of_int ints c ≡ c
unfolding of_int
ints_of_int (pos n) = ints_of_nat n
ints_of_int (negsuc n) = ap neg_ℤ (ints_of_nat (suc n)) ∙ refl

pub integer-is : (c : ℤ) → integer c ≡ of_int elements.ring c
unfolding integer_map
integer-is c = ap integer (sym (ints_of_int c)) ∙ RingMaps.apply-of_int integer_map c
