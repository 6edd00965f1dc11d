-- The elements that can be written with x, t1, t2, ..: fractions N/M of polynomials with M ≠ 0, where N/M = N'/M' if N·M' = N'·M. One type serves all towers, and equal elements are equal by a path.
use Rattle.std.specs.Prelude.{◌≡◌, ℕ, suc, Bool, List, [], ◌∷◌, ℤ}
use mathlib.Core.Bool.{Bool-set}
use mathlib.Core.Quot.Quotient
use Rattle.risch_mean.specs.Polynomial
use Rattle.risch_mean.specs.Polynomial.{Polynomial, Within}
use Rattle.risch_mean.specs.PolynomialLaws.{polynomials}
use Rattle.risch_mean.specs.PolynomialDomain.{domain, is_zero_test_pair}
use Rattle.risch_mean.specs.Fractions

-- the classes of fractions
unfoldable pub Element : Type 0
Element = Fractions.Fraction polynomials domain

-- N / M
unfoldable pub of_pair : (n m : Polynomial) → ¬ (m ≡ Polynomial.zero) → Element
unfolding Element
of_pair n m h = Fractions.class polynomials domain (record { num = n; den = m; den-ne-zero = h })

-- ---- the operations of a field, each the one of fractions
-- 0
unfoldable pub zero : Element
unfolding Element
zero = Fractions.zero polynomials domain

-- 1
unfoldable pub one : Element
unfolding Element
one = Fractions.one polynomials domain

-- f + g
unfoldable pub add : Element → Element → Element
unfolding Element
add = Fractions.add polynomials domain

-- f·g
unfoldable pub mul : Element → Element → Element
unfolding Element
mul = Fractions.mul polynomials domain

-- -f
unfoldable pub neg : Element → Element
unfolding Element
neg = Fractions.neg polynomials domain

-- 1 / f, and 0 where f is 0
unfoldable pub inverse : Element → Element
unfolding Element
inverse = Fractions.inverse polynomials domain

-- f - g
abbrev pub minus : Element → Element → Element
minus f g = add f (neg g)

-- f / g, and 0 where g is 0
abbrev pub over : Element → Element → Element
over f g = mul f (inverse g)

-- the same as operators
infixl 60 ◌+ₑ◌ ◌-ₑ◌
infixl 70 ◌*ₑ◌ ◌/ₑ◌
abbrev pub ◌+ₑ◌ : Element → Element → Element
f +ₑ g = add f g

abbrev pub ◌-ₑ◌ : Element → Element → Element
f -ₑ g = minus f g

abbrev pub ◌*ₑ◌ : Element → Element → Element
f *ₑ g = mul f g

-- 0 where g is 0
abbrev pub ◌/ₑ◌ : Element → Element → Element
f /ₑ g = over f g

-- ---- polynomials, whole numbers and variables as elements
-- p / 1
unfoldable pub polynomial : Polynomial → Element
unfolding Element
polynomial p = Fractions.whole polynomials domain p

-- the whole number c
abbrev pub integer : ℤ → Element
integer c = polynomial (Polynomial.constant c)

-- variable 0 is x, variable i is ti
abbrev pub variable : ℕ → Element
variable i = polynomial (Polynomial.variable i)

-- ---- tests that compute
-- whether N/M is 0: whether N is
unfoldable pub is_zero_test : Element → Bool
unfolding Element
is_zero_test = Quotient.lift (Fractions.pairs polynomials domain) Bool-set (λ a. Polynomial.same a.num Polynomial.zero) is_zero_test_pair

-- whether two elements are equal: whether their difference is 0
unfoldable pub same : Element → Element → Bool
same f g = is_zero_test (f -ₑ g)

-- ---- the fields of a tower, each given by the number of its variables
-- the rational numbers: no variable
abbrev pub ground_field : ℕ
ground_field = 0

-- the field of level i: x, t1, .., ti
abbrev pub level : ℕ → ℕ
level i = suc i

-- the field below level i: that of level i - 1, and the rational numbers below level 0
abbrev pub field_below : ℕ → ℕ
field_below i = i

-- f lies in the field of the first n variables: it equals a fraction num/den in which no other variable occurs
pub record InField (n : ℕ) (f : Element) : Type 0 where
  pub num : Polynomial
  pub den : Polynomial
  pub den-ne-zero : ¬ (den ≡ Polynomial.zero)
  pub is : f ≡ of_pair num den den-ne-zero
  pub num-within : Within n num
  pub den-within : Within n den

-- each lies in the field
abbrev pub AllInField : ℕ → List Element → Type 0
AllInField n [] = Unit {0}
AllInField n (c ∷ cs) = InField n c × AllInField n cs
