-- Polynomials in x, t1, t2, .. over the whole numbers: finite maps from exponent lists to non-zero whole numbers without bound.
-- Such a map is the list of its entries in the order of the exponent lists, so equal polynomials are equal lists.
use Rattle.std.specs.Prelude.{ℕ, Bool, true, false, ◌&&◌, T, eqb, List, [], ◌∷◌, ◌++◌, ℤ, pos, negsuc}
use lib.Pointwise.{pointwise}
use Rattle.std.specs.Ordering.{is_eq}
use Rattle.risch_mean.specs.Exponents
use Rattle.risch_mean.specs.Exponents.{Exponents, compare}
use Rattle.risch_mean.specs.Terms.{Term, coefficient, normal_form, is_normal, times, product, derivative}
use Rattle.risch_mean.specs.TermLaws.{is_normal-normal_form}

-- terms whose exponents rise, each with a coefficient other than 0
pub record Polynomial : Type 0 where
  pub terms : List Term
  pub normal : T (is_normal terms)

-- the value of the map at e, 0 where e is no key
abbrev pub coefficient_of : Polynomial → Exponents → ℤ
coefficient_of p e = coefficient p.terms e

-- the polynomial whose coefficients are the sums of those of the terms
unfoldable pub of_terms : List Term → Polynomial
of_terms r = record { terms = normal_form r; normal = is_normal-normal_form r }

-- ---- the operations
-- 0
unfoldable pub zero : Polynomial
zero = of_terms []

-- c·(monomial of e)
unfoldable pub monomial : Exponents → ℤ → Polynomial
monomial e c = of_terms ((e, c) ∷ [])

-- the whole number c
unfoldable pub constant : ℤ → Polynomial
unfolding monomial
constant c = monomial Exponents.none c

-- 1
unfoldable pub one : Polynomial
unfolding constant
one = constant (pos 1)

-- variable 0 is x, variable i the i-th monomial of the tower
unfoldable pub variable : ℕ → Polynomial
unfolding monomial
variable i = monomial (Exponents.unit i) (pos 1)

-- P + Q
unfoldable pub add : Polynomial → Polynomial → Polynomial
add p q = of_terms (p.terms ++ q.terms)

-- P·Q
unfoldable pub mul : Polynomial → Polynomial → Polynomial
mul p q = of_terms (product p.terms q.terms)

-- -P
unfoldable pub neg : Polynomial → Polynomial
neg p = of_terms (times (Exponents.none, negsuc 0) p.terms)

-- ∂P/∂v for variable i
unfoldable pub partial : ℕ → Polynomial → Polynomial
partial i p = of_terms (derivative i p.terms)

-- ---- tests of equality, which compute
-- of whole numbers
abbrev pub same_int : ℤ → ℤ → Bool
same_int (pos m) (pos n) = eqb m n
same_int (pos m) (negsuc n) = false
same_int (negsuc m) (pos n) = false
same_int (negsuc m) (negsuc n) = eqb m n

-- of terms
abbrev pub same_term : Term → Term → Bool
same_term t u = is_eq (compare t.0 u.0) && same_int t.1 u.1

-- of polynomials, term by term
abbrev pub same : Polynomial → Polynomial → Bool
same p q = pointwise same_term p.terms q.terms

-- ---- the variables of a polynomial
-- whether only variables below n occur
abbrev pub all_below : ℕ → List Term → Bool
all_below n [] = true
all_below n (t ∷ r) = Exponents.below n t.0 && all_below n r

-- only variables below n occur in p
pub record Within (n : ℕ) (p : Polynomial) : Type 0 where
  pub within : T (all_below n p.terms)
