-- The degree and the leading coefficient of a polynomial.
use Rattle.std.specs.Prelude.{◌≡◌, ℕ, pred, length}
use Rattle.risch_ring.specs.CommRing.{Field}
use Rattle.risch_univariate.specs.Polynomial.{Polynomial, coefficient}

module _ {A : Type 0} (F : Field A) where
  -- the number of coefficients: 1 + the degree, and 0 for the polynomial 0
  abbrev pub size : Polynomial F → ℕ
  size p = length p.coefficients

  -- the degree, with 0 for the polynomial 0
  abbrev pub degree : Polynomial F → ℕ
  degree p = pred (size p)

  -- the coefficient of the highest power, and 0 for the polynomial 0
  abbrev pub leading_coefficient : Polynomial F → A
  leading_coefficient p = coefficient F p (degree p)

  -- the leading coefficient is 1
  abbrev pub IsMonic : Polynomial F → Type 0
  IsMonic p = leading_coefficient p ≡ F.one
