-- The order of a rational function at a polynomial p, as a difference m - n of exponents.
use Rattle.std.specs.Prelude.{ℕ}
use Rattle.risch_ring.specs.CommRing.{Field}
use Rattle.risch_univariate.specs.Polynomial.{Polynomial}
use Rattle.risch_univariate.specs.PolynomialOperators.{polynomial_operators}
use Rattle.risch_fraction_field.specs.Fraction.{Fraction, Represents}

module _ {A : Type 0} (F : Field A) where
  open (polynomial_operators F) use {◌*◌, ◌^◌, ◌∣◌}

  -- f = p^m·a / (p^n·b), p ∤ a and p ∤ b: the order of f at p is m - n
  pub record IsOrder (p : Polynomial F) (f : Fraction F) (m n : ℕ) : Type 0 where
    pub left : Polynomial F
    pub right : Polynomial F
    pub represents : Represents F f (p ^ m * left) (p ^ n * right)
    pub not_divides_left : ¬ (p ∣ left)
    pub not_divides_right : ¬ (p ∣ right)

  -- f = p^m·a / (p^n·b) and p ∤ b: the order of f at p is at least m - n
  pub record HasOrderAtLeast (p : Polynomial F) (f : Fraction F) (m n : ℕ) : Type 0 where
    pub left : Polynomial F
    pub right : Polynomial F
    pub represents : Represents F f (p ^ m * left) (p ^ n * right)
    pub not_divides_right : ¬ (p ∣ right)
