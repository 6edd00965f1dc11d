-- The operations of K[t] and divisibility as operators. One line opens them for a block over a field F, with their precedences:
--
--   open (polynomial_operators F) use {𝟘, 𝟙, ◌+◌ as ◌+ₚ◌, ◌*◌, ◌^◌, ◌∣◌}
use Rattle.std.specs.Prelude.{ℕ}
use Rattle.risch_ring.specs.CommRing.{Field, sub, power}
use Rattle.risch_univariate.specs.Polynomial.{Polynomial}
use Rattle.risch_univariate.specs.Division.{Divides}
use Rattle.risch_univariate.specs.PolynomialRing.{polynomials}

-- the operations of K[t] with their precedences
pub record PolynomialOperators (P : Type 0) : Type 1 where
  infix 50 ◌∣◌
  infixl 60 ◌+◌ ◌-◌
  infixl 70 ◌*◌
  infix 80 -◌
  infixr 90 ◌^◌
  pub 𝟘 : P
  pub 𝟙 : P
  pub ◌+◌ : P → P → P
  pub ◌-◌ : P → P → P
  pub ◌*◌ : P → P → P
  pub -◌ : P → P
  pub ◌^◌ : P → ℕ → P
  pub ◌∣◌ : P → P → Type 0

-- those of K[t]
abbrev pub polynomial_operators : {A : Type 0} (F : Field A) → PolynomialOperators (Polynomial F)
polynomial_operators F = record {
  𝟘 = (polynomials F).zero;
  𝟙 = (polynomials F).one;
  ◌+◌ = (polynomials F).add;
  ◌-◌ = sub (polynomials F);
  ◌*◌ = (polynomials F).mul;
  -◌ = (polynomials F).neg;
  ◌^◌ = power (polynomials F);
  ◌∣◌ = Divides F;
}
