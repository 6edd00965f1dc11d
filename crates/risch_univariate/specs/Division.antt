-- Division with remainder, divisibility, greatest common divisors, irreducible and square-free polynomials: the definitions.
use Rattle.std.specs.Prelude.{◌≡◌, ℕ, ◌≤◌, ◌<◌, ◌⊎◌}
use Rattle.risch_ring.specs.CommRing.{Field, power}
use Rattle.risch_univariate.specs.Polynomial.{Polynomial}
use Rattle.risch_univariate.specs.Degree.{size}
use Rattle.risch_univariate.specs.PolynomialRing.{polynomials}

module _ {A : Type 0} (F : Field A) where
  -- p = q·d + r with deg r < deg d
  pub record IsDivision (p d q r : Polynomial F) : Type 0 where
    pub equation : p ≡ (polynomials F).add ((polynomials F).mul q d) r
    pub smaller : size F r < size F d

  -- d | p: p = q·d for some q
  pub record Divides (d p : Polynomial F) : Type 0 where
    pub cofactor : Polynomial F
    pub equation : p ≡ (polynomials F).mul cofactor d

  -- g is a greatest common divisor of a and b
  pub record IsGcd (g a b : Polynomial F) : Type 0 where
    pub divides_left : Divides g a
    pub divides_right : Divides g b
    pub greatest : (d : Polynomial F) → Divides d a → Divides d b → Divides d g

  -- u·a + v·b = 1 for some u and v
  pub record IsCoprime (a b : Polynomial F) : Type 0 where
    pub left : Polynomial F
    pub right : Polynomial F
    pub equation : (polynomials F).add ((polynomials F).mul left a) ((polynomials F).mul right b) ≡ (polynomials F).one

  -- p is no constant, and its divisors are the constants and its own multiples by constants
  pub record IsIrreducible (p : Polynomial F) : Type 0 where
    pub not_constant : 2 ≤ size F p
    pub divisors : (d : Polynomial F) → Divides d p → (size F d ≤ 1) ⊎ (size F d ≡ size F p)

  -- no square of a polynomial of degree at least 1 divides p
  abbrev pub IsSquareFree : Polynomial F → Type 0
  IsSquareFree p = (s : Polynomial F) → Divides ((polynomials F).mul s s) p → size F s ≤ 1

  -- a = p ^ e · b, and p does not divide b
  pub record IsMultiplicity (p a : Polynomial F) (e : ℕ) : Type 0 where
    pub cofactor : Polynomial F
    pub equation : a ≡ (polynomials F).mul (power (polynomials F) p e) cofactor
    pub not_divides : ¬ Divides p cofactor
