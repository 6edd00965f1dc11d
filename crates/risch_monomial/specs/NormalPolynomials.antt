-- Normal and special polynomials in the variable t of a level (Bronstein, section 3.4).
use Rattle.std.specs.Prelude.{◌≡◌, ℕ}
use Rattle.risch_ring.specs.CommRing.{Derivation, power}
use Rattle.risch_univariate.specs.Polynomial.{Polynomial, variable}
use Rattle.risch_univariate.specs.PolynomialRing.{polynomials}
use Rattle.risch_univariate.specs.Division.{Divides, IsSquareFree}
use Rattle.risch_univariate.specs.SplittingFactorization.{IsNormal}
use Rattle.risch_mean.specs.ElementField.{elements}
use Rattle.risch_derivation.specs.declared.rate.Kind.{Kind}
use Rattle.risch_derivation.specs.declared.rate.Kind.TheVariants.{Primitive, Exponential}

-- each square-free divisor q of p is normal: q and Dq are coprime
abbrev pub HasNormalDivisors : Derivation (polynomials elements) → Polynomial elements → Type 0
HasNormalDivisors D p = (q : Polynomial elements) → IsSquareFree elements q → Divides elements q p → IsNormal elements D q

-- what the monic special polynomials of a sound tower are: 1 where Dt = η, a power of t where Dt = η·t
abbrev pub IsSpecialAt : Kind → Polynomial elements → Type 0
IsSpecialAt Primitive s = s ≡ (polynomials elements).one
IsSpecialAt Exponential s = (e : ℕ) × (s ≡ power (polynomials elements) (variable elements) e)
