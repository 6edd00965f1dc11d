-- Normal and special polynomials for a derivation D of K[t], and the splitting factorization.
use Rattle.std.specs.Prelude.{◌≡◌}
use Rattle.risch_ring.specs.CommRing.{Field, Derivation}
use Rattle.risch_univariate.specs.Polynomial.{Polynomial}
use Rattle.risch_univariate.specs.PolynomialRing.{polynomials}
use Rattle.risch_univariate.specs.Degree.{IsMonic}
use Rattle.risch_univariate.specs.Division.{Divides, IsCoprime, IsIrreducible}

module _ {A : Type 0} (F : Field A) (D : Derivation (polynomials F)) where
  -- p is normal: gcd(p, D(p)) = 1
  abbrev pub IsNormal : Polynomial F → Type 0
  IsNormal p = IsCoprime F p (D.derive p)

  -- p is special: p | D(p)
  abbrev pub IsSpecial : Polynomial F → Type 0
  IsSpecial p = Divides F p (D.derive p)

  -- d = n·s, the monic irreducible factors of n are normal and those of s are special
  pub record SplittingFactorization (d : Polynomial F) : Type 0 where
    pub normal : Polynomial F
    pub special : Polynomial F
    pub equation : d ≡ (polynomials F).mul normal special
    pub normal_is_monic : IsMonic F normal
    pub special_is_monic : IsMonic F special
    pub normal_factors : (f : Polynomial F) → IsIrreducible F f → IsMonic F f → Divides F f normal → IsNormal f
    pub special_factors : (f : Polynomial F) → IsIrreducible F f → IsMonic F f → Divides F f special → IsSpecial f
