-- Remainder sequences over a field L, and primitive remainder sequences of d and a - z·e in K[z][t].
use Rattle.std.specs.Prelude.{◌≡◌, ℕ, suc, ◌+◌, ◌≤◌, ◌<◌, ◌⊎◌, List, [], ◌∷◌, map}
use Rattle.risch_ring.specs.CommRing.{CommRing, Field}
use Rattle.risch_ring.specs.Lists.{Each}
use Rattle.risch_univariate.specs.Polynomial.{constant}
use Rattle.risch_univariate.specs.Degree.{size}
use Rattle.risch_univariate.specs.Division.{Divides}
use Rattle.risch_univariate.specs.Polynomial.{Polynomial}
use Rattle.risch_univariate.specs.PolynomialRing.{polynomials}
use Rattle.risch_fraction_field.specs.Fraction.{Fraction}
use Rattle.risch_fraction_field.specs.FractionField.{fractions}
use Rattle.risch_residue_theory.specs.BivariatePolynomial.{lift, bivariate, content, residue_polynomial}

module _ {B : Type 0} (L : Field B) where
  abbrev R : CommRing (Polynomial L)
  R = polynomials L

  -- N = μ·P + Q·M with μ ≠ 0, deg N < deg M and deg Q ≤ deg P - deg M: P rem M but for the factor μ
  pub record IsNext (P M N : Polynomial L) : Type 0 where
    pub factor : B
    pub factor-nonzero : ¬ (factor ≡ L.zero)
    pub quotient : Polynomial L
    pub equation : N ≡ R.add (R.mul (constant L factor) P) (R.mul quotient M)
    pub size-quotient : size L quotient + size L M ≤ suc (size L P)
    pub smaller : size L N < size L M

  -- P, M, .. is a remainder sequence down to a degree below k
  abbrev pub IsSequence : ℕ → Polynomial L → Polynomial L → List (Polynomial L) → Type 0
  IsSequence k P M [] = size L M ≤ k
  IsSequence k P M (N ∷ Ns) = IsNext P M N × IsSequence k M N Ns

  -- the same, where it may also end because the remainder is 0
  abbrev pub IsRemainderSequence : ℕ → Polynomial L → Polynomial L → List (Polynomial L) → Type 0
  IsRemainderSequence k P M [] = (size L M ≤ k) ⊎ Divides L M P
  IsRemainderSequence k P M (N ∷ Ns) = IsNext P M N × IsRemainderSequence k M N Ns

module _ {A : Type 0} (F : Field A) where
  -- a remainder sequence of d and a - z·e in K[z][t], down to a degree below k: each member is primitive, and the first one is a - z·e but for a factor in K(z)
  pub record PrimitiveSequence (k : ℕ) (d a e : Polynomial F) (css : List (List (Polynomial F))) : Type 0 where
    pub first : List (Polynomial F)
    pub others : List (List (Polynomial F))
    pub all : css ≡ first ∷ others
    pub factor : Fraction F
    pub factor-nonzero : ¬ (factor ≡ (fractions F).zero)
    pub first-equation : bivariate F first ≡ (polynomials (fractions F)).mul (constant (fractions F) factor) (residue_polynomial F a e)
    pub size-first : size (fractions F) (bivariate F first) ≤ size F d
    pub is_sequence : IsRemainderSequence (fractions F) k (lift F d) (bivariate F first) (map (bivariate F) others)
    pub is_primitive : Each (λ cs. content F cs ≡ (polynomials F).one) (first ∷ others)
