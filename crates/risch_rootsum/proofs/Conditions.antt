-- Which sums over the roots of R of z·log S(z) have a derivative, told by common divisors: S has an inverse modulo R exactly where the monic common divisor of R and S is constant, and R' exactly where that of R and R' is.
--     invertible_of_gcd, gcd_of_invertible      S
--     separable_of_gcd, gcd_of_separable      R'
--     filled-invertible, list-invertible      zeros at the end of S do not matter
--     gcd-turned      the common divisor of S and R is that of R and S
use Rattle.std.proofs.Common.{◌≡◌, sym, ◌∙◌, ◌≤◌, List, map, length}
use Rattle.risch_frac.specs.Fraction.{Fraction}
use Rattle.risch_univariate.specs.Degree.{size}
use Rattle.risch_mean.specs.ElementField.{elements}
use Rattle.risch_mean.specs.ElementPolynomials.{derivative_of_modulus, remainder_modulo, IsInvertibleModulo}
use Rattle.risch_polynomial_theory.specs.Meaning.{AllValid}
use Rattle.risch_level.specs.Levels.{Element}
use Rattle.risch_element_theory.specs.WholeTower.{IsElement, meaning, polynomial}
use Rattle.risch_element_theory.specs.ElementPolynomials.{IsDerivative, IsMonicGcd}
use Rattle.risch_rootsum.specs.Algebra.{degree, IsModulus, modulus}
use Rattle.risch_rootsum.specs.AlgebraMeaning.{below, member}
use Rattle.risch_rootsum.proofs.Invertibles as Invertibles
use Rattle.risch_rootsum.proofs.ElementInvertibles as ElementInvertibles
use Rattle.risch_rootsum.proofs.AlgebraRules.{some-below, modulus-is_monic, short-member, remainder-filled}

pub gcd-turned : (p q g : List Element) → IsMonicGcd p q g → IsMonicGcd q p g
gcd-turned p q g h = (h.0, record { divides_left = h.1.divides_right; divides_right = h.1.divides_left; greatest = λ d a b. h.1.greatest d b a })

module _ (R : List Fraction) (h : IsModulus R) where
  same_remainder : (s : List Element) → length s ≤ degree R → remainder_modulo (below R) (map meaning s) ≡ remainder_modulo (below R) (member R s)
  same_remainder s short = short-member R h s short ∙ sym (remainder-filled R h s short)

  pub filled-invertible : (s : List Element) → length s ≤ degree R → IsInvertibleModulo (below R) (map meaning s) → IsInvertibleModulo (below R) (member R s)
  filled-invertible s short i = Invertibles.invertible_of_same elements (below R) (some-below R h) (map meaning s) (member R s) (same_remainder s short) i

  pub list-invertible : (s : List Element) → length s ≤ degree R → IsInvertibleModulo (below R) (member R s) → IsInvertibleModulo (below R) (map meaning s)
  list-invertible s short i = Invertibles.invertible_of_same elements (below R) (some-below R h) (member R s) (map meaning s) (sym (same_remainder s short)) i

  module _ (all : AllValid IsElement (modulus R)) where
    pub invertible_of_gcd : (s g : List Element) → IsMonicGcd (modulus R) s g → size elements (polynomial g) ≡ 1 → IsInvertibleModulo (below R) (map meaning s)
    invertible_of_gcd = ElementInvertibles.invertible_of_gcd (modulus R) (below R) (modulus-is_monic R h all)

    pub gcd_of_invertible : (s g : List Element) → IsMonicGcd (modulus R) s g → IsInvertibleModulo (below R) (map meaning s) → size elements (polynomial g) ≡ 1
    gcd_of_invertible = ElementInvertibles.gcd_of_invertible (modulus R) (below R) (modulus-is_monic R h all)

    -- e is R'
    pub separable_of_gcd : (e g : List Element) → IsDerivative (polynomial (modulus R)) (polynomial e) → IsMonicGcd (modulus R) e g → size elements (polynomial g) ≡ 1 →
        IsInvertibleModulo (below R) (derivative_of_modulus (below R))
    separable_of_gcd = ElementInvertibles.separable_of_gcd (modulus R) (below R) (modulus-is_monic R h all)

    pub gcd_of_separable : (e g : List Element) → IsDerivative (polynomial (modulus R)) (polynomial e) → IsMonicGcd (modulus R) e g → IsInvertibleModulo (below R) (derivative_of_modulus (below R)) →
        size elements (polynomial g) ≡ 1
    gcd_of_separable = ElementInvertibles.gcd_of_separable (modulus R) (below R) (modulus-is_monic R h all)
