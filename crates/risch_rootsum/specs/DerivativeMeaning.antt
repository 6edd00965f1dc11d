-- What an integral stands for: an answer of risch_mean, in which the parts with R = z - C are logarithms, and the others are sums over roots.
use Rattle.std.specs.Prelude.{◌≡◌, ℕ, not, true, false, List, map, filter}
use Rattle.risch_univariate.specs.Polynomial.{of_list}
use Rattle.risch_mean.specs.Element as mean
use Rattle.risch_mean.specs.ElementField.{elements}
use Rattle.risch_mean.specs.Answer.{Answer, Logarithm, RootSum, LogDerivative, SumDerivative}
use Rattle.risch_mean.specs.Tower as towers
use Rattle.risch_polynomial_theory.specs.FractionMeaning.{fraction_meaning}
use Rattle.risch_level.specs.Levels.{Element}
use Rattle.risch_element_theory.specs.WholeTower.{IsPolynomial, meaning, polynomial, AllWithin}
use Rattle.risch_rootsum.specs.Algebra.{IsModulus, IsMember}
use Rattle.risch_rootsum.specs.AlgebraMeaning.{below}
use Rattle.risch_rootsum.specs.Derivative.{is_linear, factor, argument}
use Rattle.risch_rootsum.specs.declared.integral.LogPart.{LogPart}
use Rattle.risch_rootsum.specs.declared.integral.Integral.{Integral}

-- C·log U
abbrev pub logarithm_of : LogPart → Logarithm
logarithm_of l = record { factor = fraction_meaning (factor l); argument = meaning (argument l) }

-- the sum over the roots z of R of z·log S(z)
abbrev pub sum_of : LogPart → RootSum
sum_of l = record { modulus = below l.poly; inner = map meaning l.arg }

abbrev pub logarithms_of : List LogPart → List Logarithm
logarithms_of logs = map logarithm_of (filter is_linear logs)

abbrev pub sums_of : List LogPart → List RootSum
sums_of logs = map sum_of (filter (λ l. not (is_linear l)) logs)

-- the answer that the integral stands for
abbrev pub answer_of : Integral → Answer
answer_of integral = record { part = meaning integral.part; logs = logarithms_of integral.logs; sums = sums_of integral.logs }

-- R is monic, of degree m from 1 to 255, S has at most m coefficients, of weight at most 65536, and only the first n variables occur in them
pub record IsLogPart (n : ℕ) (l : LogPart) : Type 0 where
  pub modulus : IsModulus l.poly
  pub argument_member : IsMember l.poly l.arg
  pub argument_within : AllWithin n l.arg

-- f is the derivative of the part
pub record IsPartDerivative (tower : towers.Tower) (l : LogPart) (f : mean.Element) : Type 0 where
  pub of_logarithm : is_linear l ≡ true → LogDerivative tower (logarithm_of l) f
  pub of_sum : is_linear l ≡ false → SumDerivative tower (sum_of l) f

-- ds is a polynomial, and ⟦ds⟧ = D⟦s⟧, where D acts on the coefficients
pub record IsDerivativeOf (tower : towers.Tower) (s ds : List Element) : Type 0 where
  pub kept : IsPolynomial ds
  pub means : polynomial ds ≡ of_list elements (map (towers.derive_in tower) (map meaning s))
