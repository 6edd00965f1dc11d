-- Which logarithms over a level stand for the logarithms by residues over K(t), where K is the field below the level: R has the same coefficients, and those of S are the values at t of elements of K(t).
use Rattle.std.specs.Prelude.{◌≡◌, ℕ, true, false, List, [], ◌∷◌}
use Rattle.risch_univariate.specs.Polynomial.{coefficient}
use Rattle.risch_fraction_field.specs.FractionField.{fractions}
use Rattle.risch_extension.specs.LinearFactors.{linear}
use Rattle.risch_residue_theory.specs.BivariatePolynomial.{by_powers}
use Rattle.risch_residue_theory.specs.RuleLogarithm.{RuleLogarithm, at_point}
use Rattle.risch_mean.proofs.Subfield.{Subfield}
use Rattle.risch_frac.specs.Fraction.{IsLowest}
use Rattle.risch_mean.specs.Element as mean
use Rattle.risch_mean.specs.Element.{◌+ₑ◌}
use Rattle.risch_mean.specs.Answer.{LogDerivative, SumDerivative, SumOf}
use Rattle.risch_mean.specs.Tower.{Tower}
use Rattle.risch_polynomial.specs.Poly as poly
use Rattle.risch_polynomial_theory.specs.Meaning.{AllValid}
use Rattle.risch_level.specs.Levels.{element}
use Rattle.risch_element_theory.specs.WholeTower.{IsElement, meaning, polynomial}
use Rattle.risch_rootsum.specs.Algebra.{modulus}
use Rattle.risch_rootsum.specs.Derivative.{is_linear, argument}
use Rattle.risch_rootsum.specs.DerivativeMeaning.{logarithms_of, sums_of}
use Rattle.risch_rootsum.specs.declared.integral.LogPart.{LogPart}
use Rattle.risch_logarithm_theory.specs.FieldBelow.{below, included_polynomial, value_below}

-- l stands for the sum over the roots z of R of z·log S(z): its R is that of r, and the coefficient of its S at z^k is the value at t of that of S, ordered by powers of z; where R = z - c, its U is the value at t of S(c)
pub record StandsForLogarithm (level : ℕ) (l : LogPart) (r : RuleLogarithm (below level)) : Type 0 where
  pub same_modulus : included_polynomial level r.modulus ≡ polynomial (modulus l.poly)
  pub of_sum : is_linear l ≡ false → (k : ℕ) → meaning (poly.coefficient element l.arg k) ≡ value_below level (coefficient (fractions (below level)) (by_powers (below level) r.argument) k)
  pub of_logarithm : is_linear l ≡ true → (c : Subfield level) → r.modulus ≡ linear (below level) c → meaning (argument l) ≡ value_below level (at_point (below level) c r.argument)

-- the logarithms stand for these, one by one in this order
abbrev pub StandForLogarithms : (level : ℕ) → List LogPart → List (RuleLogarithm (below level)) → Type 0
StandForLogarithms level [] [] = Unit
StandForLogarithms level [] (r ∷ rs) = ⊥
StandForLogarithms level (l ∷ ls) [] = ⊥
StandForLogarithms level (l ∷ ls) (r ∷ rs) = StandsForLogarithm level l r × StandForLogarithms level ls rs

-- the coefficients of R are fractions in lowest terms, and those of S elements in normal form
pub record IsNormalPart (l : LogPart) : Type 0 where
  pub lowest : AllValid IsLowest l.poly
  pub normal : AllValid IsElement l.arg

-- the logarithms and the sums over roots have derivatives, and these add up to f
pub record HaveDerivatives (tower : Tower) (logs : List LogPart) (f : mean.Element) : Type 0 where
  pub plain : mean.Element
  pub plain_are : SumOf (LogDerivative tower) (logarithms_of logs) plain
  pub sums : mean.Element
  pub sums_are : SumOf (SumDerivative tower) (sums_of logs) sums
  pub total : plain +ₑ sums ≡ f
