-- What an answer says of its integrand.
use Rattle.std.specs.Prelude.{ℕ, ◌≡◌, ◌<◌, List, length, false, IsFalse}
use Rattle.risch_mean.specs.Element as mean
use Rattle.risch_mean.specs.Answer.{LogDerivative, SumDerivative, SumOf, IsIntegral}
use Rattle.risch_level.specs.Levels.{Element, element}
use Rattle.risch_univariate.specs.SplittingFactorization.{IsNormal}
use Rattle.risch_mean.specs.ElementField.{elements}
use Rattle.risch_element_theory.specs.WholeTower.{meaning, polynomial, Within}
use Rattle.risch_monomial.specs.LevelDerivation.{level_derivation}
use Rattle.risch_monomial.specs.LevelElements.{numerator_at, denominator_at}
use Rattle.risch_round.specs.declared.preparation.Prepared.{Prepared}
use Rattle.risch_tower.specs.declared.level.Level.{Level}
use Rattle.risch_tower.specs.TowerMeaning.{monomials}
use Rattle.risch_rootsum.specs.DerivativeMeaning.{answer_of, logarithms_of, sums_of}
use Rattle.risch_rootsum.specs.declared.integral.LogPart.{LogPart}
use Rattle.risch_rootsum.specs.declared.integral.Integral.{Integral}
use Rattle.risch_residue.specs.ResiduesMeaning.{AllLogParts}
use Rattle.risch_residue.specs.declared.outcome.Residues.{Residues}
use Rattle.risch_residue.specs.declared.outcome.Residues.TheVariants.{Constant, NotConstant}
use Rattle.risch_cert.specs.declared.answer.Answer.{Answer}
use Rattle.risch_cert.specs.declared.answer.Answer.TheVariants.{Integral as Found, Refuted, Stopped, Disagree}

-- ---- the answer
-- an integral that is found is an integral of f
abbrev pub IsFoundIntegral : List Level → Element → Answer → Type 0
IsFoundIntegral tower f (Found it) = IsIntegral (monomials tower) (answer_of it) (meaning f)
IsFoundIntegral tower f (Refuted chain) = Unit {0}
IsFoundIntegral tower f (Stopped halt) = Unit {0}
IsFoundIntegral tower f (Disagree left right) = Unit {0}

-- two elements that are told apart are other ones
abbrev pub AreOther : Element → Element → Type 0
AreOther left right = (¬ (meaning left ≡ meaning right)) × (element.same left right ≡ false)

abbrev pub IsDisagreement : Answer → Type 0
IsDisagreement (Found it) = Unit {0}
IsDisagreement (Refuted chain) = Unit {0}
IsDisagreement (Stopped halt) = Unit {0}
IsDisagreement (Disagree left right) = AreOther left right

-- ---- the logarithms
-- each R is monic and each S is small, with the first n variables alone, and each logarithm has a derivative by the definitions
pub record HaveDerivatives (tower : List Level) (n : ℕ) (logs : List LogPart) : Type 0 where
  pub parts : AllLogParts n logs
  pub plain : mean.Element
  pub plain_are : SumOf (LogDerivative (monomials tower)) (logarithms_of logs) plain
  pub sums : mean.Element
  pub sums_are : SumOf (SumDerivative (monomials tower)) (sums_of logs) sums

-- the same where the residues are constant
abbrev pub IfConstantLogs : Residues → (List LogPart → Type 0) → Type 0
IfConstantLogs (Constant logs trace) P = P logs
IfConstantLogs (NotConstant power trace) P = Unit {0}

-- ---- the preparation
-- h is proper, and its denominator is coprime with its derivative
pub record IsSimple (tower : List Level) (h : Element) : Type 0 where
  pub proper : length (numerator_at 0 h) < length (denominator_at 0 h)
  pub normal : IsNormal elements (level_derivation (monomials tower) 0) (polynomial (denominator_at 0 h))

-- all three lie in Q(x), and h is simple where it is not 0
pub record IsPrepared (tower : List Level) (it : Prepared) : Type 0 where
  pub g_within : Within 1 it.g
  pub h_within : Within 1 it.h
  pub r_within : Within 1 it.r
  pub simple : IsFalse (element.is_zero it.h) → IsSimple tower it.h

-- ---- the integral before its derivative is compared
-- the part lies in Q(x), and the logarithms have derivatives
pub record IsFormed (tower : List Level) (it : Integral) : Type 0 where
  pub part : Within 1 it.part
  pub logs : HaveDerivatives tower 1 it.logs
