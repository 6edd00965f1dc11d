-- What the logarithms of the residues are: at a logarithm and at x their derivatives add up to h, at an exponential to h + η·p_1.
use Rattle.std.specs.Prelude.{◌≡◌, ℕ, List, All}
use Rattle.risch_polynomial_theory.specs.FractionMeaning.{fraction_meaning}
use Rattle.risch_frac.specs.Fraction.{Fraction}
use Rattle.risch_mean.specs.Answer.{LogDerivative, SumDerivative, SumOf}
use Rattle.risch_mean.specs.Element as mean
use Rattle.risch_mean.specs.Element.{◌+ₑ◌, ◌*ₑ◌}
use Rattle.risch_level.specs.Levels.{Element}
use Rattle.risch_derivation.specs.declared.rate.Kind.{Kind}
use Rattle.risch_derivation.specs.declared.rate.Kind.TheVariants.{Primitive, Exponential}
use Rattle.risch_element_theory.specs.WholeTower.{meaning}
use Rattle.risch_tower.specs.declared.level.Level.{Level}
use Rattle.risch_tower.specs.Tower.{rate_at}
use Rattle.risch_tower.specs.TowerMeaning.{monomials}
use Rattle.risch_rootsum.specs.declared.integral.LogPart.{LogPart}
use Rattle.risch_rootsum.specs.DerivativeMeaning.{logarithms_of, sums_of, IsLogPart}
use Rattle.risch_residue.specs.declared.outcome.Residues.{Residues}
use Rattle.risch_residue.specs.declared.outcome.Residues.TheVariants.{Constant, NotConstant}

-- what is added to h: η·p at an exponential
abbrev pub surplus : Kind → mean.Element → mean.Element → mean.Element
surplus Primitive η p = mean.zero
surplus Exponential η p = η *ₑ p

-- each logarithm has a derivative by the definitions, and they add up to h and the surplus
pub record AreLogarithmsOf (tower : List Level) (level : ℕ) (h : Element) (logs : List LogPart) (trace : Fraction) : Type 0 where
  pub plain : mean.Element
  pub plain_are : SumOf (LogDerivative (monomials tower)) (logarithms_of logs) plain
  pub sums : mean.Element
  pub sums_are : SumOf (SumDerivative (monomials tower)) (sums_of logs) sums
  pub total : plain +ₑ sums ≡ meaning h +ₑ surplus (rate_at tower level).kind (meaning (rate_at tower level).eta) (fraction_meaning trace)

-- each R is monic, of degree from 1 to 255, each S has a smaller degree and a weight within the limit, and only the first n variables occur
abbrev pub AllLogParts : ℕ → List LogPart → Type 0
AllLogParts n logs = All (IsLogPart n) logs

-- ---- of an answer
abbrev pub IfConstant : Residues → (List LogPart → Fraction → Type 0) → Type 0
IfConstant (Constant logs trace) P = P logs trace
IfConstant (NotConstant power p) P = Unit {0}

abbrev pub IfNotConstant : Residues → (ℕ → Element → Type 0) → Type 0
IfNotConstant (Constant logs trace) P = Unit {0}
IfNotConstant (NotConstant power p) P = P power p
