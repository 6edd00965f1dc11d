-- What is read: a problem, that is a tower and an integrand in it; and a problem with a certificate.
use Rattle.std.specs.Prelude.{◌≡◌, ℕ, ◌+◌, ◌<◌, ◌≤◌, List, length, All}
use Rattle.risch_level.specs.Levels.{Element}
use Rattle.risch_element_theory.specs.WholeTower.{IsPolynomial, Within}
use Rattle.risch_tower.specs.declared.level.Level.{Level}
use Rattle.risch_rootsum.specs.DerivativeMeaning.{IsLogPart}
use Rattle.risch_rootsum.specs.declared.integral.LogPart.{LogPart}
use Rattle.risch_rootsum.specs.declared.integral.Integral.{Integral}
use Rattle.risch_cert.specs.declared.answer.Certificate.{Certificate}
use Rattle.risch_cert.specs.declared.answer.Certificate.TheVariants.{Integral as Certified, Refuted}
use Rattle.risch_cert.specs.declared.chain.Chain.{Chain}
use Rattle.risch_cert.specs.declared.chain.End.{End}
use Rattle.risch_cert.specs.declared.chain.End.TheVariants.{Residue}

-- a tower, and an element
pub record ProblemValue : Type 0 where
  pub tower : List Level
  pub integrand : Element

-- the element lies in the tower
abbrev pub IsProblem : ProblemValue → Type 0
IsProblem p = Within (length p.tower + 1) p.integrand

-- ---- certificates
-- a problem, a certificate, and the numbers of its lines
pub record CertifiedValue : Type 0 where
  pub problem : ProblemValue
  pub certificate : Certificate
  pub lines : List ℕ

-- R is monic, of degree m from 1 to 255; S is a polynomial in z over the first n variables, of degree below m and weight at most 65536, and its last coefficient is not 0
pub record IsLogForm (n : ℕ) (l : LogPart) : Type 0 where
  pub part : IsLogPart n l
  pub argument_kept : IsPolynomial l.arg

-- only the first n variables occur in the part and in the arguments
pub record IsIntegralForm (n : ℕ) (it : Integral) : Type 0 where
  pub part_within : Within n it.part
  pub logs : All (IsLogForm n) it.logs

-- only the first n variables occur in the trace, and the power has 16 bits
abbrev pub IsEndForm : ℕ → End → Type 0
IsEndForm n (Residue power trace) = (power ≤ 65535) × Within n trace

-- and in the rest; and the level is that of one of them
pub record IsChainForm (n : ℕ) (chain : Chain) : Type 0 where
  pub partial : IsIntegralForm n chain.partial
  pub rest_within : Within n chain.rest
  pub level_low : chain.level < n
  pub end : IsEndForm n chain.end

abbrev pub IsForm : ℕ → Certificate → Type 0
IsForm n (Certified it) = IsIntegralForm n it
IsForm n (Refuted chain) = IsChainForm n chain

-- the lines `integral` and `part`, one for each logarithm, and `end`; or `refuted`, `part`, the logarithms, `rest` and `end`
abbrev pub line_count : Certificate → ℕ
line_count (Certified it) = length it.logs + 3
line_count (Refuted chain) = length chain.partial.logs + 4

-- the certificate has its form over the tower, and there is one number for each of its lines
pub record IsCertified (c : CertifiedValue) : Type 0 where
  pub form : IsForm (length c.problem.tower + 1) c.certificate
  pub numbered : length c.lines ≡ line_count c.certificate
