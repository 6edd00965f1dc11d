-- The form of a certificate over a tower, what it claims, and its lines.
use Rattle.std.specs.Prelude.{◌≡◌, ℕ, ◌+◌, ◌<◌, length, All}
use Rattle.risch_frac.specs.Fraction.{IsLowest}
use Rattle.risch_mean.specs.Element as mean
use Rattle.risch_mean.specs.Element.{◌+ₑ◌}
use Rattle.risch_mean.specs.Tower.{Tower}
use Rattle.risch_mean.specs.Answer.{Answer, HasDerivative}
use Rattle.risch_mean.specs.Chain as chains
use Rattle.risch_polynomial_theory.specs.Meaning.{AllValid}
use Rattle.risch_element_theory.specs.WholeTower.{IsElement, meaning, Within}
use Rattle.risch_rootsum.specs.Algebra.{IsModulus, IsMember}
use Rattle.risch_rootsum.specs.DerivativeMeaning.{answer_of, IsLogPart}
use Rattle.risch_rootsum.specs.declared.integral.LogPart.{LogPart}
use Rattle.risch_rootsum.specs.declared.integral.Integral.{Integral}
use Rattle.risch_cert.specs.declared.answer.Certificate.{Certificate}
use Rattle.risch_cert.specs.declared.answer.Certificate.TheVariants.{Integral as Certified, Refuted}
use Rattle.risch_cert.specs.declared.chain.Chain.{Chain}
use Rattle.risch_cert.specs.declared.chain.End.{End}
use Rattle.risch_cert.specs.declared.chain.End.TheVariants.{Residue}
use Rattle.risch_chain_end.specs.EndMeaning.{end_of}

-- ---- the form
-- Only the first n variables occur in the part and in the arguments of the logarithms. Of each of these R is monic, of degree from 1 to 255, and S has a smaller degree and a weight of at most 65536.
pub record IsFormed (n : ℕ) (it : Integral) : Type 0 where
  pub part_within : Within n it.part
  pub logs_formed : All (IsLogPart n) it.logs

-- the same of the trace
abbrev pub IsFormedEnd : ℕ → End → Type 0
IsFormedEnd n (Residue power trace) = Within n trace

-- the same of the partial integral, the rest and the end, which stands at a level of the tower
pub record IsFormedChain (n : ℕ) (chain : Chain) : Type 0 where
  pub partial_formed : IsFormed n chain.partial
  pub rest_within : Within n chain.rest
  pub is_level : chain.level < n
  pub end_formed : IsFormedEnd n chain.end

abbrev pub IsCertificate : ℕ → Certificate → Type 0
IsCertificate n (Certified it) = IsFormed n it
IsCertificate n (Refuted chain) = IsFormedChain n chain

-- ---- the lines
-- the lines `integral` and `part`, one for each logarithm, and `end`; of a refutation `refuted` and `part`, one for each logarithm, `rest` and `end`
abbrev pub line_count : Certificate → ℕ
line_count (Certified it) = length it.logs + 3
line_count (Refuted chain) = length chain.partial.logs + 4

-- ---- what is claimed
-- the chain that a refutation stands for
abbrev pub chain_of : Chain → chains.Chain
chain_of chain = record { partial = answer_of chain.partial; rest = meaning chain.rest; level = chain.level; end = end_of chain.end }

-- of a certificate of an integral, the answer that it claims to be one
abbrev pub IfIntegral : Certificate → (Answer → Type 0) → Type 0
IfIntegral (Certified it) P = P (answer_of it)
IfIntegral (Refuted chain) P = Unit {0}

-- of a refutation, its chain
abbrev pub IfRefuted : Certificate → (chains.Chain → Type 0) → Type 0
IfRefuted (Certified it) P = Unit {0}
IfRefuted (Refuted chain) P = P (chain_of chain)

-- f is the derivative of the partial answer plus the rest
pub record IsReduced (tower : Tower) (f : mean.Element) (partial : Answer) (rest : mean.Element) : Type 0 where
  pub derivative : mean.Element
  pub has_derivative : HasDerivative tower partial derivative
  pub is : f ≡ derivative +ₑ rest

-- ---- single parts
-- what the tests of one logarithm need: R is monic, of degree m from 1 to 255, and S has at most m coefficients, of weight at most 65536
pub record IsPart (l : LogPart) : Type 0 where
  pub modulus : IsModulus l.poly
  pub argument : IsMember l.poly l.arg

-- the coefficients of R are in lowest terms, and those of S in normal form
pub record IsNormal (l : LogPart) : Type 0 where
  pub fractions_lowest : AllValid IsLowest l.poly
  pub elements_normal : AllValid IsElement l.arg
