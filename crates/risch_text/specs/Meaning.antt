-- What a problem that is read stands for: the written values of its lines.
use Rattle.std.specs.List.{AllZip}
use Rattle.std.specs.Prelude.{◌≡◌, ℕ, Bool, true, false, Option, None, Some, option_map, List, map, Ok}
use Rattle.risch_mean.specs.Element as mean
use Rattle.risch_mean.specs.Tower as towers
use Rattle.risch_mean.specs.Tower.{log, exp}
use Rattle.risch_mean.specs.Written.{written_value}
use Rattle.risch_element_theory.specs.WholeTower.{meaning}
use Rattle.risch_tower.specs.TowerMeaning.{monomials}
use Rattle.risch_rootsum.specs.Derivative.{is_linear, factor, argument}
use Rattle.risch_rootsum.specs.declared.integral.LogPart.{LogPart}
use Rattle.risch_rootsum.specs.declared.integral.Integral.{Integral}
use Rattle.risch_cert.specs.declared.answer.Certificate.{Certificate}
use Rattle.risch_cert.specs.declared.answer.Certificate.TheVariants.{Integral as Certified, Refuted as Refutation}
use Rattle.risch_cert.specs.declared.chain.Chain.{Chain}
use Rattle.risch_cert.specs.declared.chain.End.{End}
use Rattle.risch_cert.specs.declared.chain.End.TheVariants.{Residue}
use Rattle.risch_expression.specs.Tree.{Tree, expression_of}
use Rattle.risch_text.specs.File.{TowerLine, ProblemTree, whole_problem}
use Rattle.risch_text.specs.Certified.{LogLine, log_line, sum_line, EndTree, RefutationTree, AnswerTree, CertifiedTree, whole_certified}
use Rattle.risch_text.specs.Problem.{ProblemValue, CertifiedValue}
use Rattle.risch_text.specs.Values.{factor_value, root_sum}
use Rattle.risch_text.specs.declared.programs.Factor.{Factor}
use Rattle.risch_text.specs.declared.certified.ReadCertified as certified
use Rattle.risch_text.specs.declared.problem.ReadProblem.{ReadProblem}
use Rattle.risch_text.specs.declared.problem.ReadProblem.TheVariants.{Problem, Syntax, Refused, Stopped, Memory}

-- log f, or exp f
abbrev pub monomial_of : Bool → mean.Element → towers.Monomial
monomial_of false f = log f
monomial_of true f = exp f

-- the monomial of a line, where its argument has a written value
abbrev pub written_monomial : TowerLine → Option towers.Monomial
written_monomial l = option_map (monomial_of l.exponential) (written_value (expression_of l.argument))

-- The file is that of a problem: its monomials are those of the lines, and its integrand is the written value.
pub record IsWritten (bytes : List ℕ) (problem : ProblemValue) : Type 0 where
  pub tree : ProblemTree
  pub read : whole_problem bytes ≡ Ok tree
  pub tower : map written_monomial tree.tower ≡ map Some (monomials problem.tower)
  pub integrand : written_value (expression_of tree.integrand) ≡ Some (meaning problem.integrand)

-- the fact holds of the problem, where there is one
abbrev pub IfProblem : ReadProblem → (ProblemValue → Type 0) → Type 0
IfProblem (Problem problem) fact = fact problem
IfProblem (Syntax at cause) fact = Unit {0}
IfProblem (Refused at cause) fact = Unit {0}
IfProblem (Stopped stop) fact = Unit {0}
IfProblem Memory fact = Unit {0}

-- ---- with a certificate
-- C·log U: C is the factor of the line, and U the written value
pub record IsLogarithmWritten (c : Factor) (u : Tree) (l : LogPart) : Type 0 where
  pub linear : is_linear l ≡ true
  pub factor_is : factor_value c ≡ Ok (factor l)
  pub argument_is : written_value (expression_of u) ≡ Some (meaning (argument l))

-- For a sum over roots, in which z occurs, the part is what the rule of its line gives.
abbrev pub IsLogWritten : LogLine → LogPart → Type 0
IsLogWritten (log_line c u) l = IsLogarithmWritten c u l
IsLogWritten (sum_line r s start) l = root_sum start r s ≡ Ok l

-- the part, and the logarithms line by line
pub record IsIntegralWritten (answer : AnswerTree) (it : Integral) : Type 0 where
  pub part : written_value (expression_of answer.part) ≡ Some (meaning it.part)
  pub logs : AllZip IsLogWritten answer.logs it.logs

-- the power of the line, and the trace
abbrev pub IsEndWritten : EndTree → End → Type 0
IsEndWritten tree (Residue power trace) = (power ≡ tree.power) × (written_value (expression_of tree.trace) ≡ Some (meaning trace))

-- the partial integral, the rest, the level of the line `end`, and the end
pub record IsChainWritten (answer : AnswerTree) (chain : Chain) : Type 0 where
  pub tree : RefutationTree
  pub is : answer.refutation ≡ Some tree
  pub partial : IsIntegralWritten answer chain.partial
  pub rest : written_value (expression_of tree.rest) ≡ Some (meaning chain.rest)
  pub level : chain.level ≡ tree.end.level
  pub end : IsEndWritten tree.end chain.end

abbrev pub IsCertificateWritten : AnswerTree → Certificate → Type 0
IsCertificateWritten answer (Certified it) = (answer.refutation ≡ None) × IsIntegralWritten answer it
IsCertificateWritten answer (Refutation chain) = IsChainWritten answer chain

-- the problem of the file, in the same way, and its certificate
pub record IsCertifiedWritten (bytes : List ℕ) (certified : CertifiedValue) : Type 0 where
  pub tree : CertifiedTree
  pub read : whole_certified bytes ≡ Ok (Some tree)
  pub tower : map written_monomial tree.problem.tower ≡ map Some (monomials certified.problem.tower)
  pub integrand : written_value (expression_of tree.problem.integrand) ≡ Some (meaning certified.problem.integrand)
  pub certificate : IsCertificateWritten tree.answer certified.certificate

-- the fact holds of the problem and its certificate, where there are such
abbrev pub IfCertified : certified.ReadCertified → (CertifiedValue → Type 0) → Type 0
IfCertified (certified.TheVariants.Certified it) fact = fact it
IfCertified certified.TheVariants.NotYet fact = Unit {0}
IfCertified (certified.TheVariants.Syntax at cause) fact = Unit {0}
IfCertified (certified.TheVariants.Refused at cause) fact = Unit {0}
IfCertified (certified.TheVariants.Stopped stop) fact = Unit {0}
IfCertified certified.TheVariants.Memory fact = Unit {0}
