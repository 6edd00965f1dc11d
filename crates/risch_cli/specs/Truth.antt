-- Why what is said with status 0 is true.
use Rattle.std.specs.Prelude.{◌≡◌, ℕ, ◌≤◌, ◌⊎◌, Option, Some, List, length}
use Rattle.risch_frac.specs.Fraction.{Fraction}
use Rattle.risch_io.specs.Whole.{IsAllOf}
use Rattle.risch_mean.specs.Answer.{IsIntegral}
use Rattle.risch_mean.specs.Chain.{IsExact}
use Rattle.risch_level.specs.Levels.{Element}
use Rattle.risch_element_theory.specs.WholeTower.{meaning}
use Rattle.risch_tower.specs.TowerMeaning.{monomials}
use Rattle.risch_tower.specs.declared.level.Level.{Level}
use Rattle.risch_rootsum.specs.DerivativeMeaning.{answer_of}
use Rattle.risch_rootsum.specs.declared.integral.Integral.{Integral}
use Rattle.risch_cert.specs.Answers.{print_integral, print_disagreement}
use Rattle.risch_cert.specs.declared.answer.Certificate.{Certificate}
use Rattle.risch_cert.specs.declared.answer.Certificate.TheVariants.{Integral as Claimed, Refuted}
use Rattle.risch_check.specs.Certificates.{chain_of}
use Rattle.risch_check.specs.Checked.{checked}
use Rattle.risch_text.specs.Problem.{ProblemValue, CertifiedValue}
use Rattle.risch_text.specs.Read.{read_problem}
use Rattle.risch_text.specs.ReadCertified.{read_certified}
use Rattle.risch_text.specs.Meaning.{IsWritten, IsCertifiedWritten}
use Rattle.risch_text.specs.declared.problem.ReadProblem.TheVariants.{Problem}
use Rattle.risch_text.specs.declared.certified.ReadCertified.TheVariants.{Certified}
use Rattle.risch_words.specs.Words.{asked}
use Rattle.risch_words.specs.declared.request.Command.{Command}
use Rattle.risch_words.specs.declared.request.Command.TheVariants.{Integrate, Check}
use Rattle.risch_words.specs.declared.request.Request.{Request}
use Rattle.risch_cli.specs.declared.report.Report.{Report}
use Rattle.risch_round.specs.AnswerMeaning.{AreOther}
use Rattle.risch_round.specs.Meaning.{IsSmall}
use Rattle.risch_cli.specs.Saying as saying
use Rattle.risch_cli.specs.Saying.{integrand_in_x, problem_report, integrated, judged, certified}

-- the text is the print of an integral of the integrand in its tower
pub record PrintsIntegral (p : ProblemValue) (text : List ℕ) : Type 0 where
  pub integral : Integral
  pub exact : IsIntegral (monomials p.tower) (answer_of integral) (meaning p.integrand)
  pub printed : text ≡ print_integral integral

-- the same for the file of a problem, whose monomials and integrand are the written values of its lines
pub record AnswersProblem (bytes text : List ℕ) : Type 0 where
  pub problem : ProblemValue
  pub written : IsWritten bytes problem
  pub prints : PrintsIntegral problem text

-- the text tells two elements apart, and they are other ones
pub record PrintsDisagreement (text : List ℕ) : Type 0 where
  pub left : Element
  pub right : Element
  pub other : AreOther left right
  pub printed : text ≡ print_disagreement left right

-- What the certificate claims of the integrand in the tower is true: that it is an integral; or, where it is a refutation, that its chain reduces the integrand exactly, with an end that is read off its rest.
abbrev pub IsRight : List Level → Element → Certificate → Type 0
IsRight tower integrand (Claimed it) = IsIntegral (monomials tower) (answer_of it) (meaning integrand)
IsRight tower integrand (Refuted chain) = IsExact (monomials tower) (meaning integrand) (chain_of chain)

-- The file is a problem with a certificate: what it claims of the integrand in its tower is true, and these are the written values of the lines.
pub record HoldsCertificate (bytes : List ℕ) : Type 0 where
  pub it : CertifiedValue
  pub read : read_certified bytes ≡ Certified it
  pub written : IsCertifiedWritten bytes it
  pub right : IsRight it.problem.tower it.problem.integrand it.certificate

-- the integrand is a polynomial in x of degree at most 254 with coefficients whose numerators and denominators are below 2^60
pub record IsSmallProblem (p : ProblemValue) : Type 0 where
  pub polynomial : List Fraction
  pub is : integrand_in_x p.tower p.integrand ≡ Some polynomial
  pub small : IsSmall polynomial

-- the file of such a problem
pub record HasSmallProblem (bytes : List ℕ) : Type 0 where
  pub problem : ProblemValue
  pub read : read_problem bytes ≡ Problem problem
  pub small : IsSmallProblem problem

-- ---- reports on files
-- The report on a problem: what is said; a text with status 0 is the print of an integral, one with status 11 that of two elements that are other ones; and the status of a small problem is 0, where the budget is enough.
pub record ReportsProblem (budget : ℕ) (p : ProblemValue) (report : Report) : Type 0 where
  pub said : report ≡ problem_report budget p
  pub integral : report.status ≡ 0 → PrintsIntegral p report.out
  pub disagree : report.status ≡ 11 → PrintsDisagreement report.out
  pub small : 512 ≤ budget → IsSmallProblem p → report.status ≡ 0

-- the same of the file of a problem
pub record ReportsProblemFile (budget : ℕ) (bytes : List ℕ) (report : Report) : Type 0 where
  pub said : report ≡ integrated budget (read_problem bytes)
  pub integral : report.status ≡ 0 → AnswersProblem bytes report.out
  pub disagree : report.status ≡ 11 → PrintsDisagreement report.out
  pub small : 512 ≤ budget → HasSmallProblem bytes → report.status ≡ 0

-- the report on a problem with a certificate: what is said; and the status is 0 only where what it claims is true
pub record ReportsCertificate (it : CertifiedValue) (report : Report) : Type 0 where
  pub said : report ≡ judged (checked it.problem.tower it.problem.integrand it.certificate it.lines)
  pub accepted : report.status ≡ 0 → IsRight it.problem.tower it.problem.integrand it.certificate

-- the same of a file
pub record ReportsCertificateFile (bytes : List ℕ) (report : Report) : Type 0 where
  pub said : report ≡ certified (read_certified bytes)
  pub accepted : report.status ≡ 0 → HoldsCertificate bytes

-- ---- reports on words and input
-- the words ask for a command
pub record AsksFor (words : List (List ℕ)) (command : Command) : Type 0 where
  pub request : Request
  pub is : asked words ≡ Some request
  pub command_is : request.command ≡ command

-- the words ask for a command that reads the input
abbrev pub AsksToRead : List (List ℕ) → Type 0
AsksToRead words = AsksFor words Integrate ⊎ AsksFor words Check

-- the words ask for an integral, with a budget that serves every polynomial in x
pub record AsksWithBudget (words : List (List ℕ)) : Type 0 where
  pub request : Request
  pub is : asked words ≡ Some request
  pub command_is : request.command ≡ Integrate
  pub enough : 512 ≤ request.budget

-- what is true of a report on a file
pub record IsTrueOf (words : List (List ℕ)) (bytes : List ℕ) (report : Report) : Type 0 where
  pub integral : AsksFor words Integrate → report.status ≡ 0 → AnswersProblem bytes report.out
  pub disagree : AsksFor words Integrate → report.status ≡ 11 → PrintsDisagreement report.out
  pub accepted : AsksFor words Check → report.status ≡ 0 → HoldsCertificate bytes
  pub small : AsksWithBudget words → length bytes ≤ 1048576 → HasSmallProblem bytes → report.status ≡ 0

-- The report is what is said to the words and to some bytes, which are all that are left, where these are known; and it is true.
pub record IsReported (words : List (List ℕ)) (left : Option (List ℕ)) (report : Report) : Type 0 where
  pub bytes : List ℕ
  pub all : IsAllOf left bytes
  pub said : report ≡ saying.said words bytes
  pub is_true : IsTrueOf words bytes report
