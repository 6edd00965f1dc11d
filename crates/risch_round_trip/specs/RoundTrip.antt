-- What is printed of a certificate, behind the file of a problem, is read as the same certificate of the same problem.
use Rattle.std.specs.Prelude.{◌≡◌, ℕ, suc, ◌+◌, ◌<◌, ◌≤◌, ◌==◌, if◌then◌else◌, List, [], ◌∷◌, ◌++◌, length, All}
use Rattle.std.specs.List.{range_with_len}
use Rattle.risch_frac.specs.Fraction.{IsLowest}
use Rattle.risch_level.specs.Levels.{Element}
use Rattle.risch_element_theory.specs.WholeTower.{IsElement, IsPolynomial, Within, AllWithin}
use Rattle.risch_elem.specs.declared.units.Stop.{Stop}
use Rattle.risch_elem.specs.declared.units.Stop.TheVariants as stops
use Rattle.risch_rootsum.specs.Algebra.{IsModulus}
use Rattle.risch_rootsum.specs.declared.integral.LogPart.{LogPart}
use Rattle.risch_rootsum.specs.declared.integral.Integral as rootsum
use Rattle.risch_cert.specs.Answers.{print_certificate}
use Rattle.risch_cert.specs.declared.answer.Certificate.{Certificate}
use Rattle.risch_cert.specs.declared.answer.Certificate.TheVariants.{Integral as Certified, Refuted}
use Rattle.risch_cert.specs.declared.chain.Chain.{Chain}
use Rattle.risch_cert.specs.declared.chain.End.{End}
use Rattle.risch_cert.specs.declared.chain.End.TheVariants.{Residue}
use Rattle.risch_text.specs.Problem.{ProblemValue, CertifiedValue, IsIntegralForm, IsChainForm, line_count}
use Rattle.risch_text.specs.Read.{read_problem}
use Rattle.risch_text.specs.ReadCertified.{read_certified}
use Rattle.risch_text.specs.declared.problem.ReadProblem.TheVariants as problems
use Rattle.risch_text.specs.declared.certified.ReadCertified.{ReadCertified}
use Rattle.risch_text.specs.declared.certified.ReadCertified.TheVariants as readings

-- ---- files
-- the last byte ends a line
abbrev pub EndsLine : List ℕ → Type 0
EndsLine [] = ⊥
EndsLine (b ∷ []) = b ≡ 10
EndsLine (b ∷ (c ∷ bs)) = EndsLine (c ∷ bs)

-- how many lines are ended
abbrev pub ended_lines : List ℕ → ℕ
ended_lines [] = 0
ended_lines (b ∷ bs) = if b == 10 then suc (ended_lines bs) else ended_lines bs

-- ---- certificates
-- R is monic, of degree from 1 to 255, and its coefficients are in lowest terms.
-- S is a polynomial in z over the first n variables, of a smaller degree; its coefficients are in normal form, and the last is not 0
pub record IsPrintable (n : ℕ) (l : LogPart) : Type 0 where
  pub modulus : IsModulus l.poly
  pub lowest : All IsLowest l.poly
  pub argument_kept : IsPolynomial l.arg
  pub argument_within : AllWithin n l.arg
  pub argument_lower : length l.arg < length l.poly

-- the part is an element in normal form over the first n variables
pub record IsPrintableIntegral (n : ℕ) (it : rootsum.Integral) : Type 0 where
  pub part : IsElement it.part
  pub part_within : Within n it.part
  pub logs : All (IsPrintable n) it.logs

-- the trace is an element in normal form over the first n variables, and the power has 16 bits
pub record IsPrintableResidue (n power : ℕ) (trace : Element) : Type 0 where
  pub small : power ≤ 65535
  pub trace_kept : IsElement trace
  pub trace_within : Within n trace

abbrev pub IsPrintableEnd : ℕ → End → Type 0
IsPrintableEnd n (Residue power trace) = IsPrintableResidue n power trace

-- and so is the rest; the level is that of one of these variables
pub record IsPrintableChain (n : ℕ) (chain : Chain) : Type 0 where
  pub partial : IsPrintableIntegral n chain.partial
  pub rest : IsElement chain.rest
  pub rest_within : Within n chain.rest
  pub level_low : chain.level < n
  pub end : IsPrintableEnd n chain.end

abbrev pub IsOverTower : ℕ → Certificate → Type 0
IsOverTower n (Certified it) = IsPrintableIntegral n it
IsOverTower n (Refuted chain) = IsPrintableChain n chain

-- A certificate of the form that `risch_text` keeps is one, where its part and its fractions are in normal form.
abbrev pub form_is_printable : Type 0
form_is_printable =
    (n : ℕ) (it : rootsum.Integral) → IsIntegralForm n it → IsElement it.part → All (λ (l : LogPart). All IsLowest l.poly) it.logs → IsPrintableIntegral n it

-- the trace of an end is in normal form
abbrev pub IsEndKept : End → Type 0
IsEndKept (Residue power trace) = IsElement trace

-- The same of a refutation, where its rest and its trace are in normal form too.
abbrev pub chain_form_is_printable : Type 0
chain_form_is_printable =
    (n : ℕ) (chain : Chain) → IsChainForm n chain → IsElement chain.partial.part → All (λ (l : LogPart). All IsLowest l.poly) chain.partial.logs → IsElement chain.rest → IsEndKept chain.end →
    IsPrintableChain n chain

-- ---- what is read
-- a number overflows, or a size is met
abbrev pub IsLimit : Stop → Type 0
IsLimit (stops.Overflow op) = Unit {0}
IsLimit stops.Size = Unit {0}
IsLimit (stops.Case case) = ⊥
IsLimit (stops.NotSound e) = ⊥
IsLimit stops.Budget = ⊥

-- this problem with this certificate and the numbers of its lines, or such a stop
abbrev pub IsReadBack : CertifiedValue → ReadCertified → Type 0
IsReadBack certified (readings.Certified it) = it ≡ certified
IsReadBack certified readings.NotYet = ⊥
IsReadBack certified (readings.Syntax at cause) = ⊥
IsReadBack certified (readings.Refused at cause) = ⊥
IsReadBack certified (readings.Stopped stop) = IsLimit stop
IsReadBack certified readings.Memory = ⊥

-- the certificate in the lines that follow a file
abbrev pub certified_behind : List ℕ → ProblemValue → Certificate → CertifiedValue
certified_behind bytes problem certificate =
    record { problem = problem; certificate = certificate; lines = range_with_len (ended_lines bytes + 1) (line_count certificate) }

-- A file is read as a problem, and its last line is ended. With a printed certificate over the tower of that problem behind it, it is read as the problem with the certificate,
-- or the reading stops, since some value cannot be formed again.
abbrev pub printed_is_read : Type 0
printed_is_read =
    (bytes : List ℕ) (problem : ProblemValue) (certificate : Certificate) → EndsLine bytes → read_problem bytes ≡ problems.Problem problem → IsOverTower (length problem.tower + 1) certificate →
    IsReadBack (certified_behind bytes problem certificate) (read_certified (bytes ++ print_certificate certificate))
