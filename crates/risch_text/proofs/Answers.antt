-- What is answered for a file.
use Rattle.std.proofs.Common.{◌≡◌, ℕ, List, length, Option, Some, None, Result, Ok, Err, refl, ap}
use Rattle.std.specs.Prelude.{option_map, IfOk, IfSome}
use Rattle.risch_expression.specs.Reading.{IsFaultOf}
use Rattle.risch_expression.specs.declared.fault.ReadFault.{ReadFault}
use Rattle.risch_expression.specs.declared.fault.ReadFault.TheVariants as reading
use Rattle.risch_text.specs.File.{whole_problem}
use Rattle.risch_text.specs.Certified.{CertifiedTree, whole_certified}
use Rattle.risch_text.specs.Problem.{ProblemValue, CertifiedValue}
use Rattle.risch_text.specs.Programs.{certified_program}
use Rattle.risch_text.specs.Values.{Reading, fault_of_reading, valued_by, problem_value, certified_if_read}
use Rattle.risch_text.specs.Read.{problem_answer, read_problem, IsReadAs}
use Rattle.risch_text.specs.ReadCertified.{certified_answer, read_certified, IsCertifiedAs}
use Rattle.risch_text.specs.Reading.{Reads, IsEndOf, IsWholeCertified}
use Rattle.risch_text.specs.Meaning.{IfProblem, IfCertified}
use Rattle.risch_text.specs.declared.programs.CertifiedProgram.{CertifiedProgram}
use Rattle.risch_text.specs.declared.fault.Fault.{Fault}
use Rattle.risch_text.specs.declared.fault.Fault.TheVariants.{Syntax, Refused, Stopped, Memory}

read_as : (size : ℕ) (read : Result ProblemValue Fault) (rule : Reading ProblemValue) → Reads read rule → IsReadAs (problem_answer size read) (problem_answer size rule)
read_as size (Ok problem) rule h = rw h refl
read_as size (Err (Syntax f)) rule h = rw h refl
read_as size (Err (Refused left cause)) rule h = rw h refl
read_as size (Err (Stopped stop)) rule h = rw h refl
read_as size (Err Memory) rule h = tt

pub problem_read : (bytes : List ℕ) (read : Result ProblemValue Fault) → Reads read (valued_by problem_value (whole_problem bytes)) → IsReadAs (problem_answer (length bytes) read) (read_problem bytes)
unfolding read_problem
problem_read bytes read h = read_as (length bytes) read (valued_by problem_value (whole_problem bytes)) h

pub problem_told : (size : ℕ) (read : Result ProblemValue Fault) (Fact : ProblemValue → Type 0) → IfOk read Fact → IfProblem (problem_answer size read) Fact
problem_told size (Ok problem) Fact h = h
problem_told size (Err (Syntax f)) Fact h = tt
problem_told size (Err (Refused left cause)) Fact h = tt
problem_told size (Err (Stopped stop)) Fact h = tt
problem_told size (Err Memory) Fact h = tt

-- ---- with a certificate
pub certified_valued : (bytes : List ℕ) (program : Option CertifiedProgram) (result : Result (Option CertifiedValue) Fault) → IsWholeCertified (whole_certified bytes) program →
    ((tree : Option CertifiedTree) → program ≡ option_map certified_program tree → Reads result (certified_if_read tree)) → Reads result (valued_by certified_if_read (whole_certified bytes))
certified_valued bytes None result p value = rw p (value None refl)
certified_valued bytes (Some program) result p value = let is = p.is in rw is (value (Some p.tree) (ap Some p.written))

pub certified_fault : (bytes : List ℕ) (fault : ReadFault) → IsFaultOf fault (whole_certified bytes) → IsEndOf (fault_of_reading fault) (valued_by certified_if_read (whole_certified bytes))
certified_fault bytes (reading.Syntax f) h = rw h refl
certified_fault bytes reading.Memory h = tt

certified_as : (size : ℕ) (read : Result (Option CertifiedValue) Fault) (rule : Reading (Option CertifiedValue)) → Reads read rule → IsCertifiedAs (certified_answer size read) (certified_answer size rule)
certified_as size (Ok None) rule h = rw h refl
certified_as size (Ok (Some certified)) rule h = rw h refl
certified_as size (Err (Syntax f)) rule h = rw h refl
certified_as size (Err (Refused left cause)) rule h = rw h refl
certified_as size (Err (Stopped stop)) rule h = rw h refl
certified_as size (Err Memory) rule h = tt

pub certificate_read : (bytes : List ℕ) (read : Result (Option CertifiedValue) Fault) → Reads read (valued_by certified_if_read (whole_certified bytes)) →
    IsCertifiedAs (certified_answer (length bytes) read) (read_certified bytes)
unfolding read_certified
certificate_read bytes read h = certified_as (length bytes) read (valued_by certified_if_read (whole_certified bytes)) h

pub certificate_told : (size : ℕ) (read : Result (Option CertifiedValue) Fault) (Fact : CertifiedValue → Type 0) → IfOk read (λ certified. IfSome certified Fact) → IfCertified (certified_answer size read) Fact
certificate_told size (Ok None) Fact h = tt
certificate_told size (Ok (Some certified)) Fact h = h
certificate_told size (Err (Syntax f)) Fact h = tt
certificate_told size (Err (Refused left cause)) Fact h = tt
certificate_told size (Err (Stopped stop)) Fact h = tt
certificate_told size (Err Memory) Fact h = tt
