-- What a problem file with a printed answer is read as, with places as offsets from its first byte.
use Rattle.std.specs.Prelude.{◌≡◌, ℕ, ◌-◌, Option, None, Some, List, length, Ok, Err}
use Rattle.risch_text.specs.Certified.{whole_certified}
use Rattle.risch_text.specs.Problem.{CertifiedValue}
use Rattle.risch_text.specs.Values.{Reading, valued_by, certified_if_read}
use Rattle.risch_text.specs.declared.fault.Fault.TheVariants as fault
use Rattle.risch_text.specs.declared.certified.ReadCertified.{ReadCertified}
use Rattle.risch_text.specs.declared.certified.ReadCertified.TheVariants.{Certified, NotYet, Syntax, Refused, Stopped, Memory}

-- the answer for a file of so many bytes
abbrev pub certified_answer : ℕ → Reading (Option CertifiedValue) → ReadCertified
certified_answer size (Ok None) = NotYet
certified_answer size (Ok (Some certified)) = Certified certified
certified_answer size (Err (fault.Syntax f)) = Syntax (size - f.left) f.cause
certified_answer size (Err (fault.Refused left refusal)) = Refused (size - left) refusal
certified_answer size (Err (fault.Stopped stop)) = Stopped stop
certified_answer size (Err fault.Memory) = Memory

-- the problem and the certificate of a file, or the first fault of its syntax, or else what ends its evaluation
unfoldable pub read_certified : List ℕ → ReadCertified
read_certified bytes = certified_answer (length bytes) (valued_by certified_if_read (whole_certified bytes))

-- the answer is this, or want of memory
abbrev pub IsCertifiedAs : ReadCertified → ReadCertified → Type 0
IsCertifiedAs (Certified certified) rule = rule ≡ Certified certified
IsCertifiedAs NotYet rule = rule ≡ NotYet
IsCertifiedAs (Syntax at cause) rule = rule ≡ Syntax at cause
IsCertifiedAs (Refused at cause) rule = rule ≡ Refused at cause
IsCertifiedAs (Stopped stop) rule = rule ≡ Stopped stop
IsCertifiedAs Memory rule = Unit {0}
