use Rattle.risch_text.proofs.CertifiedValues.{none_if_read, some_if_read}
use Rattle.risch_text.proofs.certificate.certified_if_read.Goals as goal

pub returns-in-None : goal.returns-in-None
returns-in-None c = λ tree e. none_if_read tree (rw c.in-None.is at e)

pub returns-in-Some : goal.returns-in-Some
returns-in-Some c = λ tree e. some_if_read c.in-Some.program c.certified_of.result c.certified_of.ensures tree (rw c.in-Some.is at e)
