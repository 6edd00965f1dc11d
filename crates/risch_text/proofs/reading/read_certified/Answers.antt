use Rattle.risch_text.proofs.Answers.{certificate_read, certificate_told}
use Rattle.risch_text.proofs.reading.read_certified.Goals as goal

pub returns-clause-read : goal.returns-clause-read
returns-clause-read c = rw c.of.ensures (certificate_read c.args.bytes.now c.certified.result c.certified.ensures.value)

pub returns-clause-written : goal.returns-clause-written
returns-clause-written c = rw c.of.ensures (certificate_told _ c.certified.result _ c.certified.ensures.written)
