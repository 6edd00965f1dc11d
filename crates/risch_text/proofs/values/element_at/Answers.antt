use Rattle.risch_text.proofs.Endings.{element_read, element_fault}
use Rattle.risch_text.proofs.values.element_at.Goals as goal

pub returns-in-Ok-clause-value : goal.returns-in-Ok-clause-value
returns-in-Ok-clause-value c = λ tree e. element_read c.args.start tree c.in-Ok.element (c.in-Ok.ensures.rule tree e)

pub returns-in-Ok-clause-within : goal.returns-in-Ok-clause-within
returns-in-Ok-clause-within c = λ n p. c.in-Ok.ensures.within p.tree n p.written p.over

pub returns-in-Err-clause-value : goal.returns-in-Err-clause-value
returns-in-Err-clause-value c = λ tree e. rw c.of_value.ensures (element_fault c.args.start tree c.in-Err.fault (c.in-Err.ensures.rule tree e))
