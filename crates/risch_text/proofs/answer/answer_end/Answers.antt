use Rattle.std.proofs.Common.{refl}
use Rattle.risch_text.proofs.answer.answer_end.Goals as goal

pub returns-clause-read : goal.returns-clause-read
returns-clause-read c = λ tree written over. rw c.ended.ensures (c.in_ok-end.ensures.read tree c.args.partial written over refl)
