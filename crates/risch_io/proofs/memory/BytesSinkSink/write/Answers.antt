-- A call that fails takes nothing.
use Rattle.std.proofs.Common.{rules, Some}
use Rattle.risch_io.proofs.Fronts.{takes_nothing}
use Rattle.risch_io.proofs.memory.BytesSinkSink.write.Goals as goal

pub returns-then-contains-clause-part : goal.returns-then-contains-clause-part
returns-then-contains-clause-part c = takes_nothing (Some c.args.self.now.taken) (Some c.self.inside.taken.items) c.args.piece.now (search rules)
