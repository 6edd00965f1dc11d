-- A further part is taken, or what a failed call took ends the front.
use Rattle.std.proofs.Common.{rules}
use Rattle.risch_io.proofs.Fronts.{takes_more, takes_front}
use Rattle.risch_io.proofs.whole.write_all.Goals as goal

pub loop-rest-preserved : goal.loop-rest-preserved
loop-rest-preserved g c = record {
  bytes = rw c.split_at.ensures.back (takes_more _ (g.O.Sink.taken c.loop-rest.sink) _ c.args.bytes.now c.loop-rest.rest.now c.in-Ok.count c.loop-rest.invariant.bytes c.in-Ok.ensures.bytes);
  faults = search rules;
}

pub returns-in-Err-clause-part : goal.returns-in-Err-clause-part
returns-in-Err-clause-part g c =
    takes_front _ (g.O.Sink.taken c.loop-rest.sink) _ c.args.bytes.now c.loop-rest.rest.now c.loop-rest.invariant.bytes (search rules)
