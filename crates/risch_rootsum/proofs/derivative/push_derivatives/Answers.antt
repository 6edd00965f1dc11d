use Rattle.std.proofs.Common.{◌+◌, length}
use Rattle.risch_rootsum.proofs.DerivativeWithin.{within-read}
use Rattle.risch_rootsum.proofs.derivative.push_derivatives.Goals as goal

pub derive-requires : goal.derive-requires
derive-requires c = within-read (length c.args.tower.now + 1) c.args.from.now c.loop-item.item-index c.item-item.result c.requires c.loop-item-test.true c.item-item.is
