use Rattle.std.proofs.Common.{◌<◌, length, arith}
use Rattle.risch_sub.proofs.RemainderSteps.{weight_more, heavy}
use Rattle.risch_sub.proofs.members.is_light.Goals as goal

pub returns-then-weight-gt65536 : goal.returns-then-weight-gt65536
returns-then-weight-gt65536 c =
    let below : c.loop-coefficient.coefficient-index < length c.args.member.now = c.loop-coefficient-test.true in
    heavy c.args.member.now c.loop-coefficient.coefficient-index c.loop-coefficient.weight c.coefficient-item.result below c.coefficient-item.is c.loop-coefficient.invariant.value (omega arith)

pub loop-coefficient-preserved : goal.loop-coefficient-preserved
loop-coefficient-preserved c =
    let below : c.loop-coefficient.coefficient-index < length c.args.member.now = c.loop-coefficient-test.true in
    let more = weight_more c.args.member.now c.loop-coefficient.coefficient-index c.coefficient-item.result below c.coefficient-item.is in
    record { value = omega (arith, more); small = omega arith }
