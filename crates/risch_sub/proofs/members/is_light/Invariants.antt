use Rattle.std.proofs.Common.{◌≡◌, ◌≤◌, take}
use Rattle.risch_sub.specs.RemainderSequence.{weight}
use Rattle.risch_sub.proofs.members.is_light.Given as goal

abbrev pub invariant-loop-coefficient : goal.invariant-loop-coefficient
invariant-loop-coefficient l = record {
  value : l.weight ≡ weight (take l.coefficient-index l.member);
  small : l.weight ≤ 65536;
}
