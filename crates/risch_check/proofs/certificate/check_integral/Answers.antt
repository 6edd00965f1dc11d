use Rattle.std.proofs.Common.{◌≡◌}
use Rattle.risch_chain_end.specs.Verdict.{accepted}
use Rattle.risch_check.specs.Checked.{checked_parts}
use Rattle.risch_check.proofs.Accepted.{derivative-accepted}
use Rattle.risch_check.proofs.certificate.check_integral.Goals as goal

pub check_derivative-requires-clause-derivative : goal.check_derivative-requires-clause-derivative
check_derivative-requires-clause-derivative c =
    let it = c.args.integral.now in
    let holds : checked_parts c.args.lines.now 2 it.logs ≡ accepted = rw c.as_slice.ensures at c.in_ok-check_parts.ensures in
    derivative-accepted c.args.tower.now it c.args.lines.now c.requires.formed c.normal_integral.ensures.part c.normal_integral.ensures.logs holds
