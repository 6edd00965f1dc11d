use Rattle.std.proofs.Common.{◌≡◌, rules}
use Rattle.risch_chain_end.specs.Verdict.{stopped}
use Rattle.risch_check.specs.Checked.{checked}
use Rattle.risch_check.proofs.IntegralStops.{integral-stops}
use Rattle.risch_check.proofs.certificate.check.Goals as goal

pub returns-in-Err-Ended-Stopped-clause-stops : goal.returns-in-Err-Ended-Stopped-clause-stops
returns-in-Err-Ended-Stopped-clause-stops c =
    let e : checked c.args.tower.now c.args.integrand.now c.args.certificate.now c.args.lines.now ≡ stopped c.in-Err-Ended-Stopped.stop = search rules in
    integral-stops c.args.tower.now c.args.integrand.now c.args.certificate.now c.args.lines.now c.in-Err-Ended-Stopped.stop e
