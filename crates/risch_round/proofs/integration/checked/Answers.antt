use Rattle.std.proofs.Common.{refl}
use Rattle.risch_tower.specs.Tower.{derivative}
use Rattle.risch_rootsum.specs.Derivative.{derive_integral}
use Rattle.risch_round.specs.RationalFunctions as spec
use Rattle.risch_round.specs.AnswerMeaning.{IsFoundIntegral, IsDisagreement}
use Rattle.risch_round.proofs.CheckSteps.{part-within, logs-formed, has-derivative, check-stops, unchecked-is}
use Rattle.risch_round.proofs.integration.checked.Goals as goal

pub derive_integral-requires : goal.derive_integral-requires
derive_integral-requires c = record {
  part = part-within c.args.tower.now c.args.integral c.requires.tower c.requires.formed;
  logs = logs-formed c.args.tower.now c.args.integral c.requires.tower c.requires.formed;
  derivative = has-derivative c.args.tower.now c.args.integral c.requires.tower c.nest-part.ensures.normal c.requires.formed;
}

pub returns-in-Err-clause-rule : goal.returns-in-Err-clause-rule
returns-in-Err-clause-rule c =
    check-stops c.in-Err.stop c.unchecked.result (derive_integral (derivative c.args.tower.now) c.args.integral) (spec.checked c.args.integrand.now c.args.integral) (λ fail. refl) c.in-Err.ensures.rule c.unchecked.ensures

pub returns-in-Err-clause-integral : goal.returns-in-Err-clause-integral
returns-in-Err-clause-integral c = unchecked-is c.in-Err.stop c.unchecked.result (IsFoundIntegral c.args.tower.now c.args.integrand.now) (λ halt. tt) c.unchecked.ensures

pub returns-in-Err-clause-disagree : goal.returns-in-Err-clause-disagree
returns-in-Err-clause-disagree c = unchecked-is c.in-Err.stop c.unchecked.result IsDisagreement (λ halt. tt) c.unchecked.ensures
