use Rattle.std.proofs.Common.{refl}
use Rattle.risch_field.specs.Ground.{ground}
use Rattle.risch_polynomial.specs.Poly as poly
use Rattle.risch_round.specs.Procedure as spec
use Rattle.risch_round.specs.AnswerMeaning.{IsDisagreement}
use Rattle.risch_round.proofs.CheckSteps.{check-stops, unchecked-is}
use Rattle.risch_round.proofs.procedure.checked.Goals as goal

pub returns-in-Err-clause-rule : goal.returns-in-Err-clause-rule
returns-in-Err-clause-rule c = check-stops c.in-Err.stop c.unchecked.result (poly.partial ground c.args.part.now) (spec.checked c.args.integrand.now c.args.part.now) (λ fail. refl) c.in-Err.ensures c.unchecked.ensures

pub returns-in-Err-clause-disagree : goal.returns-in-Err-clause-disagree
returns-in-Err-clause-disagree c = unchecked-is c.in-Err.stop c.unchecked.result IsDisagreement (λ halt. tt) c.unchecked.ensures
