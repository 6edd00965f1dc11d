use Rattle.std.proofs.Common.{subst}
use Rattle.risch_mean.specs.Answer.{HasDerivative}
use Rattle.risch_tower.specs.TowerMeaning.{monomials}
use Rattle.risch_rootsum.specs.DerivativeMeaning.{answer_of}
use Rattle.risch_chain_end.proofs.Results.{if_ok-map}
use Rattle.risch_check.proofs.derivative.check_derivative.Goals as goal

pub returns-clause-integral : goal.returns-clause-integral
returns-clause-integral c =
    if_ok-map c.check_same.result _ _ (λ _ same. subst (HasDerivative (monomials c.args.tower.now) (answer_of c.args.integral.now)) same c.in_ok-derivative.ensures.meaning) c.check_same.ensures.same
