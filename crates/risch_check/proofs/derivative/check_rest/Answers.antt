use Rattle.std.proofs.Common.{sym, ◌∙◌}
use Rattle.risch_element_theory.specs.WholeTower.{meaning}
use Rattle.risch_chain_end.proofs.Results.{if_ok-map}
use Rattle.risch_check.proofs.derivative.check_rest.Goals as goal

pub returns-clause-reduced : goal.returns-clause-reduced
returns-clause-reduced c =
    if_ok-map c.check_same.result _ _
    (λ _ same. record { derivative = meaning c.in_ok-derivative.derivative; has_derivative = c.in_ok-derivative.ensures.meaning; is = sym same ∙ c.in_ok-sum.ensures.meaning })
    c.check_same.ensures.same
