use Rattle.std.proofs.Common.{sym, ◌∙◌, subst}
use Rattle.risch_level.specs.Levels.{Element}
use Rattle.risch_element_theory.specs.WholeTower.{IsElement}
use Rattle.risch_round.specs.AnswerMeaning.{AreOther}
use Rattle.risch_round.proofs.OtherElements.{are-other}
use Rattle.risch_round.proofs.procedure.compared.Goals as goal

pub returns-clause-disagree : goal.returns-clause-disagree
returns-clause-disagree c =
    let is_left = c.in_ok-left.ensures.value in
    let is_right = c.in_ok-right.ensures.value in
    let other = are-other c.args.derivative.now c.args.integrand.now (subst IsElement is_left c.nest-left_nest.ensures.normal) (subst IsElement is_right c.nest-right_nest.ensures.normal)
    c.kept_weight-derivative_weight.ensures.ends_not_zero c.kept_weight-integrand_weight.ensures.ends_not_zero (sym c.same.ensures ∙ c.if-same.false) in
    subst (λ (l : Element). AreOther l c.in_ok-right.right) (sym is_left) (subst (AreOther _) (sym is_right) other)
