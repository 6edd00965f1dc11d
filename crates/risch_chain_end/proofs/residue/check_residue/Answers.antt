use Rattle.risch_mean.specs.ElementField.{elements}
use Rattle.risch_univariate.proofs.Divides as Divides
use Rattle.risch_element_theory.specs.WholeTower.{polynomial}
use Rattle.risch_monomial.specs.LevelElements.{denominator_at}
use Rattle.risch_chain_end.proofs.EndLaws.{given-not_constant}
use Rattle.risch_chain_end.proofs.Results.{if_ok-map}
use Rattle.risch_chain_end.proofs.residue.check_residue.Goals as goal

pub power_sums-requires-clause-normal : goal.power_sums-requires-clause-normal
power_sums-requires-clause-normal c =
    let d = polynomial (denominator_at c.args.level c.args.normal.now) in
    c.requires.normal_divisors d (c.requires.square_free c.in_ok-check_some.ensures.some) (Divides.divides_refl elements d)

pub returns-clause-not_constant : goal.returns-clause-not_constant
returns-clause-not_constant c =
    if_ok-map c.check_traces.result _ _
    (λ _ given. given-not_constant c.args.tower.now c.args.level c.args.normal.now c.args.power c.args.trace.now c.in_ok-found.found given c.in_ok-found.ensures.not_constant)
    c.check_traces.ensures.given
