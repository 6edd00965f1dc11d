use Rattle.std.proofs.Common.{◌≡◌, map}
use Rattle.risch_mean.specs.Tower.{derive_in}
use Rattle.risch_polynomial.specs.Poly as poly
use Rattle.risch_polynomial_theory.specs.Meaning.{AllValid}
use Rattle.risch_level.specs.Levels.{element}
use Rattle.risch_element_theory.specs.WholeTower.{IsElement, meaning}
use Rattle.risch_tower.specs.TowerMeaning.{monomials}
use Rattle.risch_rootsum.specs.DerivativeMeaning.{IsDerivativeOf}
use Rattle.risch_rootsum.proofs.Agreement.{agreed}
use Rattle.risch_rootsum.proofs.SumDerivatives.{derivatives-mean}
use Rattle.risch_rootsum.proofs.derivative.coefficient_derivatives.Goals as goal

pub returns-clause-meaning : goal.returns-clause-meaning
returns-clause-meaning c =
    let tower = monomials c.args.tower.now in
    let s = c.args.of.now in
    let items = c.push_derivatives.new.to.items in
    let all : AllValid IsElement items = rw c.deref.ensures.value at c.all_normal.ensures in
    let means : map meaning items ≡ map (derive_in tower) (map meaning s) = rw c.new-derivatives.ensures.items at c.in_ok-push_derivatives.ensures.meaning in
    agreed (IsDerivativeOf tower s) c.from_coefficients.result (poly.sized element (poly.trimmed element items)) c.from_coefficients.ensures
    (λ ds is. derivatives-mean tower s items ds all means is)
