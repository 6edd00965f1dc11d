use Rattle.risch_element_theory.specs.ElementDerivation.{AreElementRatesOf}
use Rattle.risch_element_theory.proofs.ElementDerivation.{derivative-is_element, derivative-stands, derivative-within}
use Rattle.risch_tower.specs.TowerMeaning.{monomials}
use Rattle.risch_tower.proofs.TowerLevels.{are-tower}
use Rattle.risch_tower.proofs.tower.Tower.derive.Goals as goal

pub of-requires : goal.of-requires
of-requires c =
    let levels = c.self.inside.levels.items in
    let are : AreElementRatesOf (monomials levels) c.self.inside.rates = rw c.self.invariant.1 c.self.invariant.3.are_rates in
    derivative-is_element (monomials levels) c.self.inside.rates (are-tower levels c.self.invariant.3) are c.nest.result.now c.in_ok-derivative.derivative (rw c.nest.ensures.value c.nest.ensures.normal) c.in_ok-derivative.ensures

pub returns-clause-meaning : goal.returns-clause-meaning
returns-clause-meaning c =
    let levels = c.self.inside.levels.items in
    let are : AreElementRatesOf (monomials levels) c.self.inside.rates = rw c.self.invariant.1 c.self.invariant.3.are_rates in
    let stands = derivative-stands (monomials levels) c.self.inside.rates (are-tower levels c.self.invariant.3) are c.nest.result.now c.in_ok-derivative.derivative (rw c.nest.ensures.value c.nest.ensures.normal) c.in_ok-derivative.ensures in
    rw (c.of.ensures, ← c.self.view_is, ← c.nest.ensures.value) stands

pub returns-clause-within : goal.returns-clause-within
returns-clause-within c = λ n w. rw c.of.ensures (derivative-within c.self.inside.rates n c.nest.result.now c.in_ok-derivative.derivative (rw c.nest.ensures.value w) c.in_ok-derivative.ensures)
