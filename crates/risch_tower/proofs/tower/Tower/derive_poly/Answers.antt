use Rattle.std.proofs.Common.{◌≡◌, Ok}
use Rattle.risch_mean.specs.Tower.{kind_of}
use Rattle.risch_level.specs.Levels.{element}
use Rattle.risch_derivation.specs.Derivation as rules
use Rattle.risch_element_theory.specs.DerivationMeaning.{kind_with}
use Rattle.risch_element_theory.specs.ElementDerivation.{derive_element}
use Rattle.risch_element_theory.specs.WholeTower.{meaning, Within}
use Rattle.risch_element_theory.proofs.ElementWithin.{more-element-within}
use Rattle.risch_element_theory.proofs.PolynomialDerivation.{polynomial-derivative-within}
use Rattle.risch_tower.specs.TowerMeaning.{monomials}
use Rattle.risch_tower.proofs.PolynomialDerivatives.{derivative-at}
use Rattle.risch_tower.proofs.tower.Tower.derive_poly.Goals as goal

pub of_nested-requires : goal.of_nested-requires
of_nested-requires c =
    let levels = c.self.inside.levels.items in
    let rate = c.in_ok-copy.field-0 in
    let formed : rules.derive_polynomial element (derive_element c.self.inside.rates) c.in_ok-copy.field-0 c.args.poly.now ≡ Ok c.in_ok-derivative.derivative =
    rw (← c.opened-rate.ensures.value, ← c.in_ok-nested.ensures.value) c.in_ok-derivative.ensures in
    let kind : kind_with c.in_ok-copy.field-0.kind (meaning c.in_ok-copy.field-0.eta) ≡ kind_of (monomials levels) c.args.level = rw (c.in_ok-copy.ensures, c.self.view_is) c.rate.ensures.means in
    (derivative-at levels c.self.inside.rates c.self.invariant.3 c.self.invariant.1 c.args.level rate c.opened-rate.ensures.normal kind c.args.poly.now c.in_ok-derivative.derivative c.in_ok-nested.ensures.normal formed).is_polynomial

pub returns-clause-meaning : goal.returns-clause-meaning
returns-clause-meaning c =
    let levels = c.self.inside.levels.items in
    let rate = c.in_ok-copy.field-0 in
    let formed : rules.derive_polynomial element (derive_element c.self.inside.rates) c.in_ok-copy.field-0 c.args.poly.now ≡ Ok c.in_ok-derivative.derivative =
    rw (← c.opened-rate.ensures.value, ← c.in_ok-nested.ensures.value) c.in_ok-derivative.ensures in
    let kind : kind_with c.in_ok-copy.field-0.kind (meaning c.in_ok-copy.field-0.eta) ≡ kind_of (monomials levels) c.args.level = rw (c.in_ok-copy.ensures, c.self.view_is) c.rate.ensures.means in
    rw (c.in_ok-of_nested.ensures, ← c.self.view_is)
    (derivative-at levels c.self.inside.rates c.self.invariant.3 c.self.invariant.1 c.args.level rate c.opened-rate.ensures.normal kind c.args.poly.now c.in_ok-derivative.derivative c.in_ok-nested.ensures.normal formed).stands

pub returns-clause-within : goal.returns-clause-within
returns-clause-within c = λ n more all.
    let formed : rules.derive_polynomial element (derive_element c.self.inside.rates) c.in_ok-copy.field-0 c.args.poly.now ≡ Ok c.in_ok-derivative.derivative =
    rw (← c.opened-rate.ensures.value, ← c.in_ok-nested.ensures.value) c.in_ok-derivative.ensures in
    let eta : Within c.args.level c.in_ok-copy.field-0.eta = rw c.in_ok-copy.ensures c.rate.ensures.within in
    rw c.in_ok-of_nested.ensures
    (polynomial-derivative-within c.self.inside.rates n c.in_ok-copy.field-0 c.args.poly.now c.in_ok-derivative.derivative (more-element-within c.args.level n more c.in_ok-copy.field-0.eta eta) all formed)
