use Rattle.std.proofs.Common.{◌≡◌, ◌<◌, ◌-◌, ◌++◌, ◌∷◌, [], length, ap, sym, ◌∙◌, arith, length-append}
use Rattle.risch_element_theory.specs.ElementDerivation.{element_adjoined}
use Rattle.risch_tower.specs.declared.level.Level.{Level}
use Rattle.risch_tower.specs.Tower.{rates_of}
use Rattle.risch_tower.proofs.RefusalSteps.{rates_of_one_more}
use Rattle.risch_tower.proofs.TowerLevels.{more-levels}
use Rattle.risch_tower.proofs.Pushes.{rate-next}
use Rattle.risch_tower.proofs.tower.Tower.push.Goals as goal

pub invariant_of-self-2 : goal.invariant_of-self-2
invariant_of-self-2 c =
    let levels = c.self.inside.levels.items in
    let level : Level = record { monomial = c.args.monomial; rate = c.in_ok-rate.rate } in
    let same : length levels ≡ length c.args.self.now = ap length c.self.view_is in
    let low : length levels < 4 = omega arith in
    let next = rate-next levels c.self.invariant.3 low c.args.monomial c.in_ok-rate.rate c.rate_of.ensures.normal (rw c.self.view_is c.requires) (rw c.self.view_is c.in_ok-rate.ensures.value) in
    let height : c.height-height.result ≡ length levels = c.height-height.ensures.value ∙ sym same in
    let formed : c.adjoin.new.rates ≡ element_adjoined (rates_of levels) (3 - length levels) c.in_ok-rate.rate = rw (c.adjoin.ensures, c.in_ok-copy.ensures, height, c.self.invariant.1) in
    let rates : c.adjoin.new.rates ≡ rates_of (levels ++ level ∷ []) = formed ∙ sym (rates_of_one_more levels level) in
    rw c.in_ok-push.ensures.items (c.self.invariant.0, rates, omega (arith, length-append levels (level ∷ [])), more-levels levels level c.self.invariant.3 next)
