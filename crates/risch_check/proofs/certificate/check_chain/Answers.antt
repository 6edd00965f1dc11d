use Rattle.std.proofs.Common.{◌≡◌, arith}
use Rattle.risch_element_theory.specs.WholeTower.{meaning}
use Rattle.risch_tower.specs.TowerMeaning.{monomials}
use Rattle.risch_tower.proofs.TowerLevels.{length-monomials}
use Rattle.risch_chain_end.specs.Verdict.{accepted}
use Rattle.risch_chain_end.proofs.Results.{if_ok-map}
use Rattle.risch_check.specs.Checked.{checked_parts}
use Rattle.risch_check.proofs.Accepted.{derivative-accepted, chain-exact}
use Rattle.risch_check.proofs.certificate.check_chain.Goals as goal

pub check_rest-requires-clause-derivative : goal.check_rest-requires-clause-derivative
check_rest-requires-clause-derivative c =
    let it = c.args.chain.now.partial in
    let holds : checked_parts c.args.lines.now 2 it.logs ≡ accepted = rw c.as_slice.ensures at c.in_ok-check_parts.ensures in
    derivative-accepted c.args.tower.now it c.args.lines.now c.requires.formed.partial_formed c.normal_integral.ensures.part c.normal_integral.ensures.logs holds

pub returns-clause-exact : goal.returns-clause-exact
returns-clause-exact c =
    let tower = c.args.tower.now in
    let low = c.requires.formed.is_level in
    let height = length-monomials tower in
    if_ok-map c.check_end.result _ _ (λ _ end. chain-exact (monomials tower) (meaning c.args.integrand.now) c.args.chain.now (omega (arith, low, height)) c.in_ok-check_rest.ensures.reduced end) c.check_end.ensures.end
