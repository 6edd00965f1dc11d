use Rattle.std.proofs.Common.{◌≡◌, arith}
use Rattle.std.proofs.lemmas.Grind.{common_steps}
use Rattle.risch_polynomial.specs.Poly as poly
use Rattle.risch_polynomial.proofs.CoefficientLists.{IsPolynomial-negatives}
use Rattle.risch_polynomial.proofs.poly.Poly.neg.Goals as goal

pub invariant_of-result : goal.invariant_of-result
invariant_of-result g c =
    let o = g.E.Arith.ops in
    let view = c.self.view_is in
    let items : c.push_negatives.new.to.items ≡ poly.negatives o c.self.inside.coefficients.items = grind (arith, common_steps) in
    rw items (IsPolynomial-negatives o g.met.E.Arith.keeps_negatives c.self.inside.coefficients.items c.self.inside.weight c.self.invariant)
