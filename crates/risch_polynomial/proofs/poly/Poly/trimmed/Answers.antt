use Rattle.std.proofs.Common.{◌∙◌, ap, arith, length}
use Rattle.risch_polynomial.specs.Poly as poly
use Rattle.risch_polynomial.proofs.CoefficientLists.{trimmed-fixed, weight-trimmed}
use Rattle.risch_polynomial.proofs.poly.Poly.trimmed.Goals as goal

pub invariant_of-result : goal.invariant_of-result
invariant_of-result g c =
    let o = g.E.Arith.ops in
    let weight_is = c.weigh-weight.ensures ∙ ap (poly.weight o) c.deref.ensures.value in
    let same = weight_is ∙ ap (poly.weight o) c.trim.ensures.value ∙ weight-trimmed o c.args.coefficients.items in
    let small = c.requires.weight in
    let degree = ap length c.trim.ensures.value in
    let low = c.requires.degree in
    record {
      ends_not_zero = trimmed-fixed o c.args.coefficients.items c.trim.new.coefficients.items c.trim.ensures.value;
      weight_is = weight_is;
      weight_small = omega (arith, same, small);
      degree_small = omega (arith, degree, low);
    }
