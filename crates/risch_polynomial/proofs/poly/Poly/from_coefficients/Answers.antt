use Rattle.std.proofs.Common.{◌∙◌, ap, arith}
use Rattle.risch_polynomial.specs.Poly as poly
use Rattle.risch_polynomial.proofs.CoefficientLists.{trimmed-fixed}
use Rattle.risch_polynomial.proofs.poly.Poly.from_coefficients.Goals as goal

pub invariant_of-result : goal.invariant_of-result
invariant_of-result g c =
    let o = g.E.Arith.ops in
    record {
      ends_not_zero = trimmed-fixed o c.args.coefficients.items c.trim.new.coefficients.items c.trim.ensures.value;
      weight_is = c.weigh-weight.ensures ∙ ap (poly.weight o) c.deref.ensures.value;
      weight_small = omega arith;
      degree_small = omega arith;
    }
