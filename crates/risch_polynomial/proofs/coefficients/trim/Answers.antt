use Rattle.std.proofs.Common.{◌∙◌, sym, ap, arith}
use Rattle.risch_polynomial.specs.Poly as poly
use Rattle.risch_polynomial.proofs.CoefficientLists.{trimmed-popped, trimmed-whole}
use Rattle.risch_polynomial.proofs.coefficients.trim.Goals as goal

pub loop-coefficients-preserved-in-loop-coefficients : goal.loop-coefficients-preserved-in-loop-coefficients
loop-coefficients-preserved-in-loop-coefficients g c =
    let o = g.E.Arith.ops in
    let p = c.loop-coefficients.coefficients.items in
    let zero = sym (ap (poly.ends_in_zero o) c.deref.ensures.value) ∙ sym c.ends_in_zero.ensures ∙ c.loop-coefficients-test.true in
    record {
      value = trimmed-popped o p c.pop.new.self.items c.pop.result c.pop.ensures.items zero ∙ c.loop-coefficients.invariant.value;
      shorter = omega (arith, c.pop.ensures.len);
    }

pub returns : goal.returns
returns g c =
    let o = g.E.Arith.ops in
    let p = c.loop-coefficients.coefficients.items in
    let no_zero = sym (ap (poly.ends_in_zero o) c.deref.ensures.value) ∙ sym c.ends_in_zero.ensures ∙ c.loop-coefficients-test.false in
    record {
      shorter = c.loop-coefficients.invariant.shorter;
      value = sym (trimmed-whole o p no_zero) ∙ c.loop-coefficients.invariant.value;
    }
