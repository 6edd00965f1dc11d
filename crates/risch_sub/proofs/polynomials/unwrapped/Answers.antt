use Rattle.std.proofs.Common.{◌<◌, length, arith}
use Rattle.std.proofs.lemmas.Grind.{common_steps}
use Rattle.std.proofs.lemmas.List.Elements.{All-more}
use Rattle.risch_element_theory.specs.WholeTower.{IsPolynomial}
use Rattle.risch_sub.proofs.polynomials.unwrapped.Goals as goal

pub loop-poly-preserved : goal.loop-poly-preserved
loop-poly-preserved c =
    let more : c.loop-poly.poly-index < length c.args.from.now = c.loop-poly-test.true in
    record {
      value = grind (arith, common_steps);
      normal = All-more IsPolynomial c.args.from.now c.loop-poly.poly-index c.poly-item.result more c.loop-poly.invariant.normal (rw (← c.poly-item.is) c.inner.ensures.normal);
    }
