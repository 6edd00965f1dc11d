use Rattle.std.proofs.Common.{◌∙◌, sym}
use Rattle.risch_polynomial.proofs.CoefficientSteps.{rows-more, rows-passed, rows-ends}
use Rattle.risch_polynomial.proofs.coefficients.add_rows.Goals as goal

pub loop-i-preserved-then-is_zero : goal.loop-i-preserved-then-is_zero
loop-i-preserved-then-is_zero g c = record {
  value = rows-passed g.E.Arith.ops _ _ _ _ _ _ c.loop-i-test.true c.index-left-i.is (sym c.is_zero.ensures ∙ c.if-is_zero.true) c.loop-i.invariant.value;
  len = c.loop-i.invariant.len;
}

pub loop-i-preserved : goal.loop-i-preserved
loop-i-preserved g c = record {
  value = rows-more g.E.Arith.ops _ _ _ _ _ _ _ c.loop-i-test.true c.index-left-i.is (sym c.is_zero.ensures ∙ c.if-is_zero.false) c.loop-i.invariant.value c.in_ok-add_row.ensures.value;
  len = c.add_row.ensures.len ∙ c.loop-i.invariant.len;
}

pub returns : goal.returns
returns g c = rows-ends g.E.Arith.ops _ _ _ _ _ c.loop-i-test.false c.loop-i.invariant.value
