use Rattle.std.proofs.Common.{◌≡◌, take, All}
use Rattle.risch_element_theory.specs.WholeTower.{IsPolynomial}
use Rattle.risch_sub.proofs.polynomials.unwrapped.Given as goal

abbrev pub invariant-loop-poly : goal.invariant-loop-poly
invariant-loop-poly l = record {
  value : l.to ≡ take l.poly-index l.from;
  normal : All IsPolynomial (take l.poly-index l.from);
}
