use Rattle.std.proofs.Common.{◌≡◌, drop}
use Rattle.risch_mean.specs.Element as mean
use Rattle.risch_mean.specs.Answer.{HasDerivative}
use Rattle.risch_element_theory.specs.WholeTower.{meaning}
use Rattle.risch_tower.specs.Tower.{derivative}
use Rattle.risch_tower.specs.TowerMeaning.{monomials}
use Rattle.risch_rootsum.specs.Derivative.{derive_integral, derivatives_from}
use Rattle.risch_rootsum.specs.DerivativeMeaning.{answer_of}
use Rattle.risch_rootsum.proofs.IntegralDerivatives.{IsRest}
use Rattle.risch_rootsum.proofs.derivative.derive_integral.Given as goal

abbrev pub invariant-loop-part : goal.invariant-loop-part
invariant-loop-part l = record {
  rule : derive_integral (derivative l.tower) l.integral ≡ derivatives_from (derivative l.tower) l.total (drop l.part-index l.integral.logs);
  rest : (f : mean.Element) → HasDerivative (monomials l.tower) (answer_of l.integral) f → IsRest (monomials l.tower) (drop l.part-index l.integral.logs) (meaning l.total) f;
}
