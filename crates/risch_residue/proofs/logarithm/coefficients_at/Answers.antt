use Rattle.risch_polynomial.specs.Poly as poly
use Rattle.risch_level.specs.Levels.{element}
use Rattle.risch_residue.proofs.PushSteps.{map_kept, map_whole}
use Rattle.risch_residue.proofs.logarithm.coefficients_at.Goals as goal

pub loop-polynomial-preserved : goal.loop-polynomial-preserved
loop-polynomial-preserved c =
    map_kept (λ p. poly.coefficient element p c.args.exponent) _ _ c.loop-polynomial.invariant c.loop-polynomial-test.true c.polynomial-item.is
    (rw c.coefficients.ensures.value at c.in_ok-coefficient.ensures) c.in_ok-push.ensures.items

pub returns : goal.returns
returns c = map_whole (λ p. poly.coefficient element p c.args.exponent) _ _ c.loop-polynomial.invariant c.loop-polynomial-test.false
