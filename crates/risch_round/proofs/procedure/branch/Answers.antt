use Rattle.std.proofs.Common.{refl}
use Rattle.risch_round.specs.Procedure.{branch}
use Rattle.risch_round.proofs.procedure.branch.Goals as goal

pub loop-exponent-init : goal.loop-exponent-init
unfolding branch
loop-exponent-init c = rw (c.coefficients-coefficients.ensures.value, c.zero-piece.ensures) refl
