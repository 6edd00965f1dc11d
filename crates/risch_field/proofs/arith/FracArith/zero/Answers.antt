use Rattle.std.proofs.Common.{◌∙◌, refl}
use Rattle.risch_frac.specs.Gcd.{gcd}
use Rattle.risch_frac.specs.Fraction.{quotient, lowest}
use Rattle.risch_field.proofs.arith.FracArith.zero.Goals as goal

pub returns : goal.returns
unfolding gcd quotient lowest
returns c = c.new.ensures.rule ∙ refl
