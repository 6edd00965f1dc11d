use Rattle.std.proofs.Common.{◌∙◌, refl}
use Rattle.risch_frac.specs.Gcd.{gcd}
use Rattle.risch_frac.specs.Fraction.{quotient, lowest}
use Rattle.risch_field.proofs.arith.FracArith.one.Goals as goal

pub returns : goal.returns
unfolding gcd quotient lowest
returns c = record { value = c.new.ensures.rule ∙ refl; not_zero = refl }
