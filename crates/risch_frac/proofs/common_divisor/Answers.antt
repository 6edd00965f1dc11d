use Rattle.std.proofs.Common.{arith, sym, ◌∙◌}
use Rattle.risch_frac.proofs.CommonDivisor.{gcd-zero, gcd-step}
use Rattle.risch_frac.proofs.CommonDivisor.{gcd-positive, gcd-le}
use Rattle.risch_frac.proofs.common_divisor.Goals as goal

pub loop-right-preserved : goal.loop-right-preserved
loop-right-preserved c = gcd-step _ _ (omega arith) ∙ c.loop-right.invariant

pub returns : goal.returns
returns c =
    let value = sym (gcd-zero c.loop-right.left c.loop-right.right (omega arith)) ∙ c.loop-right.invariant in
    record {
      value = value;
      positive = λ p. rw value (gcd-positive _ _ p);
      small = λ p. rw value (gcd-le _ _ p);
    }
