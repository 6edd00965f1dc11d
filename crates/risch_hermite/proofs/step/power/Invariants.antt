use Rattle.std.proofs.Common.{◌≡◌, ◌-◌, ℕ}
use Rattle.risch_ring.specs.CommRing as ring
use Rattle.risch_univariate.specs.PolynomialRing.{polynomials}
use Rattle.risch_mean.specs.ElementField.{elements}
use Rattle.risch_element_theory.specs.WholeTower.{polynomial, AllWithin}
use Rattle.risch_hermite.specs.HermiteReduction as spec
use Rattle.risch_hermite.proofs.step.power.Given as goal

-- so far p^factor
abbrev pub invariant-loop-factor : goal.invariant-loop-factor
invariant-loop-factor l = record {
  rule : spec.power l.of l.exponent ≡ spec.power_from (l.exponent - l._factor) l.power l.of;
  meaning : polynomial l.power ≡ ring.power (polynomials elements) (polynomial l.of) l._factor;
  within : (n : ℕ) → AllWithin n l.of → AllWithin n l.power;
}
