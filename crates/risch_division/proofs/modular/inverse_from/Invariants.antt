use Rattle.std.proofs.Common.{◌≡◌, ◌-◌, length}
use Rattle.risch_polynomial.specs.Modular as modular
use Rattle.risch_division.proofs.modular.inverse_from.Given as goal

abbrev pub invariant-loop-step : goal.invariant-loop-step
invariant-loop-step g l =
    modular.inverse_from g.E.Arith.ops (length l.fn.above) l.fn.above l.fn.above_factor l.fn.rest l.fn.factor ≡
    modular.inverse_from g.E.Arith.ops (length l.fn.above - l._step) l.above l.above_factor l.rest l.factor
