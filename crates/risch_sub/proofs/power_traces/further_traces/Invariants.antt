use Rattle.std.proofs.Common.{◌≡◌, ◌-◌}
use Rattle.risch_sub.specs.PowerTraces.{further_traces}
use Rattle.risch_sub.proofs.power_traces.further_traces.Given as goal

abbrev pub invariant-loop-step : goal.invariant-loop-step
invariant-loop-step l = further_traces l.modulus l.of l.steps l.fn.traces l.fn.power ≡ further_traces l.modulus l.of (l.steps - l._step) l.traces l.power
