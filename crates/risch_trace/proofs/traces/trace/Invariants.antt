use Rattle.std.proofs.Common.{◌≡◌, ◌-◌, length}
use Rattle.risch_level.specs.Levels.{element}
use Rattle.risch_trace.specs.Traces.{trace_from}
use Rattle.risch_trace.proofs.traces.trace.Given as goal

abbrev pub invariant-loop-i : goal.invariant-loop-i
invariant-loop-i l = trace_from l.modulus l.of element.zero 0 (length l.modulus - 1) ≡ trace_from l.modulus l.of l.total l.i (length l.modulus - 1 - l.i)
