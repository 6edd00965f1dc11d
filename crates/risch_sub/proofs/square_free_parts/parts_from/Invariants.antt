use Rattle.std.proofs.Common.{◌≡◌, ◌-◌, []}
use Rattle.risch_sub.specs.SquareFree.{parts_from}
use Rattle.risch_sub.proofs.square_free_parts.parts_from.Given as goal

abbrev pub invariant-loop-step : goal.invariant-loop-step
invariant-loop-step l = parts_from l.fn.steps [] l.fn.w l.fn.c ≡ parts_from (l.fn.steps - l._step) l.parts l.w l.c
