use Rattle.std.proofs.Common.{◌≡◌, ◌-◌}
use Rattle.risch_expression.specs.Evaluation as spec
use Rattle.risch_expression.proofs.evaluation.multiplied.Given as goal

-- The products so far and those that are left are the whole.
abbrev pub invariant-loop : goal.invariant-loop
invariant-loop l = spec.multiplied l.fn.start l.base l.times ≡ spec.multiplied l.value l.base (l.times - l.counter)
