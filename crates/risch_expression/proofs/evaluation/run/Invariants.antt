use Rattle.std.proofs.Common.{◌≡◌, [], drop}
use Rattle.risch_expression.specs.Evaluation as spec
use Rattle.risch_expression.proofs.evaluation.run.Given as goal

-- The steps that are left, run on the stack as it is, give what all steps give.
abbrev pub invariant-loop-step : goal.invariant-loop-step
invariant-loop-step l = spec.run l.program [] ≡ spec.run (drop l.step-index l.program) l.stack
