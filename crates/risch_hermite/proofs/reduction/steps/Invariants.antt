use Rattle.std.proofs.Common.{◌≡◌}
use Rattle.risch_hermite.proofs.StepsSoFar.{StepsSoFar}
use Rattle.risch_hermite.proofs.reduction.steps.Given as goal

-- the steps down to j = count - done + 1 are done
abbrev pub invariant-loop-done : goal.invariant-loop-done
invariant-loop-done g l = record {
  so_far : StepsSoFar l.tower l.level l.cofactor l.part l.count l.fn.partial (g.U.Units.units l.fn.units) (g.U.Units.most l.fn.units) l.done l.partial (g.U.Units.units l.units);
  leaves : g.U.Units.leaves l.units ≡ g.U.Units.leaves l.fn.units;
  same_most : g.U.Units.most l.units ≡ g.U.Units.most l.fn.units;
  same_kept : g.U.Units.kept l.units ≡ g.U.Units.kept l.fn.units;
}
