use Rattle.std.proofs.Common.{◌≡◌}
use Rattle.risch_hermite.proofs.PartRules.{PartsSoFar}
use Rattle.risch_hermite.proofs.reduction.with_parts.Given as goal

-- the parts up to n_index are done
abbrev pub invariant-loop-index : goal.invariant-loop-index
invariant-loop-index g l = record {
  so_far : PartsSoFar l.tower l.level l.parts l.fn.start (g.U.Units.units l.fn.units) (g.U.Units.most l.fn.units) l.index l.state (g.U.Units.units l.units);
  leaves : g.U.Units.leaves l.units ≡ g.U.Units.leaves l.fn.units;
  same_most : g.U.Units.most l.units ≡ g.U.Units.most l.fn.units;
  same_kept : g.U.Units.kept l.units ≡ g.U.Units.kept l.fn.units;
}
