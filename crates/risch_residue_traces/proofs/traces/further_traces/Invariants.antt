use Rattle.std.proofs.Common.{◌≡◌, ◌-◌, length}
use Rattle.risch_residue_traces.proofs.TracesSoFar.{TracesSoFar}
use Rattle.risch_residue_traces.proofs.traces.further_traces.Given as goal

-- the traces of ρ, .., ρ^(done + 1) are formed
abbrev pub invariant-loop-done : goal.invariant-loop-done
invariant-loop-done g l = record {
  so_far : TracesSoFar l.tower l.modulus l.residue (length l.modulus - 2) l.fn.first (g.U.Units.units l.fn.units) (g.U.Units.most l.fn.units) l.done l.traces l.power (g.U.Units.units l.units);
  leaves : g.U.Units.leaves l.units ≡ g.U.Units.leaves l.fn.units;
  same_most : g.U.Units.most l.units ≡ g.U.Units.most l.fn.units;
  same_kept : g.U.Units.kept l.units ≡ g.U.Units.kept l.fn.units;
}
