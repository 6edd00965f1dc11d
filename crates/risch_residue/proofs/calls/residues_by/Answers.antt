use Rattle.std.proofs.Common.{subst}
use Rattle.risch_residue_traces.specs.TracesMeaning.{AreResidueTraces, IfConstant}
use Rattle.risch_residue.proofs.ConstantResidues.{constant-residues}
use Rattle.risch_residue.proofs.calls.residues_by.Goals as goal

pub returns-in_ok-logs-in-Constant-clause-constant : goal.returns-in_ok-logs-in-Constant-clause-constant
returns-in_ok-logs-in-Constant-clause-constant c =
    let are = subst (λ z. IfConstant z (AreResidueTraces c.args.tower.now c.args.level c.args.h.now)) c.in-Constant.is c.requires.traces in
    (constant-residues c.args.tower.now c.args.level c.args.h.now c.as_slice-traces.result.now c.in_ok-logs-in-Constant.logs c.first_trace-trace.result c.setting.ensures (rw c.as_slice-traces.ensures are) c.all_normal.ensures
    c.in_ok-logs-in-Constant.ensures c.first_trace-trace.ensures).0

pub returns-in_ok-logs-in-Constant-clause-logarithms : goal.returns-in_ok-logs-in-Constant-clause-logarithms
returns-in_ok-logs-in-Constant-clause-logarithms c =
    let are = subst (λ z. IfConstant z (AreResidueTraces c.args.tower.now c.args.level c.args.h.now)) c.in-Constant.is c.requires.traces in
    (constant-residues c.args.tower.now c.args.level c.args.h.now c.as_slice-traces.result.now c.in_ok-logs-in-Constant.logs c.first_trace-trace.result c.setting.ensures (rw c.as_slice-traces.ensures are) c.all_normal.ensures
    c.in_ok-logs-in-Constant.ensures c.first_trace-trace.ensures).1
