use Rattle.std.proofs.Common.{arith}
use Rattle.risch_element_theory.proofs.PartsLaws as Parts
use Rattle.risch_residue_traces.specs.ResidueTraces.{residue_traces}
use Rattle.risch_chain_end.proofs.Results.{counted-is_rule}
use Rattle.risch_chain_end.proofs.TraceCosts.{traces-cost}
use Rattle.risch_chain_end.proofs.runs.power_sums.Goals as goal

pub returns-clause-rule : goal.returns-clause-rule
returns-clause-rule c =
    let cost = traces-cost c.args.tower.now c.args.level c.args.h.now in
    let degree = (Parts.denominator-is_polynomial c.args.level c.args.h.now c.level_of.ensures.low c.nest-nest.ensures.normal).degree_small in
    let none = c.new-units.ensures.none in
    let most = c.new-units.ensures.most in
    counted-is_rule c.residue_traces.result c.result_of.result (residue_traces c.args.tower.now c.args.level c.args.h.now) c.new-units.result.count c.residue_traces.new.units.count c.new-units.result.most c.result_of.ensures
    (omega (arith, cost, degree, none, most)) c.residue_traces.ensures.rule c.residue_traces.ensures.left
