use Rattle.std.proofs.Common.{◌≡◌, ◌+◌, None, length, arith}
use Rattle.std.proofs.lemmas.Result.{err_from_is_err_and}
use Rattle.risch_level.specs.Accessors.{as_number}
use Rattle.risch_trace.proofs.TraceRules.{trace-within}
use Rattle.risch_residue_traces.proofs.CountedTraces.{first_unit-ends, first-ends, first-judged, first-goes_on}
use Rattle.risch_residue_traces.proofs.traces.traces_of.Goals as goal

pub returns-in_err-charge-clause-rule : goal.returns-in_err-charge-clause-rule
returns-in_err-charge-clause-rule g c =
    let p = err_from_is_err_and c.from_residual.result c.from_residual.ensures.1 in
    rw (p.1, p.2) (first_unit-ends c.args.tower.now c.args.modulus.now c.args.residue.now c.in_err-charge.field-0.0 (g.U.Units.units c.args.units.now) (g.U.Units.units c.charge.new.units) (g.U.Units.most c.args.units.now) c.in_err-charge.ensures.counted)

pub returns-in_err-first-clause-rule : goal.returns-in_err-first-clause-rule
returns-in_err-first-clause-rule g c =
    let p = err_from_is_err_and c.from_residual-in_err-first.result c.from_residual-in_err-first.ensures.1 in
    rw p.1 (first-ends c.args.tower.now c.args.modulus.now c.args.residue.now p.0 c.in_err-first.field-0.0 (g.U.Units.units c.args.units.now) (g.U.Units.units c.charge.new.units) (g.U.Units.most c.args.units.now) c.in_ok-charge.ensures.counted p.2 c.in_err-first.ensures)

pub judged-requires : goal.judged-requires
judged-requires g c = record { within = trace-within (length c.args.tower.now + 1) c.args.modulus.now c.args.residue.now c.in_ok-first.first c.requires.modulus_within c.requires.residue_within c.in_ok-first.ensures }

pub returns-in_default-clause-rule : goal.returns-in_default-clause-rule
returns-in_default-clause-rule g c =
    let none : None ≡ as_number 5 c.in_ok-first.first = grind (arith, c.as_num.ensures.value) in
    first-judged c.args.tower.now c.args.modulus.now c.args.residue.now c.judged.result c.in_ok-first.first (g.U.Units.units c.args.units.now) (g.U.Units.units c.charge.new.units) (g.U.Units.units c.charge.new.units) (g.U.Units.most c.args.units.now) c.in_ok-charge.ensures.counted c.in_ok-first.ensures none
    (c.judged.ensures.rule (g.U.Units.units c.charge.new.units) (g.U.Units.most c.args.units.now))

pub returns-in_default-clause-leaves : goal.returns-in_default-clause-leaves
returns-in_default-clause-leaves g c = rw c.in_ok-charge.ensures.leaves (c.judged.ensures.leaves (g.U.Units.leaves c.args.units.now))

pub returns-clause-rule : goal.returns-clause-rule
returns-clause-rule g c =
    let rest = rw c.in_ok-charge.ensures.same_most at c.further_traces.ensures.rule in
    first-goes_on c.args.tower.now c.args.modulus.now c.args.residue.now c.further_traces.result c.in_ok-first.first c.in-Some._number (g.U.Units.units c.args.units.now) (g.U.Units.units c.charge.new.units) (g.U.Units.units c.further_traces.new.units) (g.U.Units.most c.args.units.now) c.in_ok-charge.ensures.counted
    c.in_ok-first.ensures c.in-Some.ensures.value rest

pub returns-clause-leaves : goal.returns-clause-leaves
returns-clause-leaves g c = rw c.in_ok-charge.ensures.leaves at c.further_traces.ensures.leaves
