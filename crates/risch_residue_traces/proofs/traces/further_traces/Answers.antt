use Rattle.std.proofs.Common.{◌≡◌, ◌+◌, ◌-◌, ◌≤◌, ◌<◌, None, length, refl, ◌∙◌, ap, arith}
use Rattle.std.proofs.lemmas.Result.{err_from_is_err_and}
use Rattle.risch_level.specs.Accessors.{as_number}
use Rattle.risch_residue_traces.proofs.TracesSoFar.{so_far-begin, so_far-unit_ends, so_far-power_ends, so_far-trace_ends, so_far-judged, so_far-trace_within, so_far-next, so_far-end}
use Rattle.risch_residue_traces.proofs.traces.further_traces.Goals as goal

pub loop-done-init : goal.loop-done-init
loop-done-init g c = record {
  so_far = so_far-begin c.args.tower.now c.args.modulus.now c.args.residue.now (length c.args.modulus.now - 2) c.args.first (g.U.Units.units c.args.units.now) (g.U.Units.most c.args.units.now) c.requires.residue_within c.push.new.self c.in_ok-power.power (grind arith) c.in_ok-power.ensures;
  leaves = refl;
  same_most = refl;
  same_kept = refl;
}

pub returns-in_err-charge-clause-rule : goal.returns-in_err-charge-clause-rule
returns-in_err-charge-clause-rule g c =
    let more : c.loop-done.done < length c.args.modulus.now - 2 = omega (arith, c.saturating_sub-further.ensures, ap length c.coefficients.ensures.value, c.loop-done-test.true) in
    let p = err_from_is_err_and c.from_residual-in_err-charge.result c.from_residual-in_err-charge.ensures.1 in
    rw (p.1, p.2) (so_far-unit_ends c.args.tower.now c.args.modulus.now c.args.residue.now (length c.args.modulus.now - 2) c.args.first (g.U.Units.units c.args.units.now) (g.U.Units.most c.args.units.now) c.loop-done.done c.loop-done.traces c.loop-done.power (g.U.Units.units c.loop-done.units) c.loop-done.invariant.so_far
    (g.U.Units.most c.loop-done.units) c.loop-done.invariant.same_most more c.in_err-charge.field-0.0 (g.U.Units.units c.charge.new.units) c.in_err-charge.ensures.counted)

pub returns-in_err-next-clause-rule : goal.returns-in_err-next-clause-rule
returns-in_err-next-clause-rule g c =
    let more : c.loop-done.done < length c.args.modulus.now - 2 = omega (arith, c.saturating_sub-further.ensures, ap length c.coefficients.ensures.value, c.loop-done-test.true) in
    let p = err_from_is_err_and c.from_residual-in_err-next.result c.from_residual-in_err-next.ensures.1 in
    rw p.1 (so_far-power_ends c.args.tower.now c.args.modulus.now c.args.residue.now (length c.args.modulus.now - 2) c.args.first (g.U.Units.units c.args.units.now) (g.U.Units.most c.args.units.now) c.loop-done.done c.loop-done.traces c.loop-done.power (g.U.Units.units c.loop-done.units) c.loop-done.invariant.so_far
    (g.U.Units.most c.loop-done.units) c.loop-done.invariant.same_most more (g.U.Units.units c.charge.new.units) c.in_ok-charge.ensures.counted p.0 c.in_err-next.field-0.0 p.2 c.in_err-next.ensures)

pub returns-in_err-value-clause-rule : goal.returns-in_err-value-clause-rule
returns-in_err-value-clause-rule g c =
    let more : c.loop-done.done < length c.args.modulus.now - 2 = omega (arith, c.saturating_sub-further.ensures, ap length c.coefficients.ensures.value, c.loop-done-test.true) in
    let p = err_from_is_err_and c.from_residual-in_err-value.result c.from_residual-in_err-value.ensures.1 in
    rw p.1 (so_far-trace_ends c.args.tower.now c.args.modulus.now c.args.residue.now (length c.args.modulus.now - 2) c.args.first (g.U.Units.units c.args.units.now) (g.U.Units.most c.args.units.now) c.loop-done.done c.loop-done.traces c.loop-done.power (g.U.Units.units c.loop-done.units) c.loop-done.invariant.so_far
    (g.U.Units.most c.loop-done.units) c.loop-done.invariant.same_most more (g.U.Units.units c.charge.new.units) c.in_ok-charge.ensures.counted c.in_ok-next.next c.in_ok-next.ensures p.0 c.in_err-value.field-0.0 p.2 c.in_err-value.ensures)

pub judged-requires : goal.judged-requires
judged-requires g c =
    let more : c.loop-done.done < length c.args.modulus.now - 2 = omega (arith, c.saturating_sub-further.ensures, ap length c.coefficients.ensures.value, c.loop-done-test.true) in
    record {
      within = so_far-trace_within c.args.tower.now c.args.modulus.now c.args.residue.now (length c.args.modulus.now - 2) c.args.first (g.U.Units.units c.args.units.now) (g.U.Units.most c.args.units.now) c.loop-done.done c.loop-done.traces c.loop-done.power (g.U.Units.units c.loop-done.units) c.loop-done.invariant.so_far
          (g.U.Units.most c.loop-done.units) c.loop-done.invariant.same_most more (g.U.Units.units c.charge.new.units) c.in_ok-charge.ensures.counted c.in_ok-next.next c.in_ok-next.ensures c.in_ok-value.value c.in_ok-value.ensures c.requires.modulus_within c.requires.residue_within;
    }

pub returns-in_default-clause-rule : goal.returns-in_default-clause-rule
returns-in_default-clause-rule g c =
    let more : c.loop-done.done < length c.args.modulus.now - 2 = omega (arith, c.saturating_sub-further.ensures, ap length c.coefficients.ensures.value, c.loop-done-test.true) in
    let none : None ≡ as_number 5 c.in_ok-value.value = grind (arith, c.as_num.ensures.value) in
    so_far-judged c.args.tower.now c.args.modulus.now c.args.residue.now (length c.args.modulus.now - 2) c.args.first (g.U.Units.units c.args.units.now) (g.U.Units.most c.args.units.now) c.loop-done.done c.loop-done.traces c.loop-done.power (g.U.Units.units c.loop-done.units) c.loop-done.invariant.so_far
    (g.U.Units.most c.loop-done.units) c.loop-done.invariant.same_most more (g.U.Units.units c.charge.new.units) c.in_ok-charge.ensures.counted c.in_ok-next.next c.in_ok-next.ensures c.in_ok-value.value c.in_ok-value.ensures c.judged.result (c.loop-done.done + 2) none refl c.judged.ensures.rule

pub returns-in_default-clause-leaves : goal.returns-in_default-clause-leaves
returns-in_default-clause-leaves g c = rw (c.in_ok-charge.ensures.leaves ∙ c.loop-done.invariant.leaves) (c.judged.ensures.leaves (g.U.Units.leaves c.args.units.now))

pub loop-done-preserved : goal.loop-done-preserved
loop-done-preserved g c =
    let more : c.loop-done.done < length c.args.modulus.now - 2 = omega (arith, c.saturating_sub-further.ensures, ap length c.coefficients.ensures.value, c.loop-done-test.true) in
    record {
      so_far = so_far-next c.args.tower.now c.args.modulus.now c.args.residue.now (length c.args.modulus.now - 2) c.args.first (g.U.Units.units c.args.units.now) (g.U.Units.most c.args.units.now) c.loop-done.done c.loop-done.traces c.loop-done.power (g.U.Units.units c.loop-done.units) c.loop-done.invariant.so_far
          (g.U.Units.most c.loop-done.units) c.loop-done.invariant.same_most more (g.U.Units.units c.charge.new.units) c.in_ok-charge.ensures.counted c.in_ok-next.next c.in_ok-next.ensures c.in_ok-value.value c.in_ok-value.ensures c.requires.modulus_within c.requires.residue_within
          c.in-Some._number c.push-in-loop-done.new.self c.in-Some.ensures.value c.in_ok-push-2.ensures.ok;
      leaves = c.in_ok-charge.ensures.leaves ∙ c.loop-done.invariant.leaves;
      same_most = c.in_ok-charge.ensures.same_most ∙ c.loop-done.invariant.same_most;
      same_kept = c.in_ok-charge.ensures.same_kept ∙ c.loop-done.invariant.same_kept;
    }

pub returns-clause-rule : goal.returns-clause-rule
returns-clause-rule g c =
    let all : length c.args.modulus.now - 2 ≤ c.loop-done.done = omega (arith, c.saturating_sub-further.ensures, ap length c.coefficients.ensures.value, c.loop-done-test.false) in
    so_far-end c.args.tower.now c.args.modulus.now c.args.residue.now (length c.args.modulus.now - 2) c.args.first (g.U.Units.units c.args.units.now) (g.U.Units.most c.args.units.now) c.loop-done.done c.loop-done.traces c.loop-done.power (g.U.Units.units c.loop-done.units) c.loop-done.invariant.so_far all
