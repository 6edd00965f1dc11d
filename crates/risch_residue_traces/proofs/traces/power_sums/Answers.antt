use Rattle.std.proofs.Common.{◌+◌, length, arith}
use Rattle.risch_residue_traces.proofs.ElementClaims.{denominator-large, constant-stands, not_constant-stands, not_sound-stands}
use Rattle.risch_residue_traces.proofs.FormedPowers.{more-all-within}
use Rattle.risch_residue_traces.proofs.traces.power_sums.Goals as goal

pub residue-requires-clause-degree : goal.residue-requires-clause-degree
residue-requires-clause-degree g c =
    rw c.in_ok-denominator.ensures.rule (denominator-large c.args.level c.args.h.now c.level_of.ensures.low c.nest-nest.ensures.normal c.requires.within c.requires.some c.requires.proper)

pub residue-requires-clause-normal : goal.residue-requires-clause-normal
residue-requires-clause-normal g c = rw c.in_ok-denominator.ensures.rule c.requires.normal

pub traces_of-requires : goal.traces_of-requires
traces_of-requires g c =
    let low = c.requires.level in
    let all_d = c.in_ok-denominator.ensures.within c.requires.within in
    record {
      modulus_within = rw c.inner.ensures.value (more-all-within c.args.level (length c.args.tower.now + 1) (omega (arith, low)) c.in_ok-denominator.denominator all_d);
      residue_within = more-all-within c.args.level (length c.args.tower.now + 1) (omega (arith, low)) c.in_ok-residue.residue c.in_ok-residue.ensures.within;
    }

pub returns-clause-constant : goal.returns-clause-constant
returns-clause-constant g c =
    let rule = rw (c.inner.ensures.value, c.in_ok-denominator.ensures.rule) at c.traces_of.ensures.rule in
    let residue = rw (c.in_ok-numerator.ensures.rule, c.in_ok-denominator.ensures.rule) at c.in_ok-residue.ensures.meaning in
    constant-stands c.args.tower.now c.args.level c.level_of.ensures c.args.h.now c.nest-nest.ensures.normal c.requires.within c.requires.some c.requires.proper c.in_ok-residue.residue residue c.in_ok-residue.ensures.within
    c.traces_of.result (g.U.Units.units c.args.units.now) (g.U.Units.units c.traces_of.new.units) (g.U.Units.most c.args.units.now) rule

pub returns-clause-not_constant : goal.returns-clause-not_constant
returns-clause-not_constant g c =
    let rule = rw (c.inner.ensures.value, c.in_ok-denominator.ensures.rule) at c.traces_of.ensures.rule in
    let residue = rw (c.in_ok-numerator.ensures.rule, c.in_ok-denominator.ensures.rule) at c.in_ok-residue.ensures.meaning in
    not_constant-stands c.args.tower.now c.args.level c.level_of.ensures c.args.h.now c.nest-nest.ensures.normal c.requires.within c.requires.some c.requires.proper c.in_ok-residue.residue residue c.in_ok-residue.ensures.within
    c.traces_of.result (g.U.Units.units c.args.units.now) (g.U.Units.units c.traces_of.new.units) (g.U.Units.most c.args.units.now) rule c.traces_of.ensures.not_constant

pub returns-clause-not_sound : goal.returns-clause-not_sound
returns-clause-not_sound g c =
    let rule = rw (c.inner.ensures.value, c.in_ok-denominator.ensures.rule) at c.traces_of.ensures.rule in
    let residue = rw (c.in_ok-numerator.ensures.rule, c.in_ok-denominator.ensures.rule) at c.in_ok-residue.ensures.meaning in
    not_sound-stands c.args.tower.now c.args.level c.level_of.ensures c.args.h.now c.nest-nest.ensures.normal c.requires.within c.requires.some c.requires.proper c.in_ok-residue.residue residue c.in_ok-residue.ensures.within
    c.traces_of.result (g.U.Units.units c.args.units.now) (g.U.Units.units c.traces_of.new.units) (g.U.Units.most c.args.units.now) rule c.traces_of.ensures.not_sound
