use Rattle.std.proofs.Common.{◌≡◌, length}
use Rattle.risch_field.specs.Checked.{Agrees}
use Rattle.risch_element_theory.specs.WholeTower.{AllWithin}
use Rattle.risch_sub.specs.PowerTraces.{power_traces}
use Rattle.risch_sub.specs.PowerTracesMeaning.{ArePowerTraces}
use Rattle.risch_sub.proofs.PowerTraceRules.{power_traces-mean, power_traces-count, power_traces-within}
use Rattle.risch_sub.proofs.RemainderSteps.{rule-if}
use Rattle.risch_sub.proofs.power_traces.characteristic.Goals as goal
use Rattle.risch_sub.proofs.power_traces.characteristic.Goals.{After-power_traces}

by_rule : (c : After-power_traces) → Agrees c.power_traces.result (power_traces c.args.modulus.now c.args.of.now c.args.power)
by_rule c = rw (c.inner.ensures.value, c.inner-2.ensures.value) at c.power_traces.ensures

pub returns-clause-count : goal.returns-clause-count
returns-clause-count c =
    rule-if c.power_traces.result (power_traces c.args.modulus.now c.args.of.now c.args.power) (λ it. length it ≡ c.args.power) (power_traces-count c.args.modulus.now c.args.of.now c.args.power) (by_rule c)

pub returns-clause-meaning : goal.returns-clause-meaning
returns-clause-meaning c =
    rule-if c.power_traces.result (power_traces c.args.modulus.now c.args.of.now c.args.power) (ArePowerTraces c.args.modulus.now c.args.of.now)
    (λ traces. power_traces-mean c.args.modulus.now c.args.of.now c.args.power traces c.inner.ensures.normal c.requires.monic c.requires.degree c.inner-2.ensures.normal) (by_rule c)

pub returns-clause-within : goal.returns-clause-within
returns-clause-within c n all_d all_u =
    rule-if c.power_traces.result (power_traces c.args.modulus.now c.args.of.now c.args.power) (AllWithin n) (power_traces-within n c.args.modulus.now c.args.of.now all_d all_u c.args.power) (by_rule c)
