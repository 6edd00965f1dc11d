use Rattle.std.proofs.Common.{◌≡◌, ◌-◌, ◌<◌, [], ◌∷◌, length}
use Rattle.risch_level.specs.Levels.{element}
use Rattle.risch_logarithm_rules.specs.Newton.{symmetrics_from}
use Rattle.risch_residue.proofs.newton.symmetrics.Given as goal

abbrev pub invariant-loop-step : goal.invariant-loop-step
invariant-loop-step l = record {
  some : 0 < length l.es;
  so_far : symmetrics_from (length l.traces) (element.one ∷ []) l.traces ≡ symmetrics_from (length l.traces - l._step) l.es l.traces;
}
