-- The steps of the rule of the traces of powers, at the step i of n.
use Rattle.std.specs.Result.{IsErrAnd}
use Rattle.std.proofs.Common.{◌≡◌, ℕ, suc, ◌+◌, ◌-◌, ◌<◌, List, [], ◌∷◌, ◌++◌, Result, Ok, refl, ap, ◌∙◌, arith}
use Rattle.std.proofs.lemmas.Result.{err_from_is_err_and}
use Rattle.risch_field.specs.Checked.{Checked, Agrees, and_then, IsStopOf}
use Rattle.risch_field.specs.declared.Fail.{Fail}
use Rattle.risch_field.proofs.CheckedSteps.{stop_passes}
use Rattle.risch_level.specs.Levels.{Element}
use Rattle.risch_trace.specs.Traces.{trace}
use Rattle.risch_sub.specs.PowerTraces.{next_power, further_traces}

module _ (d u : List Element) (n i : ℕ) (traces power : List Element) {rule : Checked (List Element)} (below : i < n) (so_far : rule ≡ further_traces d u (n - i) traces power) where
  next_trace : rule ≡ and_then (next_power d u power) (λ next. and_then (trace d next) (λ p. further_traces d u (n - (i + 1)) (traces ++ p ∷ []) next))
  next_trace =
      let one_more : n - i ≡ suc (n - (i + 1)) = omega arith in
      so_far ∙ ap (λ k. further_traces d u k traces power) one_more

  pub traces_kept : {next next_traces : List Element} {p : Element} → next_power d u power ≡ Ok next → trace d next ≡ Ok p → next_traces ≡ traces ++ p ∷ [] →
      rule ≡ further_traces d u (n - (i + 1)) next_traces next
  traces_kept e f pushed = next_trace ∙ rw (e, f, pushed) refl

  pub power_stops : (stop : Fail) (result : Result (List Element) Fail) → IsStopOf stop (next_power d u power) → IsErrAnd result (λ s. s ≡ stop) → Agrees result rule
  power_stops stop result e is_err =
      let s = err_from_is_err_and result is_err in
      rw (s.1, s.2, next_trace) (stop_passes stop (next_power d u power) (λ next. and_then (trace d next) (λ p. further_traces d u (n - (i + 1)) (traces ++ p ∷ []) next)) e)

  pub trace_stops : {next : List Element} (stop : Fail) (result : Result (List Element) Fail) → next_power d u power ≡ Ok next → IsStopOf stop (trace d next) → IsErrAnd result (λ s. s ≡ stop) → Agrees result rule
  trace_stops {next} stop result e f is_err =
      let s = err_from_is_err_and result is_err in
      rw (s.1, s.2, next_trace, e) (stop_passes stop (trace d next) (λ p. further_traces d u (n - (i + 1)) (traces ++ p ∷ []) next) f)
