-- The traces of the powers of ρ so far: what the remaining powers give, all give.
use Rattle.std.specs.Prelude.{⊤}
use Rattle.std.proofs.Common.{◌≡◌, ℕ, ◌+◌, ◌-◌, ◌≤◌, ◌<◌, List, [], ◌∷◌, ◌++◌, length, None, Some, Result, Ok, Err, subst, arith}
use Rattle.std.proofs.lemmas.List.{length_push}
use Rattle.risch_frac.specs.Fraction.{Fraction}
use Rattle.risch_field.specs.Checked.{IsStopOf}
use Rattle.risch_field.specs.declared.Fail.{Fail}
use Rattle.risch_level.specs.Accessors.{as_number}
use Rattle.risch_level.specs.Levels.{Element}
use Rattle.risch_element_theory.specs.WholeTower.{Within, AllWithin}
use Rattle.risch_run.specs.declared.Ended.{Ended}
use Rattle.risch_run.specs.Ruled.{formed, ended_by}
use Rattle.risch_run.specs.Counted.{free, and_counted, one_unit, IsCountedResult}
use Rattle.risch_tower.specs.declared.level.Level.{Level}
use Rattle.risch_tower.specs.Tower.{derivative}
use Rattle.risch_trace.specs.Traces.{trace}
use Rattle.risch_trace.proofs.TraceRules.{trace-within}
use Rattle.risch_sub.specs.PowerTraces.{next_power}
use Rattle.risch_residue_traces.specs.declared.traces.Traces.{Traces}
use Rattle.risch_residue_traces.specs.declared.traces.Traces.TheVariants.{Constant}
use Rattle.risch_residue_traces.specs.ResidueTraces.{judged, traces_from}
use Rattle.risch_residue_traces.proofs.CountedTraces.{unit-ends, power-ends, trace-ends, power-judged, power-goes_on, powers-done}
use Rattle.risch_residue_traces.proofs.FormedPowers.{next_power-within}

module _ (tower : List Level) (d rho : List Element) (count : ℕ) (first : Element) (before most : ℕ) where
  pub record TracesSoFar (done : ℕ) (traces power : List Element) (middle : ℕ) : Type 0 where
    pub number : length traces ≡ done + 1
    pub power_within : AllWithin (length tower + 1) power
    pub rule : (result : Result Traces Ended) (after : ℕ) → IsCountedResult result (traces_from tower d rho (count - done) traces power) middle after most →
        IsCountedResult result (traces_from tower d rho count (first ∷ []) rho) before after most

  from_first : TracesSoFar 0 (first ∷ []) rho before → (traces power : List Element) → traces ≡ first ∷ [] → power ≡ rho → TracesSoFar 0 traces power before
  from_first h traces power e f = rw (e, f) h

  pub so_far-begin : AllWithin (length tower + 1) rho → (traces power : List Element) → traces ≡ first ∷ [] → power ≡ rho → TracesSoFar 0 traces power before
  so_far-begin within traces power e f =
      let all : count - 0 ≡ count = omega arith in
      from_first (record { number = omega arith; power_within = within; rule = λ result after h. rw all at h }) traces power e f

  module _ (done : ℕ) (traces power : List Element) (middle : ℕ) (h : TracesSoFar done traces power middle) (limit : ℕ) (same : limit ≡ most) (more : done < count) where
    pub so_far-unit_ends : (end : Ended) (after : ℕ) → IsCountedResult {A = ⊤} (Err end) one_unit middle after limit → IsCountedResult {A = Traces} (Err end) (traces_from tower d rho count (first ∷ []) rho) before after most
    so_far-unit_ends end after unit =
        let unit' : IsCountedResult {A = ⊤} (Err end) one_unit middle after most = subst (λ (m : ℕ). IsCountedResult {A = ⊤} (Err end) one_unit middle after m) same unit in
        h.rule (Err end) after (unit-ends tower d rho end (count - done) traces power middle after most (omega (arith, more)) unit')

    module _ (after : ℕ) (unit : IsCountedResult {A = ⊤} (Ok tt) one_unit middle after limit) where
      unit-most : IsCountedResult {A = ⊤} (Ok tt) one_unit middle after most
      unit-most = subst (λ (m : ℕ). IsCountedResult {A = ⊤} (Ok tt) one_unit middle after m) same unit

      pub so_far-power_ends : (end : Ended) (stop : Fail) → end ≡ ended_by stop → IsStopOf stop (next_power d rho power) → IsCountedResult {A = Traces} (Err end) (traces_from tower d rho count (first ∷ []) rho) before after most
      so_far-power_ends end stop e stops = h.rule (Err end) after (power-ends tower d rho end stop (count - done) traces power middle after most (omega (arith, more)) unit-most e stops)

      module _ (next : List Element) (is : next_power d rho power ≡ Ok next) where
        pub so_far-trace_ends : (end : Ended) (stop : Fail) → end ≡ ended_by stop → IsStopOf stop (trace d next) → IsCountedResult {A = Traces} (Err end) (traces_from tower d rho count (first ∷ []) rho) before after most
        so_far-trace_ends end stop e stops = h.rule (Err end) after (trace-ends tower d rho end stop (count - done) traces power next middle after most (omega (arith, more)) unit-most is e stops)

        module _ (p : Element) (value : trace d next ≡ Ok p) where
          pub so_far-judged : (result : Result Traces Ended) (k : ℕ) → None ≡ as_number 5 p → k ≡ done + 2 →
              ((n m : ℕ) → IsCountedResult result (and_counted (free (formed (derivative tower p))) (λ derived. free (judged tower k p derived))) n n m) →
              IsCountedResult result (traces_from tower d rho count (first ∷ []) rho) before after most
          so_far-judged result k none e judgement =
              let number = h.number in
              h.rule result after (power-judged tower d rho result (count - done) k traces power next p middle after after most (omega (arith, more)) unit-most is value none (omega (arith, number, e)) (judgement after most))

          module _ (all_d : AllWithin (length tower + 1) d) (all_rho : AllWithin (length tower + 1) rho) where
            next-within : AllWithin (length tower + 1) next
            next-within = next_power-within (length tower + 1) d rho power next all_d all_rho h.power_within is

            pub so_far-trace_within : Within (length tower + 1) p
            so_far-trace_within = trace-within (length tower + 1) d next p all_d next-within value

            pub so_far-next : (number : Fraction) (pushed : List Element) → Some number ≡ as_number 5 p → pushed ≡ traces ++ p ∷ [] → TracesSoFar (done + 1) pushed next after
            so_far-next number pushed there e =
                let counted = h.number in
                let fewer : count - done - 1 ≡ count - (done + 1) = omega arith in
                rw e (record {
                  number = omega (arith, counted, length_push traces p);
                  power_within = next-within;
                  rule = λ result last k. h.rule result last (power-goes_on tower d rho result (count - done) traces power next p number middle after last most (omega (arith, more)) unit-most is value there (rw fewer k));
                })

  pub so_far-end : (done : ℕ) (traces power : List Element) (middle : ℕ) → TracesSoFar done traces power middle → count ≤ done →
      IsCountedResult (Ok (Constant traces)) (traces_from tower d rho count (first ∷ []) rho) before middle most
  so_far-end done traces power middle h all = h.rule (Ok (Constant traces)) middle (powers-done tower d rho (count - done) traces power middle most (omega (arith, all)))
