-- Steps of the rules of t^i·p and of the trace.
--     raised-kept      t^i·p is a polynomial of the same weight
--     trace_from-more, trace_from-stops, trace_from-sum_stops      one step of the sum
use Rattle.std.specs.Prelude.{replicate, fold}
use Rattle.std.proofs.Common.{◌≡◌, refl, sym, ap, ◌∙◌, ℕ, zero, suc, ◌+◌, ◌-◌, ◌≤◌, ◌<◌, true, List, ◌++◌, length, Ok, arith, length-append}
use Rattle.std.proofs.lemmas.List.{length-replicate}
use Rattle.risch_field.specs.Checked.{and_then, IsStopOf}
use Rattle.risch_field.specs.declared.Fail.{Fail}
use Rattle.risch_field.proofs.CheckedSteps.{stop_passes}
use Rattle.risch_polynomial.specs.Poly as poly
use Rattle.risch_polynomial.specs.Polynomial.{IsPolynomial}
use Rattle.risch_level.specs.Levels.{Element, element}
use Rattle.risch_trace.specs.Traces.{diagonal, trace_from}
use Rattle.risch_trace.proofs.TraceRules.{trimmed-raised}

zero-is_zero : element.is_zero element.zero ≡ true
unfolding element
zero-is_zero = refl

weight_from-raised : (a i : ℕ) (p : List Element) → fold (λ w c. w + poly.weight_in element c) a (replicate i element.zero ++ p) ≡ fold (λ w c. w + poly.weight_in element c) a p
weight_from-raised a zero p = refl
weight_from-raised a (suc i) p =
    let none : a + poly.weight_in element element.zero ≡ a = rw zero-is_zero (omega arith) in
    ap (λ (n : ℕ). fold (λ w c. w + poly.weight_in element c) n (replicate i element.zero ++ p)) none ∙ weight_from-raised a i p

pub raised-kept : (i : ℕ) (p : List Element) (w : ℕ) → IsPolynomial element p w → 0 < length p → i + length p ≤ 256 → IsPolynomial element (replicate i element.zero ++ p) w
raised-kept i p w k some small = record {
  ends_not_zero = trimmed-raised i p some k.ends_not_zero;
  weight_is = k.weight_is ∙ sym (weight_from-raised 0 i p);
  weight_small = k.weight_small;
  degree_small = omega (arith, small, length-append (replicate i element.zero) p, length-replicate i element.zero);
}

module _ (d u : List Element) where
  pub trace_from-more : (total : Element) (i steps : ℕ) (c s : Element) → 0 < steps → diagonal d u i ≡ Ok c → element.sum total c ≡ Ok s →
      trace_from d u total i steps ≡ trace_from d u s (i + 1) (steps - 1)
  trace_from-more total i zero c s some e f = absurd (omega arith)
  trace_from-more total i (suc steps) c s some e f =
      let less : suc steps - 1 ≡ steps = omega arith in
      rw (less, e, f) refl

  pub trace_from-stops : (stop : Fail) (total : Element) (i steps : ℕ) → 0 < steps → IsStopOf stop (diagonal d u i) → IsStopOf stop (trace_from d u total i steps)
  trace_from-stops stop total i zero some e = absurd (omega arith)
  trace_from-stops stop total i (suc steps) some e =
      stop_passes stop (diagonal d u i) (λ c. and_then (element.sum total c) (λ s. trace_from d u s (i + 1) steps)) e

  pub trace_from-sum_stops : (stop : Fail) (total : Element) (i steps : ℕ) (c : Element) → 0 < steps → diagonal d u i ≡ Ok c → IsStopOf stop (element.sum total c) →
      IsStopOf stop (trace_from d u total i steps)
  trace_from-sum_stops stop total i zero c some e f = absurd (omega arith)
  trace_from-sum_stops stop total i (suc steps) c some e f =
      rw e (stop_passes stop (element.sum total c) (λ s. trace_from d u s (i + 1) steps) f)
