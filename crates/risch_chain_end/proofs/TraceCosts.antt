-- The power sums of the residues of a/d cost at most deg d units.
use Rattle.std.proofs.Common.{ℕ, zero, suc, ◌+◌, ◌-◌, ◌≤◌, List, [], ◌∷◌, ◌++◌, length, Option, None, Some, Ok, Err, arith}
use Rattle.risch_frac.specs.Fraction.{Fraction}
use Rattle.risch_level.specs.Levels.{Element}
use Rattle.risch_level.specs.Accessors.{as_number}
use Rattle.risch_tower.specs.declared.level.Level.{Level}
use Rattle.risch_tower.specs.Tower.{derivative}
use Rattle.risch_trace.specs.Traces.{trace}
use Rattle.risch_sub.specs.PowerTraces.{next_power}
use Rattle.risch_run.specs.Ruled.{Ruled, formed}
use Rattle.risch_run.specs.Counted.{Counted, free, next_counted, and_counted}
use Rattle.risch_monomial.specs.LevelElements.{numerator_at, denominator_at}
use Rattle.risch_residue_traces.specs.ResidueTraces.{judged, trace_then, traces_from, traces_of, residue, residue_traces}
use Rattle.risch_residue_traces.specs.declared.traces.Traces.{Traces}

-- a rule that costs nothing, and then a rule that costs at most n
next-cost : {A B : Type 0} (n : ℕ) (rule : Ruled A) (next : A → Counted B) → ((a : A) → (next a).cost ≤ n) → (next_counted 0 rule next).cost ≤ n
next-cost n (Ok a) next h = let l = h a in omega (arith, l)
next-cost n (Err stop) next h = omega arith

free-cost : {A B : Type 0} (n : ℕ) (rule : Ruled A) (next : A → Counted B) → ((a : A) → (next a).cost ≤ n) → (and_counted (free rule) next).cost ≤ n
free-cost n rule next h = next-cost n rule next h

module _ (tower : List Level) where
  then-cost : (n : ℕ) (more : List Element → Counted Traces) (traces : List Element) (power : ℕ) (p : Element) (number : Option Fraction) → ((l : List Element) → (more l).cost ≤ n) →
      (trace_then tower more traces power p number).cost ≤ n
  then-cost n more traces power p (Some number) h = h (traces ++ p ∷ [])
  then-cost n more traces power p None h = free-cost n (formed (derivative tower p)) (λ derived. free (judged tower power p derived)) (λ derived. omega arith)

  from-cost : (d rho : List Element) (steps : ℕ) (traces power : List Element) → (traces_from tower d rho steps traces power).cost ≤ steps
  from-cost d rho zero traces power = omega arith
  from-cost d rho (suc steps) traces power =
      let rest =
      free-cost steps (formed (next_power d rho power))
      (λ next. and_counted (free (formed (trace d next))) (λ p. trace_then tower (λ more. traces_from tower d rho steps more next) traces (length traces + 1) p (as_number 5 p)))
      (λ next. free-cost steps (formed (trace d next)) (λ p. trace_then tower (λ more. traces_from tower d rho steps more next) traces (length traces + 1) p (as_number 5 p))
      (λ p. then-cost steps (λ more. traces_from tower d rho steps more next) traces (length traces + 1) p (as_number 5 p) (λ more. from-cost d rho steps more next))) in
      omega (arith, rest)

  of-cost : (d rho : List Element) → (traces_of tower d rho).cost ≤ length d + 1
  of-cost d rho =
      let rest =
      free-cost (length d - 2) (formed (trace d rho)) (λ p. trace_then tower (λ more. traces_from tower d rho (length d - 2) more rho) [] 1 p (as_number 5 p))
      (λ p. then-cost (length d - 2) (λ more. traces_from tower d rho (length d - 2) more rho) [] 1 p (as_number 5 p) (λ more. from-cost d rho (length d - 2) more rho)) in
      omega (arith, rest)

  pub traces-cost : (level : ℕ) (h : Element) → (residue_traces tower level h).cost ≤ length (denominator_at level h) + 1
  unfolding residue_traces
  traces-cost level h =
      free-cost (length (denominator_at level h) + 1) (formed (residue tower level (numerator_at level h) (denominator_at level h))) (traces_of tower (denominator_at level h)) (of-cost (denominator_at level h))
