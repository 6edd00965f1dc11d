-- What the rule of the traces gives: the traces of all powers where they are fractions, or the first that is none.
--     traces_of-told
use Rattle.std.specs.Prelude.{if◌then◌else◌, get_or}
use Rattle.std.proofs.Common.{◌≡◌, ℕ, zero, suc, ◌+◌, ◌-◌, ◌≤◌, ◌<◌, Bool, true, false, List, [], ◌∷◌, ◌++◌, length, Option, None, Some, Ok, Err, refl, sym, ◌∙◌, ap, subst, arith}
use Rattle.std.proofs.lemmas.List.{length_push}
use Rattle.risch_mean.specs.Element as mean
use Rattle.risch_mean.specs.Constants.{IsRational}
use Rattle.risch_frac.specs.Fraction.{Fraction}
use Rattle.risch_field.specs.Checked.{Checked}
use Rattle.risch_field.specs.declared.Fail.{Fail}
use Rattle.risch_field.specs.declared.Fail.TheVariants.{Overflow, Size, Memory}
use Rattle.risch_level.specs.Accessors.{as_number}
use Rattle.risch_level.specs.Levels.{Element, element}
use Rattle.risch_element_theory.specs.WholeTower.{IsElement, IsPolynomial, meaning, Within, AllWithin}
use Rattle.risch_elem.specs.declared.units.Stop.TheVariants.{NotSound}
use Rattle.risch_run.specs.Ruled.{Ruled, formed, stop_of, IfStopNotSound}
use Rattle.risch_run.specs.Counted.{free, and_counted}
use Rattle.risch_tower.specs.declared.level.Level.{Level}
use Rattle.risch_tower.specs.Tower.{derivative}
use Rattle.risch_trace.specs.Traces.{trace}
use Rattle.risch_trace.proofs.TraceRules.{IsMonicWith, trace-is_element, trace-within}
use Rattle.risch_sub.specs.PowerTraces.{next_power, further_traces, power_traces}
use Rattle.risch_residue_traces.specs.declared.traces.Traces.{Traces}
use Rattle.risch_residue_traces.specs.declared.traces.Traces.TheVariants.{Constant, NotConstant}
use Rattle.risch_residue_traces.specs.ResidueTraces.{judged, trace_then, traces_from, traces_of}
use Rattle.risch_residue_traces.proofs.FormedPowers.{next_power-within, next_power-is_polynomial}
use Rattle.risch_residue_traces.proofs.Rationals.{number-within, number-rational}

-- ---- lists of fractions
abbrev pub IsFraction : Element → Type 0
IsFraction p = Within 0 p × IsRational (meaning p)

abbrev pub AllFractions : List Element → Type 0
AllFractions [] = Unit {0}
AllFractions (p ∷ traces) = IsFraction p × AllFractions traces

fractions-push : (traces : List Element) (p : Element) → AllFractions traces → IsFraction p → AllFractions (traces ++ p ∷ [])
fractions-push [] p all is = (is, tt)
fractions-push (q ∷ traces) p all is = (all.0, fractions-push traces p all.1 is)

pub fractions-within : (traces : List Element) → AllFractions traces → AllWithin 0 traces
fractions-within [] all = tt
fractions-within (p ∷ traces) all = (all.0.0, fractions-within traces all.1)

pub fractions-rational : (traces : List Element) (i : ℕ) → AllFractions traces → i < length traces → IsRational (meaning (get_or traces i element.zero))
fractions-rational [] i all below = absurd (omega arith)
fractions-rational (p ∷ traces) zero all below = all.0.1
fractions-rational (p ∷ traces) (suc i) all below = fractions-rational traces i all.1 (omega (arith, below))

-- p is an element below the level, and no fraction
pub record IsNoFraction (level : ℕ) (p : Element) : Type 0 where
  pub is_element : IsElement p
  pub within : Within level p
  pub none : as_number 5 p ≡ None

module _ (tower : List Level) (level : ℕ) (d : List Element) (r : List mean.Element) (m : IsMonicWith d r) (rho : List Element) (kept : IsPolynomial rho) (all_d : AllWithin level d) (all_rho : AllWithin level rho) where
  -- the trace of ρ^k is p, which is no fraction, and those of the lower powers are
  pub record IsFirst (k : ℕ) (p : Element) : Type 0 where
    pub lower : List Element
    pub formed_lower : power_traces d rho k ≡ Ok (lower ++ p ∷ [])
    pub count : k ≡ length lower + 1
    pub fractions : AllFractions lower
    pub no_fraction : IsNoFraction level p

  -- all traces of ρ, .., ρ^n, or the first that is no fraction; a stop NotSound tells one
  abbrev pub Told : ℕ → Ruled Traces → Type 0
  Told n (Ok (Constant traces)) = (power_traces d rho n ≡ Ok traces) × AllFractions traces
  Told n (Ok (NotConstant k p)) = IsFirst k p
  Told n (Err stop) = IfStopNotSound stop (IsNoFraction level)

  told-stop : (n : ℕ) (fail : Fail) → Told n (Err (stop_of fail))
  told-stop n (Overflow op) = tt
  told-stop n Size = tt
  told-stop n Memory = tt

  -- ---- the judgement of a trace
  told-judged : (n k : ℕ) (p derived : Element) → IsFirst k p → Told n (judged tower k p derived)
  told-judged n k p derived h = by_test (element.is_zero derived)
    where
      by_test : (z : Bool) → Told n (if z then Err (NotSound p) else Ok (NotConstant k p))
      by_test true = h.no_fraction
      by_test false = h

  told-none : (n k : ℕ) (p : Element) (x : Checked Element) → IsFirst k p → Told n (and_counted (free (formed x)) (λ derived. free (judged tower k p derived))).result
  told-none n k p (Ok derived) h = told-judged n k p derived h
  told-none n k p (Err fail) h = told-stop n fail

  -- ---- the powers so far
  record IsSoFar (traces power : List Element) : Type 0 where
    power_kept : IsPolynomial power
    power_within : AllWithin level power
    as_rule : (steps : ℕ) → power_traces d rho (length traces + steps) ≡ further_traces d rho steps traces power
    all_fractions : AllFractions traces

  first-so_far : (p : Element) → trace d rho ≡ Ok p → IsFraction p → IsSoFar (p ∷ []) rho
  first-so_far p e is = record {
    power_kept = kept;
    power_within = all_rho;
    as_rule = λ steps. let more : length (p ∷ []) + steps ≡ suc steps = omega arith in ap (power_traces d rho) more ∙ rw e refl;
    all_fractions = (is, tt);
  }

  module _ (traces power next : List Element) (p : Element) (h : IsSoFar traces power) (e : next_power d rho power ≡ Ok next) (f : trace d next ≡ Ok p) where
    further-one : (steps : ℕ) → power_traces d rho (length (traces ++ p ∷ []) + steps) ≡ further_traces d rho steps (traces ++ p ∷ []) next
    further-one steps =
        let more : length (traces ++ p ∷ []) + steps ≡ length traces + suc steps = omega (arith, length_push traces p) in
        ap (power_traces d rho) more ∙ h.as_rule (suc steps) ∙ rw (e, f) refl

    next_kept : IsPolynomial next
    next_kept = next_power-is_polynomial d r m rho power next kept h.power_kept e

    next_within : AllWithin level next
    next_within = next_power-within level d rho power next all_d all_rho h.power_within e

    next-so_far : IsFraction p → IsSoFar (traces ++ p ∷ []) next
    next-so_far is = record {
      power_kept = next_kept;
      power_within = next_within;
      as_rule = further-one;
      all_fractions = fractions-push traces p h.all_fractions is;
    }

    next-first : as_number 5 p ≡ None → IsFirst (length traces + 1) p
    next-first none = record {
      lower = traces;
      formed_lower = let one : length (traces ++ p ∷ []) + 0 ≡ length traces + 1 = omega (arith, length_push traces p) in ap (power_traces d rho) (sym one) ∙ further-one 0;
      count = refl;
      fractions = h.all_fractions;
      no_fraction = record { is_element = trace-is_element d r m next p next_kept f; within = trace-within level d next p all_d next_within f; none = none };
    }

    fraction-of : (q : Fraction) → as_number 5 p ≡ Some q → IsFraction p
    fraction-of q there = (number-within p q there, number-rational p q (trace-is_element d r m next p next_kept f) there)

  traces_from-told : (steps : ℕ) (traces power : List Element) → IsSoFar traces power → Told (length traces + steps) (traces_from tower d rho steps traces power).result
  traces_from-told zero traces power h = (h.as_rule zero, h.all_fractions)
  traces_from-told (suc steps) traces power h = by_next (traces_from-told steps) (next_power d rho power) refl
    where
      by_number : ((more next : List Element) → IsSoFar more next → Told (length more + steps) (traces_from tower d rho steps more next).result) →
          (next : List Element) → next_power d rho power ≡ Ok next → (p : Element) → trace d next ≡ Ok p → (q : Option Fraction) → as_number 5 p ≡ q →
          Told (length traces + suc steps) (trace_then tower (λ more. traces_from tower d rho steps more next) traces (length traces + 1) p q).result
      by_number rest next e p f (Some q) there =
          let count : length (traces ++ p ∷ []) + steps ≡ length traces + suc steps = omega (arith, length_push traces p) in
          subst (λ (n : ℕ). Told n (traces_from tower d rho steps (traces ++ p ∷ []) next).result) count
          (rest (traces ++ p ∷ []) next (next-so_far traces power next p h e f (fraction-of traces power next p h e f q there)))
      by_number rest next e p f None none = told-none (length traces + suc steps) (length traces + 1) p (derivative tower p) (next-first traces power next p h e f none)

      by_trace : ((more next : List Element) → IsSoFar more next → Told (length more + steps) (traces_from tower d rho steps more next).result) →
          (next : List Element) → next_power d rho power ≡ Ok next → (x : Checked Element) → trace d next ≡ x →
          Told (length traces + suc steps) (and_counted (free (formed x)) (λ p. trace_then tower (λ more. traces_from tower d rho steps more next) traces (length traces + 1) p (as_number 5 p))).result
      by_trace rest next e (Ok p) f = by_number rest next e p f (as_number 5 p) refl
      by_trace rest next e (Err fail) f = told-stop (length traces + suc steps) fail

      by_next : ((more next : List Element) → IsSoFar more next → Told (length more + steps) (traces_from tower d rho steps more next).result) →
          (x : Checked (List Element)) → next_power d rho power ≡ x →
          Told (length traces + suc steps) (and_counted (free (formed x)) (λ next. and_counted (free (formed (trace d next))) (λ p. trace_then tower (λ more. traces_from tower d rho steps more next) traces (length traces + 1) p (as_number 5 p)))).result
      by_next rest (Ok next) e = by_trace rest next e (trace d next) refl
      by_next rest (Err fail) e = told-stop (length traces + suc steps) fail

  -- ---- all powers
  pub traces_of-told : 2 ≤ length d → Told (length d - 1) (traces_of tower d rho).result
  traces_of-told large = by_trace (trace d rho) refl
    where
      by_number : (p : Element) → trace d rho ≡ Ok p → (q : Option Fraction) → as_number 5 p ≡ q →
          Told (length d - 1) (trace_then tower (λ more. traces_from tower d rho (length d - 2) more rho) [] 1 p q).result
      by_number p e (Some q) there =
          let is : IsFraction p = (number-within p q there, number-rational p q (trace-is_element d r m rho p kept e) there) in
          let count : length (p ∷ []) + (length d - 2) ≡ length d - 1 = omega (arith, large) in
          subst (λ (n : ℕ). Told n (traces_from tower d rho (length d - 2) (p ∷ []) rho).result) count
          (traces_from-told (length d - 2) (p ∷ []) rho (first-so_far p e is))
      by_number p e None none =
          told-none (length d - 1) 1 p (derivative tower p) (record {
            lower = [];
            formed_lower = rw e refl;
            count = refl;
            fractions = tt;
            no_fraction = record { is_element = trace-is_element d r m rho p kept e; within = trace-within level d rho p all_d all_rho e; none = none };
          })

      by_trace : (x : Checked Element) → trace d rho ≡ x → Told (length d - 1) (and_counted (free (formed x)) (λ p. trace_then tower (λ more. traces_from tower d rho (length d - 2) more rho) [] 1 p (as_number 5 p))).result
      by_trace (Ok p) e = by_number p e (as_number 5 p) refl
      by_trace (Err fail) e = told-stop (length d - 1) fail
