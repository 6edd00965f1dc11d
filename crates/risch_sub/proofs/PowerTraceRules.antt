-- The rule of the traces of the powers of u modulo a monic polynomial d over the elements: they are those of the algebra, and lead to no new variable.
--     power_traces-mean      the entry at i is the trace of u^(i + 1)
--     power_traces-count      there are as many as are asked for
--     power_traces-within      the variables that occur
use Rattle.std.proofs.Common.{◌≡◌, refl, sym, ap, ap₂, ◌∙◌, ℕ, zero, suc, ◌+◌, ◌-◌, ◌≤◌, ◌<◌, List, [], ◌∷◌, ◌++◌, map, take, length, get_or, Ok, arith, subst, below_more}
use Rattle.std.proofs.lemmas.List.{length-map, length-take-le, length_push, map-append, take_all, take_more, get_or_push, get_or_append_left}
use Rattle.risch_univariate.specs.Degree.{IsMonic}
use Rattle.risch_mean.specs.Element as mean
use Rattle.risch_mean.specs.ElementField.{elements}
use Rattle.risch_mean.specs.ElementPolynomials.{monic_polynomial, remainder_modulo, times_modulo, power_modulo, trace_modulo}
use Rattle.risch_mean.proofs.AlgebraLaws.{times_mod-one, times_mod_comm}
use Rattle.risch_field.specs.Checked.{and_then}
use Rattle.risch_field.proofs.CheckedSteps.{and_then-ok}
use Rattle.risch_polynomial.specs.Poly as poly
use Rattle.risch_level.specs.Levels.{Element, element}
use Rattle.risch_element_theory.specs.WholeTower.{IsPolynomial, meaning, polynomial, AllWithin}
use Rattle.risch_element_theory.proofs.CoefficientProperties as Properties
use Rattle.risch_element_theory.proofs.ElementPolynomials.{element_interprets, product-is_polynomial, product-stands}
use Rattle.risch_element_theory.proofs.GcdRule as GcdRule
use Rattle.risch_element_theory.proofs.PolynomialsWithin as PolynomialsWithin
use Rattle.risch_element_theory.proofs.PolynomialsWithin.{within-closed}
use Rattle.risch_trace.specs.Traces.{remainder, trace}
use Rattle.risch_sub.specs.PowerTraces.{next_power, further_traces, power_traces}
use Rattle.risch_sub.specs.PowerTracesMeaning.{ArePowerTraces}
use Rattle.risch_trace.proofs.Remainders as Remainders
use Rattle.risch_trace.proofs.TraceRules.{IsMonicWith, remainder-polynomial, remainder-means, trace-stands, remainder-within, trace-within}

-- ---- a monic polynomial, with its coefficients below the leading one
with_one : (r : List mean.Element) → r ++ mean.one ∷ [] ≡ monic_polynomial r
with_one [] = refl
with_one (c ∷ r) = ap (λ (l : List mean.Element). c ∷ l) (with_one r)

front_last : (d : List Element) → 1 ≤ length d → d ≡ poly.front element d ++ poly.last element d ∷ []
front_last d some =
    let whole : length d ≡ length d - 1 + 1 = omega arith in
    sym (take_all (length d) d (omega arith)) ∙ ap (λ (n : ℕ). take n d) whole ∙ take_more d (length d - 1) element.zero (omega arith)

pub is_monic_with : (d : List Element) → IsPolynomial d → IsMonic elements (polynomial d) → 2 ≤ length d → IsMonicWith d (map meaning (poly.front element d))
is_monic_with d k m large = record {
  kept = k;
  some = omega (arith, large, length-map (poly.front element d) meaning, length-take-le (length d - 1) d (omega arith));
  means =
      ap (map meaning) (front_last d (omega (arith, large))) ∙ map-append meaning (poly.front element d) (poly.last element d ∷ [])
      ∙ ap (λ (c : mean.Element). map meaning (poly.front element d) ++ c ∷ []) (sym (GcdRule.leading_coefficient-polynomial_of elements element_interprets d k) ∙ m)
      ∙ with_one (map meaning (poly.front element d));
}

-- ---- modulo d
module _ (d : List Element) (r : List mean.Element) (m : IsMonicWith d r) (u : List Element) (kept : IsPolynomial u) where
  -- ⟦p⟧ modulo d
  abbrev residue : List Element → List mean.Element
  residue p = remainder_modulo r (map meaning p)

  residue-length : (p : List Element) → length (residue p) ≡ length r
  residue-length p = Remainders.length-remainder elements r (map meaning p) m.some

  record IsNext (power next : List Element) : Type 0 where
    next_kept : IsPolynomial next
    is : residue next ≡ times_modulo r (residue u) (residue power)

  next_power-means : (power next : List Element) → IsPolynomial power → next_power d u power ≡ Ok next → IsNext power next
  unfolding next_power
  next_power-means power next k e =
      let s = and_then-ok (poly.product element power u) (λ p. remainder p d) next e in
      of_product s.value s.is s.next
    where
      of_product : (p : List Element) → poly.product element power u ≡ Ok p → remainder p d ≡ Ok next → IsNext power next
      of_product p e f =
          let rest = remainder-means d r m p next (product-is_polynomial power u p k kept e) f in
          record {
            next_kept = rest.kept;
            is =
                sym rest.means ∙ sym (remainder-polynomial r m.some p) ∙ ap (Remainders.remainder_of elements r m.some) (product-stands power u p k kept e)
                ∙ Remainders.remainder_of-mul elements r m.some (polynomial power) (polynomial u)
                ∙ ap₂ (times_modulo r) (remainder-polynomial r m.some power) (remainder-polynomial r m.some u)
                ∙ times_mod_comm elements.ring r (residue power) (residue u) (residue-length power) (residue-length u);
          }

  -- the traces of u, u², .. that are formed, and the power of the last
  abbrev AreTraces : List Element → Type 0
  AreTraces traces = (i : ℕ) → i < length traces → meaning (get_or traces i element.zero) ≡ trace_modulo r (power_modulo r (residue u) (suc i))

  record IsFormed (traces power : List Element) : Type 0 where
    power_kept : IsPolynomial power
    is : residue power ≡ power_modulo r (residue u) (length traces)
    are : AreTraces traces

  pushed : (traces : List Element) (p : Element) → AreTraces traces → meaning p ≡ trace_modulo r (power_modulo r (residue u) (suc (length traces))) → AreTraces (traces ++ p ∷ [])
  pushed traces p are is i below =
      below_more (λ (i : ℕ). meaning (get_or (traces ++ p ∷ []) i element.zero) ≡ trace_modulo r (power_modulo r (residue u) (suc i))) (length traces)
      (λ i h. ap meaning (get_or_append_left traces (p ∷ []) element.zero i h) ∙ are i h)
      (ap meaning (get_or_push traces p element.zero (length traces) refl) ∙ is)
      i (omega (arith, below, length_push traces p))

  formed-next : (traces power next : List Element) (p : Element) → IsFormed traces power → next_power d u power ≡ Ok next → trace d next ≡ Ok p → IsFormed (traces ++ p ∷ []) next
  formed-next traces power next p h e f =
      let x = next_power-means power next h.power_kept e in
      let power_is : residue next ≡ power_modulo r (residue u) (suc (length traces)) = x.is ∙ ap (times_modulo r (residue u)) h.is in
      let more : suc (length traces) ≡ length (traces ++ p ∷ []) = omega (arith, length_push traces p) in
      record {
        power_kept = x.next_kept;
        is = power_is ∙ ap (power_modulo r (residue u)) more;
        are = pushed traces p h.are (trace-stands d r m next p x.next_kept f ∙ ap (trace_modulo r) power_is);
      }

  further_traces-mean : (steps : ℕ) (traces result power : List Element) → IsFormed traces power → further_traces d u steps traces power ≡ Ok result → AreTraces result
  further_traces-mean zero traces result power h e = let same : traces ≡ result = cc in subst AreTraces same h.are
  further_traces-mean (suc steps) traces result power h e =
      let first = and_then-ok (next_power d u power) (λ next. and_then (trace d next) (λ p. further_traces d u steps (traces ++ p ∷ []) next)) result e in
      let second = and_then-ok (trace d first.value) (λ p. further_traces d u steps (traces ++ p ∷ []) first.value) result first.next in
      further_traces-mean steps (traces ++ second.value ∷ []) result first.value (formed-next traces power first.value second.value h first.is second.is) second.next

  -- u itself
  first-formed : (p : Element) → trace d u ≡ Ok p → IsFormed (p ∷ []) u
  first-formed p e =
      let one : residue u ≡ power_modulo r (residue u) 1 = sym (times_mod-one elements.ring r (residue u) (residue-length u)) in
      record {
        power_kept = kept;
        is = one;
        are = pushed [] p (λ i h. absurd (omega (arith, h))) (trace-stands d r m u p kept e ∙ ap (trace_modulo r) one);
      }

  traces-mean : (n : ℕ) (result : List Element) → power_traces d u n ≡ Ok result → AreTraces result
  traces-mean zero result e = let same : [] ≡ result = cc in subst AreTraces same (λ i h. absurd (omega (arith, h)))
  traces-mean (suc steps) result e =
      let first = and_then-ok (trace d u) (λ p. further_traces d u steps (p ∷ []) u) result e in
      further_traces-mean steps (first.value ∷ []) result u (first-formed first.value first.is) first.next

pub power_traces-mean : (d u : List Element) (n : ℕ) (result : List Element) → IsPolynomial d → IsMonic elements (polynomial d) → 2 ≤ length d → IsPolynomial u →
    power_traces d u n ≡ Ok result → ArePowerTraces d u result
power_traces-mean d u n result k m large l e =
    let monic = is_monic_with d k m large in
    record { below = map meaning (poly.front element d); modulus = monic.means; are = traces-mean d (map meaning (poly.front element d)) monic u l n result e }

-- ---- how many there are
further_traces-count : (d u : List Element) (steps : ℕ) (traces result power : List Element) → further_traces d u steps traces power ≡ Ok result → length result ≡ length traces + steps
further_traces-count d u zero traces result power e = let same : result ≡ traces = cc in ap length same ∙ omega arith
further_traces-count d u (suc steps) traces result power e =
    let first = and_then-ok (next_power d u power) (λ next. and_then (trace d next) (λ p. further_traces d u steps (traces ++ p ∷ []) next)) result e in
    let second = and_then-ok (trace d first.value) (λ p. further_traces d u steps (traces ++ p ∷ []) first.value) result first.next in
    let rest = further_traces-count d u steps (traces ++ second.value ∷ []) result first.value second.next in
    omega (arith, rest, length_push traces second.value)

pub power_traces-count : (d u : List Element) (n : ℕ) (result : List Element) → power_traces d u n ≡ Ok result → length result ≡ n
power_traces-count d u zero result e = let same : result ≡ [] = cc in ap length same
power_traces-count d u (suc steps) result e =
    let first = and_then-ok (trace d u) (λ p. further_traces d u steps (p ∷ []) u) result e in
    let count = further_traces-count d u steps (first.value ∷ []) result u first.next in
    omega (arith, count)

-- ---- the variables that occur
module _ (n : ℕ) (d u : List Element) (all_d : AllWithin n d) (all_u : AllWithin n u) where
  next_power-within : (power next : List Element) → AllWithin n power → next_power d u power ≡ Ok next → AllWithin n next
  unfolding next_power
  next_power-within power next all e =
      let s = and_then-ok (poly.product element power u) (λ p. remainder p d) next e in
      remainder-within n d s.value next (PolynomialsWithin.product-within n power u s.value all all_u s.is) all_d s.next

  further_traces-within : (steps : ℕ) (traces result power : List Element) → AllWithin n traces → AllWithin n power → further_traces d u steps traces power ≡ Ok result → AllWithin n result
  further_traces-within zero traces result power all all_power e = let same : traces ≡ result = cc in subst (AllWithin n) same all
  further_traces-within (suc steps) traces result power all all_power e =
      let first = and_then-ok (next_power d u power) (λ next. and_then (trace d next) (λ p. further_traces d u steps (traces ++ p ∷ []) next)) result e in
      let second = and_then-ok (trace d first.value) (λ p. further_traces d u steps (traces ++ p ∷ []) first.value) result first.next in
      let all_next = next_power-within power first.value all_power first.is in
      further_traces-within steps (traces ++ second.value ∷ []) result first.value
      (Properties.push-keeps (within-closed n) traces second.value all (trace-within n d first.value second.value all_d all_next second.is)) all_next second.next

  pub power_traces-within : (power : ℕ) (result : List Element) → power_traces d u power ≡ Ok result → AllWithin n result
  power_traces-within zero result e = let same : [] ≡ result = cc in subst (AllWithin n) same tt
  power_traces-within (suc steps) result e =
      let first = and_then-ok (trace d u) (λ p. further_traces d u steps (p ∷ []) u) result e in
      further_traces-within steps (first.value ∷ []) result u (trace-within n d u first.value all_d all_u first.is, tt) all_u first.next
