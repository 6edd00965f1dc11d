-- The powers of ρ modulo d and their traces: they are polynomials and elements, and lead to no new variable.
use Rattle.std.proofs.Common.{◌≡◌, ℕ, ◌≤◌, List, [], ◌∷◌, Ok}
use Rattle.risch_mean.specs.Element as mean
use Rattle.risch_field.proofs.CheckedSteps.{and_then-ok}
use Rattle.risch_polynomial.specs.Poly as poly
use Rattle.risch_level.specs.Levels.{Element, element}
use Rattle.risch_element_theory.specs.WholeTower.{IsPolynomial, AllWithin}
use Rattle.risch_element_theory.proofs.ElementPolynomials.{product-is_polynomial}
use Rattle.risch_element_theory.proofs.ElementWithin.{more-element-within}
use Rattle.risch_element_theory.proofs.PolynomialsWithin as PolynomialsWithin
use Rattle.risch_trace.specs.Traces.{remainder}
use Rattle.risch_trace.proofs.TraceRules.{IsMonicWith, remainder-means, remainder-within}
use Rattle.risch_sub.specs.PowerTraces.{next_power}

pub more-all-within : (n m : ℕ) → n ≤ m → (p : List Element) → AllWithin n p → AllWithin m p
more-all-within n m small [] all = tt
more-all-within n m small (c ∷ p) all = (more-element-within n m small c all.0, more-all-within n m small p all.1)

pub next_power-within : (n : ℕ) (d u power next : List Element) → AllWithin n d → AllWithin n u → AllWithin n power → next_power d u power ≡ Ok next → AllWithin n next
unfolding next_power
next_power-within n d u power next all_d all_u all e =
    let s = and_then-ok (poly.product element power u) (λ p. remainder p d) next e in
    remainder-within n d s.value next (PolynomialsWithin.product-within n power u s.value all all_u s.is) all_d s.next

pub next_power-is_polynomial : (d : List Element) (r : List mean.Element) → IsMonicWith d r → (u power next : List Element) → IsPolynomial u → IsPolynomial power → next_power d u power ≡ Ok next → IsPolynomial next
unfolding next_power
next_power-is_polynomial d r m u power next kept_u kept e =
    let s = and_then-ok (poly.product element power u) (λ p. remainder p d) next e in
    (remainder-means d r m s.value next (product-is_polynomial power u s.value kept kept_u s.is) s.next).kept
