-- The traces of the powers u, u², .. in the algebra modulo a monic polynomial d over the elements, in the order in which the values are formed: the trace of u; then, for each further power, u^(i+1) = (u^i·u) rem d and its trace.
use Rattle.std.specs.Prelude.{ℕ, zero, suc, List, [], ◌∷◌, ◌++◌, Ok}
use Rattle.risch_field.specs.Checked.{Checked, and_then}
use Rattle.risch_polynomial.specs.Poly as poly
use Rattle.risch_level.specs.Levels.{Element, element}
use Rattle.risch_trace.specs.Traces.{remainder, trace}

-- (u^i·u) rem d, for u^i
unfoldable pub next_power : List Element → List Element → List Element → Checked (List Element)
next_power d u power = and_then (poly.product element power u) (λ m. remainder m d)

-- the traces so far, the last of them that of `power`, and those of the powers that follow, as many as `steps`
abbrev pub further_traces : List Element → List Element → ℕ → List Element → List Element → Checked (List Element)
further_traces d u zero traces power = Ok traces
further_traces d u (suc steps) traces power =
    and_then (next_power d u power) (λ next.
    and_then (trace d next) (λ p.
    further_traces d u steps (traces ++ p ∷ []) next))

-- the traces of u, .., u^n
abbrev pub power_traces : List Element → List Element → ℕ → Checked (List Element)
power_traces d u zero = Ok []
power_traces d u (suc steps) = and_then (trace d u) (λ p. further_traces d u steps (p ∷ []) u)
