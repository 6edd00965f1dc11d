-- The trace in the algebra modulo a monic polynomial d over the elements, in the order in which its values are formed: the sum over i < deg d of the coefficient at i of (t^i·u) rem d.
use Rattle.std.specs.Prelude.{ℕ, zero, suc, ◌+◌, ◌-◌, nat_le, if◌then◌else◌, List, [], ◌++◌, length, replicate, Ok, Err}
use Rattle.risch_field.specs.Checked.{Checked, and_then}
use Rattle.risch_field.specs.declared.Fail.TheVariants.{Size}
use Rattle.risch_polynomial.specs.Poly as poly
use Rattle.risch_level.specs.Levels.{Element, element}

-- t^i·p; its degree is tested, and nothing is formed
unfoldable pub raised : ℕ → List Element → Checked (List Element)
raised i p =
    if poly.is_zero element p then Ok [] else
    if nat_le (i + length p) 256 then Ok (replicate i element.zero ++ p) else Err Size

-- p rem d
unfoldable pub remainder : List Element → List Element → Checked (List Element)
remainder p d = and_then (poly.division element p d) (λ x. Ok x.1)

-- the coefficient at i of (t^i·u) rem d
unfoldable pub diagonal : List Element → List Element → ℕ → Checked Element
diagonal d u i =
    and_then (raised i u) (λ p.
    and_then (remainder p d) (λ r.
    Ok (poly.coefficient element r i)))

-- the total, to which those at i, i + 1, .. are added, as many as `steps`
abbrev pub trace_from : List Element → List Element → Element → ℕ → ℕ → Checked Element
trace_from d u total i zero = Ok total
trace_from d u total i (suc steps) =
    and_then (diagonal d u i) (λ c.
    and_then (element.sum total c) (λ s.
    trace_from d u s (i + 1) steps))

-- the trace of u
unfoldable pub trace : List Element → List Element → Checked Element
trace d u = trace_from d u element.zero 0 (length d - 1)
