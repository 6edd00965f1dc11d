-- The square-free parts p_1, p_2, .. of a monic p = p_1·p_2²·p_3³·.., in the order in which the values are formed: c = gcd(p, ∂p) and w = p quo c; then, while w is not 1, y = gcd(w, c), the next part is
-- w quo y, w becomes y, and c becomes c quo y.
use Rattle.std.specs.Prelude.{ℕ, zero, suc, if◌then◌else◌, List, [], ◌∷◌, ◌++◌, length, Ok}
use Rattle.risch_field.specs.Checked.{Checked, and_then}
use Rattle.risch_polynomial.specs.Poly as poly
use Rattle.risch_level.specs.Levels.{Element, element}

-- the parts so far, and those that follow from w and c on, as many as `steps` at most
abbrev pub parts_from : ℕ → List (List Element) → List Element → List Element → Checked (List (List Element))
parts_from zero parts w c = Ok parts
parts_from (suc steps) parts w c =
    if poly.is_one element w then Ok parts else
    and_then (poly.gcd element w c) (λ y.
    and_then (poly.quo element w y) (λ part.
    and_then (poly.quo element c y) (λ rest.
    parts_from steps (parts ++ part ∷ []) y rest)))

-- the parts of p; there are at most deg p of them
unfoldable pub square_free_parts : List Element → Checked (List (List Element))
square_free_parts p =
    and_then (poly.partial element p) (λ derivative.
    and_then (poly.gcd element p derivative) (λ c.
    and_then (poly.quo element p c) (λ w.
    parts_from (length p) [] w c)))
