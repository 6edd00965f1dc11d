-- The characteristic polynomial of ρ from the traces p_1 .. p_m of its powers, by Newton's identities (Bronstein, section 5.6), in the order in which the values are formed: e_0 = 1, e_i = (1/i)·(e_(i-1)·p_1 - e_(i-2)·p_2 + ..), and
-- C = z^m - e_1·z^(m-1) + e_2·z^(m-2) - ..
use Rattle.std.specs.Prelude.{ℕ, zero, suc, Bool, false, not, List, [], ◌∷◌, ◌++◌, length, reverse, pos, Ok}
use Rattle.risch_frac.specs.Fraction as fraction
use Rattle.risch_field.specs.Checked.{Checked, and_then}
use Rattle.risch_polynomial.specs.Poly as poly
use Rattle.risch_level.specs.Accessors.{number}
use Rattle.risch_level.specs.Levels.{Element, element}

-- 1/i
abbrev pub inverse_of : ℕ → Element
inverse_of i = number 5 (fraction.quotient (pos 1) (pos i))

-- the total, to which e_(i-j)·p_j, -e_(i-j-1)·p_(j+1), .. are added; the e_(i-j), e_(i-j-1), .. and the p_j, p_(j+1), .. are given in this order
abbrev pub alternating_sum : Bool → Element → List Element → List Element → Checked Element
alternating_sum minus total [] ps = Ok total
alternating_sum minus total (e ∷ es) [] = Ok total
alternating_sum minus total (e ∷ es) (p ∷ ps) =
    and_then (element.product (poly.signed element minus e) p) (λ m.
    and_then (element.sum total m) (λ s.
    alternating_sum (not minus) s es ps))

-- e_i, from e_0 .. e_(i-1)
unfoldable pub next_symmetric : List Element → List Element → Checked Element
next_symmetric es ps = and_then (alternating_sum false element.zero (reverse es) ps) (λ s. element.product (inverse_of (length es)) s)

-- as many further ones as `steps`
abbrev pub symmetrics_from : ℕ → List Element → List Element → Checked (List Element)
symmetrics_from zero es ps = Ok es
symmetrics_from (suc steps) es ps = and_then (next_symmetric es ps) (λ e. symmetrics_from steps (es ++ e ∷ []) ps)

-- e_0, -e_1, e_2, ..
abbrev pub alternating : Bool → List Element → List Element
alternating minus [] = []
alternating minus (e ∷ es) = poly.signed element minus e ∷ alternating (not minus) es

-- C, for the traces p_1 .. p_m
unfoldable pub characteristic_polynomial : List Element → Checked (List Element)
characteristic_polynomial ps = and_then (symmetrics_from (length ps) (element.one ∷ []) ps) (λ es. poly.sized element (poly.trimmed element (reverse (alternating false es))))
