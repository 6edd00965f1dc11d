-- Hermite reduction of an element a/n of a level with the variable t (Bronstein, section 5.3, the linear version of Mack), in the order in which the values are formed.
-- For the square-free parts n = n_1·n_2²·n_3³·.. it begins with g = 0 and w = n. For each part v = n_i other than 1, from n_2 on, u = w quo v^i; then for j from i - 1 down to 1, b and c with b·(u·Dv) + c·v = -a/j are formed,
-- b/v^j is added to g, and a becomes -(j·c) - u·Db; then w becomes u·v. At the end a = q·w + r, h = r/w, and a/n = Dg + h + q.
use Rattle.std.specs.Prelude.{ℕ, zero, suc, ◌-◌, if◌then◌else◌, Option, None, Some, List, [], ◌∷◌, drop, pos, negsuc, Ok}
use Rattle.risch_frac.specs.Fraction as fraction
use Rattle.risch_field.specs.Checked.{Checked, and_then}
use Rattle.risch_polynomial.specs.Poly as poly
use Rattle.risch_polynomial.specs.Modular as modular
use Rattle.risch_level.specs.Accessors.{number}
use Rattle.risch_level.specs.Levels.{Element, element}
use Rattle.risch_level.specs.Parts.{levels}
use Rattle.risch_derivation.specs.Derivation.{derive_polynomial}
use Rattle.risch_tower.specs.declared.level.Level.{Level}
use Rattle.risch_tower.specs.Tower.{derivative, rate_at}
use Rattle.risch_monomial.specs.LevelElements.{of_polynomial, ratio, numerator_at, denominator_at}
use Rattle.risch_run.specs.Ruled.{formed}
use Rattle.risch_run.specs.Counted.{Counted, free, and_counted, one_unit}
use Rattle.risch_sub.specs.SquareFree.{square_free_parts}
use Rattle.risch_hermite.specs.declared.partial.Partial.{Partial}
use Rattle.risch_hermite.specs.declared.reduction.Hermite.{Hermite}

-- -1/j
abbrev pub negative_inverse : ℕ → Element
negative_inverse j = number 5 (fraction.quotient (negsuc 0) (pos j))

-- p^n·p, .. : the product q with n factors p more, each on the right
abbrev pub power_from : ℕ → List Element → List Element → Checked (List Element)
power_from zero q p = Ok q
power_from (suc n) q p = and_then (poly.product element q p) (λ r. power_from n r p)

-- p^n for n ≥ 1; p^0, for which no rule asks, is p here
abbrev pub power : List Element → ℕ → Checked (List Element)
power p zero = Ok p
power p (suc n) = power_from n p p

-- w quo v^i
unfoldable pub cofactor : List Element → ℕ → List Element → Checked (List Element)
cofactor v i w = and_then (power v i) (λ p. poly.quo element w p)

-- g + b/v^j
unfoldable pub next_sum : ℕ → List Element → ℕ → Element → List Element → Checked Element
next_sum level v j g b = and_then (power v j) (λ p. and_then (ratio level b p) (λ piece. element.sum g piece))

-- the numerator of f and 0, and the denominator of f
abbrev pub start : ℕ → Element → Partial × List Element
start level f = (record { sum = element.zero; numerator = numerator_at level f }, denominator_at level f)

-- g, r/w and q for the quotient q and the remainder r
abbrev pub with_division : ℕ → Partial → List Element → List Element × List Element → Checked Hermite
with_division level partial w d =
    and_then ((levels 5).quotient (4 - level) d.1 w) (λ h.
    and_then (of_polynomial level d.0) (λ rest.
    Ok (record { g = partial.sum; h = h; rest = rest })))

-- g, r/w and q for a = q·w + r
unfoldable pub finished : ℕ → Partial × List Element → Checked Hermite
finished level last = and_then (poly.division element last.0.numerator last.1) (with_division level last.0 last.1)

module _ (tower : List Level) (level : ℕ) where
  -- ---- one step
  -- u·Dp
  unfoldable pub multiple_of_derivative : List Element → List Element → Checked (List Element)
  multiple_of_derivative u p = and_then (derive_polynomial element (derivative tower) (rate_at tower level) p) (λ d. poly.product element u d)

  -- -(j·c) - u·Db
  unfoldable pub next_numerator : List Element → ℕ → List Element → List Element → Checked (List Element)
  next_numerator u j b c =
      and_then (poly.scaled element (element.whole j) c) (λ left.
      and_then (multiple_of_derivative u b) (λ right.
      poly.sum element (poly.negatives element left) (poly.negatives element right)))

  -- b and c with b·(u·Dv) + c·v = -a/j
  unfoldable pub solution : List Element → List Element → ℕ → List Element → Checked (Option (List Element × List Element))
  solution u v j a =
      and_then (multiple_of_derivative u v) (λ m.
      and_then (poly.scaled element (negative_inverse j) a) (λ right.
      modular.solve element v m right))

  -- the sum and the numerator for these b and c. The part v and u·Dv are coprime, so that there are such; what stands for none only makes the definition whole
  abbrev pub step_by : List Element → List Element → ℕ → Partial → Option (List Element × List Element) → Checked Partial
  step_by u v j partial None = Ok partial
  step_by u v j partial (Some solution) =
      and_then (next_sum level v j partial.sum solution.0) (λ sum.
      and_then (next_numerator u j solution.0 solution.1) (λ numerator.
      Ok (record { sum = sum; numerator = numerator })))

  unfoldable pub step : List Element → List Element → ℕ → Partial → Checked Partial
  step u v j partial = and_then (solution u v j partial.numerator) (step_by u v j partial)

  -- ---- all steps, each of which costs one unit before anything of it is formed
  -- the steps for j from this number down to 1
  abbrev pub steps : List Element → List Element → ℕ → Partial → Counted Partial
  steps u v zero partial = free (Ok partial)
  steps u v (suc j) partial = and_counted one_unit (λ _. and_counted (free (formed (step u v (suc j) partial))) (steps u v j))

  -- the steps of the part v with the cofactor u, and the denominator u·v
  abbrev pub with_cofactor : List Element → List Element → ℕ → Partial → Counted (Partial × List Element)
  with_cofactor u v count before =
      and_counted (steps u v count before) (λ partial.
      and_counted (free (formed (poly.product element u v))) (λ w.
      free (Ok (partial, w))))

  -- the steps of the part v of exponent i, and u·v in the place of w = u·v^i; a part 1 is passed over
  abbrev pub with_part : ℕ → List Element → Partial × List Element → Counted (Partial × List Element)
  with_part i v before =
      if poly.is_one element v then free (Ok before) else
      and_counted (free (formed (cofactor v i before.1))) (λ u. with_cofactor u v (i - 1) before.0)

  -- the parts of the exponents i, i + 1, ..
  abbrev pub with_parts : ℕ → List (List Element) → Partial × List Element → Counted (Partial × List Element)
  with_parts i [] before = free (Ok before)
  with_parts i (v ∷ parts) before = and_counted (with_part i v before) (with_parts (suc i) parts)

  -- the Hermite reduction of f
  unfoldable pub hermite : Element → Counted Hermite
  hermite f =
      and_counted (free (formed (square_free_parts (denominator_at level f)))) (λ parts.
      and_counted (with_parts 2 (drop 1 parts) (start level f)) (λ last.
      free (formed (finished level last))))
