-- The splitting factorization of a monic polynomial d in the variable t of a level into its normal and its special part (Bronstein, section 3.5), in the order in which the values are formed.
use Rattle.std.specs.Prelude.{ℕ, zero, suc, ◌-◌, if◌then◌else◌, Option, None, Some, List, [], ◌∷◌, length, drop, Ok, Err}
use Rattle.risch_field.specs.Checked.{Checked, and_then, map_ok}
use Rattle.risch_polynomial.specs.Poly as poly
use Rattle.risch_level.specs.Levels.{Element, element}
use Rattle.risch_derivation.specs.Derivation.{derive_polynomial}
use Rattle.risch_derivation.specs.declared.rate.Kind.{Kind}
use Rattle.risch_derivation.specs.declared.rate.Kind.TheVariants.{Primitive, Exponential}
use Rattle.risch_elem.specs.declared.units.Stop.TheVariants.{NotSound}
use Rattle.risch_tower.specs.declared.level.Level.{Level}
use Rattle.risch_tower.specs.Tower.{derivative, rate_at}
use Rattle.risch_monomial.specs.LevelElements.{one, of_polynomial}
use Rattle.risch_run.specs.Ruled.{Ruled, formed, and_ruled}
use Rattle.risch_split.specs.declared.splitting.Split.{Split}

-- ---- the parts
-- gcd(d, ∂d)
abbrev pub gcd_with_partial : List Element → Checked (List Element)
gcd_with_partial d = and_then (poly.partial element d) (λ p. poly.gcd element d p)

-- S·s for the special part s of d quo S, with its normal part
abbrev pub with_factor : List Element → Split → Checked Split
with_factor s split = and_then (poly.product element s split.special) (λ special. Ok (record { normal = split.normal; special = special }))

module _ (tower : List Level) (level : ℕ) where
  -- Dp
  abbrev pub derived : List Element → Checked (List Element)
  derived p = derive_polynomial element (derivative tower) (rate_at tower level) p

  -- gcd(d, Dd)
  abbrev pub gcd_with_derivative : List Element → Checked (List Element)
  gcd_with_derivative d = and_then (derived d) (λ d'. poly.gcd element d d')

  -- S = gcd(d, Dd) quo gcd(d, ∂d), the product of the special irreducible factors of d, each once
  unfoldable pub special_factor : List Element → Checked (List Element)
  special_factor d =
      and_then (gcd_with_derivative d) (λ a.
      and_then (gcd_with_partial d) (λ b.
      poly.quo element a b))

  -- d and 1 where S = 1, and else those parts, where `rest` splits d quo S
  abbrev pub parts_with : (List Element → Checked Split) → List Element → List Element → Checked Split
  parts_with rest d s =
      if poly.is_one element s then Ok (record { normal = d; special = one }) else
      and_then (poly.quo element d s) (λ q. and_then (rest q) (with_factor s))

  -- the normal and the special part of d; there are fewer steps than coefficients
  abbrev pub parts_in : ℕ → List Element → Checked Split
  parts_in zero d = Ok (record { normal = d; special = one })
  parts_in (suc steps) d = and_then (special_factor d) (parts_with (parts_in steps) d)

-- ---- the test of the special part
-- the least exponent with a coefficient other than 0
abbrev pub least_exponent : List Element → ℕ
least_exponent [] = 0
least_exponent (c ∷ p) = if element.is_zero c then suc (least_exponent p) else 0

-- s' for s = t^e·s', where t does not divide s': the coefficients from exponent e on
unfoldable pub without_variable : List Element → List Element
without_variable s = poly.trimmed element (drop (least_exponent s) s)

module _ (level : ℕ) where
  -- a special part other than 1 has the derivative 0 where Dt = η
  abbrev pub primitive_constant : List Element → Checked (Option Element)
  primitive_constant s = if poly.is_one element s then Ok None else map_ok Some (of_polynomial level s)

  -- s'/t^(deg s')
  unfoldable pub by_power_of_variable : List Element → Checked Element
  by_power_of_variable s =
      and_then (of_polynomial level s) (λ top.
      and_then (poly.monomial element element.one (length s - 1)) (λ power.
      and_then (of_polynomial level power) (λ bottom.
      element.quotient top bottom)))

  -- it has the derivative 0 where Dt = η·t and t^e·s' is special; s' = 1 in a sound tower
  abbrev pub exponential_constant : List Element → Checked (Option Element)
  exponential_constant s = if poly.is_one element s then Ok None else map_ok Some (by_power_of_variable s)

  -- a new constant of the tower that the special part s tells
  abbrev pub new_constant : Kind → List Element → Checked (Option Element)
  new_constant Primitive s = primitive_constant s
  new_constant Exponential s = exponential_constant (without_variable s)

-- NotSound(e) where there is a new constant e
abbrev pub unless_constant : Split → Option Element → Ruled Split
unless_constant split None = Ok split
unless_constant split (Some e) = Err (NotSound e)

-- the splitting, whose special part is tested at the end
unfoldable pub splitting : List Level → ℕ → List Element → Ruled Split
splitting tower level d =
    and_ruled (formed (parts_in tower level (length d) d)) (λ split.
    and_ruled (formed (new_constant level ((rate_at tower level).kind) split.special)) (unless_constant split))
