-- The canonical parts of an element f of a level: f = reduced + normal (Bronstein, section 3.5), and the order and the value of an element at the variable of a level, in the order in which the values are formed.
use Rattle.std.specs.Prelude.{ℕ, if◌then◌else◌, Option, None, Some, ℤ, pos, ◌-ℤ◌, List, Ok}
use Rattle.risch_field.specs.Checked.{Checked, and_then}
use Rattle.risch_polynomial.specs.Poly as poly
use Rattle.risch_polynomial.specs.Modular as modular
use Rattle.risch_level.specs.Levels.{Element, element}
use Rattle.risch_tower.specs.declared.level.Level.{Level}
use Rattle.risch_monomial.specs.LevelElements.{of_polynomial, ratio, numerator_at, denominator_at}
use Rattle.risch_run.specs.Ruled.{Ruled, formed, and_ruled}
use Rattle.risch_split.specs.declared.splitting.Split.{Split}
use Rattle.risch_split.specs.declared.canonical_parts.Canonical.{Canonical}
use Rattle.risch_split.specs.declared.canonical_parts.Divided.{Divided}
use Rattle.risch_split.specs.Splitting.{least_exponent, splitting}

-- ---- canonical parts
module _ (level : ℕ) where
  -- q + r/s
  unfoldable pub reduced_part : List Element → List Element → List Element → Checked Element
  reduced_part q r s =
      and_then (of_polynomial level q) (λ polynomial.
      and_then (ratio level r s) (λ proper.
      element.sum polynomial proper))

  -- the parts q and r/n of q + r/n
  unfoldable pub without_special : List Element → List Element → List Element → Checked Canonical
  without_special q r n =
      and_then (of_polynomial level q) (λ reduced.
      and_then (ratio level r n) (λ normal.
      Ok (record { reduced = reduced; normal = normal })))

  -- the parts q + r/s and 0
  unfoldable pub without_normal : List Element → List Element → List Element → Checked Canonical
  without_normal q r s = and_then (reduced_part q r s) (λ reduced. Ok (record { reduced = reduced; normal = element.zero }))

  -- the parts q + r'/s and z/n, where n·r' + s·z = r and deg r' < deg s. Normal and special part are coprime, so that there is such a solution; what stands for none only makes the definition whole
  abbrev pub parts_of : List Element → Split → Option (List Element × List Element) → Checked Canonical
  parts_of q split None = Ok (record { reduced = element.zero; normal = element.zero })
  parts_of q split (Some solution) =
      and_then (reduced_part q solution.0 split.special) (λ reduced.
      and_then (ratio level solution.1 split.normal) (λ normal.
      Ok (record { reduced = reduced; normal = normal })))

  -- the parts of q + r/(n·s)
  unfoldable pub parts_by : List Element → List Element → Split → Checked Canonical
  parts_by q r split =
      if poly.is_one element split.special then without_special q r split.normal else
      if poly.is_one element split.normal then without_normal q r split.special else
      and_then (modular.solve element split.special split.normal r) (parts_of q split)

-- q and r of the numerator q·M + r with the denominator M
abbrev pub quotient_and_rest : Divided → List Element × List Element
quotient_and_rest d = (d.quotient, d.rest)

-- the parts of q + r/M by the splitting of M
abbrev pub parts_of_division : List Level → ℕ → Divided → Ruled Canonical
parts_of_division tower level d = and_ruled (splitting tower level d.denominator) (λ split. formed (parts_by level d.quotient d.rest split))

-- the numerator divided by the denominator, and the splitting of the denominator
unfoldable pub canonical : List Level → ℕ → Element → Ruled Canonical
canonical tower level f =
    and_ruled (formed (poly.division element (numerator_at level f) (denominator_at level f))) (λ d.
    and_ruled (splitting tower level (denominator_at level f)) (λ split.
    formed (parts_by level d.0 d.1 split)))

-- ---- order and value at t
-- the least exponent of the numerator minus that of the denominator
abbrev pub order_at : ℕ → Element → ℤ
order_at level f = pos (least_exponent (numerator_at level f)) -ℤ pos (least_exponent (denominator_at level f))

-- N_0/M_0
abbrev pub value_at : ℕ → Element → Checked Element
value_at level f = element.quotient (poly.coefficient element (numerator_at level f) 0) (poly.coefficient element (denominator_at level f) 0)
