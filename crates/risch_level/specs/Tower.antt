-- Elements as seen at a level of the tower: numerators and denominators over the whole field.
use Rattle.std.specs.Prelude.{ℕ, ◌-◌, nat_eq, if◌then◌else◌, List, [], ◌∷◌, map, Ok}
use Rattle.risch_field.specs.Checked.{Checked, and_then, map_ok}
use Rattle.risch_field.specs.Ops.{Ops}
use Rattle.risch_field.specs.Ground.{ground}
use Rattle.risch_frac.specs.Fraction.{Fraction}
use Rattle.risch_polynomial.specs.Poly as poly
use Rattle.risch_level.specs.Over.{over, normal_form}
use Rattle.risch_level.specs.declared.over.Over.{Over}
use Rattle.risch_level.specs.declared.over.Over.TheVariants.{Below, Quotient}

-- what a field of the tower adds to its operations: the numerator of an element at the level that many levels down, and quotients there
pub record Levels (E : Type 0) : Type 0 where
  pub numerator : ℕ → E → List E
  pub quotient : ℕ → List E → List E → Checked E

-- the fractions have no level; a fraction is seen as a constant
abbrev pub ground_levels : Levels Fraction
ground_levels = record {
  numerator = λ down e. if ground.is_zero e then [] else e ∷ [];
  quotient = λ down n m. Ok ground.zero;
}

module _ {E : Type 0} (o : Ops E) where
  -- a polynomial over the field below, over the level
  abbrev pub lifted : List E → List (Over E)
  lifted p = map Below p

  -- an element that lies below the level, as one of the field below
  abbrev pub lowered_element : Over E → E
  lowered_element (Below e) = e
  lowered_element (Quotient r) = o.zero

  -- back, where each coefficient lies below the level
  abbrev pub lowered : List (Over E) → List E
  lowered p = map lowered_element p

  -- e as a polynomial of degree 0, or 0
  abbrev pub constant : Over E → List (Over E)
  constant e = if (over o).is_zero e then [] else e ∷ []

  -- the numerator at the level itself
  abbrev pub own_numerator : Over E → List (Over E)
  own_numerator (Below e) = constant (Below e)
  own_numerator (Quotient r) = lifted r.0

  -- the polynomial over the field below, where each coefficient lies there
  abbrev pub formed_below : List (Over E) → Checked (List E)
  formed_below p = poly.sized o (poly.trimmed o (lowered p))

  -- the numerator at the level, or at one below
  abbrev pub numerator_at : Levels E → ℕ → Over E → List (Over E)
  numerator_at l down e = if nat_eq down 0 then own_numerator e else lifted (l.numerator (down - 1) (lowered_element e))

  -- the normal form at the level, or at one below
  unfoldable pub quotient_at : Levels E → ℕ → List (Over E) → List (Over E) → Checked (Over E)
  quotient_at l down n m =
      and_then (formed_below n) (λ n'.
      and_then (formed_below m) (λ m'.
      if nat_eq down 0 then normal_form o n' m' else map_ok Below (l.quotient (down - 1) n' m')))

  -- what the level adds to its operations
  abbrev pub levels_over : Levels E → Levels (Over E)
  levels_over l = record { numerator = numerator_at l; quotient = quotient_at l }
