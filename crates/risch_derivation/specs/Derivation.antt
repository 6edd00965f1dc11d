-- The rule by which the elements of a tower are derived: D of a fraction is 0, and the variable t of a level has Dt = η or Dt = η·t, where η lies in the field below.
use Rattle.std.specs.Prelude.{ℕ, zero, suc, ◌+◌, if◌then◌else◌, List, [], ◌∷◌, ◌++◌, Ok}
use Rattle.risch_field.specs.Checked.{Checked, and_then, map_ok}
use Rattle.risch_field.specs.Ops.{Ops}
use Rattle.risch_field.specs.Ground.{ground}
use Rattle.risch_polynomial.specs.Poly as poly
use Rattle.risch_level.specs.Over as level
use Rattle.risch_level.specs.Levels.{Field, field}
use Rattle.risch_level.specs.declared.over.Over.{Over}
use Rattle.risch_level.specs.declared.over.Over.TheVariants.{Below, Quotient}
use Rattle.risch_derivation.specs.declared.rate.Kind.{Kind}
use Rattle.risch_derivation.specs.declared.rate.Kind.TheVariants.{Primitive, Exponential}
use Rattle.risch_derivation.specs.declared.rate.Rate.{Rate}
use Rattle.risch_frac.specs.Fraction.{Fraction}

-- t is the variable of the level over E
module _ {E : Type 0} (o : Ops E) (rate : Rate E) where
  -- (n·η)·c; where c is 0 nothing is formed
  abbrev pub times_rate : ℕ → E → Checked E
  times_rate n c = if o.is_zero c then Ok o.zero else and_then (poly.multiple o n rate.eta) (λ m. o.product m c)

  -- the coefficient of Dt·dp/dt at exponent j, for c = p_j and the coefficients after it: ((j + 1)·η)·p_(j + 1) where Dt = η, and (j·η)·p_j where Dt = η·t
  abbrev pub variable_term : Kind → ℕ → E → List E → Checked E
  variable_term Primitive j c after = times_rate (j + 1) (poly.coefficient o after 0)
  variable_term Exponential j c after = times_rate j c

-- D is the derivation of the field E below the level
module _ {E : Type 0} (o : Ops E) (D : E → Checked E) (rate : Rate E) where
  -- the coefficient of Dp at exponent j: D(p_j), and that of Dt·dp/dt
  abbrev pub coefficient_derivative : ℕ → E → List E → Checked E
  coefficient_derivative j c after = and_then (D c) (λ d. and_then (variable_term o rate rate.kind j c after) (λ e. o.sum d e))

  -- the coefficients of Dp from exponent j on, exponents ascending, after those that are formed
  abbrev pub derivatives_onto : List E → ℕ → List E → Checked (List E)
  derivatives_onto formed j [] = Ok formed
  derivatives_onto formed j (c ∷ after) = and_then (coefficient_derivative j c after) (λ d. derivatives_onto (formed ++ d ∷ []) (j + 1) after)

  -- Dp
  unfoldable pub derive_polynomial : List E → Checked (List E)
  derive_polynomial p = and_then (derivatives_onto [] 0 p) (λ r. poly.sized o (poly.trimmed o r))

  -- Dn·m - n·Dm
  unfoldable pub quotient_numerator : List E → List E → Checked (List E)
  quotient_numerator n m =
      and_then (derive_polynomial n) (λ n'.
      and_then (poly.product o n' m) (λ a.
      and_then (derive_polynomial m) (λ m'.
      and_then (poly.product o n m') (λ b.
      poly.sum o a (poly.negatives o b)))))

  -- D(n/m), which is (Dn·m - n·Dm)/m^2, and Dn where m is 1
  unfoldable pub derive_quotient : List E → List E → Checked (Over E)
  derive_quotient n m =
      if poly.is_one o m then and_then (derive_polynomial n) (λ n'. level.element o n' m) else
      and_then (quotient_numerator n m) (λ a.
      and_then (poly.product o m m) (λ b.
      level.normal_form o a b))

  -- De for an element e of the level
  abbrev pub derive_over : Over E → Checked (Over E)
  derive_over (Below e) = map_ok Below (D e)
  derive_over (Quotient r) = derive_quotient r.0 r.1

-- D of a fraction
abbrev pub derive_ground : Unit {0} → Fraction → Checked Fraction
derive_ground rates e = Ok ground.zero

-- the kinds of the levels and their η, each an element of the field below
abbrev pub Rates : ℕ → Type 0
Rates zero = Unit {0}
Rates (suc height) = Rates height × Rate (Field height)

-- De in the field of this height
abbrev pub derive : (height : ℕ) → Rates height → Field height → Checked (Field height)
derive zero rates e = derive_ground rates e
derive (suc height) rates e = derive_over (field height) (derive height rates.0) rates.1 e
