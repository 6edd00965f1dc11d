-- The rules that form inverses modulo a polynomial, and solve b·r + a·z = c, in the order in which they form values.
use Rattle.std.specs.Prelude.{ℕ, zero, suc, List, [], ◌∷◌, length, Option, None, Some, Ok}
use Rattle.risch_field.specs.Checked.{Checked, and_then}
use Rattle.risch_field.specs.Ops.{Ops}
use Rattle.risch_polynomial.specs.Poly as poly

module _ {E : Type 0} (o : Ops E) where
  -- p - q·m
  unfoldable pub less_product : List E → List E → List E → Checked (List E)
  less_product p q m = and_then (poly.product o q m) (λ x. poly.sum o p (poly.negatives o x))

  -- from the remainder r' before with the coefficient s', and the remainder r with the coefficient s: at most `steps` divisions r' = q·r + r'', with the coefficient s' - q·s.
  -- A constant r ends them, and the inverse is s/r; r = 0 ends them, and there is none
  abbrev pub inverse_from : ℕ → List E → List E → List E → List E → Checked (Option (List E))
  inverse_from steps r' s' [] s = Ok None
  inverse_from steps r' s' (c ∷ []) s = and_then (o.quotient o.one c) (λ u. and_then (poly.scaled o u s) (λ i. Ok (Some i)))
  inverse_from zero r' s' (c ∷ (d ∷ r)) s = Ok None
  inverse_from (suc steps) r' s' (c ∷ (d ∷ r)) s =
      and_then (poly.division o r' (c ∷ d ∷ r)) (λ x.
      and_then (less_product s' x.0 s) (λ s''.
      inverse_from steps (c ∷ d ∷ r) s x.1 s''))

  -- the inverse of b modulo a for deg a ≥ 1, where there is one: the remainders of a and b rem a, with the coefficients 0 and 1
  unfoldable pub inverse : List E → List E → Checked (Option (List E))
  inverse b a = and_then (poly.division o b a) (λ x. inverse_from (length a) a [] x.1 (o.one ∷ []))

  -- (i·(c rem a)) rem a = r, and z = (c - b·r) quo a
  unfoldable pub solution : List E → List E → List E → List E → Checked (List E × List E)
  solution i a b c =
      and_then (poly.division o c a) (λ x.
      and_then (poly.product o i x.1) (λ m.
      and_then (poly.division o m a) (λ y.
      and_then (less_product c b y.1) (λ n.
      and_then (poly.quo o n a) (λ z.
      Ok (y.1, z))))))

  -- the solution where there is the inverse
  abbrev pub solution_by : Option (List E) → List E → List E → List E → Checked (Option (List E × List E))
  solution_by None a b c = Ok None
  solution_by (Some i) a b c = and_then (solution i a b c) (λ s. Ok (Some s))

  -- b·r + a·z = c with deg r < deg a, for coprime a and b and deg a ≥ 1
  unfoldable pub solve : List E → List E → List E → Checked (Option (List E × List E))
  solve a b c = and_then (inverse b a) (λ i. solution_by i a b c)
