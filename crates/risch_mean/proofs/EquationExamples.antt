-- Equations, their solutions, and vectors of solutions at closed terms.
use Rattle.std.specs.Prelude.{◌≡◌, refl, List, [], ◌∷◌, length, pos}
use Rattle.std.proofs.Common.{sym, ap, ◌∙◌, arith}
use Rattle.risch_ring.proofs.Expression.{reading}
use Rattle.risch_ring.proofs.Solver.{ring}
use Rattle.risch_mean.specs.Element.{Element, zero, one, neg, inverse, ◌+ₑ◌, ◌*ₑ◌, ◌/ₑ◌, ground_field, level}
use Rattle.risch_mean.specs.ElementField.{elements, ◌^ₑ◌}
use Rattle.risch_mean.specs.ElementFieldLaws.{one-ne-zero}
use Rattle.risch_mean.specs.ElementLaws.{same_is}
use Rattle.risch_mean.specs.Tower.{Tower, log, derivatives}
use Rattle.risch_mean.specs.Equation.{Equation, IsEquation, IsEquationOf, IsSolution, NoElementSolves}
use Rattle.risch_mean.specs.Vectors.{Vector, combination, AreIndependent, AllSolve, IsCombination, Span}
use Rattle.risch_mean.proofs.FieldClosure.{InField-one, InField-integer, InField-inverse, InField-over, InField-variable, InField_more}
use Rattle.risch_mean.proofs.PowerLaws.{InField-power}
use Rattle.risch_mean.proofs.Sound.{variable-not-below}
use Rattle.risch_mean.proofs.ConstantLaws.{ground_rational, rational_ground, derive-rational}
use Rattle.risch_mean.proofs.ExampleTerms.{computing, x, t1, t2, whole, x_in, zero_rational, one_rational, minus_one_rational}

-- ---- Dy + 3/x·y = c over Q(x) has the solutions (1; x/4) and (0; 1/x^3), so an element solves it
three : Equation
three = record { field = level 0; coefficient = whole 3 /ₑ x; columns = one ∷ [] }

three_is : IsEquationOf [] three
unfolding three
three_is = record { is_field = omega arith; coefficient_in = InField-over (level 0) (whole 3) x (InField-integer (level 0) (pos 3)) (x_in (level 0) (omega arith)); columns_in = (InField-one (level 0), tt) }

first : IsSolution [] three (one ∷ []) (x /ₑ whole 4)
unfolding computing three
first = record { as_many = refl; rational = (one_rational, tt); in_field = InField-over (level 0) x (whole 4) (x_in (level 0) (omega arith)) (InField-integer (level 0) (pos 4)); is = same_is _ _ refl }

second : IsSolution [] three (zero ∷ []) (inverse (x ^ₑ 3))
unfolding computing three
second = record { as_many = refl; rational = (zero_rational, tt); in_field = InField-inverse (level 0) _ (InField-power (level 0) x 3 (x_in (level 0) (omega arith))); is = same_is _ _ refl }

solved : ¬ NoElementSolves [] three
solved h = one-ne-zero (h (one ∷ []) _ first)

-- a solution has as many factors as there are columns, and they are rational
too_few : (y : Element) → ¬ IsSolution [] three [] y
unfolding three
too_few y s = absurd (omega (arith, s.as_many))

irrational_factor : (y : Element) → ¬ IsSolution [] three (x ∷ []) y
irrational_factor y s = variable-not-below 0 x (rational_ground x s.rational.0) refl

-- an equation over Q(x) does not have the column t1, and a tower without monomials has no field of level 1
not_over_x : ¬ IsEquation record { field = level 0; coefficient = zero; columns = t1 ∷ [] }
not_over_x e = variable-not-below 1 t1 e.1.0 refl

no_level_1 : ¬ IsEquationOf [] record { field = level 1; coefficient = zero; columns = [] }
no_level_1 e = absurd (omega (arith, e.is_field))

-- ---- over t1 = log x, t2 = log(x + 1): Dy = c_1/(x + 1) is solved by t2 at level 2; t2 does not lie in Q(x), so it does not solve the same equation there
two_logs : Tower
two_logs = log x ∷ log (x +ₑ one) ∷ []

above : IsSolution two_logs record { field = level 2; coefficient = zero; columns = inverse (x +ₑ one) ∷ [] } (one ∷ []) t2
unfolding computing two_logs
above = record { as_many = refl; rational = (one_rational, tt); in_field = InField-variable (level 2) 2 (omega arith); is = same_is _ _ refl }

not_below : ¬ IsSolution two_logs record { field = level 0; coefficient = zero; columns = inverse (x +ₑ one) ∷ [] } (one ∷ []) t2
not_below s = variable-not-below 2 t2 (InField_more (level 0) 2 t2 (omega arith) s.in_field) refl

-- ---- Dy = c over the rational numbers: no element solves it, and (0; 1) spans the solutions
over_rationals : Equation
over_rationals = record { field = ground_field; coefficient = zero; columns = one ∷ [] }

-- where y is rational, Dy = c gives c = 0
factor_zero : (c y : Element) → IsSolution [] over_rationals (c ∷ []) y → c ≡ zero
unfolding over_rationals
factor_zero c y s = spread c ∙ sym s.is ∙ ap (λ d. d +ₑ zero *ₑ y) (derive-rational (derivatives []) y (ground_rational y s.in_field)) ∙ nothing y
  where
    spread : (c : Element) → c ≡ c *ₑ one +ₑ zero
    spread c = ring elements.ring (c ∷ []) (search reading depth 20) refl

    nothing : (y : Element) → zero +ₑ zero *ₑ y ≡ zero
    nothing y = ring elements.ring (y ∷ []) (search reading depth 20) refl

unsolved : NoElementSolves [] over_rationals
unfolding over_rationals
unsolved [] y s = tt
unsolved (c ∷ []) y s = factor_zero c y s
unsolved (c ∷ d ∷ cs) y s = absurd (omega (arith, s.as_many))

unit_vector : Vector
unit_vector = record { factors = zero ∷ []; element = one }

solves : AllSolve [] over_rationals (unit_vector ∷ [])
unfolding computing over_rationals unit_vector
solves = (record { as_many = refl; rational = (zero_rational, tt); in_field = InField-one ground_field; is = same_is _ _ refl }, tt)

-- y·(0; 1) + (0; 0) = (0; y)
multiple_factor : (y : Element) → zero ≡ y *ₑ zero +ₑ zero
multiple_factor y = ring elements.ring (y ∷ []) (search reading depth 20) refl

multiple_element : (y : Element) → y ≡ y *ₑ one +ₑ zero
multiple_element y = ring elements.ring (y ∷ []) (search reading depth 20) refl

spans : Span [] over_rationals (unit_vector ∷ [])
unfolding over_rationals unit_vector
spans v s = by v.factors s
  where
    by : (cs : List Element) → IsSolution [] over_rationals cs v.element → IsCombination 1 (unit_vector ∷ []) record { factors = cs; element = v.element }
    by [] s = absurd (omega (arith, s.as_many))
    by (c ∷ []) s = record {
      coefficients = v.element ∷ [];
      as_many = refl;
      rational = (ground_rational v.element s.in_field, tt);
      is = λ i. record { factors = (factor_zero c v.element s ∙ multiple_factor v.element) i ∷ []; element = multiple_element v.element i };
    }
    by (c ∷ d ∷ cs) s = absurd (omega (arith, s.as_many))

-- the empty list does not span them: (0; 1) is a solution and not (0; 0)
not_spanned : ¬ Span [] over_rationals []
unfolding over_rationals unit_vector
not_spanned h = let c = h unit_vector solves.0 in by c.coefficients c.as_many c.is
  where
    by : (ks : List Element) → length ks ≡ 0 → unit_vector ≡ combination 1 ks [] → ⊥
    by [] h e = one-ne-zero (ap (λ (v : Vector). v.element) e)
    by (k ∷ ks) h e = absurd (omega (arith, h))

-- (0; 1) is independent, and twice (0; 1) is not
independent : AreIndependent 1 (unit_vector ∷ [])
unfolding unit_vector
independent [] h q e = absurd (omega (arith, h))
independent (k ∷ []) h q e = (multiple_element k ∙ ap (λ (v : Vector). v.element) e, tt)
independent (k ∷ l ∷ ks) h q e = absurd (omega (arith, h))

dependent : ¬ AreIndependent 1 (unit_vector ∷ unit_vector ∷ [])
unfolding computing unit_vector
dependent h = one-ne-zero (h (one ∷ neg one ∷ []) refl (one_rational, (minus_one_rational, tt)) (λ i. record { factors = same_is (one *ₑ zero +ₑ (neg one *ₑ zero +ₑ zero)) zero refl i ∷ []; element = same_is (one *ₑ one +ₑ (neg one *ₑ one +ₑ zero)) zero refl i })).0
