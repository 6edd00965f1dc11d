-- What soundness says of one level: the two facts on which the bounds at primitive and at exponential levels rest.
--     independent      a + t^(j+1)·b = 0 with a, b in the field below t only if a = b = 0
--     primitive_not_constant      t less an element of the field below has a derivative other than 0
--     exponential_power_not_constant, exponential_inverse_power_not_constant      so have y·t^j and y/t^j, for j ≥ 1 and y ≠ 0 from the field below
use Rattle.std.specs.Prelude.{◌≡◌, refl, ℕ, zero as nat_zero, suc, List, [], ◌∷◌}
use Rattle.std.proofs.Common.{sym, ap, ap₂, ◌∙◌, arith}
use Rattle.risch_ring.specs.CommRing.{power}
use Rattle.risch_ring.proofs.Expression.{reading}
use Rattle.risch_ring.proofs.Solver.{ring}
use Rattle.risch_ring.proofs.Laws as Laws
use Rattle.risch_mean.proofs.FieldClosure
use Rattle.risch_mean.specs.ElementFieldLaws
use Rattle.risch_mean.proofs.PolynomialVariables
use Rattle.risch_mean.specs.Element.{Element, zero, one, add, mul, neg, minus, over, variable, InField, AllInField}
use Rattle.risch_mean.specs.ElementField.{elements}
use Rattle.risch_mean.specs.ElementLaws.{polynomial-ne-zero, over-mul, mul-ne-zero}
use Rattle.risch_mean.specs.Tower.{Tower, derive_in}
use Rattle.risch_mean.specs.Univariate.{value_at, add_lists, scale, coefficient_at}
use Rattle.risch_mean.proofs.UnivariateLaws.{value-add, value-scale}
use Rattle.risch_mean.proofs.AlgebraLaws.{coefficient_at-add_lists, coefficient_at-scale}
use Rattle.risch_mean.proofs.Step.{in_field-add_lists}
use Rattle.risch_mean.specs.Vectors.{AllZero}
use Rattle.risch_mean.proofs.FieldClosure.{InField_more, InField-minus, InField-over}
use Rattle.risch_mean.proofs.Levels.{transcendental}
use Rattle.risch_mean.specs.Constants.{IsRational, IsSoundTo}
use Rattle.risch_mean.proofs.ConstantLaws.{rational_in}

-- b·t^j as a list of coefficients
abbrev after_zeros : ℕ → Element → List Element
after_zeros nat_zero b = b ∷ []
after_zeros (suc j) b = zero ∷ after_zeros j b

value-after_zeros : (t b : Element) (j : ℕ) → value_at elements.ring t (after_zeros j b) ≡ mul (power elements.ring t j) b
unfolding power
value-after_zeros t b nat_zero = only b t
  where
    only : (b t : Element) → add b (mul t zero) ≡ mul one b
    only b t = ring elements.ring (b ∷ t ∷ []) (search reading depth 20) refl
value-after_zeros t b (suc j) = ap (λ v. add zero (mul t v)) (value-after_zeros t b j) ∙ collect t (power elements.ring t j) b
  where
    collect : (t p b : Element) → add zero (mul t (mul p b)) ≡ mul (mul t p) b
    collect t p b = ring elements.ring (t ∷ p ∷ b ∷ []) (search reading depth 20) refl

in_field-after_zeros : (n j : ℕ) (b : Element) → InField n b → AllInField n (after_zeros j b)
in_field-after_zeros n nat_zero b h = (h, tt)
in_field-after_zeros n (suc j) b h = (FieldClosure.InField-zero n, in_field-after_zeros n j b h)

last_zero : (j : ℕ) (b : Element) → AllZero (after_zeros j b) → b ≡ zero
last_zero nat_zero b h = h.0
last_zero (suc j) b h = last_zero j b h.1

pub independent : (n j : ℕ) (a b : Element) → InField n a → InField n b → add a (mul (power elements.ring (variable n) (suc j)) b) ≡ zero → (a ≡ zero) × (b ≡ zero)
unfolding power
independent n j a b h k e =
    let all = transcendental n (a ∷ after_zeros j b) (h, in_field-after_zeros n j b k)
    (ap (λ v. add a (mul (variable n) v)) (value-after_zeros (variable n) b j) ∙ ap (add a) (sym (ElementFieldLaws.mul_assoc (variable n) (power elements.ring (variable n) j) b)) ∙ e) in
    (all.0, last_zero j b all.1)

-- a variable lies in no field below it
pub variable-not-below : (n : ℕ) (f : Element) → InField n f → ¬ (variable n ≡ f)
unfolding power
variable-not-below n f h e = ElementFieldLaws.one-ne-zero (independent n 0 (neg f) one (FieldClosure.InField-neg n f h) (FieldClosure.InField-one n) (ap (λ t. add (neg f) (mul (mul t one) one)) e ∙ cancels f)).1
  where
    cancels : (f : Element) → add (neg f) (mul (mul f one) one) ≡ zero
    cancels f = ring elements.ring (f ∷ []) (search reading depth 20) refl

module _ (tower : Tower) (n : ℕ) (sound : IsSoundTo tower (suc n)) where
  pub primitive_not_constant : (u : Element) → InField n u → ¬ (derive_in tower (minus (variable n) u) ≡ zero)
  primitive_not_constant u h e =
      variable-not-below n (add (minus (variable n) u) u) (FieldClosure.InField-add n _ _ (rational_in n _ rational) h) (back (variable n) u)
    where
      rational : IsRational (minus (variable n) u)
      rational = sound (minus (variable n) u) (InField-minus (suc n) _ _ (FieldClosure.InField-variable (suc n) n (omega arith)) (InField_more n (suc n) u (omega arith) h)) e

      back : (t u : Element) → t ≡ add (minus t u) u
      back t u = ring elements.ring (t ∷ u ∷ []) (search reading depth 20) refl

  in_field-power : (j : ℕ) → InField (suc n) (power elements.ring (variable n) j)
  unfolding power
  in_field-power nat_zero = FieldClosure.InField-one (suc n)
  in_field-power (suc j) = FieldClosure.InField-mul (suc n) _ _ (FieldClosure.InField-variable (suc n) n (omega arith)) (in_field-power j)

  pub exponential_power_not_constant : (j : ℕ) (y : Element) → InField n y → ¬ (y ≡ zero) → ¬ (derive_in tower (mul (power elements.ring (variable n) (suc j)) y) ≡ zero)
  exponential_power_not_constant j y h k e =
      k (independent n j (neg (mul (power elements.ring (variable n) (suc j)) y)) y (FieldClosure.InField-neg n _ (rational_in n _ rational)) h (cancels (mul (power elements.ring (variable n) (suc j)) y))).1
    where
      rational : IsRational (mul (power elements.ring (variable n) (suc j)) y)
      rational = sound _ (FieldClosure.InField-mul (suc n) _ _ (in_field-power (suc j)) (InField_more n (suc n) y (omega arith) h)) e

      cancels : (f : Element) → add (neg f) f ≡ zero
      cancels f = ring elements.ring (f ∷ []) (search reading depth 20) refl

  power-ne-zero : (j : ℕ) → ¬ (power elements.ring (variable n) j ≡ zero)
  unfolding power
  power-ne-zero nat_zero = ElementFieldLaws.one-ne-zero
  power-ne-zero (suc j) = mul-ne-zero _ _ (polynomial-ne-zero _ (PolynomialVariables.variable-ne-zero n)) (power-ne-zero j)

  pub exponential_inverse_power_not_constant : (j : ℕ) (y : Element) → InField n y → ¬ (y ≡ zero) → ¬ (derive_in tower (over y (power elements.ring (variable n) (suc j))) ≡ zero)
  exponential_inverse_power_not_constant j y h k e =
      k (from_negative y (independent n j (neg y) (over y (power elements.ring (variable n) (suc j))) (FieldClosure.InField-neg n y h) (rational_in n _ rational)
      (ap (add (neg y)) (ElementFieldLaws.mul_comm (power elements.ring (variable n) (suc j)) (over y (power elements.ring (variable n) (suc j))) ∙ over-mul y (power elements.ring (variable n) (suc j)) (power-ne-zero (suc j))) ∙ cancels y)).0)
    where
      rational : IsRational (over y (power elements.ring (variable n) (suc j)))
      rational = sound _ (InField-over (suc n) _ _ (InField_more n (suc n) y (omega arith) h) (in_field-power (suc j))) e

      cancels : (f : Element) → add (neg f) f ≡ zero
      cancels f = ring elements.ring (f ∷ []) (search reading depth 20) refl

      from_negative : (f : Element) → neg f ≡ zero → f ≡ zero
      from_negative f h = double f ∙ ap neg h ∙ nothing
        where
          double : (f : Element) → f ≡ neg (neg f)
          double f = ring elements.ring (f ∷ []) (search reading depth 20) refl

          nothing : neg zero ≡ zero
          nothing = ring elements.ring [] (search reading depth 20) refl

-- ---- two polynomials over the field below with the same value have the same coefficients
all_zero-at : (i : ℕ) (cs : List Element) → AllZero cs → coefficient_at elements.ring i cs ≡ zero
all_zero-at i [] h = refl
all_zero-at nat_zero (c ∷ cs) h = h.0
all_zero-at (suc i) (c ∷ cs) h = all_zero-at i cs h.1

in_field-scale : (n : ℕ) (a : Element) (cs : List Element) → InField n a → AllInField n cs → AllInField n (scale elements.ring a cs)
in_field-scale n a [] h k = tt
in_field-scale n a (c ∷ cs) h k = (FieldClosure.InField-mul n a c h k.0, in_field-scale n a cs h k.1)

pub same_coefficients : (n : ℕ) (cs ds : List Element) → AllInField n cs → AllInField n ds →
    value_at elements.ring (variable n) cs ≡ value_at elements.ring (variable n) ds → (i : ℕ) → coefficient_at elements.ring i cs ≡ coefficient_at elements.ring i ds
same_coefficients n cs ds h k e i =
    equal (coefficient_at elements.ring i cs) (coefficient_at elements.ring i ds)
    (sym (coefficient_at-add_lists elements.ring i cs (scale elements.ring (neg one) ds) ∙ ap (add (coefficient_at elements.ring i cs)) (coefficient_at-scale elements.ring i (neg one) ds))
    ∙ all_zero-at i (add_lists elements.ring cs (scale elements.ring (neg one) ds)) (transcendental n (add_lists elements.ring cs (scale elements.ring (neg one) ds))
    (in_field-add_lists n cs (scale elements.ring (neg one) ds) h (in_field-scale n (neg one) ds (FieldClosure.InField-neg n one (FieldClosure.InField-one n)) k)) difference))
  where
    difference : value_at elements.ring (variable n) (add_lists elements.ring cs (scale elements.ring (neg one) ds)) ≡ zero
    difference =
        value-add elements.ring (variable n) cs (scale elements.ring (neg one) ds)
        ∙ ap₂ add e (value-scale elements.ring (variable n) (neg one) ds) ∙ cancels (value_at elements.ring (variable n) ds)
      where
        cancels : (v : Element) → add v (mul (neg one) v) ≡ zero
        cancels v = ring elements.ring (v ∷ []) (search reading depth 20) refl

    equal : (x y : Element) → add x (mul (neg one) y) ≡ zero → x ≡ y
    equal x y h = spread x y ∙ ap (λ v. add v y) h ∙ Laws.zero-add elements.ring y
      where
        spread : (x y : Element) → x ≡ add (add x (mul (neg one) y)) y
        spread x y = ring elements.ring (x ∷ y ∷ []) (search reading depth 20) refl
