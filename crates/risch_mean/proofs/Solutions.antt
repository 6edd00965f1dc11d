-- The solutions of an equation form a vector space over the rational numbers, and two ways to say that no element solves it.
use Rattle.std.specs.Prelude.{◌≡◌, refl, List, [], ◌∷◌, length}
use Rattle.std.proofs.Common.{sym, ap, ap₂, ◌∙◌, subst, arith}
use Rattle.risch_ring.proofs.Expression.{reading}
use Rattle.risch_ring.proofs.Solver.{ring}
use Rattle.risch_mean.specs.ElementFieldLaws
use Rattle.risch_mean.proofs.FieldClosure
use Rattle.risch_mean.specs.ElementLaws
use Rattle.risch_mean.specs.Element.{Element, zero, one, add, mul, inverse}
use Rattle.risch_mean.specs.ElementField.{elements}
use Rattle.risch_mean.proofs.DerivationLaws.{derive-add, derive-mul}
use Rattle.risch_mean.specs.Tower.{Tower, derivatives, derive_in}
use Rattle.risch_mean.specs.Univariate.{add_lists, scale}
use Rattle.risch_mean.specs.Constants.{IsRational, AllRational}
use Rattle.risch_mean.proofs.ConstantLaws.{IsRational-add, IsRational-mul, IsRational-inverse, rational_in, derive-rational}
use Rattle.risch_mean.specs.Equation.{Equation, combined, IsSolution, NoElementSolves}

length-add : (cs ds : List Element) → length cs ≡ length ds → length (add_lists elements.ring cs ds) ≡ length ds
length-add [] ds h = refl
length-add (c ∷ cs) [] h = absurd (omega arith)
length-add (c ∷ cs) (d ∷ ds) h = omega (arith, length-add cs ds (omega arith))

length-scale : (a : Element) (cs : List Element) → length (scale elements.ring a cs) ≡ length cs
length-scale a [] = refl
length-scale a (c ∷ cs) = omega (arith, length-scale a cs)

AllRational-add : (cs ds : List Element) → AllRational cs → AllRational ds → AllRational (add_lists elements.ring cs ds)
AllRational-add [] ds h k = k
AllRational-add (c ∷ cs) [] h k = h
AllRational-add (c ∷ cs) (d ∷ ds) h k = (IsRational-add c d h.0 k.0, AllRational-add cs ds h.1 k.1)

AllRational-scale : (a : Element) (cs : List Element) → IsRational a → AllRational cs → AllRational (scale elements.ring a cs)
AllRational-scale a [] q h = tt
AllRational-scale a (c ∷ cs) q h = (IsRational-mul a c q h.0, AllRational-scale a cs q h.1)

combined-add : (cs ds gs : List Element) → length cs ≡ length gs → length ds ≡ length gs → combined (add_lists elements.ring cs ds) gs ≡ add (combined cs gs) (combined ds gs)
combined-add [] [] gs h k = sym (ElementFieldLaws.add-zero zero)
combined-add [] (d ∷ ds) gs h k = absurd (omega arith)
combined-add (c ∷ cs) [] gs h k = absurd (omega arith)
combined-add (c ∷ cs) (d ∷ ds) [] h k = absurd (omega arith)
combined-add (c ∷ cs) (d ∷ ds) (g ∷ gs) h k = ap (add (mul (add c d) g)) (combined-add cs ds gs (omega arith) (omega arith)) ∙ spread c d g (combined cs gs) (combined ds gs)
  where
    spread : (c d g x y : Element) → add (mul (add c d) g) (add x y) ≡ add (add (mul c g) x) (add (mul d g) y)
    spread c d g x y = ring elements.ring (c ∷ d ∷ g ∷ x ∷ y ∷ []) (search reading depth 30 fits 4000) refl

combined-scale : (a : Element) (cs gs : List Element) → combined (scale elements.ring a cs) gs ≡ mul a (combined cs gs)
combined-scale a [] gs = sym (ring elements.ring (a ∷ []) {x = mul a zero} {y = zero} (search reading depth 20) refl)
combined-scale a (c ∷ cs) [] = sym (ring elements.ring (a ∷ []) {x = mul a zero} {y = zero} (search reading depth 20) refl)
combined-scale a (c ∷ cs) (g ∷ gs) = ap (add (mul (mul a c) g)) (combined-scale a cs gs) ∙ spread a c g (combined cs gs)
  where
    spread : (a c g x : Element) → add (mul (mul a c) g) (mul a x) ≡ mul a (add (mul c g) x)
    spread a c g x = ring elements.ring (a ∷ c ∷ g ∷ x ∷ []) (search reading depth 30 fits 4000) refl

module _ (tower : Tower) (e : Equation) where
  pub IsSolution-add : (cs ds : List Element) (y z : Element) → IsSolution tower e cs y → IsSolution tower e ds z → IsSolution tower e (add_lists elements.ring cs ds) (add y z)
  IsSolution-add cs ds y z a b = record {
    as_many = length-add cs ds (a.as_many ∙ sym b.as_many) ∙ b.as_many;
    rational = AllRational-add cs ds a.rational b.rational;
    in_field = FieldClosure.InField-add e.field y z a.in_field b.in_field;
    is =
        ap (λ k. add k (mul e.coefficient (add y z))) (derive-add (derivatives tower) y z) ∙ spread (derive_in tower y) (derive_in tower z) e.coefficient y z
        ∙ ap₂ add a.is b.is ∙ sym (combined-add cs ds e.columns a.as_many b.as_many);
  }
    where
      spread : (dy dz f y z : Element) → add (add dy dz) (mul f (add y z)) ≡ add (add dy (mul f y)) (add dz (mul f z))
      spread dy dz f y z = ring elements.ring (dy ∷ dz ∷ f ∷ y ∷ z ∷ []) (search reading depth 30 fits 4000) refl

  pub IsSolution-scale : (a : Element) (cs : List Element) (y : Element) → IsRational a → IsSolution tower e cs y → IsSolution tower e (scale elements.ring a cs) (mul a y)
  IsSolution-scale a cs y q s = record {
    as_many = length-scale a cs ∙ s.as_many;
    rational = AllRational-scale a cs q s.rational;
    in_field = FieldClosure.InField-mul e.field a y (rational_in e.field a q) s.in_field;
    is =
        ap (λ k. add k (mul e.coefficient (mul a y))) (derive-mul (derivatives tower) a y ∙ ap (λ k. add (mul k y) (mul a (derive_in tower y))) (derive-rational (derivatives tower) a q))
        ∙ spread a y (derive_in tower y) e.coefficient ∙ ap (mul a) s.is ∙ sym (combined-scale a cs e.columns);
  }
    where
      spread : (a y dy f : Element) → add (add (mul zero y) (mul a dy)) (mul f (mul a y)) ≡ mul a (add dy (mul f y))
      spread a y dy f = ring elements.ring (a ∷ y ∷ dy ∷ f ∷ []) (search reading depth 30 fits 4000) refl

  -- no element solves the equation exactly where no y and no fractions c_2, .., c_m give Dy + f·y = g_1 + c_2·g_2 + .. + c_m·g_m
  pub none_with_one : ((cs : List Element) (y : Element) → ¬ IsSolution tower e (one ∷ cs) y) → NoElementSolves tower e
  none_with_one h [] y s = tt
  none_with_one h (c ∷ cs) y s =
      elim (ElementLaws.discrete c zero) [
        | yes p ↦ p
        | no n ↦ absurd (h (scale elements.ring (inverse c) cs) (mul (inverse c) y)
            (subst (λ k. IsSolution tower e (k ∷ scale elements.ring (inverse c) cs) (mul (inverse c) y)) (ElementFieldLaws.mul_comm (inverse c) c ∙ ElementFieldLaws.mul-inverse c n)
            (IsSolution-scale (inverse c) (c ∷ cs) y (IsRational-inverse c s.rational.0) s)))
      ]

  pub with_one_none : NoElementSolves tower e → (cs : List Element) (y : Element) → ¬ IsSolution tower e (one ∷ cs) y
  with_one_none h cs y s = ElementFieldLaws.one-ne-zero (h (one ∷ cs) y s)
