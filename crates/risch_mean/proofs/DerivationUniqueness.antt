-- A derivation of the elements is determined on the field of the first n variables by its values at these variables.
use Rattle.std.specs.Prelude.{◌≡◌, ℕ, zero as nat_zero, suc, ◌<◌, ◌≤◌, List, [], ◌∷◌, length, ℤ, pos, negsuc}
use Rattle.std.proofs.Common.{sym, ap, ap₂, ◌∙◌, arith}
use Rattle.risch_ring.specs.CommRing.{Derivation, of_nat, of_int}
use Rattle.risch_ring.proofs.Laws as Laws
use Rattle.risch_ring.proofs.Derivations as Derivations
use Rattle.risch_ring.proofs.QuotientRule.{derive-quotient}
use Rattle.risch_mean.specs.Element.{Element, zero, add, mul, minus, over, integer, variable, InField, AllInField}
use Rattle.risch_mean.specs.ElementField.{elements}
use Rattle.risch_mean.specs.Univariate.{value_at}
use Rattle.risch_mean.specs.Tower.{Tower, derivatives, derive_in, InTower}
use Rattle.risch_mean.proofs.IntegerLaws.{integer-is, integer-ne-zero}
use Rattle.risch_mean.proofs.DerivationLaws.{derivation}
use Rattle.risch_mean.proofs.ConstantLaws.{ground_rational}
use Rattle.risch_mean.proofs.Step.{as_quotient}

-- a derivation is 0 at the whole numbers
of_int_constant : (D : Derivation elements.ring) (c : ℤ) → D.derive (of_int elements.ring c) ≡ zero
unfolding of_int
of_int_constant D (pos n) = Derivations.derive-nat D n
of_int_constant D (negsuc n) = Derivations.derive-neg D (of_nat elements.ring (suc n)) ∙ ap elements.ring.neg (Derivations.derive-nat D (suc n)) ∙ Laws.neg-zero elements.ring

pub integer_constant : (D : Derivation elements.ring) (c : ℤ) → D.derive (integer c) ≡ zero
integer_constant D c = ap D.derive (integer-is c) ∙ of_int_constant D c

module _ (D E : Derivation elements.ring) where
  -- the two derivations agree at f
  abbrev Agree : Element → Type 0
  Agree f = D.derive f ≡ E.derive f

  agree_integer : (c : ℤ) → Agree (integer c)
  agree_integer c = integer_constant D c ∙ sym (integer_constant E c)

  agree_over : (f g : Element) → ¬ (g ≡ zero) → Agree f → Agree g → Agree (over f g)
  agree_over f g n h k = derive-quotient elements D f g n ∙ ap₂ (λ u v. over (minus (mul u g) (mul f v)) (mul g g)) h k ∙ sym (derive-quotient elements E f g n)

  agree_value : (n : ℕ) (t : Element) → Agree t → ((f : Element) → InField n f → Agree f) → (cs : List Element) → AllInField n cs → Agree (value_at elements.ring t cs)
  agree_value n t h k [] a = Derivations.derive-zero D ∙ sym (Derivations.derive-zero E)
  agree_value n t h k (c ∷ cs) a =
      let rest : Agree (value_at elements.ring t cs) = agree_value n t h k cs a.1 in
      D.derive-add c (mul t (value_at elements.ring t cs))
      ∙ ap₂ add (k c a.0) (D.derive-mul t (value_at elements.ring t cs) ∙ ap₂ (λ u v. add (mul u (value_at elements.ring t cs)) (mul t v)) h rest ∙ sym (E.derive-mul t (value_at elements.ring t cs)))
      ∙ sym (E.derive-add c (mul t (value_at elements.ring t cs)))

  pub agree_in_field : (n : ℕ) → ((i : ℕ) → i < n → Agree (variable i)) → (f : Element) → InField n f → Agree f
  agree_in_field nat_zero h f a =
      let q = ground_rational f a in
      ap D.derive q.is ∙ agree_over (integer q.num) (integer q.den) (integer-ne-zero q.den q.den-ne-zero) (agree_integer q.num) (agree_integer q.den) ∙ sym (ap E.derive q.is)
  agree_in_field (suc n) h f a =
      let q = as_quotient n f a in
      let below : (g : Element) → InField n g → Agree g = agree_in_field n (λ i l. h i (omega (arith, l))) in
      ap D.derive q.is
      ∙ agree_over (value_at elements.ring (variable n) q.num) (value_at elements.ring (variable n) q.den) q.den-ne-zero
      (agree_value n (variable n) (h n (omega arith)) below q.num q.num-in_field) (agree_value n (variable n) (h n (omega arith)) below q.den q.den-in_field)
      ∙ sym (ap E.derive q.is)

-- the derivation of a tower is the only one of its field with the same derivatives of x, t1, .., tn
pub derivation_unique : (tower : Tower) (D : Derivation elements.ring) → ((i : ℕ) → i ≤ length tower → D.derive (variable i) ≡ derive_in tower (variable i)) →
    (f : Element) → InTower tower f → D.derive f ≡ derive_in tower f
unfolding derivation
derivation_unique tower D h f a = agree_in_field D (derivation (derivatives tower)) (suc (length tower)) (λ i l. h i (omega (arith, l))) f a
