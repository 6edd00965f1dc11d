-- What follows for every derivation D of a commutative ring, and the derivation 0.
use Rattle.std.specs.Prelude.{◌≡◌, refl, ℕ, zero, suc, [], ◌∷◌}
use Rattle.std.proofs.Common.{sym, ap, ap₂, ◌∙◌}
use Rattle.risch_ring.specs.CommRing.{CommRing, Derivation, power, of_nat}
use Rattle.risch_ring.specs.Operators.{operators}
use Rattle.risch_ring.proofs.Laws as Laws
use Rattle.risch_ring.proofs.Expression.{reading, reading_symbolic}
use Rattle.risch_ring.proofs.Solver.{ring, linear}

module _ {A : Type 0} {R : CommRing A} (D : Derivation R) where
  open (operators R) use {𝟘, 𝟙, ◌+◌, ◌-◌, ◌*◌, -◌}

  -- D(0) = 0
  pub derive-zero : D.derive 𝟘 ≡ 𝟘
  derive-zero = Laws.add_right_cancel R (D.derive 𝟘) 𝟘 (D.derive 𝟘) (sym (D.derive-add 𝟘 𝟘) ∙ ap D.derive (R.add-zero 𝟘) ∙ sym (Laws.zero-add R (D.derive 𝟘)))

  -- D(1) = 0
  pub derive-one : D.derive 𝟙 ≡ 𝟘
  derive-one =
      let e : D.derive 𝟙 ≡ D.derive 𝟙 * 𝟙 + 𝟙 * D.derive 𝟙 = ap D.derive (sym (R.mul-one 𝟙)) ∙ D.derive-mul 𝟙 𝟙 in
      linear R (- 𝟙) e (ring R (D.derive 𝟙 ∷ []) (search reading depth 20 fits 4000) refl)

  -- D(-x) = -D(x)
  pub derive-neg : (x : A) → D.derive (- x) ≡ - D.derive x
  derive-neg x =
      let e : D.derive (- x) + D.derive x ≡ 𝟘 = sym (D.derive-add (- x) x) ∙ ap D.derive (Laws.neg-add R x) ∙ derive-zero in
      Laws.neg_of_add R (D.derive x) (D.derive (- x)) e

  -- D(x - y) = D(x) - D(y)
  pub derive-sub : (x y : A) → D.derive (x - y) ≡ D.derive x - D.derive y
  derive-sub x y = D.derive-add x (- y) ∙ ap (λ w. D.derive x + w) (derive-neg y)

  -- an integer is a constant
  pub derive-nat : (n : ℕ) → D.derive (of_nat R n) ≡ 𝟘
  unfolding of_nat
  derive-nat zero = derive-zero
  derive-nat (suc n) = D.derive-add 𝟙 (of_nat R n) ∙ ap₂ R.add derive-one (derive-nat n) ∙ R.add-zero 𝟘

  -- D(x^(n+1)) = (n+1)·x^n·D(x)
  pub derive-power : (x : A) (n : ℕ) → D.derive (power R x (suc n)) ≡ of_nat R (suc n) * power R x n * D.derive x
  unfolding power of_nat
  derive-power x zero = ap D.derive (R.mul-one x) ∙ ring R (D.derive x ∷ []) (search reading depth 20 fits 4000) refl
  derive-power x (suc n) =
      D.derive-mul x (power R x (suc n)) ∙ ap (λ w. D.derive x * power R x (suc n) + x * w) (derive-power x n)
      ∙ ring R (x ∷ D.derive x ∷ power R x n ∷ of_nat R n ∷ []) (search reading_symbolic depth 20 fits 4000) refl

-- the derivation 0
abbrev pub zero_derivation : {A : Type 0} (R : CommRing A) → Derivation R
zero_derivation R = record {
  derive = λ x. R.zero;
  derive-add = λ x y. sym (R.add-zero R.zero);
  derive-mul = λ x y. sym (ap₂ R.add (Laws.zero-mul R y) (Laws.mul-zero R x) ∙ R.add-zero R.zero);
}
