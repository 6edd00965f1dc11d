-- When an element of a field with a derivation D is a constant: a quotient of two elements with the same logarithmic derivative, and the derivative of a power where Dt = η·t.
use Rattle.std.proofs.Common.{◌≡◌, ℕ, zero, suc, [], ◌∷◌, refl, sym, ◌∙◌, ap, ap₂}
use Rattle.risch_ring.specs.CommRing.{CommRing, Field, Derivation, power, of_nat}
use Rattle.risch_ring.proofs.Derivations as Derivations
use Rattle.risch_ring.proofs.Expression.{reading}
use Rattle.risch_ring.proofs.FieldLaws as FieldLaws
use Rattle.risch_ring.proofs.Laws as Laws
use Rattle.risch_ring.proofs.Solver.{ring}

module _ {A : Type 0} {R : CommRing A} (D : Derivation R) where
  open R use {zero as 𝟘, one as 𝟙, add as ◌⊕◌, mul as ◌⊗◌}

  infixl 60 ◌⊕◌
  infixl 70 ◌⊗◌
  nothing : (η : A) → 𝟘 ≡ η ⊗ 𝟘 ⊗ 𝟙
  nothing η = ring R (η ∷ []) (search reading depth 20) refl

  collected : (η t n p : A) → η ⊗ t ⊗ p ⊕ t ⊗ (η ⊗ n ⊗ p) ≡ η ⊗ (𝟙 ⊕ n) ⊗ (t ⊗ p)
  collected η t n p = ring R (η ∷ t ∷ n ∷ p ∷ []) (search reading depth 30 fits 4000) refl

  -- D(t^n) = (η·n)·t^n where Dt = η·t
  pub derive-power_exponential : (t η : A) → D.derive t ≡ η ⊗ t → (n : ℕ) → D.derive (power R t n) ≡ η ⊗ of_nat R n ⊗ power R t n
  derive-power_exponential t η h zero =
      ap D.derive (Laws.power-zero R t) ∙ Derivations.derive-one D ∙ nothing η ∙ ap₂ (λ n p. η ⊗ n ⊗ p) (sym (Laws.of_nat-zero R)) (sym (Laws.power-zero R t))
  derive-power_exponential t η h (suc n) =
      ap D.derive (Laws.power-suc R t n) ∙ D.derive-mul t (power R t n)
      ∙ ap₂ (λ d e. d ⊗ power R t n ⊕ t ⊗ e) h (derive-power_exponential t η h n)
      ∙ collected η t (of_nat R n) (power R t n)
      ∙ ap₂ (λ m p. η ⊗ m ⊗ p) (sym (Laws.of_nat-suc R n)) (sym (Laws.power-suc R t n))

module _ {A : Type 0} (F : Field A) (D : Derivation F.ring) where
  open F.ring use {zero as 𝟘, add as ◌⊕◌, mul as ◌⊗◌, neg as ⊖◌}

  infixl 60 ◌⊕◌
  infixl 70 ◌⊗◌
  infix 80 ⊖◌
  moved : (d y v k : A) → d ⊗ y ⊕ v ⊗ (k ⊗ y) ≡ k ⊗ (v ⊗ y) ⊕ y ⊗ d
  moved d y v k = ring F.ring (d ∷ y ∷ v ∷ k ∷ []) (search reading depth 30 fits 4000) refl

  rest : (z w : A) → ⊖ z ⊕ (z ⊕ w) ≡ w
  rest z w = ring F.ring (z ∷ w ∷ []) (search reading depth 30 fits 4000) refl

  none : (z : A) → ⊖ z ⊕ z ≡ 𝟘
  none z = ring F.ring (z ∷ []) (search reading depth 20) refl

  -- v·y = x with Dx = κ·x and Dy = κ·y gives Dv = 0
  pub constant-of_ratio : (v x y κ : A) → v ⊗ y ≡ x → D.derive x ≡ κ ⊗ x → D.derive y ≡ κ ⊗ y → ¬ (y ≡ 𝟘) → D.derive v ≡ 𝟘
  constant-of_ratio v x y κ e dx dy some =
      let total : κ ⊗ x ⊕ y ⊗ D.derive v ≡ κ ⊗ x =
      ap (λ z. κ ⊗ z ⊕ y ⊗ D.derive v) (sym e) ∙ sym (moved (D.derive v) y v κ) ∙ ap (λ z. D.derive v ⊗ y ⊕ v ⊗ z) (sym dy) ∙ sym (D.derive-mul v y) ∙ ap D.derive e ∙ dx in
      FieldLaws.zero_of_mul F y (D.derive v) some (sym (rest (κ ⊗ x) (y ⊗ D.derive v)) ∙ ap (λ z. ⊖ (κ ⊗ x) ⊕ z) total ∙ none (κ ⊗ x))
