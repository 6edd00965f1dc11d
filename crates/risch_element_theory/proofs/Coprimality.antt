-- An inverse of b modulo a tells that a and b are coprime.
use Rattle.std.specs.Prelude.{◌↔◌, IsTrue, Option, None, Some, List}
use Rattle.std.specs.Option.{is_some}
use Rattle.std.proofs.Common.{◌≡◌, Bool, true, false, [], ◌∷◌, refl, sym, ap, ◌∙◌}
use Rattle.risch_ring.specs.CommRing.{CommRing, Field, sub}
use Rattle.risch_ring.proofs.Expression.{reading}
use Rattle.risch_ring.proofs.Solver.{ring}
use Rattle.risch_univariate.specs.Polynomial.{Polynomial}
use Rattle.risch_univariate.specs.Division.{Divides, IsCoprime}
use Rattle.risch_univariate.specs.PolynomialRing.{polynomials}
use Rattle.risch_mean.specs.ElementField.{elements}
use Rattle.risch_level.specs.Levels.{Element}
use Rattle.risch_element_theory.specs.WholeTower.{polynomial}
use Rattle.risch_element_theory.specs.ElementPolynomials.{IsInverseModulo}

module _ {A : Type 0} (R : CommRing A) where
  open R use {zero as 𝟘, one as 𝟙, add as ◌⊕◌, mul as ◌⊗◌, neg as ⊖◌}

  infixl 60 ◌⊕◌
  infixl 70 ◌⊗◌
  infix 80 ⊖◌
  out : (k a i b : A) → ⊖ k ⊗ a ⊕ i ⊗ b ≡ ⊖ (k ⊗ a) ⊕ i ⊗ b
  out k a i b = ring R (k ∷ a ∷ i ∷ b ∷ []) (search reading depth 30 fits 4000) refl

  rest : (m : A) → ⊖ (m ⊕ ⊖ 𝟙) ⊕ m ≡ 𝟙
  rest m = ring R (m ∷ []) (search reading depth 30 fits 4000) refl

  -- i·b - 1 = k·a gives (-k)·a + i·b = 1
  pub combination : (k a i b : A) → sub R (i ⊗ b) 𝟙 ≡ k ⊗ a → ⊖ k ⊗ a ⊕ i ⊗ b ≡ 𝟙
  combination k a i b e = out k a i b ∙ ap (λ w. ⊖ w ⊕ i ⊗ b) (sym e) ∙ rest (i ⊗ b)

pub coprime_of_inverse : {A : Type 0} (F : Field A) (a b i : Polynomial F) → Divides F a (sub (polynomials F) ((polynomials F).mul i b) (polynomials F).one) → IsCoprime F a b
coprime_of_inverse F a b i d = record { left = (polynomials F).neg d.cofactor; right = i; equation = combination (polynomials F) d.cofactor a i b d.equation }

pub inverse-told : (b a : List Element) (i : Option (List Element)) → IsInverseModulo b a i → IsTrue (is_some i) ↔ IsCoprime elements (polynomial a) (polynomial b)
inverse-told b a None none = (λ e. absurd (true_false e), λ c. absurd (none c))
  where
    true_false : false ≡ true → ⊥
    true_false e = cc
inverse-told b a (Some i) inverse = (λ e. coprime_of_inverse elements (polynomial a) (polynomial b) (polynomial i) inverse.divides, λ c. refl)
