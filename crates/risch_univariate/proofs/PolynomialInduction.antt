-- Induction and recursion on polynomials: from 0, and from p to a + t·p.
use Rattle.std.specs.Prelude.{◌≡◌, ℕ, zero, suc, List, [], ◌∷◌}
use Rattle.std.proofs.Common.{refl, sym, ap, ap₂, subst, ◌∙◌}
use Rattle.risch_ring.specs.CommRing.{Field}
use Rattle.risch_ring.specs.Operators.{operators}
use Rattle.risch_univariate.specs.Polynomial.{Polynomial, coefficient, with_head, of_list, zero_polynomial}
use Rattle.risch_univariate.specs.PolynomialLaws.{polynomial_ext, coefficient-of_list, of_list-coefficients}
use Rattle.risch_univariate.specs.PolynomialRing.{polynomials, horner}
use Rattle.risch_univariate.proofs.Coefficients.{coefficient-horner-zero, coefficient-horner-suc, horner-coefficients}

module _ {A : Type 0} (F : Field A) where
  open (operators F.ring) use {𝟘, 𝟙, ◌+◌, ◌*◌, -◌}

  -- a polynomial is 0, or a + t·p
  of_list-nil : of_list F [] ≡ (polynomials F).zero
  unfolding polynomials zero_polynomial
  of_list-nil = refl

  -- the polynomial of a ∷ p is a + t·p
  of_list-cons : (a : A) (p : List A) → of_list F (a ∷ p) ≡ horner F a (of_list F p)
  of_list-cons a p = polynomial_ext F _ _ same
    where
      same : (i : ℕ) → coefficient F (of_list F (a ∷ p)) i ≡ coefficient F (horner F a (of_list F p)) i
      same zero = coefficient-of_list F (a ∷ p) zero ∙ sym (coefficient-horner-zero F a (of_list F p))
      same (suc i) = coefficient-of_list F (a ∷ p) (suc i) ∙ sym (coefficient-of_list F p i) ∙ sym (coefficient-horner-suc F a (of_list F p) i)

  -- induction: P(0), and P(p) gives P(a + t·p)
  pub polynomial_induction : (P : Polynomial F → Type 0) → P (polynomials F).zero → ((a : A) (p : Polynomial F) → P p → P (horner F a p)) → (p : Polynomial F) → P p
  polynomial_induction P base step p = subst P (of_list-coefficients F p) (go p.coefficients)
    where
      go : (l : List A) → P (of_list F l)
      go [] = subst P (sym of_list-nil) base
      go (a ∷ l) = subst P (sym (of_list-cons a l)) (step a (of_list F l) (go l))

  -- recursion: f(0) = z and f(a + t·p) = s a p f(p), where s 0 0 z = z
  abbrev recursion_on_list : {B : Type 0} → B → (A → Polynomial F → B → B) → List A → B
  recursion_on_list z s [] = z
  recursion_on_list z s (a ∷ p) = s a (of_list F p) (recursion_on_list z s p)

  -- the function f with f(0) = z and f(a + t·p) = s a p f(p)
  pub recursion : {B : Type 0} → B → (A → Polynomial F → B → B) → Polynomial F → B
  recursion z s p = recursion_on_list z s p.coefficients

  -- f(0) = z
  pub recursion-zero : {B : Type 0} (z : B) (s : A → Polynomial F → B → B) → recursion z s (polynomials F).zero ≡ z
  unfolding recursion polynomials zero_polynomial of_list
  recursion-zero z s = refl

  -- f(a + t·p) = s a p f(p), if s 0 0 z = z
  pub recursion-horner : {B : Type 0} (z : B) (s : A → Polynomial F → B → B) → s 𝟘 (polynomials F).zero z ≡ z
      → (a : A) (p : Polynomial F) → recursion z s (horner F a p) ≡ s a p (recursion z s p)
  unfolding recursion
  recursion-horner {B = B} z s base a p =
      ap (recursion_on_list z s) (horner-coefficients F a p) ∙ on_head p.coefficients ∙ ap (λ q. s a q (recursion_on_list z s p.coefficients)) (of_list-coefficients F p)
    where
      go : (d : Dec (a ≡ 𝟘)) → recursion_on_list z s (elim d as (λ d. List A) [ yes e ↦ [] | no n ↦ a ∷ [] ]) ≡ s a (of_list F []) z
      go (yes e) = sym (ap₂ (λ x q. s x q z) e of_list-nil ∙ base)
      go (no n) = refl

      on_head : (l : List A) → recursion_on_list z s (with_head F a l) ≡ s a (of_list F l) (recursion_on_list z s l)
      on_head [] = go (F.is_zero a)
      on_head (b ∷ l) = refl
