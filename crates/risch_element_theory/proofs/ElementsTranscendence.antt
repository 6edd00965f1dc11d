-- Values of polynomials at a transcendental element: a polynomial of K[t] with coefficients among the given elements is determined by its value.
use Rattle.std.proofs.Common.{◌≡◌, ℕ, zero, suc, List, [], ◌∷◌, length, refl, sym, ◌∙◌, ap, ap₂, arith}
use Rattle.risch_ring.specs.CommRing.{CommRing, Field}
use Rattle.risch_ring.specs.Lists.{Each}
use Rattle.risch_ring.proofs.Laws as Laws
use Rattle.risch_ring.proofs.RingMaps as RingMaps
use Rattle.risch_ring.proofs.RingMaps.{identity_map}
use Rattle.risch_univariate.specs.Polynomial.{Polynomial, IsTrimmed, coefficient, zero_polynomial, of_list, constant, with_head, trim, add_lists, scale_list, neg_list, mul_lists, add_polynomials, neg_polynomial, mul_polynomials}
use Rattle.risch_univariate.specs.PolynomialRing.{polynomials, horner}
use Rattle.risch_univariate.specs.PolynomialLaws.{polynomial_ext, coefficient-of_list, of_list-coefficients}
use Rattle.risch_univariate.proofs.Coefficients as Coefficients
use Rattle.risch_univariate.proofs.Evaluation as Evaluation
use Rattle.risch_mean.specs.Univariate.{value_at}
use Rattle.risch_element_theory.specs.ElementMeaning.{IsClosed, IsTranscendental}

module _ {A : Type 0} (F : Field A) where
  -- the polynomial with the coefficients a, p_0, p_1, .. is a + t·p
  pub of_list-cons : (a : A) (p : List A) → of_list F (a ∷ p) ≡ horner F a (of_list F p)
  of_list-cons a p = polynomial_ext F (of_list F (a ∷ p)) (horner F a (of_list F p)) same
    where
      same : (i : ℕ) → coefficient F (of_list F (a ∷ p)) i ≡ coefficient F (horner F a (of_list F p)) i
      same zero = coefficient-of_list F (a ∷ p) zero ∙ sym (Coefficients.coefficient-horner-zero F a (of_list F p))
      same (suc i) = coefficient-of_list F (a ∷ p) (suc i) ∙ sym (Coefficients.coefficient-horner-suc F a (of_list F p) i ∙ coefficient-of_list F p i)

  -- the polynomial with no coefficient is 0
  pub of_list-nil : of_list F [] ≡ (polynomials F).zero
  unfolding polynomials zero_polynomial
  of_list-nil = refl

module _ {A : Type 0} (F : Field A) (t : A) where
  abbrev R : CommRing (Polynomial F)
  R = polynomials F

  -- p(t)
  abbrev pub at : Polynomial F → A
  at p = Evaluation.value F F.ring (identity_map F.ring) t p

  -- p(t) = p_0 + p_1·t + ..
  pub at-of_list : (p : List A) → at (of_list F p) ≡ value_at F.ring t p
  at-of_list [] = ap at (of_list-nil F) ∙ Evaluation.value-zero F F.ring (identity_map F.ring) t
  at-of_list (a ∷ p) =
      ap at (of_list-cons F a p) ∙ Evaluation.value-horner F F.ring (identity_map F.ring) t a (of_list F p) ∙ ap (λ v. F.ring.add a (F.ring.mul t v)) (at-of_list p)

  -- (p + q)(t) = p(t) + q(t)
  pub at-add : (p q : Polynomial F) → at (R.add p q) ≡ F.ring.add (at p) (at q)
  at-add p q = Evaluation.value-add F F.ring (identity_map F.ring) t p q

  -- (p·q)(t) = p(t)·q(t)
  pub at-mul : (p q : Polynomial F) → at (R.mul p q) ≡ F.ring.mul (at p) (at q)
  at-mul p q = Evaluation.value-mul F F.ring (identity_map F.ring) t p q

  -- 1(t) = 1
  pub at-one : at R.one ≡ F.ring.one
  at-one = Evaluation.value-one F F.ring (identity_map F.ring) t

  -- a(t) = a for a in K
  pub at-constant : (a : A) → at (constant F a) ≡ a
  at-constant a = Evaluation.value-constant F F.ring (identity_map F.ring) t a

  -- (-p)(t) = -p(t)
  pub at-neg : (p : Polynomial F) → at (R.neg p) ≡ F.ring.neg (at p)
  at-neg p = RingMaps.apply-neg (Evaluation.evaluation F F.ring (identity_map F.ring) t) p

module _ {A : Type 0} (F : Field A) (P : A → Type 0) (c : IsClosed F P) where
  Each-with_head : (a : A) (p : List A) → P a → Each P p → Each P (with_head F a p)
  Each-with_head a [] x xs = by_zero (F.is_zero a)
    where
      by_zero : (d : Dec (a ≡ F.ring.zero)) → Each P (elim d as (λ d. List A) [ yes e ↦ [] | no n ↦ a ∷ [] ])
      by_zero (yes e) = tt
      by_zero (no n) = (x, tt)
  Each-with_head a (b ∷ p) x xs = (x, xs)

  -- without the zeros at the end
  pub Each-trim : (p : List A) → Each P p → Each P (trim F p)
  Each-trim [] xs = tt
  Each-trim (a ∷ p) xs = Each-with_head a (trim F p) xs.0 (Each-trim p xs.1)

  Each-add : (p q : List A) → Each P p → Each P q → Each P (add_lists F p q)
  Each-add [] q xs ys = ys
  Each-add (a ∷ p) [] xs ys = xs
  Each-add (a ∷ p) (b ∷ q) xs ys = (c.add_in a b xs.0 ys.0, Each-add p q xs.1 ys.1)

  Each-scale : (a : A) (p : List A) → P a → Each P p → Each P (scale_list F a p)
  Each-scale a [] x xs = tt
  Each-scale a (b ∷ p) x xs = (c.mul_in a b x xs.0, Each-scale a p x xs.1)

  Each-neg : (p : List A) → Each P p → Each P (neg_list F p)
  Each-neg [] xs = tt
  Each-neg (a ∷ p) xs = (c.neg_in a xs.0, Each-neg p xs.1)

  Each-mul : (p q : List A) → Each P p → Each P q → Each P (mul_lists F p q)
  Each-mul [] q xs ys = tt
  Each-mul (a ∷ p) q xs ys = Each-add (scale_list F a q) (F.ring.zero ∷ mul_lists F p q) (Each-scale a q xs.0 ys) (c.zero_in, Each-mul p q xs.1 ys)

  -- the coefficients are among the elements
  abbrev pub Over : Polynomial F → Type 0
  Over p = Each P p.coefficients

  -- the polynomial of a list of such elements
  pub Over-of_list : (p : List A) → Each P p → Over (of_list F p)
  unfolding of_list
  Over-of_list p xs = Each-trim p xs

  -- p + q
  pub Over-add : (p q : Polynomial F) → Over p → Over q → Over ((polynomials F).add p q)
  unfolding polynomials add_polynomials
  Over-add p q xs ys = Over-of_list (add_lists F p.coefficients q.coefficients) (Each-add p.coefficients q.coefficients xs ys)

  -- -p
  pub Over-neg : (p : Polynomial F) → Over p → Over ((polynomials F).neg p)
  unfolding polynomials neg_polynomial
  Over-neg p xs = Over-of_list (neg_list F p.coefficients) (Each-neg p.coefficients xs)

  -- p·q
  pub Over-mul : (p q : Polynomial F) → Over p → Over q → Over ((polynomials F).mul p q)
  unfolding polynomials mul_polynomials
  Over-mul p q xs ys = Over-of_list (mul_lists F p.coefficients q.coefficients) (Each-mul p.coefficients q.coefficients xs ys)

  module _ (t : A) (transcendental : IsTranscendental F P t) where
    zero_list : (p : List A) → IsTrimmed F p → Each (λ x. x ≡ F.ring.zero) p → p ≡ []
    zero_list [] w z = refl
    zero_list (a ∷ []) w z = absurd (w z.0)
    zero_list (a ∷ (b ∷ p)) w z = let e : suc (length p) ≡ 0 = ap length (zero_list (b ∷ p) w z.1) in absurd (omega arith)

    -- p(t) = 0 gives p = 0
    pub zero_of_value : (p : Polynomial F) → Over p → at F t p ≡ F.ring.zero → p ≡ (polynomials F).zero
    zero_of_value p xs e =
        let value_is : value_at F.ring t p.coefficients ≡ F.ring.zero = sym (at-of_list F t p.coefficients) ∙ ap (at F t) (of_list-coefficients F p) ∙ e in
        let none = zero_list p.coefficients p.is_trimmed (transcendental p.coefficients xs value_is) in
        sym (of_list-coefficients F p) ∙ ap (of_list F) none ∙ of_list-nil F

    -- p(t) = q(t) gives p = q
    pub same_of_value : (p q : Polynomial F) → Over p → Over q → at F t p ≡ at F t q → p ≡ q
    same_of_value p q xs ys e =
        Laws.eq_of_sub (polynomials F) p q
        (zero_of_value ((polynomials F).add p ((polynomials F).neg q)) (Over-add p ((polynomials F).neg q) xs (Over-neg q ys))
        (at-add F t p ((polynomials F).neg q) ∙ ap₂ F.ring.add e (at-neg F t q) ∙ F.ring.add-neg (at F t q)))
