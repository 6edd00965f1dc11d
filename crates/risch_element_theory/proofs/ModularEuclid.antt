-- Euclid's remainders of a and b with their coefficients: r = s·b modulo a, deg s ≤ deg a - deg r', and common divisors stay.
use Rattle.std.proofs.Common.{◌≡◌, ℕ, ◌-◌, refl, ◌+◌, ◌≤◌, ◌<◌, [], ◌∷◌, sym, ap, subst, ◌∙◌, arith}
use Rattle.risch_ring.specs.CommRing.{CommRing, Field}
use Rattle.risch_ring.proofs.Laws as Laws
use Rattle.risch_ring.proofs.Expression.{reading}
use Rattle.risch_ring.proofs.Solver.{ring}
use Rattle.risch_univariate.specs.Polynomial.{Polynomial, constant}
use Rattle.risch_univariate.specs.Degree.{size}
use Rattle.risch_univariate.specs.Division.{IsDivision, Divides, IsCoprime}
use Rattle.risch_univariate.specs.PolynomialRing.{polynomials}
use Rattle.risch_univariate.proofs.Degree as Degree
use Rattle.risch_univariate.proofs.Divides as Divides
use Rattle.risch_univariate.proofs.Gcd as Gcd

module _ {A : Type 0} (F : Field A) where
  open (polynomials F) use {zero as 𝟘, one as 𝟙, add as ◌⊕◌, mul as ◌⊗◌, neg as ⊖◌}

  infixl 60 ◌⊕◌
  infixl 70 ◌⊗◌
  infix 80 ⊖◌
  abbrev R : CommRing (Polynomial F)
  R = polynomials F

  -- p = q·d + r gives p - r = q·d
  difference-remainder : (p d q r : Polynomial F) → IsDivision F p d q r → p ⊕ ⊖ r ≡ q ⊗ d
  difference-remainder p d q r x = sym (Laws.sub_of_add R p r (q ⊗ d) (x.equation ∙ R.add_comm (q ⊗ d) r))

  -- so d | p - r
  pub divides-remainder : (p d q r : Polynomial F) → IsDivision F p d q r → Divides F d (p ⊕ ⊖ r)
  divides-remainder p d q r x = record { cofactor = q; equation = difference-remainder p d q r x }

  -- size (q·s) + size d ≤ size p + size s for p = q·d + r
  quotient-product-size : (p d q r s : Polynomial F) → IsDivision F p d q r → size F d ≤ size F p → size F (q ⊗ s) + size F d ≤ size F p + size F s
  quotient-product-size p d q r s x l = elim (Degree.dec_zero F (q ⊗ s)) [
    | yes e ↦ let z = ap (size F) e in let none = Degree.size-zero F in omega (arith, z, none, l)
    | no n ↦
        let smaller = x.smaller in
        let q-not = Degree.nonzero_of_mul_left F q s n in
        let s-not = Degree.nonzero_of_mul_right F q s n in
        let d-not = Degree.nonzero_of_size F d (omega (arith, smaller)) in
        let e = Degree.size-mul-nonzero F q s q-not s-not in
        let f = Degree.size-mul-nonzero F q d q-not d-not in
        let g = ap (size F) (difference-remainder p d q r x) in
        let k = Degree.size-sub-le F p r (size F p) (omega arith) (omega (arith, smaller, l)) in
        omega (arith, e, f, g, k)
  ]

  -- what holds of two remainders r' and r in turn, with r' = s'·b and r = s·b modulo a
  pub record Reached (a b r' s' r s : Polynomial F) : Type 0 where
    pub congruent_before : Divides F a (r' ⊕ ⊖ (s' ⊗ b))
    pub congruent : Divides F a (r ⊕ ⊖ (s ⊗ b))
    pub common_left : (d : Polynomial F) → Divides F d r' → Divides F d r → Divides F d a
    pub common_right : (d : Polynomial F) → Divides F d r' → Divides F d r → Divides F d b
    pub not_constant : 2 ≤ size F r'
    pub smaller : size F r < size F r'
    pub bound_before : size F s' + size F r' ≤ size F a + 1
    pub bound : size F s + size F r' ≤ size F a + 1

  -- a and b rem a, with the coefficients 0 and 1
  pub reached-start : (a b q r : Polynomial F) → IsDivision F b a q r → 2 ≤ size F a → Reached a b a 𝟘 r 𝟙
  reached-start a b q r x l =
      let z = Degree.size-zero F in
      let w = Degree.size-one F in
      record {
        congruent_before = subst (Divides F a) (sym (none a b)) (Divides.divides_refl F a);
        congruent = subst (Divides F a) (turn b r) (Divides.divides-neg F a (b ⊕ ⊖ r) (divides-remainder b a q r x));
        common_left = λ d left right. left;
        common_right = λ d left right. subst (Divides F d) (sym x.equation) (Divides.divides-add F d (q ⊗ a) r (Divides.divides-mul_left F d q a left) right);
        not_constant = l;
        smaller = x.smaller;
        bound_before = omega (arith, z);
        bound = omega (arith, w);
      }
    where
      none : (a b : Polynomial F) → a ⊕ ⊖ (𝟘 ⊗ b) ≡ a
      none a b = ring R (a ∷ b ∷ []) (search reading depth 30 fits 4000) refl

      turn : (b r : Polynomial F) → ⊖ (b ⊕ ⊖ r) ≡ r ⊕ ⊖ (𝟙 ⊗ b)
      turn b r = ring R (b ∷ r ∷ []) (search reading depth 30 fits 4000) refl

  -- r' = q·r + r'', with the coefficient s' - q·s
  pub reached-next : (a b r' s' r s q r'' : Polynomial F) → Reached a b r' s' r s → IsDivision F r' r q r'' → 2 ≤ size F r → Reached a b r s r'' (s' ⊕ ⊖ (q ⊗ s))
  reached-next a b r' s' r s q r'' x y l =
      let smaller = x.smaller in
      let bound = x.bound in
      let bound_before = x.bound_before in
      let product = quotient-product-size r' r q r'' s y (omega (arith, smaller)) in
      let difference = λ (n : ℕ) (m : size F a + 1 ≡ n + size F r). Degree.size-sub-le F s' (q ⊗ s) n (omega (arith, m, bound_before, smaller)) (omega (arith, m, product, bound)) in
      record {
        congruent_before = x.congruent;
        congruent = subst (Divides F a) (ap (λ z. z ⊕ ⊖ (s' ⊗ b) ⊕ ⊖ (q ⊗ (r ⊕ ⊖ (s ⊗ b)))) y.equation ∙ combined q r r'' s' s b)
            (Divides.divides-sub F a (r' ⊕ ⊖ (s' ⊗ b)) (q ⊗ (r ⊕ ⊖ (s ⊗ b))) x.congruent_before (Divides.divides-mul_left F a q (r ⊕ ⊖ (s ⊗ b)) x.congruent));
        common_left = λ d left right. x.common_left d (before d left right) left;
        common_right = λ d left right. x.common_right d (before d left right) left;
        not_constant = l;
        smaller = y.smaller;
        bound_before = omega (arith, bound, smaller);
        bound = let room = difference (size F a + 1 - size F r) (omega (arith, bound, smaller)) in omega (arith, room, bound, smaller);
      }
    where
      combined : (q r v s' s b : Polynomial F) → q ⊗ r ⊕ v ⊕ ⊖ (s' ⊗ b) ⊕ ⊖ (q ⊗ (r ⊕ ⊖ (s ⊗ b))) ≡ v ⊕ ⊖ ((s' ⊕ ⊖ (q ⊗ s)) ⊗ b)
      combined q r v s' s b = ring R (q ∷ r ∷ v ∷ s' ∷ s ∷ b ∷ []) (search reading depth 40 fits 8000) refl

      before : (d : Polynomial F) → Divides F d r → Divides F d r'' → Divides F d r'
      before d left right = subst (Divides F d) (sym y.equation) (Divides.divides-add F d (q ⊗ r) r'' (Divides.divides-mul_left F d q r left) right)

  -- the remainder 0 after a remainder that is no constant: a and b are not coprime
  pub reached-zero : (a b r' s' r s : Polynomial F) → Reached a b r' s' r s → r ≡ 𝟘 → ¬ IsCoprime F a b
  reached-zero a b r' s' r s x e c =
      let divides = subst (Divides F r') (sym e) (Divides.divides-zero F r') in
      let unit = Gcd.size_of_unit F r' (Gcd.coprime-common_divisor F a b r' c (x.common_left r' (Divides.divides_refl F r') divides) (x.common_right r' (Divides.divides_refl F r') divides)) in
      let l = x.not_constant in
      absurd (omega (arith, unit, l))

  -- the remainder r in K with u·r = 1: u·s is the inverse of b
  pub reached-constant : (a b r' s' r s u : Polynomial F) → Reached a b r' s' r s → u ⊗ r ≡ 𝟙 → Divides F a (u ⊗ s ⊗ b ⊕ ⊖ 𝟙)
  reached-constant a b r' s' r s u x e =
      subst (Divides F a) (turn u r s b ∙ ap (λ z. u ⊗ s ⊗ b ⊕ ⊖ z) e) (Divides.divides-neg F a (u ⊗ (r ⊕ ⊖ (s ⊗ b))) (Divides.divides-mul_left F a u (r ⊕ ⊖ (s ⊗ b)) x.congruent))
    where
      turn : (u r s b : Polynomial F) → ⊖ (u ⊗ (r ⊕ ⊖ (s ⊗ b))) ≡ u ⊗ s ⊗ b ⊕ ⊖ (u ⊗ r)
      turn u r s b = ring R (u ∷ r ∷ s ∷ b ∷ []) (search reading depth 40 fits 8000) refl

  pub reached-size : (a b r' s' r s : Polynomial F) (u : A) → Reached a b r' s' r s → ¬ (u ≡ F.zero) → size F (constant F u ⊗ s) < size F a
  reached-size a b r' s' r s u x n =
      let e = Degree.size-constant_mul F u s n in
      let bound = x.bound in
      let l = x.not_constant in
      omega (arith, e, bound, l)

  -- a | i·b - 1, a | c - x and a | i·x - r give a | c - b·r
  pub divides-solution : (a b c i x r : Polynomial F) → Divides F a (i ⊗ b ⊕ ⊖ 𝟙) → Divides F a (c ⊕ ⊖ x) → Divides F a (i ⊗ x ⊕ ⊖ r) → Divides F a (c ⊕ ⊖ (b ⊗ r))
  divides-solution a b c i x r inverse first second =
      subst (Divides F a) (combined b c i x r)
      (Divides.divides-add F a (⊖ (c ⊗ (i ⊗ b ⊕ ⊖ 𝟙))) (b ⊗ i ⊗ (c ⊕ ⊖ x) ⊕ b ⊗ (i ⊗ x ⊕ ⊖ r))
      (Divides.divides-neg F a (c ⊗ (i ⊗ b ⊕ ⊖ 𝟙)) (Divides.divides-mul_left F a c (i ⊗ b ⊕ ⊖ 𝟙) inverse))
      (Divides.divides-add F a (b ⊗ i ⊗ (c ⊕ ⊖ x)) (b ⊗ (i ⊗ x ⊕ ⊖ r)) (Divides.divides-mul_left F a (b ⊗ i) (c ⊕ ⊖ x) first) (Divides.divides-mul_left F a b (i ⊗ x ⊕ ⊖ r) second)))
    where
      combined : (b c i x r : Polynomial F) → ⊖ (c ⊗ (i ⊗ b ⊕ ⊖ 𝟙)) ⊕ (b ⊗ i ⊗ (c ⊕ ⊖ x) ⊕ b ⊗ (i ⊗ x ⊕ ⊖ r)) ≡ c ⊕ ⊖ (b ⊗ r)
      combined b c i x r = ring R (b ∷ c ∷ i ∷ x ∷ r ∷ []) (search reading depth 40 fits 8000) refl
