-- What the operations of K(t) represent: the sum, product, negative and inverse of a/b and c/d.
use Rattle.std.specs.Prelude.{◌≡◌}
use Rattle.std.proofs.Common.{refl, sym, ap, ap₂, subst, ◌∙◌}
use Rattle.risch_ring.specs.CommRing.{CommRing, Field}
use Rattle.risch_univariate.specs.Polynomial.{Polynomial}
use Rattle.risch_univariate.proofs.Degree as Degree
use Rattle.risch_univariate.specs.PolynomialRing.{polynomials}
use Rattle.risch_fraction_field.specs.Fraction.{Fraction, Represents, denominator-nonzero, fraction, of_polynomial, invert_fraction}
use Rattle.risch_fraction_field.specs.FractionLaws.{represents_same, represents_fraction, add_represents, mul_represents, neg_represents, represents-polynomial, numerator_of_zero, zero_of_numerator}
use Rattle.risch_fraction_field.specs.FractionField.{fractions, polynomial_map}
use Rattle.risch_ring.proofs.RingMaps as RingMaps

module _ {A : Type 0} (F : Field A) where
  abbrev R : CommRing (Polynomial F)
  R = polynomials F

  -- a/b + c/d = (a·d + c·b)/(b·d)
  pub represents-add : (f g : Fraction F) (a b c d : Polynomial F) → Represents F f a b → Represents F g c d
      → Represents F ((fractions F).add f g) (R.add (R.mul a d) (R.mul c b)) (R.mul b d)
  unfolding fractions
  represents-add = add_represents F

  -- a/b·c/d = (a·c)/(b·d)
  pub represents-mul : (f g : Fraction F) (a b c d : Polynomial F) → Represents F f a b → Represents F g c d → Represents F ((fractions F).mul f g) (R.mul a c) (R.mul b d)
  unfolding fractions
  represents-mul = mul_represents F

  -- -(a/b) = (-a)/b
  pub represents-neg : (f : Fraction F) (a b : Polynomial F) → Represents F f a b → Represents F ((fractions F).neg f) (R.neg a) b
  unfolding fractions
  represents-neg = neg_represents F

  -- 0 = 0/1
  pub represents-zero : Represents F (fractions F).zero R.zero R.one
  unfolding fractions
  represents-zero = represents-polynomial F R.zero

  -- 1 = 1/1
  pub represents-one : Represents F (fractions F).one R.one R.one
  unfolding fractions
  represents-one = represents-polynomial F R.one

  -- num(0) = 0
  pub numerator-zero : (fractions F).zero.numerator ≡ R.zero
  unfolding fractions
  numerator-zero = numerator_of_zero F (of_polynomial F R.zero) refl

  -- num(f) = 0 gives f = 0
  pub zero_of_numerator-zero : (f : Fraction F) → f.numerator ≡ R.zero → f ≡ (fractions F).zero
  unfolding fractions
  zero_of_numerator-zero = zero_of_numerator F

  -- f ≠ 0 gives num(f) ≠ 0
  pub numerator-nonzero : (f : Fraction F) → ¬ (f ≡ (fractions F).zero) → ¬ (f.numerator ≡ R.zero)
  numerator-nonzero f h e = h (zero_of_numerator-zero f e)

  -- 1/(a/b) = b/a
  pub represents-inverse : (f : Fraction F) (a b : Polynomial F) → ¬ (f ≡ (fractions F).zero) → Represents F f a b → Represents F ((fractions F).inverse f) b a
  unfolding fractions
  represents-inverse f a b h r = go (Degree.dec_zero F f.numerator)
    where
      go : (d : Dec (f.numerator ≡ R.zero)) → Represents F (invert_fraction F f d) b a
      go (yes e) = absurd (h (zero_of_numerator F f e))
      go (no n) = unfold invert_fraction in
          represents_same F (fraction F f.denominator f.numerator n) f.denominator f.numerator b a n (represents_fraction F f.denominator f.numerator n)
          (R.mul_comm f.denominator a ∙ sym r ∙ R.mul_comm f.numerator b)

  -- p in K(t) is p/1
  pub polynomial_map-apply : (p : Polynomial F) → (polynomial_map F).apply p ≡ of_polynomial F p
  unfolding polynomial_map
  polynomial_map-apply p = refl

  -- p = q in K(t) only where p = q
  pub of_polynomial-injective : (p q : Polynomial F) → of_polynomial F p ≡ of_polynomial F q → p ≡ q
  of_polynomial-injective p q e =
      sym (R.mul-one p)
      ∙ Degree.mul_polynomials_cancel F (of_polynomial F q).denominator (R.mul p R.one) (R.mul q R.one) (denominator-nonzero F (of_polynomial F q))
      (cross_of (of_polynomial F q) p q (subst (λ f. Represents F f p R.one) e (represents-polynomial F p)) (represents-polynomial F q))
      ∙ R.mul-one q
    where
      cross_of : (f : Fraction F) (p q : Polynomial F) → Represents F f p R.one → Represents F f q R.one → R.mul f.denominator (R.mul p R.one) ≡ R.mul f.denominator (R.mul q R.one)
      cross_of f p q h k =
          ap (R.mul f.denominator) (R.mul-one p) ∙ R.mul_comm f.denominator p ∙ sym h ∙ k ∙ R.mul_comm q f.denominator ∙ ap (R.mul f.denominator) (sym (R.mul-one q))

  -- 0 in K(t) is 0/1
  pub of_polynomial-zero : of_polynomial F R.zero ≡ (fractions F).zero
  of_polynomial-zero = sym (polynomial_map-apply R.zero) ∙ RingMaps.apply-zero (polynomial_map F)

  -- 1 in K(t) is 1/1
  pub of_polynomial-one : of_polynomial F R.one ≡ (fractions F).one
  of_polynomial-one = sym (polynomial_map-apply R.one) ∙ (polynomial_map F).apply-one

  -- p + q in K(t)
  pub of_polynomial-add : (p q : Polynomial F) → of_polynomial F (R.add p q) ≡ (fractions F).add (of_polynomial F p) (of_polynomial F q)
  of_polynomial-add p q = sym (polynomial_map-apply _) ∙ (polynomial_map F).apply-add p q ∙ ap₂ (fractions F).add (polynomial_map-apply p) (polynomial_map-apply q)

  -- p·q in K(t)
  pub of_polynomial-mul : (p q : Polynomial F) → of_polynomial F (R.mul p q) ≡ (fractions F).mul (of_polynomial F p) (of_polynomial F q)
  of_polynomial-mul p q = sym (polynomial_map-apply _) ∙ (polynomial_map F).apply-mul p q ∙ ap₂ (fractions F).mul (polynomial_map-apply p) (polynomial_map-apply q)

  -- -p in K(t)
  pub of_polynomial-neg : (p : Polynomial F) → of_polynomial F (R.neg p) ≡ (fractions F).neg (of_polynomial F p)
  of_polynomial-neg p = sym (polynomial_map-apply (R.neg p)) ∙ RingMaps.apply-neg (polynomial_map F) p ∙ ap (fractions F).neg (polynomial_map-apply p)

  -- p ≠ 0 in K[t] gives p ≠ 0 in K(t)
  pub of_polynomial-nonzero : (p : Polynomial F) → ¬ (p ≡ R.zero) → ¬ (of_polynomial F p ≡ (fractions F).zero)
  of_polynomial-nonzero p n e = n (of_polynomial-injective p R.zero (e ∙ sym of_polynomial-zero))
