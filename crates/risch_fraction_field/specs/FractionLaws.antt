-- The laws of the operations on rational functions: which fractions a/b they are, and the laws of a field.
use Rattle.std.specs.Prelude.{◌≡◌}
use Rattle.std.proofs.Common.{refl, sym, ap, ap₂, subst, ◌∙◌}
use mathlib.Core.HLevel.{is_prop→PathP}
use Rattle.risch_ring.specs.CommRing.{CommRing, Field}
use Rattle.risch_ring.proofs.Laws as Laws
use Rattle.risch_univariate.specs.Polynomial.{Polynomial}
use Rattle.risch_univariate.specs.Degree.{size, leading_coefficient, IsMonic}
use Rattle.risch_univariate.specs.Division.{Divides, IsCoprime}
use Rattle.risch_univariate.proofs.Degree as Degree
use Rattle.risch_univariate.proofs.Gcd as Gcd
use Rattle.risch_univariate.proofs.QuotientIdentities as QuotientIdentities
use Rattle.risch_univariate.specs.PolynomialRing.{polynomials}
use Rattle.risch_univariate.specs.PolynomialLaws.{Polynomial-set}
use Rattle.risch_fraction_field.specs.Fraction.{Fraction, Represents, denominator-nonzero, denominators-nonzero, left_cofactor, right_cofactor, unit, fraction, of_polynomial, add_fractions, mul_fractions, neg_fraction, invert_fraction}

module _ {A : Type 0} (F : Field A) where
  abbrev R : CommRing (Polynomial F)
  R = polynomials F

  -- fractions with equal numerators and denominators are equal
  pub same_fraction : (f g : Fraction F) → f.numerator ≡ g.numerator → f.denominator ≡ g.denominator → f ≡ g
  same_fraction f g n d = λ i. record {
    numerator = n i;
    denominator = d i;
    is_monic = is_prop→PathP (λ j. IsMonic F (d j)) (λ j. F.is_set (leading_coefficient F (d j)) F.one) f.is_monic g.is_monic i;
    is_reduced = is_prop→PathP (λ j. Gcd.gcd F (n j) (d j) ≡ R.one) (λ j. Polynomial-set F (Gcd.gcd F (n j) (d j)) R.one) f.is_reduced g.is_reduced i;
  }

  -- gcd(num(f), den(f)) = 1
  pub fraction-coprime : (f : Fraction F) → IsCoprime F f.numerator f.denominator
  fraction-coprime f = Gcd.coprime_of_size F f.numerator f.denominator (ap (size F) f.is_reduced ∙ Degree.size-one F)

  -- f = num(f) / den(f)
  pub represents_self : (f : Fraction F) → Represents F f f.numerator f.denominator
  represents_self f = refl

  -- f·b = a gives num(f) / den(f) = c / d where a / b = c / d
  cross : (n e a b c d : Polynomial F) → R.mul n b ≡ R.mul a e → R.mul a d ≡ R.mul c b → R.mul b (R.mul n d) ≡ R.mul b (R.mul c e)
  cross n e a b c d h k =
      Laws.mul_swap R b n d ∙ ap (λ z. R.mul z d) h ∙ Laws.mul_right_comm R a e d ∙ ap (λ z. R.mul z e) k ∙ Laws.mul_turn R c b e

  -- a / b = c / d gives that f = a / b is c / d
  pub represents_same : (f : Fraction F) (a b c d : Polynomial F) → ¬ (b ≡ R.zero) → Represents F f a b → R.mul a d ≡ R.mul c b → Represents F f c d
  represents_same f a b c d n h k =
      Degree.mul_polynomials_cancel F b (R.mul f.numerator d) (R.mul c f.denominator) n (cross f.numerator f.denominator a b c d h k)

  -- num(f)·den(g) = num(g)·den(f) gives f = g
  pub fraction_of_cross : (f g : Fraction F) → R.mul f.numerator g.denominator ≡ R.mul g.numerator f.denominator → f ≡ g
  fraction_of_cross f g e = same_fraction f g numerators denominators
    where
      left : Divides F f.denominator g.denominator
      left = Gcd.coprime-divides_of_mul F f.denominator f.numerator g.denominator (Gcd.coprime_sym F f.numerator f.denominator (fraction-coprime f))
          (record { cofactor = g.numerator; equation = e })

      right : Divides F g.denominator f.denominator
      right = Gcd.coprime-divides_of_mul F g.denominator g.numerator f.denominator (Gcd.coprime_sym F g.numerator g.denominator (fraction-coprime g))
          (record { cofactor = f.numerator; equation = sym e })

      denominators : f.denominator ≡ g.denominator
      denominators = Gcd.monic_antisymm F f.denominator g.denominator f.is_monic g.is_monic left right

      numerators : f.numerator ≡ g.numerator
      numerators = Degree.mul_polynomials_cancel F f.denominator f.numerator g.numerator (denominator-nonzero F f)
          (R.mul_comm f.denominator f.numerator ∙ ap (R.mul f.numerator) denominators ∙ e ∙ R.mul_comm g.numerator f.denominator)

  -- f = a / b and g = c / d with a·d = c·b give f = g
  pub represents_unique : (f g : Fraction F) (a b c d : Polynomial F) → ¬ (b ≡ R.zero) → ¬ (d ≡ R.zero) → Represents F f a b → Represents F g c d
      → R.mul a d ≡ R.mul c b → f ≡ g
  represents_unique f g a b c d nb nd h k e = fraction_of_cross f g
      (represents_same f c d g.numerator g.denominator nd (represents_same f a b c d nb h e) (sym k))

  -- a/b is represented by a and b
  pub represents_fraction : (a b : Polynomial F) (n : ¬ (b ≡ R.zero)) → Represents F (fraction F a b n) a b
  unfolding fraction left_cofactor right_cofactor unit
  represents_fraction a b n =
      ap (R.mul (R.mul (unit F a b) (left_cofactor F a b))) (Gcd.gcd-divides_right F a b).equation
      ∙ QuotientIdentities.reduced_identity R (unit F a b) (left_cofactor F a b) (right_cofactor F a b) (Gcd.gcd F a b)
      ∙ ap₂ R.mul (sym (Gcd.gcd-divides_left F a b).equation) (sym (Gcd.monic-equation F (right_cofactor F a b)))

  -- a/b + c/d = (a·d + c·b)/(b·d)
  pub add_represents : (f g : Fraction F) (a b c d : Polynomial F) → Represents F f a b → Represents F g c d
      → Represents F (add_fractions F f g) (R.add (R.mul a d) (R.mul c b)) (R.mul b d)
  unfolding add_fractions
  add_represents f g a b c d h k =
      let x = fraction F (R.add (R.mul f.numerator g.denominator) (R.mul g.numerator f.denominator)) (R.mul f.denominator g.denominator) (denominators-nonzero F f g) in
      represents_same x (R.add (R.mul f.numerator g.denominator) (R.mul g.numerator f.denominator)) (R.mul f.denominator g.denominator)
      (R.add (R.mul a d) (R.mul c b)) (R.mul b d) (denominators-nonzero F f g)
      (represents_fraction _ _ (denominators-nonzero F f g))
      (QuotientIdentities.add_represents_identity R f.numerator g.numerator f.denominator g.denominator b d
      ∙ ap₂ (λ y z. R.add (R.mul y (R.mul g.denominator d)) (R.mul z (R.mul f.denominator b))) h k
      ∙ QuotientIdentities.add_represents_identity' R a c f.denominator g.denominator b d)

  -- a/b·c/d = (a·c)/(b·d)
  pub mul_represents : (f g : Fraction F) (a b c d : Polynomial F) → Represents F f a b → Represents F g c d → Represents F (mul_fractions F f g) (R.mul a c) (R.mul b d)
  unfolding mul_fractions
  mul_represents f g a b c d h k =
      let x = fraction F (R.mul f.numerator g.numerator) (R.mul f.denominator g.denominator) (denominators-nonzero F f g) in
      represents_same x (R.mul f.numerator g.numerator) (R.mul f.denominator g.denominator) (R.mul a c) (R.mul b d) (denominators-nonzero F f g)
      (represents_fraction _ _ (denominators-nonzero F f g))
      (Laws.mul_exchange R f.numerator g.numerator b d ∙ ap₂ R.mul h k ∙ Laws.mul_exchange R a f.denominator c g.denominator)

  -- -(a/b) = (-a)/b
  pub neg_represents : (f : Fraction F) (a b : Polynomial F) → Represents F f a b → Represents F (neg_fraction F f) (R.neg a) b
  unfolding neg_fraction
  neg_represents f a b h =
      represents_same (fraction F (R.neg f.numerator) f.denominator (denominator-nonzero F f)) (R.neg f.numerator) f.denominator (R.neg a) b (denominator-nonzero F f)
      (represents_fraction _ _ (denominator-nonzero F f))
      (Laws.neg-mul R f.numerator b ∙ ap R.neg h ∙ sym (Laws.neg-mul R a f.denominator))

  -- p = p/1
  pub represents-polynomial : (p : Polynomial F) → Represents F (of_polynomial F p) p R.one
  unfolding of_polynomial
  represents-polynomial p = represents_fraction p R.one (Degree.one-ne-zero F)

  three-nonzero : (f g h : Fraction F) → ¬ (R.mul (R.mul f.denominator g.denominator) h.denominator ≡ R.zero)
  three-nonzero f g h = Degree.mul_polynomials-nonzero F (R.mul f.denominator g.denominator) h.denominator (denominators-nonzero F f g) (denominator-nonzero F h)

  three-nonzero' : (f g h : Fraction F) → ¬ (R.mul f.denominator (R.mul g.denominator h.denominator) ≡ R.zero)
  three-nonzero' f g h = Degree.mul_polynomials-nonzero F f.denominator (R.mul g.denominator h.denominator) (denominator-nonzero F f) (denominators-nonzero F g h)

  pub add_fractions_assoc : (f g h : Fraction F) → add_fractions F (add_fractions F f g) h ≡ add_fractions F f (add_fractions F g h)
  add_fractions_assoc f g h = represents_unique _ _ _ _ _ _ (three-nonzero f g h) (three-nonzero' f g h)
      (add_represents (add_fractions F f g) h _ _ h.numerator h.denominator (add_represents f g f.numerator f.denominator g.numerator g.denominator refl refl) refl)
      (add_represents f (add_fractions F g h) f.numerator f.denominator _ _ refl (add_represents g h g.numerator g.denominator h.numerator h.denominator refl refl))
      (QuotientIdentities.add_fractions_assoc_identity R f.numerator f.denominator g.numerator g.denominator h.numerator h.denominator)

  pub add_fractions_comm : (f g : Fraction F) → add_fractions F f g ≡ add_fractions F g f
  add_fractions_comm f g = represents_unique _ _ _ _ _ _ (denominators-nonzero F f g) (denominators-nonzero F g f)
      (add_represents f g f.numerator f.denominator g.numerator g.denominator refl refl)
      (add_represents g f g.numerator g.denominator f.numerator f.denominator refl refl)
      (QuotientIdentities.add_fractions_comm_identity R f.numerator f.denominator g.numerator g.denominator)

  pub add_fractions-zero : (f : Fraction F) → add_fractions F f (of_polynomial F R.zero) ≡ f
  add_fractions-zero f = represents_unique _ f _ _ _ _ (Degree.mul_polynomials-nonzero F f.denominator R.one (denominator-nonzero F f) (Degree.one-ne-zero F)) (denominator-nonzero F f)
      (add_represents f (of_polynomial F R.zero) f.numerator f.denominator R.zero R.one refl (represents-polynomial R.zero))
      (represents_self f)
      (ap (λ z. R.mul z f.denominator) (ap₂ R.add (R.mul-one f.numerator) (Laws.zero-mul R f.denominator) ∙ R.add-zero f.numerator)
      ∙ ap (R.mul f.numerator) (sym (R.mul-one f.denominator)))

  pub add_fractions-neg : (f : Fraction F) → add_fractions F f (neg_fraction F f) ≡ of_polynomial F R.zero
  add_fractions-neg f = represents_unique _ _ _ _ _ _ (denominators-nonzero F f f) (Degree.one-ne-zero F)
      (add_represents f (neg_fraction F f) f.numerator f.denominator (R.neg f.numerator) f.denominator refl (neg_represents f f.numerator f.denominator refl))
      (represents-polynomial R.zero)
      (ap (λ z. R.mul z R.one) (ap (R.add (R.mul f.numerator f.denominator)) (Laws.neg-mul R f.numerator f.denominator) ∙ R.add-neg (R.mul f.numerator f.denominator))
      ∙ Laws.zero-mul R R.one ∙ sym (Laws.zero-mul R (R.mul f.denominator f.denominator)))

  pub mul_fractions_assoc : (f g h : Fraction F) → mul_fractions F (mul_fractions F f g) h ≡ mul_fractions F f (mul_fractions F g h)
  mul_fractions_assoc f g h = represents_unique _ _ _ _ _ _ (three-nonzero f g h) (three-nonzero' f g h)
      (mul_represents (mul_fractions F f g) h _ _ h.numerator h.denominator (mul_represents f g f.numerator f.denominator g.numerator g.denominator refl refl) refl)
      (mul_represents f (mul_fractions F g h) f.numerator f.denominator _ _ refl (mul_represents g h g.numerator g.denominator h.numerator h.denominator refl refl))
      (ap₂ R.mul (R.mul_assoc f.numerator g.numerator h.numerator) (sym (R.mul_assoc f.denominator g.denominator h.denominator)))

  pub mul_fractions_comm : (f g : Fraction F) → mul_fractions F f g ≡ mul_fractions F g f
  mul_fractions_comm f g = represents_unique _ _ _ _ _ _ (denominators-nonzero F f g) (denominators-nonzero F g f)
      (mul_represents f g f.numerator f.denominator g.numerator g.denominator refl refl)
      (mul_represents g f g.numerator g.denominator f.numerator f.denominator refl refl)
      (ap₂ R.mul (R.mul_comm f.numerator g.numerator) (R.mul_comm g.denominator f.denominator))

  pub mul_fractions-one : (f : Fraction F) → mul_fractions F f (of_polynomial F R.one) ≡ f
  mul_fractions-one f = represents_unique _ f _ _ _ _ (Degree.mul_polynomials-nonzero F f.denominator R.one (denominator-nonzero F f) (Degree.one-ne-zero F)) (denominator-nonzero F f)
      (mul_represents f (of_polynomial F R.one) f.numerator f.denominator R.one R.one refl (represents-polynomial R.one))
      (represents_self f)
      (ap₂ R.mul (R.mul-one f.numerator) (sym (R.mul-one f.denominator)))

  pub mul-add_fractions : (f g h : Fraction F) → mul_fractions F f (add_fractions F g h) ≡ add_fractions F (mul_fractions F f g) (mul_fractions F f h)
  mul-add_fractions f g h = represents_unique _ _ _ _ _ _ (three-nonzero' f g h)
      (Degree.mul_polynomials-nonzero F (R.mul f.denominator g.denominator) (R.mul f.denominator h.denominator) (denominators-nonzero F f g) (denominators-nonzero F f h))
      (mul_represents f (add_fractions F g h) f.numerator f.denominator _ _ refl (add_represents g h g.numerator g.denominator h.numerator h.denominator refl refl))
      (add_represents (mul_fractions F f g) (mul_fractions F f h) _ _ _ _
      (mul_represents f g f.numerator f.denominator g.numerator g.denominator refl refl) (mul_represents f h f.numerator f.denominator h.numerator h.denominator refl refl))
      (QuotientIdentities.mul-add_fractions_identity R f.numerator f.denominator g.numerator g.denominator h.numerator h.denominator)

  pub Fraction-set : IsSet (Fraction F)
  Fraction-set = hlevel (Polynomial-set F, F.is_set)

  -- f = 0 iff num(f) = 0
  pub numerator_of_zero : (f : Fraction F) → f ≡ of_polynomial F R.zero → f.numerator ≡ R.zero
  numerator_of_zero f e =
      sym (R.mul-one f.numerator) ∙ subst (λ g. Represents F g R.zero R.one) (sym e) (represents-polynomial R.zero) ∙ Laws.zero-mul R f.denominator

  pub zero_of_numerator : (f : Fraction F) → f.numerator ≡ R.zero → f ≡ of_polynomial F R.zero
  zero_of_numerator f e = represents_unique f _ _ _ _ _ (denominator-nonzero F f) (Degree.one-ne-zero F) (represents_self f) (represents-polynomial R.zero)
      (ap (λ z. R.mul z R.one) e ∙ Laws.zero-mul R R.one ∙ sym (Laws.zero-mul R f.denominator))

  pub mul-invert_fraction : (f : Fraction F) (d : Dec (f.numerator ≡ R.zero)) → ¬ (f ≡ of_polynomial F R.zero) → mul_fractions F f (invert_fraction F f d) ≡ of_polynomial F R.one
  unfolding invert_fraction
  mul-invert_fraction f (yes e) h = absurd (h (zero_of_numerator f e))
  mul-invert_fraction f (no n) h = represents_unique _ _ _ _ _ _ (Degree.mul_polynomials-nonzero F f.denominator f.numerator (denominator-nonzero F f) n) (Degree.one-ne-zero F)
      (mul_represents f (fraction F f.denominator f.numerator n) f.numerator f.denominator f.denominator f.numerator refl (represents_fraction f.denominator f.numerator n))
      (represents-polynomial R.one)
      (ap (λ z. R.mul z R.one) (R.mul_comm f.numerator f.denominator) ∙ R.mul_comm (R.mul f.denominator f.numerator) R.one)

  pub dec_fraction_zero : (f : Fraction F) → Dec (f ≡ of_polynomial F R.zero)
  dec_fraction_zero f = go (Degree.dec_zero F f.numerator)
    where
      go : Dec (f.numerator ≡ R.zero) → Dec (f ≡ of_polynomial F R.zero)
      go (yes e) = yes (zero_of_numerator f e)
      go (no n) = no (λ e. n (numerator_of_zero f e))

  pub fraction-one-ne-zero : ¬ (of_polynomial F R.one ≡ of_polynomial F R.zero)
  fraction-one-ne-zero e =
      let h = subst (λ f. Represents F f R.one R.one) e (represents-polynomial R.one) in
      denominator-nonzero F (of_polynomial F R.zero)
      (sym (Laws.one-mul R (of_polynomial F R.zero).denominator) ∙ sym h ∙ ap (λ z. R.mul z R.one) (numerator_of_zero (of_polynomial F R.zero) refl) ∙ Laws.zero-mul R R.one)
