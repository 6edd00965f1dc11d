-- The field K(t), and K[t] in K(t).
use Rattle.std.specs.Prelude.{◌≡◌}
use Rattle.std.proofs.Common.{refl, sym, ap, ap₂}
use Rattle.risch_ring.specs.CommRing.{CommRing, Field, RingMap}
use Rattle.risch_univariate.specs.Polynomial.{Polynomial}
use Rattle.risch_univariate.proofs.Degree as Degree
use Rattle.risch_univariate.specs.PolynomialRing.{polynomials}
use Rattle.risch_fraction_field.specs.Fraction.{Fraction, of_polynomial, add_fractions, mul_fractions, neg_fraction, invert_fraction}
use Rattle.risch_fraction_field.specs.FractionLaws.{represents_unique, add_represents, mul_represents, represents-polynomial, add_fractions_assoc, add_fractions_comm, add_fractions-zero, add_fractions-neg, mul_fractions_assoc, mul_fractions_comm, mul_fractions-one, mul-add_fractions, Fraction-set, mul-invert_fraction, dec_fraction_zero, fraction-one-ne-zero}

module _ {A : Type 0} (F : Field A) where
  abbrev R : CommRing (Polynomial F)
  R = polynomials F

  -- the ring K(t)
  unfoldable pub fraction_ring : CommRing (Fraction F)
  fraction_ring = record {
    zero = of_polynomial F R.zero;
    one = of_polynomial F R.one;
    add = add_fractions F;
    mul = mul_fractions F;
    neg = neg_fraction F;
    is_set = Fraction-set F;
    add_assoc = add_fractions_assoc F;
    add_comm = add_fractions_comm F;
    add-zero = add_fractions-zero F;
    add-neg = add_fractions-neg F;
    mul_assoc = mul_fractions_assoc F;
    mul_comm = mul_fractions_comm F;
    mul-one = mul_fractions-one F;
    mul-add = mul-add_fractions F;
  }

  -- the field K(t)
  unfoldable pub fractions : Field (Fraction F)
  unfolding fraction_ring
  fractions = record {
    ring = fraction_ring;
    inverse = λ f. invert_fraction F f (Degree.dec_zero F f.numerator);
    is_zero = dec_fraction_zero F;
    one-ne-zero = fraction-one-ne-zero F;
    mul-inverse = λ f h. mul-invert_fraction F f (Degree.dec_zero F f.numerator) h;
  }

  -- K[t] in K(t)
  unfoldable pub polynomial_map : RingMap R fractions.ring
  unfolding fractions
  polynomial_map = record {
    apply = of_polynomial F;
    apply-one = refl;
    apply-add = λ p q. represents_unique F _ _ _ _ _ _ (Degree.one-ne-zero F) one_one
        (represents-polynomial F (R.add p q)) (add_represents F (of_polynomial F p) (of_polynomial F q) p R.one q R.one (represents-polynomial F p) (represents-polynomial F q))
        (ap₂ R.mul (ap₂ R.add (sym (R.mul-one p)) (sym (R.mul-one q))) (R.mul-one R.one));
    apply-mul = λ p q. represents_unique F _ _ _ _ _ _ (Degree.one-ne-zero F) one_one
        (represents-polynomial F (R.mul p q)) (mul_represents F (of_polynomial F p) (of_polynomial F q) p R.one q R.one (represents-polynomial F p) (represents-polynomial F q))
        (ap (R.mul (R.mul p q)) (R.mul-one R.one));
  }
    where
      one_one : ¬ (R.mul R.one R.one ≡ R.zero)
      one_one = Degree.mul_polynomials-nonzero F R.one R.one (Degree.one-ne-zero F) (Degree.one-ne-zero F)
