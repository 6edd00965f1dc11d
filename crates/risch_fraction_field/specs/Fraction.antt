-- Rational functions over a field K: numerator and denominator coprime, the denominator monic. So equal rational functions have equal numerators and denominators.
use Rattle.std.specs.Prelude.{◌≡◌}
use Rattle.risch_ring.specs.CommRing.{CommRing, Field}
use Rattle.risch_univariate.specs.Polynomial.{Polynomial, constant}
use Rattle.risch_univariate.specs.Degree.{leading_coefficient, IsMonic}
use Rattle.risch_univariate.specs.Division.{IsCoprime}
use Rattle.risch_ring.proofs.FieldLaws as FieldLaws
use Rattle.risch_univariate.proofs.Degree as Degree
use Rattle.risch_univariate.proofs.Divides as Divides
use Rattle.risch_univariate.proofs.Gcd as Gcd
use Rattle.risch_univariate.specs.PolynomialRing.{polynomials}

-- K(t)
pub record Fraction {A : Type 0} (F : Field A) : Type 0 where
  pub numerator : Polynomial F
  pub denominator : Polynomial F
  pub is_monic : IsMonic F denominator
  pub is_reduced : Gcd.gcd F numerator denominator ≡ (polynomials F).one

module _ {A : Type 0} (F : Field A) where
  abbrev R : CommRing (Polynomial F)
  R = polynomials F

  -- f = a / b
  abbrev pub Represents : Fraction F → (a b : Polynomial F) → Type 0
  Represents f a b = R.mul f.numerator b ≡ R.mul a f.denominator

  -- den(f) ≠ 0
  pub denominator-nonzero : (f : Fraction F) → ¬ (f.denominator ≡ R.zero)
  denominator-nonzero f = Gcd.monic-nonzero F f.denominator f.is_monic

  -- den(f)·den(g) ≠ 0
  pub denominators-nonzero : (f g : Fraction F) → ¬ (R.mul f.denominator g.denominator ≡ R.zero)
  denominators-nonzero f g = Degree.mul_polynomials-nonzero F f.denominator g.denominator (denominator-nonzero f) (denominator-nonzero g)

  -- a without gcd(a, b)
  unfoldable pub left_cofactor : (a b : Polynomial F) → Polynomial F
  left_cofactor a b = (Gcd.gcd-divides_left F a b).cofactor

  -- b without gcd(a, b)
  unfoldable pub right_cofactor : (a b : Polynomial F) → Polynomial F
  right_cofactor a b = (Gcd.gcd-divides_right F a b).cofactor

  -- the constant that makes b without gcd(a, b) monic
  unfoldable pub unit : (a b : Polynomial F) → Polynomial F
  unit a b = constant F (F.inverse (leading_coefficient F (right_cofactor a b)))

  -- a / b for b ≠ 0
  unfoldable pub fraction : (a b : Polynomial F) → ¬ (b ≡ R.zero) → Fraction F
  unfolding left_cofactor right_cofactor unit
  fraction a b n = record {
    numerator = R.mul (unit a b) (left_cofactor a b);
    denominator = Gcd.monic F (right_cofactor a b);
    is_monic = Gcd.monic-is_monic F (right_cofactor a b) nonzero;
    is_reduced = Gcd.gcd_of_coprime F (R.mul (unit a b) (left_cofactor a b)) (Gcd.monic F (right_cofactor a b)) coprime;
  }
    where
      nonzero : ¬ (right_cofactor a b ≡ R.zero)
      nonzero = Divides.cofactor-nonzero F (Gcd.gcd F a b) b (Gcd.gcd-divides_right F a b) n

      coprime : IsCoprime F (R.mul (unit a b) (left_cofactor a b)) (Gcd.monic F (right_cofactor a b))
      coprime =
          Gcd.coprime-constant_mul F (unit a b) (left_cofactor a b) (Gcd.monic F (right_cofactor a b))
          (Divides.constant-divides F (F.inverse (leading_coefficient F (right_cofactor a b))) R.one
          (FieldLaws.inverse-nonzero F (leading_coefficient F (right_cofactor a b)) (Degree.leading_coefficient-nonzero F (right_cofactor a b) nonzero)))
          (Gcd.coprime_sym F (Gcd.monic F (right_cofactor a b)) (left_cofactor a b)
          (Gcd.coprime_of_divides F (Gcd.monic F (right_cofactor a b)) (right_cofactor a b) (left_cofactor a b)
          (Gcd.monic-divides F (right_cofactor a b) (right_cofactor a b) (Divides.divides_refl F (right_cofactor a b)))
          (Gcd.coprime_sym F (left_cofactor a b) (right_cofactor a b) (Gcd.coprime_cofactors F a b (Gcd.gcd-nonzero_right F a b n)))))

  -- p/1
  unfoldable pub of_polynomial : Polynomial F → Fraction F
  of_polynomial p = fraction p R.one (Degree.one-ne-zero F)

  -- f + g
  unfoldable pub add_fractions : Fraction F → Fraction F → Fraction F
  add_fractions f g = fraction (R.add (R.mul f.numerator g.denominator) (R.mul g.numerator f.denominator)) (R.mul f.denominator g.denominator) (denominators-nonzero f g)

  -- f·g
  unfoldable pub mul_fractions : Fraction F → Fraction F → Fraction F
  mul_fractions f g = fraction (R.mul f.numerator g.numerator) (R.mul f.denominator g.denominator) (denominators-nonzero f g)

  -- -f
  unfoldable pub neg_fraction : Fraction F → Fraction F
  neg_fraction f = fraction (R.neg f.numerator) f.denominator (denominator-nonzero f)

  -- 1/f, and f for f = 0
  unfoldable pub invert_fraction : (f : Fraction F) → Dec (f.numerator ≡ R.zero) → Fraction F
  invert_fraction f (yes e) = f
  invert_fraction f (no n) = fraction f.denominator f.numerator n
