-- A derivation of K[t] extends to K(t) by the quotient rule.
use Rattle.std.specs.Prelude.{◌≡◌}
use Rattle.std.proofs.Common.{refl, sym, ap, ap₂, ◌∙◌}
use Rattle.risch_ring.specs.CommRing.{CommRing, Field, Derivation, sub}
use Rattle.risch_ring.proofs.Laws as Laws
use Rattle.risch_ring.proofs.Derivations as Derivations
use Rattle.risch_univariate.specs.Polynomial.{Polynomial}
use Rattle.risch_univariate.proofs.Degree as Degree
use Rattle.risch_fraction_field.specs.Fraction.{Fraction, fraction, denominator-nonzero, Represents, of_polynomial}
use Rattle.risch_univariate.proofs.QuotientIdentities as QuotientIdentities
use Rattle.risch_univariate.specs.PolynomialRing.{polynomials}
use Rattle.risch_fraction_field.specs.Representation.{represents-add, represents-mul}
use Rattle.risch_fraction_field.specs.FractionLaws.{represents_fraction, represents_same, represents_unique, represents-polynomial}
use Rattle.risch_fraction_field.specs.FractionField.{fractions}

module _ {A : Type 0} (F : Field A) (D : Derivation (polynomials F)) where
  abbrev R : CommRing (Polynomial F)
  R = polynomials F

  abbrev K : Field (Fraction F)
  K = fractions F

  square-nonzero : (b : Polynomial F) → ¬ (b ≡ R.zero) → ¬ (R.mul b b ≡ R.zero)
  square-nonzero b n = Degree.mul_polynomials-nonzero F b b n n

  -- D(a)·b - a·D(b)
  abbrev pub quotient_numerator : (a b : Polynomial F) → Polynomial F
  quotient_numerator a b = sub R (R.mul (D.derive a) b) (R.mul a (D.derive b))

  -- D(a/b) = (D(a)·b - a·D(b))/b²
  derive_fraction : Fraction F → Fraction F
  derive_fraction f = fraction F (quotient_numerator f.numerator f.denominator) (R.mul f.denominator f.denominator) (square-nonzero f.denominator (denominator-nonzero F f))

  -- D(a/b) = (D(a)·b - a·D(b))/b²
  derive_represents : (f : Fraction F) (a b : Polynomial F) → Represents F f a b → Represents F (derive_fraction f) (quotient_numerator a b) (R.mul b b)
  unfolding derive_fraction
  derive_represents f a b h =
      represents_same F (derive_fraction f) (quotient_numerator f.numerator f.denominator) (R.mul f.denominator f.denominator) (quotient_numerator a b) (R.mul b b)
      (square-nonzero f.denominator (denominator-nonzero F f))
      (represents_fraction F _ _ (square-nonzero f.denominator (denominator-nonzero F f)))
      (QuotientIdentities.derive_represents R f.numerator f.denominator a b (D.derive f.numerator) (D.derive f.denominator) (D.derive a) (D.derive b) h
      (sym (D.derive-mul f.numerator b) ∙ ap D.derive h ∙ D.derive-mul a f.denominator))

  product-nonzero : (a b : Polynomial F) → ¬ (a ≡ R.zero) → ¬ (b ≡ R.zero) → ¬ (R.mul a b ≡ R.zero)
  product-nonzero = Degree.mul_polynomials-nonzero F

  -- D(a/b + c/d) = D(a/b) + D(c/d)
  derive-sum : (f g : Fraction F) (a b c d : Polynomial F) → ¬ (b ≡ R.zero) → ¬ (d ≡ R.zero) → Represents F f a b → Represents F g c d
      → derive_fraction (K.add f g) ≡ K.add (derive_fraction f) (derive_fraction g)
  derive-sum f g a b c d nb nd rf rg = represents_unique F _ _ _ _ _ _
      (square-nonzero (R.mul b d) (product-nonzero b d nb nd)) (product-nonzero (R.mul b b) (R.mul d d) (square-nonzero b nb) (square-nonzero d nd))
      (derive_represents (K.add f g) _ _ (represents-add F f g a b c d rf rg))
      (represents-add F (derive_fraction f) (derive_fraction g) _ _ _ _ (derive_represents f a b rf) (derive_represents g c d rg))
      (ap₂ (λ x y. R.mul (sub R (R.mul x (R.mul b d)) (R.mul (R.add (R.mul a d) (R.mul c b)) y)) (R.mul (R.mul b b) (R.mul d d)))
      (D.derive-add (R.mul a d) (R.mul c b) ∙ ap₂ R.add (D.derive-mul a d) (D.derive-mul c b)) (D.derive-mul b d)
      ∙ QuotientIdentities.derive_sum_of_fractions R a b c d (D.derive a) (D.derive b) (D.derive c) (D.derive d))

  -- D(a/b·c/d) = D(a/b)·c/d + a/b·D(c/d)
  derive-product : (f g : Fraction F) (a b c d : Polynomial F) → ¬ (b ≡ R.zero) → ¬ (d ≡ R.zero) → Represents F f a b → Represents F g c d
      → derive_fraction (K.mul f g) ≡ K.add (K.mul (derive_fraction f) g) (K.mul f (derive_fraction g))
  derive-product f g a b c d nb nd rf rg = represents_unique F _ _ _ _ _ _
      (square-nonzero (R.mul b d) (product-nonzero b d nb nd))
      (product-nonzero (R.mul (R.mul b b) d) (R.mul b (R.mul d d)) (product-nonzero (R.mul b b) d (square-nonzero b nb) nd) (product-nonzero b (R.mul d d) nb (square-nonzero d nd)))
      (derive_represents (K.mul f g) _ _ (represents-mul F f g a b c d rf rg))
      (represents-add F (K.mul (derive_fraction f) g) (K.mul f (derive_fraction g)) _ _ _ _
      (represents-mul F (derive_fraction f) g _ _ c d (derive_represents f a b rf) rg)
      (represents-mul F f (derive_fraction g) a b _ _ rf (derive_represents g c d rg)))
      (ap₂ (λ x y. R.mul (sub R (R.mul x (R.mul b d)) (R.mul (R.mul a c) y)) (R.mul (R.mul (R.mul b b) d) (R.mul b (R.mul d d))))
      (D.derive-mul a c) (D.derive-mul b d)
      ∙ QuotientIdentities.derive_product_of_fractions R a b c d (D.derive a) (D.derive b) (D.derive c) (D.derive d))

  -- D(f + g) = D(f) + D(g)
  derive_fraction-add : (f g : Fraction F) → derive_fraction (K.add f g) ≡ K.add (derive_fraction f) (derive_fraction g)
  derive_fraction-add f g = derive-sum f g f.numerator f.denominator g.numerator g.denominator (denominator-nonzero F f) (denominator-nonzero F g) refl refl

  -- D(f·g) = D(f)·g + f·D(g)
  derive_fraction-mul : (f g : Fraction F) → derive_fraction (K.mul f g) ≡ K.add (K.mul (derive_fraction f) g) (K.mul f (derive_fraction g))
  derive_fraction-mul f g = derive-product f g f.numerator f.denominator g.numerator g.denominator (denominator-nonzero F f) (denominator-nonzero F g) refl refl

  -- the derivation of K(t) that extends D
  pub fraction_derivation : Derivation K.ring
  fraction_derivation = record { derive = derive_fraction; derive-add = derive_fraction-add; derive-mul = derive_fraction-mul }

  -- f = a/b gives D(f) = (D(a)·b - a·D(b))/b²
  pub represents-derive : (f : Fraction F) (a b : Polynomial F) → Represents F f a b → Represents F (fraction_derivation.derive f) (quotient_numerator a b) (R.mul b b)
  unfolding fraction_derivation
  represents-derive = derive_represents

  -- D(p) for p in K[t] is that of K[t]
  pub fraction_derivation-polynomial : (p : Polynomial F) → fraction_derivation.derive (of_polynomial F p) ≡ of_polynomial F (D.derive p)
  fraction_derivation-polynomial p = represents_unique F _ _ _ _ _ _ (square-nonzero R.one (Degree.one-ne-zero F)) (Degree.one-ne-zero F)
      (represents-derive (of_polynomial F p) p R.one (represents-polynomial F p)) (represents-polynomial F (D.derive p))
      (R.mul-one (quotient_numerator p R.one)
      ∙ ap₂ (λ x y. R.add x (R.neg (R.mul p y))) (R.mul-one (D.derive p)) (Derivations.derive-one D)
      ∙ ap (λ z. R.add (D.derive p) (R.neg z)) (Laws.mul-zero R p) ∙ ap (R.add (D.derive p)) (Laws.neg-zero R) ∙ R.add-zero (D.derive p)
      ∙ sym (ap (R.mul (D.derive p)) (R.mul-one R.one) ∙ R.mul-one (D.derive p)))
