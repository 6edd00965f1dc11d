-- K(t) in E(t) for a field E above K: an injective homomorphism that commutes with the derivations.
use Rattle.std.specs.Prelude.{◌≡◌}
use Rattle.std.proofs.Common.{refl, sym, ap, ap₂, ◌∙◌}
use Rattle.risch_ring.specs.CommRing.{CommRing, Field, RingMap, Derivation}
use Rattle.risch_univariate.specs.Polynomial.{Polynomial}
use Rattle.risch_univariate.proofs.Degree as Degree
use Rattle.risch_univariate.proofs.Derivation as Derivation
use Rattle.risch_fraction_field.specs.Fraction.{Fraction, fraction, denominator-nonzero, Represents, of_polynomial, denominators-nonzero}
use Rattle.risch_fraction_field.specs.FractionDerivation.{fraction_derivation, quotient_numerator, represents-derive}
use Rattle.risch_ring.proofs.RingMaps as RingMaps
use Rattle.risch_univariate.specs.PolynomialRing.{polynomials}
use Rattle.risch_fraction_field.specs.Representation.{represents-add, represents-mul, represents-one}
use Rattle.risch_fraction_field.specs.FractionLaws.{represents_fraction, represents_same, represents_unique, represents-polynomial}
use Rattle.risch_fraction_field.specs.FractionField.{fractions}
use Rattle.risch_extension.specs.PolynomialMap.{map_polynomial}
use Rattle.risch_extension.proofs.PolynomialMaps.{map_polynomial-add, map_polynomial-mul, map_polynomial-one, map_polynomial-nonzero}
use Rattle.risch_extension.specs.Extension.{Extension}
use Rattle.risch_extension.proofs.Extensions.{map-derive_polynomial}

module _ {A B : Type 0} (F : Field A) (G : Field B) (f : RingMap F.ring G.ring) where
  abbrev R : CommRing (Polynomial F)
  R = polynomials F

  abbrev S : CommRing (Polynomial G)
  S = polynomials G

  abbrev m : Polynomial F → Polynomial G
  m = map_polynomial F G f

  map_fraction : Fraction F → Fraction G
  map_fraction x = fraction G (m x.numerator) (m x.denominator) (map_polynomial-nonzero F G f x.denominator (denominator-nonzero F x))

  -- p/q is mapped to f(p)/f(q)
  map_represents : (x : Fraction F) (p q : Polynomial F) → Represents F x p q → Represents G (map_fraction x) (m p) (m q)
  unfolding map_fraction
  map_represents x p q h =
      let n = map_polynomial-nonzero F G f x.denominator (denominator-nonzero F x) in
      represents_same G (fraction G (m x.numerator) (m x.denominator) n) (m x.numerator) (m x.denominator) (m p) (m q) n
      (represents_fraction G (m x.numerator) (m x.denominator) n)
      (sym (map_polynomial-mul F G f x.numerator q) ∙ ap m h ∙ map_polynomial-mul F G f p x.denominator)

  m-nonzero : (x : Fraction F) → ¬ (m x.denominator ≡ S.zero)
  m-nonzero x = map_polynomial-nonzero F G f x.denominator (denominator-nonzero F x)

  m-product-nonzero : (x y : Fraction F) → ¬ (S.mul (m x.denominator) (m y.denominator) ≡ S.zero)
  m-product-nonzero x y = Degree.mul_polynomials-nonzero G (m x.denominator) (m y.denominator) (m-nonzero x) (m-nonzero y)

  -- K(t) → E(t)
  pub fraction_map : RingMap (fractions F).ring (fractions G).ring
  fraction_map = record {
    apply = map_fraction;
    apply-one = represents_unique G _ _ _ _ _ _ (map_polynomial-nonzero F G f R.one (Degree.one-ne-zero F)) (Degree.one-ne-zero G)
        (map_represents (fractions F).one R.one R.one (represents-one F)) (represents-one G)
        (S.mul_comm (m R.one) S.one);
    apply-add = λ x y. represents_unique G _ _ _ _ _ _ (map_polynomial-nonzero F G f (R.mul x.denominator y.denominator) (denominators-nonzero F x y)) (m-product-nonzero x y)
        (map_represents ((fractions F).add x y) _ _ (represents-add F x y x.numerator x.denominator y.numerator y.denominator refl refl))
        (represents-add G (map_fraction x) (map_fraction y) (m x.numerator) (m x.denominator) (m y.numerator) (m y.denominator)
        (map_represents x x.numerator x.denominator refl) (map_represents y y.numerator y.denominator refl))
        (ap₂ S.mul
        (map_polynomial-add F G f _ _ ∙ ap₂ S.add (map_polynomial-mul F G f x.numerator y.denominator) (map_polynomial-mul F G f y.numerator x.denominator))
        (sym (map_polynomial-mul F G f x.denominator y.denominator)));
    apply-mul = λ x y. represents_unique G _ _ _ _ _ _ (map_polynomial-nonzero F G f (R.mul x.denominator y.denominator) (denominators-nonzero F x y)) (m-product-nonzero x y)
        (map_represents ((fractions F).mul x y) _ _ (represents-mul F x y x.numerator x.denominator y.numerator y.denominator refl refl))
        (represents-mul G (map_fraction x) (map_fraction y) (m x.numerator) (m x.denominator) (m y.numerator) (m y.denominator)
        (map_represents x x.numerator x.denominator refl) (map_represents y y.numerator y.denominator refl))
        (ap₂ S.mul (map_polynomial-mul F G f x.numerator y.numerator) (sym (map_polynomial-mul F G f x.denominator y.denominator)));
  }

  -- p/q is mapped to f(p)/f(q)
  pub represents-map : (x : Fraction F) (p q : Polynomial F) → Represents F x p q → Represents G (fraction_map.apply x) (map_polynomial F G f p) (map_polynomial F G f q)
  unfolding fraction_map
  represents-map = map_represents

  -- on polynomials it is f on the coefficients
  pub fraction_map-polynomial : (p : Polynomial F) → fraction_map.apply (of_polynomial F p) ≡ of_polynomial G (map_polynomial F G f p)
  fraction_map-polynomial p = represents_unique G _ _ _ _ _ _ (map_polynomial-nonzero F G f R.one (Degree.one-ne-zero F)) (Degree.one-ne-zero G)
      (represents-map (of_polynomial F p) p R.one (represents-polynomial F p)) (represents-polynomial G (m p))
      (ap (S.mul (m p)) (sym (map_polynomial-one F G f)))

module _ {A : Type 0} (F : Field A) (D : Derivation F.ring) (X : Extension F D) (w : Polynomial F) where
  abbrev S' : CommRing (Polynomial X.field)
  S' = polynomials X.field

  abbrev M : Polynomial F → Polynomial X.field
  M = map_polynomial F X.field X.map

  -- D on K(t) with Dt = w
  abbrev pub lower : Derivation (fractions F).ring
  lower = fraction_derivation F (Derivation.derivation F D w)

  -- D on E(t) with Dt = w
  abbrev pub upper : Derivation (fractions X.field).ring
  upper = fraction_derivation X.field (Derivation.derivation X.field X.derivation (map_polynomial F X.field X.map w))

  -- the homomorphism commutes with the derivations
  pub fraction_map-derive : (x : Fraction F) → upper.derive ((fraction_map F X.field X.map).apply x) ≡ (fraction_map F X.field X.map).apply (lower.derive x)
  fraction_map-derive x = represents_unique X.field _ _ _ _ _ _
      (Degree.mul_polynomials-nonzero X.field (M x.denominator) (M x.denominator) n n)
      (map_polynomial-nonzero F X.field X.map _ (Degree.mul_polynomials-nonzero F x.denominator x.denominator (denominator-nonzero F x) (denominator-nonzero F x)))
      (represents-derive X.field (Derivation.derivation X.field X.derivation (M w)) ((fraction_map F X.field X.map).apply x) (M x.numerator) (M x.denominator)
      (represents-map F X.field X.map x x.numerator x.denominator refl))
      (represents-map F X.field X.map (lower.derive x) _ _ (represents-derive F (Derivation.derivation F D w) x x.numerator x.denominator refl))
      (ap₂ S'.mul (sym numerators) (map_polynomial-mul F X.field X.map x.denominator x.denominator))
    where
      n : ¬ (M x.denominator ≡ S'.zero)
      n = map_polynomial-nonzero F X.field X.map x.denominator (denominator-nonzero F x)

      D' : Polynomial F → Polynomial F
      D' = Derivation.derive_polynomial F D w

      numerators : M (quotient_numerator F (Derivation.derivation F D w) x.numerator x.denominator)
          ≡ quotient_numerator X.field (Derivation.derivation X.field X.derivation (map_polynomial F X.field X.map w)) (M x.numerator) (M x.denominator)
      numerators =
          map_polynomial-add F X.field X.map _ _
          ∙ ap₂ S'.add
          (map_polynomial-mul F X.field X.map (Derivation.derive_polynomial F D w x.numerator) x.denominator ∙ ap (λ z. S'.mul z (M x.denominator)) (map-derive_polynomial F D X w x.numerator))
          (RingMaps.apply-neg polynomial_ring_map ((polynomials F).mul x.numerator (Derivation.derive_polynomial F D w x.denominator))
          ∙ ap S'.neg (map_polynomial-mul F X.field X.map x.numerator (Derivation.derive_polynomial F D w x.denominator) ∙ ap (S'.mul (M x.numerator)) (map-derive_polynomial F D X w x.denominator)))
        where
          polynomial_ring_map : RingMap (polynomials F) (polynomials X.field)
          polynomial_ring_map = record {
            apply = map_polynomial F X.field X.map;
            apply-one = map_polynomial-one F X.field X.map;
            apply-add = map_polynomial-add F X.field X.map;
            apply-mul = map_polynomial-mul F X.field X.map;
          }

  -- E(t) is an extension of K(t) with its derivation
  unfoldable pub fraction_extension : Extension (fractions F) lower
  fraction_extension = record {
    carrier = Fraction X.field;
    field = fractions X.field;
    derivation = upper;
    map = fraction_map F X.field X.map;
    map-derive = fraction_map-derive;
  }
