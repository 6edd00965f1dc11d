-- Polynomials over a field K inside the elements, by lists of elements: the list p stands for the P in K[z] whose image is ⟦p⟧. The rules on lists are the operations of K[z].
--     stands_unique, stands-size      P is the only one, and p has its size
--     sum, product, negative, common divisors and exact quotients: stands-sum, stands-product, stands-negative, stands-monic, stands-gcd, stands-quotient
--     stands_in_fractions      as elements of K(z)
use Rattle.std.proofs.Common.{◌≡◌, refl, sym, ap, ap₂, ◌∙◌, ◌<◌, [], length, Ok, arith, subst}
use Rattle.risch_ring.specs.CommRing.{CommRing, Field, RingMap}
use Rattle.risch_ring.proofs.RingMaps as RingMaps
use Rattle.risch_univariate.specs.Polynomial.{Polynomial}
use Rattle.risch_univariate.specs.PolynomialRing.{polynomials}
use Rattle.risch_univariate.specs.Degree.{size}
use Rattle.risch_univariate.specs.Division.{IsGcd}
use Rattle.risch_univariate.proofs.Degree as Degree
use Rattle.risch_univariate.proofs.Divides as Divides
use Rattle.risch_univariate.proofs.Gcd as Gcd
use Rattle.risch_fraction_field.specs.Fraction.{Fraction, of_polynomial}
use Rattle.risch_fraction_field.specs.FractionField.{fractions}
use Rattle.risch_fraction_field.specs.Representation.{of_polynomial-mul, of_polynomial-add, of_polynomial-neg, of_polynomial-zero, of_polynomial-nonzero}
use Rattle.risch_extension.specs.PolynomialMap.{map_polynomial}
use Rattle.risch_extension.proofs.PolynomialMaps as Maps
use Rattle.risch_residue_theory.proofs.Place.{Some}
use Rattle.risch_mean.specs.ElementField.{elements}
use Rattle.risch_polynomial.specs.Poly as poly
use Rattle.risch_level.specs.Levels.{element}
use Rattle.risch_element_theory.specs.WholeTower.{IsPolynomial, polynomial}
use Rattle.risch_element_theory.proofs.ElementPolynomials as Polynomials
use Rattle.risch_element_theory.proofs.ElementPolynomials.{element_interprets}
use Rattle.risch_element_theory.proofs.DivisionRule as DivisionRule
use Rattle.risch_element_theory.proofs.GcdRule as GcdRule
use Rattle.risch_element_theory.proofs.PolynomialRules as Rules
use Rattle.risch_logarithm_theory.proofs.MappedPolynomials as Mapped
use Rattle.risch_sub.specs.RemainderSequence.{InZ}
use Rattle.risch_logarithm_link.proofs.PseudoRemainders.{StandsIn}

module _ {A : Type 0} (F : Field A) (f : RingMap F.ring elements.ring) where
  abbrev R : CommRing (Polynomial F)
  R = polynomials F

  abbrev S : CommRing (Polynomial elements)
  S = polynomials elements

  abbrev m : Polynomial F → Polynomial elements
  m = map_polynomial F elements f

  -- p is in normal form, and the image of P is ⟦p⟧
  pub record StandsFor (p : InZ) (P : Polynomial F) : Type 0 where
    pub kept : IsPolynomial p
    pub image : map_polynomial F elements f P ≡ polynomial p

  pub stands_unique : (p : InZ) (P Q : Polynomial F) → StandsFor p P → StandsFor p Q → P ≡ Q
  stands_unique p P Q h k = Mapped.map-injective F elements f P Q (h.image ∙ sym k.image)

  pub stands-size : (p : InZ) (P : Polynomial F) → StandsFor p P → size F P ≡ length p
  stands-size p P h = sym (Maps.size-map_polynomial F elements f P) ∙ ap (size elements) h.image ∙ Rules.size-polynomial_of elements element_interprets p h.kept

  pub stands-nonzero : (p : InZ) (P : Polynomial F) → StandsFor p P → 0 < length p → ¬ (P ≡ (polynomials F).zero)
  stands-nonzero p P h some = let s = stands-size p P h in Degree.nonzero_of_size F P (omega (arith, s, some))

  pub stands-some : (p : InZ) (P : Polynomial F) → StandsFor p P → ¬ (P ≡ (polynomials F).zero) → 0 < length p
  stands-some p P h n = let s = stands-size p P h in let t = Degree.size_of_nonzero F P n in omega (arith, s, t)

  pub stands-zero : StandsFor [] (polynomials F).zero
  stands-zero = record { kept = Polynomials.zero-is_polynomial; image = Maps.map_polynomial-zero F elements f ∙ sym (Rules.polynomial_of-nil elements element_interprets) }

  pub stands-zero_is : (P : Polynomial F) → StandsFor [] P → P ≡ (polynomials F).zero
  stands-zero_is P h = stands_unique [] P R.zero h stands-zero

  pub map-neg : (P : Polynomial F) → map_polynomial F elements f ((polynomials F).neg P) ≡ (polynomials elements).neg (map_polynomial F elements f P)
  map-neg P = RingMaps.apply-neg (Mapped.polynomial_map F elements f) P

  -- ---- the rules
  pub stands-negative : (p : InZ) (P : Polynomial F) → StandsFor p P → StandsFor (poly.negatives element p) ((polynomials F).neg P)
  stands-negative p P h = record {
    kept = Polynomials.negatives-is_polynomial p (poly.negatives element p) h.kept refl;
    image = map-neg P ∙ ap S.neg h.image ∙ sym (Polynomials.negatives-stands p (poly.negatives element p) h.kept refl);
  }

  pub stands-sum : (p q r : InZ) (P Q : Polynomial F) → StandsFor p P → StandsFor q Q → poly.sum element p q ≡ Ok r → StandsFor r ((polynomials F).add P Q)
  stands-sum p q r P Q h k e = record {
    kept = Polynomials.sum-is_polynomial p q r h.kept k.kept e;
    image = Maps.map_polynomial-add F elements f P Q ∙ ap₂ S.add h.image k.image ∙ sym (Polynomials.sum-stands p q r h.kept k.kept e);
  }

  pub stands-product : (p q r : InZ) (P Q : Polynomial F) → StandsFor p P → StandsFor q Q → poly.product element p q ≡ Ok r → StandsFor r ((polynomials F).mul P Q)
  stands-product p q r P Q h k e = record {
    kept = Polynomials.product-is_polynomial p q r h.kept k.kept e;
    image = Maps.map_polynomial-mul F elements f P Q ∙ ap₂ S.mul h.image k.image ∙ sym (Polynomials.product-stands p q r h.kept k.kept e);
  }

  not_nil : (p : InZ) → 0 < length p → ¬ (p ≡ [])
  not_nil p some e = let none = ap length e in absurd (omega (arith, none, some))

  -- the monic multiple of P ≠ 0 is gcd(P, 0)
  pub stands-monic : (p r : InZ) (P : Polynomial F) → StandsFor p P → 0 < length p → poly.monic element p ≡ Ok r → StandsFor r (Gcd.gcd F P (polynomials F).zero)
  stands-monic p r P h some e = record {
    kept = Polynomials.monic-is_polynomial p r h.kept e;
    image =
        Mapped.gcd-map F elements f P R.zero ∙ ap₂ (Gcd.gcd elements) h.image (Maps.map_polynomial-zero F elements f)
        ∙ sym (Gcd.gcd_unique elements (polynomial r) (polynomial p) S.zero is_gcd (GcdRule.monic-is_monic elements element_interprets p r h.kept e (not_nil p some)));
  }
    where
      is_gcd : IsGcd elements (polynomial r) (polynomial p) (polynomials elements).zero
      is_gcd = subst (λ z. IsGcd elements z (polynomial p) (polynomials elements).zero) (sym (GcdRule.monic-polynomial elements element_interprets p r h.kept e).means) (record {
        divides_left = Gcd.monic-divides elements (polynomial p) (polynomial p) (Divides.divides_refl elements (polynomial p));
        divides_right = Divides.divides-zero elements (Gcd.monic elements (polynomial p));
        greatest = λ d left right. Divides.divides_trans elements d (polynomial p) (Gcd.monic elements (polynomial p)) left (Gcd.divides-monic elements (polynomial p));
      })

  pub stands-gcd : (p q r : InZ) (P Q : Polynomial F) → StandsFor p P → StandsFor q Q → 0 < length q → poly.gcd element p q ≡ Ok r → StandsFor r (Gcd.gcd F P Q)
  stands-gcd p q r P Q h k some e =
      let x = GcdRule.gcd-is_gcd elements element_interprets p q r h.kept k.kept (λ _ none. not_nil q some none) e in
      record {
        kept = x.kept;
        image = Mapped.gcd-map F elements f P Q ∙ ap₂ (Gcd.gcd elements) h.image k.image ∙ sym (Gcd.gcd_unique elements (polynomial r) (polynomial p) (polynomial q) x.is_gcd x.is_monic);
      }

  -- the quotient of P = C·Q by C ≠ 0
  pub stands-quotient : (p c q : InZ) (P C Q : Polynomial F) → StandsFor p P → StandsFor c C → 0 < length c → P ≡ (polynomials F).mul C Q → poly.quo element p c ≡ Ok q → StandsFor q Q
  stands-quotient p c q P C Q h k some is e =
      let split : polynomial p ≡ S.mul (polynomial c) (m Q) = sym h.image ∙ ap m is ∙ Maps.map_polynomial-mul F elements f C Q ∙ ap (λ z. S.mul z (m Q)) k.image in
      let x = DivisionRule.quo-exact elements element_interprets p c q h.kept k.kept (not_nil c some)
      (record { cofactor = m Q; equation = split ∙ S.mul_comm (polynomial c) (m Q) }) e in
      record {
        kept = x.kept;
        image = Degree.mul_polynomials_cancel elements (polynomial c) (m Q) (polynomial q) (DivisionRule.polynomial_of-nonzero elements element_interprets c k.kept (not_nil c some))
            (sym split ∙ x.equation ∙ S.mul_comm (polynomial q) (polynomial c));
      }

  -- ---- in K(z)
  -- p stands for x in K(z) where x lies in K[z] and p stands for it there
  abbrev pub StandsForFraction : InZ → Fraction F → Type 0
  StandsForFraction p x = Some (λ (P : Polynomial F). StandsFor p P × (x ≡ of_polynomial F P))

  pub stands_in_fractions : StandsIn (fractions F) StandsForFraction
  stands_in_fractions = record {
    zero_in = record { value = R.zero; has_value = (stands-zero, sym (of_polynomial-zero F)) };
    zero_is = λ x h. h.has_value.1 ∙ ap (of_polynomial F) (stands-zero_is h.value h.has_value.0) ∙ of_polynomial-zero F;
    some_is = λ p x some h e. of_polynomial-nonzero F h.value (stands-nonzero p h.value h.has_value.0 some) (sym h.has_value.1 ∙ e);
    negative_in = λ p x h. record { value = R.neg h.value; has_value = (stands-negative p h.value h.has_value.0, ap (fractions F).neg h.has_value.1 ∙ sym (of_polynomial-neg F h.value)) };
    sum_in = λ p q r x y h k e. record {
      value = R.add h.value k.value;
      has_value = (stands-sum p q r h.value k.value h.has_value.0 k.has_value.0 e, ap₂ (fractions F).add h.has_value.1 k.has_value.1 ∙ sym (of_polynomial-add F h.value k.value));
    };
    product_in = λ p q r x y h k e. record {
      value = R.mul h.value k.value;
      has_value = (stands-product p q r h.value k.value h.has_value.0 k.has_value.0 e, ap₂ (fractions F).mul h.has_value.1 k.has_value.1 ∙ sym (of_polynomial-mul F h.value k.value));
    };
  }
