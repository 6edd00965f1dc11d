-- The pair d and b = a - z·e over K(z), for a, d, e in K[t] with d square-free and gcd(d, e) = 1: it is coprime over K(z), and at z = α it becomes
-- the pair d and a - α·e, whose gcd may have a degree above 0.
use Rattle.std.specs.Prelude.{◌≡◌, ℕ, ◌≤◌}
use Rattle.std.proofs.Common.{refl, sym, ap, ap₂, subst, ◌∙◌, arith}
use native.Mathlib.Decide.{ℕ_discrete}
use Rattle.risch_ring.specs.CommRing.{CommRing, Field, RingMap, Derivation, HasCharacteristicZero}
use Rattle.risch_ring.proofs.Laws as Laws
use Rattle.risch_ring.proofs.Derivations as Derivations
use Rattle.risch_univariate.specs.Polynomial.{Polynomial, constant, variable, coefficient}
use Rattle.risch_univariate.specs.Degree.{size, IsMonic, degree}
use Rattle.risch_univariate.specs.Division.{Divides, IsCoprime, IsSquareFree}
use Rattle.risch_univariate.proofs.Degree as Degree
use Rattle.risch_univariate.proofs.Divides as Divides
use Rattle.risch_univariate.proofs.Gcd as Gcd
use Rattle.risch_univariate.proofs.Evaluation as Evaluation
use Rattle.risch_univariate.proofs.Derivation as Derivation
use Rattle.risch_univariate.proofs.FormalDerivative as FormalDerivative
use Rattle.risch_univariate.proofs.SquareFree as SquareFree
use Rattle.risch_univariate.proofs.SquareFreeParts as SquareFreeParts
use Rattle.risch_fraction_field.specs.Fraction.{Fraction, of_polynomial}
use Rattle.risch_fraction_field.specs.FractionDerivation.{fraction_derivation, fraction_derivation-polynomial}
use Rattle.risch_fraction_field.specs.DifferentialField.{constant_fraction, constant_fraction-apply}
use Rattle.risch_residue_theory.proofs.Place.{HasValues, move, move_values, values-add, values-constant_mul}
use Rattle.risch_residue_theory.proofs.PlaceAtPoint.{place_at, at, polynomial_value}
use Rattle.risch_residue_theory.proofs.RemainderSequences.{Reduction}
use Rattle.risch_ring.proofs.RingMaps as RingMaps
use Rattle.risch_univariate.specs.PolynomialRing.{polynomials}
use Rattle.risch_univariate.specs.PolynomialLaws.{polynomial_ext}
use Rattle.risch_univariate.proofs.Coefficients.{coefficient-zero}
use Rattle.risch_fraction_field.specs.Representation.{of_polynomial-one, of_polynomial-zero, of_polynomial-neg}
use Rattle.risch_fraction_field.specs.FractionField.{fractions}
use Rattle.risch_extension.specs.PolynomialMap.{map_polynomial}
use Rattle.risch_extension.proofs.PolynomialMaps.{map_polynomial-nonzero, size-map_polynomial, coefficient-map_polynomial}
use Rattle.risch_extension.proofs.Extensions.{map-coprime, map-formal_derivative}
use Rattle.risch_residue_theory.specs.BivariatePolynomial.{lift, residue_polynomial}

module _ {A : Type 0} (F : Field A) where
  abbrev R : CommRing (Polynomial F)
  R = polynomials F

  abbrev L : Field (Fraction F)
  L = fractions F

  abbrev T : CommRing (Polynomial (fractions F))
  T = polynomials (fractions F)

  -- ---- coprime over K(z)

  -- d/dz on K(z)
  abbrev ∂z : Derivation (fractions F).ring
  ∂z = fraction_derivation F (Derivation.formal_derivation F)

  -- d/dz on the coefficients
  abbrev κ : Polynomial (fractions F) → Polynomial (fractions F)
  κ = FormalDerivative.coefficientwise (fractions F) (fraction_derivation F (Derivation.formal_derivation F))

  abbrev κ-derivation : Derivation (polynomials (fractions F))
  κ-derivation = Derivation.derivation (fractions F) (fraction_derivation F (Derivation.formal_derivation F)) (polynomials (fractions F)).zero

  -- d/dz of an element of K is 0
  constant-derivative : (x : A) → ∂z.derive ((constant_fraction F).apply x) ≡ L.zero
  constant-derivative x =
      ap ∂z.derive (constant_fraction-apply F x) ∙ fraction_derivation-polynomial F (Derivation.formal_derivation F) (constant F x)
      ∙ ap (of_polynomial F) (Derivation.derive_polynomial-constant F (Derivations.zero_derivation F.ring) R.one x ∙ Degree.constant-zero F)
      ∙ of_polynomial-zero F

  -- d/dz of a polynomial over K is 0
  κ-lift : (p : Polynomial F) → κ (lift F p) ≡ T.zero
  κ-lift p = polynomial_ext L (κ (lift F p)) T.zero (λ i.
      FormalDerivative.coefficient-coefficientwise L ∂z (lift F p) i
      ∙ ap ∂z.derive (coefficient-map_polynomial F L (constant_fraction F) p i)
      ∙ constant-derivative (coefficient F p i) ∙ sym (coefficient-zero L i))

  -- d/dz of a - z·e is -e
  κ-residue_polynomial : (a e : Polynomial F) → κ (residue_polynomial F a e) ≡ T.neg (lift F e)
  unfolding residue_polynomial
  κ-residue_polynomial a e =
      κ-derivation.derive-add _ _
      ∙ ap₂ T.add (κ-lift a)
      (κ-derivation.derive-mul _ _
      ∙ ap₂ T.add
      (ap (λ x. T.mul x (lift F e))
      (Derivation.derive_polynomial-constant L ∂z T.zero _
      ∙ ap (constant L) (fraction_derivation-polynomial F (Derivation.formal_derivation F) (R.neg (variable F))
      ∙ ap (of_polynomial F) (Derivations.derive-neg (Derivation.formal_derivation F) (variable F) ∙ ap R.neg (Derivation.derive_polynomial-variable F (Derivations.zero_derivation F.ring) R.one))
      ∙ of_polynomial-neg F R.one ∙ ap L.neg (of_polynomial-one F))
      ∙ Degree.constant-neg L L.one ∙ ap T.neg (Degree.constant-one L))
      ∙ Laws.neg-mul T T.one (lift F e) ∙ ap T.neg (Laws.one-mul T (lift F e)))
      (ap (T.mul _) (κ-lift e) ∙ Laws.mul-zero T _)
      ∙ T.add-zero _)
      ∙ Laws.zero-add T _

  -- d/dz lowers the degree of a monic polynomial
  κ-monic : (g : Polynomial (fractions F)) → IsMonic (fractions F) g → Divides (fractions F) g (κ g) → κ g ≡ T.zero
  κ-monic g m h = elim (Degree.dec_zero L (κ g)) [
    | yes e ↦ e
    | no n ↦
        let s = Divides.size-divides L g (κ g) h n in
        let k = Degree.size_of_nonzero L g (Gcd.monic-nonzero L g m) in
        let l = Degree.size-le L (κ g) (degree L g) below in
        absurd (omega (arith, s, k, l))
  ]
    where
      below : (i : ℕ) → degree (fractions F) g ≤ i → coefficient (fractions F) (κ g) i ≡ (fractions F).zero
      below i l = FormalDerivative.coefficient-coefficientwise L ∂z g i ∙ go (ℕ_discrete i (degree L g))
        where
          go : Dec (i ≡ degree (fractions F) g) → ∂z.derive (coefficient (fractions F) g i) ≡ (fractions F).zero
          go (yes e) = ap (λ j. ∂z.derive (coefficient L g j)) e ∙ ap ∂z.derive m ∙ Derivations.derive-one ∂z
          go (no n) =
              ap ∂z.derive (Degree.below_size L g i (let k = Degree.size_of_nonzero L g (Gcd.monic-nonzero L g m) in omega (arith, k, l, n)))
              ∙ Derivations.derive-zero ∂z

  -- gcd(d, a - z·e) = 1 over K(z)
  pub residue_polynomial-coprime : HasCharacteristicZero F.ring → (d a e : Polynomial F) → ¬ (d ≡ (polynomials F).zero) → IsSquareFree F d → IsCoprime F d e
      → IsCoprime (fractions F) (lift F d) (residue_polynomial F a e)
  residue_polynomial-coprime char d a e n sf c = Gcd.coprime_of_divisors L (lift F d) (residue_polynomial F a e) (map_polynomial-nonzero F L (constant_fraction F) d n) small
    where
      square_free : IsSquareFree (fractions F) (lift F d)
      square_free = SquareFree.square_free_of_coprime L (Derivation.formal_derivation L) (lift F d)
          (subst (IsCoprime L (lift F d)) (map-formal_derivative F L (constant_fraction F) d) (map-coprime F L (constant_fraction F) d _ (SquareFree.coprime_of_square_free F char d n sf)))

      monic-small : (g : Polynomial (fractions F)) → IsMonic (fractions F) g → Divides (fractions F) g (lift F d) → Divides (fractions F) g (residue_polynomial F a e) → size (fractions F) g ≡ 1
      monic-small g m h k = Gcd.size_of_unit L g (Gcd.coprime-common_divisor L (lift F d) (lift F e) g (map-coprime F L (constant_fraction F) d e c) h g-divides-e)
        where
          κg : κ g ≡ T.zero
          κg = κ-monic g m
              (Gcd.coprime-divides_of_mul L g h.cofactor (κ g)
              (Gcd.coprime_sym L h.cofactor g (SquareFreeParts.square_free-coprime L h.cofactor g
              (Divides.cofactor-nonzero L g (lift F d) h (map_polynomial-nonzero F L (constant_fraction F) d n))
              (subst (IsSquareFree L) h.equation square_free)))
              (Divides.divides_of_add L g (T.mul (κ h.cofactor) g) (T.mul h.cofactor (κ g)) (Divides.divides-mul L (κ h.cofactor) g)
              (subst (Divides L g) (sym (κ-lift d) ∙ ap κ h.equation ∙ κ-derivation.derive-mul h.cofactor g) (Divides.divides-zero L g))))

          g-divides-e : Divides (fractions F) g (lift F e)
          g-divides-e = subst (Divides L g) (Laws.neg-neg T (lift F e))
              (Divides.divides-neg L g (T.neg (lift F e))
              (subst (Divides L g)
              (sym (sym (κ-residue_polynomial a e) ∙ ap κ k.equation ∙ κ-derivation.derive-mul k.cofactor g
              ∙ ap (λ x. T.add (T.mul (κ k.cofactor) g) x) (ap (T.mul k.cofactor) κg ∙ Laws.mul-zero T k.cofactor) ∙ T.add-zero _))
              (Divides.divides-mul L (κ k.cofactor) g)))

      small : (g : Polynomial (fractions F)) → Divides (fractions F) g (lift F d) → Divides (fractions F) g (residue_polynomial F a e) → size (fractions F) g ≤ 1
      small g h k =
          let nz = Divides.divisor-nonzero L g (lift F d) h (map_polynomial-nonzero F L (constant_fraction F) d n) in
          let s = monic-small (Gcd.monic L g) (Gcd.monic-is_monic L g nz) (Gcd.monic-divides L g (lift F d) h) (Gcd.monic-divides L g (residue_polynomial F a e) k) in
          let z = Gcd.size-monic L g in
          omega (arith, s, z)

  -- ---- at z = α

  module _ {C : Type 0} (E : Field C) (f : RingMap F.ring E.ring) (α : C) where
    abbrev S : CommRing (Polynomial E)
    S = polynomials E

    -- a - α·e over E
    unfoldable pub residue_polynomial_at : (a e : Polynomial F) → Polynomial E
    residue_polynomial_at a e = (polynomials E).add (map_polynomial F E f a) ((polynomials E).mul (constant E (E.neg α)) (map_polynomial F E f e))

    -- p has the values of its coefficients at z = α
    pub lift-has_values : (p : Polynomial F) → HasValues (fractions F) E (place_at F E f α) (lift F p) (map_polynomial F E f p)
    lift-has_values p i = move L E (place_at F E f α) _ _ _ _
        (sym (coefficient-map_polynomial F L (constant_fraction F) p i ∙ constant_fraction-apply F (coefficient F p i)))
        (Evaluation.value-constant F E.ring f α (coefficient F p i) ∙ sym (coefficient-map_polynomial F E f p i))
        (polynomial_value F E f α (constant F (coefficient F p i)))

    at-variable : at F E f α (variable F) ≡ α
    at-variable =
        ap (at F E f α) (sym (R.mul-one (variable F))) ∙ Evaluation.value-variable_mul F E.ring f α R.one
        ∙ ap (E.mul α) (Evaluation.evaluation F E.ring f α).apply-one ∙ E.mul-one α

    -- a - z·e has the value a - α·e
    pub residue_polynomial-has_values : (a e : Polynomial F) → HasValues (fractions F) E (place_at F E f α) (residue_polynomial F a e) (residue_polynomial_at a e)
    unfolding residue_polynomial residue_polynomial_at
    residue_polynomial-has_values a e =
        values-add L E (place_at F E f α) _ _ _ _ (lift-has_values a)
        (values-constant_mul L E (place_at F E f α) _ _ _ _
        (move L E (place_at F E f α) _ _ _ _ refl (RingMaps.apply-neg (Evaluation.evaluation F E.ring f α) (variable F) ∙ ap E.neg at-variable)
        (polynomial_value F E f α (R.neg (variable F))))
        (lift-has_values e))

    -- gcd(d, a - α·e)
    abbrev pub gcd_at : (d a e : Polynomial F) → Polynomial E
    gcd_at d a e = Gcd.gcd E (map_polynomial F E f d) (residue_polynomial_at a e)

    -- d and a - z·e at z = α are H·G and B·G with G = gcd(d, a - α·e) and H, B coprime
    unfoldable pub reduction_at : (d a e : Polynomial F) → ¬ (d ≡ (polynomials F).zero) → Reduction (fractions F) E (place_at F E f α) (lift F d) (residue_polynomial F a e)
    reduction_at d a e n =
        let h = Gcd.gcd-divides_left E (map_polynomial F E f d) (residue_polynomial_at a e) in
        let k = Gcd.gcd-divides_right E (map_polynomial F E f d) (residue_polynomial_at a e) in
        let nz = map_polynomial-nonzero F E f d n in
        record {
          common = gcd_at d a e;
          left_cofactor = h.cofactor;
          right_cofactor = k.cofactor;
          has_left = move_values L E (place_at F E f α) _ _ _ _ refl h.equation (lift-has_values d);
          has_right = move_values L E (place_at F E f α) _ _ _ _ refl k.equation (residue_polynomial-has_values a e);
          coprime = Gcd.coprime_cofactors E (map_polynomial F E f d) (residue_polynomial_at a e) (Gcd.gcd-nonzero_left E (map_polynomial F E f d) (residue_polynomial_at a e) nz);
          nonzero = λ z. nz (h.equation ∙ z);
          same_size = sym (ap (size E) h.equation) ∙ size-map_polynomial F E f d ∙ sym (size-map_polynomial F L (constant_fraction F) d);
        }

    -- its G is gcd(d, a - α·e)
    pub reduction_at-common : (d a e : Polynomial F) (n : ¬ (d ≡ (polynomials F).zero)) → (reduction_at d a e n).common ≡ gcd_at d a e
    unfolding reduction_at
    reduction_at-common d a e n = refl
