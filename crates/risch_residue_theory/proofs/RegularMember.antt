-- The members of a remainder sequence of d and a - z·e over K[z], at the points z = α: the member of the degree of gcd(d, a - α·e) exists and is
-- this gcd at z = α, but for a constant factor. Made monic modulo a polynomial that vanishes at α, it is this gcd.
use Rattle.std.specs.Prelude.{◌≡◌, ℕ, suc, ◌≤◌, ◌<◌, List, [], ◌∷◌, map, pred}
use Rattle.std.proofs.Common.{refl, sym, ap, subst, ◌∙◌, arith, inl, inr}
use Rattle.risch_ring.specs.CommRing.{CommRing, Field, RingMap, sub, HasCharacteristicZero}
use Rattle.risch_ring.proofs.Laws as Laws
use Rattle.risch_univariate.specs.Polynomial.{Polynomial, constant, coefficient}
use Rattle.risch_univariate.specs.Degree.{size, IsMonic}
use Rattle.risch_univariate.specs.Division.{Divides, IsCoprime, IsSquareFree}
use Rattle.risch_univariate.proofs.Degree as Degree
use Rattle.risch_univariate.proofs.Divides as Divides
use Rattle.risch_univariate.proofs.Gcd as Gcd
use Rattle.risch_univariate.proofs.Evaluation as Evaluation
use Rattle.risch_fraction_field.specs.Fraction.{Fraction}
use Rattle.risch_fraction_field.specs.DifferentialField.{constant_fraction}
use Rattle.risch_residue_theory.proofs.Place.{Some, values_unique}
use Rattle.risch_residue_theory.proofs.PlaceAtPoint.{place_at, at}
use Rattle.risch_residue_theory.proofs.BivariatePolynomials.{values_at, coefficient-values_at, bivariate-has_values, primitive-nonzero}
use Rattle.risch_residue_theory.proofs.GcdAtResidues.{residue_polynomial-coprime, gcd_at, reduction_at}
use Rattle.risch_residue_theory.proofs.RemainderSequences.{sequence_of_coprime, Cofactors, EachPrimitive, regular_member, regular_value}
use Rattle.risch_univariate.specs.PolynomialRing.{polynomials}
use Rattle.risch_univariate.specs.PolynomialLaws.{polynomial_ext}
use Rattle.risch_univariate.proofs.Coefficients.{coefficient-constant_mul}
use Rattle.risch_fraction_field.specs.FractionField.{fractions}
use Rattle.risch_extension.proofs.PolynomialMaps.{size-map_polynomial}
use Rattle.risch_residue_theory.specs.BivariatePolynomial.{lift, bivariate, coefficient_at, content, residue_polynomial}
use Rattle.risch_residue_theory.specs.RemainderSequence.{IsSequence, PrimitiveSequence}
use Rattle.risch_ring.specs.Lists.{Each, Member}

module _ {A : Type 0} (F : Field A) where
  abbrev R : CommRing (Polynomial F)
  R = polynomials F

  abbrev L : Field (Fraction F)
  L = fractions F

  abbrev T : CommRing (Polynomial (fractions F))
  T = polynomials (fractions F)

  among_of_lists : (cs : List (Polynomial F)) (dss : List (List (Polynomial F))) → Member cs dss → Member (bivariate F cs) (map (bivariate F) dss)
  among_of_lists cs [] x = x
  among_of_lists cs (ds ∷ dss) (inl e) = inl (ap (bivariate F) e)
  among_of_lists cs (ds ∷ dss) (inr x) = inr (among_of_lists cs dss x)

  lists_of_among : (M : Polynomial (fractions F)) (dss : List (List (Polynomial F))) → Member M (map (bivariate F) dss) → Some (λ cs. Member cs dss × (M ≡ bivariate F cs))
  lists_of_among M [] x = absurd x
  lists_of_among M (ds ∷ dss) (inl e) = record { value = ds; has_value = (inl refl, e) }
  lists_of_among M (ds ∷ dss) (inr x) = let y = lists_of_among M dss x in record { value = y.value; has_value = (inr y.has_value.0, y.has_value.1) }

  module _ (char : HasCharacteristicZero F.ring) (k : ℕ) (positive : 1 ≤ k) (d a e : Polynomial F) (css : List (List (Polynomial F)))
      (nonzero : ¬ (d ≡ (polynomials F).zero)) (square_free : IsSquareFree F d) (coprime : IsCoprime F d e) (s : PrimitiveSequence F k d a e css) where
    sequence : IsSequence (fractions F) k (lift F d) (bivariate F s.first) (map (bivariate F) s.others)
    sequence = sequence_of_coprime L k positive (lift F d) (bivariate F s.first) (map (bivariate F) s.others)
        (subst (IsCoprime L (lift F d)) (sym s.first-equation)
        (Gcd.coprime_sym L _ (lift F d)
        (Gcd.coprime-constant_mul L (constant L s.factor) (residue_polynomial F a e) (lift F d) (Divides.constant-divides L s.factor T.one s.factor-nonzero)
        (Gcd.coprime_sym L (lift F d) (residue_polynomial F a e) (residue_polynomial-coprime F char d a e nonzero square_free coprime)))))
        s.is_sequence

    cofactors : Cofactors (fractions F) (lift F d) (residue_polynomial F a e) (bivariate F s.first) (size (fractions F) (lift F d))
    cofactors = record {
      left = T.zero;
      right = constant L s.factor;
      equation = s.first-equation ∙ sym (ap (λ z. T.add z (T.mul (constant L s.factor) (residue_polynomial F a e))) (Laws.zero-mul T (lift F d)) ∙ Laws.zero-add T _);
      small = let l = Degree.size-constant-le L s.factor in omega (arith, l);
    }

    module _ {C : Type 0} (E : Field C) (f : RingMap F.ring E.ring) (α : C) where
      abbrev S : CommRing (Polynomial E)
      S = polynomials E

      -- gcd(d, a - α·e)
      abbrev G : Polynomial E
      G = gcd_at F E f α d a e

      each-primitive : (dss : List (List (Polynomial F))) → Each (λ cs. content F cs ≡ (polynomials F).one) dss → EachPrimitive (fractions F) E (place_at F E f α) (map (bivariate F) dss)
      each-primitive [] h = tt
      each-primitive (ds ∷ dss) h = (
        record { value = values_at F E f α ds; has_value = (bivariate-has_values F E f α ds, primitive-nonzero F E f α ds h.0) },
        each-primitive dss h.1,
      )

      -- the member of the degree of gcd(d, a - α·e) exists
      pub record HasRegularMember : Type 0 where
        pub coefficients : List (Polynomial F)
        pub among : Member coefficients css
        pub same_size : size (fractions F) (bivariate F coefficients) ≡ size E (gcd_at F E f α d a e)

      -- it exists, if its degree is at least k - 1 and below deg d
      pub regular_member_exists : k ≤ size E (gcd_at F E f α d a e) → size E (gcd_at F E f α d a e) < size F d → HasRegularMember
      unfolding reduction_at
      regular_member_exists low big =
          let m = regular_member L E (place_at F E f α) (lift F d) (residue_polynomial F a e) (reduction_at F E f α d a e nonzero) k low
          (bivariate F s.first) cofactors (map (bivariate F) s.others) sequence (each-primitive (s.first ∷ s.others) s.is_primitive)
          (let z = size-map_polynomial F L (constant_fraction F) d in let y = s.size-first in omega (arith, z, y))
          (let z = size-map_polynomial F L (constant_fraction F) d in omega (arith, z, big)) in
          let x = lists_of_among m.member (s.first ∷ s.others) m.among in
          record {
            coefficients = x.value;
            among = subst (Member x.value) (sym s.all) x.has_value.0;
            same_size = ap (size L) (sym x.has_value.1) ∙ m.same_size;
          }

      -- it is c·gcd(d, a - α·e) at z = α, with c ≠ 0
      pub record IsRegularAt (cs : List (Polynomial F)) : Type 0 where
        pub factor : C
        pub factor-nonzero : ¬ (factor ≡ E.zero)
        pub equation : values_at F E f α cs ≡ (polynomials E).mul (constant E factor) (gcd_at F E f α d a e)

      -- each member of the degree of gcd(d, a - α·e) is this gcd at z = α, but for a factor that is not 0
      pub regular_member_at : k ≤ size E (gcd_at F E f α d a e) → size E (gcd_at F E f α d a e) < size F d → (cs : List (Polynomial F)) → Member cs css
          → size (fractions F) (bivariate F cs) ≡ size E (gcd_at F E f α d a e) → IsRegularAt cs
      unfolding reduction_at
      regular_member_at low big cs x q =
          let m = regular_value L E (place_at F E f α) (lift F d) (residue_polynomial F a e) (reduction_at F E f α d a e nonzero) k low
          (bivariate F s.first) cofactors (map (bivariate F) s.others) sequence (each-primitive (s.first ∷ s.others) s.is_primitive)
          (let z = size-map_polynomial F L (constant_fraction F) d in let y = s.size-first in omega (arith, z, y))
          (let z = size-map_polynomial F L (constant_fraction F) d in omega (arith, z, big))
          (bivariate F cs) (among_of_lists cs (s.first ∷ s.others) (subst (Member cs) s.all x)) q in
          record {
            factor = m.factor;
            factor-nonzero = m.factor-nonzero;
            equation = values_unique L E (place_at F E f α) (bivariate F cs) _ _ (bivariate-has_values F E f α cs) m.has_values;
          }

      -- its leading coefficient is c at z = α
      pub leading-at : (cs : List (Polynomial F)) (h : IsRegularAt cs) (i : ℕ) → size E (gcd_at F E f α d a e) ≡ suc i → at F E f α (coefficient_at F cs i) ≡ h.factor
      leading-at cs h i q =
          sym (coefficient-values_at F E f α cs i) ∙ ap (λ z. coefficient E z i) h.equation ∙ coefficient-constant_mul E h.factor G i
          ∙ ap (E.mul h.factor) (ap (coefficient E G) (sym (ap pred q)) ∙ monic) ∙ E.mul-one h.factor
        where
          monic : IsMonic E (gcd_at F E f α d a e)
          monic = Gcd.gcd-is_monic E _ _ (Degree.nonzero_of_size E G (omega (arith, q)))

      -- made monic modulo P with P(α) = 0, it is gcd(d, a - α·e) at z = α
      pub monic_member_at : (cs : List (Polynomial F)) → IsRegularAt cs → (i : ℕ) → size E (gcd_at F E f α d a e) ≡ suc i
          → (P : Polynomial F) → at F E f α P ≡ E.zero → (inverse : Polynomial F)
          → Divides F P (sub (polynomials F) ((polynomials F).mul inverse (coefficient_at F cs i)) (polynomials F).one)
          → (ss : List (Polynomial F)) → ((j : ℕ) → Divides F P (sub (polynomials F) (coefficient_at F ss j) ((polynomials F).mul inverse (coefficient_at F cs j))))
          → values_at F E f α ss ≡ gcd_at F E f α d a e
      monic_member_at cs h i q P root inverse unit ss congruent = polynomial_ext E (values_at F E f α ss) G (λ j.
          coefficient-values_at F E f α ss j ∙ same _ _ (congruent j) ∙ Evaluation.value-mul F E.ring f α inverse (coefficient_at F cs j)
          ∙ ap (E.mul (at F E f α inverse)) (sym (coefficient-values_at F E f α cs j) ∙ ap (λ z. coefficient E z j) h.equation ∙ coefficient-constant_mul E h.factor G j)
          ∙ sym (E.mul_assoc (at F E f α inverse) h.factor (coefficient E G j)) ∙ ap (λ z. E.mul z (coefficient E G j)) cancel ∙ Laws.one-mul E.ring (coefficient E G j))
        where
          -- polynomials that are congruent modulo P agree at α
          same : (x y : Polynomial F) → Divides F P (sub (polynomials F) x y) → at F E f α x ≡ at F E f α y
          same x y g =
              ap (at F E f α) (sym (Laws.neg-add_cancel R x y) ∙ ap (λ z. R.add z y) g.equation) ∙ Evaluation.value-add F E.ring f α _ y
              ∙ ap (λ z. E.add z (at F E f α y)) (Evaluation.value-mul F E.ring f α g.cofactor P ∙ ap (E.mul (at F E f α g.cofactor)) root ∙ Laws.mul-zero E.ring _)
              ∙ Laws.zero-add E.ring (at F E f α y)

          cancel : E.mul (at F E f α inverse) h.factor ≡ E.one
          cancel =
              ap (E.mul (at F E f α inverse)) (sym (leading-at cs h i q)) ∙ sym (Evaluation.value-mul F E.ring f α inverse (coefficient_at F cs i))
              ∙ same _ _ unit ∙ (Evaluation.evaluation F E.ring f α).apply-one
