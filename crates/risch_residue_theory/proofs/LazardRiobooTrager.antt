-- The theorem of Rothstein and Trager in the form of Lazard, Rioboo and Trager, over a field K of characteristic 0 with a derivation.
-- h = a/d with d monic, gcd(d, D(d)) = 1 and deg a < deg d. C in K[z] is the polynomial of the residues, with constant coefficients; its square-free
-- parts are P_1, P_2, … For P_k ≠ 1 the logarithm has the argument d, if k = deg d, and else the member of degree k in t of a primitive remainder sequence
-- of d and a - z·D(d) in K[z][t], made monic modulo P_k. Then the derivative of the logarithms is h.
use Rattle.std.specs.Prelude.{◌≡◌, ℕ, zero, suc, pred, ◌≤◌, ◌<◌, List, [], ◌∷◌}
use Rattle.std.proofs.Common.{sym, ap, ap₂, ◌∙◌, arith, inl, inr}
use Rattle.risch_ring.specs.CommRing.{Field, RingMap, Derivation, quotient, HasCharacteristicZero}
use Rattle.risch_ring.specs.Sums.{sum_over}
use Rattle.risch_univariate.specs.Polynomial.{Polynomial, constant, variable, coefficient}
use Rattle.risch_univariate.specs.Degree.{size, IsMonic}
use Rattle.risch_univariate.specs.Division.{IsCoprime, IsSquareFree}
use Rattle.risch_ring.proofs.FieldLaws as FieldLaws
use Rattle.risch_univariate.proofs.Degree as Degree
use Rattle.risch_univariate.proofs.Gcd as Gcd
use Rattle.risch_univariate.proofs.Evaluation as Evaluation
use Rattle.risch_univariate.proofs.Irreducible as Irreducible
use Rattle.risch_univariate.proofs.Derivation as Derivation
use Rattle.risch_univariate.proofs.SquareFree as SquareFree
use Rattle.risch_univariate.proofs.SquareFreeParts as SquareFreeParts
use Rattle.risch_fraction_field.specs.Fraction.{Fraction, of_polynomial}
use Rattle.risch_fraction_field.specs.DifferentialField.{constant_fraction, constant_fraction-apply}
use Rattle.risch_extension.proofs.SplittingField.{by_splitting, monic-splitting}
use Rattle.risch_residue_theory.proofs.PlaceAtPoint.{at}
use Rattle.risch_residue_theory.proofs.BivariatePolynomials.{values_at, coefficient-values_at}
use Rattle.risch_residue_theory.proofs.GcdAtResidues.{gcd_at}
use Rattle.risch_residue_theory.proofs.RegularMember.{regular_member_at, monic_member_at}
use Rattle.risch_residue_theory.proofs.FractionMap.{fraction_map, fraction_map-polynomial}
use Rattle.risch_residue_theory.proofs.LogarithmsDerivative.{residue, logarithms-primitive, logarithms-exponential}
use Rattle.risch_residue_theory.proofs.SquareFreeLogarithms.{logarithms-complete}
use Rattle.risch_univariate.specs.PolynomialRing.{polynomials, horner}
use Rattle.risch_univariate.specs.PolynomialLaws.{polynomial_ext}
use Rattle.risch_univariate.proofs.PolynomialInduction.{polynomial_induction}
use Rattle.risch_univariate.proofs.Coefficients.{coefficient-horner-zero, coefficient-horner-suc, coefficient-zero}
use Rattle.risch_fraction_field.specs.FractionField.{fractions}
use Rattle.risch_extension.specs.PolynomialMap.{map_polynomial}
use Rattle.risch_extension.specs.LinearFactors.{product_of_linear}
use Rattle.risch_extension.proofs.PolynomialMaps.{map_polynomial-zero, map_polynomial-horner, map_polynomial-nonzero, map_polynomial-constant, coefficient-map_polynomial, size-map_polynomial, map_polynomial-variable}
use Rattle.risch_extension.specs.Extension.{Extension}
use Rattle.risch_fraction_field.specs.Representation.{of_polynomial-mul, of_polynomial-add, of_polynomial-zero}
use Rattle.risch_residue_theory.specs.BivariatePolynomial.{lift, by_powers}
use Rattle.risch_residue_theory.specs.RemainderSequence.{PrimitiveSequence}
use Rattle.risch_residue_theory.specs.Residue.{IsResiduePolynomial}
use Rattle.risch_residue_theory.specs.Logarithm.{Logarithm, derivative, AreLogarithmsOf}
use Rattle.risch_residue_theory.specs.LogarithmArgument.{IsMonicMember, IsArgument}

-- ---- S ordered by powers of z

module _ {A : Type 0} (F : Field A) where
  module _ {C : Type 0} (E : Field C) (f : RingMap F.ring E.ring) (β : C) where
    abbrev K : Field (Fraction E)
    K = fractions E

    -- s(β) in E(t)
    abbrev value : Polynomial (fractions F) → Fraction E
    value = Evaluation.value (fractions F) (fractions E).ring (fraction_map F E f) ((constant_fraction E).apply β)

    constant-map : (x : A) → (fraction_map F E f).apply ((constant_fraction F).apply x) ≡ of_polynomial E (constant E (f.apply x))
    constant-map x =
        ap (fraction_map F E f).apply (constant_fraction-apply F x) ∙ fraction_map-polynomial F E f (constant F x) ∙ ap (of_polynomial E) (map_polynomial-constant F E f x)

    -- p(β) for p in K[z]
    value-lift : (p : Polynomial F) → value (lift F p) ≡ of_polynomial E (constant E (at F E f β p))
    value-lift = polynomial_induction F (λ p. value (lift F p) ≡ of_polynomial E (constant E (at F E f β p)))
        (ap value (map_polynomial-zero F (fractions F) (constant_fraction F)) ∙ Evaluation.value-zero (fractions F) K.ring (fraction_map F E f) ((constant_fraction E).apply β)
        ∙ sym (ap (λ z. of_polynomial E (constant E z)) (Evaluation.value-zero F E.ring f β) ∙ ap (of_polynomial E) (Degree.constant-zero E) ∙ of_polynomial-zero E))
        (λ x p ih.
        ap value (map_polynomial-horner F (fractions F) (constant_fraction F) x p)
        ∙ Evaluation.value-horner (fractions F) K.ring (fraction_map F E f) ((constant_fraction E).apply β) _ (lift F p)
        ∙ ap₂ K.add (constant-map x) (ap₂ K.mul (constant_fraction-apply E β) ih ∙ sym (of_polynomial-mul E _ _))
        ∙ sym (of_polynomial-add E _ _)
        ∙ ap (of_polynomial E)
        (ap ((polynomials E).add (constant E (f.apply x))) (sym (Degree.constant-mul E β (at F E f β p))) ∙ sym (Degree.constant-add E (f.apply x) (E.mul β (at F E f β p)))
        ∙ ap (constant E) (sym (Evaluation.value-horner F E.ring f β x p))))

    values_at-cons : (c : Polynomial F) (cs : List (Polynomial F)) → values_at F E f β (c ∷ cs) ≡ horner E (at F E f β c) (values_at F E f β cs)
    values_at-cons c cs = polynomial_ext E _ _ same
      where
        same : (i : ℕ) → coefficient E (values_at F E f β (c ∷ cs)) i ≡ coefficient E (horner E (at F E f β c) (values_at F E f β cs)) i
        same zero = coefficient-values_at F E f β (c ∷ cs) 0 ∙ sym (coefficient-horner-zero E _ _)
        same (suc i) = coefficient-values_at F E f β (c ∷ cs) (suc i) ∙ sym (coefficient-horner-suc E _ _ i ∙ coefficient-values_at F E f β cs i)

    values_at-nil : values_at F E f β [] ≡ (polynomials E).zero
    values_at-nil = polynomial_ext E _ _ (λ i. coefficient-values_at F E f β [] i ∙ Evaluation.value-zero F E.ring f β ∙ sym (coefficient-zero E i))

    -- the value at z = β is the polynomial of the values of the coefficients
    pub value-by_powers : (cs : List (Polynomial F)) → Evaluation.value (fractions F) (fractions E).ring (fraction_map F E f) ((constant_fraction E).apply β) (by_powers F cs)
        ≡ of_polynomial E (values_at F E f β cs)
    unfolding by_powers
    value-by_powers [] =
        Evaluation.value-zero (fractions F) K.ring (fraction_map F E f) ((constant_fraction E).apply β) ∙ sym (of_polynomial-zero E) ∙ ap (of_polynomial E) (sym values_at-nil)
    value-by_powers (c ∷ cs) =
        Evaluation.value-add (fractions F) K.ring (fraction_map F E f) ((constant_fraction E).apply β) _ _
        ∙ ap₂ K.add (value-lift c)
        (Evaluation.value-mul (fractions F) K.ring (fraction_map F E f) ((constant_fraction E).apply β) _ _
        ∙ ap₂ K.mul
        (Evaluation.value-constant (fractions F) K.ring (fraction_map F E f) ((constant_fraction E).apply β) (of_polynomial F (variable F))
        ∙ fraction_map-polynomial F E f (variable F) ∙ ap (of_polynomial E) (map_polynomial-variable F E f))
        (value-by_powers cs)
        ∙ sym (of_polynomial-mul E _ _))
        ∙ sym (of_polynomial-add E _ _) ∙ ap (of_polynomial E) (sym (values_at-cons c cs))

-- ---- the arguments

-- d is gcd(d, a - β·e), where this has the degree of d
pub denominator_values : {A C : Type 0} (F : Field A) (E : Field C) (f : RingMap F.ring E.ring) (β : C) (d a e : Polynomial F) → IsMonic F d → size E (gcd_at F E f β d a e) ≡ size F d
    → Evaluation.value (fractions F) (fractions E).ring (fraction_map F E f) ((constant_fraction E).apply β) (constant (fractions F) (of_polynomial F d)) ≡ of_polynomial E (gcd_at F E f β d a e)
denominator_values F E f β d a e is_monic q =
    Evaluation.value-constant (fractions F) (fractions E).ring (fraction_map F E f) ((constant_fraction E).apply β) (of_polynomial F d)
    ∙ fraction_map-polynomial F E f d
    ∙ ap (of_polynomial E) (Gcd.monic_antisymm E (map_polynomial F E f d) (gcd_at F E f β d a e) d-monic
    (Gcd.gcd-is_monic E _ _ (Gcd.gcd-nonzero_left E _ _ d-nonzero))
    (Irreducible.divides_of_same_size E (gcd_at F E f β d a e) (map_polynomial F E f d) (Gcd.gcd-divides_left E _ _) d-nonzero (q ∙ sym (size-map_polynomial F E f d)))
    (Gcd.gcd-divides_left E _ _))
  where
    d-nonzero : ¬ (map_polynomial F E f d ≡ (polynomials E).zero)
    d-nonzero = map_polynomial-nonzero F E f d (Gcd.monic-nonzero F d is_monic)

    d-monic : IsMonic E (map_polynomial F E f d)
    d-monic =
        coefficient-map_polynomial F E f d _
        ∙ ap (λ s. f.apply (coefficient F d (pred s))) (size-map_polynomial F E f d) ∙ ap f.apply is_monic ∙ f.apply-one

module _ {A : Type 0} (F : Field A) (D : Derivation F.ring) (w : Polynomial F) (char : HasCharacteristicZero F.ring) (d a : Polynomial F) (is_monic : IsMonic F d)
    (coprime : IsCoprime F d (Derivation.derive_polynomial F D w d)) (n : ℕ) (positive : 1 ≤ n) (css : List (List (Polynomial F)))
    (sequence : PrimitiveSequence F n d a (Derivation.derive_polynomial F D w d) css) where
  nonzero : ¬ (d ≡ (polynomials F).zero)
  nonzero = Gcd.monic-nonzero F d is_monic

  -- at each root β of P_k the argument is gcd(d, a - β·D(d))
  pub argument_values : (X : Extension F D) (k : ℕ) (l : Logarithm F D w) → IsArgument F D w d n css k l → (β : X.carrier) → Evaluation.value F X.field.ring X.map β l.polynomial ≡ X.field.zero
      → size X.field (gcd_at F X.field X.map β d a (Derivation.derive_polynomial F D w d)) ≡ suc k
      → Evaluation.value (fractions F) (fractions X.field).ring (fraction_map F X.field X.map) ((constant_fraction X.field).apply β) l.argument
      ≡ of_polynomial X.field (gcd_at F X.field X.map β d a (Derivation.derive_polynomial F D w d))
  argument_values X k l (inl h) β z q =
      ap (Evaluation.value (fractions F) (fractions X.field).ring (fraction_map F X.field X.map) ((constant_fraction X.field).apply β)) h.1
      ∙ denominator_values F X.field X.map β d a (Derivation.derive_polynomial F D w d) is_monic (q ∙ sym h.0)
  argument_values X k l (inr h) β z q =
      ap (Evaluation.value (fractions F) (fractions X.field).ring (fraction_map F X.field X.map) ((constant_fraction X.field).apply β)) h.equation
      ∙ value-by_powers F X.field X.map β h.coefficients
      ∙ ap (of_polynomial X.field)
      (monic_member_at F char n positive d a e css nonzero square_free coprime sequence X.field X.map β c.coefficients
      (regular_member_at F char n positive d a e css nonzero square_free coprime sequence X.field X.map β
      (let x = h.wanted in omega (arith, x, q)) (let x = h.below in omega (arith, x, q)) c.coefficients c.among (c.same_size ∙ sym q))
      k q l.polynomial z c.inverse c.inverse-equation h.coefficients c.congruent)
    where
      e : Polynomial F
      e = Derivation.derive_polynomial F D w d

      c : IsMonicMember F D w d n css k l.polynomial h.coefficients
      c = h.is_member

      square_free : IsSquareFree F d
      square_free = SquareFree.square_free_of_coprime F (Derivation.derivation F D w) d coprime

-- ---- the theorem

pub stable : {A : Type 0} (F : Field A) (x y : A) → ¬ ¬ (x ≡ y) → x ≡ y
stable F x y h = elim (FieldLaws.dec_eq F x y) [ yes e ↦ e | no n ↦ absurd (h n) ]

-- Dt = η in K: the derivative of the logarithms is h = a/d
pub rothstein_trager-primitive : {A : Type 0} (F : Field A) (D : Derivation F.ring) (η : A) (char : HasCharacteristicZero F.ring) (d a : Polynomial F) (is_monic : IsMonic F d)
    (coprime : IsCoprime F d (Derivation.derive_polynomial F D (constant F η) d)) → size F a < size F d
    → (n : ℕ) (positive : 1 ≤ n) (css : List (List (Polynomial F))) (sequence : PrimitiveSequence F n d a (Derivation.derive_polynomial F D (constant F η) d) css)
    → (C : Polynomial F) → IsMonic F C → IsResiduePolynomial F D (constant F η) d a C
    → (ls : List (Logarithm F D (constant F η)))
    → AreLogarithmsOf F D (constant F η) (IsArgument F D (constant F η) d n css) 1 (SquareFreeParts.square_free_parts F char C) ls
    → sum_over (fractions F).ring (derivative F D (constant F η)) ls ≡ quotient (fractions F) (of_polynomial F a) (of_polynomial F d)
rothstein_trager-primitive F D η char d a is_monic coprime l n positive css sequence C C-monic residues ls x =
    by_splitting (stable (fractions F) _ _) F char D d (Gcd.monic-nonzero F d is_monic) (λ s.
    let splits = monic-splitting F D d s is_monic in
    logarithms-primitive F D η d a (Gcd.monic-nonzero F d is_monic) coprime l s.extension s.roots splits char ls
    (logarithms-complete F D (constant F η) char d a (Gcd.monic-nonzero F d is_monic) coprime s.extension s.roots splits C (residues s.extension s.roots splits)
    (SquareFreeParts.square_free_parts F char C) (SquareFreeParts.product-square_free_parts F char C C-monic) (SquareFreeParts.square_free_parts-are_parts F char C C-monic)
    (IsArgument F D (constant F η) d n css)
    (argument_values F D (constant F η) char d a is_monic coprime n positive css sequence s.extension) ls x))

-- Dt = η·t: the derivative of the logarithms is h + η·r, where r is the sum of the residues
pub rothstein_trager-exponential : {A : Type 0} (F : Field A) (D : Derivation F.ring) (η : A) (char : HasCharacteristicZero F.ring) (d a : Polynomial F) (is_monic : IsMonic F d)
    (coprime : IsCoprime F d (Derivation.derive_polynomial F D ((polynomials F).mul (constant F η) (variable F)) d)) → size F a < size F d
    → (n : ℕ) (positive : 1 ≤ n) (css : List (List (Polynomial F))) (sequence : PrimitiveSequence F n d a (Derivation.derive_polynomial F D ((polynomials F).mul (constant F η) (variable F)) d) css)
    → (C : Polynomial F) → IsMonic F C → IsResiduePolynomial F D ((polynomials F).mul (constant F η) (variable F)) d a C
    → (r : A)
    → ((X : Extension F D) (τs : List X.carrier) (splits : map_polynomial F X.field X.map d ≡ product_of_linear X.field τs)
    → X.map.apply r ≡ sum_over X.field.ring (residue F D ((polynomials F).mul (constant F η) (variable F)) char d a (Gcd.monic-nonzero F d is_monic) coprime X τs splits) τs)
    → (ls : List (Logarithm F D ((polynomials F).mul (constant F η) (variable F))))
    → AreLogarithmsOf F D ((polynomials F).mul (constant F η) (variable F))
    (IsArgument F D ((polynomials F).mul (constant F η) (variable F)) d n css) 1 (SquareFreeParts.square_free_parts F char C) ls
    → sum_over (fractions F).ring (derivative F D ((polynomials F).mul (constant F η) (variable F))) ls
    ≡ (fractions F).add (quotient (fractions F) (of_polynomial F a) (of_polynomial F d)) (of_polynomial F (constant F (F.mul η r)))
rothstein_trager-exponential F D η char d a is_monic coprime l n positive css sequence C C-monic residues r sum ls x =
    by_splitting (stable (fractions F) _ _) F char D d (Gcd.monic-nonzero F d is_monic) (λ s.
    let splits = monic-splitting F D d s is_monic in
    logarithms-exponential F D η d a (Gcd.monic-nonzero F d is_monic) coprime l s.extension s.roots splits char ls
    (logarithms-complete F D w char d a (Gcd.monic-nonzero F d is_monic) coprime s.extension s.roots splits C (residues s.extension s.roots splits)
    (SquareFreeParts.square_free_parts F char C) (SquareFreeParts.product-square_free_parts F char C C-monic) (SquareFreeParts.square_free_parts-are_parts F char C C-monic)
    (IsArgument F D w d n css)
    (argument_values F D w char d a is_monic coprime n positive css sequence s.extension) ls x)
    r (sum s.extension s.roots splits))
  where
    w : Polynomial F
    w = (polynomials F).mul (constant F η) (variable F)
