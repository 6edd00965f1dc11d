-- The derivative F D w of the logarithms is h: for h = a/d with d monic, gcd(d, D(d)) = 1 and deg a < deg d, and pairs (P_i, s_i) of a polynomial with constant
-- coefficients and an argument, such that in a field where d splits the roots of the P_i are the residues of h, each once, and s_i is gcd(d, a - α·D(d)) at each
-- root α of P_i: Σ over i of the trace over K(t)[z]/(P_i) of z·D(s_i)·s_i⁻¹ is h where Dt = η is in K, and h + η·(Σ of the residues) where Dt = η·t.
use Rattle.std.specs.Prelude.{◌≡◌, ◌≤◌, ◌<◌, List, [], ◌∷◌, ◌++◌, length, map}
use Rattle.std.proofs.Common.{refl, sym, ap, ap₂, ◌∙◌, arith, inl, inr}
use Rattle.risch_ring.specs.CommRing.{Field, RingMap, Derivation, quotient, HasCharacteristicZero}
use Rattle.risch_ring.specs.Sums.{sum_over}
use Rattle.risch_ring.proofs.Laws as Laws
use Rattle.risch_ring.proofs.Sums as RingSums
use Rattle.risch_univariate.specs.Polynomial.{Polynomial, constant, variable, coefficient}
use Rattle.risch_univariate.specs.Degree.{size}
use Rattle.risch_univariate.specs.Division.{IsCoprime}
use Rattle.risch_ring.proofs.FieldLaws as FieldLaws
use Rattle.risch_univariate.proofs.Degree as Degree
use Rattle.risch_univariate.proofs.Evaluation as Evaluation
use Rattle.risch_univariate.proofs.Derivation as Derivation
use Rattle.risch_univariate.proofs.FormalDerivative as FormalDerivative
use Rattle.risch_univariate.proofs.SquareFree as SquareFree
use Rattle.risch_fraction_field.specs.Fraction.{Fraction, of_polynomial}
use Rattle.risch_fraction_field.specs.FractionDerivation.{fraction_derivation, fraction_derivation-polynomial}
use Rattle.risch_fraction_field.specs.DifferentialField.{constant_fraction, constant_fraction-apply}
use Rattle.risch_extension.proofs.Roots as Roots
use Rattle.risch_residue_theory.proofs.PlaceAtPoint.{coprime-at}
use Rattle.risch_residue_theory.proofs.GcdAtResidues.{residue_polynomial_at, gcd_at}
use Rattle.risch_residue_theory.proofs.FractionMap.{fraction_map, fraction_map-polynomial, fraction_extension}
use Rattle.risch_residue_theory.proofs.ResidueSum.{term, residue_sum-primitive, residue_sum-exponential}
use Rattle.risch_residue_theory.proofs.LogarithmicTrace.{trace-logarithm}
use Rattle.risch_residue_theory.proofs.SumsOverResidues.{logarithmic_derivative-product, sum-groups}
use Rattle.risch_ring.proofs.RingMaps.{identity_map}
use Rattle.risch_ring.proofs.RingMaps as RingMaps
use Rattle.risch_univariate.specs.PolynomialRing.{polynomials}
use Rattle.risch_univariate.specs.PolynomialLaws.{polynomial_ext}
use Rattle.risch_univariate.proofs.Coefficients.{coefficient-zero}
use Rattle.risch_fraction_field.specs.FractionField.{fractions}
use Rattle.risch_extension.specs.PolynomialMap.{map_polynomial}
use Rattle.risch_extension.specs.LinearFactors.{value_at, linear, product_of_linear}
use Rattle.risch_extension.proofs.PolynomialMaps.{map_polynomial-nonzero, map_polynomial-mul, map_polynomial-constant, map_polynomial-variable, coefficient-map_polynomial, size-map_polynomial, value-map_polynomial}
use Rattle.risch_extension.proofs.LinearFactors.{size-product_of_linear, map-product_of_linear}
use Rattle.risch_extension.specs.Extension.{Extension}
use Rattle.risch_extension.proofs.Extensions.{map-derive_polynomial, map-formal_derivative}
use Rattle.risch_ring.specs.Lists.{Each, Distinct, Member}
use Rattle.risch_ring.specs.LogarithmicDerivative.{logarithmic_derivative}
use Rattle.risch_fraction_field.specs.Representation.{of_polynomial-nonzero, of_polynomial-zero}
use Rattle.risch_extension.proofs.GcdAtRoots.{roots_of, roots-zero, gcd-at_roots, roots-each}
use Rattle.risch_ring.proofs.Lists.{each-member, distinct-map}
use Rattle.risch_univariate.proofs.Gcd as Gcd
use Rattle.risch_residue_theory.specs.BivariatePolynomial.{lift}
use Rattle.risch_residue_theory.specs.Residue.{residue_at}
use Rattle.risch_residue_theory.specs.Logarithm.{Logarithm, derivative, ∂}

-- P over E(t)
pub map-lift : {A B : Type 0} (F : Field A) (E : Field B) (f : RingMap F.ring E.ring) (P : Polynomial F) → map_polynomial (fractions F) (fractions E) (fraction_map F E f) (lift F P)
    ≡ map_polynomial E (fractions E) (constant_fraction E) (map_polynomial F E f P)
map-lift F E f P = polynomial_ext (fractions E) _ _ (λ i.
    coefficient-map_polynomial (fractions F) (fractions E) (fraction_map F E f) (lift F P) i
    ∙ ap (fraction_map F E f).apply (coefficient-map_polynomial F (fractions F) (constant_fraction F) P i ∙ constant_fraction-apply F (coefficient F P i))
    ∙ fraction_map-polynomial F E f (constant F (coefficient F P i))
    ∙ ap (of_polynomial E) (map_polynomial-constant F E f (coefficient F P i))
    ∙ sym (coefficient-map_polynomial E (fractions E) (constant_fraction E) (map_polynomial F E f P) i
    ∙ constant_fraction-apply E _ ∙ ap (λ z. of_polynomial E (constant E z)) (coefficient-map_polynomial F E f P i)))

module _ {A : Type 0} (F : Field A) (D : Derivation F.ring) (w : Polynomial F) where
  pub lift-constant : (P : Polynomial F) → FormalDerivative.coefficientwise F D P ≡ (polynomials F).zero → FormalDerivative.coefficientwise (fractions F) (∂ F D w) (lift F P) ≡ (polynomials (fractions F)).zero
  lift-constant P c = polynomial_ext (fractions F) _ _ (λ i.
      FormalDerivative.coefficient-coefficientwise (fractions F) (∂ F D w) (lift F P) i
      ∙ ap (∂ F D w).derive (coefficient-map_polynomial F (fractions F) (constant_fraction F) P i ∙ constant_fraction-apply F (coefficient F P i))
      ∙ fraction_derivation-polynomial F (Derivation.derivation F D w) (constant F (coefficient F P i))
      ∙ ap (of_polynomial F)
      (Derivation.derive_polynomial-constant F D w (coefficient F P i)
      ∙ ap (constant F) (sym (FormalDerivative.coefficient-coefficientwise F D P i) ∙ ap (λ z. coefficient F z i) c ∙ coefficient-zero F i) ∙ Degree.constant-zero F)
      ∙ of_polynomial-zero F ∙ sym (coefficient-zero (fractions F) i))

  module _ (char : HasCharacteristicZero F.ring) (d a : Polynomial F) (nonzero : ¬ (d ≡ (polynomials F).zero))
      (coprime : IsCoprime F d (Derivation.derive_polynomial F D w d)) (X : Extension F D) (τs : List X.carrier)
      (splits : map_polynomial F X.field X.map d ≡ product_of_linear X.field τs) where
    abbrev E : Field X.carrier
    E = X.field

    abbrev K : Field (Fraction X.field)
    K = fractions X.field

    -- D(d)
    abbrev e : Polynomial F
    e = Derivation.derive_polynomial F D w d

    -- p(τ) in E
    abbrev value : X.carrier → Polynomial F → X.carrier
    value = λ τ. Evaluation.value F X.field.ring X.map τ

    -- the residue a(τ)/D(d)(τ)
    abbrev pub residue : X.carrier → X.carrier
    residue = residue_at F X.field X.map a e

    -- d(τ) = 0
    pub at-root : (τ : X.carrier) → Member τ τs → value τ d ≡ X.field.zero
    at-root τ m = sym (value-map_polynomial F E X.map τ d) ∙ ap (value_at E τ) splits ∙ Roots.value_at-product_member E τ τs m

    -- D(d)(τ) ≠ 0
    pub slope-nonzero : (τ : X.carrier) → Member τ τs → ¬ (value τ e ≡ X.field.zero)
    slope-nonzero τ m z = coprime-at F E X.map τ d e coprime (at-root τ m) z

    -- α(τ)·D(d)(τ) = a(τ)
    pub residue-equation : (τ : X.carrier) → Member τ τs → X.field.mul (residue τ) (value τ e) ≡ value τ a
    unfolding residue_at
    residue-equation τ m = E.mul_assoc (value τ a) (E.inverse (value τ e)) (value τ e) ∙ ap (E.mul (value τ a)) (FieldLaws.inverse-mul E (value τ e) (slope-nonzero τ m)) ∙ E.mul-one (value τ a)

    -- the roots are distinct
    pub distinct : Distinct τs
    distinct = Roots.distinct_of_derivative E τs (λ τ m z.
        coprime-at F E X.map τ d (FormalDerivative.formal_derivative F d)
        (SquareFree.coprime_of_square_free F char d nonzero (SquareFree.square_free_of_coprime F (Derivation.derivation F D w) d coprime))
        (at-root τ m)
        (sym (value-map_polynomial F E X.map τ (FormalDerivative.formal_derivative F d))
        ∙ ap (value_at E τ) (map-formal_derivative F E X.map d ∙ ap (FormalDerivative.formal_derivative E) splits) ∙ z))

    -- a - β·D(d)
    abbrev p : X.carrier → Polynomial X.field
    p = λ β. residue_polynomial_at F X.field X.map β a e

    value-p : (τ β : X.carrier) → value_at X.field τ (residue_polynomial_at F X.field X.map β a e) ≡ X.field.add (value τ a) (X.field.mul (X.field.neg β) (value τ e))
    unfolding residue_polynomial_at
    value-p τ β =
        Evaluation.value-add E E.ring (identity_map E.ring) τ _ _
        ∙ ap₂ E.add (value-map_polynomial F E X.map τ a)
        (Evaluation.value-mul E E.ring (identity_map E.ring) τ _ _
        ∙ ap₂ E.mul (Evaluation.value-constant E E.ring (identity_map E.ring) τ (E.neg β)) (value-map_polynomial F E X.map τ e))

    -- (a - β·D(d))(τ) = 0 where β is the residue at τ, and only there
    pub value-p-zero : (τ : X.carrier) → Member τ τs → value_at X.field τ (p (residue τ)) ≡ X.field.zero
    value-p-zero τ m =
        value-p τ (residue τ) ∙ ap₂ E.add (sym (residue-equation τ m)) (Laws.neg-mul E.ring (residue τ) (value τ e)) ∙ E.add-neg _

    -- (a - β·D(d))(τ) = 0 only for the residue β at τ
    pub value-p-unique : (τ : X.carrier) → Member τ τs → (β : X.carrier) → value_at X.field τ (p β) ≡ X.field.zero → β ≡ residue τ
    value-p-unique τ m β z = FieldLaws.mul_left_cancel E (value τ e) β (residue τ) (slope-nonzero τ m)
        (E.mul_comm (value τ e) β
        ∙ sym (Laws.eq_of_sub E.ring (value τ a) (E.mul β (value τ e)) (ap (E.add (value τ a)) (sym (Laws.neg-mul E.ring β (value τ e))) ∙ sym (value-p τ β) ∙ z))
        ∙ sym (residue-equation τ m) ∙ E.mul_comm (residue τ) (value τ e))

    -- E(t) above K(t)
    abbrev Y : Extension (fractions F) (fraction_derivation F (Derivation.derivation F D w))
    Y = fraction_extension F D X w

    -- β in E(t)
    abbrev pub in_fractions : X.carrier → Fraction X.field
    in_fractions = λ β. (constant_fraction X.field).apply β

    -- Σ over τ of α(τ)·D(t - τ)/(t - τ)
    abbrev pub residue_term : X.carrier → Fraction X.field
    residue_term = term X.field X.derivation (map_polynomial F X.field X.map w) residue

    -- in E the polynomial P is Π (z - β_j) with distinct β_j, and the argument is gcd(d, a - β_j·D(d)) at β_j
    pub record IsSplit (l : Logarithm F D w) : Type 0 where
      pub roots : List X.carrier
      pub splits_polynomial : map_polynomial F X.field X.map l.polynomial ≡ product_of_linear X.field roots
      pub distinct_roots : Distinct roots
      pub values : (β : X.carrier) → Member β roots
          → Evaluation.value (fractions F) (fractions X.field).ring (fraction_map F X.field X.map) ((constant_fraction X.field).apply β) l.argument
          ≡ of_polynomial X.field (gcd_at F X.field X.map β d a (Derivation.derive_polynomial F D w d))

    -- β·D(G)/G for G = gcd(d, a - β·D(d)) is the sum over the group of β
    group_term : (β : X.carrier) → (fractions X.field).mul (in_fractions β)
        (logarithmic_derivative (fractions X.field) (fraction_derivation X.field (Derivation.derivation X.field X.derivation (map_polynomial F X.field X.map w)))
        (of_polynomial X.field (gcd_at F X.field X.map β d a e)))
        ≡ sum_over (fractions X.field).ring residue_term (roots_of X.field (p β) τs)
    group_term β =
        ap (λ z. K.mul (in_fractions β) (logarithmic_derivative K D' (of_polynomial E z)))
        (ap (λ z. Gcd.gcd E z (p β)) splits ∙ sym (gcd-at_roots E (p β) τs distinct))
        ∙ ap (K.mul (in_fractions β)) (logarithmic_derivative-product E D' (roots_of E (p β) τs))
        ∙ sym (RingSums.sum_over-mul K.ring (in_fractions β) (λ τ. logarithmic_derivative K D' (of_polynomial E (linear E τ))) (roots_of E (p β) τs))
        ∙ RingSums.sum_over-ext_members K.ring _ residue_term (roots_of E (p β) τs) (λ τ m.
        ap (λ z. K.mul z (logarithmic_derivative K D' (of_polynomial E (linear E τ))))
        (constant_fraction-apply E β
        ∙ ap (λ z. of_polynomial E (constant E z))
        (each-member (λ x. β ≡ residue x) τ (roots_of E (p β) τs) (residues_of (roots_of E (p β) τs) (roots-zero E (p β) τs) (group_members τs)) m)))
      where
        D' : Derivation (fractions X.field).ring
        D' = fraction_derivation E (Derivation.derivation E X.derivation (map_polynomial F E X.map w))

        members : (ys zs : List X.carrier) → ((y : X.carrier) → Member y ys → Member y zs) → Each (λ y. Member y zs) ys
        members [] zs f = tt
        members (y ∷ ys) zs f = (f y (inl refl), members ys zs (λ x m. f x (inr m)))

        group_members : (xs : List X.carrier) → Each (λ x. Member x xs) (roots_of X.field (p β) xs)
        group_members xs = roots-each E (p β) (λ x. Member x xs) xs (members xs xs (λ y m. m))

        residues_of : (ys : List X.carrier) → Each (λ x. value_at X.field x (p β) ≡ X.field.zero) ys → Each (λ x. Member x τs) ys
            → Each (λ x. β ≡ residue x) ys
        residues_of [] h k = tt
        residues_of (y ∷ ys) h k = (value-p-unique y k.0 β h.0, residues_of ys h.1 k.1)

    -- the derivative F D w of one logarithm in E(t)
    pub derivative-of_split : (l : Logarithm F D w) (s : IsSplit l)
        → (fraction_map F X.field X.map).apply (derivative F D w l) ≡ sum_over (fractions X.field).ring (λ β. sum_over (fractions X.field).ring residue_term (roots_of X.field (p β) τs)) s.roots
    unfolding derivative fraction_extension
    derivative-of_split l s =
        trace-logarithm (fractions F) (∂ F D w) Y (lift F l.polynomial) (map_polynomial-nonzero F (fractions F) (constant_fraction F) l.polynomial l.nonzero) (map (constant_fraction E).apply s.roots)
        (map-lift F E X.map l.polynomial ∙ ap (map_polynomial E K (constant_fraction E)) s.splits_polynomial ∙ map-product_of_linear E K (constant_fraction E) s.roots)
        (distinct-map (constant_fraction E).apply (RingMaps.apply-injective E K (constant_fraction E)) s.roots s.distinct_roots)
        (lift-constant l.polynomial l.is_constant) l.argument l.invertible
        ∙ RingSums.sum_over-map K.ring _ (constant_fraction E).apply s.roots
        ∙ RingSums.sum_over-ext_members K.ring _ _ s.roots (λ β m.
        ap (λ z. K.mul (in_fractions β) (logarithmic_derivative K (fraction_derivation E (Derivation.derivation E X.derivation (map_polynomial F E X.map w))) z)) (s.values β m)
        ∙ group_term β)

    -- ---- all logarithms

    -- each logarithm of the list splits in E
    abbrev pub EachSplit : List (Logarithm F D w) → Type 0
    EachSplit [] = Unit
    EachSplit (l ∷ ls) = IsSplit l × EachSplit ls

    -- the roots of all P_i
    abbrev pub all_roots : (ls : List (Logarithm F D w)) → EachSplit ls → List X.carrier
    all_roots [] s = []
    all_roots (l ∷ ls) s = s.0.roots ++ all_roots ls s.1

    -- the roots of the P_i are the residues, each once
    pub record IsComplete (ls : List (Logarithm F D w)) : Type 0 where
      pub each_split : EachSplit ls
      pub distinct_residues : Distinct (all_roots ls each_split)
      pub complete : (τ : X.carrier) → Member τ τs → Member (residue τ) (all_roots ls each_split)

    derivatives : (ls : List (Logarithm F D w)) (s : EachSplit ls)
        → (fraction_map F X.field X.map).apply (sum_over (fractions F).ring (derivative F D w) ls)
        ≡ sum_over (fractions X.field).ring (λ β. sum_over (fractions X.field).ring residue_term (roots_of X.field (p β) τs)) (all_roots ls s)
    unfolding sum_over
    derivatives [] s = RingMaps.apply-zero (fraction_map F E X.map)
    derivatives (l ∷ ls) s =
        (fraction_map F E X.map).apply-add _ _ ∙ ap₂ K.add (derivative-of_split l s.0) (derivatives ls s.1)
        ∙ sym (RingSums.sum_over-append K.ring _ s.0.roots (all_roots ls s.1))

    -- the sum of the derivatives is Σ over τ of α(τ)·D(t - τ)/(t - τ) in E(t)
    pub sum_of_derivatives : (ls : List (Logarithm F D w)) → IsComplete ls
        → (fraction_map F X.field X.map).apply (sum_over (fractions F).ring (derivative F D w) ls) ≡ sum_over (fractions X.field).ring residue_term τs
    sum_of_derivatives ls c =
        derivatives ls c.each_split
        ∙ sum-groups E K.ring p residue_term residue (all_roots ls c.each_split) c.distinct_residues τs
        (λ τ m. (c.complete τ m, (value-p-zero τ m, value-p-unique τ m)))

    size-bound : size F a < size F d → size X.field (map_polynomial F X.field X.map a) ≤ length τs
    size-bound l =
        let x = size-map_polynomial F E X.map a in let y = size-map_polynomial F E X.map d in let z = ap (size E) splits in let s = size-product_of_linear E τs in
        omega (arith, l, x, y, z, s)

    residue_condition : (w' : Polynomial X.field) → map_polynomial F X.field X.map w ≡ w' → (τ : X.carrier) → Member τ τs
        → X.field.mul (residue τ) (value_at X.field τ (Derivation.derive_polynomial X.field X.derivation w' (product_of_linear X.field τs))) ≡ value_at X.field τ (map_polynomial F X.field X.map a)
    residue_condition w' h τ m =
        ap (λ z. E.mul (residue τ) (value_at E τ z))
        (ap₂ (Derivation.derive_polynomial E X.derivation) (sym h) (sym splits) ∙ sym (map-derive_polynomial F D X w d))
        ∙ ap (E.mul (residue τ)) (value-map_polynomial F E X.map τ e) ∙ residue-equation τ m ∙ sym (value-map_polynomial F E X.map τ a)

    -- h in E(t)
    map-h : (fraction_map F X.field X.map).apply (quotient (fractions F) (of_polynomial F a) (of_polynomial F d))
        ≡ quotient (fractions X.field) (of_polynomial X.field (map_polynomial F X.field X.map a)) (of_polynomial X.field (product_of_linear X.field τs))
    map-h =
        RingMaps.apply-quotient (fractions F) K (fraction_map F E X.map) (of_polynomial F a) (of_polynomial F d) (of_polynomial-nonzero F d nonzero)
        ∙ ap₂ (quotient K) (fraction_map-polynomial F E X.map a) (fraction_map-polynomial F E X.map d ∙ ap (of_polynomial E) splits)

-- Dt = η in K: the derivative F D w of the logarithms is h = a/d
pub logarithms-primitive : {A : Type 0} (F : Field A) (D : Derivation F.ring) (η : A) → (d a : Polynomial F) (nonzero : ¬ (d ≡ (polynomials F).zero))
    (coprime : IsCoprime F d (Derivation.derive_polynomial F D (constant F η) d)) → size F a < size F d
    → (X : Extension F D) (τs : List X.carrier) (splits : map_polynomial F X.field X.map d ≡ product_of_linear X.field τs)
    → (char : HasCharacteristicZero F.ring) (ls : List (Logarithm F D (constant F η))) → IsComplete F D (constant F η) char d a nonzero coprime X τs splits ls
    → sum_over (fractions F).ring (derivative F D (constant F η)) ls ≡ quotient (fractions F) (of_polynomial F a) (of_polynomial F d)
logarithms-primitive F D η d a nonzero coprime l X τs splits char ls c =
    RingMaps.apply-injective (fractions F) (fractions X.field) (fraction_map F X.field X.map) _ _
    (sum_of_derivatives F D (constant F η) char d a nonzero coprime X τs splits ls c
    ∙ ap (λ w'. sum_over (fractions X.field).ring (term X.field X.derivation w' (residue F D (constant F η) char d a nonzero coprime X τs splits)) τs) h
    ∙ residue_sum-primitive X.field X.derivation (X.map.apply η) τs (map_polynomial F X.field X.map a) (residue F D (constant F η) char d a nonzero coprime X τs splits)
    (distinct F D (constant F η) char d a nonzero coprime X τs splits)
    (size-bound F D (constant F η) char d a nonzero coprime X τs splits l)
    (residue_condition F D (constant F η) char d a nonzero coprime X τs splits (constant X.field (X.map.apply η)) h)
    ∙ sym (map-h F D (constant F η) char d a nonzero coprime X τs splits))
  where
    h : map_polynomial F X.field X.map (constant F η) ≡ constant X.field (X.map.apply η)
    h = map_polynomial-constant F X.field X.map η

-- Dt = η·t: the derivative F D w of the logarithms is h + η·r, where r is the sum of the residues
pub logarithms-exponential : {A : Type 0} (F : Field A) (D : Derivation F.ring) (η : A) → (d a : Polynomial F) (nonzero : ¬ (d ≡ (polynomials F).zero))
    (coprime : IsCoprime F d (Derivation.derive_polynomial F D ((polynomials F).mul (constant F η) (variable F)) d)) → size F a < size F d
    → (X : Extension F D) (τs : List X.carrier) (splits : map_polynomial F X.field X.map d ≡ product_of_linear X.field τs)
    → (char : HasCharacteristicZero F.ring) (ls : List (Logarithm F D ((polynomials F).mul (constant F η) (variable F))))
    → IsComplete F D ((polynomials F).mul (constant F η) (variable F)) char d a nonzero coprime X τs splits ls
    → (r : A) → X.map.apply r ≡ sum_over X.field.ring (residue F D ((polynomials F).mul (constant F η) (variable F)) char d a nonzero coprime X τs splits) τs
    → sum_over (fractions F).ring (derivative F D ((polynomials F).mul (constant F η) (variable F))) ls
    ≡ (fractions F).add (quotient (fractions F) (of_polynomial F a) (of_polynomial F d)) (of_polynomial F (constant F (F.mul η r)))
logarithms-exponential F D η d a nonzero coprime l X τs splits char ls c r k =
    RingMaps.apply-injective (fractions F) (fractions X.field) (fraction_map F X.field X.map) _ _
    (sum_of_derivatives F D w char d a nonzero coprime X τs splits ls c
    ∙ ap (λ w'. sum_over (fractions X.field).ring (term X.field X.derivation w' (residue F D w char d a nonzero coprime X τs splits)) τs) h
    ∙ residue_sum-exponential X.field X.derivation (X.map.apply η) τs (map_polynomial F X.field X.map a) (residue F D w char d a nonzero coprime X τs splits)
    (distinct F D w char d a nonzero coprime X τs splits)
    (size-bound F D w char d a nonzero coprime X τs splits l)
    (residue_condition F D w char d a nonzero coprime X τs splits ((polynomials X.field).mul (constant X.field (X.map.apply η)) (variable X.field)) h)
    ∙ sym ((fraction_map F X.field X.map).apply-add _ _
    ∙ ap₂ (fractions X.field).add (map-h F D w char d a nonzero coprime X τs splits)
    (fraction_map-polynomial F X.field X.map (constant F (F.mul η r))
    ∙ ap (of_polynomial X.field) (map_polynomial-constant F X.field X.map (F.mul η r) ∙ ap (constant X.field) (X.map.apply-mul η r ∙ ap (X.field.mul (X.map.apply η)) k)))))
  where
    w : Polynomial F
    w = (polynomials F).mul (constant F η) (variable F)

    h : map_polynomial F X.field X.map ((polynomials F).mul (constant F η) (variable F)) ≡ (polynomials X.field).mul (constant X.field (X.map.apply η)) (variable X.field)
    h = map_polynomial-mul F X.field X.map (constant F η) (variable F)
        ∙ ap₂ (polynomials X.field).mul (map_polynomial-constant F X.field X.map η) (map_polynomial-variable F X.field X.map)
