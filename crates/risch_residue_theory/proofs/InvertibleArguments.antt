-- What has no zero at the roots of P is invertible modulo P: the leading coefficient of the member of degree k modulo the part P_k, and the argument over K(t).
use Rattle.std.specs.Prelude.{◌≡◌, ℕ, suc, ◌≤◌, ◌<◌, List, [], ◌∷◌, map}
use Rattle.std.proofs.Common.{refl, sym, ap, ◌∙◌, arith, inl}
use Rattle.risch_ring.specs.CommRing.{Field, RingMap, HasCharacteristicZero}
use Rattle.risch_univariate.specs.Polynomial.{Polynomial}
use Rattle.risch_univariate.specs.Degree.{size, IsMonic}
use Rattle.risch_univariate.specs.Division.{IsCoprime, IsSquareFree}
use Rattle.risch_univariate.proofs.Degree as Degree
use Rattle.risch_univariate.proofs.Gcd as Gcd
use Rattle.risch_univariate.proofs.Evaluation as Evaluation
use Rattle.risch_fraction_field.specs.Fraction.{of_polynomial}
use Rattle.risch_fraction_field.specs.DifferentialField.{constant_fraction}
use Rattle.risch_residue_theory.proofs.Place.{Some}
use Rattle.risch_residue_theory.proofs.GcdAtResidues.{gcd_at}
use Rattle.risch_residue_theory.proofs.RegularMember.{regular_member_at, regular_member_exists, leading-at}
use Rattle.risch_residue_theory.proofs.FractionMap.{fraction_map}
use Rattle.risch_residue_theory.proofs.RootsOfParts.{coprime_of_values}
use Rattle.risch_residue_theory.proofs.LogarithmsDerivative.{map-lift}
use Rattle.risch_univariate.specs.PolynomialRing.{polynomials}
use Rattle.risch_fraction_field.specs.FractionField.{fractions}
use Rattle.risch_extension.specs.PolynomialMap.{map_polynomial}
use Rattle.risch_extension.specs.LinearFactors.{product_of_linear}
use Rattle.risch_extension.proofs.PolynomialMaps.{map_polynomial-nonzero, size-map_polynomial}
use Rattle.risch_extension.proofs.LinearFactors.{product_of_linear-nil, map-product_of_linear}
use Rattle.risch_ring.specs.Lists.{Member}
use Rattle.risch_fraction_field.specs.Representation.{of_polynomial-nonzero}
use Rattle.risch_ring.proofs.Lists.{member_of_map}
use Rattle.risch_residue_theory.specs.BivariatePolynomial.{lift, bivariate, coefficient_at}
use Rattle.risch_residue_theory.specs.RemainderSequence.{PrimitiveSequence}

-- the leading coefficient of the member of degree k is invertible modulo P, if P is Π (z - β_j) over E and gcd(d, a - β_j·e) has the degree k at each β_j
pub leading_coefficient-invertible : {A C : Type 0} (F : Field A) (E : Field C) (f : RingMap F.ring E.ring) (char : HasCharacteristicZero F.ring) (n : ℕ) (positive : 1 ≤ n)
    (d a e : Polynomial F) (css : List (List (Polynomial F))) (nonzero : ¬ (d ≡ (polynomials F).zero)) (square_free : IsSquareFree F d) (coprime : IsCoprime F d e)
    (s : PrimitiveSequence F n d a e css) (k : ℕ) → n ≤ suc k → suc k < size F d → (cs : List (Polynomial F)) → Member cs css → size (fractions F) (bivariate F cs) ≡ suc k
    → (P : Polynomial F) (βs : List C) → map_polynomial F E f P ≡ product_of_linear E βs → ((β : C) → Member β βs → size E (gcd_at F E f β d a e) ≡ suc k)
    → IsCoprime F (coefficient_at F cs k) P
leading_coefficient-invertible F E f char n positive d a e css nonzero square_free coprime s k low big cs among same P βs splits sizes =
    coprime_of_values F E f (coefficient_at F cs k) P βs splits (λ β m z.
    let q = sizes β m in
    let h = regular_member_at F char n positive d a e css nonzero square_free coprime s E f β (omega (arith, low, q)) (omega (arith, big, q)) cs among (same ∙ sym q) in
    h.factor-nonzero (sym (leading-at F char n positive d a e css nonzero square_free coprime s E f β cs h k q) ∙ z))

-- an argument that is gcd(d, a - β·e) at the roots β of P is invertible modulo P over K(t)
pub argument-invertible : {A C : Type 0} (F : Field A) (E : Field C) (f : RingMap F.ring E.ring) (d a e : Polynomial F) → ¬ (d ≡ (polynomials F).zero) → (P : Polynomial F) (βs : List C)
    → map_polynomial F E f P ≡ product_of_linear E βs → (s : Polynomial (fractions F))
    → ((β : C) → Member β βs → Evaluation.value (fractions F) (fractions E).ring (fraction_map F E f) ((constant_fraction E).apply β) s ≡ of_polynomial E (gcd_at F E f β d a e))
    → IsCoprime (fractions F) s (lift F P)
argument-invertible F E f d a e nonzero P βs splits s values =
    coprime_of_values (fractions F) (fractions E) (fraction_map F E f) s (lift F P) (map (constant_fraction E).apply βs)
    (map-lift F E f P ∙ ap (map_polynomial E (fractions E) (constant_fraction E)) splits ∙ map-product_of_linear E (fractions E) (constant_fraction E) βs)
    (λ y m z.
    let r = member_of_map (constant_fraction E).apply y βs m in
    of_polynomial-nonzero E (gcd_at F E f r.0 d a e) (Gcd.gcd-nonzero_left E _ _ (map_polynomial-nonzero F E f d nonzero))
    (sym (values r.0 r.1) ∙ ap (λ x. Evaluation.value (fractions F) (fractions E).ring (fraction_map F E f) x s) (sym r.2) ∙ z))

-- a monic polynomial other than 1 that is a product of linear factors over E has a root there
pub root_of_part : {A C : Type 0} (F : Field A) (E : Field C) (f : RingMap F.ring E.ring) (P : Polynomial F) → IsMonic F P → ¬ (P ≡ (polynomials F).one) → (βs : List C)
    → map_polynomial F E f P ≡ product_of_linear E βs → Some (λ β. Member β βs)
root_of_part F E f P m n [] splits =
    absurd (n (Gcd.one_of_monic F P m
    (let a = size-map_polynomial F E f P in let b = ap (size E) (splits ∙ product_of_linear-nil E) in let c = Degree.size-one E in omega (arith, a, b, c))))
root_of_part F E f P m n (β ∷ βs) splits = record { value = β; has_value = inl refl }

-- the member of degree k exists, if gcd(d, a - β·e) has the degree k at some β
pub member_exists : {A C : Type 0} (F : Field A) (E : Field C) (f : RingMap F.ring E.ring) (char : HasCharacteristicZero F.ring) (n : ℕ) (positive : 1 ≤ n)
    (d a e : Polynomial F) (css : List (List (Polynomial F))) (nonzero : ¬ (d ≡ (polynomials F).zero)) (square_free : IsSquareFree F d) (coprime : IsCoprime F d e)
    (s : PrimitiveSequence F n d a e css) (k : ℕ) → n ≤ suc k → suc k < size F d → (β : C) → size E (gcd_at F E f β d a e) ≡ suc k
    → Some (λ cs. Member cs css × (size (fractions F) (bivariate F cs) ≡ suc k))
member_exists F E f char n positive d a e css nonzero square_free coprime s k low big β q =
    let h = regular_member_exists F char n positive d a e css nonzero square_free coprime s E f β (omega (arith, low, q)) (omega (arith, big, q)) in
    record { value = h.coefficients; has_value = (h.among, h.same_size ∙ q) }
