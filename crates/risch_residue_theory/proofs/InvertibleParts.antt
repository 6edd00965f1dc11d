-- Over K itself: for the square-free part P_k of C with k < deg d, P_k ≠ 1, the sequence has a member of degree k, its leading coefficient is invertible modulo P_k,
-- and the argument that is made of it is invertible modulo P_k over K(t).
use Rattle.std.specs.Prelude.{◌≡◌, ℕ, suc, ◌≤◌, ◌<◌, ◌⊎◌, List, [], ◌∷◌, pred}
use Rattle.std.proofs.Common.{refl, sym, ap, subst, ◌∙◌, arith, inl, inr}
use native.Mathlib.Decide.{ℕ_discrete}
use Rattle.risch_ring.specs.CommRing.{Field, Derivation, HasCharacteristicZero}
use Rattle.risch_univariate.specs.Polynomial.{Polynomial, coefficient}
use Rattle.risch_univariate.specs.Degree.{size, IsMonic}
use Rattle.risch_univariate.specs.Division.{IsCoprime, IsSquareFree}
use Rattle.risch_univariate.proofs.Gcd as Gcd
use Rattle.risch_univariate.proofs.Derivation as Derivation
use Rattle.risch_univariate.proofs.SquareFree as SquareFree
use Rattle.risch_fraction_field.specs.Fraction.{of_polynomial}
use Rattle.risch_extension.proofs.SplittingField.{by_splitting, monic-splitting}
use Rattle.risch_extension.proofs.Roots as Roots
use Rattle.risch_residue_theory.proofs.Place.{Some}
use Rattle.risch_residue_theory.proofs.GcdAtResidues.{gcd_at}
use Rattle.risch_residue_theory.proofs.RegularMember.{regular_member_at, monic_member_at}
use Rattle.risch_residue_theory.proofs.RootsOfParts.{IsPart, splits_of_divides, parts_divide}
use Rattle.risch_residue_theory.proofs.SquareFreeLogarithms.{size-gcd_at}
use Rattle.risch_residue_theory.proofs.InvertibleArguments.{argument-invertible, leading_coefficient-invertible, root_of_part, member_exists}
use Rattle.risch_residue_theory.proofs.LazardRiobooTrager.{value-by_powers}
use Rattle.risch_univariate.specs.PolynomialRing.{polynomials}
use Rattle.risch_univariate.specs.SquareFreeParts.{product_of_powers, AreParts}
use Rattle.risch_fraction_field.specs.FractionField.{fractions}
use Rattle.risch_extension.specs.PolynomialMap.{map_polynomial}
use Rattle.risch_extension.specs.LinearFactors.{value_at, product_of_linear}
use Rattle.risch_extension.proofs.PolynomialMaps.{map_polynomial-mul, coefficient-map_polynomial, size-map_polynomial, value-map_polynomial}
use Rattle.risch_extension.specs.Extension.{Splitting}
use Rattle.risch_ring.specs.Lists.{Member}
use Rattle.risch_residue_theory.specs.BivariatePolynomial.{lift, bivariate, coefficient_at, by_powers}
use Rattle.risch_residue_theory.specs.RemainderSequence.{PrimitiveSequence}
use Rattle.risch_residue_theory.specs.Residue.{IsResiduePolynomial}
use Rattle.risch_residue_theory.specs.LogarithmArgument.{IsMonicMember}

-- q is the part with number k, where the list begins with number i
abbrev pub IsPartOf : {A : Type 0} (F : Field A) → ℕ → Polynomial F → ℕ → List (Polynomial F) → Type 0
IsPartOf F k q i [] = ⊥
IsPartOf F k q i (p ∷ ps) = ((k ≡ i) × (q ≡ p)) ⊎ IsPartOf F k q (suc i) ps

stable : {Q : Type 0} → Dec Q → ¬ ¬ Q → Q
stable (yes q) h = q
stable (no n) h = absurd (h n)

-- a member of a given degree can be found
find_member : {A : Type 0} (F : Field A) (k : ℕ) (css : List (List (Polynomial F))) → Dec (Some (λ cs. Member cs css × (size (fractions F) (bivariate F cs) ≡ k)))
find_member F k [] = no (λ s. s.has_value.0)
find_member F k (cs ∷ css) = go (ℕ_discrete (size (fractions F) (bivariate F cs)) k) (find_member F k css)
  where
    go : Dec (size (fractions F) (bivariate F cs) ≡ k) → Dec (Some (λ ds. Member ds css × (size (fractions F) (bivariate F ds) ≡ k)))
        → Dec (Some (λ ds. Member ds (cs ∷ css) × (size (fractions F) (bivariate F ds) ≡ k)))
    go (yes e) x = yes (record { value = cs; has_value = (inl refl, e) })
    go (no n) (yes s) = yes (record { value = s.value; has_value = (inr s.has_value.0, s.has_value.1) })
    go (no n) (no m) = no (λ s. neither s.value s.has_value.0 s.has_value.1)
      where
        neither : (ds : List (Polynomial F)) → (ds ≡ cs) ⊎ Member ds css → size (fractions F) (bivariate F ds) ≡ k → ⊥
        neither ds (inl e) q = n (ap (λ z. size (fractions F) (bivariate F z)) (sym e) ∙ q)
        neither ds (inr x) q = m (record { value = ds; has_value = (x, q) })

module _ {A : Type 0} (F : Field A) (D : Derivation F.ring) (w : Polynomial F) (char : HasCharacteristicZero F.ring) (d a : Polynomial F) (is_monic : IsMonic F d)
    (coprime : IsCoprime F d (Derivation.derive_polynomial F D w d)) (n : ℕ) (positive : 1 ≤ n) (css : List (List (Polynomial F)))
    (sequence : PrimitiveSequence F n d a (Derivation.derive_polynomial F D w d) css) (C : Polynomial F)
    (residues : IsResiduePolynomial F D w d a C)
    (parts : List (Polynomial F)) (C-parts : C ≡ product_of_powers F 1 parts) (are_parts : AreParts F parts) where
  nonzero : ¬ (d ≡ (polynomials F).zero)
  nonzero = Gcd.monic-nonzero F d is_monic

  e : Polynomial F
  e = Derivation.derive_polynomial F D w d

  square_free : IsSquareFree F d
  square_free = SquareFree.square_free_of_coprime F (Derivation.derivation F D w) d coprime

  module _ (s : Splitting F D d) where
    part_of : (k : ℕ) (q : Polynomial F) (i : ℕ) (ps : List (Polynomial F)) → IsPartOf F k q i ps → IsPart F s.extension.field s.extension.map k q i ps
    part_of k q i [] x = x
    part_of k q i (p ∷ ps) (inl x) = inl x
    part_of k q i (p ∷ ps) (inr x) = inr (part_of k q (suc i) ps x)

    monic_of : (k : ℕ) (q : Polynomial F) (i : ℕ) (ps : List (Polynomial F)) → AreParts F ps → IsPartOf F k q i ps → IsMonic F q
    monic_of k q i [] c x = absurd x
    monic_of k q i (p ∷ ps) c (inl x) = subst (IsMonic F) (sym x.1) c.0
    monic_of k q i (p ∷ ps) c (inr x) = monic_of k q (suc i) ps c.3 x

    -- the part splits in E
    part-splits : (k : ℕ) (q : Polynomial F) → IsPartOf F k q 1 parts → Some (λ βs. map_polynomial F s.extension.field s.extension.map q ≡ product_of_linear s.extension.field βs)
    part-splits k q x =
        let h = parts_divide F s.extension.field s.extension.map 1 parts k q (omega arith) (part_of k q 1 parts x) in
        splits_of_divides s.extension.field _ (map_polynomial F s.extension.field s.extension.map q)
        (coefficient-map_polynomial F s.extension.field s.extension.map q _
        ∙ ap (λ j. s.extension.map.apply (coefficient F q (pred j))) (size-map_polynomial F s.extension.field s.extension.map q)
        ∙ ap s.extension.map.apply (monic_of k q 1 parts are_parts x) ∙ s.extension.map.apply-one)
        (record {
          cofactor = map_polynomial F s.extension.field s.extension.map h.cofactor;
          equation =
              sym (residues s.extension s.roots (monic-splitting F D d s is_monic))
              ∙ ap (map_polynomial F s.extension.field s.extension.map) (C-parts ∙ h.equation) ∙ map_polynomial-mul F s.extension.field s.extension.map h.cofactor q;
        })

    -- deg gcd(d, a - β·D(d)) = k at its roots
    part-size : (k : ℕ) (q : Polynomial F) → IsPartOf F k q 1 parts → (βs : List s.extension.carrier)
        → map_polynomial F s.extension.field s.extension.map q ≡ product_of_linear s.extension.field βs → (β : s.extension.carrier) → Member β βs
        → size s.extension.field (gcd_at F s.extension.field s.extension.map β d a (Derivation.derive_polynomial F D w d)) ≡ suc k
    part-size k q x βs splits β m =
        let splitting = monic-splitting F D d s is_monic in
        size-gcd_at F D w char d a (Gcd.monic-nonzero F d is_monic) coprime s.extension s.roots splitting C (residues s.extension s.roots splitting) parts C-parts are_parts k q
        (part_of k q 1 parts x) β
        (sym (value-map_polynomial F s.extension.field s.extension.map β q) ∙ ap (value_at s.extension.field β) splits ∙ Roots.value_at-product_member s.extension.field β βs m)

  -- the leading coefficient of the member of degree k is invertible modulo P_k
  pub leading_coefficient-invertible_part : (k : ℕ) (q : Polynomial F) → IsPartOf F k q 1 parts → n ≤ suc k → suc k < size F d
      → (cs : List (Polynomial F)) → Member cs css → size (fractions F) (bivariate F cs) ≡ suc k → IsCoprime F (coefficient_at F cs k) q
  leading_coefficient-invertible_part k q x low big cs among same = by_splitting (stable (Gcd.dec_coprime F (coefficient_at F cs k) q)) F char D d (Gcd.monic-nonzero F d is_monic) (λ s.
      let r = part-splits s k q x in
      leading_coefficient-invertible F s.extension.field s.extension.map char n positive d a (Derivation.derive_polynomial F D w d) css (Gcd.monic-nonzero F d is_monic) square_free coprime sequence k low big cs among same
      q r.value r.has_value (part-size s k q x r.value r.has_value))

  -- for P_k ≠ 1 there is a member of degree k
  pub member_of_part : (k : ℕ) (q : Polynomial F) → IsPartOf F k q 1 parts → ¬ (q ≡ (polynomials F).one) → n ≤ suc k → suc k < size F d
      → Some (λ cs. Member cs css × (size (fractions F) (bivariate F cs) ≡ suc k))
  member_of_part k q x other low big = by_splitting (stable (find_member F (suc k) css)) F char D d (Gcd.monic-nonzero F d is_monic) (λ s.
      let r = part-splits s k q x in
      let β = root_of_part F s.extension.field s.extension.map q (monic_of s k q 1 parts are_parts x) other r.value r.has_value in
      member_exists F s.extension.field s.extension.map char n positive d a (Derivation.derive_polynomial F D w d) css (Gcd.monic-nonzero F d is_monic) square_free coprime sequence k low big
      β.value (part-size s k q x r.value r.has_value β.value β.has_value))

  -- the member of degree k made monic modulo P_k, as an argument, is invertible modulo P_k over K(t)
  pub argument-invertible_part : (k : ℕ) (q : Polynomial F) → IsPartOf F k q 1 parts → n ≤ suc k → suc k < size F d
      → (ss : List (Polynomial F)) → IsMonicMember F D w d n css k q ss → IsCoprime (fractions F) (by_powers F ss) (lift F q)
  argument-invertible_part k q x low big ss c = by_splitting (stable (Gcd.dec_coprime (fractions F) (by_powers F ss) (lift F q))) F char D d (Gcd.monic-nonzero F d is_monic) (λ s.
      let r = part-splits s k q x in
      argument-invertible F s.extension.field s.extension.map d a (Derivation.derive_polynomial F D w d) (Gcd.monic-nonzero F d is_monic) q r.value r.has_value (by_powers F ss)
      (λ β m.
      let z = part-size s k q x r.value r.has_value β m in
      value-by_powers F s.extension.field s.extension.map β ss
      ∙ ap (of_polynomial s.extension.field)
      (monic_member_at F char n positive d a (Derivation.derive_polynomial F D w d) css (Gcd.monic-nonzero F d is_monic) square_free coprime sequence s.extension.field s.extension.map β c.coefficients
      (regular_member_at F char n positive d a (Derivation.derive_polynomial F D w d) css (Gcd.monic-nonzero F d is_monic) square_free coprime sequence s.extension.field s.extension.map β
      (omega (arith, low, z)) (omega (arith, big, z)) c.coefficients c.among (c.same_size ∙ sym z))
      k z q (sym (value-map_polynomial F s.extension.field s.extension.map β q) ∙ ap (value_at s.extension.field β) r.has_value ∙ Roots.value_at-product_member s.extension.field β r.value m)
      c.inverse c.inverse-equation ss c.congruent)))
