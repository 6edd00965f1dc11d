-- The arguments of the logarithms by residues: each is the argument of a primitive sequence (LogarithmArgument), it is gcd(d, a - β·D(d)) at the roots β of its part R, and it is invertible modulo R over K(t);
-- for each part other than 1 the member that is asked for exists, and the leading coefficient of its primitive part is invertible modulo R.
use Rattle.std.specs.Prelude.{◌≡◌, ℕ, zero, suc, ◌≤◌, ◌<◌, List, [], ◌∷◌}
use Rattle.std.proofs.Common.{refl, sym, ap, ap₂, subst, ◌∙◌, arith, inl, inr}
use native.Mathlib.Decide.{dec_le}
use Rattle.risch_ring.specs.CommRing.{CommRing, Field, Derivation, sub, power, HasCharacteristicZero}
use Rattle.risch_ring.specs.Lists.{Member}
use Rattle.risch_ring.proofs.Laws as Laws
use Rattle.risch_ring.proofs.FieldLaws as FieldLaws
use Rattle.risch_univariate.specs.Polynomial.{Polynomial, constant}
use Rattle.risch_univariate.specs.PolynomialRing.{polynomials}
use Rattle.risch_univariate.specs.Degree.{size, IsMonic}
use Rattle.risch_univariate.specs.Division.{Divides, IsCoprime}
use Rattle.risch_univariate.specs.SquareFreeParts.{product_of_powers, AreParts}
use Rattle.risch_univariate.proofs.Degree as Degree
use Rattle.risch_univariate.proofs.Derivation as Derivation
use Rattle.risch_univariate.proofs.Divides as Divides
use Rattle.risch_univariate.proofs.Evaluation as Evaluation
use Rattle.risch_univariate.proofs.Gcd as Gcd
use Rattle.risch_univariate.proofs.SquareFree as SquareFree
use Rattle.risch_fraction_field.specs.Fraction.{of_polynomial}
use Rattle.risch_fraction_field.specs.FractionField.{fractions}
use Rattle.risch_fraction_field.specs.DifferentialField.{constant_fraction}
use Rattle.risch_fraction_field.specs.Representation.{of_polynomial-nonzero}
use Rattle.risch_extension.specs.Extension.{Extension}
use Rattle.risch_extension.specs.PolynomialMap.{map_polynomial}
use Rattle.risch_extension.proofs.PolynomialMaps.{map_polynomial-nonzero, size-map_polynomial}
use Rattle.risch_residue_theory.specs.BivariatePolynomial.{lift, bivariate, coefficient_at, by_powers, content, residue_polynomial}
use Rattle.risch_residue_theory.specs.LogarithmArgument.{IsMonicMember, IsArgument}
use Rattle.risch_residue_theory.specs.Logarithm.{Logarithm}
use Rattle.risch_residue_theory.specs.RemainderSequence.{PrimitiveSequence}
use Rattle.risch_residue_theory.specs.Residue.{IsResiduePolynomial}
use Rattle.risch_residue_theory.specs.RuleLogarithm.{IsRuleSequence, IsMonicPart, IsRuleArgument}
use Rattle.risch_residue_theory.proofs.FractionMap.{fraction_map}
use Rattle.risch_residue_theory.proofs.GcdAtResidues.{gcd_at, residue_polynomial_at, residue_polynomial-coprime}
use Rattle.risch_residue_theory.proofs.InvertibleParts.{IsPartOf, leading_coefficient-invertible_part, member_of_part, argument-invertible_part}
use Rattle.risch_residue_theory.proofs.LazardRiobooTrager.{argument_values, denominator_values}
use Rattle.risch_residue_theory.proofs.Place.{Some}
use Rattle.risch_residue_theory.proofs.OrderedByPowers.{by_powers-constants}
use Rattle.risch_residue_theory.proofs.PrimitiveParts.{primitive_part, coefficient-primitive_part, bivariate-scaled, multiple_of_primitive, IsMultipleOf, primitive_sequence, HasPrimitivePart, primitive_part_of, content-nonzero, zero_of_content}

-- ---- degrees of the parts

module _ {A : Type 0} (F : Field A) where
  abbrev R : CommRing (Polynomial F)
  R = polynomials F

  -- the parts are monic
  pub part-is_monic : (k : ℕ) (q : Polynomial F) (i : ℕ) (ps : List (Polynomial F)) → AreParts F ps → IsPartOf F k q i ps → IsMonic F q
  part-is_monic k q i [] c x = absurd x
  part-is_monic k q i (p ∷ ps) c (inl x) = subst (IsMonic F) (sym x.1) c.0
  part-is_monic k q i (p ∷ ps) c (inr x) = part-is_monic k q (suc i) ps c.3 x

  -- q^k divides q_1·q_2²·.. for the part q with number k
  power-divides : (k : ℕ) (q : Polynomial F) (i : ℕ) (ps : List (Polynomial F)) → IsPartOf F k q i ps → Divides F (power R q k) (product_of_powers F i ps)
  unfolding product_of_powers
  power-divides k q i [] x = absurd x
  power-divides k q i (p ∷ ps) (inl x) =
      subst (λ z. Divides F z (R.mul (power R p i) (product_of_powers F (suc i) ps))) (sym (ap₂ (power R) x.1 x.0)) (Divides.divides-mul_right F (power R p i) (product_of_powers F (suc i) ps))
  power-divides k q i (p ∷ ps) (inr x) = Divides.divides-mul_left F (power R q k) (power R p i) _ (power-divides k q (suc i) ps x)

  size-power : (q : Polynomial F) → 2 ≤ size F q → (k : ℕ) → suc k ≤ size F (power R q k)
  size-power q l zero = let e = ap (size F) (Laws.power-zero R q) in let o = Degree.size-one F in omega (arith, e, o)
  size-power q l (suc k) =
      let ih = size-power q l k in
      let e = ap (size F) (Laws.power-suc R q k) in
      let s = Degree.size-mul-nonzero F q (power R q k) (Degree.nonzero_of_size F q (omega (arith, l))) (Degree.nonzero_of_size F (power R q k) (omega (arith, ih))) in
      omega (arith, ih, e, s, l)

  -- the number of a part other than 1 is at most the degree
  pub part-number : (C : Polynomial F) → IsMonic F C → (parts : List (Polynomial F)) → C ≡ product_of_powers F 1 parts → AreParts F parts → (k : ℕ) (q : Polynomial F) → IsPartOf F k q 1 parts
      → ¬ (q ≡ (polynomials F).one) → suc k ≤ size F C
  part-number C monic parts e are k q x other = elim (dec_le (size F q) 1) [
    | yes l ↦ absurd (other (Gcd.one_of_monic F q (part-is_monic k q 1 parts are x) l))
    | no n ↦
        let s = size-power q (omega (arith, n)) k in
        let t = Divides.size-divides F (power R q k) C (subst (Divides F (power R q k)) (sym e) (power-divides k q 1 parts x)) (Gcd.monic-nonzero F C monic) in
        omega (arith, s, t)
  ]

-- ---- the arguments

module _ {A : Type 0} (F : Field A) (D : Derivation F.ring) (w : Polynomial F) (char : HasCharacteristicZero F.ring) (d a : Polynomial F) (is_monic : IsMonic F d)
    (coprime : IsCoprime F d (Derivation.derive_polynomial F D w d)) (small_a : size F a ≤ size F d) (small_e : size F (Derivation.derive_polynomial F D w d) ≤ size F d)
    (n : ℕ) (positive : 1 ≤ n) (b : List (Polynomial F)) (ms : List (List (Polynomial F))) (sequence : IsRuleSequence F n d a (Derivation.derive_polynomial F D w d) b ms) where
  abbrev e : Polynomial F
  e = Derivation.derive_polynomial F D w d

  -- the primitive part of b, and the members after b
  abbrev css : List (List (Polynomial F))
  css = primitive_part F b ∷ ms

  -- they are a primitive sequence
  pub rule_sequence-is_primitive : ¬ (content F b ≡ (polynomials F).zero) → PrimitiveSequence F n d a (Derivation.derive_polynomial F D w d) (primitive_part F b ∷ ms)
  rule_sequence-is_primitive = primitive_sequence F n d a e small_a small_e b ms sequence

  -- what is made of a primitive part of a member is made of a member of the primitive sequence
  pub monic_part-is_monic_member : ¬ (content F b ≡ (polynomials F).zero) → (k : ℕ) (P : Polynomial F) (S : List (Polynomial F)) → IsMonicPart F d n b ms k P S
      → IsMonicMember F D w d n (primitive_part F b ∷ ms) k P S
  monic_part-is_monic_member nonzero k P S h = record {
    coefficients = p.part;
    among = p.among;
    same_size = sym
        (ap (size (fractions F)) (bivariate-scaled F p.factor h.member p.part p.equation)
        ∙ Degree.size-constant_mul (fractions F) (of_polynomial F p.factor) (bivariate F p.part) (of_polynomial-nonzero F p.factor p.factor-nonzero))
        ∙ h.same_size;
    inverse = (polynomials F).mul h.inverse v.multiplier;
    inverse-equation = subst (λ z. Divides F P (sub (polynomials F) z (polynomials F).one)) (moved k) h.inverse-equation;
    congruent = λ j. subst (λ z. Divides F P (sub (polynomials F) (coefficient_at F S j) z)) (moved j) (h.congruent j);
  }
    where
      p : HasPrimitivePart F n d a e small_a small_e b ms sequence h.member
      p = primitive_part_of F n d a e small_a small_e b ms sequence nonzero h.member h.among

      v : IsMultipleOf F p.part h.primitive
      v = multiple_of_primitive F h.factor p.factor h.factor-nonzero h.primitive p.part p.is_primitive (λ j. sym (h.equation j) ∙ p.equation j)

      moved : (j : ℕ) → (polynomials F).mul h.inverse (coefficient_at F h.primitive j) ≡ (polynomials F).mul ((polynomials F).mul h.inverse v.multiplier) (coefficient_at F p.part j)
      moved j = ap ((polynomials F).mul h.inverse) (v.equation j) ∙ sym ((polynomials F).mul_assoc h.inverse v.multiplier (coefficient_at F p.part j))

  -- b is not 0 where a member is asked for
  monic_part-nonzero : (k : ℕ) (P : Polynomial F) (S : List (Polynomial F)) → IsMonicPart F d n b ms k P S → ¬ (content F b ≡ (polynomials F).zero)
  monic_part-nonzero k P S h = content-nonzero F n d a e small_a small_e b ms sequence h.member k h.among h.same_size

  -- an argument is one of the primitive sequence
  pub rule_argument-is_argument : (k : ℕ) (l : Logarithm F D w) (S : List (Polynomial F)) → IsRuleArgument F d n b ms k l.polynomial S → l.argument ≡ by_powers F S → suc k ≤ size F d
      → IsArgument F D w d n (primitive_part F b ∷ ms) k l
  rule_argument-is_argument k l S (inl h) q low = inl (h.same_size, q ∙ by_powers-constants F S d h.equation)
  rule_argument-is_argument k l S (inr h) q low = inr (record {
    wanted = h.wanted;
    below = let o = h.other_size in omega (arith, o, low);
    coefficients = S;
    is_member = monic_part-is_monic_member (monic_part-nonzero k l.polynomial S h) k l.polynomial S h;
    equation = q;
  })

  -- at each root β of the part it is gcd(d, a - β·D(d))
  pub rule_argument-values : (X : Extension F D) (k : ℕ) (l : Logarithm F D w) (S : List (Polynomial F)) → IsRuleArgument F d n b ms k l.polynomial S → l.argument ≡ by_powers F S
      → (β : X.carrier) → Evaluation.value F X.field.ring X.map β l.polynomial ≡ X.field.zero → size X.field (gcd_at F X.field X.map β d a (Derivation.derive_polynomial F D w d)) ≡ suc k
      → Evaluation.value (fractions F) (fractions X.field).ring (fraction_map F X.field X.map) ((constant_fraction X.field).apply β) l.argument
      ≡ of_polynomial X.field (gcd_at F X.field X.map β d a (Derivation.derive_polynomial F D w d))
  rule_argument-values X k l S (inl h) q β z s =
      ap (Evaluation.value (fractions F) (fractions X.field).ring (fraction_map F X.field X.map) ((constant_fraction X.field).apply β)) (q ∙ by_powers-constants F S d h.equation)
      ∙ denominator_values F X.field X.map β d a e is_monic (s ∙ sym h.same_size)
  rule_argument-values X k l S (inr h) q β z s =
      argument_values F D w char d a is_monic coprime n positive css (rule_sequence-is_primitive (monic_part-nonzero k l.polynomial S h)) X k l
      (rule_argument-is_argument k l S (inr h) q
      (let t = Divides.size-divides X.field (gcd_at F X.field X.map β d a e) (map_polynomial F X.field X.map d)
      (Gcd.gcd-divides_left X.field (map_polynomial F X.field X.map d) (residue_polynomial_at F X.field X.map β a e)) (map_polynomial-nonzero F X.field X.map d (Gcd.monic-nonzero F d is_monic)) in
      let u = size-map_polynomial F X.field X.map d in omega (arith, t, u, s)))
      β z s

  module _ (C : Polynomial F) (C-monic : IsMonic F C) (C-size : size F C ≤ size F d) (residues : IsResiduePolynomial F D w d a C)
      (parts : List (Polynomial F)) (C-parts : C ≡ product_of_powers F 1 parts) (are_parts : AreParts F parts) where
    -- k < deg d for a part other than 1 with number k ≠ deg d
    part-below : (k : ℕ) (q : Polynomial F) → IsPartOf F k q 1 parts → ¬ (q ≡ (polynomials F).one) → ¬ (size F d ≡ suc k) → suc k < size F d
    part-below k q x other not_whole = let s = part-number F C C-monic parts C-parts are_parts k q x other in omega (arith, s, C-size, not_whole)

    -- the argument of a part other than 1 is invertible modulo the part
    pub rule_argument-invertible : (k : ℕ) (q : Polynomial F) → IsPartOf F k q 1 parts → ¬ (q ≡ (polynomials F).one) → (S : List (Polynomial F)) → IsRuleArgument F d n b ms k q S
        → IsCoprime (fractions F) (by_powers F S) (lift F q)
    rule_argument-invertible k q x other S (inl h) = subst (λ z. IsCoprime (fractions F) z (lift F q)) (sym (by_powers-constants F S d h.equation)) (record {
      left = constant (fractions F) ((fractions F).inverse (of_polynomial F d));
      right = (polynomials (fractions F)).zero;
      equation =
          ap₂ (polynomials (fractions F)).add
          (sym (Degree.constant-mul (fractions F) _ _)
          ∙ ap (constant (fractions F)) (FieldLaws.inverse-mul (fractions F) (of_polynomial F d) (of_polynomial-nonzero F d (Gcd.monic-nonzero F d is_monic))) ∙ Degree.constant-one (fractions F))
          (Laws.zero-mul (polynomials (fractions F)) (lift F q))
          ∙ (polynomials (fractions F)).add-zero _;
    })
    rule_argument-invertible k q x other S (inr h) =
        let nonzero = monic_part-nonzero k q S h in
        argument-invertible_part F D w char d a is_monic coprime n positive css (rule_sequence-is_primitive nonzero) C residues parts C-parts are_parts k q x h.wanted (part-below k q x other h.other_size)
        S (monic_part-is_monic_member nonzero k q S h)

    -- b is not 0 where k < deg d for a part
    content-nonzero_of_part : (k : ℕ) (q : Polynomial F) → IsPartOf F k q 1 parts → ¬ (q ≡ (polynomials F).one) → ¬ (size F d ≡ suc k) → ¬ (content F b ≡ (polynomials F).zero)
    content-nonzero_of_part k q x other not_whole z =
        let zero_size = zero_of_content F n d a e small_a small_e b ms sequence z in
        let unit = Gcd.size_of_unit (fractions F) (lift F d)
        (Gcd.coprime-common_divisor (fractions F) (lift F d) (residue_polynomial F a e) (lift F d)
        (residue_polynomial-coprime F char d a e (Gcd.monic-nonzero F d is_monic) (SquareFree.square_free_of_coprime F (Derivation.derivation F D w) d coprime) coprime)
        (Divides.divides_refl (fractions F) (lift F d))
        (subst (Divides (fractions F) (lift F d)) (sym (Degree.zero_of_size (fractions F) (residue_polynomial F a e) zero_size)) (Divides.divides-zero (fractions F) (lift F d)))) in
        let s = size-map_polynomial F (fractions F) (constant_fraction F) d in
        let l = part-below k q x other not_whole in
        omega (arith, unit, s, l)

    -- for each part other than 1 with number k ≠ deg d, k ≥ n - 1, one of b, ms.. has the degree k
    pub rule_member_exists : (k : ℕ) (q : Polynomial F) → IsPartOf F k q 1 parts → ¬ (q ≡ (polynomials F).one) → n ≤ suc k → ¬ (size F d ≡ suc k)
        → Some (λ m. Member m (b ∷ ms) × (size (fractions F) (bivariate F m) ≡ suc k))
    rule_member_exists k q x other low not_whole =
        let y = member_of_part F D w char d a is_monic coprime n positive css (rule_sequence-is_primitive nonzero) C residues parts C-parts are_parts k q x other low (part-below k q x other not_whole) in
        found y.value y.has_value.0 y.has_value.1
      where
        nonzero : ¬ (content F b ≡ (polynomials F).zero)
        nonzero = content-nonzero_of_part k q x other not_whole

        found : (m : List (Polynomial F)) → Member m (primitive_part F b ∷ ms) → size (fractions F) (bivariate F m) ≡ suc k
            → Some (λ m. Member m (b ∷ ms) × (size (fractions F) (bivariate F m) ≡ suc k))
        found m (inl h) s = record {
          value = b;
          has_value = (
            inl refl,
            ap (size (fractions F)) (bivariate-scaled F (content F b) b (primitive_part F b) (coefficient-primitive_part F b))
                ∙ Degree.size-constant_mul (fractions F) (of_polynomial F (content F b)) (bivariate F (primitive_part F b)) (of_polynomial-nonzero F (content F b) nonzero)
                ∙ ap (λ z. size (fractions F) (bivariate F z)) (sym h) ∙ s,
          );
        }
        found m (inr h) s = record { value = m; has_value = (inr h, s) }

    -- the leading coefficient of the primitive part of the member of degree k is invertible modulo the part
    pub rule_leading_coefficient-invertible : (k : ℕ) (q : Polynomial F) → IsPartOf F k q 1 parts → ¬ (q ≡ (polynomials F).one) → n ≤ suc k → ¬ (size F d ≡ suc k)
        → (m : List (Polynomial F)) → Member m (b ∷ ms) → size (fractions F) (bivariate F m) ≡ suc k
        → (c : Polynomial F) (p : List (Polynomial F)) → ((j : ℕ) → coefficient_at F m j ≡ (polynomials F).mul c (coefficient_at F p j)) → content F p ≡ (polynomials F).one
        → IsCoprime F (coefficient_at F p k) q
    rule_leading_coefficient-invertible k q x other low not_whole m among same c p h u =
        Gcd.coprime_of_divides F (coefficient_at F p k) (coefficient_at F y.part k) q (record { cofactor = v.multiplier; equation = v.equation k })
        (leading_coefficient-invertible_part F D w char d a is_monic coprime n positive css (rule_sequence-is_primitive nonzero) C residues parts C-parts are_parts k q x low (part-below k q x other not_whole)
        y.part y.among
        (sym
        (ap (size (fractions F)) (bivariate-scaled F y.factor m y.part y.equation)
        ∙ Degree.size-constant_mul (fractions F) (of_polynomial F y.factor) (bivariate F y.part) (of_polynomial-nonzero F y.factor y.factor-nonzero))
        ∙ same))
      where
        nonzero : ¬ (content F b ≡ (polynomials F).zero)
        nonzero = content-nonzero_of_part k q x other not_whole

        y : HasPrimitivePart F n d a e small_a small_e b ms sequence m
        y = primitive_part_of F n d a e small_a small_e b ms sequence nonzero m among

        v : IsMultipleOf F p y.part
        v = multiple_of_primitive F y.factor c y.factor-nonzero y.part p u (λ j. sym (y.equation j) ∙ h j)
