-- The logarithms found from the square-free parts of the polynomial C of the residues: the roots of the part with number k are the residues that occur k times,
-- so gcd(d, a - β·D(d)) has degree k for each root β of this part; and the logarithms of the parts are complete.
use Rattle.std.specs.Prelude.{◌≡◌, ℕ, suc, ◌⊎◌, List, [], ◌∷◌, ◌++◌, length, map, pred}
use Rattle.std.proofs.Common.{refl, sym, ap, subst, ◌∙◌, arith, inl, inr}
use Rattle.risch_ring.specs.CommRing.{CommRing, Field, Derivation, HasCharacteristicZero}
use Rattle.risch_ring.proofs.Laws as Laws
use Rattle.risch_univariate.specs.Polynomial.{Polynomial, coefficient}
use Rattle.risch_univariate.specs.Degree.{size, IsMonic, degree}
use Rattle.risch_univariate.specs.Division.{Divides, IsCoprime, IsMultiplicity, IsSquareFree}
use Rattle.risch_ring.proofs.FieldLaws as FieldLaws
use Rattle.risch_univariate.proofs.Gcd as Gcd
use Rattle.risch_univariate.proofs.Evaluation as Evaluation
use Rattle.risch_univariate.proofs.Irreducible as Irreducible
use Rattle.risch_univariate.proofs.Derivation as Derivation
use Rattle.risch_fraction_field.specs.Fraction.{of_polynomial}
use Rattle.risch_fraction_field.specs.DifferentialField.{constant_fraction}
use Rattle.risch_extension.proofs.Roots as Roots
use Rattle.risch_residue_theory.proofs.PlaceAtPoint.{coprime-at}
use Rattle.risch_residue_theory.proofs.GcdAtResidues.{residue_polynomial_at, gcd_at}
use Rattle.risch_residue_theory.proofs.FractionMap.{fraction_map}
use Rattle.risch_residue_theory.proofs.RootsOfParts.{parts_divide, value-power, splits_of_divides, member_of_root, linear-irreducible, multiplicity_of_value, simple_root, IsPart, multiplicity-part}
use Rattle.risch_residue_theory.proofs.LogarithmsDerivative.{residue, IsSplit, EachSplit, all_roots, IsComplete, value-p-zero, value-p-unique, distinct}
use Rattle.risch_univariate.specs.PolynomialRing.{polynomials}
use Rattle.risch_univariate.specs.SquareFreeParts.{product_of_powers, AreParts}
use Rattle.risch_ring.specs.Lists.{Each, Distinct, Member}
use Rattle.risch_fraction_field.specs.FractionField.{fractions}
use Rattle.risch_extension.specs.PolynomialMap.{map_polynomial}
use Rattle.risch_extension.specs.LinearFactors.{value_at, linear, product_of_linear}
use Rattle.risch_extension.proofs.PolynomialMaps.{map_polynomial-mul, size-map_polynomial, coefficient-map_polynomial, value-map_polynomial}
use Rattle.risch_extension.proofs.LinearFactors.{product_of_linear-nil, product_of_linear-cons, size-product_of_linear}
use Rattle.risch_extension.specs.Extension.{Extension}
use Rattle.risch_extension.proofs.GcdAtRoots.{roots_of, gcd-at_roots}
use Rattle.risch_ring.proofs.RingMaps.{identity_map}
use Rattle.risch_univariate.proofs.FormalDerivative as FormalDerivative
use Rattle.risch_residue_theory.specs.Logarithm.{Logarithm, AreLogarithmsOf}

module _ {A : Type 0} (F : Field A) (D : Derivation F.ring) (w : Polynomial F) (char : HasCharacteristicZero F.ring) (d a : Polynomial F) (nonzero : ¬ (d ≡ (polynomials F).zero))
    (coprime : IsCoprime F d (Derivation.derive_polynomial F D w d)) (X : Extension F D) (τs : List X.carrier)
    (splits : map_polynomial F X.field X.map d ≡ product_of_linear X.field τs) where
  abbrev E : Field X.carrier
  E = X.field

  abbrev S : CommRing (Polynomial X.field)
  S = polynomials X.field

  abbrev e : Polynomial F
  e = Derivation.derive_polynomial F D w d

  abbrev value : X.carrier → Polynomial F → X.carrier
  value = λ τ. Evaluation.value F X.field.ring X.map τ

  -- the residue at τ
  abbrev ρ : X.carrier → X.carrier
  ρ = residue F D w char d a nonzero coprime X τs splits

  -- a - β·D(d)
  abbrev p : X.carrier → Polynomial X.field
  p = λ β. residue_polynomial_at F X.field X.map β a e

  -- the multiplicity of β in Π (z - ρ(τ)) is the number of the τ with residue β
  multiplicity_of_group : (β : X.carrier) (xs : List X.carrier) → ((τ : X.carrier) → Member τ xs → Member τ τs)
      → IsMultiplicity X.field (linear X.field β) (product_of_linear X.field (map ρ xs)) (length (roots_of X.field (p β) xs))
  unfolding roots_of
  multiplicity_of_group β [] f = subst (λ z. IsMultiplicity E (linear E β) z 0) (sym (product_of_linear-nil E))
      (multiplicity_of_value E β S.one (λ z. E.one-ne-zero (sym (Evaluation.evaluation E E.ring (identity_map E.ring) β).apply-one ∙ z)))
  multiplicity_of_group β (τ ∷ xs) f = subst (λ z. IsMultiplicity E (linear E β) z (length (roots_of E (p β) (τ ∷ xs)))) (sym (product_of_linear-cons E (ρ τ) (map ρ xs)))
      (go (E.is_zero (value_at E τ (p β))) (multiplicity_of_group β xs (λ x m. f x (inr m))))
    where
      self : IsMultiplicity X.field (linear X.field β) (linear X.field β) 1
      self = record {
        cofactor = S.one;
        equation = sym (S.mul-one _ ∙ Laws.power-one S (linear E β));
        not_divides = Irreducible.irreducible-not_unit E (linear E β) (linear-irreducible E β);
      }

      apart : ¬ (value_at X.field τ (p β) ≡ X.field.zero) → ¬ (value_at X.field β (linear X.field (ρ τ)) ≡ X.field.zero)
      apart n z = n (subst (λ y. value_at E τ (p y) ≡ E.zero)
          (sym (single (member_of_root E β (ρ τ ∷ []) (ap (value_at E β) (product_of_linear-cons E (ρ τ) [] ∙ ap (S.mul (linear E (ρ τ))) (product_of_linear-nil E) ∙ S.mul-one _) ∙ z))))
          (value-p-zero F D w char d a nonzero coprime X τs splits τ (f τ (inl refl))))
        where
          single : Member β (ρ τ ∷ []) → β ≡ ρ τ
          single (inl h) = h
          single (inr h) = absurd h

      go : (dec : Dec (value_at X.field τ (p β) ≡ X.field.zero)) → IsMultiplicity X.field (linear X.field β) (product_of_linear X.field (map ρ xs)) (length (roots_of X.field (p β) xs))
          → IsMultiplicity X.field (linear X.field β) ((polynomials X.field).mul (linear X.field (ρ τ)) (product_of_linear X.field (map ρ xs)))
          (length (elim dec as (λ z. List X.carrier) [ yes h ↦ τ ∷ roots_of X.field (p β) xs | no n ↦ roots_of X.field (p β) xs ]))
      go (yes h) ih =
          subst (IsMultiplicity E (linear E β) (S.mul (linear E (ρ τ)) (product_of_linear E (map ρ xs)))) (omega arith)
          (Irreducible.multiplicity-mul E (linear E β) _ _ 1 (length (roots_of E (p β) xs)) (linear-irreducible E β)
          (subst (λ y. IsMultiplicity E (linear E β) (linear E y) 1) (value-p-unique F D w char d a nonzero coprime X τs splits τ (f τ (inl refl)) β h) self) ih)
      go (no n) ih =
          subst (IsMultiplicity E (linear E β) (S.mul (linear E (ρ τ)) (product_of_linear E (map ρ xs)))) (omega arith)
          (Irreducible.multiplicity-mul E (linear E β) _ _ 0 (length (roots_of E (p β) xs)) (linear-irreducible E β)
          (multiplicity_of_value E β (linear E (ρ τ)) (apart n)) ih)

  module _ (C : Polynomial F) (C-splits : map_polynomial F X.field X.map C ≡ product_of_linear X.field (map ρ τs))
      (parts : List (Polynomial F)) (C-parts : C ≡ product_of_powers F 1 parts) (are_parts : AreParts F parts) where
    -- deg gcd(d, a - β·D(d)) = k for the roots β of the part with number k
    pub size-gcd_at : (k : ℕ) (q : Polynomial F) → IsPart F X.field X.map k q 1 parts → (β : X.carrier) → value β q ≡ X.field.zero → size X.field (gcd_at F X.field X.map β d a e) ≡ suc k
    size-gcd_at k q part β z =
        ap (size E) (ap (λ y. Gcd.gcd E y (p β)) splits ∙ sym (gcd-at_roots E (p β) τs (distinct F D w char d a nonzero coprime X τs splits)))
        ∙ size-product_of_linear E (roots_of E (p β) τs)
        ∙ ap suc (Irreducible.multiplicity_unique E (linear E β) (product_of_linear E (map ρ τs)) (length (roots_of E (p β) τs)) k (Irreducible.irreducible-nonzero E (linear E β) (linear-irreducible E β))
        (multiplicity_of_group β τs (λ τ m. m))
        (subst (λ y. IsMultiplicity E (linear E β) y k) (ap (map_polynomial F E X.map) (sym C-parts) ∙ C-splits)
        (multiplicity-part F E X.map char β k q 1 parts are_parts part z)))

    -- ---- the logarithms of the parts

    module _ (IsArgument : ℕ → Logarithm F D w → Type 0)
        (argument_values : (k : ℕ) (l : Logarithm F D w) → IsArgument k l → (β : X.carrier) → value β l.polynomial ≡ X.field.zero → size X.field (gcd_at F X.field X.map β d a e) ≡ suc k
        → Evaluation.value (fractions F) (fractions X.field).ring (fraction_map F X.field X.map) ((constant_fraction X.field).apply β) l.argument
        ≡ of_polynomial X.field (gcd_at F X.field X.map β d a e)) where
      abbrev AreLogarithms : ℕ → List (Polynomial F) → List (Logarithm F D w) → Type 0
      AreLogarithms = AreLogarithmsOf F D w IsArgument

      -- each part splits in E
      split_part : (k : ℕ) (q : Polynomial F) → IsMonic F q → IsPart F X.field X.map k q 1 parts → (l : Logarithm F D w) → l.polynomial ≡ q → IsArgument k l
          → Divides X.field (map_polynomial F X.field X.map q) (product_of_linear X.field (map ρ τs)) → IsSquareFree F q
          → IsSplit F D w char d a nonzero coprime X τs splits l
      split_part k q m part l h arg div sf =
          let r = splits_of_divides E (map ρ τs) (map_polynomial F E X.map q) monic div in
          let s = ap (map_polynomial F E X.map) h ∙ r.has_value in
          record {
            roots = r.value;
            splits_polynomial = s;
            distinct_roots = Roots.distinct_of_derivative E r.value (λ y x z.
                simple_root F E X.map char q (Gcd.monic-nonzero F q m) sf y
                (sym (value-map_polynomial F E X.map y q) ∙ ap (value_at E y) r.has_value ∙ Roots.value_at-product_member E y r.value x)
                (ap (λ v. value_at E y (FormalDerivative.formal_derivative E v)) r.has_value ∙ z));
            values = λ β x.
                let root = sym (value-map_polynomial F E X.map β l.polynomial) ∙ ap (value_at E β) s ∙ Roots.value_at-product_member E β r.value x in
                argument_values k l arg β root (size-gcd_at k q part β (ap (value β) (sym h) ∙ root));
          }
        where
          monic : IsMonic X.field (map_polynomial F X.field X.map q)
          monic =
              coefficient-map_polynomial F E X.map q (degree E (map_polynomial F E X.map q))
              ∙ ap (λ n. X.map.apply (coefficient F q (pred n))) (size-map_polynomial F E X.map q)
              ∙ ap X.map.apply m ∙ X.map.apply-one

      -- the parts from number i on, among all
      AreLater : ℕ → List (Polynomial F) → Type 0
      AreLater i qs = (k : ℕ) (q : Polynomial F) → IsPart F X.field X.map k q i qs → IsPart F X.field X.map k q 1 parts × Divides X.field (map_polynomial F X.field X.map q) (product_of_linear X.field (map ρ τs))

      later : (i : ℕ) (q : Polynomial F) (qs : List (Polynomial F)) → AreLater i (q ∷ qs) → AreLater (suc i) qs
      unfolding AreLater
      later i q qs h k x part = h k x (inr part)

      split_parts : (i : ℕ) (qs : List (Polynomial F)) (ls : List (Logarithm F D w)) → AreParts F qs → AreLater i qs → AreLogarithms i qs ls
          → EachSplit F D w char d a nonzero coprime X τs splits ls
      unfolding AreLater
      split_parts i [] [] ap' h x = tt
      split_parts i [] (l ∷ ls) ap' h x = absurd x
      split_parts i (q ∷ qs) [] ap' h x = tt
      split_parts i (q ∷ qs) (l ∷ ls) ap' h (inl x) = split_parts (suc i) qs (l ∷ ls) ap'.3 (later i q qs h) x.1
      split_parts i (q ∷ qs) (l ∷ ls) ap' h (inr x) = (
        let y = h i q (inl (refl, refl)) in split_part i q ap'.0 y.0 l x.0.0 x.0.1 y.1 ap'.1,
        split_parts (suc i) qs ls ap'.3 (later i q qs h) x.1,
      )

      -- ---- their roots are the residues, each once

      member_append : (y : X.carrier) (xs ys : List X.carrier) → Member y (xs ++ ys) → Member y xs ⊎ Member y ys
      member_append y [] ys x = inr x
      member_append y (z ∷ xs) ys (inl x) = inl (inl x)
      member_append y (z ∷ xs) ys (inr x) = go (member_append y xs ys x)
        where
          go : Member y xs ⊎ Member y ys → Member y (z ∷ xs) ⊎ Member y ys
          go (inl h) = inl (inr h)
          go (inr h) = inr h

      append_left : (y : X.carrier) (xs ys : List X.carrier) → Member y xs → Member y (xs ++ ys)
      append_left y [] ys x = absurd x
      append_left y (z ∷ xs) ys (inl x) = inl x
      append_left y (z ∷ xs) ys (inr x) = inr (append_left y xs ys x)

      append_right : (y : X.carrier) (xs ys : List X.carrier) → Member y ys → Member y (xs ++ ys)
      append_right y [] ys x = x
      append_right y (z ∷ xs) ys x = inr (append_right y xs ys x)

      distinct_append : (xs ys : List X.carrier) → Distinct xs → Distinct ys → ((y : X.carrier) → Member y xs → Member y ys → ⊥)
          → Distinct (xs ++ ys)
      distinct_append [] ys h k n = k
      distinct_append (x ∷ xs) ys h k n = (both xs h.0, distinct_append xs ys h.1 k (λ y l r. n y (inr l) r))
        where
          right : (zs : List X.carrier) → ((y : X.carrier) → Member y zs → Member y ys) → Each (λ y. ¬ (x ≡ y)) zs
          right [] f = tt
          right (z ∷ zs) f = ((λ q. n x (inl refl) (subst (λ v. Member v ys) (sym q) (f z (inl refl)))), right zs (λ y l. f y (inr l)))

          both : (zs : List X.carrier) → Each (λ y. ¬ (x ≡ y)) zs → Each (λ y. ¬ (x ≡ y)) (zs ++ ys)
          both [] f = right ys (λ y l. l)
          both (z ∷ zs) f = (f.0, both zs f.1)

      abbrev Split : Logarithm F D w → Type 0
      Split = IsSplit F D w char d a nonzero coprime X τs splits

      abbrev Splits : List (Logarithm F D w) → Type 0
      Splits = EachSplit F D w char d a nonzero coprime X τs splits

      abbrev all : (ls : List (Logarithm F D w)) → EachSplit F D w char d a nonzero coprime X τs splits ls → List X.carrier
      all = all_roots F D w char d a nonzero coprime X τs splits

      root_of_split : (l : Logarithm F D w) (s : IsSplit F D w char d a nonzero coprime X τs splits l) (β : X.carrier) → Member β s.roots → value β l.polynomial ≡ X.field.zero
      root_of_split l s β x = sym (value-map_polynomial F E X.map β l.polynomial) ∙ ap (value_at E β) s.splits_polynomial ∙ Roots.value_at-product_member E β s.roots x

      split_of_root : (l : Logarithm F D w) (s : IsSplit F D w char d a nonzero coprime X τs splits l) (β : X.carrier) → value β l.polynomial ≡ X.field.zero → Member β s.roots
      split_of_root l s β z = member_of_root E β s.roots (ap (value_at E β) (sym s.splits_polynomial) ∙ value-map_polynomial F E X.map β l.polynomial ∙ z)

      -- a root of a part that is coprime with all these parts is none of their roots
      no_root : (q : Polynomial F) (β : X.carrier) → value β q ≡ X.field.zero → (i : ℕ) (qs : List (Polynomial F)) (ls : List (Logarithm F D w)) → Each (IsCoprime F q) qs
          → AreLogarithms i qs ls → (s : EachSplit F D w char d a nonzero coprime X τs splits ls) → Member β (all ls s) → ⊥
      no_root q β z i [] [] c x s y = y
      no_root q β z i [] (l ∷ ls) c x s y = x
      no_root q β z i (r ∷ qs) [] c x s y = y
      no_root q β z i (r ∷ qs) (l ∷ ls) c (inl x) s y = no_root q β z (suc i) qs (l ∷ ls) c.1 x.1 s y
      no_root q β z i (r ∷ qs) (l ∷ ls) c (inr x) s y = go (member_append β s.0.roots (all ls s.1) y) (λ k. no_root q β z (suc i) qs ls c.1 x.1 s.1 k)
        where
          go : Member β s.0.roots ⊎ Member β (all ls s.1) → (Member β (all ls s.1) → ⊥) → ⊥
          go (inl k) ih = coprime-at F E X.map β q r c.0 z (ap (value β) (sym x.0.0) ∙ root_of_split l s.0 β k)
          go (inr k) ih = ih k

      distinct_all : (i : ℕ) (qs : List (Polynomial F)) (ls : List (Logarithm F D w)) → AreParts F qs → AreLogarithms i qs ls
          → (s : EachSplit F D w char d a nonzero coprime X τs splits ls) → Distinct (all ls s)
      distinct_all i [] [] c x s = tt
      distinct_all i [] (l ∷ ls) c x s = absurd x
      distinct_all i (q ∷ qs) [] c x s = tt
      distinct_all i (q ∷ qs) (l ∷ ls) c (inl x) s = distinct_all (suc i) qs (l ∷ ls) c.3 x.1 s
      distinct_all i (q ∷ qs) (l ∷ ls) c (inr x) s = distinct_append s.0.roots (all ls s.1) s.0.distinct_roots (distinct_all (suc i) qs ls c.3 x.1 s.1)
          (λ β k n. no_root q β (ap (value β) (sym x.0.0) ∙ root_of_split l s.0 β k) (suc i) qs ls c.2 x.1 s.1 n)

      -- a root of C is a root of one of the logarithms
      covering : (β : X.carrier) (i : ℕ) (qs : List (Polynomial F)) (ls : List (Logarithm F D w)) → value β (product_of_powers F i qs) ≡ X.field.zero → AreLogarithms i qs ls
          → (s : EachSplit F D w char d a nonzero coprime X τs splits ls) → Member β (all ls s)
      unfolding product_of_powers
      covering β i [] ls z x s = absurd (E.one-ne-zero (sym (Evaluation.evaluation F E.ring X.map β).apply-one ∙ z))
      covering β i (q ∷ qs) [] z x s = covering β (suc i) qs []
          (FieldLaws.zero_of_mul E _ _ (value-power F E X.map β q i (λ y. E.one-ne-zero (sym (ap (value β) x.0 ∙ (Evaluation.evaluation F E.ring X.map β).apply-one) ∙ y)))
          (sym (Evaluation.value-mul F E.ring X.map β _ _) ∙ z)) x.1 s
      covering β i (q ∷ qs) (l ∷ ls) z (inl x) s = covering β (suc i) qs (l ∷ ls)
          (FieldLaws.zero_of_mul E _ _ (value-power F E X.map β q i (λ y. E.one-ne-zero (sym (ap (value β) x.0 ∙ (Evaluation.evaluation F E.ring X.map β).apply-one) ∙ y)))
          (sym (Evaluation.value-mul F E.ring X.map β _ _) ∙ z)) x.1 s
      covering β i (q ∷ qs) (l ∷ ls) z (inr x) s = go (E.is_zero (value β q)) (λ y. covering β (suc i) qs ls y x.1 s.1)
        where
          go : Dec (value β q ≡ X.field.zero) → (value β (product_of_powers F (suc i) qs) ≡ X.field.zero → Member β (all ls s.1)) → Member β (s.0.roots ++ all ls s.1)
          go (yes y) ih = append_left β s.0.roots (all ls s.1) (split_of_root l s.0 β (ap (value β) x.0.0 ∙ y))
          go (no n) ih = append_right β s.0.roots (all ls s.1)
              (ih (FieldLaws.zero_of_mul E _ _ (value-power F E X.map β q i n) (sym (Evaluation.value-mul F E.ring X.map β _ _) ∙ z)))

      all_parts : AreLater 1 parts
      unfolding AreLater
      all_parts k q x =
          let h = parts_divide F E X.map 1 parts k q (omega arith) x in (
            x,
            record {
              cofactor = map_polynomial F E X.map h.cofactor;
              equation = sym C-splits ∙ ap (map_polynomial F E X.map) (C-parts ∙ h.equation) ∙ map_polynomial-mul F E X.map h.cofactor q;
            },
          )

      residue-root : (xs : List X.carrier) (τ : X.carrier) → Member τ xs → Member (ρ τ) (map ρ xs)
      residue-root [] τ m = absurd m
      residue-root (x ∷ xs) τ (inl h) = inl (ap ρ h)
      residue-root (x ∷ xs) τ (inr m) = inr (residue-root xs τ m)

      -- the logarithms of the parts of C are complete
      pub logarithms-complete : (ls : List (Logarithm F D w)) → AreLogarithms 1 parts ls → IsComplete F D w char d a nonzero coprime X τs splits ls
      logarithms-complete ls x =
          let s = split_parts 1 parts ls are_parts all_parts x in
          record {
            each_split = s;
            distinct_residues = distinct_all 1 parts ls are_parts x s;
            complete = λ τ m. covering (ρ τ) 1 parts ls
                (ap (value (ρ τ)) (sym C-parts) ∙ sym (value-map_polynomial F E X.map (ρ τ) C) ∙ ap (value_at E (ρ τ)) C-splits
                ∙ Roots.value_at-product_member E (ρ τ) (map ρ τs) (residue-root τs τ m)) x s;
          }
