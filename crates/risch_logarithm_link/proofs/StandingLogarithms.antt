-- The logarithms of the square-free parts, as the rule forms them part by part: each is made of an argument of the theory.
--     logarithms-stand      from the first part on
use Rattle.std.specs.Prelude.{map, nat_eq, if◌then◌else◌}
use Rattle.std.proofs.Common.{◌≡◌, refl, sym, ap, ◌∙◌, ℕ, zero, suc, ◌+◌, ◌≤◌, ◌<◌, Bool, true, false, List, [], ◌∷◌, ◌++◌, length, get_or, Option, None, Some, Ok, arith, subst, inl, inr, append-nil, append_assoc}
use Rattle.std.proofs.lemmas.Bool.{eqb-true, eqb-false}
use Rattle.std.proofs.lemmas.List.{length-map}
use Rattle.risch_ring.specs.CommRing.{CommRing, Field, RingMap, Derivation, HasCharacteristicZero}
use Rattle.risch_ring.specs.Lists.{Member as IsAmong}
use Rattle.risch_fraction_field.specs.FractionField.{fractions}
use Rattle.risch_univariate.specs.Polynomial.{Polynomial, coefficient, constant}
use Rattle.risch_univariate.specs.PolynomialRing.{polynomials}
use Rattle.risch_univariate.specs.Degree.{size, IsMonic}
use Rattle.risch_univariate.specs.Division.{IsCoprime}
use Rattle.risch_univariate.specs.SquareFreeParts.{product_of_powers, AreParts}
use Rattle.risch_univariate.proofs.Degree as Degree
use Rattle.risch_univariate.proofs.Derivation as PolynomialDerivation
use Rattle.risch_univariate.proofs.Gcd as Gcd
use Rattle.risch_residue_theory.specs.BivariatePolynomial.{bivariate, coefficient_at, residue_polynomial, content as content_of}
use Rattle.risch_residue_theory.specs.Residue.{IsResiduePolynomial}
use Rattle.risch_residue_theory.specs.RuleLogarithm.{IsRuleSequence, RuleLogarithm, IsDenominator, IsRuleArgument, AreRuleLogarithms}
use Rattle.risch_residue_theory.proofs.InvertibleParts.{IsPartOf}
use Rattle.risch_residue_theory.proofs.Place as Place
use Rattle.risch_residue_theory.proofs.PrimitiveParts as PrimitiveParts
use Rattle.risch_residue_theory.proofs.RuleArguments.{part-is_monic, rule_member_exists, rule_leading_coefficient-invertible}
use Rattle.risch_mean.specs.ElementField.{elements}
use Rattle.risch_field.specs.Checked.{Checked, and_then}
use Rattle.risch_field.proofs.CheckedSteps.{and_then-ok}
use Rattle.risch_polynomial.specs.Poly as poly
use Rattle.risch_level.specs.Levels.{Element, element}
use Rattle.risch_derivation.specs.Derivation.{derive_polynomial}
use Rattle.risch_element_theory.specs.WholeTower.{AllWithin}
use Rattle.risch_tower.specs.declared.level.Level.{Level}
use Rattle.risch_tower.specs.Tower.{derivative, rate_at}
use Rattle.risch_rootsum.specs.declared.integral.LogPart.{LogPart}
use Rattle.risch_sub.specs.RemainderSequence.{InZ, Member, sized, remainders}
use Rattle.risch_logarithm_rules.specs.Logarithms.{constant_in_z, differences_in_z, argument_of, member_of_degree, sequence, members_or, argument_for, logarithm, logarithms_from}
use Rattle.risch_logarithm_link.proofs.FirstMembers.{IsStandingSequence, sequence-stands, coefficient-stands, constants-stand, difference, difference-zero}
use Rattle.risch_logarithm_link.proofs.StandingPolynomials as Standing
use Rattle.risch_logarithm_link.proofs.StandingPolynomials.{StandsFor}
use Rattle.risch_logarithm_link.proofs.StandingMembers.{AreAt, stands-size_bivariate, values_of, values_of-stand, values_of-length}
use Rattle.risch_logarithm_link.proofs.StandingArguments.{argument-stands}
use Rattle.risch_logarithm_link.proofs.StandingParts.{part-is_one, part-long, part-not_one, HasMember, found-member, StandsForArgument, HasMonicPart, monic_part-of}

module _ {A : Type 0} (F : Field A) (f : RingMap F.ring elements.ring) where
  -- the lists stand for the parts, one by one, and their coefficients are fractions
  abbrev pub StandForParts : List InZ → List (Polynomial F) → Type 0
  StandForParts [] [] = Unit
  StandForParts [] (Q ∷ Qs) = ⊥
  StandForParts (q ∷ qs) [] = ⊥
  StandForParts (q ∷ qs) (Q ∷ Qs) = (StandsFor F f q Q × AllWithin 0 q) × StandForParts qs Qs

  -- l is what the rule makes of lists for R and S
  pub record IsMadeOf (level : ℕ) (l : LogPart) (r : RuleLogarithm F) : Type 0 where
    pub modulus : InZ
    pub modulus_stands : StandsFor F f modulus r.modulus
    pub rational : AllWithin 0 modulus
    pub large : 2 ≤ length modulus
    pub argument : Member
    pub argument_stands : StandsForArgument F f argument r.argument
    pub small : (j : ℕ) → size F (coefficient_at F r.argument j) < size F r.modulus
    pub is_made : logarithm level modulus argument ≡ Ok l

  abbrev pub AreMadeOf : ℕ → List LogPart → List (RuleLogarithm F) → Type 0
  AreMadeOf level [] [] = Unit
  AreMadeOf level [] (r ∷ rs) = ⊥
  AreMadeOf level (l ∷ ls) [] = ⊥
  AreMadeOf level (l ∷ ls) (r ∷ rs) = IsMadeOf level l r × AreMadeOf level ls rs

  -- a part 1 is passed over
  passed_over : (d : Polynomial F) (n : ℕ) (b : List (Polynomial F)) (ms : List (List (Polynomial F))) (i : ℕ) (Q : Polynomial F) (Qs : List (Polynomial F)) (rs : List (RuleLogarithm F)) → Q ≡ (polynomials F).one
      → AreRuleLogarithms F d n b ms (suc i) Qs rs → AreRuleLogarithms F d n b ms i (Q ∷ Qs) rs
  passed_over d n b ms i Q Qs [] e h = (e, h)
  passed_over d n b ms i Q Qs (r ∷ rs) e h = inl (e, h)

  -- the logarithms that follow those before, for a sequence of the theory
  pub record HaveLogarithms (level : ℕ) (d : Polynomial F) (n : ℕ) (b : List (Polynomial F)) (ms : List (List (Polynomial F))) (i : ℕ) (Qs : List (Polynomial F)) (logs result : List LogPart) : Type 0 where
    pub made : List LogPart
    pub rs : List (RuleLogarithm F)
    pub all : result ≡ logs ++ made
    pub are_made : AreMadeOf level made rs
    pub are_logarithms : AreRuleLogarithms F d n b ms i Qs rs

  no_more : (level : ℕ) (d : Polynomial F) (n : ℕ) (b : List (Polynomial F)) (ms : List (List (Polynomial F))) (i : ℕ) (logs result : List LogPart) → logs ≡ result → HaveLogarithms level d n b ms i [] logs result
  no_more level d n b ms i logs result e = record { made = []; rs = []; all = sym e ∙ sym (append-nil logs); are_made = tt; are_logarithms = tt }

  pass : (level : ℕ) (d : Polynomial F) (n : ℕ) (b : List (Polynomial F)) (ms : List (List (Polynomial F))) (i : ℕ) (Q : Polynomial F) (Qs : List (Polynomial F)) (logs result : List LogPart) → Q ≡ (polynomials F).one
      → HaveLogarithms level d n b ms (suc i) Qs logs result → HaveLogarithms level d n b ms i (Q ∷ Qs) logs result
  pass level d n b ms i Q Qs logs result e h =
      record { made = h.made; rs = h.rs; all = h.all; are_made = h.are_made; are_logarithms = passed_over d n b ms i Q Qs h.rs e h.are_logarithms }

  -- one more logarithm, of the part Q
  one_more : (level : ℕ) (d : Polynomial F) (n : ℕ) (b : List (Polynomial F)) (ms : List (List (Polynomial F))) (i : ℕ) (q : InZ) (Q : Polynomial F) (Qs : List (Polynomial F)) (logs result : List LogPart)
      (S : Member) (argument : List (Polynomial F)) (l : LogPart) → StandsFor F f q Q → AllWithin 0 q → 2 ≤ length q → StandsForArgument F f S argument → ((j : ℕ) → size F (coefficient_at F argument j) < size F Q) → IsRuleArgument F d n b ms i Q argument
      → logarithm level q S ≡ Ok l → HaveLogarithms level d n b ms (suc i) Qs (logs ++ l ∷ []) result → HaveLogarithms level d n b ms i (Q ∷ Qs) logs result
  one_more level d n b ms i q Q Qs logs result S argument l u rational large v small w is h = record {
    made = l ∷ h.made;
    rs = record { modulus = Q; argument = argument } ∷ h.rs;
    all = h.all ∙ append_assoc logs (l ∷ []) h.made;
    are_made = (record { modulus = q; modulus_stands = u; rational = rational; large = large; argument = S; argument_stands = v; small = small; is_made = is }, h.are_made);
    are_logarithms = inr ((part-not_one F f q Q u large, (refl, w)), h.are_logarithms);
  }

  -- ---- the argument d
  -- the list of d as an argument
  pub record HasDenominator (d : Polynomial F) (i : ℕ) (S : Member) : Type 0 where
    pub argument : List (Polynomial F)
    pub stands : StandsForArgument F f S argument
    pub same_size : size F d ≡ suc i
    pub equation : (j : ℕ) → coefficient_at F argument j ≡ constant F (coefficient F d j)

  denominator-small : (d : Polynomial F) (i : ℕ) (S : Member) (h : HasDenominator d i S) (q : InZ) (Q : Polynomial F) → StandsFor F f q Q → 2 ≤ length q → (j : ℕ) → size F (coefficient_at F h.argument j) < size F Q
  denominator-small d i S h q Q u large j =
      let e = ap (size F) (h.equation j) in let l = Degree.size-constant-le F (coefficient F d j) in let s = Standing.stands-size F f q Q u in omega (arith, e, l, s, large)

  denominator-of : (p : List Element) (d : Polynomial F) (i : ℕ) → StandsFor F f p d → suc i ≡ length p → HasDenominator d i (map constant_in_z p)
  denominator-of p d i h long = record {
    argument = values_of F f (map constant_in_z p) values;
    stands = record { are = stand; same_length = values_of-length F f (map constant_in_z p) values };
    same_size = Standing.stands-size F f p d h ∙ sym long;
    equation = λ j. Standing.stands_unique F f (get_or (map constant_in_z p) j []) (coefficient_at F (values_of F f (map constant_in_z p) values) j) (constant F (coefficient F d j)) (stand j) (at j);
  }
    where
      at : (j : ℕ) → StandsFor F f (get_or (map constant_in_z p) j []) (constant F (coefficient F d j))
      at = constants-stand F f p (coefficient F d) h.kept.all_valid (λ i. coefficient-stands F f p d i h)

      values : (j : ℕ) → Place.Some (StandsFor F f (get_or (map constant_in_z p) j []))
      values j = record { value = constant F (coefficient F d j); has_value = at j }

      stand : AreAt F f (map constant_in_z p) (coefficient_at F (values_of F f (map constant_in_z p) values))
      stand = values_of-stand F f (map constant_in_z p) values

  denominator-is_argument : (d : Polynomial F) (i : ℕ) (S : Member) (h : HasDenominator d i S) (n : ℕ) (b : List (Polynomial F)) (ms : List (List (Polynomial F))) (Q : Polynomial F)
      → IsRuleArgument F d n b ms i Q h.argument
  denominator-is_argument d i S h n b ms Q = inl (record { same_size = h.same_size; equation = h.equation })

module _ {A : Type 0} (F : Field A) (f : RingMap F.ring elements.ring) (D : Derivation F.ring) (w : Polynomial F) (char : HasCharacteristicZero F.ring) (d a : Polynomial F) (is_monic : IsMonic F d)
    (coprime : IsCoprime F d (PolynomialDerivation.derive_polynomial F D w d)) (small_a : size F a ≤ size F d) (small_e : size F (PolynomialDerivation.derive_polynomial F D w d) ≤ size F d)
    (C : Polynomial F) (C-monic : IsMonic F C) (C-size : size F C ≤ size F d) (residues : IsResiduePolynomial F D w d a C) (parts : List (Polynomial F)) (C-parts : C ≡ product_of_powers F 1 parts)
    (are_parts : AreParts F parts) (tower : List Level) (level : ℕ) (numerator denominator : List Element) (stands_a : StandsFor F f numerator a) (stands_d : StandsFor F f denominator d)
    (derived : (e : List Element) → derive_polynomial element (derivative tower) (rate_at tower level) denominator ≡ Ok e → StandsFor F f e (PolynomialDerivation.derive_polynomial F D w d)) where
  abbrev e : Polynomial F
  e = PolynomialDerivation.derive_polynomial F D w d

  abbrev Among : ℕ → List (Polynomial F) → Type 0
  Among i Qs = (k : ℕ) (q : Polynomial F) → IsPartOf F k q i Qs → IsPartOf F k q 1 parts

  other_size : (i : ℕ) → nat_eq (suc i) (length denominator) ≡ false → ¬ (size F d ≡ suc i)
  other_size i t s = eqb-false (suc i) (length denominator) t (sym s ∙ Standing.stands-size F f denominator d stands_d)

  -- ---- the sequence
  sequence-is : (least : ℕ) (result : List Member) → sequence tower level numerator denominator least ≡ Ok result → IsStandingSequence F f (suc least) denominator d a (PolynomialDerivation.derive_polynomial F D w d) result
  unfolding sequence
  sequence-is least result is =
      let s = and_then-ok (derive_polynomial element (derivative tower) (rate_at tower level) denominator) (λ derived. and_then (sized (differences_in_z numerator derived)) (λ b. remainders (map constant_in_z denominator) b least)) result is in
      let t = and_then-ok (sized (differences_in_z numerator s.value)) (λ b. remainders (map constant_in_z denominator) b least) result s.next in
      let stands_e = derived s.value s.is in
      let sa = Standing.stands-size F f numerator a stands_a in
      let sd = Standing.stands-size F f denominator d stands_d in
      let se = Standing.stands-size F f s.value e stands_e in
      sequence-stands F f denominator numerator s.value d a e stands_d stands_a stands_e (omega (arith, sa, sd, small_a)) (omega (arith, sd, se, small_e)) t.value t.is least result t.next

  -- the argument made of the member that the rule finds
  member-argument : (least i : ℕ) (members : List Member) (q : InZ) (Q : Polynomial F) (S : Member) → (s : IsStandingSequence F f (suc least) denominator d a (PolynomialDerivation.derive_polynomial F D w d) members) → least ≤ i
      → StandsFor F f q Q → 2 ≤ length q → IsPartOf F i Q 1 parts → nat_eq (suc i) (length denominator) ≡ false → argument_of (member_of_degree i members) q ≡ Ok S
      → HasMonicPart F f d (suc least) s.b s.ms i Q S
  member-argument least i members q Q S s low u large part t is =
      of_member (rule_member_exists F D w char d a is_monic coprime small_a small_e (suc least) (omega arith) s.b s.ms s.is_sequence C C-monic C-size residues parts C-parts are_parts i Q part not_one (omega (arith, low)) (other_size i t))
    where
      not_one : ¬ (Q ≡ (polynomials F).one)
      not_one = part-not_one F f q Q u large

      skipped : member_of_degree i members ≡ member_of_degree i (s.second ∷ s.lists)
      skipped = ap (member_of_degree i) s.all ∙ by_test (nat_eq (length (map constant_in_z denominator)) (suc i)) refl
        where
          by_test : (test : Bool) → nat_eq (length (map constant_in_z denominator)) (suc i) ≡ test
              → (if test then map constant_in_z denominator else member_of_degree i (s.second ∷ s.lists)) ≡ member_of_degree i (s.second ∷ s.lists)
          by_test true k = absurd (eqb-false (suc i) (length denominator) t (sym (eqb-true (length (map constant_in_z denominator)) (suc i) k) ∙ length-map denominator constant_in_z))
          by_test false k = refl

      of_member : Place.Some (λ m. IsAmong m (s.b ∷ s.ms) × (size (fractions F) (bivariate F m) ≡ suc i)) → HasMonicPart F f d (suc least) s.b s.ms i Q S
      of_member y =
          let found = found-member F f i (s.second ∷ s.lists) (s.b ∷ s.ms) s.stand y.value y.has_value.0 y.has_value.1 in
          monic_part-of F f d (suc least) s.b s.ms i Q (member_of_degree i (s.second ∷ s.lists)) S (other_size i t) (omega (arith, low)) found
          (argument-stands F f i (member_of_degree i (s.second ∷ s.lists)) found.polynomial_of q Q S found.stands found.long u large
          (λ nonzero. rule_leading_coefficient-invertible F D w char d a is_monic coprime small_a small_e (suc least) (omega arith) s.b s.ms s.is_sequence C C-monic C-size residues parts C-parts are_parts i Q part not_one
          (omega (arith, low)) (other_size i t) found.polynomial_of found.among (stands-size_bivariate F f (member_of_degree i (s.second ∷ s.lists)) found.polynomial_of found.stands ∙ found.long)
          (content_of F found.polynomial_of) (PrimitiveParts.primitive_part F found.polynomial_of) (PrimitiveParts.coefficient-primitive_part F found.polynomial_of)
          (PrimitiveParts.content-primitive_part F found.polynomial_of nonzero))
          (subst (λ m. argument_of m q ≡ Ok S) skipped is))

  -- ---- where the members are formed
  -- the argument for the part with number i
  record HasArgument (n : ℕ) (b : List (Polynomial F)) (ms : List (List (Polynomial F))) (i : ℕ) (Q : Polynomial F) (S : Member) : Type 0 where
    argument : List (Polynomial F)
    stands : StandsForArgument F f S argument
    small : (j : ℕ) → size F (coefficient_at F argument j) < size F Q
    is_argument : IsRuleArgument F d n b ms i Q argument

  argument-with : (least i : ℕ) (members : List Member) (q : InZ) (Q : Polynomial F) (found : Member × Option (List Member))
      → (s : IsStandingSequence F f (suc least) denominator d a (PolynomialDerivation.derive_polynomial F D w d) members) → least ≤ i
      → StandsFor F f q Q → 2 ≤ length q → IsPartOf F i Q 1 parts → argument_for tower level numerator denominator (Some members) i q ≡ Ok found
      → HasArgument (suc least) s.b s.ms i Q found.0 × (found.1 ≡ Some members)
  unfolding argument_for
  argument-with least i members q Q found s low u large part is = by_test (nat_eq (suc i) (length denominator)) refl is
    where
      by_test : (test : Bool) → nat_eq (suc i) (length denominator) ≡ test
          → (if test then Ok (map constant_in_z denominator, Some members) else and_then (argument_of (member_of_degree i members) q) (λ S. Ok (S, Some members))) ≡ Ok found
          → HasArgument (suc least) s.b s.ms i Q found.0 × (found.1 ≡ Some members)
      by_test true t is =
          let same : (map constant_in_z denominator, Some members) ≡ found = cc in
          let k = denominator-of F f denominator d i stands_d (eqb-true (suc i) (length denominator) t) in
          subst (λ (x : Member × Option (List Member)). HasArgument (suc least) s.b s.ms i Q x.0 × (x.1 ≡ Some members)) same
          (record { argument = k.argument; stands = k.stands; small = denominator-small F f d i (map constant_in_z denominator) k q Q u large; is_argument = denominator-is_argument F f d i (map constant_in_z denominator) k (suc least) s.b s.ms Q }, refl)
      by_test false t is =
          let x = and_then-ok (argument_of (member_of_degree i members) q) (λ S. Ok (S, Some members)) found is in
          let same : (x.value, Some members) ≡ found = let next : Ok (x.value, Some members) ≡ Ok found = x.next in cc in
          let k = member-argument least i members q Q x.value s low u large part t x.is in
          subst (λ (x : Member × Option (List Member)). HasArgument (suc least) s.b s.ms i Q x.0 × (x.1 ≡ Some members)) same
          (record { argument = k.argument; stands = k.stands; small = k.small; is_argument = inr k.is_part }, refl)

  with_members : (least i : ℕ) (members : List Member) (qs : List InZ) (Qs : List (Polynomial F)) (logs result : List LogPart)
      → (s : IsStandingSequence F f (suc least) denominator d a (PolynomialDerivation.derive_polynomial F D w d) members) → least ≤ i → StandForParts F f qs Qs → Among i Qs
      → logarithms_from tower level numerator denominator i (Some members) logs qs ≡ Ok result → HaveLogarithms F f level d (suc least) s.b s.ms i Qs logs result
  with_members least i members [] [] logs result s low h among is = let same : logs ≡ result = cc in no_more F f level d (suc least) s.b s.ms i logs result same
  with_members least i members [] (Q ∷ Qs) logs result s low h among is = absurd h
  with_members least i members (q ∷ qs) [] logs result s low h among is = absurd h
  with_members least i members (q ∷ qs) (Q ∷ Qs) logs result s low h among is =
      by_test (poly.is_one element q) refl is (λ logs k. with_members least (suc i) members qs Qs logs result s (omega (arith, low)) h.1 (λ k q x. among k q (inr x)) k)
    where
      part : IsPartOf F i Q 1 parts
      part = among i Q (inl (refl, refl))

      monic : IsMonic F Q
      monic = part-is_monic F i Q 1 parts are_parts part

      by_test : (test : Bool) → poly.is_one element q ≡ test
          → (if test then logarithms_from tower level numerator denominator (suc i) (Some members) logs qs else
          and_then (argument_for tower level numerator denominator (Some members) i q) (λ found. and_then (logarithm level q found.0) (λ l. logarithms_from tower level numerator denominator (suc i) found.1 (logs ++ l ∷ []) qs))) ≡ Ok result
          → ((logs : List LogPart) → logarithms_from tower level numerator denominator (suc i) (Some members) logs qs ≡ Ok result → HaveLogarithms F f level d (suc least) s.b s.ms (suc i) Qs logs result)
          → HaveLogarithms F f level d (suc least) s.b s.ms i (Q ∷ Qs) logs result
      by_test true t is again = pass F f level d (suc least) s.b s.ms i Q Qs logs result (part-is_one F f q Q h.0.0 monic t) (again logs is)
      by_test false t is again =
          let large = part-long F f q Q h.0.0 monic t in
          let x = and_then-ok (argument_for tower level numerator denominator (Some members) i q)
          (λ found. and_then (logarithm level q found.0) (λ l. logarithms_from tower level numerator denominator (suc i) found.1 (logs ++ l ∷ []) qs)) result is in
          let y = and_then-ok (logarithm level q x.value.0) (λ l. logarithms_from tower level numerator denominator (suc i) x.value.1 (logs ++ l ∷ []) qs) result x.next in
          let k = argument-with least i members q Q x.value s low h.0.0 large part x.is in
          one_more F f level d (suc least) s.b s.ms i q Q Qs logs result x.value.0 k.0.argument y.value h.0.0 h.0.1 large k.0.stands k.0.small k.0.is_argument y.is
          (again (logs ++ y.value ∷ []) (subst (λ m. logarithms_from tower level numerator denominator (suc i) m (logs ++ y.value ∷ []) qs ≡ Ok result) k.1 y.next))

  -- ---- from the first part on
  -- a sequence of the theory, and the logarithms for it
  pub record HaveSequence (i : ℕ) (Qs : List (Polynomial F)) (logs result : List LogPart) : Type 0 where
    pub n : ℕ
    pub positive : 1 ≤ n
    pub b : List (Polynomial F)
    pub ms : List (List (Polynomial F))
    pub is_sequence : IsRuleSequence F n d a (PolynomialDerivation.derive_polynomial F D w d) b ms
    pub have : HaveLogarithms F f level d n b ms i Qs logs result

  -- g_0, .., g_(n-1)
  first_of : ℕ → (ℕ → Polynomial F) → List (Polynomial F)
  first_of zero g = []
  first_of (suc n) g = g 0 ∷ first_of n (λ i. g (suc i))

  first_of-at : (n : ℕ) (g : ℕ → Polynomial F) → ((j : ℕ) → n ≤ j → g j ≡ (polynomials F).zero) → (j : ℕ) → coefficient_at F (first_of n g) j ≡ g j
  unfolding first_of
  first_of-at zero g h j = sym (h j (omega arith))
  first_of-at (suc n) g h zero = refl
  first_of-at (suc n) g h (suc j) = first_of-at n (λ i. g (suc i)) (λ j l. h (suc j) (omega (arith, l))) j

  -- where no member is asked for, b alone
  empty_sequence : (i : ℕ) (logs result : List LogPart) → logs ≡ result → HaveSequence i [] logs result
  empty_sequence i logs result same = record {
    n = size F d;
    positive = let s = Degree.size_of_nonzero F d (Gcd.monic-nonzero F d is_monic) in omega (arith, s);
    b = b;
    ms = [];
    is_sequence = PrimitiveParts.rule_sequence-empty F d a e small_a small_e b (PrimitiveParts.residue_polynomial_of_coefficients F a e b (first_of-at (size F d) g beyond));
    have = no_more F f level d (size F d) b [] i logs result same;
  }
    where
      g : ℕ → Polynomial F
      g j = difference F f (coefficient F a j) (coefficient F (PolynomialDerivation.derive_polynomial F D w d) j)

      b : List (Polynomial F)
      b = first_of (size F d) g

      beyond : (j : ℕ) → size F d ≤ j → g j ≡ (polynomials F).zero
      beyond j l = difference-zero F f (coefficient F a j) (coefficient F (PolynomialDerivation.derive_polynomial F D w d) j)
          (Degree.below_size F a j (omega (arith, l, small_a))) (Degree.below_size F (PolynomialDerivation.derive_polynomial F D w d) j (omega (arith, l, small_e)))

  -- the argument of a part, where no member is formed before: d, or one made of the members that are formed
  with_sequence : (i : ℕ) (q : InZ) (Q : Polynomial F) (qs : List InZ) (Qs : List (Polynomial F)) (logs result : List LogPart) (found : Member × Option (List Member)) (l : LogPart)
      → StandsFor F f q Q → AllWithin 0 q → 2 ≤ length q → IsPartOf F i Q 1 parts → StandForParts F f qs Qs → Among (suc i) Qs
      → argument_for tower level numerator denominator None i q ≡ Ok found → logarithm level q found.0 ≡ Ok l
      → logarithms_from tower level numerator denominator (suc i) found.1 (logs ++ l ∷ []) qs ≡ Ok result
      → ((logs : List LogPart) → logarithms_from tower level numerator denominator (suc i) None logs qs ≡ Ok result → HaveSequence (suc i) Qs logs result) → HaveSequence i (Q ∷ Qs) logs result
  unfolding argument_for
  with_sequence i q Q qs Qs logs result found l u rational large part h among is made rest again = by_test (nat_eq (suc i) (length denominator)) refl is
    where
      by_test : (test : Bool) → nat_eq (suc i) (length denominator) ≡ test
          → (if test then Ok (map constant_in_z denominator, None) else and_then (sequence tower level numerator denominator i) (λ ms. and_then (argument_of (member_of_degree i ms) q) (λ S. Ok (S, Some ms)))) ≡ Ok found
          → HaveSequence i (Q ∷ Qs) logs result
      by_test true t is =
          let same : found ≡ (map constant_in_z denominator, None) = cc in
          let k = denominator-of F f denominator d i stands_d (eqb-true (suc i) (length denominator) t) in
          let y = again (logs ++ l ∷ []) (subst (λ (x : Member × Option (List Member)). logarithms_from tower level numerator denominator (suc i) x.1 (logs ++ l ∷ []) qs ≡ Ok result) same rest) in
          record {
            n = y.n;
            positive = y.positive;
            b = y.b;
            ms = y.ms;
            is_sequence = y.is_sequence;
            have = one_more F f level d y.n y.b y.ms i q Q Qs logs result (map constant_in_z denominator) k.argument l u rational large k.stands
                (denominator-small F f d i (map constant_in_z denominator) k q Q u large)
                (denominator-is_argument F f d i (map constant_in_z denominator) k y.n y.b y.ms Q)
                (subst (λ (x : Member × Option (List Member)). logarithm level q x.0 ≡ Ok l) same made) y.have;
          }
      by_test false t is =
          let x = and_then-ok (sequence tower level numerator denominator i) (λ ms. and_then (argument_of (member_of_degree i ms) q) (λ S. Ok (S, Some ms))) found is in
          let y = and_then-ok (argument_of (member_of_degree i x.value) q) (λ S. Ok (S, Some x.value)) found x.next in
          let same : found ≡ (y.value, Some x.value) = let next : Ok (y.value, Some x.value) ≡ Ok found = y.next in cc in
          let s = sequence-is i x.value x.is in
          let k = member-argument i i x.value q Q y.value s (omega arith) u large part t y.is in
          record {
            n = suc i;
            positive = omega arith;
            b = s.b;
            ms = s.ms;
            is_sequence = s.is_sequence;
            have = one_more F f level d (suc i) s.b s.ms i q Q Qs logs result y.value k.argument l u rational large k.stands k.small (inr k.is_part)
                (subst (λ (x : Member × Option (List Member)). logarithm level q x.0 ≡ Ok l) same made)
                (with_members i (suc i) x.value qs Qs (logs ++ l ∷ []) result s (omega arith) h among
                (subst (λ (x : Member × Option (List Member)). logarithms_from tower level numerator denominator (suc i) x.1 (logs ++ l ∷ []) qs ≡ Ok result) same rest));
          }

  pub logarithms-stand : (i : ℕ) (qs : List InZ) (Qs : List (Polynomial F)) (logs result : List LogPart) → StandForParts F f qs Qs → ((k : ℕ) (q : Polynomial F) → IsPartOf F k q i Qs → IsPartOf F k q 1 parts)
      → logarithms_from tower level numerator denominator i None logs qs ≡ Ok result → HaveSequence i Qs logs result
  logarithms-stand i [] [] logs result h among is = let same : logs ≡ result = cc in empty_sequence i logs result same
  logarithms-stand i [] (Q ∷ Qs) logs result h among is = absurd h
  logarithms-stand i (q ∷ qs) [] logs result h among is = absurd h
  logarithms-stand i (q ∷ qs) (Q ∷ Qs) logs result h among is =
      by_test (poly.is_one element q) refl is (λ logs k. logarithms-stand (suc i) qs Qs logs result h.1 (λ k q x. among k q (inr x)) k)
    where
      part : IsPartOf F i Q 1 parts
      part = among i Q (inl (refl, refl))

      monic : IsMonic F Q
      monic = part-is_monic F i Q 1 parts are_parts part

      by_test : (test : Bool) → poly.is_one element q ≡ test
          → (if test then logarithms_from tower level numerator denominator (suc i) None logs qs else
          and_then (argument_for tower level numerator denominator None i q) (λ found. and_then (logarithm level q found.0) (λ l. logarithms_from tower level numerator denominator (suc i) found.1 (logs ++ l ∷ []) qs))) ≡ Ok result
          → ((logs : List LogPart) → logarithms_from tower level numerator denominator (suc i) None logs qs ≡ Ok result → HaveSequence (suc i) Qs logs result) → HaveSequence i (Q ∷ Qs) logs result
      by_test true t is again =
          let y = again logs is in
          record { n = y.n; positive = y.positive; b = y.b; ms = y.ms; is_sequence = y.is_sequence; have = pass F f level d y.n y.b y.ms i Q Qs logs result (part-is_one F f q Q h.0.0 monic t) y.have }
      by_test false t is again =
          let large = part-long F f q Q h.0.0 monic t in
          let x = and_then-ok (argument_for tower level numerator denominator None i q)
          (λ found. and_then (logarithm level q found.0) (λ l. logarithms_from tower level numerator denominator (suc i) found.1 (logs ++ l ∷ []) qs)) result is in
          let y = and_then-ok (logarithm level q x.value.0) (λ l. logarithms_from tower level numerator denominator (suc i) x.value.1 (logs ++ l ∷ []) qs) result x.next in
          with_sequence i q Q qs Qs logs result x.value y.value h.0.0 h.0.1 large part h.1 (λ k q x. among k q (inr x)) x.is y.is y.next again
