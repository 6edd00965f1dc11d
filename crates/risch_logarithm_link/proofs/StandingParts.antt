-- The members of given degrees, and the arguments of the logarithms of the parts, as the rules find them.
--     part-is_one, part-not_one      the test of 1
--     found-member      the rule finds the member of a degree where there is one
use Rattle.std.specs.Prelude.{nat_eq, if◌then◌else◌}
use Rattle.std.proofs.Common.{◌≡◌, refl, sym, ap, ◌∙◌, ℕ, zero, suc, ◌≤◌, ◌<◌, Bool, true, false, List, [], ◌∷◌, length, get_or, Ok, arith, subst, inl, inr}
use Rattle.std.proofs.lemmas.Bool.{eqb-true, eqb-false}
use Rattle.risch_ring.specs.CommRing.{CommRing, Field, RingMap, sub}
use Rattle.risch_ring.specs.Lists.{Member as IsAmong}
use Rattle.risch_univariate.specs.Polynomial.{Polynomial}
use Rattle.risch_univariate.specs.PolynomialRing.{polynomials}
use Rattle.risch_univariate.specs.Degree.{size, IsMonic}
use Rattle.risch_univariate.specs.Division.{Divides, IsCoprime}
use Rattle.risch_univariate.proofs.Degree as Degree
use Rattle.risch_univariate.proofs.Gcd as Gcd
use Rattle.risch_fraction_field.specs.FractionField.{fractions}
use Rattle.risch_residue_theory.specs.BivariatePolynomial.{bivariate, coefficient_at, content as content_of}
use Rattle.risch_residue_theory.specs.RuleLogarithm.{IsDenominator, IsMonicPart}
use Rattle.risch_residue_theory.proofs.Place.{Some}
use Rattle.risch_residue_theory.proofs.PrimitiveParts as PrimitiveParts
use Rattle.risch_mean.specs.ElementField.{elements}
use Rattle.risch_polynomial.specs.Poly as poly
use Rattle.risch_level.specs.Levels.{Element, element}
use Rattle.risch_element_theory.specs.ElementMeaning.{TellsOne}
use Rattle.risch_element_theory.specs.WholeTower.{IsElement, IsPolynomial, meaning, polynomial}
use Rattle.risch_element_theory.proofs.ElementPolynomials.{element_interprets}
use Rattle.risch_element_theory.proofs.GcdRule as GcdRule
use Rattle.risch_element_theory.proofs.Levels.{level_tells_one}
use Rattle.risch_extension.proofs.PolynomialMaps as Maps
use Rattle.risch_logarithm_theory.proofs.MappedPolynomials as Mapped
use Rattle.risch_sub.specs.RemainderSequence.{InZ, Member}
use Rattle.risch_logarithm_rules.specs.Logarithms.{member_of_degree}
use Rattle.risch_logarithm_link.proofs.StandingPolynomials as Standing
use Rattle.risch_logarithm_link.proofs.StandingPolynomials.{StandsFor}
use Rattle.risch_logarithm_link.proofs.StandingMembers.{AreAt, StandsForMember, stands-size_bivariate, content-nonzero, values_of, values_of-stand, values_of-length}
use Rattle.risch_logarithm_link.proofs.StandingSequences.{StandForMembers}
use Rattle.risch_logarithm_link.proofs.StandingRemainders.{IsCongruent}
use Rattle.risch_logarithm_link.proofs.StandingArguments.{IsMonicTimes, congruent_sym}

element_tells_one : TellsOne elements element IsElement meaning
unfolding IsElement meaning element
element_tells_one = level_tells_one 5

is_one-short : (p : InZ) → poly.is_one element p ≡ true → length p ≤ 1
is_one-short [] e = omega arith
is_one-short (c ∷ []) e = omega arith
is_one-short (c ∷ (d ∷ p)) e = cc

module _ {A : Type 0} (F : Field A) (f : RingMap F.ring elements.ring) where
  abbrev R : CommRing (Polynomial F)
  R = polynomials F

  -- ---- the test of 1
  pub part-is_one : (p : InZ) (P : Polynomial F) → StandsFor F f p P → IsMonic F P → poly.is_one element p ≡ true → P ≡ (polynomials F).one
  part-is_one p P h monic e = Gcd.one_of_monic F P monic (let s = Standing.stands-size F f p P h in let l = is_one-short p e in omega (arith, s, l))

  -- what is not told to be 1 is not 1, and has a degree
  pub part-long : (p : InZ) (P : Polynomial F) → StandsFor F f p P → IsMonic F P → poly.is_one element p ≡ false → 2 ≤ length p
  part-long [] P h monic e = absurd (Gcd.monic-nonzero F P monic (Standing.stands-zero_is F f P h))
  part-long (c ∷ []) P h monic e = absurd (let one : poly.is_one element (c ∷ []) ≡ true = element_tells_one.one_if c h.kept.all_valid.0 lead in cc)
    where
      lead : meaning c ≡ elements.one
      lead = sym (GcdRule.leading_coefficient-polynomial_of elements element_interprets (c ∷ []) h.kept)
          ∙ subst (IsMonic elements) h.image (Mapped.monic-map F elements f P monic)
  part-long (c ∷ (d ∷ p)) P h monic e = omega arith

  pub part-not_one : (p : InZ) (P : Polynomial F) → StandsFor F f p P → 2 ≤ length p → ¬ (P ≡ (polynomials F).one)
  part-not_one p P h long e = let s = Standing.stands-size F f p P h in let t = ap (size F) e in let o = Degree.size-one F in absurd (omega (arith, s, t, o, long))

  -- ---- the member of a degree
  pub record HasMember (i : ℕ) (m : Member) (Ms : List (List (Polynomial F))) : Type 0 where
    pub polynomial_of : List (Polynomial F)
    pub among : IsAmong polynomial_of Ms
    pub stands : StandsForMember F f m polynomial_of
    pub long : length m ≡ suc i

  pub found-member : (i : ℕ) (ms : List Member) (Ms : List (List (Polynomial F))) → StandForMembers F f ms Ms → (M : List (Polynomial F)) → IsAmong M Ms → size (fractions F) (bivariate F M) ≡ suc i
      → HasMember i (member_of_degree i ms) Ms
  found-member i [] [] h M x s = absurd x
  found-member i [] (N ∷ Ns) h M x s = absurd h
  found-member i (m ∷ ms) [] h M x s = absurd h
  found-member i (m ∷ ms) (N ∷ Ns) h M x s = by_test (nat_eq (length m) (suc i)) refl x (λ y. found-member i ms Ns h.1 M y s)
    where
      by_test : (test : Bool) → nat_eq (length m) (suc i) ≡ test → IsAmong M (N ∷ Ns) → (IsAmong M Ns → HasMember i (member_of_degree i ms) Ns)
          → HasMember i (if test then m else member_of_degree i ms) (N ∷ Ns)
      by_test true t x again = record { polynomial_of = N; among = inl refl; stands = h.0; long = eqb-true (length m) (suc i) t }
      by_test false t (inl y) again =
          absurd (eqb-false (length m) (suc i) t (sym (stands-size_bivariate F f m N h.0) ∙ ap (λ z. size (fractions F) (bivariate F z)) (sym y) ∙ s))
      by_test false t (inr y) again = let k = again y in record { polynomial_of = k.polynomial_of; among = inr k.among; stands = k.stands; long = k.long }

  -- ---- arguments of the theory
  -- S is a list for the coefficients of an argument
  pub record StandsForArgument (S : Member) (argument : List (Polynomial F)) : Type 0 where
    pub are : AreAt F f S (coefficient_at F argument)
    pub same_length : length argument ≡ length S

  -- an argument made of a member
  pub record HasMonicPart (d : Polynomial F) (n : ℕ) (b : List (Polynomial F)) (ms : List (List (Polynomial F))) (i : ℕ) (D : Polynomial F) (S : Member) : Type 0 where
    pub argument : List (Polynomial F)
    pub stands : StandsForArgument S argument
    pub small : (j : ℕ) → size F (coefficient_at F argument j) < size F D
    pub is_part : IsMonicPart F d n b ms i D argument

  pub monic_part-of : (d : Polynomial F) (n : ℕ) (b : List (Polynomial F)) (ms : List (List (Polynomial F))) (i : ℕ) (D : Polynomial F) (m S : Member) → ¬ (size F d ≡ suc i) → n ≤ suc i
      → (h : HasMember i m (b ∷ ms)) → IsMonicTimes F f i D (coefficient_at F (PrimitiveParts.primitive_part F h.polynomial_of)) S → HasMonicPart d n b ms i D S
  monic_part-of d n b ms i D m S other wanted h t = record {
    argument = argument;
    stands = record { are = stand; same_length = values_of-length F f S values };
    small = λ j. subst (λ z. size F z < size F D) (Standing.stands_unique F f (get_or S j []) (t.each j).value (coefficient_at F argument j) (t.each j).stands (stand j)) (t.each j).smaller;
    is_part = record {
      other_size = other;
      wanted = wanted;
      member = h.polynomial_of;
      among = h.among;
      same_size = stands-size_bivariate F f m h.polynomial_of h.stands ∙ h.long;
      factor = content_of F h.polynomial_of;
      factor-nonzero = nonzero;
      primitive = PrimitiveParts.primitive_part F h.polynomial_of;
      equation = PrimitiveParts.coefficient-primitive_part F h.polynomial_of;
      is_primitive = PrimitiveParts.content-primitive_part F h.polynomial_of nonzero;
      inverse = t.inverse;
      inverse-equation = t.inverse-equation;
      congruent = λ j. subst (λ z. Divides F D (sub R z (R.mul t.inverse (coefficient_at F (PrimitiveParts.primitive_part F h.polynomial_of) j))))
          (Standing.stands_unique F f (get_or S j []) (t.each j).value (coefficient_at F argument j) (t.each j).stands (stand j))
          (congruent_sym F f D (R.mul t.inverse (coefficient_at F (PrimitiveParts.primitive_part F h.polynomial_of) j)) (t.each j).value (t.each j).congruent);
      same_length = values_of-length F f S values ∙ t.long;
    };
  }
    where
      values : (j : ℕ) → Some (StandsFor F f (get_or S j []))
      values j = record { value = (t.each j).value; has_value = (t.each j).stands }

      argument : List (Polynomial F)
      argument = values_of F f S values

      stand : AreAt F f S (coefficient_at F argument)
      stand = values_of-stand F f S values

      nonzero : ¬ (content_of F h.polynomial_of ≡ (polynomials F).zero)
      nonzero = content-nonzero F f m h.polynomial_of h.stands (let l = h.long in omega (arith, l))
