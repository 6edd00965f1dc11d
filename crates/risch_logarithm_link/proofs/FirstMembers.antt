-- The first two members of the sequence, d and a - z·e with the coefficients c and a_j - z·e_j, as lists, and the sequence that the rule forms from them.
--     constants-stand, differences-stand      the coefficients
--     sequence-stands      the rule of the sequence gives a sequence of the theory
use Rattle.std.specs.Prelude.{map, if◌then◌else◌}
use Rattle.std.proofs.Common.{◌≡◌, refl, sym, ap, ap₂, ◌∙◌, ℕ, zero, suc, ◌+◌, ◌-◌, ◌≤◌, ◌<◌, Bool, true, false, List, [], ◌∷◌, ◌++◌, length, get_or, Ok, arith, subst}
use Rattle.std.proofs.lemmas.List.{length-map}
use Rattle.risch_ring.specs.CommRing.{CommRing, Field, RingMap}
use Rattle.risch_ring.proofs.Expression.{reading}
use Rattle.risch_ring.proofs.Laws as Laws
use Rattle.risch_ring.proofs.RingMaps as RingMaps
use Rattle.risch_ring.proofs.Solver.{ring}
use Rattle.risch_univariate.specs.Polynomial.{Polynomial, coefficient, constant, variable}
use Rattle.risch_univariate.specs.PolynomialRing.{polynomials}
use Rattle.risch_univariate.specs.Degree.{size}
use Rattle.risch_univariate.proofs.Degree as Degree
use Rattle.risch_fraction_field.specs.Fraction.{of_polynomial}
use Rattle.risch_fraction_field.specs.FractionField.{fractions}
use Rattle.risch_fraction_field.specs.DifferentialField.{constant_fraction, constant_fraction-apply}
use Rattle.risch_extension.proofs.PolynomialMaps as Maps
use Rattle.risch_residue_theory.specs.BivariatePolynomial.{lift, bivariate, coefficient_at, residue_polynomial}
use Rattle.risch_residue_theory.specs.RemainderSequence.{IsRemainderSequence}
use Rattle.risch_residue_theory.specs.RuleLogarithm.{IsRuleSequence}
use Rattle.risch_residue_theory.proofs.PrimitiveParts.{residue_polynomial_of_coefficients}
use Rattle.risch_mean.specs.ElementField.{elements}
use Rattle.risch_polynomial.specs.Poly as poly
use Rattle.risch_polynomial_theory.specs.Meaning.{AllValid}
use Rattle.risch_level.specs.Levels.{Element, element}
use Rattle.risch_element_theory.specs.WholeTower.{IsElement, IsPolynomial, meaning, polynomial}
use Rattle.risch_element_theory.proofs.ElementPolynomials as Polynomials
use Rattle.risch_element_theory.proofs.ElementPolynomials.{element_interprets}
use Rattle.risch_element_theory.proofs.GcdRule as GcdRule
use Rattle.risch_element_theory.proofs.PolynomialRules as Rules
use Rattle.risch_sub.specs.RemainderSequence.{InZ, Member, trimmed, sized, remainders}
use Rattle.risch_logarithm_rules.specs.Logarithms.{constant_in_z, difference_in_z, differences_in_z}
use Rattle.risch_logarithm_link.proofs.PseudoRemainders.{IsListOf, AreCoefficients, Leads, leads_of_size, sized-is, trimmed-get, trimmed-leads, trimmed-length}
use Rattle.risch_logarithm_link.proofs.StandingPolynomials as Standing
use Rattle.risch_logarithm_link.proofs.StandingPolynomials.{StandsFor, stands_in_fractions}
use Rattle.risch_logarithm_link.proofs.StandingMembers.{AreAt, StandsForMember, stands-bivariate, HasCoefficients, list_of_coefficients, values_of, values_of-stand}
use Rattle.risch_logarithm_link.proofs.StandingSequences.{StandForMembers, Follow, remainders-follow}

-- at most two coefficients stay without the zeros at the end
pub trimmed-short : (p : List Element) → length (poly.trimmed element p) ≤ length p
trimmed-short [] = omega arith
trimmed-short (c ∷ p) = let l = trimmed-short p in let k = leading-short c (poly.trimmed element p) in omega (arith, l, k)
  where
    by_zero : (z : Bool) (c : Element) → length (if z then [] else c ∷ []) ≤ 1
    by_zero true c = omega arith
    by_zero false c = omega arith

    leading-short : (c : Element) (p : List Element) → length (poly.leading element c p) ≤ suc (length p)
    leading-short c [] = by_zero (element.is_zero c) c
    leading-short c (d ∷ p) = omega arith

module _ {A : Type 0} (F : Field A) (f : RingMap F.ring elements.ring) where
  abbrev R : CommRing (Polynomial F)
  R = polynomials F

  abbrev S : CommRing (Polynomial elements)
  S = polynomials elements

  -- ---- coefficients
  -- a polynomial and its coefficients
  pub coefficient-stands : (p : List Element) (P : Polynomial F) (i : ℕ) → StandsFor F f p P → f.apply (coefficient F P i) ≡ meaning (poly.coefficient element p i)
  coefficient-stands p P i h =
      sym (Maps.coefficient-map_polynomial F elements f P i) ∙ ap (λ q. coefficient elements q i) h.image ∙ GcdRule.coefficient-polynomial_of elements element_interprets p i

  zero_of_value : (x : A) → f.apply x ≡ meaning element.zero → x ≡ F.zero
  zero_of_value x e = RingMaps.apply-injective F elements f x F.zero (e ∙ element_interprets.zero-means ∙ sym (RingMaps.apply-zero f))

  constant-image : (c : Element) → polynomial (c ∷ []) ≡ constant elements (meaning c)
  constant-image c =
      Rules.polynomial_of-cons elements element_interprets c []
      ∙ ap (λ z. S.add (constant elements (meaning c)) (S.mul (variable elements) z)) (Rules.polynomial_of-nil elements element_interprets)
      ∙ ap (S.add (constant elements (meaning c))) (Laws.mul-zero S (variable elements)) ∙ S.add-zero (constant elements (meaning c))

  -- c in K[z]
  pub constant_in_z-stands : (c : Element) (x : A) → IsElement c → f.apply x ≡ meaning c → StandsFor F f (constant_in_z c) (constant F x)
  constant_in_z-stands c x v e = record {
    kept = Polynomials.trimmed-is_polynomial (c ∷ []) (constant_in_z c) (v, tt) (let l = trimmed-short (c ∷ []) in omega (arith, l)) refl;
    image = Maps.map_polynomial-constant F elements f x ∙ ap (constant elements) e ∙ sym (Polynomials.trimmed-stands (c ∷ []) (constant_in_z c) (v, tt) refl ∙ constant-image c);
  }

  difference-image : (c s : Element) → IsElement s → polynomial (c ∷ element.negative s ∷ []) ≡ S.add (constant elements (meaning c)) (S.mul (S.neg (variable elements)) (constant elements (meaning s)))
  difference-image c s v =
      Rules.polynomial_of-cons elements element_interprets c (element.negative s ∷ [])
      ∙ ap (λ z. S.add (constant elements (meaning c)) (S.mul (variable elements) z))
      (constant-image (element.negative s) ∙ ap (constant elements) (element_interprets.negative-means s v) ∙ Degree.constant-neg elements (meaning s))
      ∙ moved (constant elements (meaning c)) (variable elements) (constant elements (meaning s))
    where
      moved : (a t b : Polynomial elements) → S.add a (S.mul t (S.neg b)) ≡ S.add a (S.mul (S.neg t) b)
      moved a t b = ring S (a ∷ t ∷ b ∷ []) (search reading depth 20 fits 9000) refl

  -- x - z·y
  abbrev pub difference : A → A → Polynomial F
  difference x y = (polynomials F).add (constant F x) ((polynomials F).mul ((polynomials F).neg (variable F)) (constant F y))

  pub difference_in_z-stands : (c s : Element) (x y : A) → IsElement c → IsElement s → f.apply x ≡ meaning c → f.apply y ≡ meaning s → StandsFor F f (difference_in_z c s) (difference x y)
  difference_in_z-stands c s x y v w e h = record {
    kept = Polynomials.trimmed-is_polynomial (c ∷ element.negative s ∷ []) (difference_in_z c s) (v, (element_interprets.negative-valid s w, tt))
        (let l = trimmed-short (c ∷ element.negative s ∷ []) in omega (arith, l)) refl;
    image =
        Maps.map_polynomial-add F elements f (constant F x) (R.mul (R.neg (variable F)) (constant F y))
        ∙ ap₂ S.add (Maps.map_polynomial-constant F elements f x ∙ ap (constant elements) e)
        (Maps.map_polynomial-mul F elements f (R.neg (variable F)) (constant F y)
        ∙ ap₂ S.mul (Standing.map-neg F f (variable F) ∙ ap S.neg (Maps.map_polynomial-variable F elements f)) (Maps.map_polynomial-constant F elements f y ∙ ap (constant elements) h))
        ∙ sym (Polynomials.trimmed-stands (c ∷ element.negative s ∷ []) (difference_in_z c s) (v, (element_interprets.negative-valid s w, tt)) refl ∙ difference-image c s w);
  }

  -- ---- lists of coefficients
  -- the elements of the list are the images of x_0, x_1, ..
  abbrev pub AreImages : List Element → (ℕ → A) → Type 0
  AreImages p x = (i : ℕ) → f.apply (x i) ≡ meaning (poly.coefficient element p i)

  pub constants-stand : (d : List Element) (x : ℕ → A) → AllValid IsElement d → AreImages d x → AreAt F f (map constant_in_z d) (λ i. constant F (x i))
  constants-stand [] x all h i = subst (StandsFor F f []) (sym (ap (constant F) (zero_of_value (x i) (h i)) ∙ Degree.constant-zero F)) (Standing.stands-zero F f)
  constants-stand (c ∷ d) x all h zero = constant_in_z-stands c (x 0) all.0 (h 0)
  constants-stand (c ∷ d) x all h (suc i) = constants-stand d (λ i. x (suc i)) all.1 (λ i. h (suc i)) i

  pub difference-zero : (x y : A) → x ≡ F.zero → y ≡ F.zero → difference x y ≡ (polynomials F).zero
  difference-zero x y e h =
      ap₂ (λ a b. R.add a (R.mul (R.neg (variable F)) b)) (ap (constant F) e ∙ Degree.constant-zero F) (ap (constant F) h ∙ Degree.constant-zero F)
      ∙ ap (R.add R.zero) (Laws.mul-zero R (R.neg (variable F))) ∙ R.add-zero R.zero

  zero-valid : IsElement element.zero
  zero-valid = element_interprets.zero-valid

  pub differences-stand : (a e : List Element) (x y : ℕ → A) → AllValid IsElement a → AllValid IsElement e → AreImages a x → AreImages e y
      → AreAt F f (differences_in_z a e) (λ i. difference (x i) (y i))
  differences-stand [] [] x y all_a all_e h k i = subst (StandsFor F f []) (sym (difference-zero (x i) (y i) (zero_of_value (x i) (h i)) (zero_of_value (y i) (k i)))) (Standing.stands-zero F f)
  differences-stand [] (s ∷ e) x y all_a all_e h k zero = difference_in_z-stands element.zero s (x 0) (y 0) zero-valid all_e.0 (h 0) (k 0)
  differences-stand [] (s ∷ e) x y all_a all_e h k (suc i) = differences-stand [] e (λ i. x (suc i)) (λ i. y (suc i)) tt all_e.1 (λ i. h (suc i)) (λ i. k (suc i)) i
  differences-stand (c ∷ a) [] x y all_a all_e h k zero = difference_in_z-stands c element.zero (x 0) (y 0) all_a.0 zero-valid (h 0) (k 0)
  differences-stand (c ∷ a) [] x y all_a all_e h k (suc i) = differences-stand a [] (λ i. x (suc i)) (λ i. y (suc i)) all_a.1 tt (λ i. h (suc i)) (λ i. k (suc i)) i
  differences-stand (c ∷ a) (s ∷ e) x y all_a all_e h k zero = difference_in_z-stands c s (x 0) (y 0) all_a.0 all_e.0 (h 0) (k 0)
  differences-stand (c ∷ a) (s ∷ e) x y all_a all_e h k (suc i) = differences-stand a e (λ i. x (suc i)) (λ i. y (suc i)) all_a.1 all_e.1 (λ i. h (suc i)) (λ i. k (suc i)) i

  differences-length : (a e : List Element) (n : ℕ) → length a ≤ n → length e ≤ n → length (differences_in_z a e) ≤ n
  differences-length [] [] n l k = omega arith
  differences-length [] (s ∷ e) zero l k = absurd (omega (arith, k))
  differences-length [] (s ∷ e) (suc n) l k = let t = differences-length [] e n (omega arith) (omega (arith, k)) in omega (arith, t)
  differences-length (c ∷ a) [] zero l k = absurd (omega (arith, l))
  differences-length (c ∷ a) [] (suc n) l k = let t = differences-length a [] n (omega (arith, l)) (omega arith) in omega (arith, t)
  differences-length (c ∷ a) (s ∷ e) zero l k = absurd (omega (arith, l))
  differences-length (c ∷ a) (s ∷ e) (suc n) l k = let t = differences-length a e n (omega (arith, l)) (omega (arith, k)) in omega (arith, t)

  -- ---- the first member
  pub denominator-is_list : (d : List Element) (P : Polynomial F) → StandsFor F f d P → IsListOf (stands_in_fractions F f) (lift F P) (map constant_in_z d)
  denominator-is_list d P h = record { are = are; leads_list = leads_of_size (stands_in_fractions F f) (map constant_in_z d) (lift F P) are same }
    where
      are : AreCoefficients (stands_in_fractions F f) (map constant_in_z d) (lift F P)
      are i = record {
        value = constant F (coefficient F P i);
        has_value = (
          constants-stand d (coefficient F P) h.kept.all_valid (λ i. coefficient-stands d P i h) i,
          Maps.coefficient-map_polynomial F (fractions F) (constant_fraction F) P i ∙ constant_fraction-apply F (coefficient F P i),
        );
      }

      same : size (fractions F) (lift F P) ≡ length (map constant_in_z d)
      same = Maps.size-map_polynomial F (fractions F) (constant_fraction F) P ∙ Standing.stands-size F f d P h ∙ sym (length-map d constant_in_z)

  -- ---- the sequence
  -- d, b and the members after them, as lists, are those of a sequence of the theory
  pub record IsStandingSequence (n : ℕ) (d : List Element) (P a e : Polynomial F) (result : List Member) : Type 0 where
    pub second : Member
    pub lists : List Member
    pub b : List (Polynomial F)
    pub ms : List (List (Polynomial F))
    pub all : result ≡ map constant_in_z d ∷ second ∷ lists
    pub stand : StandForMembers F f (second ∷ lists) (b ∷ ms)
    pub is_sequence : IsRuleSequence F n P a e b ms

  pub sequence-stands : (d a e : List Element) (P Q E : Polynomial F) → StandsFor F f d P → StandsFor F f a Q → StandsFor F f e E → length a ≤ length d → length e ≤ length d
      → (second : Member) → sized (differences_in_z a e) ≡ Ok second → (least : ℕ) (result : List Member) → remainders (map constant_in_z d) second least ≡ Ok result
      → IsStandingSequence (suc least) d P Q E result
  sequence-stands d a e P Q E h k g la le second is least result rule =
      let follow = remainders-follow F f (map constant_in_z d) second least result (lift F P) (bivariate F B) (denominator-is_list d P h)
      (record { are = stands-bivariate F f second B stand.are; leads_list = stand.leads }) short rule in
      record {
        second = second;
        lists = follow.lists;
        b = B;
        ms = follow.polynomials_of;
        all = follow.all;
        stand = (stand, follow.stand);
        is_sequence = record {
          first = first;
          is_sequence = subst (λ z. IsRemainderSequence (fractions F) (suc least) (lift F P) z (map (bivariate F) follow.polynomials_of)) first follow.is_sequence;
          is_primitive = follow.is_primitive;
        };
      }
    where
      same : trimmed (differences_in_z a e) ≡ second
      same = sized-is (differences_in_z a e) second is

      short : length second ≤ length (map constant_in_z d)
      short =
          let l = differences-length a e (length d) la le in
          let t = trimmed-length (differences_in_z a e) in
          let s = ap length same in
          let u = length-map d constant_in_z in
          omega (arith, l, t, s, u)

      at : AreAt F f second (λ i. difference (coefficient F Q i) (coefficient F E i))
      at i = subst (λ z. StandsFor F f z (difference (coefficient F Q i) (coefficient F E i))) (sym (trimmed-get (differences_in_z a e) i) ∙ ap (λ m. get_or m i []) same)
          (differences-stand a e (coefficient F Q) (coefficient F E) k.kept.all_valid g.kept.all_valid (λ i. coefficient-stands a Q i k) (λ i. coefficient-stands e E i g) i)

      B : List (Polynomial F)
      B = values_of F f second (λ i. record { value = difference (coefficient F Q i) (coefficient F E i); has_value = at i })

      stand : StandsForMember F f second B
      stand = record {
        are = values_of-stand F f second (λ i. record { value = difference (coefficient F Q i) (coefficient F E i); has_value = at i });
        leads = subst Leads same (trimmed-leads (differences_in_z a e));
      }

      first : bivariate F B ≡ residue_polynomial F Q E
      first = residue_polynomial_of_coefficients F Q E B (λ j. Standing.stands_unique F f (get_or second j []) (coefficient_at F B j) (difference (coefficient F Q j) (coefficient F E j)) (stand.are j) (at j))
