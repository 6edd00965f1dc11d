-- Members of remainder sequences: the list m of lists of elements stands for the polynomial in t with the coefficients M_0, M_1, .. in K[z] where each m_j stands for M_j.
--     stands-bivariate, list_of_coefficients      as polynomials over K(z)
--     content-stands      the rule of the content gives the content
--     primitive_part-stands      the rule of the primitive part gives the primitive part
use Rattle.std.proofs.Common.{◌≡◌, refl, sym, ap, ◌∙◌, ℕ, zero, suc, ◌+◌, ◌-◌, ◌<◌, List, [], ◌∷◌, ◌++◌, take, length, get_or, Ok, arith, subst}
use Rattle.std.proofs.lemmas.List.{get_or_append_left, get_or_past}
use Rattle.risch_ring.specs.CommRing.{CommRing, Field, RingMap}
use Rattle.risch_univariate.specs.Polynomial.{Polynomial, constant}
use Rattle.risch_univariate.specs.PolynomialLaws.{polynomial_ext}
use Rattle.risch_univariate.specs.PolynomialRing.{polynomials}
use Rattle.risch_univariate.specs.Degree.{size, IsMonic}
use Rattle.risch_univariate.specs.Division.{Divides}
use Rattle.risch_univariate.proofs.Degree as Degree
use Rattle.risch_univariate.proofs.Divides as Divides
use Rattle.risch_univariate.proofs.Gcd as Gcd
use Rattle.risch_fraction_field.specs.Fraction.{of_polynomial}
use Rattle.risch_fraction_field.specs.FractionField.{fractions}
use Rattle.risch_residue_theory.specs.BivariatePolynomial.{bivariate, coefficient_at, content as content_of}
use Rattle.risch_residue_theory.proofs.BivariatePolynomials.{coefficient-bivariate}
use Rattle.risch_residue_theory.proofs.Content.{content-divides, content-greatest}
use Rattle.risch_residue_theory.proofs.Place.{Some}
use Rattle.risch_residue_theory.proofs.PrimitiveParts as PrimitiveParts
use Rattle.risch_mean.specs.ElementField.{elements}
use Rattle.risch_field.specs.Checked.{and_then}
use Rattle.risch_field.proofs.CheckedSteps.{and_then-ok}
use Rattle.risch_polynomial.specs.Poly as poly
use Rattle.risch_level.specs.Levels.{element}
use Rattle.risch_sub.specs.RemainderSequence.{InZ, Member, sized, leading, divisor_with, divisor_of_all, content, quotients_onto, primitive_part}
use Rattle.risch_logarithm_link.proofs.PseudoRemainders.{Leads, sized-is, trimmed-get, trimmed-leads, leading-get, push-length, push-last, AreCoefficients, size-coefficients}
use Rattle.risch_logarithm_link.proofs.StandingPolynomials as Standing
use Rattle.risch_logarithm_link.proofs.StandingPolynomials.{StandsFor, stands_in_fractions}

module _ {A : Type 0} (F : Field A) (f : RingMap F.ring elements.ring) where
  abbrev R : CommRing (Polynomial F)
  R = polynomials F

  -- each coefficient stands for g_j
  abbrev pub AreAt : Member → (ℕ → Polynomial F) → Type 0
  AreAt m g = (i : ℕ) → StandsFor F f (get_or m i []) (g i)

  -- m stands for M_0 + M_1·t + .., and its last coefficient is not 0
  pub record StandsForMember (m : Member) (M : List (Polynomial F)) : Type 0 where
    pub are : AreAt m (coefficient_at F M)
    pub leads : Leads m

  -- ---- as polynomials over K(z)
  pub stands-bivariate : (m : Member) (M : List (Polynomial F)) → AreAt m (coefficient_at F M) → AreCoefficients (stands_in_fractions F f) m (bivariate F M)
  stands-bivariate m M h i = record { value = coefficient_at F M i; has_value = (h i, coefficient-bivariate F M i) }

  pub stands-size_bivariate : (m : Member) (M : List (Polynomial F)) → StandsForMember m M → size (fractions F) (bivariate F M) ≡ length m
  stands-size_bivariate m M h = size-coefficients (stands_in_fractions F f) m (bivariate F M) h.leads (stands-bivariate m M h.are)

  -- the polynomials for which the coefficients stand
  pub values_of : (m : Member) → ((i : ℕ) → Some (StandsFor F f (get_or m i []))) → List (Polynomial F)
  values_of [] h = []
  values_of (p ∷ m) h = (h 0).value ∷ values_of m (λ i. h (suc i))

  pub values_of-stand : (m : Member) (h : (i : ℕ) → Some (StandsFor F f (get_or m i []))) → AreAt m (coefficient_at F (values_of m h))
  unfolding values_of
  values_of-stand [] h i = Standing.stands-zero F f
  values_of-stand (p ∷ m) h zero = (h 0).has_value
  values_of-stand (p ∷ m) h (suc i) = values_of-stand m (λ i. h (suc i)) i

  pub values_of-length : (m : Member) (h : (i : ℕ) → Some (StandsFor F f (get_or m i []))) → length (values_of m h) ≡ length m
  unfolding values_of
  values_of-length [] h = refl
  values_of-length (p ∷ m) h = ap suc (values_of-length m (λ i. h (suc i)))

  -- the coefficients of B are in K[z] where a list stands for them
  pub record HasCoefficients (m : Member) (B : Polynomial (fractions F)) : Type 0 where
    pub coefficients : List (Polynomial F)
    pub stand : AreAt m (coefficient_at F coefficients)
    pub equation : bivariate F coefficients ≡ B

  pub list_of_coefficients : (m : Member) (B : Polynomial (fractions F)) → AreCoefficients (stands_in_fractions F f) m B → HasCoefficients m B
  list_of_coefficients m B h = record {
    coefficients = M;
    stand = stand;
    equation = polynomial_ext (fractions F) (bivariate F M) B (λ i.
        coefficient-bivariate F M i ∙ ap (of_polynomial F) (Standing.stands_unique F f (get_or m i []) (coefficient_at F M i) (h i).value (stand i) (h i).has_value.0) ∙ sym (h i).has_value.1);
  }
    where
      M : List (Polynomial F)
      M = values_of m (λ i. record { value = (h i).value; has_value = (h i).has_value.0 })

      stand : AreAt m (coefficient_at F M)
      stand = values_of-stand m (λ i. record { value = (h i).value; has_value = (h i).has_value.0 })

  -- ---- contents
  -- C is monic, divides each g_j, and is divided by what divides each
  record IsContent (g : ℕ → Polynomial F) (C : Polynomial F) : Type 0 where
    divides : (j : ℕ) → Divides F C (g j)
    greatest : (d : Polynomial F) → ((j : ℕ) → Divides F d (g j)) → Divides F d C
    nonzero : ¬ (C ≡ (polynomials F).zero)
    is_monic : IsMonic F C

  record HasContent (c : InZ) (g : ℕ → Polynomial F) : Type 0 where
    value : Polynomial F
    stands : StandsFor F f c value
    is_content : IsContent g value

  -- of one coefficient
  content_of_one : (p c : InZ) (g : ℕ → Polynomial F) → AreAt (p ∷ []) g → 0 < length p → poly.monic element p ≡ Ok c → HasContent c g
  content_of_one p c g h some e = record {
    value = Gcd.gcd F (g 0) R.zero;
    stands = Standing.stands-monic F f p c (g 0) (h 0) some e;
    is_content = record {
      divides = divides;
      greatest = λ d k. Gcd.gcd-greatest F (g 0) R.zero d (k 0) (Divides.divides-zero F d);
      nonzero = nonzero;
      is_monic = Gcd.gcd-is_monic F (g 0) R.zero nonzero;
    };
  }
    where
      nonzero : ¬ (Gcd.gcd F (g 0) (polynomials F).zero ≡ (polynomials F).zero)
      nonzero = Gcd.gcd-nonzero_left F (g 0) (polynomials F).zero (Standing.stands-nonzero F f p (g 0) (h 0) some)

      divides : (j : ℕ) → Divides F (Gcd.gcd F (g 0) (polynomials F).zero) (g j)
      divides zero = Gcd.gcd-divides_left F (g 0) (polynomials F).zero
      divides (suc j) = subst (Divides F (Gcd.gcd F (g 0) (polynomials F).zero)) (sym (Standing.stands-zero_is F f (g (suc j)) (h (suc j)))) (Divides.divides-zero F (Gcd.gcd F (g 0) (polynomials F).zero))

  -- with one more coefficient
  content-with : (p a c : InZ) (g : ℕ → Polynomial F) → StandsFor F f p (g 0) → HasContent a (λ j. g (suc j)) → divisor_with a p ≡ Ok c → HasContent c g
  content-with [] a c g k h e =
      let same : a ≡ c = cc in
      subst (λ c. HasContent c g) same (record {
        value = h.value;
        stands = h.stands;
        is_content = record { divides = divides; greatest = λ d l. h.is_content.greatest d (λ j. l (suc j)); nonzero = h.is_content.nonzero; is_monic = h.is_content.is_monic };
      })
    where
      divides : (j : ℕ) → Divides F h.value (g j)
      divides zero = subst (Divides F h.value) (sym (Standing.stands-zero_is F f (g 0) k)) (Divides.divides-zero F h.value)
      divides (suc j) = h.is_content.divides j
  content-with (x ∷ p) a c g k h e = record {
    value = Gcd.gcd F h.value (g 0);
    stands = Standing.stands-gcd F f a (x ∷ p) c h.value (g 0) h.stands k (omega arith) e;
    is_content = record {
      divides = divides;
      greatest = λ d l. Gcd.gcd-greatest F h.value (g 0) d (h.is_content.greatest d (λ j. l (suc j))) (l 0);
      nonzero = nonzero;
      is_monic = Gcd.gcd-is_monic F h.value (g 0) nonzero;
    };
  }
    where
      nonzero : ¬ (Gcd.gcd F h.value (g 0) ≡ (polynomials F).zero)
      nonzero = Gcd.gcd-nonzero_left F h.value (g 0) h.is_content.nonzero

      divides : (j : ℕ) → Divides F (Gcd.gcd F h.value (g 0)) (g j)
      divides zero = Gcd.gcd-divides_right F h.value (g 0)
      divides (suc j) = Divides.divides_trans F _ h.value (g (suc j)) (Gcd.gcd-divides_left F h.value (g 0)) (h.is_content.divides j)

  divisors-are_content : (m : Member) (k : ℕ) (g : ℕ → Polynomial F) (first c : InZ) → length m ≡ suc k → AreAt m g → 0 < length (leading m) → poly.monic element (leading m) ≡ Ok first
      → divisor_of_all (take k m) first ≡ Ok c → HasContent c g
  divisors-are_content [] k g first c l h some is e = absurd (omega (arith, l))
  divisors-are_content (p ∷ []) zero g first c l h some is e =
      let same : first ≡ c = cc in content_of_one p c g h some (is ∙ ap Ok same)
  divisors-are_content (p ∷ []) (suc k) g first c l h some is e = absurd (omega (arith, l))
  divisors-are_content (p ∷ (q ∷ m)) zero g first c l h some is e = absurd (omega (arith, l))
  divisors-are_content (p ∷ (q ∷ m)) (suc k) g first c l h some is e =
      let s = and_then-ok (divisor_of_all (take k (q ∷ m)) first) (λ a. divisor_with a p) c e in
      content-with p s.value c g (h 0) (divisors-are_content (q ∷ m) k (λ j. g (suc j)) first s.value (omega (arith, l)) (λ i. h (suc i)) some is s.is) s.next

  content_of-is_monic : (M : List (Polynomial F)) → ¬ (content_of F M ≡ (polynomials F).zero) → IsMonic F (content_of F M)
  unfolding content_of
  content_of-is_monic [] n = absurd (n refl)
  content_of-is_monic (P ∷ M) n = Gcd.gcd-is_monic F P (content_of F M) n

  -- the rule of the content gives it, and it is not 0
  pub record IsStandingContent (c : InZ) (M : List (Polynomial F)) : Type 0 where
    pub stands : StandsFor F f c (content_of F M)
    pub nonzero : ¬ (content_of F M ≡ (polynomials F).zero)

  pub content-stands : (m : Member) (M : List (Polynomial F)) (c : InZ) → StandsForMember m M → 0 < length m → content m ≡ Ok c → IsStandingContent c M
  unfolding content
  content-stands m M c h some e =
      let s = and_then-ok (poly.monic element (leading m)) (divisor_of_all (take (length m - 1) m)) c e in
      of_content (divisors-are_content m (length m - 1) (coefficient_at F M) s.value c (omega (arith, some)) h.are (h.leads some) s.is s.next)
    where
      of_content : HasContent c (coefficient_at F M) → IsStandingContent c M
      of_content k = record { stands = subst (StandsFor F f c) same k.stands; nonzero = nonzero }
        where
          nonzero : ¬ (content_of F M ≡ (polynomials F).zero)
          nonzero = Divides.divisor-nonzero F (content_of F M) k.value (k.is_content.greatest (content_of F M) (content-divides F M)) k.is_content.nonzero

          same : k.value ≡ content_of F M
          same = Gcd.monic_antisymm F k.value (content_of F M) k.is_content.is_monic (content_of-is_monic M nonzero)
              (content-greatest F M k.value k.is_content.divides) (k.is_content.greatest (content_of F M) (content-divides F M))

  -- the content of what is not 0 is not 0
  pub content-nonzero : (m : Member) (M : List (Polynomial F)) → StandsForMember m M → 0 < length m → ¬ (content_of F M ≡ (polynomials F).zero)
  content-nonzero m M h some z =
      Standing.stands-nonzero F f (get_or m (length m - 1) []) (coefficient_at F M (length m - 1)) (h.are (length m - 1)) (subst (λ p. 0 < length p) (leading-get m (length m - 1) (omega (arith, some))) (h.leads some))
      (Divides.zero_of_zero-divides F (coefficient_at F M (length m - 1)) (subst (λ c. Divides F c (coefficient_at F M (length m - 1))) z (content-divides F M (length m - 1))))

  -- ---- primitive parts
  -- r is `formed` with the quotients of the coefficients of m by c after it
  record AreQuotients (formed : Member) (C : Polynomial F) (m r : Member) : Type 0 where
    long : length r ≡ length formed + length m
    first : (i : ℕ) → i < length formed → get_or r i [] ≡ get_or formed i []
    each : (i : ℕ) (P Q : Polynomial F) → StandsFor F f (get_or m i []) P → P ≡ (polynomials F).mul C Q → StandsFor F f (get_or r (length formed + i) []) Q

  quotients-are : (m formed r : Member) (c : InZ) (C : Polynomial F) → StandsFor F f c C → 0 < length c → quotients_onto formed m c ≡ Ok r → AreQuotients formed C m r
  quotients-are [] formed r c C k some e =
      let same : formed ≡ r = cc in
      subst (AreQuotients formed C []) same (record {
        long = omega arith;
        first = λ i l. refl;
        each = λ i P Q u q. subst (λ z. StandsFor F f z Q) (sym (get_or_past formed (length formed + i) [] (omega arith)))
            (subst (StandsFor F f [])
            (sym (Degree.zero_of_mul_polynomials F C Q (Standing.stands-nonzero F f c C k some) (sym q ∙ Standing.stands-zero_is F f P u)))
            (Standing.stands-zero F f));
      })
  quotients-are (p ∷ m) formed r c C k some e =
      let s = and_then-ok (poly.quo element p c) (λ q. quotients_onto (formed ++ q ∷ []) m c) r e in
      of_rest s.value s.is (quotients-are m (formed ++ s.value ∷ []) r c C k some s.next)
    where
      of_rest : (q : InZ) → poly.quo element p c ≡ Ok q → AreQuotients (formed ++ q ∷ []) C m r → AreQuotients formed C (p ∷ m) r
      of_rest q is g = record {
        long = let l = g.long in omega (arith, l, push-length formed q);
        first = λ i l. g.first i (omega (arith, l, push-length formed q)) ∙ get_or_append_left formed (q ∷ []) [] i l;
        each = each_of;
      }
        where
          each_of : (i : ℕ) (P Q : Polynomial F) → StandsFor F f (get_or (p ∷ m) i []) P → P ≡ (polynomials F).mul C Q → StandsFor F f (get_or r (length formed + i) []) Q
          each_of zero P Q u eq =
              let same : get_or r (length formed + 0) [] ≡ q = ap (λ i. get_or r i []) (omega arith) ∙ g.first (length formed) (omega (arith, push-length formed q)) ∙ push-last formed q in
              subst (λ z. StandsFor F f z Q) (sym same) (Standing.stands-quotient F f p c q P C Q u k some eq is)
          each_of (suc i) P Q u eq = subst (λ k. StandsFor F f (get_or r k []) Q) (omega (arith, push-length formed q)) (g.each i P Q u eq)

  -- the quotients by the content stand for the primitive part
  pub quotients-stand : (m r : Member) (M : List (Polynomial F)) (c : InZ) → AreAt m (coefficient_at F M) → IsStandingContent c M → quotients_onto [] m c ≡ Ok r
      → AreAt r (coefficient_at F (PrimitiveParts.primitive_part F M))
  quotients-stand m r M c h k e i =
      subst (λ j. StandsFor F f (get_or r j []) (coefficient_at F (PrimitiveParts.primitive_part F M) i)) (omega arith)
      ((quotients-are m [] r c (content_of F M) k.stands (Standing.stands-some F f c (content_of F M) k.stands k.nonzero) e).each i
      (coefficient_at F M i) (coefficient_at F (PrimitiveParts.primitive_part F M) i) (h i) (PrimitiveParts.coefficient-primitive_part F M i))

  pub quotients-length : (m r : Member) (M : List (Polynomial F)) (c : InZ) → IsStandingContent c M → quotients_onto [] m c ≡ Ok r → length r ≡ length m
  quotients-length m r M c k e =
      let l = (quotients-are m [] r c (content_of F M) k.stands (Standing.stands-some F f c (content_of F M) k.stands k.nonzero) e).long in omega (arith, l)

  -- a list that stands for the primitive part of M
  pub record IsStandingPart (r : Member) (M : List (Polynomial F)) : Type 0 where
    pub stands : StandsForMember r (PrimitiveParts.primitive_part F M)
    pub content_nonzero : ¬ (content_of F M ≡ (polynomials F).zero)
    pub scaled : bivariate F M ≡ (polynomials (fractions F)).mul (constant (fractions F) (of_polynomial F (content_of F M))) (bivariate F (PrimitiveParts.primitive_part F M))
    pub is_primitive : content_of F (PrimitiveParts.primitive_part F M) ≡ (polynomials F).one

  pub primitive_part-stands : (m r : Member) (M : List (Polynomial F)) → StandsForMember m M → 0 < length m → primitive_part m ≡ Ok r → IsStandingPart r M
  unfolding primitive_part
  primitive_part-stands m r M h some e =
      let first = and_then-ok (content m) (λ c. and_then (quotients_onto [] m c) sized) r e in
      let second = and_then-ok (quotients_onto [] m first.value) sized r first.next in
      let c = content-stands m M first.value h some first.is in
      let same = sized-is second.value r second.next in
      record {
        stands = subst (λ r. StandsForMember r (PrimitiveParts.primitive_part F M)) same (record {
          are = λ i. subst (λ z. StandsFor F f z (coefficient_at F (PrimitiveParts.primitive_part F M) i)) (sym (trimmed-get second.value i)) (quotients-stand m second.value M first.value h.are c second.is i);
          leads = trimmed-leads second.value;
        });
        content_nonzero = c.nonzero;
        scaled = PrimitiveParts.bivariate-scaled F (content_of F M) M (PrimitiveParts.primitive_part F M) (PrimitiveParts.coefficient-primitive_part F M);
        is_primitive = PrimitiveParts.content-primitive_part F M c.nonzero;
      }
