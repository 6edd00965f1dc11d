-- Remainders and inverses modulo a polynomial in z, as lists: what they stand for in K[z].
--     stands-remainder      the remainder is congruent to the polynomial
--     stands-inverse      coprime polynomials have an inverse
--     remainders-stand, multiples-stand      the loops over the coefficients of a member
use Rattle.std.proofs.Common.{◌≡◌, refl, sym, ap, ap₂, ◌∙◌, ℕ, zero, suc, ◌+◌, ◌≤◌, ◌<◌, List, [], ◌∷◌, ◌++◌, length, get_or, Option, None, Some, Ok, arith, subst}
use Rattle.std.proofs.lemmas.List.{get_or_append_left, get_or_past}
use Rattle.risch_ring.specs.CommRing.{CommRing, Field, RingMap, sub}
use Rattle.risch_ring.proofs.Expression.{reading}
use Rattle.risch_ring.proofs.Laws as Laws
use Rattle.risch_ring.proofs.Solver.{ring}
use Rattle.risch_univariate.specs.Polynomial.{Polynomial}
use Rattle.risch_univariate.specs.PolynomialRing.{polynomials}
use Rattle.risch_univariate.specs.Degree.{size}
use Rattle.risch_univariate.specs.Division.{IsDivision, Divides, IsCoprime}
use Rattle.risch_univariate.proofs.Degree as Degree
use Rattle.risch_univariate.proofs.Divides as Divides
use Rattle.risch_univariate.proofs.Division as Division
use Rattle.risch_univariate.proofs.Gcd as Gcd
use Rattle.risch_extension.specs.PolynomialMap.{map_polynomial}
use Rattle.risch_extension.proofs.Extensions.{map-coprime}
use Rattle.risch_extension.proofs.PolynomialMaps as Maps
use Rattle.risch_mean.specs.ElementField.{elements}
use Rattle.risch_field.specs.Checked.{Checked, and_then}
use Rattle.risch_field.proofs.CheckedSteps.{and_then-ok}
use Rattle.risch_polynomial.specs.Poly as poly
use Rattle.risch_polynomial.specs.Modular as modular
use Rattle.risch_level.specs.Levels.{element}
use Rattle.risch_element_theory.specs.ModularMeaning.{KeepsInverse}
use Rattle.risch_element_theory.specs.WholeTower.{IsElement, meaning, IsPolynomial, polynomial}
use Rattle.risch_element_theory.proofs.ElementPolynomials as Polynomials
use Rattle.risch_trace.specs.Traces.{remainder}
use Rattle.risch_sub.specs.RemainderSequence.{InZ, Member}
use Rattle.risch_logarithm_rules.specs.Logarithms.{remainders_onto, multiples_onto}
use Rattle.risch_logarithm_link.proofs.PseudoRemainders.{push-length, push-last}
use Rattle.risch_logarithm_link.proofs.StandingPolynomials as Standing
use Rattle.risch_logarithm_link.proofs.StandingPolynomials.{StandsFor}

module _ {A : Type 0} (F : Field A) (f : RingMap F.ring elements.ring) where
  abbrev R : CommRing (Polynomial F)
  R = polynomials F

  abbrev S : CommRing (Polynomial elements)
  S = polynomials elements

  abbrev m : Polynomial F → Polynomial elements
  m = map_polynomial F elements f

  -- r stands for a polynomial congruent to P modulo D
  pub record IsCongruent (r : InZ) (P D : Polynomial F) : Type 0 where
    pub value : Polynomial F
    pub stands : StandsFor F f r value
    pub congruent : Divides F D (sub (polynomials F) P value)
    pub smaller : size F value < size F D

  zero-congruent : (P D : Polynomial F) → 0 < size F D → P ≡ (polynomials F).zero → IsCongruent [] P D
  zero-congruent P D some e = record {
    value = R.zero;
    stands = Standing.stands-zero F f;
    congruent = subst (λ z. Divides F D (sub R z R.zero)) (sym e) (subst (Divides F D) (sym (R.add-neg R.zero)) (Divides.divides-zero F D));
    smaller = let z = Degree.size-zero F in omega (arith, z, some);
  }

  modulus-some : (d : InZ) (D : Polynomial F) → StandsFor F f d D → 0 < length d → 0 < size F D
  modulus-some d D k some = let s = Standing.stands-size F f d D k in omega (arith, s, some)

  -- ---- the remainder
  pub stands-remainder : (p d r : InZ) (P D : Polynomial F) → StandsFor F f p P → StandsFor F f d D → 0 < length d → remainder p d ≡ Ok r → IsCongruent r P D
  unfolding remainder
  stands-remainder p d r P D h k some e =
      let s = and_then-ok (poly.division element p d) (λ x. Ok x.1) r e in
      let same : s.value.1 ≡ r = let next : Ok s.value.1 ≡ Ok r = s.next in cc in
      subst (λ r. IsCongruent r P D) same (of_division s.value.0 s.value.1 s.is (Division.divide F D (Standing.stands-nonzero F f d D k some) P))
    where
      of_division : (a r : InZ) → poly.division element p d ≡ Ok (a, r) → Division.Division F P D → IsCongruent r P D
      of_division a r is s = record {
        value = s.remainder;
        stands = record {
          kept = Polynomials.remainder-is_polynomial p d a r h.kept k.kept some is;
          image = (Division.division_unique elements (polynomial p) (polynomial d) (m s.quotient) (m s.remainder) (polynomial a) (polynomial r) (record {
            equation =
                sym h.image ∙ ap m s.is_division.equation ∙ Maps.map_polynomial-add F elements f (R.mul s.quotient D) s.remainder
                ∙ ap (λ z. S.add z (m s.remainder)) (Maps.map_polynomial-mul F elements f s.quotient D ∙ ap (S.mul (m s.quotient)) k.image);
            smaller =
                let u = Maps.size-map_polynomial F elements f s.remainder in
                let v = Maps.size-map_polynomial F elements f D in
                let w = ap (size elements) k.image in
                let l = s.is_division.smaller in
                omega (arith, u, v, w, l);
          }) (Polynomials.division-stands p d a r h.kept k.kept some is)).1;
        };
        congruent = subst (λ z. Divides F D (sub R z s.remainder)) (sym s.is_division.equation) (subst (Divides F D) (sym (cancelled (R.mul s.quotient D) s.remainder)) (Divides.divides-mul F s.quotient D));
        smaller = s.is_division.smaller;
      }
        where
          cancelled : (x y : Polynomial F) → sub (polynomials F) ((polynomials F).add x y) y ≡ x
          cancelled x y = ring R (x ∷ y ∷ []) (search reading depth 20 fits 9000) refl

  -- ---- the inverse
  -- i stands for the inverse of B modulo D
  pub record IsStandingInverse (x : Option InZ) (B D : Polynomial F) : Type 0 where
    pub list : InZ
    pub is : x ≡ Some list
    pub inverse : Polynomial F
    pub stands : StandsFor F f list inverse
    pub equation : Divides F D (sub (polynomials F) ((polynomials F).mul inverse B) (polynomials F).one)

  pub stands-inverse : (b d : InZ) (x : Option InZ) (B D : Polynomial F) → StandsFor F f b B → StandsFor F f d D → 2 ≤ length d → IsCoprime F B D → modular.inverse element b d ≡ Ok x → IsStandingInverse x B D
  stands-inverse b d None B D h k large c e =
      absurd (Polynomials.inverse-stands b d None h.kept k.kept large e
      (subst (λ z. IsCoprime elements z (polynomial b)) k.image (subst (IsCoprime elements (m D)) h.image (map-coprime F elements f D B (Gcd.coprime_sym F B D c)))))
  stands-inverse b d (Some i) B D h k large c e = of_inverse (Polynomials.inverse-stands b d (Some i) h.kept k.kept large e)
    where
      y : Gcd.Diophantine F B D (polynomials F).one
      y = Gcd.diophantine F B D (polynomials F).one c (Standing.stands-nonzero F f d D k (omega (arith, large)))

      of_inverse : KeepsInverse element elements IsElement meaning b d i → IsStandingInverse (Some i) B D
      of_inverse v = record {
        list = i;
        is = refl;
        inverse = y.left;
        stands = record {
          kept = v.kept;
          image = sym (Gcd.diophantine_unique elements (polynomial b) (polynomial d) S.one coprime over left);
        };
        equation = record { cofactor = R.neg y.right; equation = ap (sub R (R.mul y.left B)) (sym y.equation) ∙ rest (R.mul y.left B) y.right D };
      }
        where
          rest : (x r d : Polynomial F) → sub (polynomials F) x ((polynomials F).add x ((polynomials F).mul r d)) ≡ (polynomials F).mul ((polynomials F).neg r) d
          rest x r d = ring R (x ∷ r ∷ d ∷ []) (search reading depth 20 fits 9000) refl

          moved : (x c d : Polynomial elements) → sub (polynomials elements) x (polynomials elements).one ≡ (polynomials elements).mul c d
              → (polynomials elements).add x ((polynomials elements).mul ((polynomials elements).neg c) d) ≡ (polynomials elements).one
          moved x c d e = ap (S.add x) (Laws.neg-mul S c d ∙ ap S.neg (sym e)) ∙ back x
            where
              back : (x : Polynomial elements) → (polynomials elements).add x ((polynomials elements).neg (sub (polynomials elements) x (polynomials elements).one)) ≡ (polynomials elements).one
              back x = ring S (x ∷ []) (search reading depth 20 fits 9000) refl

          coprime : IsCoprime elements (polynomial b) (polynomial d)
          coprime = subst (λ z. IsCoprime elements z (polynomial d)) h.image (subst (IsCoprime elements (m B)) k.image (map-coprime F elements f B D c))

          over : Gcd.Diophantine elements (polynomial b) (polynomial d) (polynomials elements).one
          over = record {
            left = polynomial i;
            right = S.neg v.divides.cofactor;
            equation = moved (S.mul (polynomial i) (polynomial b)) v.divides.cofactor (polynomial d) v.divides.equation;
            smaller = v.smaller;
          }

          left : Gcd.Diophantine elements (polynomial b) (polynomial d) (polynomials elements).one
          left = record {
            left = m y.left;
            right = m y.right;
            equation =
                ap₂ S.add (ap (S.mul (m y.left)) (sym h.image) ∙ sym (Maps.map_polynomial-mul F elements f y.left B)) (ap (S.mul (m y.right)) (sym k.image) ∙ sym (Maps.map_polynomial-mul F elements f y.right D))
                ∙ sym (Maps.map_polynomial-add F elements f (R.mul y.left B) (R.mul y.right D)) ∙ ap m y.equation ∙ Maps.map_polynomial-one F elements f;
            smaller =
                let u = Maps.size-map_polynomial F elements f y.left in
                let v = Maps.size-map_polynomial F elements f D in
                let w = ap (size elements) k.image in
                let l = y.smaller in
                omega (arith, u, v, w, l);
          }

  -- ---- the coefficients of a member
  -- r is `formed` with what is congruent to X·P for the coefficients P of m after it
  record AreCongruent (formed : Member) (X D : Polynomial F) (m r : Member) : Type 0 where
    long : length r ≡ length formed + length m
    first : (i : ℕ) → i < length formed → get_or r i [] ≡ get_or formed i []
    each : (i : ℕ) (P : Polynomial F) → StandsFor F f (get_or m i []) P → IsCongruent (get_or r (length formed + i) []) ((polynomials F).mul X P) D

  none-congruent : (formed : Member) (X D : Polynomial F) → 0 < size F D → AreCongruent formed X D [] formed
  none-congruent formed X D some = record {
    long = omega arith;
    first = λ i l. refl;
    each = λ i P u. subst (λ z. IsCongruent z (R.mul X P) D) (sym (get_or_past formed (length formed + i) [] (omega arith)))
        (zero-congruent (R.mul X P) D some (ap (R.mul X) (Standing.stands-zero_is F f P u) ∙ Laws.mul-zero R X));
  }

  one_more-congruent : (formed : Member) (X D : Polynomial F) (p q : InZ) (m r : Member) → ((P : Polynomial F) → StandsFor F f p P → IsCongruent q ((polynomials F).mul X P) D)
      → AreCongruent (formed ++ q ∷ []) X D m r → AreCongruent formed X D (p ∷ m) r
  one_more-congruent formed X D p q m r here g = record {
    long = let l = g.long in omega (arith, l, push-length formed q);
    first = λ i l. g.first i (omega (arith, l, push-length formed q)) ∙ get_or_append_left formed (q ∷ []) [] i l;
    each = each_of;
  }
    where
      each_of : (i : ℕ) (P : Polynomial F) → StandsFor F f (get_or (p ∷ m) i []) P → IsCongruent (get_or r (length formed + i) []) ((polynomials F).mul X P) D
      each_of zero P u =
          let same : get_or r (length formed + 0) [] ≡ q = ap (λ i. get_or r i []) (omega arith) ∙ g.first (length formed) (omega (arith, push-length formed q)) ∙ push-last formed q in
          subst (λ z. IsCongruent z (R.mul X P) D) (sym same) (here P u)
      each_of (suc i) P u = subst (λ k. IsCongruent (get_or r k []) (R.mul X P) D) (omega (arith, push-length formed q)) (g.each i P u)

  remainders-congruent : (m formed r : Member) (d : InZ) (D : Polynomial F) → StandsFor F f d D → 0 < length d → remainders_onto formed m d ≡ Ok r → AreCongruent formed (polynomials F).one D m r
  remainders-congruent [] formed r d D k some e = let same : formed ≡ r = cc in subst (AreCongruent formed R.one D []) same (none-congruent formed R.one D (modulus-some d D k some))
  remainders-congruent (p ∷ m) formed r d D k some e =
      let s = and_then-ok (remainder p d) (λ q. remainders_onto (formed ++ q ∷ []) m d) r e in
      one_more-congruent formed R.one D p s.value m r (λ P u. subst (λ z. IsCongruent s.value z D) (sym (Laws.one-mul R P)) (stands-remainder p d s.value P D u k some s.is))
      (remainders-congruent m (formed ++ s.value ∷ []) r d D k some s.next)

  multiples-congruent : (m formed r : Member) (i d : InZ) (I D : Polynomial F) → StandsFor F f i I → StandsFor F f d D → 0 < length d → multiples_onto formed m i d ≡ Ok r → AreCongruent formed I D m r
  multiples-congruent [] formed r i d I D h k some e = let same : formed ≡ r = cc in subst (AreCongruent formed I D []) same (none-congruent formed I D (modulus-some d D k some))
  multiples-congruent (p ∷ m) formed r i d I D h k some e =
      let s = and_then-ok (poly.product element p i) (λ q. and_then (remainder q d) (λ x. multiples_onto (formed ++ x ∷ []) m i d)) r e in
      let t = and_then-ok (remainder s.value d) (λ x. multiples_onto (formed ++ x ∷ []) m i d) r s.next in
      one_more-congruent formed I D p t.value m r
      (λ P u. subst (λ z. IsCongruent t.value z D) (R.mul_comm P I) (stands-remainder s.value d t.value (R.mul P I) D (Standing.stands-product F f p i s.value P I u h s.is) k some t.is))
      (multiples-congruent m (formed ++ t.value ∷ []) r i d I D h k some t.next)

  -- each coefficient is congruent to that of the list before
  pub record AreRemainders (D : Polynomial F) (m r : Member) : Type 0 where
    pub long : length r ≡ length m
    pub each : (i : ℕ) (P : Polynomial F) → StandsFor F f (get_or m i []) P → IsCongruent (get_or r i []) P D

  pub remainders-stand : (m r : Member) (d : InZ) (D : Polynomial F) → StandsFor F f d D → 0 < length d → remainders_onto [] m d ≡ Ok r → AreRemainders D m r
  remainders-stand m r d D k some e =
      let g = remainders-congruent m [] r d D k some e in
      record {
        long = let l = g.long in omega (arith, l);
        each = λ i P u. subst (λ z. IsCongruent (get_or r i []) z D) (Laws.one-mul R P) (subst (λ j. IsCongruent (get_or r j []) (R.mul R.one P) D) (omega arith) (g.each i P u));
      }

  -- each coefficient is congruent to I times that of the list before
  pub record AreMultiples (I D : Polynomial F) (m r : Member) : Type 0 where
    pub long : length r ≡ length m
    pub each : (i : ℕ) (P : Polynomial F) → StandsFor F f (get_or m i []) P → IsCongruent (get_or r i []) ((polynomials F).mul I P) D

  pub multiples-stand : (m r : Member) (i d : InZ) (I D : Polynomial F) → StandsFor F f i I → StandsFor F f d D → 0 < length d → multiples_onto [] m i d ≡ Ok r → AreMultiples I D m r
  multiples-stand m r i d I D h k some e =
      let g = multiples-congruent m [] r i d I D h k some e in
      record {
        long = let l = g.long in omega (arith, l);
        each = λ j P u. subst (λ t. IsCongruent (get_or r t []) (R.mul I P) D) (omega arith) (g.each j P u);
      }
