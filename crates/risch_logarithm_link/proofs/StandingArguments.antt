-- The argument of a logarithm as the rule forms it from a member: the member divided by its content, modulo D and monic there.
--     argument-stands      it is congruent modulo D to the primitive part of the member times the inverse of its leading coefficient
use Rattle.std.proofs.Common.{◌≡◌, refl, sym, ap, ap₂, ◌∙◌, ℕ, zero, suc, ◌+◌, ◌-◌, ◌≤◌, ◌<◌, List, [], ◌∷◌, ◌++◌, take, length, get_or, Option, None, Some, Ok, arith, subst}
use Rattle.std.proofs.lemmas.List.{length-append, length-take, get_or-take, get_or_append_left, get_or_past}
use native.Mathlib.Decide.{dec_le}
use Rattle.risch_ring.specs.CommRing.{CommRing, Field, RingMap, sub}
use Rattle.risch_ring.proofs.Expression.{reading}
use Rattle.risch_ring.proofs.Laws as Laws
use Rattle.risch_ring.proofs.Solver.{ring}
use Rattle.risch_univariate.specs.Polynomial.{Polynomial}
use Rattle.risch_univariate.specs.PolynomialRing.{polynomials}
use Rattle.risch_univariate.specs.Division.{Divides, IsCoprime}
use Rattle.risch_univariate.proofs.Degree as Degree
use Rattle.risch_univariate.proofs.Divides as Divides
use Rattle.risch_residue_theory.specs.BivariatePolynomial.{coefficient_at, content as content_of}
use Rattle.risch_residue_theory.proofs.PrimitiveParts as PrimitiveParts
use Rattle.risch_mean.specs.ElementField.{elements}
use Rattle.risch_field.specs.Checked.{Checked, and_then}
use Rattle.risch_field.proofs.CheckedSteps.{and_then-ok}
use Rattle.risch_polynomial.specs.Modular as modular
use Rattle.risch_level.specs.Levels.{element}
use Rattle.risch_element_theory.proofs.ElementPolynomials.{element_interprets}
use Rattle.risch_element_theory.proofs.GcdRule as GcdRule
use Rattle.risch_extension.proofs.PolynomialMaps as Maps
use Rattle.risch_sub.specs.RemainderSequence.{InZ, Member, leading, content, quotients_onto}
use Rattle.risch_logarithm_rules.specs.Logarithms.{remainders_onto, multiples_onto, monic_by, argument_of}
use Rattle.risch_logarithm_link.proofs.PseudoRemainders.{leading-get, push-length, push-last}
use Rattle.risch_logarithm_link.proofs.StandingPolynomials as Standing
use Rattle.risch_logarithm_link.proofs.StandingPolynomials.{StandsFor}
use Rattle.risch_logarithm_link.proofs.StandingMembers.{AreAt, StandsForMember, content-stands, IsStandingContent, quotients-stand, quotients-length}
use Rattle.risch_logarithm_link.proofs.StandingRemainders.{IsCongruent, IsStandingInverse, stands-inverse, AreRemainders, remainders-stand, AreMultiples, multiples-stand}

module _ {A : Type 0} (F : Field A) (f : RingMap F.ring elements.ring) where
  abbrev R : CommRing (Polynomial F)
  R = polynomials F

  pub stands-one : StandsFor F f (element.one ∷ []) (polynomials F).one
  stands-one = record {
    kept = GcdRule.one-kept elements element_interprets;
    image = Maps.map_polynomial-one F elements f ∙ sym (GcdRule.polynomial_of-one elements element_interprets);
  }

  -- ---- congruences modulo D
  congruent_trans : (D x y z : Polynomial F) → Divides F D (sub R x y) → Divides F D (sub R y z) → Divides F D (sub R x z)
  congruent_trans D x y z h k = subst (Divides F D) (identity x y z) (Divides.divides-add F D (sub R x y) (sub R y z) h k)
    where
      identity : (x y z : Polynomial F) → (polynomials F).add (sub (polynomials F) x y) (sub (polynomials F) y z) ≡ sub (polynomials F) x z
      identity x y z = ring R (x ∷ y ∷ z ∷ []) (search reading depth 20 fits 9000) refl

  pub congruent_sym : (D x y : Polynomial F) → Divides F D (sub (polynomials F) x y) → Divides F D (sub (polynomials F) y x)
  congruent_sym D x y h = subst (Divides F D) (identity x y) (Divides.divides-neg F D (sub R x y) h)
    where
      identity : (x y : Polynomial F) → (polynomials F).neg (sub (polynomials F) x y) ≡ sub (polynomials F) y x
      identity x y = ring R (x ∷ y ∷ []) (search reading depth 20 fits 9000) refl

  congruent_mul : (D i x y : Polynomial F) → Divides F D (sub R x y) → Divides F D (sub R (R.mul i x) (R.mul i y))
  congruent_mul D i x y h = subst (Divides F D) (identity i x y) (Divides.divides-mul_left F D i (sub R x y) h)
    where
      identity : (i x y : Polynomial F) → (polynomials F).mul i (sub (polynomials F) x y) ≡ sub (polynomials F) ((polynomials F).mul i x) ((polynomials F).mul i y)
      identity i x y = ring R (i ∷ x ∷ y ∷ []) (search reading depth 20 fits 9000) refl

  -- what is congruent to an element coprime to D is coprime to D
  coprime_of_congruent : (D x y : Polynomial F) → Divides F D (sub R x y) → IsCoprime F x D → IsCoprime F y D
  coprime_of_congruent D x y h c = record {
    left = c.left;
    right = R.add (R.mul c.left h.cofactor) c.right;
    equation =
        expanded c.left c.right y h.cofactor D
        ∙ ap (λ z. R.add (R.mul c.left (R.add y z)) (R.mul c.right D)) (sym h.equation)
        ∙ ap (λ z. R.add (R.mul c.left z) (R.mul c.right D)) (back x y) ∙ c.equation;
  }
    where
      expanded : (l r y q D : Polynomial F) → (polynomials F).add ((polynomials F).mul l y) ((polynomials F).mul ((polynomials F).add ((polynomials F).mul l q) r) D)
          ≡ (polynomials F).add ((polynomials F).mul l ((polynomials F).add y ((polynomials F).mul q D))) ((polynomials F).mul r D)
      expanded l r y q D = ring R (l ∷ r ∷ y ∷ q ∷ D ∷ []) (search reading depth 20 fits 9000) refl

      back : (x y : Polynomial F) → (polynomials F).add y (sub (polynomials F) x y) ≡ x
      back x y = ring R (x ∷ y ∷ []) (search reading depth 20 fits 9000) refl

  -- ---- the argument
  -- S is modulo D the inverse of q_i times the list with the coefficients q_0, q_1, .., and its degree is i
  pub record IsMonicTimes (i : ℕ) (D : Polynomial F) (q : ℕ → Polynomial F) (S : Member) : Type 0 where
    pub inverse : Polynomial F
    pub inverse-equation : Divides F D (sub (polynomials F) ((polynomials F).mul inverse (q i)) (polynomials F).one)
    pub each : (j : ℕ) → IsCongruent F f (get_or S j []) ((polynomials F).mul inverse (q j)) D
    pub long : length S ≡ suc i

  -- the list that the rule makes monic, with r_j congruent to q_j
  monic-stands : (i : ℕ) (r : Member) (d : InZ) (D : Polynomial F) (x : Option InZ) (S : Member) (q : ℕ → Polynomial F) → length r ≡ suc i → ((j : ℕ) → IsCongruent F f (get_or r j []) (q j) D)
      → StandsFor F f d D → 2 ≤ length d → IsCoprime F (q i) D → modular.inverse element (leading r) d ≡ Ok x → monic_by r d x ≡ Ok S → IsMonicTimes i D q S
  monic-stands i r d D x S q l h k large c is e =
      of_inverse
      (stands-inverse F f (leading r) d x (h i).value D (subst (λ z. StandsFor F f z (h i).value) (sym (leading-get r i l)) (h i).stands) k large
      (coprime_of_congruent D (q i) (h i).value (h i).congruent c) is)
    where
      of_inverse : IsStandingInverse F f x (h i).value D → IsMonicTimes i D q S
      of_inverse v =
          let formed : monic_by r d (Some v.list) ≡ Ok S = subst (λ x. monic_by r d x ≡ Ok S) v.is e in
          let s = and_then-ok (multiples_onto [] (take (length r - 1) r) v.list d) (λ front. Ok (front ++ (element.one ∷ []) ∷ [])) S formed in
          let same : s.value ++ (element.one ∷ []) ∷ [] ≡ S = let next : Ok (s.value ++ (element.one ∷ []) ∷ []) ≡ Ok S = s.next in cc in
          subst (IsMonicTimes i D q) same
          (of_front s.value (multiples-stand F f (take (length r - 1) r) s.value v.list d v.inverse D v.stands k (omega (arith, large)) s.is))
        where
          equation : Divides F D (sub (polynomials F) ((polynomials F).mul v.inverse (q i)) (polynomials F).one)
          equation = congruent_trans D (R.mul v.inverse (q i)) (R.mul v.inverse (h i).value) R.one (congruent_mul D v.inverse (q i) (h i).value (h i).congruent) v.equation

          of_front : (front : Member) → AreMultiples F f v.inverse D (take (length r - 1) r) front → IsMonicTimes i D q (front ++ (element.one ∷ []) ∷ [])
          of_front front g = record {
            inverse = v.inverse;
            inverse-equation = equation;
            each = λ j. by_place j (dec_le (suc j) i) (dec_le j i);
            long = push-length front (element.one ∷ []) ∙ ap suc short;
          }
            where
              short : length front ≡ i
              short = let a = g.long in let b = length-take (length r - 1) r in omega (arith, a, b, l)

              by_place : (j : ℕ) → Dec (suc j ≤ i) → Dec (j ≤ i) → IsCongruent F f (get_or (front ++ (element.one ∷ []) ∷ []) j []) ((polynomials F).mul v.inverse (q j)) D
              by_place j (yes n) o =
                  let y = g.each j (h j).value (subst (λ z. StandsFor F f z (h j).value) (sym (get_or-take (length r - 1) r j [] (omega (arith, n, l)))) (h j).stands) in
                  subst (λ z. IsCongruent F f z (R.mul v.inverse (q j)) D) (sym (get_or_append_left front ((element.one ∷ []) ∷ []) [] j (omega (arith, n, short)))) (record {
                    value = y.value;
                    stands = y.stands;
                    congruent = congruent_trans D (R.mul v.inverse (q j)) (R.mul v.inverse (h j).value) y.value (congruent_mul D v.inverse (q j) (h j).value (h j).congruent) y.congruent;
                    smaller = y.smaller;
                  })
              by_place j (no n) (yes o) =
                  let here : j ≡ i = omega (arith, n, o) in
                  subst (λ j. IsCongruent F f (get_or (front ++ (element.one ∷ []) ∷ []) j []) (R.mul v.inverse (q j)) D) (sym here)
                  (subst (λ z. IsCongruent F f z (R.mul v.inverse (q i)) D) (sym (ap (λ j. get_or (front ++ (element.one ∷ []) ∷ []) j []) (sym short) ∙ push-last front (element.one ∷ [])))
                  (record { value = R.one; stands = stands-one; congruent = equation; smaller = let o = Degree.size-one F in let s = Standing.stands-size F f d D k in omega (arith, o, s, large) }))
              by_place j (no n) (no o) =
                  subst (λ z. IsCongruent F f z (R.mul v.inverse (q j)) D) (sym (get_or_past (front ++ (element.one ∷ []) ∷ []) j [] (let a = push-length front (element.one ∷ []) in omega (arith, a, short, o)))) (record {
                    value = R.zero;
                    stands = Standing.stands-zero F f;
                    congruent = subst (λ z. Divides F D (sub R (R.mul v.inverse (q j)) z)) beyond (congruent_mul D v.inverse (q j) (h j).value (h j).congruent);
                    smaller = let o = Degree.size-zero F in let s = Standing.stands-size F f d D k in omega (arith, o, s, large);
                  })
                where
                  beyond : (polynomials F).mul v.inverse (h j).value ≡ (polynomials F).zero
                  beyond = ap (R.mul v.inverse) (Standing.stands-zero_is F f (h j).value (subst (λ z. StandsFor F f z (h j).value) (get_or_past r j [] (omega (arith, l, o))) (h j).stands)) ∙ Laws.mul-zero R v.inverse

  -- the rule of the argument, at a member M of degree i, where the leading coefficient of its primitive part is invertible modulo D
  pub argument-stands : (i : ℕ) (m : Member) (M : List (Polynomial F)) (d : InZ) (D : Polynomial F) (S : Member) → StandsForMember F f m M → length m ≡ suc i → StandsFor F f d D → 2 ≤ length d
      → (¬ (content_of F M ≡ (polynomials F).zero) → IsCoprime F (coefficient_at F (PrimitiveParts.primitive_part F M) i) D)
      → argument_of m d ≡ Ok S → IsMonicTimes i D (coefficient_at F (PrimitiveParts.primitive_part F M)) S
  unfolding argument_of
  argument-stands i m M d D S h l k large c e =
      let first = and_then-ok (content m) (λ c. and_then (quotients_onto [] m c) (λ p. and_then (remainders_onto [] p d) (λ r. and_then (modular.inverse element (leading r) d) (monic_by r d)))) S e in
      let second = and_then-ok (quotients_onto [] m first.value) (λ p. and_then (remainders_onto [] p d) (λ r. and_then (modular.inverse element (leading r) d) (monic_by r d))) S first.next in
      let third = and_then-ok (remainders_onto [] second.value d) (λ r. and_then (modular.inverse element (leading r) d) (monic_by r d)) S second.next in
      let fourth = and_then-ok (modular.inverse element (leading third.value) d) (monic_by third.value d) S third.next in
      let is_content = content-stands F f m M first.value h (omega (arith, l)) first.is in
      let at = quotients-stand F f m second.value M first.value h.are is_content second.is in
      let long = quotients-length F f m second.value M first.value is_content second.is in
      let rest = remainders-stand F f second.value third.value d D k (omega (arith, large)) third.is in
      monic-stands i third.value d D fourth.value S (coefficient_at F (PrimitiveParts.primitive_part F M)) (rest.long ∙ long ∙ l)
      (λ j. rest.each j (coefficient_at F (PrimitiveParts.primitive_part F M) j) (at j)) k large (c is_content.nonzero) fourth.is fourth.next
