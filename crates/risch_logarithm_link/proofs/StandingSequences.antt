-- The rule of the primitive remainder sequence on lists: the members that it forms after a and b stand for those of a remainder sequence over K(z), each with the content 1.
use Rattle.std.specs.Prelude.{nat_le, if◌then◌else◌, map}
use Rattle.std.proofs.Common.{◌≡◌, refl, sym, ◌∙◌, ℕ, zero, suc, ◌+◌, ◌-◌, ◌≤◌, ◌<◌, Bool, true, false, List, [], ◌∷◌, ◌++◌, length, Ok, arith, inl, inr, append-nil, append_assoc}
use Rattle.std.proofs.lemmas.Bool.{leb-true, leb-false}
use Rattle.risch_ring.specs.CommRing.{Field, RingMap}
use Rattle.risch_ring.specs.Lists.{Each}
use Rattle.risch_univariate.specs.Polynomial.{Polynomial}
use Rattle.risch_univariate.specs.PolynomialRing.{polynomials}
use Rattle.risch_univariate.specs.Degree.{size}
use Rattle.risch_univariate.proofs.Degree as Degree
use Rattle.risch_fraction_field.specs.Fraction.{Fraction, of_polynomial}
use Rattle.risch_fraction_field.specs.FractionField.{fractions}
use Rattle.risch_fraction_field.specs.Representation.{of_polynomial-nonzero}
use Rattle.risch_residue_theory.specs.BivariatePolynomial.{bivariate, content as content_of}
use Rattle.risch_residue_theory.specs.RemainderSequence.{IsNext, IsRemainderSequence}
use Rattle.risch_residue_theory.proofs.PrimitiveParts as PrimitiveParts
use Rattle.risch_residue_theory.proofs.PseudoRemainder as theory
use Rattle.risch_mean.specs.ElementField.{elements}
use Rattle.risch_field.specs.Checked.{and_then}
use Rattle.risch_field.proofs.CheckedSteps.{and_then-ok}
use Rattle.risch_sub.specs.RemainderSequence.{Member, pseudo_remainder, primitive_part, next_member, remainders_from, remainders}
use Rattle.risch_logarithm_link.proofs.PseudoRemainders.{IsListOf, size-coefficients, size-coefficients-le, pseudo_remainder-coefficients}
use Rattle.risch_logarithm_link.proofs.StandingPolynomials.{stands_in_fractions}
use Rattle.risch_logarithm_link.proofs.StandingMembers.{StandsForMember, stands-bivariate, HasCoefficients, list_of_coefficients, primitive_part-stands}

module _ {A : Type 0} (F : Field A) (f : RingMap F.ring elements.ring) where
  abbrev L : Field (Fraction F)
  L = fractions F

  -- each list stands for the polynomial beside it
  abbrev pub StandForMembers : List Member → List (List (Polynomial F)) → Type 0
  StandForMembers [] [] = Unit
  StandForMembers [] (M ∷ Ms) = ⊥
  StandForMembers (m ∷ ms) [] = ⊥
  StandForMembers (m ∷ ms) (M ∷ Ms) = StandsForMember F f m M × StandForMembers ms Ms

  -- the result is the list of members with those of a primitive remainder sequence of P and M after them, down to the degree `least`
  pub record Follow (least : ℕ) (P M : Polynomial (fractions F)) (members result : List Member) : Type 0 where
    pub lists : List Member
    pub polynomials_of : List (List (Polynomial F))
    pub all : result ≡ members ++ lists
    pub stand : StandForMembers lists polynomials_of
    pub is_sequence : IsRemainderSequence (fractions F) (suc least) P M (map (bivariate F) polynomials_of)
    pub is_primitive : Each (λ m. content_of F m ≡ (polynomials F).one) polynomials_of

  abbrev IsList : Polynomial (fractions F) → Member → Type 0
  IsList P m = IsListOf (stands_in_fractions F f) P m

  list-size : (P : Polynomial (fractions F)) (m : Member) → IsList P m → size (fractions F) P ≡ length m
  list-size P m h = size-coefficients (stands_in_fractions F f) m P h.leads_list h.are

  none_follow : (least : ℕ) (P M : Polynomial (fractions F)) (members result : List Member) → members ≡ result → IsRemainderSequence (fractions F) (suc least) P M [] → Follow least P M members result
  none_follow least P M members result e h = record { lists = []; polynomials_of = []; all = sym e ∙ sym (append-nil members); stand = tt; is_sequence = h; is_primitive = tt }

  -- the next member of P and M, from a list for their pseudo-remainder
  record IsNextMember (P M : Polynomial (fractions F)) (m : Member) : Type 0 where
    member : List (Polynomial F)
    stands : StandsForMember F f m member
    is_next : IsNext (fractions F) P M (bivariate F member)
    is_primitive : content_of F member ≡ (polynomials F).one

  next-is : (n k : ℕ) (P M : Polynomial (fractions F)) (r m : Member) → size (fractions F) M ≡ suc k → size (fractions F) P ≡ n + k → IsList (theory.pseudo_remainder (fractions F) n P M) r
      → 0 < length r → primitive_part r ≡ Ok m → IsNextMember P M m
  next-is n k P M r m q p h some e = of_list (list_of_coefficients F f r (theory.pseudo_remainder (fractions F) n P M) h.are)
    where
      of_list : HasCoefficients F f r (theory.pseudo_remainder (fractions F) n P M) → IsNextMember P M m
      of_list c =
          let part = primitive_part-stands F f r m c.coefficients (record { are = c.stand; leads = h.leads_list }) some e in
          record {
            member = PrimitiveParts.primitive_part F c.coefficients;
            stands = part.stands;
            is_next = theory.next_of_pseudo_remainder (fractions F) n k P M (bivariate F (PrimitiveParts.primitive_part F c.coefficients)) (of_polynomial F (content_of F c.coefficients)) q p
                (of_polynomial-nonzero F (content_of F c.coefficients) part.content_nonzero) (sym part.scaled ∙ c.equation);
            is_primitive = part.is_primitive;
          }

  -- what holds of the members that follow b and a next member
  abbrev Continues : (least steps : ℕ) (members result : List Member) (b : Member) (M : Polynomial (fractions F)) → Type 0
  Continues least steps members result b M = (m : Member) (N : Polynomial (fractions F)) → IsListOf (stands_in_fractions F f) N m → length m ≤ length b → length m ≤ steps
      → remainders_from least steps (members ++ m ∷ []) b m ≡ Ok result → Follow least M N (members ++ m ∷ []) result

  with_next : (least steps : ℕ) (members result : List Member) (b m : Member) (P M : Polynomial (fractions F)) → IsListOf (stands_in_fractions F f) M b → length b ≤ suc steps
      → Continues least steps members result b M → remainders_from least steps (members ++ m ∷ []) b m ≡ Ok result → IsNextMember P M m → Follow least P M members result
  with_next least steps members result b m P M v enough again e n =
      let w : IsList (bivariate F n.member) m = record { are = stands-bivariate F f m n.member n.stands.are; leads_list = n.stands.leads } in
      let sb = list-size M b v in
      let sm = list-size (bivariate F n.member) m w in
      let smaller = n.is_next.smaller in
      let rest = again m (bivariate F n.member) w (omega (arith, sb, sm, smaller)) (omega (arith, sb, sm, smaller, enough)) e in
      record {
        lists = m ∷ rest.lists;
        polynomials_of = n.member ∷ rest.polynomials_of;
        all = rest.all ∙ append_assoc members (m ∷ []) rest.lists;
        stand = (n.stands, rest.stand);
        is_sequence = (n.is_next, rest.is_sequence);
        is_primitive = (n.is_primitive, rest.is_primitive);
      }

  by_remainder : (least steps : ℕ) (members result : List Member) (a b r : Member) (P M : Polynomial (fractions F)) → IsListOf (stands_in_fractions F f) P a → IsListOf (stands_in_fractions F f) M b
      → length b ≤ length a → length b ≤ suc steps → 1 < length b → Continues least steps members result b M
      → IsListOf (stands_in_fractions F f) (theory.pseudo_remainder (fractions F) (length a + 1 - length b) P M) r
      → next_member (λ m. remainders_from least steps (members ++ m ∷ []) b m) members r ≡ Ok result → Follow least P M members result
  by_remainder least steps members result a b [] P M u v l enough long again h e =
      let same : members ≡ result = cc in
      none_follow least P M members result same (inr (theory.divides_of_pseudo_remainder (fractions F) (length a + 1 - length b) (length b - 1) P M
      (let s = list-size M b v in omega (arith, s, long)) (let s = list-size P a u in omega (arith, s, long, l))
      (Degree.zero_of_size (fractions F) _ (let s = size-coefficients-le (stands_in_fractions F f) [] _ h.are in omega (arith, s)))))
  by_remainder least steps members result a b (p ∷ r) P M u v l enough long again h e =
      let s = and_then-ok (primitive_part (p ∷ r)) (λ m. remainders_from least steps (members ++ m ∷ []) b m) result e in
      with_next least steps members result b s.value P M v enough again s.next
      (next-is (length a + 1 - length b) (length b - 1) P M (p ∷ r) s.value
      (let s = list-size M b v in omega (arith, s, long)) (let s = list-size P a u in omega (arith, s, long, l)) h (omega arith) s.is)

  by_test : (least steps : ℕ) (members result : List Member) (a b : Member) (P M : Polynomial (fractions F)) → IsListOf (stands_in_fractions F f) P a → IsListOf (stands_in_fractions F f) M b
      → length b ≤ length a → length b ≤ suc steps → Continues least steps members result b M → (test : Bool) → nat_le (length b) (least + 1) ≡ test
      → (if test then Ok members else and_then (pseudo_remainder a b) (next_member (λ m. remainders_from least steps (members ++ m ∷ []) b m) members)) ≡ Ok result → Follow least P M members result
  by_test least steps members result a b P M u v l enough again true t e =
      let same : members ≡ result = cc in
      none_follow least P M members result same (inl (let s = list-size M b v in let w = leb-true (length b) (least + 1) t in omega (arith, s, w)))
  by_test least steps members result a b P M u v l enough again false t e =
      let s = and_then-ok (pseudo_remainder a b) (next_member (λ m. remainders_from least steps (members ++ m ∷ []) b m) members) result e in
      let long : 1 < length b = omega (arith, leb-false (length b) (least + 1) t) in
      by_remainder least steps members result a b s.value P M u v l enough long again
      (pseudo_remainder-coefficients (stands_in_fractions F f) b M (length b - 1) (omega (arith, long)) v.leads_list v.are a s.value P u (omega (arith, l)) s.is) s.next

  sequence-follows : (least steps : ℕ) (members result : List Member) (a b : Member) (P M : Polynomial (fractions F)) → IsList P a → IsList M b → length b ≤ length a → length b ≤ steps
      → remainders_from least steps members a b ≡ Ok result → Follow least P M members result
  sequence-follows least zero members result a b P M u v l enough e =
      let same : members ≡ result = cc in
      none_follow least P M members result same (inl (let s = list-size M b v in omega (arith, s, enough)))
  sequence-follows least (suc steps) members result a b P M u v l enough e =
      by_test least steps members result a b P M u v l enough
      (λ m N w k o e. sequence-follows least steps (members ++ m ∷ []) result b m M N v w k o e)
      (nat_le (length b) (least + 1)) refl e

  -- the rule of the sequence of d and b
  pub remainders-follow : (d b : Member) (least : ℕ) (result : List Member) (P M : Polynomial (fractions F)) → IsListOf (stands_in_fractions F f) P d → IsListOf (stands_in_fractions F f) M b → length b ≤ length d
      → remainders d b least ≡ Ok result → Follow least P M (d ∷ b ∷ []) result
  unfolding remainders
  remainders-follow d b least result P M u v l e = sequence-follows least (length b) (d ∷ b ∷ []) result d b P M u v l (omega arith) e
