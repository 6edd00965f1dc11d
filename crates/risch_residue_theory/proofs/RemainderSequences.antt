-- Euclid's algorithm over a field L, seen at a place of L with values in E.
-- d and b over L have the values H·G and B·G with H and B coprime, and d keeps its degree. The members of a remainder sequence of d and b are
-- scaled so that they have values that are not 0. Then the member of the degree of G exists, and its value is c·G with c ≠ 0.
-- (Members of lower degree need not have a value that G divides: the last one is a constant.)
use Rattle.std.specs.Prelude.{◌≡◌, ℕ, suc, ◌+◌, ◌≤◌, ◌<◌, List, [], ◌∷◌}
use Rattle.std.proofs.Common.{refl, sym, ap, ap₂, subst, ◌∙◌, arith, inl, inr}
use native.Mathlib.Decide.{dec_le}
use Rattle.risch_ring.specs.CommRing.{CommRing, Field}
use Rattle.risch_ring.proofs.Laws as Laws
use Rattle.risch_ring.proofs.Expression.{reading}
use Rattle.risch_ring.proofs.Solver.{ring}
use Rattle.risch_univariate.specs.Polynomial.{Polynomial, constant, coefficient}
use Rattle.risch_univariate.specs.Degree.{size}
use Rattle.risch_univariate.specs.Division.{Divides, IsCoprime}
use Rattle.risch_ring.proofs.FieldLaws as FieldLaws
use Rattle.risch_univariate.proofs.Degree as Degree
use Rattle.risch_univariate.proofs.Divides as Divides
use Rattle.risch_univariate.proofs.Gcd as Gcd
use Rattle.risch_residue_theory.proofs.Place.{Place, Some, HasValues, move_values, values_unique, size-values, values-add, values-mul, values-constant_mul, ScaledTriple, scaled_triple}
use Rattle.risch_univariate.specs.PolynomialRing.{polynomials}
use Rattle.risch_univariate.proofs.Coefficients.{coefficient-constant_mul}
use Rattle.risch_residue_theory.specs.RemainderSequence.{IsNext, IsSequence, IsRemainderSequence}
use Rattle.risch_ring.specs.Lists.{Member}

-- ---- remainder sequences over L

module _ {B : Type 0} (L : Field B) where
  abbrev R : CommRing (Polynomial L)
  R = polynomials L

  -- gcd(P, M) = 1 gives gcd(M, N) = 1
  coprime-next : (P M N : Polynomial L) → IsNext L P M N → IsCoprime L P M → IsCoprime L M N
  coprime-next P M N h c = record {
    left = R.add (R.neg (R.mul (R.mul c.left i) h.quotient)) c.right;
    right = R.mul c.left i;
    equation =
        ap (λ z. R.add (R.mul (R.add (R.neg (R.mul (R.mul c.left i) h.quotient)) c.right) M) (R.mul (R.mul c.left i) z)) h.equation
        ∙ cancel c.left c.right i (constant L h.factor) P h.quotient M
        ∙ ap (λ z. R.add (R.mul c.left (R.mul z P)) (R.mul c.right M)) inverse ∙ ap (λ z. R.add (R.mul c.left z) (R.mul c.right M)) (Laws.one-mul R P)
        ∙ c.equation;
  }
    where
      i : Polynomial L
      i = constant L (L.inverse h.factor)

      inverse : R.mul (constant L (L.inverse h.factor)) (constant L h.factor) ≡ R.one
      inverse = sym (Degree.constant-mul L (L.inverse h.factor) h.factor) ∙ ap (constant L) (FieldLaws.inverse-mul L h.factor h.factor-nonzero) ∙ Degree.constant-one L

      cancel : (x y i m p q n : Polynomial L) → R.add (R.mul (R.add (R.neg (R.mul (R.mul x i) q)) y) n) (R.mul (R.mul x i) (R.add (R.mul m p) (R.mul q n)))
          ≡ R.add (R.mul x (R.mul (R.mul i m) p)) (R.mul y n)
      cancel x y i m p q n = ring R (x ∷ y ∷ i ∷ m ∷ p ∷ q ∷ n ∷ []) (search reading depth 40 fits 9000) refl

  -- a remainder sequence of coprime polynomials goes down to degree 0, if it does not end before
  pub sequence_of_coprime : (k : ℕ) → 1 ≤ k → (P M : Polynomial L) (Ns : List (Polynomial L)) → IsCoprime L P M → IsRemainderSequence L k P M Ns → IsSequence L k P M Ns
  sequence_of_coprime k l P M [] c (inl h) = h
  sequence_of_coprime k l P M [] c (inr h) = let e = Gcd.size_of_unit L M (Gcd.coprime-common_divisor L P M M c h (Divides.divides_refl L M)) in omega (arith, e, l)
  sequence_of_coprime k l P M (N ∷ Ns) c h = (h.0, sequence_of_coprime k l M N Ns (coprime-next P M N h.0 c) h.1)

  -- M = U·d + V·b with deg V ≤ deg d - n, where size = n + 1
  pub record Cofactors (d b M : Polynomial L) (n : ℕ) : Type 0 where
    pub left : Polynomial L
    pub right : Polynomial L
    pub equation : M ≡ R.add (R.mul left d) (R.mul right b)
    pub small : size L right + n ≤ suc (size L d)

  size-constant_mul-le : (c : B) (p : Polynomial L) → size L (R.mul (constant L c) p) ≤ size L p
  size-constant_mul-le c p = Degree.size-le L (R.mul (constant L c) p) (size L p) (λ i l.
      coefficient-constant_mul L c p i ∙ ap (L.mul c) (Degree.below_size L p i l) ∙ Laws.mul-zero L.ring c)

  size-sum : (p q : Polynomial L) (k s : ℕ) → size L p + k ≤ s → size L q + k ≤ s → size L (R.add p q) + k ≤ s
  size-sum p q k s h h' = go (dec_le (size L p) (size L q))
    where
      go : Dec (size L p ≤ size L q) → size L (R.add p q) + k ≤ s
      go (yes l) = let m = Degree.size-add-le L p q (size L q) l (omega arith) in omega (arith, m, h')
      go (no l) = let m = Degree.size-add-le L p q (size L p) (omega arith) (omega (arith, l)) in omega (arith, m, h)

  size-product : (p q : Polynomial L) (k j s : ℕ) → size L p + k ≤ suc j → size L q + j ≤ suc s → k ≤ suc s → size L (R.mul p q) + k ≤ suc s
  size-product p q k j s h h' l = go (Degree.dec_zero L p) (Degree.dec_zero L q)
    where
      zero-case : R.mul p q ≡ R.zero → size L (R.mul p q) + k ≤ suc s
      zero-case e = let z = ap (size L) e in let o = Degree.size-zero L in omega (arith, z, o, l)

      go : Dec (p ≡ R.zero) → Dec (q ≡ R.zero) → size L (R.mul p q) + k ≤ suc s
      go (yes e) dq = zero-case (ap (λ z. R.mul z q) e ∙ Laws.zero-mul R q)
      go (no n) (yes e) = zero-case (ap (R.mul p) e ∙ Laws.mul-zero R p)
      go (no n) (no m) = let z = Degree.size-mul-nonzero L p q n m in omega (arith, z, h, h')

  cofactors-left : (d b : Polynomial L) (n : ℕ) → n ≤ suc (size L d) → Cofactors d b d n
  cofactors-left d b n l = record {
    left = R.one;
    right = R.zero;
    equation = sym (ap₂ R.add (Laws.one-mul R d) (Laws.zero-mul R b) ∙ R.add-zero d);
    small = let o = Degree.size-zero L in omega (arith, o, l);
  }

  cofactors-right : (d b : Polynomial L) → Cofactors d b b (size L d)
  cofactors-right d b = record {
    left = R.zero;
    right = R.one;
    equation = sym (ap₂ R.add (Laws.zero-mul R d) (Laws.one-mul R b) ∙ Laws.zero-add R b);
    small = let o = Degree.size-one L in omega (arith, o);
  }

  -- the cofactors of the next member
  cofactors-next : (d b P M N : Polynomial L) → size L M ≤ size L d → IsNext L P M N → Cofactors d b P (size L M) → Cofactors d b M (size L P) → Cofactors d b N (size L M)
  cofactors-next d b P M N l h p m = record {
    left = R.add (R.mul c p.left) (R.mul h.quotient m.left);
    right = R.add (R.mul c p.right) (R.mul h.quotient m.right);
    equation =
        h.equation ∙ ap₂ (λ x y. R.add (R.mul c x) (R.mul h.quotient y)) p.equation m.equation
        ∙ combine c h.quotient p.left p.right m.left m.right d b;
    small = size-sum (R.mul c p.right) (R.mul h.quotient m.right) (size L M) (suc (size L d))
        (let s = size-constant_mul-le h.factor p.right in let k = p.small in omega (arith, s, k))
        (size-product h.quotient m.right (size L M) (size L P) (size L d) h.size-quotient m.small (omega (arith, l)));
  }
    where
      c : Polynomial L
      c = constant L h.factor

      combine : (x q u v w z d b : Polynomial L) → R.add (R.mul x (R.add (R.mul u d) (R.mul v b))) (R.mul q (R.add (R.mul w d) (R.mul z b)))
          ≡ R.add (R.mul (R.add (R.mul x u) (R.mul q w)) d) (R.mul (R.add (R.mul x v) (R.mul q z)) b)
      combine x q u v w z d b = ring R (x ∷ q ∷ u ∷ v ∷ w ∷ z ∷ d ∷ b ∷ []) (search reading depth 40 fits 9000) refl

  -- the later members have lower degrees
  among-smaller : (k : ℕ) (P M X : Polynomial L) (Ns : List (Polynomial L)) → IsSequence L k P M Ns → Member X Ns → size L X < size L M
  among-smaller k P M X [] s x = absurd x
  among-smaller k P M X (N ∷ Ns) s (inl e) = let a = s.0.smaller in let z = ap (size L) e in omega (arith, a, z)
  among-smaller k P M X (N ∷ Ns) s (inr x) = let a = s.0.smaller in let z = among-smaller k M N X Ns s.1 x in omega (arith, a, z)

  -- there is one member of each degree
  pub among_unique : (k : ℕ) (P M X Y : Polynomial L) (Ns : List (Polynomial L)) → IsSequence L k P M Ns → Member X (M ∷ Ns) → Member Y (M ∷ Ns) → size L X ≡ size L Y → X ≡ Y
  among_unique k P M X Y Ns s (inl e) (inl h) q = e ∙ sym h
  among_unique k P M X Y Ns s (inl e) (inr y) q = let a = among-smaller k P M Y Ns s y in let z = ap (size L) e in absurd (omega (arith, a, z, q))
  among_unique k P M X Y Ns s (inr x) (inl h) q = let a = among-smaller k P M X Ns s x in let z = ap (size L) h in absurd (omega (arith, a, z, q))
  among_unique k P M X Y [] s (inr x) (inr y) q = absurd x
  among_unique k P M X Y (N ∷ Ns) s (inr x) (inr y) q = among_unique k M N X Y Ns s.1 x y q

-- ---- at a place

module _ {B C : Type 0} (L : Field B) (E : Field C) (φ : Place L E) where
  abbrev R' : CommRing (Polynomial L)
  R' = polynomials L

  abbrev S : CommRing (Polynomial E)
  S = polynomials E

  -- d and b have the values H·G and B·G with gcd(H, B) = 1, and the value of d has the degree of d
  pub record Reduction (d b : Polynomial L) : Type 0 where
    pub common : Polynomial E
    pub left_cofactor : Polynomial E
    pub right_cofactor : Polynomial E
    pub has_left : HasValues L E φ d (S.mul left_cofactor common)
    pub has_right : HasValues L E φ b (S.mul right_cofactor common)
    pub coprime : IsCoprime E left_cofactor right_cofactor
    pub nonzero : ¬ (S.mul left_cofactor common ≡ S.zero)
    pub same_size : size E (S.mul left_cofactor common) ≡ size L d

  -- M has a value that is not 0
  abbrev pub IsPrimitiveAt : Polynomial L → Type 0
  IsPrimitiveAt M = Some (λ m. HasValues L E φ M m × ¬ (m ≡ (polynomials E).zero))

  -- each member has a value that is not 0
  abbrev pub EachPrimitive : List (Polynomial L) → Type 0
  EachPrimitive [] = Unit
  EachPrimitive (M ∷ Ms) = IsPrimitiveAt M × EachPrimitive Ms

  module _ (d b : Polynomial L) (r : Reduction d b) where
    G : Polynomial E
    G = r.common

    -- G divides the value of M = U·d + V·b, if deg V < deg H
    pub common-divides : (U V M : Polynomial L) (m : Polynomial E) → M ≡ R'.add (R'.mul U d) (R'.mul V b) → HasValues L E φ M m
        → size L V < size E r.left_cofactor → Divides E r.common m
    common-divides U V M m e h l = go (E.is_zero t.value)
      where
        t : ScaledTriple L E φ L.one U V
        t = scaled_triple L E φ L.one L.one-ne-zero U V

        g : Polynomial L
        g = constant L t.factor

        H : Polynomial E
        H = r.left_cofactor

        K : Polynomial E
        K = r.right_cofactor

        -- g·m = u·H·G + v·B·G
        equation : S.mul (constant E t.value) m ≡ S.add (S.mul t.left (S.mul r.left_cofactor r.common)) (S.mul t.right (S.mul r.right_cofactor r.common))
        equation = values_unique L E φ (R'.mul g M) _ _
            (move_values L E φ _ _ _ _ (ap (λ z. R'.mul (constant L z) M) (L.mul-one t.factor)) refl (values-constant_mul L E φ _ _ M m t.has_value h))
            (move_values L E φ _ _ _ _ (distribute g U d V b ∙ ap (R'.mul g) (sym e)) refl
            (values-add L E φ _ _ _ _ (values-mul L E φ _ _ _ _ t.has_left r.has_left) (values-mul L E φ _ _ _ _ t.has_right r.has_right)))
          where
            distribute : (x u d v b : Polynomial L) → R'.add (R'.mul (R'.mul x u) d) (R'.mul (R'.mul x v) b) ≡ R'.mul x (R'.add (R'.mul u d) (R'.mul v b))
            distribute x u d v b = ring R' (x ∷ u ∷ d ∷ v ∷ b ∷ []) (search reading depth 40 fits 9000) refl

        collect : (u h v k x : Polynomial E) → S.add (S.mul u (S.mul h x)) (S.mul v (S.mul k x)) ≡ S.mul x (S.add (S.mul u h) (S.mul v k))
        collect u h v k x = ring S (u ∷ h ∷ v ∷ k ∷ x ∷ []) (search reading depth 40 fits 9000) refl

        G-nonzero : ¬ (r.common ≡ S.zero)
        G-nonzero = Degree.nonzero_of_mul_right E r.left_cofactor r.common r.nonzero

        H-nonzero : ¬ (r.left_cofactor ≡ S.zero)
        H-nonzero = Degree.nonzero_of_mul_left E r.left_cofactor r.common r.nonzero

        -- g = 0 would make v a multiple of H
        impossible : t.value ≡ E.zero → ⊥
        impossible z = t.not_zero z left-zero right-zero
          where
            sum-zero : S.add (S.mul t.left r.left_cofactor) (S.mul t.right r.right_cofactor) ≡ S.zero
            sum-zero = Degree.zero_of_mul_polynomials E r.common _ G-nonzero
                (sym (collect t.left r.left_cofactor t.right r.right_cofactor r.common) ∙ sym equation
                ∙ ap (λ x. S.mul (constant E x) m) z ∙ ap (λ x. S.mul x m) (Degree.constant-zero E) ∙ Laws.zero-mul S m)

            H-divides : Divides E r.left_cofactor t.right
            H-divides = Gcd.coprime-divides_of_mul E r.left_cofactor r.right_cofactor t.right r.coprime
                (subst (Divides E r.left_cofactor) (S.mul_comm t.right r.right_cofactor)
                (Divides.divides_of_add E r.left_cofactor (S.mul t.left r.left_cofactor) (S.mul t.right r.right_cofactor)
                (Divides.divides-mul E t.left r.left_cofactor)
                (subst (Divides E r.left_cofactor) (sym sum-zero) (Divides.divides-zero E r.left_cofactor))))

            right-zero : t.right ≡ S.zero
            right-zero = elim (Degree.dec_zero E t.right) [
              | yes x ↦ x
              | no n ↦
                  let s = Divides.size-divides E r.left_cofactor t.right H-divides n in
                  let k = size-values L E φ (R'.mul g V) t.right t.has_right in
                  let j = size-constant_mul-le L t.factor V in
                  absurd (omega (arith, s, k, j, l))
            ]

            left-zero : t.left ≡ S.zero
            left-zero = Degree.zero_of_mul_polynomials E r.left_cofactor t.left H-nonzero
                (S.mul_comm r.left_cofactor t.left ∙ sym (S.add-zero (S.mul t.left r.left_cofactor))
                ∙ ap (S.add (S.mul t.left r.left_cofactor)) (sym (ap (λ x. S.mul x r.right_cofactor) right-zero ∙ Laws.zero-mul S r.right_cofactor))
                ∙ sum-zero)

        go : Dec (t.value ≡ E.zero) → Divides E r.common m
        go (yes z) = absurd (impossible z)
        go (no n) = subst (Divides E r.common) back
            (Divides.divides-mul_left E r.common (constant E (E.inverse t.value)) (S.mul (constant E t.value) m)
            (subst (Divides E r.common) (sym (equation ∙ collect t.left r.left_cofactor t.right r.right_cofactor r.common))
            (Divides.divides-mul_right E r.common (S.add (S.mul t.left r.left_cofactor) (S.mul t.right r.right_cofactor)))))
          where
            back : S.mul (constant E (E.inverse t.value)) (S.mul (constant E t.value) m) ≡ m
            back =
                sym (S.mul_assoc (constant E (E.inverse t.value)) (constant E t.value) m)
                ∙ ap (λ x. S.mul x m) (sym (Degree.constant-mul E (E.inverse t.value) t.value) ∙ ap (constant E) (FieldLaws.inverse-mul E t.value n) ∙ Degree.constant-one E)
                ∙ Laws.one-mul S m

    -- the member of the degree of G has the value c·G with c ≠ 0
    pub record RegularMember (Ms : List (Polynomial L)) : Type 0 where
      pub member : Polynomial L
      pub among : Member member Ms
      pub same_size : size L member ≡ size E r.common
      pub factor : C
      pub factor-nonzero : ¬ (factor ≡ E.zero)
      pub has_values : HasValues L E φ member (S.mul (constant E factor) r.common)

    further : (M : Polynomial L) (Ms : List (Polynomial L)) → RegularMember Ms → RegularMember (M ∷ Ms)
    further M Ms x = record {
      member = x.member;
      among = inr x.among;
      same_size = x.same_size;
      factor = x.factor;
      factor-nonzero = x.factor-nonzero;
      has_values = x.has_values;
    }

    -- a multiple of G of the degree of G
    found : (M : Polynomial L) (Ms : List (Polynomial L)) (p : IsPrimitiveAt M) → Divides E r.common p.value → size L M ≡ size E r.common → RegularMember (M ∷ Ms)
    found M Ms p h e = record {
      member = M;
      among = inl refl;
      same_size = e;
      factor = c;
      factor-nonzero = λ z. p.has_value.1 (equation ∙ ap (λ x. S.mul (constant E x) r.common) z ∙ ap (λ x. S.mul x r.common) (Degree.constant-zero E) ∙ Laws.zero-mul S r.common);
      has_values = move_values L E φ _ _ _ _ refl equation p.has_value.0;
    }
      where
        c : C
        c = coefficient E h.cofactor 0

        equation : p.value ≡ S.mul (constant E c) r.common
        equation = h.equation ∙ ap (λ x. S.mul x r.common)
            (Degree.constant_of_size E h.cofactor
            (let s = Divides.size-cofactor E r.common p.value h p.has_value.1 in let l = size-values L E φ M p.value p.has_value.0 in omega (arith, s, l, e)))

    -- G divides the value of M, if deg P > deg G for the member P before M
    member-divides : (P M : Polynomial L) (p : IsPrimitiveAt M) → size E r.common < size L P → Cofactors L d b M (size L P) → Divides E r.common p.value
    member-divides P M p big m = common-divides m.left m.right M p.value m.equation p.has_value.0
        (let a = m.small in
        let c = Degree.size-mul-nonzero E r.left_cofactor r.common (Degree.nonzero_of_mul_left E r.left_cofactor r.common r.nonzero) (Degree.nonzero_of_mul_right E r.left_cofactor r.common r.nonzero) in
        let q = r.same_size in
        omega (arith, a, c, q, big))

    at_least : (P M : Polynomial L) (p : IsPrimitiveAt M) → size E r.common < size L P → Cofactors L d b M (size L P) → size E r.common ≤ size L M
    at_least P M p big m =
        let x = Divides.size-divides E r.common p.value (member-divides P M p big m) p.has_value.1 in
        let y = size-values L E φ M p.value p.has_value.0 in
        omega (arith, x, y)

    -- along the sequence, as long as deg P > deg G
    walk : (k : ℕ) → k ≤ size E r.common → (Ns : List (Polynomial L)) (P M : Polynomial L) → IsSequence L k P M Ns → EachPrimitive (M ∷ Ns) → size L M ≤ size L P → size L P ≤ size L d
        → size E r.common < size L P → Cofactors L d b P (size L M) → Cofactors L d b M (size L P) → RegularMember (M ∷ Ns)
    walk n low [] P M s e l k big p m =
        found M [] e.0 (member-divides P M e.0 big m) (let a = at_least P M e.0 big m in (omega (arith, a, s, low)))
    walk n low (N ∷ Ns) P M s e l k big p m = go (dec_le (size L M) (size E r.common))
        (λ large. walk n low Ns M N s.1 e.1 (let a = s.0.smaller in omega (arith, a)) (omega (arith, l, k)) large
        (record { left = m.left; right = m.right; equation = m.equation; small = let a = m.small in let q = s.0.smaller in omega (arith, a, l, q) })
        (cofactors-next L d b P M N (omega (arith, l, k)) s.0 p m))
      where
        go : Dec (size L M ≤ size E r.common) → (size E r.common < size L M → RegularMember (N ∷ Ns)) → RegularMember (M ∷ N ∷ Ns)
        go (yes small) ih = found M (N ∷ Ns) e.0 (member-divides P M e.0 big m) (let a = at_least P M e.0 big m in omega (arith, a, small))
        go (no large) ih = further M (N ∷ Ns) (ih (omega (arith, large)))

    -- the member of the degree of G exists, and its value is c·G with c ≠ 0, in a sequence of d and M₁ = U·d + v·b with v in L (b, or b without its content)
    pub regular_member : (k : ℕ) → k ≤ size E r.common → (M₁ : Polynomial L) → Cofactors L d b M₁ (size L d) → (Ms : List (Polynomial L))
        → IsSequence L k d M₁ Ms → EachPrimitive (M₁ ∷ Ms) → size L M₁ ≤ size L d → size E r.common < size L d → RegularMember (M₁ ∷ Ms)
    regular_member k low M₁ m Ms s e l big = walk k low Ms d M₁ s e l (omega arith) big (cofactors-left L d b (size L M₁) (omega (arith, l))) m

    -- every member of the degree of G has the value c·G with c ≠ 0
    pub record IsMultiple (M : Polynomial L) : Type 0 where
      pub factor : C
      pub factor-nonzero : ¬ (factor ≡ E.zero)
      pub has_values : HasValues L E φ M (S.mul (constant E factor) r.common)

    -- every member of the degree of G has the value c·G with c ≠ 0
    pub regular_value : (k : ℕ) → k ≤ size E r.common → (M₁ : Polynomial L) → Cofactors L d b M₁ (size L d) → (Ms : List (Polynomial L))
        → IsSequence L k d M₁ Ms → EachPrimitive (M₁ ∷ Ms) → size L M₁ ≤ size L d → size E r.common < size L d
        → (M : Polynomial L) → Member M (M₁ ∷ Ms) → size L M ≡ size E r.common → IsMultiple M
    regular_value k low M₁ m Ms s e l big M x q =
        let y = regular_member k low M₁ m Ms s e l big in
        record {
          factor = y.factor;
          factor-nonzero = y.factor-nonzero;
          has_values = move_values L E φ _ _ _ _ (among_unique L k d M₁ y.member M Ms s y.among x (y.same_size ∙ sym q)) refl y.has_values;
        }
