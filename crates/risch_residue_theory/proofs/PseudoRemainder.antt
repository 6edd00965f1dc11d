-- The pseudo-remainder by its loop, in L[t], and that what remains, divided by an element of L, is the next member of a remainder sequence.
use Rattle.std.specs.Prelude.{◌≡◌, ℕ, zero, suc, pred, ◌+◌, ◌≤◌, ◌<◌}
use Rattle.std.proofs.Common.{refl, sym, ap, ap₂, subst, ◌∙◌, arith}
use native.Mathlib.Decide.{dec_le}
use Rattle.risch_ring.specs.CommRing.{CommRing, Field}
use Rattle.risch_ring.proofs.Laws as Laws
use Rattle.risch_ring.proofs.Expression.{reading}
use Rattle.risch_ring.proofs.Solver.{ring}
use Rattle.std.specs.Prelude.{[], ◌∷◌}
use Rattle.risch_univariate.specs.Polynomial.{Polynomial, constant, variable, coefficient}
use Rattle.risch_univariate.specs.Degree.{size, leading_coefficient}
use Rattle.risch_univariate.specs.Division.{Divides}
use Rattle.risch_univariate.proofs.Divides as Divides
use Rattle.risch_ring.proofs.FieldLaws as FieldLaws
use Rattle.risch_univariate.proofs.Degree as Degree
use Rattle.risch_univariate.specs.PolynomialRing.{polynomials}
use Rattle.risch_univariate.proofs.Coefficients.{coefficient-add, coefficient-neg, coefficient-constant_mul, coefficient-variable_mul-suc}
use Rattle.risch_residue_theory.specs.RemainderSequence.{IsNext}

module _ {B : Type 0} (L : Field B) where
  abbrev R : CommRing (Polynomial L)
  R = polynomials L

  -- t^e·p
  unfoldable pub shift : ℕ → Polynomial L → Polynomial L
  shift zero p = p
  shift (suc e) p = (polynomials L).mul (variable L) (shift e p)

  -- its coefficients
  coefficient-shift : (e : ℕ) (p : Polynomial L) (m : ℕ) → coefficient L (shift e p) (e + m) ≡ coefficient L p m
  unfolding shift
  coefficient-shift zero p m = ap (coefficient L p) (omega arith)
  coefficient-shift (suc e) p m =
      subst (λ i. coefficient L (R.mul (variable L) (shift e p)) i ≡ coefficient L p m) (omega arith)
      (coefficient-variable_mul-suc L (shift e p) (e + m) ∙ coefficient-shift e p m)

  size-shift : (e : ℕ) (p : Polynomial L) (m : ℕ) → size L p ≤ m → size L (shift e p) ≤ e + m
  unfolding shift
  size-shift zero p m l = omega (arith, l)
  size-shift (suc e) p m l = Degree.size-le L _ (suc e + m) (below (size-shift e p m l))
    where
      below : size L (shift e p) ≤ e + m → (i : ℕ) → suc e + m ≤ i → coefficient L ((polynomials L).mul (variable L) (shift e p)) i ≡ L.zero
      below s zero k = absurd (omega (arith, k))
      below s (suc i) k = coefficient-variable_mul-suc L (shift e p) i ∙ Degree.below_size L (shift e p) i (omega (arith, s, k))

  -- r becomes lc(M)·r - r_(e + deg M)·t^e·M, for e from n - 1 down to 0
  unfoldable pub pseudo_remainder : ℕ → Polynomial L → Polynomial L → Polynomial L
  pseudo_remainder zero r M = r
  pseudo_remainder (suc e) r M = pseudo_remainder e
      ((polynomials L).add ((polynomials L).mul (constant L (leading_coefficient L M)) r)
      ((polynomials L).neg ((polynomials L).mul (constant L (coefficient L r (e + pred (size L M)))) (shift e M)))) M

  -- what remains is λ·r + Q·M with λ ≠ 0, of lower degree than M
  pub record IsPseudoRemainder (n : ℕ) (r M s : Polynomial L) : Type 0 where
    pub factor : B
    pub factor-nonzero : ¬ (factor ≡ L.zero)
    pub quotient : Polynomial L
    pub equation : s ≡ R.add (R.mul (constant L factor) r) (R.mul quotient M)
    pub size-quotient : size L quotient ≤ n
    pub smaller : size L s < size L M

  shift-mul : (e : ℕ) (p : Polynomial L) → shift e p ≡ R.mul (shift e R.one) p
  unfolding shift
  shift-mul zero p = sym (Laws.one-mul R p)
  shift-mul (suc e) p = ap (R.mul (variable L)) (shift-mul e p) ∙ sym (R.mul_assoc (variable L) (shift e R.one) p)

  size-constant-mul-le : (c : B) (p : Polynomial L) (n : ℕ) → size L p ≤ n → size L (R.mul (constant L c) p) ≤ n
  size-constant-mul-le c p n l = Degree.size-le L (R.mul (constant L c) p) n (λ i k.
      coefficient-constant_mul L c p i ∙ ap (L.mul c) (Degree.below_size L p i (omega (arith, k, l))) ∙ Laws.mul-zero L.ring c)

  -- the degree falls in each round
  size-step : (e m : ℕ) (r M : Polynomial L) → size L M ≡ suc m → size L r ≤ suc e + m
      → size L (R.add (R.mul (constant L (leading_coefficient L M)) r) (R.neg (R.mul (constant L (coefficient L r (e + pred (size L M)))) (shift e M)))) ≤ e + m
  size-step e m r M q l = Degree.size-le L _ (e + m) (λ i k. coefficient-add L _ _ i ∙ ap₂ L.add (coefficient-constant_mul L _ r i) (coefficient-neg L _ i ∙ ap L.neg (coefficient-constant_mul L _ (shift e M) i)) ∙ go i k (dec_le i (e + m)))
    where
      go : (i : ℕ) → e + m ≤ i → Dec (i ≤ e + m)
          → L.add (L.mul (leading_coefficient L M) (coefficient L r i)) (L.neg (L.mul (coefficient L r (e + pred (size L M))) (coefficient L (shift e M) i))) ≡ L.zero
      go i k (yes u) =
          ap (λ x. L.add (L.mul (leading_coefficient L M) (coefficient L r i)) (L.neg x))
          (ap₂ L.mul (ap (coefficient L r) (let p = ap pred q in omega (arith, p, k, u)))
          (ap (coefficient L (shift e M)) (let p = ap pred q in omega (arith, p, k, u)) ∙ coefficient-shift e M (pred (size L M)))
          ∙ L.mul_comm (coefficient L r i) (leading_coefficient L M))
          ∙ L.add-neg _
      go i k (no u) =
          ap₂ (λ x y. L.add (L.mul (leading_coefficient L M) x) (L.neg (L.mul (coefficient L r (e + pred (size L M))) y)))
          (Degree.below_size L r i (omega (arith, l, k, u)))
          (Degree.below_size L (shift e M) i (let s = size-shift e M (suc m) (omega (arith, q)) in omega (arith, s, k, u)))
          ∙ ap₂ (λ x y. L.add x (L.neg y)) (Laws.mul-zero L.ring _) (Laws.mul-zero L.ring _) ∙ L.add-neg L.zero

  -- the loop gives a pseudo-remainder
  pub pseudo_remainder-is : (n m : ℕ) (r M : Polynomial L) → size L M ≡ suc m → size L r ≤ n + m → IsPseudoRemainder n r M (pseudo_remainder n r M)
  unfolding pseudo_remainder
  pseudo_remainder-is zero m r M q l = record {
    factor = L.one;
    factor-nonzero = L.one-ne-zero;
    quotient = R.zero;
    equation = sym (ap₂ R.add (ap (λ z. R.mul z r) (Degree.constant-one L) ∙ Laws.one-mul R r) (Laws.zero-mul R M) ∙ R.add-zero r);
    size-quotient = let z = Degree.size-zero L in omega (arith, z);
    smaller = omega (arith, q, l);
  }
  pseudo_remainder-is (suc e) m r M q l = finish (pseudo_remainder-is e m next M q (size-step e m r M q l))
    where
      c : B
      c = leading_coefficient L M

      x : B
      x = coefficient L r (e + pred (size L M))

      next : Polynomial L
      next = R.add (R.mul (constant L (leading_coefficient L M)) r) (R.neg (R.mul (constant L (coefficient L r (e + pred (size L M)))) (shift e M)))

      identity : (f c r x s M q : Polynomial L) → R.add (R.mul f (R.add (R.mul c r) (R.neg (R.mul x (R.mul s M))))) (R.mul q M)
          ≡ R.add (R.mul (R.mul f c) r) (R.mul (R.add (R.neg (R.mul f (R.mul x s))) q) M)
      identity f c r x s M q = ring R (f ∷ c ∷ r ∷ x ∷ s ∷ M ∷ q ∷ []) (search reading depth 40 fits 9000) refl

      finish : IsPseudoRemainder e next M (pseudo_remainder e next M) → IsPseudoRemainder (suc e) r M (pseudo_remainder e next M)
      finish h = record {
        factor = L.mul h.factor c;
        factor-nonzero = FieldLaws.mul-nonzero L h.factor c h.factor-nonzero (Degree.leading_coefficient-nonzero L M (Degree.nonzero_of_size L M (omega (arith, q))));
        quotient = R.add (R.neg (R.mul (constant L h.factor) (R.mul (constant L x) (shift e R.one)))) h.quotient;
        equation =
            h.equation
            ∙ ap (λ z. R.add (R.mul (constant L h.factor) (R.add (R.mul (constant L c) r) (R.neg (R.mul (constant L x) z)))) (R.mul h.quotient M)) (shift-mul e M)
            ∙ identity (constant L h.factor) (constant L c) r (constant L x) (shift e R.one) M h.quotient
            ∙ ap (λ z. R.add (R.mul z r) (R.mul (R.add (R.neg (R.mul (constant L h.factor) (R.mul (constant L x) (shift e R.one)))) h.quotient) M)) (sym (Degree.constant-mul L h.factor c));
        size-quotient = Degree.size-add-le L _ h.quotient (suc e)
            (let s = size-constant-mul-le h.factor (R.mul (constant L x) (shift e R.one)) (suc e)
            (size-constant-mul-le x (shift e R.one) (suc e) (let o = Degree.size-one L in let t = size-shift e R.one 1 (omega (arith, o)) in omega (arith, t))) in
            let t = Degree.size-neg L (R.mul (constant L h.factor) (R.mul (constant L x) (shift e R.one))) in omega (arith, s, t))
            (let s = h.size-quotient in omega (arith, s));
        smaller = h.smaller;
      }

  -- M divides P where the pseudo-remainder of P by M is 0
  pub divides_of_pseudo_remainder : (n m : ℕ) (P M : Polynomial L) → size L M ≡ suc m → size L P ≡ n + m → pseudo_remainder n P M ≡ (polynomials L).zero → Divides L M P
  divides_of_pseudo_remainder n m P M q p e =
      subst (Divides L M)
      (sym (R.mul_assoc (constant L (L.inverse h.factor)) (constant L h.factor) P)
      ∙ ap (λ z. R.mul z P) (sym (Degree.constant-mul L (L.inverse h.factor) h.factor) ∙ ap (constant L) (FieldLaws.inverse-mul L h.factor h.factor-nonzero) ∙ Degree.constant-one L) ∙ Laws.one-mul R P)
      (Divides.divides-mul_left L M (constant L (L.inverse h.factor)) (R.mul (constant L h.factor) P)
      (Divides.divides_of_add L M (R.mul h.quotient M) (R.mul (constant L h.factor) P) (Divides.divides-mul L h.quotient M)
      (subst (Divides L M) (sym e ∙ h.equation ∙ R.add_comm _ _) (Divides.divides-zero L M))))
    where
      h : IsPseudoRemainder n P M (pseudo_remainder n P M)
      h = pseudo_remainder-is n m P M q (omega (arith, p))

  -- N with γ·N = the pseudo-remainder of P by M is the next member, for γ ≠ 0 (the content)
  pub next_of_pseudo_remainder : (n m : ℕ) (P M N : Polynomial L) (γ : B) → size L M ≡ suc m → size L P ≡ n + m → ¬ (γ ≡ L.zero)
      → R.mul (constant L γ) N ≡ pseudo_remainder n P M → IsNext L P M N
  next_of_pseudo_remainder n m P M N γ q p nz e = record {
    factor = L.mul i h.factor;
    factor-nonzero = FieldLaws.mul-nonzero L i h.factor (FieldLaws.inverse-nonzero L γ nz) h.factor-nonzero;
    quotient = R.mul (constant L i) h.quotient;
    equation =
        sym (Laws.one-mul R N)
        ∙ ap (λ z. R.mul z N) (sym (sym (Degree.constant-mul L i γ) ∙ ap (constant L) (FieldLaws.inverse-mul L γ nz) ∙ Degree.constant-one L))
        ∙ R.mul_assoc (constant L i) (constant L γ) N
        ∙ ap (R.mul (constant L i)) (e ∙ h.equation)
        ∙ R.mul-add (constant L i) _ _
        ∙ ap₂ R.add (sym (R.mul_assoc (constant L i) (constant L h.factor) P) ∙ ap (λ z. R.mul z P) (sym (Degree.constant-mul L i h.factor))) (sym (R.mul_assoc (constant L i) h.quotient M));
    size-quotient = let s = size-constant-mul-le i h.quotient n h.size-quotient in omega (arith, s, q, p);
    smaller =
        let s = Degree.size-constant_mul L γ N nz in
        let t = ap (size L) e in
        let u = h.smaller in
        omega (arith, s, t, u);
  }
    where
      i : B
      i = L.inverse γ

      h : IsPseudoRemainder n P M (pseudo_remainder n P M)
      h = pseudo_remainder-is n m P M q (omega (arith, p))
