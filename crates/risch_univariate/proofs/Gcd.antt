-- Greatest common divisors by Euclid's algorithm, Bezout's identity, coprime polynomials.
use Rattle.std.specs.Prelude.{◌≡◌, ℕ, zero, suc, pred, ◌≤◌, ◌<◌}
use Rattle.std.proofs.Common.{refl, sym, ap, ap₂, subst, ◌∙◌, arith}
use native.Mathlib.Decide.{ℕ_discrete}
use Rattle.risch_ring.specs.CommRing.{CommRing, Field, power}
use Rattle.risch_ring.proofs.Laws as Laws
use Rattle.risch_univariate.specs.Polynomial.{Polynomial, coefficient, constant}
use Rattle.risch_univariate.specs.Degree.{size, degree, leading_coefficient, IsMonic}
use Rattle.risch_univariate.specs.Division.{Divides, IsGcd, IsCoprime}
use Rattle.risch_ring.proofs.FieldLaws as FieldLaws
use Rattle.risch_univariate.proofs.Degree as Degree
use Rattle.risch_univariate.proofs.Division as Division
use Rattle.risch_univariate.proofs.Divides as Divides
use Rattle.risch_univariate.proofs.Identities as Identities
use Rattle.risch_univariate.specs.PolynomialRing.{polynomials}
use Rattle.risch_univariate.proofs.Coefficients.{coefficient-zero, coefficient-constant_mul, coefficient-constant-zero}

module _ {A : Type 0} (F : Field A) where
  abbrev R : CommRing (Polynomial F)
  R = polynomials F

  -- u·a + v·b
  abbrev pub combination : (u a v b : Polynomial F) → Polynomial F
  combination u a v b = R.add (R.mul u a) (R.mul v b)

  -- d | a and d | b give d | u·a + v·b
  pub divides-combination : (d u a v b : Polynomial F) → Divides F d a → Divides F d b → Divides F d (combination u a v b)
  divides-combination d u a v b h k = Divides.divides-add F d (R.mul u a) (R.mul v b) (Divides.divides-mul_left F d u a h) (Divides.divides-mul_left F d v b k)

  -- a common divisor of a and b that is u·a + v·b
  pub record Gcd (a b : Polynomial F) : Type 0 where
    pub value : Polynomial F
    pub left : Polynomial F
    pub right : Polynomial F
    pub divides_left : Divides F value a
    pub divides_right : Divides F value b
    pub bezout : value ≡ combination left a right b

  -- a = q·b + r gives u·b + v·r = v·a + (u - v·q)·b
  bezout_step : (a b q r u v : Polynomial F) → a ≡ R.add (R.mul q b) r → combination u b v r ≡ combination v a (R.add u (R.neg (R.mul v q))) b
  bezout_step a b q r u v e =
      sym (Laws.add_sub_exchange R (R.mul v r) (R.mul v (R.mul q b)) (R.mul u b)
      ∙ R.add_comm (R.mul v r) (R.mul u b))
      ∙ ap₂ R.add
      (R.add_comm (R.mul v r) (R.mul v (R.mul q b)) ∙ sym (R.mul-add v (R.mul q b) r) ∙ ap (R.mul v) (sym e))
      (ap (λ z. R.add (R.mul u b) (R.neg z)) (sym (R.mul_assoc v q b)) ∙ sym (Laws.sub-mul R u (R.mul v q) b))

  -- Euclid's algorithm, in at most size b steps
  euclid : (n : ℕ) (a b : Polynomial F) → size F b ≤ n → Gcd a b
  euclid zero a b h = at_zero a b (Degree.zero_of_size F b (omega (arith, h)))
    where
      at_zero : (a b : Polynomial F) → b ≡ R.zero → Gcd a b
      at_zero a b e = record {
        value = a;
        left = R.one;
        right = R.zero;
        divides_left = Divides.divides_refl F a;
        divides_right = subst (Divides F a) (sym e) (Divides.divides-zero F a);
        bezout = sym (ap₂ R.add (Laws.one-mul R a) (Laws.zero-mul R b) ∙ R.add-zero a);
      }
  euclid (suc n) a b h = go (Degree.dec_zero F b) (λ r l. euclid n b r l)
    where
      at_zero : (a b : Polynomial F) → b ≡ R.zero → Gcd a b
      at_zero a b e = record {
        value = a;
        left = R.one;
        right = R.zero;
        divides_left = Divides.divides_refl F a;
        divides_right = subst (Divides F a) (sym e) (Divides.divides-zero F a);
        bezout = sym (ap₂ R.add (Laws.one-mul R a) (Laws.zero-mul R b) ∙ R.add-zero a);
      }

      step : (s : Division.Division F a b) → Gcd b s.remainder → Gcd a b
      step s g = record {
        value = g.value;
        left = g.right;
        right = R.add g.left (R.neg (R.mul g.right s.quotient));
        divides_left = subst (Divides F g.value) (sym s.is_division.equation)
            (Divides.divides-add F g.value (R.mul s.quotient b) s.remainder (Divides.divides-mul_left F g.value s.quotient b g.divides_left) g.divides_right);
        divides_right = g.divides_left;
        bezout = g.bezout ∙ bezout_step a b s.quotient s.remainder g.left g.right s.is_division.equation;
      }

      go : Dec (b ≡ R.zero) → ((r : Polynomial F) → size F r ≤ n → Gcd b r) → Gcd a b
      go (yes e) next = at_zero a b e
      go (no k) next =
          let s = Division.divide F b k a in
          step s (next s.remainder (let l = s.is_division.smaller in omega (arith, l, h)))

  -- a common divisor of a and b with its Bezout identity
  pub extended_gcd : (a b : Polynomial F) → Gcd a b
  extended_gcd a b = euclid (size F b) a b (omega arith)

  -- c·p with c = 1 / lc(p), and 0 for 0
  pub monic : Polynomial F → Polynomial F
  monic p = R.mul (constant F (F.inverse (leading_coefficient F p))) p

  -- p / lc(p) is monic for p ≠ 0
  pub monic-is_monic : (p : Polynomial F) → ¬ (p ≡ R.zero) → IsMonic F (monic p)
  unfolding monic
  monic-is_monic p h =
      let n = Degree.leading_coefficient-nonzero F p h in
      let c = F.inverse (leading_coefficient F p) in
      ap (λ k. coefficient F (R.mul (constant F c) p) (pred k)) (Degree.size-constant_mul F c p (FieldLaws.inverse-nonzero F (leading_coefficient F p) n))
      ∙ coefficient-constant_mul F c p (degree F p) ∙ FieldLaws.inverse-mul F (leading_coefficient F p) n

  -- p | p / lc(p)
  pub divides-monic : (p : Polynomial F) → Divides F p (monic p)
  unfolding monic
  divides-monic p = Divides.divides-mul F (constant F (F.inverse (leading_coefficient F p))) p

  -- d | p gives monic d | p
  pub monic-divides : (d p : Polynomial F) → Divides F d p → Divides F (monic d) p
  unfolding monic
  monic-divides d p h = elim (Degree.dec_zero F d) [
    | yes e ↦ subst (λ z. Divides F z p) (e ∙ sym (ap (R.mul (constant F (F.inverse (leading_coefficient F d)))) e ∙ Laws.mul-zero R _)) h
    | no n ↦ Divides.constant_mul-divides F (F.inverse (leading_coefficient F d)) d p (FieldLaws.inverse-nonzero F (leading_coefficient F d) (Degree.leading_coefficient-nonzero F d n)) h
  ]

  -- p / lc(p) has the degree of p
  pub size-monic : (p : Polynomial F) → size F (monic p) ≡ size F p
  unfolding monic
  size-monic p = elim (Degree.dec_zero F p) [
    | yes e ↦ ap (size F) (ap (R.mul (constant F (F.inverse (leading_coefficient F p)))) e ∙ Laws.mul-zero R _ ∙ sym e)
    | no n ↦ Degree.size-constant_mul F (F.inverse (leading_coefficient F p)) p (FieldLaws.inverse-nonzero F (leading_coefficient F p) (Degree.leading_coefficient-nonzero F p n))
  ]

  -- ---- the monic greatest common divisor

  -- the monic greatest common divisor, and 0 for 0 and 0
  pub gcd : Polynomial F → Polynomial F → Polynomial F
  gcd a b = monic (extended_gcd a b).value

  -- gcd(a, b) | a
  pub gcd-divides_left : (a b : Polynomial F) → Divides F (gcd a b) a
  unfolding gcd
  gcd-divides_left a b = monic-divides (extended_gcd a b).value a (extended_gcd a b).divides_left

  -- gcd(a, b) | b
  pub gcd-divides_right : (a b : Polynomial F) → Divides F (gcd a b) b
  unfolding gcd
  gcd-divides_right a b = monic-divides (extended_gcd a b).value b (extended_gcd a b).divides_right

  -- p = u·a + v·b for some u and v
  pub record IsCombination (p a b : Polynomial F) : Type 0 where
    pub left : Polynomial F
    pub right : Polynomial F
    pub equation : p ≡ combination left a right b

  -- x·(u·a + v·b) = (x·u)·a + (x·v)·b
  pub mul-combination : (x u a v b : Polynomial F) → R.mul x (combination u a v b) ≡ combination (R.mul x u) a (R.mul x v) b
  mul-combination x u a v b = R.mul-add x (R.mul u a) (R.mul v b) ∙ ap₂ R.add (sym (R.mul_assoc x u a)) (sym (R.mul_assoc x v b))

  -- Bezout: gcd(a, b) = u·a + v·b
  pub gcd-bezout : (a b : Polynomial F) → IsCombination (gcd a b) a b
  unfolding gcd monic
  gcd-bezout a b =
      let g = extended_gcd a b in
      let c = constant F (F.inverse (leading_coefficient F g.value)) in
      record { left = R.mul c g.left; right = R.mul c g.right; equation = ap (R.mul c) g.bezout ∙ mul-combination c g.left a g.right b }

  -- every common divisor of a and b divides gcd(a, b)
  pub gcd-greatest : (a b d : Polynomial F) → Divides F d a → Divides F d b → Divides F d (gcd a b)
  gcd-greatest a b d h k =
      let z = gcd-bezout a b in subst (Divides F d) (sym z.equation) (divides-combination d z.left a z.right b h k)

  -- gcd(a, b) is a greatest common divisor
  pub gcd-is_gcd : (a b : Polynomial F) → IsGcd F (gcd a b) a b
  gcd-is_gcd a b = record { divides_left = gcd-divides_left a b; divides_right = gcd-divides_right a b; greatest = gcd-greatest a b }

  -- a ≠ 0 gives gcd(a, b) ≠ 0
  pub gcd-nonzero_left : (a b : Polynomial F) → ¬ (a ≡ R.zero) → ¬ (gcd a b ≡ R.zero)
  gcd-nonzero_left a b = Divides.divisor-nonzero F (gcd a b) a (gcd-divides_left a b)

  -- b ≠ 0 gives gcd(a, b) ≠ 0
  pub gcd-nonzero_right : (a b : Polynomial F) → ¬ (b ≡ R.zero) → ¬ (gcd a b ≡ R.zero)
  gcd-nonzero_right a b = Divides.divisor-nonzero F (gcd a b) b (gcd-divides_right a b)

  -- gcd(a, b) is monic, unless it is 0
  pub gcd-is_monic : (a b : Polynomial F) → ¬ (gcd a b ≡ R.zero) → IsMonic F (gcd a b)
  unfolding gcd
  gcd-is_monic a b h = monic-is_monic (extended_gcd a b).value λ e. h (Degree.zero_of_size F _ (size-monic (extended_gcd a b).value ∙ ap (size F) e ∙ Degree.size-zero F))

  -- ---- coprime polynomials

  -- gcd(a, b) = 1 gives gcd(b, a) = 1
  pub coprime_sym : (a b : Polynomial F) → IsCoprime F a b → IsCoprime F b a
  coprime_sym a b h = record { left = h.right; right = h.left; equation = R.add_comm (R.mul h.right b) (R.mul h.left a) ∙ h.equation }

  -- a common divisor of coprime polynomials divides 1
  pub coprime-common_divisor : (a b d : Polynomial F) → IsCoprime F a b → Divides F d a → Divides F d b → Divides F d R.one
  coprime-common_divisor a b d c h k = subst (Divides F d) c.equation (divides-combination d c.left a c.right b h k)

  -- d | 1 gives size d = 1
  pub size_of_unit : (d : Polynomial F) → Divides F d R.one → size F d ≡ 1
  size_of_unit d h =
      let l = Divides.size-divides F d R.one h (Degree.one-ne-zero F) in
      let o = Degree.size-one F in
      let k = Degree.size_of_nonzero F d (Divides.divisor-nonzero F d R.one h (Degree.one-ne-zero F)) in
      omega (arith, l, o, k)

  -- u·a + v·b = g of degree 0 gives that a and b are coprime
  pub coprime_of_size : (a b : Polynomial F) → size F (gcd a b) ≡ 1 → IsCoprime F a b
  coprime_of_size a b h =
      let z = gcd-bezout a b in
      let u = Divides.unit-divides F (gcd a b) R.one h in
      record {
        left = R.mul u.cofactor z.left;
        right = R.mul u.cofactor z.right;
        equation = sym (u.equation ∙ ap (R.mul u.cofactor) z.equation ∙ mul-combination u.cofactor z.left a z.right b);
      }

  -- a and b are coprime, or have a common divisor of degree at least 1
  pub dec_coprime : (a b : Polynomial F) → Dec (IsCoprime F a b)
  dec_coprime a b = elim (ℕ_discrete (size F (gcd a b)) 1) [
    | yes e ↦ yes (coprime_of_size a b e)
    | no n ↦ no (λ c. n (size_of_unit (gcd a b) (coprime-common_divisor a b (gcd a b) c (gcd-divides_left a b) (gcd-divides_right a b))))
  ]

  -- a and b with only constant common divisors, not both 0, are coprime
  pub coprime_of_divisors : (a b : Polynomial F) → ¬ (a ≡ R.zero) → ((d : Polynomial F) → Divides F d a → Divides F d b → size F d ≤ 1) → IsCoprime F a b
  coprime_of_divisors a b n h =
      let l = h (gcd a b) (gcd-divides_left a b) (gcd-divides_right a b) in
      let k = Degree.size_of_nonzero F (gcd a b) (gcd-nonzero_left a b n) in
      coprime_of_size a b (omega (arith, l, k))

  -- Euclid's lemma: gcd(p, a) = 1 and p | a·b give p | b
  pub coprime-divides_of_mul : (p a b : Polynomial F) → IsCoprime F p a → Divides F p (R.mul a b) → Divides F p b
  coprime-divides_of_mul p a b c h = subst (Divides F p) total
      (Divides.divides-add F p (R.mul b (R.mul c.left p)) (R.mul c.right (R.mul a b))
      (Divides.divides-mul_left F p b (R.mul c.left p) (Divides.divides-mul F c.left p)) (Divides.divides-mul_left F p c.right (R.mul a b) h))
    where
      total : R.add (R.mul b (R.mul c.left p)) (R.mul c.right (R.mul a b)) ≡ b
      total =
          ap (λ z. R.add (R.mul b (R.mul c.left p)) z) (ap (R.mul c.right) (R.mul_comm a b) ∙ Laws.mul_left_comm R c.right b a)
          ∙ sym (R.mul-add b (R.mul c.left p) (R.mul c.right a)) ∙ ap (R.mul b) c.equation ∙ R.mul-one b

  -- d | a and gcd(a, b) = 1 give gcd(d, b) = 1
  pub coprime_of_divides : (d a b : Polynomial F) → Divides F d a → IsCoprime F a b → IsCoprime F d b
  coprime_of_divides d a b h c = record {
    left = R.mul c.left h.cofactor;
    right = c.right;
    equation = ap (λ z. R.add z (R.mul c.right b)) (R.mul_assoc c.left h.cofactor d ∙ ap (R.mul c.left) (sym h.equation)) ∙ c.equation;
  }

  -- gcd(a, c) = 1 and gcd(b, c) = 1 give gcd(a·b, c) = 1
  pub coprime-mul : (a b c : Polynomial F) → IsCoprime F a c → IsCoprime F b c → IsCoprime F (R.mul a b) c
  coprime-mul a b c h k = record {
    left = R.mul h.left k.left;
    right = R.add (R.mul (R.mul h.left a) k.right) h.right;
    equation =
        ap₂ R.add (sym (Laws.mul_exchange R h.left a k.left b)) (Laws.add-mul R (R.mul (R.mul h.left a) k.right) h.right c ∙ ap (λ z. R.add z (R.mul h.right c)) (R.mul_assoc (R.mul h.left a) k.right c))
        ∙ sym (R.add_assoc (R.mul (R.mul h.left a) (R.mul k.left b)) (R.mul (R.mul h.left a) (R.mul k.right c)) (R.mul h.right c))
        ∙ ap (λ z. R.add z (R.mul h.right c)) (sym (R.mul-add (R.mul h.left a) (R.mul k.left b) (R.mul k.right c)) ∙ ap (R.mul (R.mul h.left a)) k.equation ∙ R.mul-one (R.mul h.left a))
        ∙ h.equation;
  }

  -- gcd(a, b) = 1, a | c and b | c give a·b | c
  pub coprime-mul-divides : (a b c : Polynomial F) → IsCoprime F a b → Divides F a c → Divides F b c → Divides F (R.mul a b) c
  coprime-mul-divides a b c h ha hb = subst (Divides F (R.mul a b)) total
      (divides-combination (R.mul a b) h.left (R.mul a c) h.right (R.mul c b)
      (Divides.divides-mul_mul F a b a c (Divides.divides_refl F a) hb) (Divides.divides-mul_mul F a b c b ha (Divides.divides_refl F b)))
    where
      total : combination h.left (R.mul a c) h.right (R.mul c b) ≡ c
      total =
          ap₂ R.add (ap (R.mul h.left) (R.mul_comm a c) ∙ Laws.mul_left_comm R h.left c a) (Laws.mul_left_comm R h.right c b)
          ∙ sym (R.mul-add c (R.mul h.left a) (R.mul h.right b)) ∙ ap (R.mul c) h.equation ∙ R.mul-one c

  -- a = g·a' and b = g·b' with g = gcd(a, b) ≠ 0 give gcd(a', b') = 1
  pub coprime_cofactors : (a b : Polynomial F) → ¬ (gcd a b ≡ R.zero) → IsCoprime F (gcd-divides_left a b).cofactor (gcd-divides_right a b).cofactor
  coprime_cofactors a b n =
      let z = gcd-bezout a b in
      let h = gcd-divides_left a b in
      let k = gcd-divides_right a b in
      let g = gcd a b in
      record {
        left = z.left;
        right = z.right;
        equation = Degree.mul_polynomials_cancel F g (combination z.left h.cofactor z.right k.cofactor) R.one n
            (R.mul_comm g (combination z.left h.cofactor z.right k.cofactor) ∙ Laws.add-mul R (R.mul z.left h.cofactor) (R.mul z.right k.cofactor) g
            ∙ ap₂ R.add (R.mul_assoc z.left h.cofactor g ∙ ap (R.mul z.left) (sym h.equation)) (R.mul_assoc z.right k.cofactor g ∙ ap (R.mul z.right) (sym k.equation))
            ∙ sym z.equation ∙ sym (R.mul-one g));
      }

  -- the inverse of a modulo m: u·a - 1 is a multiple of m
  pub modular_inverse : (a m : Polynomial F) (c : IsCoprime F a m) → Divides F m (R.add (R.mul c.left a) (R.neg R.one))
  modular_inverse a m c = record {
    cofactor = R.neg c.right;
    equation =
        Laws.sub_exchange R (R.mul c.left a) R.one (R.mul c.right m) R.zero (c.equation ∙ sym (R.add-zero R.one))
        ∙ Laws.zero-add R (R.neg (R.mul c.right m)) ∙ sym (Laws.neg-mul R c.right m);
  }

  -- monic polynomials that divide one another are equal
  pub monic_antisymm : (p q : Polynomial F) → IsMonic F p → IsMonic F q → Divides F p q → Divides F q p → p ≡ q
  monic_antisymm p q mp mq h k =
      let c = k.cofactor in
      let np : ¬ (p ≡ R.zero) = λ e. F.one-ne-zero (sym mp ∙ ap (leading_coefficient F) e ∙ coefficient-zero F (degree F R.zero)) in
      let nq = Divides.divisor-nonzero F q p k np in
      let nc = Divides.cofactor-nonzero F q p k np in
      let s = Divides.size-cofactor F q p k np in
      let l = Divides.size-divides F p q h nq in
      let o = Degree.size_of_nonzero F q nq in
      let sc : size F c ≤ 1 = omega (arith, s, l, o) in
      let so = Degree.size_of_nonzero F c nc in
      let e : coefficient F c 0 ≡ F.one =
      ap (coefficient F c) (let z : 0 ≡ degree F c = omega (arith, sc) in z) ∙ sym (F.mul-one (leading_coefficient F c)) ∙ ap (F.mul (leading_coefficient F c)) (sym mq)
      ∙ sym (Degree.leading_coefficient-mul F c q nc nq) ∙ ap (leading_coefficient F) (sym k.equation) ∙ mp in
      k.equation ∙ ap (λ z. R.mul z q) (Degree.constant_of_size F c sc ∙ ap (constant F) e ∙ Degree.constant-one F) ∙ Laws.one-mul R q

  -- greatest common divisors that are monic are equal
  pub gcd_unique : (g a b : Polynomial F) → IsGcd F g a b → IsMonic F g → g ≡ gcd a b
  gcd_unique g a b h m =
      let k = gcd-is_gcd a b in
      let d = k.greatest g h.divides_left h.divides_right in
      let d' = h.greatest (gcd a b) (gcd-divides_left a b) (gcd-divides_right a b) in
      let ng : ¬ (g ≡ R.zero) = λ e. F.one-ne-zero (sym m ∙ ap (leading_coefficient F) e ∙ coefficient-zero F (degree F R.zero)) in
      monic_antisymm g (gcd a b) m (gcd-is_monic a b (Divides.divisor-nonzero F (gcd a b) g d' ng)) d d'

  -- gcd(a, b) = 1 gives gcd(a ^ n, b) = 1
  pub coprime-power : (a b : Polynomial F) (n : ℕ) → IsCoprime F a b → IsCoprime F (power R a n) b
  unfolding power
  coprime-power a b zero h = record { left = R.one; right = R.zero; equation = ap₂ R.add (R.mul-one R.one) (Laws.zero-mul R b) ∙ R.add-zero R.one }
  coprime-power a b (suc n) h = coprime-mul a (power R a n) b h (coprime-power a b n h)

  -- s·a + t·b = c with deg s < deg b
  pub record Diophantine (a b c : Polynomial F) : Type 0 where
    pub left : Polynomial F
    pub right : Polynomial F
    pub equation : combination left a right b ≡ c
    pub smaller : size F left < size F b

  -- gcd(a, b) = 1 and b ≠ 0: s·a + t·b = c has a solution with deg s < deg b
  pub diophantine : (a b c : Polynomial F) → IsCoprime F a b → ¬ (b ≡ R.zero) → Diophantine a b c
  diophantine a b c h n = record {
    left = d.remainder;
    right = R.add (R.mul c h.right) (R.mul d.quotient a);
    equation =
        ap (R.add (R.mul d.remainder a)) (Laws.add-mul R (R.mul c h.right) (R.mul d.quotient a) b)
        ∙ Identities.diophantine_identity R d.remainder a (R.mul (R.mul c h.right) b) d.quotient b
        ∙ ap (λ z. R.add (R.mul z a) (R.mul (R.mul c h.right) b)) (sym d.is_division.equation)
        ∙ sym (mul-combination c h.left a h.right b) ∙ ap (R.mul c) h.equation ∙ R.mul-one c;
    smaller = d.is_division.smaller;
  }
    where
      d : Division.Division F (R.mul c h.left) b
      d = Division.divide F b n (R.mul c h.left)

  -- the solution is unique
  pub diophantine_unique : (a b c : Polynomial F) → IsCoprime F a b → (x y : Diophantine a b c) → x.left ≡ y.left
  diophantine_unique a b c h x y = elim (Degree.dec_zero F difference) [
    | yes e ↦ Laws.eq_of_sub R x.left y.left e
    | no n ↦
        let l = Divides.size-divides F b difference (coprime-divides_of_mul b a difference (coprime_sym a b h) divides) n in
        let lx = x.smaller in
        let ly = y.smaller in
        let k = Degree.size-sub-le F x.left y.left (pred (size F b)) (omega (arith, lx)) (omega (arith, ly)) in
        absurd (omega (arith, l, k, lx))
  ]
    where
      difference : Polynomial F
      difference = R.add x.left (R.neg y.left)

      divides : Divides F b (R.mul a difference)
      divides = record {
        cofactor = R.add y.right (R.neg x.right);
        equation =
            R.mul_comm a difference ∙ Laws.sub-mul R x.left y.left a
            ∙ Laws.sub_exchange R (R.mul x.left a) (R.mul y.left a) (R.mul x.right b) (R.mul y.right b) (x.equation ∙ sym y.equation)
            ∙ sym (Laws.sub-mul R y.right x.right b);
      }

  -- a monic polynomial is not 0
  pub monic-nonzero : (p : Polynomial F) → IsMonic F p → ¬ (p ≡ R.zero)
  monic-nonzero p m e = F.one-ne-zero (sym m ∙ ap (leading_coefficient F) e ∙ coefficient-zero F (degree F R.zero))

  -- 1 is monic
  pub one-is_monic : IsMonic F R.one
  one-is_monic =
      let d : degree F R.one ≡ 0 = ap pred (Degree.size-one F) in
      ap (coefficient F R.one) d ∙ ap (λ z. coefficient F z 0) (sym (Degree.constant-one F)) ∙ coefficient-constant-zero F F.one

  -- coprime polynomials have the greatest common divisor 1
  pub gcd_of_coprime : (a b : Polynomial F) → IsCoprime F a b → gcd a b ≡ R.one
  gcd_of_coprime a b c =
      let h = coprime-common_divisor a b (gcd a b) c (gcd-divides_left a b) (gcd-divides_right a b) in
      let n = Divides.divisor-nonzero F (gcd a b) R.one h (Degree.one-ne-zero F) in
      monic_antisymm (gcd a b) R.one (gcd-is_monic a b n) one-is_monic h (Divides.unit-divides F R.one (gcd a b) (Degree.size-one F))

  -- gcd(a, b) = 1 gives gcd(c·a, b) = 1, if c divides 1
  pub coprime-constant_mul : (c a b : Polynomial F) → Divides F c R.one → IsCoprime F a b → IsCoprime F (R.mul c a) b
  coprime-constant_mul c a b u h = coprime-mul c a b (record {
    left = u.cofactor;
    right = R.zero;
    equation = ap₂ R.add (sym u.equation) (Laws.zero-mul R b) ∙ R.add-zero R.one;
  }) h

  -- p / lc(p) = lc(p)⁻¹·p
  pub monic-equation : (p : Polynomial F) → monic p ≡ R.mul (constant F (F.inverse (leading_coefficient F p))) p
  unfolding monic
  monic-equation p = refl

  -- p = q·d with p and d monic gives q monic
  pub cofactor-is_monic : (d p : Polynomial F) (h : Divides F d p) → IsMonic F p → IsMonic F d → IsMonic F h.cofactor
  cofactor-is_monic d p h mp md =
      let n = Divides.cofactor-nonzero F d p h (monic-nonzero p mp) in
      sym (F.mul-one (leading_coefficient F h.cofactor)) ∙ ap (F.mul (leading_coefficient F h.cofactor)) (sym md)
      ∙ sym (Degree.leading_coefficient-mul F h.cofactor d n (monic-nonzero d md)) ∙ ap (leading_coefficient F) (sym h.equation) ∙ mp

  -- the only monic polynomial of degree 0 is 1
  pub one_of_monic : (p : Polynomial F) → IsMonic F p → size F p ≤ 1 → p ≡ R.one
  one_of_monic p m l =
      let o = Degree.size_of_nonzero F p (monic-nonzero p m) in
      let d : 0 ≡ degree F p = ap pred (let z : 1 ≡ size F p = omega (arith, l, o) in z) in
      Degree.constant_of_size F p l ∙ ap (constant F) (ap (coefficient F p) d ∙ m) ∙ Degree.constant-one F

  -- a = q·(b·c) + (r·c + s·b) with deg r < deg b and deg s < deg c: a/(b·c) = q + r/b + s/c
  pub record PartialFractions (a b c : Polynomial F) : Type 0 where
    pub whole : Polynomial F
    pub left : Polynomial F
    pub right : Polynomial F
    pub equation : a ≡ R.add (R.mul whole (R.mul b c)) (combination left c right b)
    pub left_smaller : size F left < size F b
    pub right_smaller : size F right < size F c

  -- the partial fractions of a/(b·c) for gcd(b, c) = 1
  pub partial_fractions : (a b c : Polynomial F) → IsCoprime F b c → ¬ (b ≡ R.zero) → ¬ (c ≡ R.zero) → PartialFractions a b c
  partial_fractions a b c h nb nc =
      let x = diophantine c b a (coprime_sym b c h) nb in
      let d = Division.divide F c nc x.right in
      record {
        whole = d.quotient;
        left = x.left;
        right = d.remainder;
        equation =
            sym x.equation ∙ ap (λ z. R.add (R.mul x.left c) (R.mul z b)) d.is_division.equation
            ∙ Identities.partial_fractions_identity R (R.mul x.left c) d.quotient c d.remainder b;
        left_smaller = x.smaller;
        right_smaller = d.is_division.smaller;
      }

  -- b | x·c, gcd(b, c) = 1 and deg x < deg b give x = 0
  zero_of_small_multiple : (b c x : Polynomial F) → IsCoprime F b c → Divides F b (R.mul c x) → size F x < size F b → x ≡ R.zero
  zero_of_small_multiple b c x h d l = elim (Degree.dec_zero F x) [
    | yes e ↦ e
    | no n ↦ let k = Divides.size-divides F b x (coprime-divides_of_mul b c x h d) n in absurd (omega (arith, k, l))
  ]

  -- the partial fractions are unique
  pub partial_fractions_unique : (a b c : Polynomial F) → IsCoprime F b c → (x y : PartialFractions a b c) → (x.left ≡ y.left) × (x.right ≡ y.right)
  partial_fractions_unique a b c h x y = (
    Laws.eq_of_sub R x.left y.left (zero_of_small_multiple b c (R.add x.left (R.neg y.left)) h
        (record { cofactor = _; equation = Identities.partial_left R x.whole y.whole b c x.left y.left x.right y.right both })
        (let l = x.left_smaller in let k = y.left_smaller in let s = Degree.size-sub-le F x.left y.left (pred (size F b)) (omega (arith, l)) (omega (arith, k)) in omega (arith, s, l))),
    Laws.eq_of_sub R x.right y.right (zero_of_small_multiple c b (R.add x.right (R.neg y.right)) (coprime_sym b c h)
        (record { cofactor = _; equation = Identities.partial_right R x.whole y.whole b c x.left y.left x.right y.right both })
        (let l = x.right_smaller in let k = y.right_smaller in let s = Degree.size-sub-le F x.right y.right (pred (size F c)) (omega (arith, l)) (omega (arith, k)) in omega (arith, s, l))),
  )
    where
      both : R.add (R.mul x.whole (R.mul b c)) (combination x.left c x.right b) ≡ R.add (R.mul y.whole (R.mul b c)) (combination y.left c y.right b)
      both = sym x.equation ∙ y.equation

  -- p and q monic give p·q monic
  pub mul-is_monic : (p q : Polynomial F) → IsMonic F p → IsMonic F q → IsMonic F (R.mul p q)
  mul-is_monic p q mp mq = Degree.leading_coefficient-mul F p q (monic-nonzero p mp) (monic-nonzero q mq) ∙ ap₂ F.mul mp mq ∙ F.mul-one F.one
