-- Irreducible polynomials: they are prime, and every polynomial of degree at least 1 has one that divides it, under a double negation; multiplicities.
use Rattle.std.specs.Prelude.{◌≡◌, ℕ, zero, suc, ◌+◌, ◌≤◌, ◌⊎◌}
use Rattle.std.proofs.Common.{refl, sym, ap, ap₂, ◌∙◌, arith, inl, inr, ⊎_elim}
use native.Mathlib.Decide.{dec_le, ℕ_discrete}
use Rattle.risch_ring.specs.CommRing.{CommRing, Field, power}
use Rattle.risch_ring.proofs.Laws as Laws
use Rattle.risch_univariate.specs.Polynomial.{Polynomial}
use Rattle.risch_univariate.specs.Degree.{size, IsMonic}
use Rattle.risch_univariate.specs.Division.{Divides, IsCoprime, IsIrreducible, IsMultiplicity}
use Rattle.risch_univariate.proofs.Degree as Degree
use Rattle.risch_univariate.proofs.Divides as Divides
use Rattle.risch_univariate.proofs.Gcd as Gcd
use Rattle.risch_univariate.specs.PolynomialRing.{polynomials}

module _ {A : Type 0} (F : Field A) where
  abbrev R : CommRing (Polynomial F)
  R = polynomials F

  -- an irreducible polynomial is not 0
  pub irreducible-nonzero : (p : Polynomial F) → IsIrreducible F p → ¬ (p ≡ R.zero)
  irreducible-nonzero p h = Degree.nonzero_of_size F p (let l = h.not_constant in omega (arith, l))

  -- d | p of the degree of p ≠ 0 is p but for a constant: p | d
  pub divides_of_same_size : (d p : Polynomial F) → Divides F d p → ¬ (p ≡ R.zero) → size F d ≡ size F p → Divides F p d
  divides_of_same_size d p h n e =
      let s = Divides.size-cofactor F d p h n in
      let o = Degree.size_of_nonzero F d (Divides.divisor-nonzero F d p h n) in
      let u = Divides.unit-divides F h.cofactor R.one (omega (arith, s, e, o)) in
      record {
        cofactor = u.cofactor;
        equation = sym (ap (R.mul u.cofactor) h.equation ∙ sym (R.mul_assoc u.cofactor h.cofactor d) ∙ ap (λ z. R.mul z d) (sym u.equation) ∙ Laws.one-mul R d);
      }

  -- p irreducible: gcd(p, a) = 1 or p | a
  pub irreducible-coprime : (p a : Polynomial F) → IsIrreducible F p → IsCoprime F p a ⊎ Divides F p a
  irreducible-coprime p a h = go (h.divisors (Gcd.gcd F p a) (Gcd.gcd-divides_left F p a))
    where
      n : ¬ (p ≡ R.zero)
      n = irreducible-nonzero p h

      go : (size F (Gcd.gcd F p a) ≤ 1) ⊎ (size F (Gcd.gcd F p a) ≡ size F p) → IsCoprime F p a ⊎ Divides F p a
      go (inl l) = inl (Gcd.coprime_of_size F p a (let o = Degree.size_of_nonzero F (Gcd.gcd F p a) (Gcd.gcd-nonzero_left F p a n) in omega (arith, l, o)))
      go (inr e) = inr (Divides.divides_trans F p (Gcd.gcd F p a) a (divides_of_same_size (Gcd.gcd F p a) p (Gcd.gcd-divides_left F p a) n e) (Gcd.gcd-divides_right F p a))

  -- an irreducible polynomial is prime: p | a·b gives p | a or p | b
  pub irreducible-prime : (p a b : Polynomial F) → IsIrreducible F p → Divides F p (R.mul a b) → Divides F p a ⊎ Divides F p b
  irreducible-prime p a b h d = go (irreducible-coprime p a h)
    where
      go : IsCoprime F p a ⊎ Divides F p a → Divides F p a ⊎ Divides F p b
      go (inl c) = inr (Gcd.coprime-divides_of_mul F p a b c d)
      go (inr k) = inl k

  -- p ∤ a and p ∤ b give p ∤ a·b
  pub not_divides-mul : (p a b : Polynomial F) → IsIrreducible F p → ¬ Divides F p a → ¬ Divides F p b → ¬ Divides F p (R.mul a b)
  not_divides-mul p a b i n k d = ⊎_elim n k (irreducible-prime p a b i d)

  -- p irreducible does not divide 1
  pub irreducible-not_unit : (p : Polynomial F) → IsIrreducible F p → ¬ Divides F p R.one
  irreducible-not_unit p h d = let e = Gcd.size_of_unit F p d in let l = h.not_constant in absurd (omega (arith, e, l))

  -- a monic irreducible polynomial that divides p
  pub record IrreducibleFactor (p : Polynomial F) : Type 0 where
    pub factor : Polynomial F
    pub irreducible : IsIrreducible F factor
    pub is_monic : IsMonic F factor
    pub divides : Divides F factor p

  -- p without an irreducible factor of lower degree is irreducible
  factor_in : (n : ℕ) (p : Polynomial F) → size F p ≤ n → 2 ≤ size F p → ¬ ¬ (IrreducibleFactor p)
  factor_in zero p l k none = absurd (omega (arith, l, k))
  factor_in (suc n) p l k none = none (go (λ d ld kd nd. factor_in n d ld kd nd))
    where
      go : ((d : Polynomial F) → size F d ≤ n → 2 ≤ size F d → ¬ ¬ (IrreducibleFactor d)) → IrreducibleFactor p
      go ih = record {
        factor = Gcd.monic F p;
        irreducible = record { not_constant = let s = Gcd.size-monic F p in omega (arith, s, k); divisors = divisors };
        is_monic = Gcd.monic-is_monic F p nonzero;
        divides = to_p;
      }
        where
          nonzero : ¬ (p ≡ R.zero)
          nonzero = Degree.nonzero_of_size F p (omega (arith, k))

          to_p : Divides F (Gcd.monic F p) p
          to_p = Gcd.monic-divides F p p (Divides.divides_refl F p)

          divisors : (d : Polynomial F) → Divides F d (Gcd.monic F p) → (size F d ≤ 1) ⊎ (size F d ≡ size F (Gcd.monic F p))
          divisors d h = elim (dec_le (size F d) 1) [
            | yes small ↦ inl small
            | no large ↦ elim (ℕ_discrete (size F d) (size F (Gcd.monic F p))) [
              | yes e ↦ inr e
              | no m ↦
                  let hp = Divides.divides_trans F d (Gcd.monic F p) p h to_p in
                  let s = Divides.size-divides F d p hp nonzero in
                  let t = Gcd.size-monic F p in
                  absurd (ih d (omega (arith, s, t, m, l)) (omega (arith, large)) (λ f. none (record {
                    factor = f.factor;
                    irreducible = f.irreducible;
                    is_monic = f.is_monic;
                    divides = Divides.divides_trans F f.factor d p f.divides hp;
                  })))
            ]
          ]

  -- a polynomial of degree at least 1 has, not-not, a monic irreducible factor
  pub irreducible_factor : (p : Polynomial F) → 2 ≤ size F p → ¬ ¬ (IrreducibleFactor p)
  irreducible_factor p = factor_in (size F p) p (omega arith)

  -- what is decidable and follows from an irreducible factor holds
  pub by_irreducible_factor : {Q : Type 0} → Dec Q → (p : Polynomial F) → 2 ≤ size F p
      → ((f : Polynomial F) → IsIrreducible F f → IsMonic F f → Divides F f p → Q) → Q
  by_irreducible_factor (yes q) p l h = q
  by_irreducible_factor (no n) p l h = absurd (irreducible_factor p l (λ f. n (h f.factor f.irreducible f.is_monic f.divides)))

  -- p ≠ 0 is a constant, if no irreducible polynomial divides it
  pub constant_of_no_factor : (p : Polynomial F) → ((f : Polynomial F) → IsIrreducible F f → IsMonic F f → ¬ Divides F f p) → size F p ≤ 1
  constant_of_no_factor p h = elim (dec_le (size F p) 1) [ yes l ↦ l | no n ↦ absurd (irreducible_factor p (omega (arith, n)) (λ f. h f.factor f.irreducible f.is_monic f.divides)) ]

  -- a ≠ 0 and b are coprime, if no irreducible polynomial divides both
  pub coprime_of_no_factor : (a b : Polynomial F) → ¬ (a ≡ R.zero)
      → ((f : Polynomial F) → IsIrreducible F f → IsMonic F f → Divides F f a → Divides F f b → ⊥) → IsCoprime F a b
  coprime_of_no_factor a b n h =
      let g = Gcd.gcd F a b in
      let l = constant_of_no_factor g (λ f i m d. h f i m (Divides.divides_trans F f g a d (Gcd.gcd-divides_left F a b)) (Divides.divides_trans F f g b d (Gcd.gcd-divides_right F a b))) in
      let o = Degree.size_of_nonzero F g (Gcd.gcd-nonzero_left F a b n) in
      Gcd.coprime_of_size F a b (omega (arith, l, o))

  -- ---- multiplicities

  -- a = p^e·b with p ∤ b, for a ≠ 0 and p not constant
  pub record Multiplicity (p a : Polynomial F) : Type 0 where
    pub exponent : ℕ
    pub is_multiplicity : IsMultiplicity F p a exponent

  multiplicity_in : (p : Polynomial F) → 2 ≤ size F p → (n : ℕ) (a : Polynomial F) → size F a ≤ n → ¬ (a ≡ R.zero) → Multiplicity p a
  multiplicity_in p k zero a l h = absurd (h (Degree.zero_of_size F a (omega (arith, l))))
  multiplicity_in p k (suc n) a l h = go (Divides.dec_divides F p a) (λ b lb hb. multiplicity_in p k n b lb hb)
    where
      one_mul : a ≡ R.mul (power R p 0) a
      one_mul = unfold power in sym (Laws.one-mul R a)

      more : (b : Polynomial F) → a ≡ R.mul b p → Multiplicity p b → Multiplicity p a
      more b e m = record {
        exponent = suc m.exponent;
        is_multiplicity = record {
          cofactor = m.is_multiplicity.cofactor;
          equation = e ∙ R.mul_comm b p ∙ ap (R.mul p) m.is_multiplicity.equation ∙ unfold power in sym (R.mul_assoc p (power R p m.exponent) m.is_multiplicity.cofactor);
          not_divides = m.is_multiplicity.not_divides;
        };
      }

      go : Dec (Divides F p a) → ((b : Polynomial F) → size F b ≤ n → ¬ (b ≡ R.zero) → Multiplicity p b) → Multiplicity p a
      go (no m) ih = record { exponent = 0; is_multiplicity = record { cofactor = a; equation = one_mul; not_divides = m } }
      go (yes d) ih =
          let s = Divides.size-cofactor F p a d h in
          more d.cofactor d.equation (ih d.cofactor (omega (arith, s, k, l)) (Divides.cofactor-nonzero F p a d h))

  -- every a ≠ 0 has a multiplicity at p, if p is not constant
  pub multiplicity_of : (p a : Polynomial F) → 2 ≤ size F p → ¬ (a ≡ R.zero) → Multiplicity p a
  multiplicity_of p a k = multiplicity_in p k (size F a) a (omega arith)

  -- the multiplicity is unique
  pub multiplicity_unique : (p a : Polynomial F) (e f : ℕ) → ¬ (p ≡ R.zero) → IsMultiplicity F p a e → IsMultiplicity F p a f → e ≡ f
  multiplicity_unique p a e f n h k = go e f h.cofactor k.cofactor h.not_divides k.not_divides (sym h.equation ∙ k.equation)
    where
      divides_power : (f : ℕ) (b c : Polynomial F) → R.mul (power R p 0) b ≡ R.mul (power R p (suc f)) c → Divides F p b
      divides_power f b c e = unfold power in record {
        cofactor = R.mul (power R p f) c;
        equation = sym (Laws.one-mul R b) ∙ e ∙ R.mul_assoc p (power R p f) c ∙ R.mul_comm p (R.mul (power R p f) c);
      }

      down : (e f : ℕ) (b c : Polynomial F) → R.mul (power R p (suc e)) b ≡ R.mul (power R p (suc f)) c → R.mul (power R p e) b ≡ R.mul (power R p f) c
      down e f b c h = unfold power in
          Degree.mul_polynomials_cancel F p (R.mul (power R p e) b) (R.mul (power R p f) c) n (sym (R.mul_assoc p (power R p e) b) ∙ h ∙ R.mul_assoc p (power R p f) c)

      go : (e f : ℕ) (b c : Polynomial F) → ¬ Divides F p b → ¬ Divides F p c → R.mul (power R p e) b ≡ R.mul (power R p f) c → e ≡ f
      go zero zero b c hb hc e = refl
      go zero (suc f) b c hb hc e = absurd (hb (divides_power f b c e))
      go (suc e) zero b c hb hc h = absurd (hc (divides_power e c b (sym h)))
      go (suc e) (suc f) b c hb hc h = ap suc (go e f b c hb hc (down e f b c h))

  -- multiplicities at an irreducible p add up: ν(a·b) = ν(a) + ν(b)
  pub multiplicity-mul : (p a b : Polynomial F) (e f : ℕ) → IsIrreducible F p → IsMultiplicity F p a e → IsMultiplicity F p b f → IsMultiplicity F p (R.mul a b) (e + f)
  multiplicity-mul p a b e f i h k = record {
    cofactor = R.mul h.cofactor k.cofactor;
    equation =
        ap₂ R.mul h.equation k.equation ∙ Laws.mul_exchange R (power R p e) h.cofactor (power R p f) k.cofactor
        ∙ ap (λ z. R.mul z (R.mul h.cofactor k.cofactor)) (sym (Laws.power-add R p e f));
    not_divides = λ d. neither (irreducible-prime p h.cofactor k.cofactor i d);
  }
    where
      neither : Divides F p h.cofactor ⊎ Divides F p k.cofactor → ⊥
      neither (inl x) = h.not_divides x
      neither (inr x) = k.not_divides x
