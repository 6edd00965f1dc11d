-- Multiplicities by powers that divide, of greatest common divisors and of derivatives; divisibility by the powers of irreducible polynomials.
use Rattle.std.specs.Prelude.{◌≡◌, ℕ, zero, suc, ◌+◌, ◌-◌, ◌≤◌, ◌⊎◌}
use Rattle.std.proofs.Common.{refl, sym, ap, ap₂, subst, ◌∙◌, arith, inl, inr}
use native.Mathlib.Decide.{dec_le}
use Rattle.risch_ring.specs.CommRing.{CommRing, Field, Derivation, power, of_nat, sub, HasCharacteristicZero}
use Rattle.risch_ring.proofs.Laws as Laws
use Rattle.risch_univariate.specs.Polynomial.{Polynomial, constant}
use Rattle.risch_univariate.specs.Degree.{size, IsMonic}
use Rattle.risch_univariate.specs.Division.{Divides, IsCoprime, IsIrreducible, IsMultiplicity}
use Rattle.risch_univariate.proofs.Degree as Degree
use Rattle.risch_univariate.proofs.Divides as Divides
use Rattle.risch_univariate.proofs.Gcd as Gcd
use Rattle.risch_univariate.proofs.Irreducible as Irreducible
use Rattle.risch_univariate.proofs.Identities as Identities
use Rattle.risch_ring.proofs.Derivations as Derivations
use Rattle.risch_univariate.specs.PolynomialRing.{polynomials}

module _ {A : Type 0} (F : Field A) where
  abbrev R : CommRing (Polynomial F)
  R = polynomials F

  -- p ≠ 0 gives p ^ n ≠ 0
  pub power-nonzero : (p : Polynomial F) (n : ℕ) → ¬ (p ≡ R.zero) → ¬ (power R p n ≡ R.zero)
  unfolding power
  power-nonzero p zero h = Degree.one-ne-zero F
  power-nonzero p (suc n) h = Degree.mul_polynomials-nonzero F p (power R p n) h (power-nonzero p n h)

  -- p ^ k | p ^ (k + j)
  pub power-divides-power : (p : Polynomial F) (k j : ℕ) → Divides F (power R p k) (power R p (k + j))
  power-divides-power p k j = record { cofactor = power R p j; equation = Laws.power-add R p k j ∙ R.mul_comm (power R p k) (power R p j) }

  -- p ^ k | a for k ≤ ν(a)
  pub power-divides_of_le : (p a : Polynomial F) (e k : ℕ) → IsMultiplicity F p a e → k ≤ e → Divides F (power R p k) a
  power-divides_of_le p a e k h l =
      let s : k + (e - k) ≡ e = omega (arith, l) in
      subst (Divides F (power R p k)) (sym h.equation)
      (Divides.divides_trans F (power R p k) (power R p e) (R.mul (power R p e) h.cofactor)
      (subst (λ n. Divides F (power R p k) (power R p n)) s (power-divides-power p k (e - k)))
      (Divides.divides-mul_right F (power R p e) h.cofactor))

  -- p ^ k | a only for k ≤ ν(a)
  pub le_of_power-divides : (p a : Polynomial F) (e k : ℕ) → ¬ (p ≡ R.zero) → IsMultiplicity F p a e → Divides F (power R p k) a → k ≤ e
  le_of_power-divides p a e k n h d = elim (dec_le k e) [ yes l ↦ l | no m ↦ absurd (h.not_divides (below (omega (arith, m)))) ]
    where
      below : suc e ≤ k → Divides F p h.cofactor
      below l =
          let s : e + suc (k - suc e) ≡ k = omega (arith, l) in
          let j = k - suc e in
          let next : Divides F (R.mul (power R p e) (power R p (suc j))) (R.mul (power R p e) h.cofactor) =
          subst (λ z. Divides F z (R.mul (power R p e) h.cofactor)) (ap (power R p) (sym s) ∙ Laws.power-add R p e (suc j)) (subst (Divides F (power R p k)) h.equation d) in
          Divides.divides_trans F p (power R p (suc j)) h.cofactor
          (unfold power in Divides.divides-mul_right F p (power R p j))
          (Divides.divides_cancel F (power R p e) (power R p (suc j)) h.cofactor (power-nonzero p e n) next)

  -- p ^ e | a and not p ^ (e + 1) | a give ν(a) = e
  pub multiplicity_of_bounds : (p a : Polynomial F) (e : ℕ) → Divides F (power R p e) a → ¬ Divides F (power R p (suc e)) a → IsMultiplicity F p a e
  multiplicity_of_bounds p a e h n = record {
    cofactor = h.cofactor;
    equation = h.equation ∙ R.mul_comm h.cofactor (power R p e);
    not_divides = λ d. n (subst (Divides F (power R p (suc e))) (sym h.equation)
        (unfold power in Divides.divides-mul_mul F p (power R p e) h.cofactor (power R p e) d (Divides.divides_refl F (power R p e))));
  }

  -- p ∤ a gives ν(p^m·a) = m
  pub multiplicity-power_mul : (p : Polynomial F) (m : ℕ) (a : Polynomial F) → ¬ Divides F p a → IsMultiplicity F p (R.mul (power R p m) a) m
  multiplicity-power_mul p m a n = record { cofactor = a; equation = refl; not_divides = n }

  -- p ∤ a gives ν(a) = 0
  pub multiplicity_zero : (p a : Polynomial F) → ¬ Divides F p a → IsMultiplicity F p a 0
  multiplicity_zero p a n = record { cofactor = a; equation = sym (ap (λ w. R.mul w a) (Laws.power-zero R p) ∙ Laws.one-mul R a); not_divides = n }

  -- ν(gcd(a, b)) = ν(a), if ν(a) ≤ ν(b)
  pub multiplicity-gcd : (p a b : Polynomial F) (e f : ℕ) → ¬ (p ≡ R.zero) → IsMultiplicity F p a e → IsMultiplicity F p b f → e ≤ f
      → IsMultiplicity F p (Gcd.gcd F a b) e
  multiplicity-gcd p a b e f n h k l = multiplicity_of_bounds p (Gcd.gcd F a b) e
      (Gcd.gcd-greatest F a b (power R p e) (power-divides_of_le p a e e h (omega arith)) (power-divides_of_le p b f e k l))
      (λ d. let z = le_of_power-divides p a e (suc e) n h (Divides.divides_trans F (power R p (suc e)) (Gcd.gcd F a b) a d (Gcd.gcd-divides_left F a b)) in absurd (omega (arith, z)))

  -- ν(b) = ν(a) - ν(d) for a = b·d and irreducible p
  pub multiplicity-cofactor : (p b d : Polynomial F) (e f : ℕ) → IsIrreducible F p → ¬ (b ≡ R.zero) → IsMultiplicity F p (R.mul b d) (e + f) → IsMultiplicity F p d f
      → IsMultiplicity F p b e
  multiplicity-cofactor p b d e f i n h k =
      let m = Irreducible.multiplicity_of F p b i.not_constant n in
      let s = Irreducible.multiplicity_unique F p (R.mul b d) (m.exponent + f) (e + f) (Irreducible.irreducible-nonzero F p i)
      (Irreducible.multiplicity-mul F p b d m.exponent f i m.is_multiplicity k) h in
      subst (IsMultiplicity F p b) (let z : m.exponent ≡ e = omega (arith, s) in z) m.is_multiplicity

  -- ---- derivatives

  -- n·1 in K[t] is the constant n·1
  pub constant-of_nat : (n : ℕ) → constant F (of_nat F.ring n) ≡ of_nat R n
  unfolding of_nat
  constant-of_nat zero = Degree.constant-zero F
  constant-of_nat (suc n) = Degree.constant-add F F.one (of_nat F.ring n) ∙ ap₂ R.add (Degree.constant-one F) (constant-of_nat n)

  -- a = p ^ (e + 1)·b gives D(a) = p ^ e·((e + 1)·D(p)·b + p·D(b))
  pub derive-power_mul : (D : Derivation R) (p b : Polynomial F) (e : ℕ)
      → D.derive (R.mul (power R p (suc e)) b) ≡ R.mul (power R p e) (R.add (R.mul (of_nat R (suc e)) (R.mul (D.derive p) b)) (R.mul p (D.derive b)))
  derive-power_mul D p b e =
      D.derive-mul (power R p (suc e)) b ∙ ap₂ (λ y z. R.add (R.mul y b) (R.mul z (D.derive b))) (Derivations.derive-power D p e ∙ R.mul_assoc (of_nat R (suc e)) (power R p e) (D.derive p)) (Laws.power-suc R p e)
      ∙ Identities.derive_power_mul_identity R (of_nat R (suc e)) (power R p e) (D.derive p) b p (D.derive b)

  -- p·D(p^m·a) = p^m·(m·D(p)·a + p·D(a))
  pub mul-derive-power_mul : (D : Derivation R) (p a : Polynomial F) (m : ℕ)
      → R.mul p (D.derive (R.mul (power R p m) a)) ≡ R.mul (power R p m) (R.add (R.mul (of_nat R m) (R.mul (D.derive p) a)) (R.mul p (D.derive a)))
  mul-derive-power_mul D p a zero =
      ap (λ z. R.mul p (D.derive (R.mul z a))) (Laws.power-zero R p) ∙ ap (λ z. R.mul p (D.derive z)) (Laws.one-mul R a)
      ∙ sym (ap (λ z. R.mul z (R.add (R.mul (of_nat R 0) (R.mul (D.derive p) a)) (R.mul p (D.derive a)))) (Laws.power-zero R p) ∙ Laws.one-mul R _
      ∙ ap (λ z. R.add z (R.mul p (D.derive a))) (ap (λ z. R.mul z (R.mul (D.derive p) a)) (Laws.of_nat-zero R) ∙ Laws.zero-mul R (R.mul (D.derive p) a))
      ∙ Laws.zero-add R (R.mul p (D.derive a)))
  mul-derive-power_mul D p a (suc m) =
      ap (R.mul p) (derive-power_mul D p a m) ∙ sym (R.mul_assoc p (power R p m) _)
      ∙ ap (λ z. R.mul z (R.add (R.mul (of_nat R (suc m)) (R.mul (D.derive p) a)) (R.mul p (D.derive a)))) (sym (Laws.power-suc R p m))

  -- p irreducible with p ∤ D(p), in characteristic 0: ν(D(a)) = ν(a) - 1
  pub multiplicity-derive : HasCharacteristicZero F.ring → (D : Derivation R) (p a : Polynomial F) (e : ℕ) → IsIrreducible F p → ¬ Divides F p (D.derive p)
      → IsMultiplicity F p a (suc e) → IsMultiplicity F p (D.derive a) e
  multiplicity-derive char D p a e i n h = record {
    cofactor = R.add (R.mul (of_nat R (suc e)) (R.mul (D.derive p) h.cofactor)) (R.mul p (D.derive h.cofactor));
    equation = ap D.derive h.equation ∙ derive-power_mul D p h.cofactor e;
    not_divides = λ d. one_of (Irreducible.irreducible-prime F p (of_nat R (suc e)) (R.mul (D.derive p) h.cofactor) i
        (Divides.divides_of_add F p (R.mul p (D.derive h.cofactor)) (R.mul (of_nat R (suc e)) (R.mul (D.derive p) h.cofactor))
        (Divides.divides-mul_right F p (D.derive h.cofactor))
        (subst (Divides F p) (R.add_comm (R.mul (of_nat R (suc e)) (R.mul (D.derive p) h.cofactor)) (R.mul p (D.derive h.cofactor))) d)));
  }
    where
      two_of : Divides F p (D.derive p) ⊎ Divides F p h.cofactor → ⊥
      two_of (inl x) = n x
      two_of (inr x) = h.not_divides x

      one_of : Divides F p (of_nat R (suc e)) ⊎ Divides F p (R.mul (D.derive p) h.cofactor) → ⊥
      one_of (inl x) = Irreducible.irreducible-not_unit F p i
          (Divides.divides_trans F p (constant F (of_nat F.ring (suc e))) R.one (subst (Divides F p) (sym (constant-of_nat (suc e))) x)
          (Divides.constant-divides F (of_nat F.ring (suc e)) R.one (char e)))
      one_of (inr x) = two_of (Irreducible.irreducible-prime F p (D.derive p) h.cofactor i x)

  -- ---- divisibility by the powers of irreducible polynomials

  -- monic irreducible polynomials that differ are coprime
  pub irreducible-distinct : (f g : Polynomial F) → IsIrreducible F f → IsIrreducible F g → IsMonic F f → IsMonic F g → ¬ (f ≡ g) → IsCoprime F f g
  irreducible-distinct f g i j mf mg n = go (Irreducible.irreducible-coprime F f g i)
    where
      same : Divides F f g → (size F f ≤ 1) ⊎ (size F f ≡ size F g) → IsCoprime F f g
      same d (inl l) = let k = i.not_constant in absurd (omega (arith, l, k))
      same d (inr e) = absurd (n (Gcd.monic_antisymm F f g mf mg d (Irreducible.divides_of_same_size F f g d (Irreducible.irreducible-nonzero F g j) e)))

      go : IsCoprime F f g ⊎ Divides F f g → IsCoprime F f g
      go (inl c) = c
      go (inr d) = same d (j.divisors f d)

  -- the powers of irreducible polynomials that divide a divide b
  abbrev pub PowersDivide : (a b : Polynomial F) → Type 0
  PowersDivide a b = (f : Polynomial F) → IsIrreducible F f → IsMonic F f → (k : ℕ) → Divides F (power R f k) a → Divides F (power R f k) b

  divides_of_powers_in : (n : ℕ) (a b : Polynomial F) → size F a ≤ n → ¬ (a ≡ R.zero) → PowersDivide a b → Divides F a b
  divides_of_powers_in zero a b l n h = absurd (n (Degree.zero_of_size F a (omega (arith, l))))
  divides_of_powers_in (suc m) a b l n h = elim (dec_le (size F a) 1) [
    | yes small ↦ Divides.unit-divides F a b (let o = Degree.size_of_nonzero F a n in omega (arith, small, o))
    | no large ↦ Irreducible.by_irreducible_factor F (Divides.dec_divides F a b) a (omega (arith, large))
        (λ f i mf d. by_factor f i mf d (at_one f i mf d) (λ a' b' l' n' h'. divides_of_powers_in m a' b' l' n' h'))
  ]
    where
      at_one : (f : Polynomial F) → IsIrreducible F f → IsMonic F f → Divides F f a → Divides F f b
      at_one f i mf d = subst (λ z. Divides F z b) (Laws.power-one R f) (h f i mf 1 (subst (λ z. Divides F z a) (sym (Laws.power-one R f)) d))

      by_factor : (f : Polynomial F) → IsIrreducible F f → IsMonic F f → Divides F f a → Divides F f b
          → ((a' b' : Polynomial F) → size F a' ≤ m → ¬ (a' ≡ R.zero) → PowersDivide a' b' → Divides F a' b') → Divides F a b
      by_factor f i mf da db ih =
          subst (λ z. Divides F z b) (sym da.equation) (subst (Divides F (R.mul da.cofactor f)) (sym db.equation)
          (Divides.divides-mul_mul F da.cofactor f db.cofactor f
          (ih da.cofactor db.cofactor (let s = Divides.size-cofactor F f a da n in let k = i.not_constant in omega (arith, s, k, l)) (Divides.cofactor-nonzero F f a da n) powers)
          (Divides.divides_refl F f)))
        where
          to_b : (g : Polynomial F) → IsIrreducible F g → IsMonic F g → (k : ℕ) → Divides F (power R g k) (R.mul da.cofactor f) → Divides F (power R g k) (R.mul db.cofactor f)
          to_b g j mg k d = subst (Divides F (power R g k)) db.equation (h g j mg k (subst (Divides F (power R g k)) (sym da.equation) d))

          powers : PowersDivide da.cofactor db.cofactor
          powers g j mg k d = elim (Degree.dec_polynomial F g f) [
            | yes e ↦
                let d' : Divides F (R.mul (power R g k) g) (R.mul da.cofactor f) =
                subst (λ z. Divides F (R.mul (power R g k) g) (R.mul da.cofactor z)) e (Divides.divides-mul_mul F (power R g k) g da.cofactor g d (Divides.divides_refl F g)) in
                let next : Divides F (power R g (suc k)) (R.mul da.cofactor f) = subst (λ z. Divides F z (R.mul da.cofactor f)) (R.mul_comm (power R g k) g ∙ sym (Laws.power-suc R g k)) d' in
                let back : Divides F (R.mul g (power R g k)) (R.mul g db.cofactor) =
                subst (Divides F (R.mul g (power R g k))) (ap (R.mul db.cofactor) (sym e) ∙ R.mul_comm db.cofactor g)
                (subst (λ z. Divides F z (R.mul db.cofactor f)) (Laws.power-suc R g k) (to_b g j mg (suc k) next)) in
                Divides.divides_cancel F g (power R g k) db.cofactor (Irreducible.irreducible-nonzero F g j) back
            | no n' ↦
                Gcd.coprime-divides_of_mul F (power R g k) f db.cofactor (Gcd.coprime-power F g f k (irreducible-distinct g f j i mg mf n'))
                (subst (Divides F (power R g k)) (R.mul_comm db.cofactor f)
                (to_b g j mg k (Divides.divides_trans F (power R g k) da.cofactor (R.mul da.cofactor f) d (Divides.divides-mul_right F da.cofactor f))))
          ]

  -- a ≠ 0 divides b, if every power of an irreducible polynomial that divides a divides b
  pub divides_of_powers : (a b : Polynomial F) → ¬ (a ≡ R.zero) → PowersDivide a b → Divides F a b
  divides_of_powers a b = divides_of_powers_in (size F a) a b (omega arith)

  -- ---- characteristic 0: m·1 - n·1 is a constant that is not 0, for m ≠ n

  -- m ≠ n gives m·1 - n·1 | 1 in K[t]
  pub difference-unit : HasCharacteristicZero F.ring → (m n : ℕ) → ¬ (m ≡ n) → Divides F (sub R (of_nat R m) (of_nat R n)) R.one
  difference-unit char m n differ =
      subst (λ z. Divides F z R.one)
      (Degree.constant-add F (of_nat F.ring m) (F.neg (of_nat F.ring n)) ∙ ap₂ R.add (constant-of_nat m) (Degree.constant-neg F (of_nat F.ring n) ∙ ap R.neg (constant-of_nat n)))
      (Divides.constant-divides F (F.add (of_nat F.ring m) (F.neg (of_nat F.ring n))) R.one
      (λ e. differ (Laws.of_nat-injective F.ring char m n (Laws.eq_of_sub F.ring (of_nat F.ring m) (of_nat F.ring n) e))))
