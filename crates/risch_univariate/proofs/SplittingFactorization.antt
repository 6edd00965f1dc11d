-- Laws of normal and special polynomials for a derivation D of K[t] (characteristic 0), and the splitting factorization of every monic d.
-- One step: S = gcd(d, D(d)) / gcd(d, ∂d) is the product of the special irreducible factors of d, each once.
use Rattle.std.specs.Prelude.{◌≡◌, ℕ, zero, suc, ◌+◌, ◌-◌, ◌≤◌, ◌⊎◌}
use Rattle.std.proofs.Common.{sym, ap, subst, ◌∙◌, arith, inl, inr}
use native.Mathlib.Decide.{dec_le}
use Rattle.risch_ring.specs.CommRing.{CommRing, Field, Derivation, power, of_nat, HasCharacteristicZero}
use Rattle.risch_ring.proofs.Laws as Laws
use Rattle.risch_univariate.specs.Polynomial.{Polynomial}
use Rattle.risch_univariate.specs.Degree.{size, IsMonic}
use Rattle.risch_univariate.specs.Division.{IsCoprime, IsIrreducible, IsSquareFree, IsMultiplicity}
use Rattle.risch_univariate.proofs.Degree as Degree
use Rattle.risch_univariate.proofs.Divides as Divides
use Rattle.risch_univariate.proofs.Gcd as Gcd
use Rattle.risch_univariate.proofs.Irreducible as Irreducible
use Rattle.risch_univariate.proofs.Multiplicity as Multiplicity
use Rattle.risch_univariate.proofs.SquareFree as SquareFree
use Rattle.risch_univariate.proofs.FormalDerivative as FormalDerivative
use Rattle.risch_univariate.specs.PolynomialOperators.{polynomial_operators}
use Rattle.risch_univariate.specs.PolynomialRing.{polynomials}
use Rattle.risch_univariate.specs.SplittingFactorization.{IsNormal, IsSpecial, SplittingFactorization}

module _ {A : Type 0} (F : Field A) (char : HasCharacteristicZero F.ring) (D : Derivation (polynomials F)) where
  abbrev R : CommRing (Polynomial F)
  R = polynomials F

  open (polynomial_operators F) use {𝟘, 𝟙, ◌+◌ as ◌+ₚ◌, ◌*◌, ◌^◌, ◌∣◌}

  -- an irreducible polynomial is normal or special
  pub normal_or_special : (f : Polynomial F) → IsIrreducible F f → IsNormal F D f ⊎ IsSpecial F D f
  normal_or_special f = Irreducible.irreducible-coprime F f (D.derive f)

  -- a normal irreducible polynomial is not special
  pub normal-not_special : (f : Polynomial F) → IsIrreducible F f → IsNormal F D f → ¬ IsSpecial F D f
  normal-not_special f i n s = Irreducible.irreducible-not_unit F f i (Gcd.coprime-common_divisor F f (D.derive f) f n (Divides.divides_refl F f) s)

  -- f special: f^e | a gives f^e | D(a)
  pub special-power_derive : (f a : Polynomial F) (e : ℕ) → IsSpecial F D f → f ^ e ∣ a → f ^ e ∣ D.derive a
  special-power_derive f a zero s h = unfold power in Divides.unit-divides F 𝟙 (D.derive a) (Degree.size-one F)
  special-power_derive f a (suc e) s h =
      subst (λ z. f ^ suc e ∣ D.derive z) (sym (h.equation ∙ R.mul_comm h.cofactor (f ^ suc e)))
      (subst (λ z. f ^ suc e ∣ z) (sym (Multiplicity.derive-power_mul F D f h.cofactor e))
      (subst (λ z. z ∣ f ^ e * inner) (R.mul_comm (f ^ e) f ∙ sym (Laws.power-suc R f e))
      (Divides.divides-mul_mul F (f ^ e) f (f ^ e) inner (Divides.divides_refl F (f ^ e))
      (Divides.divides-add F f (of_nat R (suc e) * (D.derive f * h.cofactor)) (f * D.derive h.cofactor)
      (Divides.divides-mul_left F f (of_nat R (suc e)) (D.derive f * h.cofactor)
      (Divides.divides_trans F f (D.derive f) (D.derive f * h.cofactor) s (Divides.divides-mul_right F (D.derive f) h.cofactor)))
      (Divides.divides-mul_right F f (D.derive h.cofactor))))))
    where
      inner : Polynomial F
      inner = of_nat R (suc e) * (D.derive f * h.cofactor) +ₚ f * D.derive h.cofactor

  -- s whose irreducible factors are all special is special
  pub special_of_factors : (s : Polynomial F) → ¬ (s ≡ 𝟘) → ((f : Polynomial F) → IsIrreducible F f → IsMonic F f → f ∣ s → IsSpecial F D f) → IsSpecial F D s
  special_of_factors s n h = Multiplicity.divides_of_powers F s (D.derive s) n powers
    where
      powers : (f : Polynomial F) → IsIrreducible F f → IsMonic F f → (k : ℕ) → f ^ k ∣ s → f ^ k ∣ D.derive s
      powers f i m zero d = special_zero f
        where
          special_zero : (f : Polynomial F) → f ^ 0 ∣ D.derive s
          special_zero f = unfold power in Divides.unit-divides F 𝟙 (D.derive s) (Degree.size-one F)
      powers f i m (suc k) d =
          special-power_derive f s (suc k)
          (h f i m (Divides.divides_trans F f (f ^ suc k) s (subst (λ z. f ∣ z) (sym (Laws.power-suc R f k)) (Divides.divides-mul_right F f (f ^ k))) d)) d

  -- ν_f(D(a)) = ν_f(a) - 1 for f normal
  normal-multiplicity : (f a : Polynomial F) (e : ℕ) → IsIrreducible F f → IsNormal F D f → IsMultiplicity F f a (suc e) → IsMultiplicity F f (D.derive a) e
  normal-multiplicity f a e i n = Multiplicity.multiplicity-derive F char D f a e i (normal-not_special f i n)

  -- n square-free without special factors is normal
  pub normal_of_factors : (n : Polynomial F) → ¬ (n ≡ 𝟘) → IsSquareFree F n → ((f : Polynomial F) → IsIrreducible F f → IsMonic F f → f ∣ n → IsNormal F D f) → IsNormal F D n
  normal_of_factors n z q h = Irreducible.coprime_of_no_factor F n (D.derive n) z λ f i m a b. go f i (h f i m a) a b (Irreducible.multiplicity_of F f n i.not_constant z)
    where
      go : (f : Polynomial F) → IsIrreducible F f → IsNormal F D f → f ∣ n → f ∣ D.derive n → Irreducible.Multiplicity F f n → ⊥
      go f i nf a b v = cases v.exponent v.is_multiplicity
        where
          nz : ¬ (f ≡ 𝟘)
          nz = Irreducible.irreducible-nonzero F f i

          one_power : (x : Polynomial F) → f ∣ x → f ^ 1 ∣ x
          one_power x = subst (λ z. z ∣ x) (sym (Laws.power-one R f))

          cases : (e : ℕ) → IsMultiplicity F f n e → ⊥
          cases zero v = let l = Multiplicity.le_of_power-divides F f n 0 1 nz v (one_power n a) in omega (arith, l)
          cases (suc zero) v = let l = Multiplicity.le_of_power-divides F f (D.derive n) 0 1 nz (normal-multiplicity f n 0 i nf v) (one_power (D.derive n) b) in omega (arith, l)
          cases (suc (suc e)) v =
              let l = q f (subst (λ z. z ∣ n) (Laws.power-suc R f 1 ∙ ap (R.mul f) (Laws.power-one R f)) (Multiplicity.power-divides_of_le F f n (suc (suc e)) 2 v (omega arith))) in
              let k = i.not_constant in
              omega (arith, l, k)

  -- ---- one step of the splitting

  abbrev ∂ : Polynomial F → Polynomial F
  ∂ = FormalDerivative.formal_derivative F

  -- g = gcd(d, ∂d) and G = gcd(d, D(d))
  abbrev pub formal_gcd : Polynomial F → Polynomial F
  formal_gcd d = Gcd.gcd F d (∂ d)

  -- gcd(d, D(d))
  abbrev pub derivative_gcd : Polynomial F → Polynomial F
  derivative_gcd d = Gcd.gcd F d (D.derive d)

  module _ (d : Polynomial F) (nonzero : ¬ (d ≡ 𝟘)) (f : Polynomial F) (i : IsIrreducible F f) where
    nz : ¬ (f ≡ 𝟘)
    nz = Irreducible.irreducible-nonzero F f i

    -- an irreducible factor of d has a multiplicity of at least 1
    positive : (e : ℕ) → IsMultiplicity F f d e → f ∣ d → 1 ≤ e
    positive e v h = Multiplicity.le_of_power-divides F f d e 1 nz v (subst (λ z. z ∣ d) (sym (Laws.power-one R f)) h)

    -- ν_f(gcd(d, ∂d)) = e for ν_f(d) = e + 1
    formal_gcd-multiplicity : (e : ℕ) → IsMultiplicity F f d (suc e) → IsMultiplicity F f (formal_gcd d) e
    formal_gcd-multiplicity e v =
        let w = SquareFree.multiplicity-formal_derivative F char f d e i v in
        Multiplicity.multiplicity_of_bounds F f (formal_gcd d) e
        (Gcd.gcd-greatest F d (∂ d) (f ^ e) (Multiplicity.power-divides_of_le F f d (suc e) e v (omega arith))
        (Multiplicity.power-divides_of_le F f (∂ d) e e w (omega arith)))
        (λ k. let l = Multiplicity.le_of_power-divides F f (∂ d) e (suc e) nz w
        (Divides.divides_trans F (f ^ suc e) (formal_gcd d) (∂ d) k (Gcd.gcd-divides_right F d (∂ d)))
        in absurd (omega (arith, l)))

    -- f^e | D(d) for ν_f(d) = e + 1
    power_derive : (e : ℕ) → IsMultiplicity F f d (suc e) → f ^ e ∣ D.derive d
    power_derive e v = go (normal_or_special f i)
      where
        go : IsNormal F D f ⊎ IsSpecial F D f → f ^ e ∣ D.derive d
        go (inl n) = Multiplicity.power-divides_of_le F f (D.derive d) e e (normal-multiplicity f d e i n v) (omega arith)
        go (inr s) = special-power_derive f d e s (Multiplicity.power-divides_of_le F f d (suc e) e v (omega arith))

    -- the powers of f that divide gcd(d, ∂d) divide gcd(d, D(d))
    formal_gcd-power : (k : ℕ) → f ^ k ∣ formal_gcd d → f ^ k ∣ derivative_gcd d
    formal_gcd-power k h = go (Irreducible.multiplicity_of F f d i.not_constant nonzero)
      where
        to_d : f ^ k ∣ d
        to_d = Divides.divides_trans F (f ^ k) (formal_gcd d) d h (Gcd.gcd-divides_left F d (∂ d))

        to_derivative : (e : ℕ) → IsMultiplicity F f d e → f ^ k ∣ D.derive d
        to_derivative zero v =
            let l = Multiplicity.le_of_power-divides F f d 0 k nz v to_d in
            let z : 0 ≡ k = omega (arith, l) in
            subst (λ j. f ^ j ∣ D.derive d) z (unfold power in Divides.unit-divides F 𝟙 (D.derive d) (Degree.size-one F))
        to_derivative (suc e) v =
            let l = Multiplicity.le_of_power-divides F f (formal_gcd d) e k nz (formal_gcd-multiplicity e v) h in
            let s : k + (e - k) ≡ e = omega (arith, l) in
            Divides.divides_trans F (f ^ k) (f ^ e) (D.derive d)
            (subst (λ j. f ^ k ∣ f ^ j) s (Multiplicity.power-divides-power F f k (e - k))) (power_derive e v)

        go : Irreducible.Multiplicity F f d → f ^ k ∣ derivative_gcd d
        go v = Gcd.gcd-greatest F d (D.derive d) (f ^ k) to_d (to_derivative v.exponent v.is_multiplicity)

    -- with gcd(d, D(d)) = S·gcd(d, ∂d): an irreducible factor of S is special
    pub factor_of_step : (S : Polynomial F) → derivative_gcd d ≡ S * formal_gcd d → f ∣ S → IsSpecial F D f
    factor_of_step S e h = go (normal_or_special f i)
      where
        to_d : f ∣ d
        to_d = Divides.divides_trans F f (derivative_gcd d) d
            (subst (λ z. f ∣ z) (sym e) (Divides.divides_trans F f S (S * formal_gcd d) h (Divides.divides-mul_right F S (formal_gcd d))))
            (Gcd.gcd-divides_left F d (D.derive d))

        not_normal : IsNormal F D f → (k : ℕ) → IsMultiplicity F f d k → ⊥
        not_normal n zero v = let l = positive 0 v to_d in omega (arith, l)
        not_normal n (suc k) v =
            let low = Multiplicity.power-divides_of_le F f (formal_gcd d) k k (formal_gcd-multiplicity k v) (omega arith) in
            let high : f ^ suc k ∣ derivative_gcd d =
            subst (λ z. z ∣ derivative_gcd d) (sym (Laws.power-suc R f k)) (subst (λ z. f * f ^ k ∣ z) (sym e) (Divides.divides-mul_mul F f (f ^ k) S (formal_gcd d) h low)) in
            let l = Multiplicity.le_of_power-divides F f (D.derive d) k (suc k) nz (normal-multiplicity f d k i n v)
            (Divides.divides_trans F (f ^ suc k) (derivative_gcd d) (D.derive d) high (Gcd.gcd-divides_right F d (D.derive d))) in
            omega (arith, l)

        go : IsNormal F D f ⊎ IsSpecial F D f → IsSpecial F D f
        go (inl n) = let v = Irreducible.multiplicity_of F f d i.not_constant nonzero in absurd (not_normal n v.exponent v.is_multiplicity)
        go (inr s) = s

    -- a special irreducible factor of d divides S
    pub special-divides_step : (S : Polynomial F) → derivative_gcd d ≡ S * formal_gcd d → IsSpecial F D f → f ∣ d → f ∣ S
    special-divides_step S e s h = go (Irreducible.multiplicity_of F f d i.not_constant nonzero)
      where
        cases : (k : ℕ) → IsMultiplicity F f d k → f ∣ S
        cases zero v = let l = positive 0 v h in absurd (omega (arith, l))
        cases (suc k) v =
            let w = formal_gcd-multiplicity k v in
            let to_d = Multiplicity.power-divides_of_le F f d (suc k) (suc k) v (omega arith) in
            let to_gcd = Gcd.gcd-greatest F d (D.derive d) (f ^ suc k) to_d (special-power_derive f d (suc k) s to_d) in
            let cancelled : f ∣ S * w.cofactor =
            Divides.divides_cancel F (f ^ k) f (S * w.cofactor) (Multiplicity.power-nonzero F f k nz)
            (subst (λ z. z ∣ f ^ k * (S * w.cofactor)) (Laws.power-suc R f k ∙ R.mul_comm f (f ^ k))
            (subst (λ z. f ^ suc k ∣ z) (e ∙ ap (R.mul S) w.equation ∙ Laws.mul_left_comm R S (f ^ k) w.cofactor) to_gcd)) in
            one_of (Irreducible.irreducible-prime F f S w.cofactor i cancelled) w.not_divides
          where
            one_of : {x : Polynomial F} → f ∣ S ⊎ f ∣ x → ¬ (f ∣ x) → f ∣ S
            one_of (inl a) n = a
            one_of (inr b) n = absurd (n b)

        go : Irreducible.Multiplicity F f d → f ∣ S
        go v = cases v.exponent v.is_multiplicity

    -- where S is a constant, an irreducible factor of d is normal
    pub normal_of_end : (S : Polynomial F) → derivative_gcd d ≡ S * formal_gcd d → size F S ≤ 1 → f ∣ d → IsNormal F D f
    normal_of_end S e small h = go (normal_or_special f i)
      where
        some : ¬ (S ≡ 𝟘)
        some = Degree.nonzero_of_mul_left F S (formal_gcd d) (λ z. Gcd.gcd-nonzero_left F d (D.derive d) nonzero (e ∙ z))

        go : IsNormal F D f ⊎ IsSpecial F D f → IsNormal F D f
        go (inl n) = n
        go (inr s) =
            let a = Divides.size-divides F f S (special-divides_step S e s h) some in
            let b = i.not_constant in
            absurd (omega (arith, a, b, small))

  -- gcd(d, ∂d) | gcd(d, D(d)), for the quotient S
  pub step-divides : (d : Polynomial F) → ¬ (d ≡ 𝟘) → formal_gcd d ∣ derivative_gcd d
  step-divides d n = Multiplicity.divides_of_powers F (formal_gcd d) (derivative_gcd d) (Gcd.gcd-nonzero_left F d (∂ d) n)
      (λ f i m k h. formal_gcd-power d n f i k h)

  split_in : (n : ℕ) (d : Polynomial F) → size F d ≤ n → IsMonic F d → SplittingFactorization F D d
  split_in zero d l monic = absurd (Gcd.monic-nonzero F d monic (Degree.zero_of_size F d (omega (arith, l))))
  split_in (suc n) d l monic = go (dec_le (size F step.cofactor) 1) (λ b lb mb. split_in n b lb mb)
    where
      h : ¬ (d ≡ 𝟘)
      h = Gcd.monic-nonzero F d monic

      step : formal_gcd d ∣ derivative_gcd d
      step = step-divides d h

      step_is_monic : IsMonic F step.cofactor
      step_is_monic = Gcd.cofactor-is_monic F (formal_gcd d) (derivative_gcd d) step
          (Gcd.gcd-is_monic F d (D.derive d) (Gcd.gcd-nonzero_left F d (D.derive d) h))
          (Gcd.gcd-is_monic F d (∂ d) (Gcd.gcd-nonzero_left F d (∂ d) h))

      to_d : step.cofactor ∣ d
      to_d = Divides.divides_trans F step.cofactor (derivative_gcd d) d
          (subst (λ z. step.cofactor ∣ z) (sym step.equation) (Divides.divides-mul_right F step.cofactor (formal_gcd d))) (Gcd.gcd-divides_left F d (D.derive d))

      go : Dec (size F step.cofactor ≤ 1) → ((b : Polynomial F) → size F b ≤ n → IsMonic F b → SplittingFactorization F D b) → SplittingFactorization F D d
      go (yes small) ih = record {
        normal = d;
        special = 𝟙;
        equation = sym (R.mul-one d);
        normal_is_monic = monic;
        special_is_monic = Gcd.one-is_monic F;
        normal_factors = λ f i m k. normal_of_end d h f i step.cofactor step.equation small k;
        special_factors = λ f i m k. absurd (Irreducible.irreducible-not_unit F f i k);
      }
      go (no large) ih = record {
        normal = rest.normal;
        special = step.cofactor * rest.special;
        equation = to_d.equation ∙ ap (λ z. z * step.cofactor) rest.equation ∙ R.mul_assoc rest.normal rest.special step.cofactor ∙ ap (R.mul rest.normal) (R.mul_comm rest.special step.cofactor);
        normal_is_monic = rest.normal_is_monic;
        special_is_monic = Gcd.mul-is_monic F step.cofactor rest.special step_is_monic rest.special_is_monic;
        normal_factors = rest.normal_factors;
        special_factors = λ f i m k. from f i m (Irreducible.irreducible-prime F f step.cofactor rest.special i k);
      }
        where
          rest : SplittingFactorization F D to_d.cofactor
          rest = ih to_d.cofactor (let s = Divides.size-cofactor F step.cofactor d to_d h in omega (arith, s, large, l)) (Gcd.cofactor-is_monic F step.cofactor d to_d monic step_is_monic)

          from : (f : Polynomial F) → IsIrreducible F f → IsMonic F f → f ∣ step.cofactor ⊎ f ∣ rest.special → IsSpecial F D f
          from f i m (inl a) = factor_of_step d h f i step.cofactor step.equation a
          from f i m (inr b) = rest.special_factors f i m b

  -- every monic d splits
  pub split : (d : Polynomial F) → IsMonic F d → SplittingFactorization F D d
  split d = split_in (size F d) d (omega arith)

  -- the special part is special: s | D(s)
  pub split-special : (d : Polynomial F) (x : SplittingFactorization F D d) → IsSpecial F D x.special
  split-special d x = special_of_factors x.special (Gcd.monic-nonzero F x.special x.special_is_monic) x.special_factors

  -- the normal and the special part are coprime
  pub split-coprime : (d : Polynomial F) (x : SplittingFactorization F D d) → IsCoprime F x.normal x.special
  split-coprime d x = Irreducible.coprime_of_no_factor F x.normal x.special (Gcd.monic-nonzero F x.normal x.normal_is_monic)
      (λ f i m a b. normal-not_special f i (x.normal_factors f i m a) (x.special_factors f i m b))

  -- a square-free normal part is normal: gcd(n, D(n)) = 1
  pub split-normal : (d : Polynomial F) (x : SplittingFactorization F D d) → IsSquareFree F x.normal → IsNormal F D x.normal
  split-normal d x q = normal_of_factors x.normal (Gcd.monic-nonzero F x.normal x.normal_is_monic) q x.normal_factors
