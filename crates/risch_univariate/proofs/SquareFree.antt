-- d is square-free iff gcd(d, ∂d) = 1 (characteristic 0), and d / gcd(d, ∂d) is square-free.
use Rattle.std.specs.Prelude.{◌≡◌, ℕ, zero, suc, ◌+◌}
use Rattle.std.proofs.Common.{sym, ap, subst, ◌∙◌, arith}
use Rattle.risch_ring.specs.CommRing.{CommRing, Field, Derivation, power, HasCharacteristicZero}
use Rattle.risch_ring.proofs.Laws as Laws
use Rattle.risch_univariate.specs.Polynomial.{Polynomial}
use Rattle.risch_univariate.specs.Degree.{IsMonic}
use Rattle.risch_univariate.specs.Division.{Divides, IsCoprime, IsIrreducible, IsMultiplicity, IsSquareFree}
use Rattle.risch_univariate.proofs.Degree as Degree
use Rattle.risch_univariate.proofs.Divides as Divides
use Rattle.risch_univariate.proofs.Gcd as Gcd
use Rattle.risch_univariate.proofs.Irreducible as Irreducible
use Rattle.risch_univariate.proofs.Multiplicity as Multiplicity
use Rattle.risch_univariate.proofs.Derivation as Derivation
use Rattle.risch_univariate.proofs.FormalDerivative as FormalDerivative
use Rattle.risch_univariate.proofs.Identities as Identities
use Rattle.risch_univariate.specs.PolynomialRing.{polynomials}

module _ {A : Type 0} (F : Field A) where
  abbrev R : CommRing (Polynomial F)
  R = polynomials F

  -- gcd(d, D(d)) = 1 makes d square-free, for every derivation D of K[t]
  pub square_free_of_coprime : (D : Derivation R) (d : Polynomial F) → IsCoprime F d (D.derive d) → IsSquareFree F d
  square_free_of_coprime D d c s h =
      let one = Gcd.size_of_unit F s (Gcd.coprime-common_divisor F d (D.derive d) s c
      (Divides.divides_trans F s (R.mul s s) d (Divides.divides-mul F s s) h)
      (record {
        cofactor = R.add (R.mul (D.derive h.cofactor) s) (R.add (R.mul h.cofactor (D.derive s)) (R.mul h.cofactor (D.derive s)));
        equation =
            ap D.derive h.equation ∙ D.derive-mul h.cofactor (R.mul s s) ∙ ap (λ z. R.add (R.mul (D.derive h.cofactor) (R.mul s s)) (R.mul h.cofactor z)) (D.derive-mul s s)
            ∙ Identities.derive_square_identity R (D.derive h.cofactor) h.cofactor s (D.derive s);
      })) in
      omega (arith, one)

  -- d is square-free, if no square of an irreducible polynomial divides it
  pub square_free_of_factors : (d : Polynomial F) → ((f : Polynomial F) → IsIrreducible F f → IsMonic F f → ¬ Divides F (R.mul f f) d) → IsSquareFree F d
  square_free_of_factors d h s k = Irreducible.constant_of_no_factor F s λ f i m e.
      h f i m (Divides.divides_trans F (R.mul f f) (R.mul s s) d (Divides.divides-mul_mul F f f s s e e) k)

  module _ (char : HasCharacteristicZero F.ring) where
    -- an irreducible polynomial does not divide its derivative
    pub irreducible-not_divides-derivative : (f : Polynomial F) → IsIrreducible F f → ¬ Divides F f (FormalDerivative.formal_derivative F f)
    irreducible-not_divides-derivative f i d =
        let s = FormalDerivative.size-formal_derivative F char f in
        let k = i.not_constant in
        let l = Divides.size-divides F f (FormalDerivative.formal_derivative F f) d (Degree.nonzero_of_size F (FormalDerivative.formal_derivative F f) (omega (arith, s, k))) in
        absurd (omega (arith, l, s, k))

    -- ν(∂d) = ν(d) - 1 for every irreducible polynomial
    pub multiplicity-formal_derivative : (p a : Polynomial F) (e : ℕ) → IsIrreducible F p → IsMultiplicity F p a (suc e) → IsMultiplicity F p (FormalDerivative.formal_derivative F a) e
    multiplicity-formal_derivative p a e i = Multiplicity.multiplicity-derive F char (Derivation.formal_derivation F) p a e i (irreducible-not_divides-derivative p i)

    -- a square-free d is coprime with ∂d
    pub coprime_of_square_free : (d : Polynomial F) → ¬ (d ≡ R.zero) → IsSquareFree F d → IsCoprime F d (FormalDerivative.formal_derivative F d)
    coprime_of_square_free d n h = Irreducible.coprime_of_no_factor F d (FormalDerivative.formal_derivative F d) n common
      where
        common : (f : Polynomial F) → IsIrreducible F f → IsMonic F f → Divides F f d → Divides F f (FormalDerivative.formal_derivative F d) → ⊥
        common f i m a b = go (Irreducible.multiplicity_of F f d i.not_constant n)
          where
            nf : ¬ (f ≡ R.zero)
            nf = Irreducible.irreducible-nonzero F f i

            one_power : Divides F (power R f 1) (FormalDerivative.formal_derivative F d)
            one_power = subst (λ z. Divides F z (FormalDerivative.formal_derivative F d)) (sym (Laws.power-one R f)) b

            square : power R f 2 ≡ R.mul f f
            square = Laws.power-suc R f 1 ∙ ap (R.mul f) (Laws.power-one R f)

            cases : (e : ℕ) → IsMultiplicity F f d e → ⊥
            cases zero v = let l = Multiplicity.le_of_power-divides F f d 0 1 nf v (subst (λ z. Divides F z d) (sym (Laws.power-one R f)) a) in omega (arith, l)
            cases (suc zero) v =
                let l = Multiplicity.le_of_power-divides F f (FormalDerivative.formal_derivative F d) 0 1 nf (multiplicity-formal_derivative f d 0 i v) one_power in omega (arith, l)
            cases (suc (suc e)) v =
                let l = h f (subst (λ z. Divides F z d) square (Multiplicity.power-divides_of_le F f d (suc (suc e)) 2 v (omega arith))) in
                let k = i.not_constant in
                omega (arith, l, k)

            go : Irreducible.Multiplicity F f d → ⊥
            go v = cases v.exponent v.is_multiplicity

    -- square-free is decidable
    pub dec_square_free : (d : Polynomial F) → ¬ (d ≡ R.zero) → Dec (IsSquareFree F d)
    dec_square_free d n = elim (Gcd.dec_coprime F d (FormalDerivative.formal_derivative F d)) [
      | yes c ↦ yes (square_free_of_coprime (Derivation.formal_derivation F) d c)
      | no m ↦ no (λ h. m (coprime_of_square_free d n h))
    ]

    -- the square-free part d / gcd(d, ∂d)
    pub square_free_part : Polynomial F → Polynomial F
    square_free_part d = (Gcd.gcd-divides_left F d (FormalDerivative.formal_derivative F d)).cofactor

    -- d = (d / gcd(d, ∂d))·gcd(d, ∂d)
    pub square_free_part-mul : (d : Polynomial F) → d ≡ R.mul (square_free_part d) (Gcd.gcd F d (FormalDerivative.formal_derivative F d))
    unfolding square_free_part
    square_free_part-mul d = (Gcd.gcd-divides_left F d (FormalDerivative.formal_derivative F d)).equation

    -- an irreducible polynomial that divides d has the multiplicity 1 in d / gcd(d, ∂d)
    pub square_free_part-multiplicity : (d f : Polynomial F) → ¬ (d ≡ R.zero) → IsIrreducible F f → Divides F f d → IsMultiplicity F f (square_free_part d) 1
    square_free_part-multiplicity d f n i h = go (Irreducible.multiplicity_of F f d i.not_constant n)
      where
        nf : ¬ (f ≡ R.zero)
        nf = Irreducible.irreducible-nonzero F f i

        ∂d : Polynomial F
        ∂d = FormalDerivative.formal_derivative F d

        g : Polynomial F
        g = Gcd.gcd F d ∂d

        cofactor-nonzero : ¬ (square_free_part d ≡ R.zero)
        cofactor-nonzero = unfold square_free_part in Divides.cofactor-nonzero F g d (Gcd.gcd-divides_left F d ∂d) n

        of_gcd : (e : ℕ) → IsMultiplicity F f d (suc e) → IsMultiplicity F f g e
        of_gcd e v = Multiplicity.multiplicity_of_bounds F f g e
            (Gcd.gcd-greatest F d ∂d (power R f e) (Multiplicity.power-divides_of_le F f d (suc e) e v (omega arith))
            (Multiplicity.power-divides_of_le F f ∂d e e (multiplicity-formal_derivative f d e i v) (omega arith)))
            (λ k. let l = Multiplicity.le_of_power-divides F f ∂d e (suc e) nf (multiplicity-formal_derivative f d e i v)
            (Divides.divides_trans F (power R f (suc e)) g ∂d k (Gcd.gcd-divides_right F d ∂d)) in absurd (omega (arith, l)))

        cases : (e : ℕ) → IsMultiplicity F f d e → IsMultiplicity F f (square_free_part d) 1
        cases zero v = let l = Multiplicity.le_of_power-divides F f d 0 1 nf v (subst (λ z. Divides F z d) (sym (Laws.power-one R f)) h) in absurd (omega (arith, l))
        cases (suc e) v =
            let s : suc e ≡ 1 + e = omega arith in
            Multiplicity.multiplicity-cofactor F f (square_free_part d) g 1 e i cofactor-nonzero
            (subst (IsMultiplicity F f (R.mul (square_free_part d) g)) s (subst (λ z. IsMultiplicity F f z (suc e)) (square_free_part-mul d) v)) (of_gcd e v)

        go : Irreducible.Multiplicity F f d → IsMultiplicity F f (square_free_part d) 1
        go v = cases v.exponent v.is_multiplicity

    -- d / gcd(d, ∂d) divides d
    pub square_free_part-divides : (d : Polynomial F) → Divides F (square_free_part d) d
    square_free_part-divides d =
        subst (Divides F (square_free_part d)) (sym (square_free_part-mul d)) (Divides.divides-mul_right F (square_free_part d) (Gcd.gcd F d (FormalDerivative.formal_derivative F d)))

    -- d / gcd(d, ∂d) is square-free
    pub square_free_part-is_square_free : (d : Polynomial F) → ¬ (d ≡ R.zero) → IsSquareFree F (square_free_part d)
    square_free_part-is_square_free d n = square_free_of_factors (square_free_part d) λ f i m h.
        let square : power R f 2 ≡ R.mul f f = Laws.power-suc R f 1 ∙ ap (R.mul f) (Laws.power-one R f) in
        let to_d = Divides.divides_trans F f (square_free_part d) d (Divides.divides_trans F f (R.mul f f) (square_free_part d) (Divides.divides-mul F f f) h) (square_free_part-divides d) in
        let l = Multiplicity.le_of_power-divides F f (square_free_part d) 1 2 (Irreducible.irreducible-nonzero F f i) (square_free_part-multiplicity d f n i to_d)
        (subst (λ z. Divides F z (square_free_part d)) (sym square) h) in
        absurd (omega (arith, l))

    -- the irreducible polynomials that divide d divide d / gcd(d, ∂d)
    pub factor-divides-square_free_part : (d f : Polynomial F) → ¬ (d ≡ R.zero) → IsIrreducible F f → Divides F f d → Divides F f (square_free_part d)
    factor-divides-square_free_part d f n i h =
        subst (λ z. Divides F z (square_free_part d)) (Laws.power-one R f)
        (Multiplicity.power-divides_of_le F f (square_free_part d) 1 1 (square_free_part-multiplicity d f n i h) (omega arith))
