-- The first square-free part of the normal part of M holds just the normal irreducible factors of multiplicity 1 of M.
use Rattle.std.specs.Prelude.{◌≡◌, ℕ, zero, suc, ◌⊎◌, List, [], ◌∷◌}
use Rattle.std.proofs.Common.{sym, ap, subst, ◌∙◌, arith, inl, inr}
use Rattle.risch_ring.specs.CommRing.{CommRing, Field, Derivation, HasCharacteristicZero}
use Rattle.risch_ring.proofs.Laws as Laws
use Rattle.risch_univariate.specs.Polynomial.{Polynomial}
use Rattle.risch_univariate.specs.Division.{IsCoprime, IsIrreducible, IsMultiplicity}
use Rattle.risch_univariate.proofs.Divides as Divides
use Rattle.risch_univariate.proofs.Gcd as Gcd
use Rattle.risch_univariate.proofs.Irreducible as Irreducible
use Rattle.risch_univariate.proofs.Multiplicity as Multiplicity
use Rattle.risch_univariate.proofs.SquareFreeParts as SquareFreeParts
use Rattle.risch_univariate.specs.PolynomialOperators.{polynomial_operators}
use Rattle.risch_univariate.specs.PolynomialRing.{polynomials}
use Rattle.risch_univariate.specs.SplittingFactorization.{SplittingFactorization}
use Rattle.risch_univariate.specs.SquareFreeParts.{product_of_powers, AreParts}
use Rattle.risch_ring.specs.Lists.{Each}
use Rattle.risch_equation_theory.specs.WeakNormalization.{IsNormalPrime, IsSimplePart}

module _ {A : Type 0} (F : Field A) (char : HasCharacteristicZero F.ring) (D : Derivation (polynomials F)) where
  abbrev R : CommRing (Polynomial F)
  R = polynomials F

  open (polynomial_operators F) use {𝟘, 𝟙, ◌*◌, ◌^◌, ◌∣◌}

  two : (p : Polynomial F) → p ^ 2 ≡ p * p
  two p = Laws.power-suc R p 1 ∙ ap (R.mul p) (Laws.power-one R p)

  -- p | q^n gives p | q
  divides_of_power : (p q : Polynomial F) (n : ℕ) → IsIrreducible F p → p ∣ q ^ n → p ∣ q
  divides_of_power p q zero i d = absurd (Irreducible.irreducible-not_unit F p i (subst (λ z. p ∣ z) (Laws.power-zero R q) d))
  divides_of_power p q (suc n) i d = go (Irreducible.irreducible-prime F p q (q ^ n) i (subst (λ z. p ∣ z) (Laws.power-suc R q n) d)) (λ k. divides_of_power p q n i k)
    where
      go : p ∣ q ⊎ p ∣ q ^ n → (p ∣ q ^ n → p ∣ q) → p ∣ q
      go (inl x) k = x
      go (inr x) k = k x

  -- an irreducible p that divides q_i^i·q_(i + 1)^(i + 1)·… with i ≥ 2 divides it twice
  square-divides : (p : Polynomial F) → IsIrreducible F p → (n : ℕ) (qs : List (Polynomial F)) → p ∣ product_of_powers F (suc (suc n)) qs → p * p ∣ product_of_powers F (suc (suc n)) qs
  unfolding product_of_powers
  square-divides p i n [] d = absurd (Irreducible.irreducible-not_unit F p i d)
  square-divides p i n (q ∷ qs) d = go (Irreducible.irreducible-prime F p (q ^ suc (suc n)) _ i d) (λ k. square-divides p i (suc n) qs k)
    where
      expanded : q * q * q ^ n ≡ q ^ suc (suc n)
      expanded = R.mul_assoc q q (q ^ n) ∙ ap (R.mul q) (sym (Laws.power-suc R q n)) ∙ sym (Laws.power-suc R q (suc n))

      go : p ∣ q ^ suc (suc n) ⊎ p ∣ product_of_powers F (suc (suc (suc n))) qs
          → (p ∣ product_of_powers F (suc (suc (suc n))) qs → p * p ∣ product_of_powers F (suc (suc (suc n))) qs)
          → p * p ∣ q ^ suc (suc n) * product_of_powers F (suc (suc (suc n))) qs
      go (inl x) k =
          let y = divides_of_power p q (suc (suc n)) i x in
          Divides.divides_trans F (p * p) (q ^ suc (suc n)) _
          (subst (λ z. p * p ∣ z) expanded (Divides.divides_trans F (p * p) (q * q) _ (Divides.divides-mul_mul F p p q q y y) (Divides.divides-mul_right F (q * q) (q ^ n))))
          (Divides.divides-mul_right F (q ^ suc (suc n)) _)
      go (inr x) k = Divides.divides-mul_left F (p * p) (q ^ suc (suc n)) _ (k x)

  -- an irreducible p that divides q divides no product of powers of polynomials that are coprime with q
  absent_of_coprime : (p q : Polynomial F) → IsIrreducible F p → p ∣ q → (n : ℕ) (qs : List (Polynomial F)) → Each (IsCoprime F q) qs → ¬ (p ∣ product_of_powers F n qs)
  unfolding product_of_powers
  absent_of_coprime p q i d n [] h = Irreducible.irreducible-not_unit F p i
  absent_of_coprime p q i d n (x ∷ qs) h = Irreducible.not_divides-mul F p (x ^ n) _ i
      (λ k. Irreducible.irreducible-not_unit F p i (Gcd.coprime-common_divisor F q x p h.0 d (divides_of_power p x n i k))) (absent_of_coprime p q i d (suc n) qs h.1)

  module _ (M : Polynomial F) (x : SplittingFactorization F D M) (q : Polynomial F) (qs : List (Polynomial F)) (parts : SquareFreeParts.square_free_parts F char x.normal ≡ q ∷ qs) where
    -- q_2^2·q_3^3·… of the later parts
    pub others : Polynomial F
    others = product_of_powers F 2 qs

    are_parts : AreParts F (q ∷ qs)
    are_parts = subst (AreParts F) parts (SquareFreeParts.square_free_parts-are_parts F char x.normal x.normal_is_monic)

    whole : M ≡ q * (others * x.special)
    unfolding others product_of_powers
    whole = x.equation ∙ ap (λ z. z * x.special) (SquareFreeParts.product-square_free_parts F char x.normal x.normal_is_monic ∙ ap (product_of_powers F 1) parts ∙ ap (λ z. z * others) (Laws.power-one R q))
        ∙ R.mul_assoc q others x.special

    no_special : (p : Polynomial F) → IsNormalPrime F D p → ¬ (p ∣ x.special)
    no_special p np d = np.normal (x.special_factors p np.irreducible np.is_monic d)

    -- part 1 is the simple part
    pub simple_part : IsSimplePart F D M q (others * x.special)
    simple_part = record { equation = whole; contains = contains; simple = simple }
      where
        contains : (p : Polynomial F) → IsNormalPrime F D p → IsMultiplicity F p M 1 → p ∣ q
        contains p np m = go (Irreducible.irreducible-prime F p q (others * x.special) np.irreducible (subst (λ z. p ∣ z) whole once))
          where
            once : p ∣ M
            once = subst (λ z. z ∣ M) (Laws.power-one R p) (Multiplicity.power-divides_of_le F p M 1 1 m (omega arith))

            twice : p ∣ others → ⊥
            twice d =
                let k = Multiplicity.le_of_power-divides F p M 1 2 (Irreducible.irreducible-nonzero F p np.irreducible) m
                (subst (λ z. z ∣ M) (sym (two p)) (subst (λ z. p * p ∣ z) (sym whole) (Divides.divides-mul_left F (p * p) q _
                (Divides.divides_trans F (p * p) others _ (doubled d) (Divides.divides-mul_right F others x.special))))) in
                omega (arith, k)
              where
                doubled : p ∣ others → p * p ∣ others
                doubled d = unfold others in square-divides p np.irreducible 0 qs d

            from : p ∣ others ⊎ p ∣ x.special → p ∣ q
            from (inl d) = absurd (twice d)
            from (inr d) = absurd (no_special p np d)

            go : p ∣ q ⊎ p ∣ others * x.special → p ∣ q
            go (inl d) = d
            go (inr d) = from (Irreducible.irreducible-prime F p others x.special np.irreducible d)

        simple : (p : Polynomial F) → IsNormalPrime F D p → p ∣ q → IsMultiplicity F p M 1
        simple p np d = Multiplicity.multiplicity_of_bounds F p M 1
            (subst (λ z. z ∣ M) (sym (Laws.power-one R p)) (subst (λ z. p ∣ z) (sym whole) (Divides.divides_trans F p q _ d (Divides.divides-mul_right F q _))))
            (λ k. square (Gcd.coprime-divides_of_mul F (p ^ 2) (others * x.special) q (Gcd.coprime-power F p (others * x.special) 2 coprime)
            (subst (λ z. p ^ 2 ∣ z) (whole ∙ R.mul_comm q (others * x.special)) k)))
          where
            rest : ¬ (p ∣ others * x.special)
            rest = Irreducible.not_divides-mul F p others x.special np.irreducible (unfold others in absent_of_coprime p q np.irreducible d 2 qs are_parts.2) (no_special p np)

            coprime : IsCoprime F p (others * x.special)
            coprime = go (Irreducible.irreducible-coprime F p (others * x.special) np.irreducible)
              where
                go : IsCoprime F p (others * x.special) ⊎ p ∣ others * x.special → IsCoprime F p (others * x.special)
                go (inl c) = c
                go (inr k) = absurd (rest k)

            square : p ^ 2 ∣ q → ⊥
            square k = let l = are_parts.1 p (subst (λ z. z ∣ q) (two p) k) in let o = np.irreducible.not_constant in omega (arith, l, o)
