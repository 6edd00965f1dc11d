-- The square-free parts over a field, one by one: what a step from w and c on gives for the parts that follow from y and rest on, where y = gcd(w, c), w = part·y and c = rest·y.
--     step-invariant, step-parts      a step
--     end-parts      the end, at w = 1
--     start-invariant      the start, at c = gcd(p, ∂p) and p = w·c
use Rattle.std.specs.Prelude.{◌≡◌, ℕ, zero, suc, ◌+◌, ◌≤◌, List, [], ◌∷◌}
use Rattle.std.proofs.Common.{refl, sym, ap, ap₂, subst, ◌∙◌, arith}
use Rattle.risch_ring.specs.CommRing.{CommRing, Field, power, HasCharacteristicZero}
use Rattle.risch_ring.specs.Lists.{Each}
use Rattle.risch_ring.proofs.Laws as Laws
use Rattle.risch_ring.proofs.Lists.{each-map}
use Rattle.risch_univariate.specs.Polynomial.{Polynomial}
use Rattle.risch_univariate.specs.PolynomialRing.{polynomials}
use Rattle.risch_univariate.specs.PolynomialOperators.{polynomial_operators}
use Rattle.risch_univariate.specs.Degree.{size, IsMonic}
use Rattle.risch_univariate.specs.Division.{IsCoprime, IsGcd, IsSquareFree}
use Rattle.risch_univariate.specs.SquareFreeParts.{product_of_powers, AreParts}
use Rattle.risch_univariate.proofs.Degree as Degree
use Rattle.risch_univariate.proofs.Divides as Divides
use Rattle.risch_univariate.proofs.FormalDerivative as FormalDerivative
use Rattle.risch_univariate.proofs.Gcd as Gcd
use Rattle.risch_univariate.proofs.Irreducible as Irreducible
use Rattle.risch_univariate.proofs.SquareFree as SquareFree
use Rattle.risch_univariate.proofs.SquareFreeParts.{Invariant, square_free-divisor, square_free-coprime}

module _ {A : Type 0} (F : Field A) where
  abbrev R : CommRing (Polynomial F)
  R = polynomials F

  open (polynomial_operators F) use {𝟘, 𝟙, ◌*◌, ◌^◌, ◌∣◌}

  -- y is the monic common divisor of w and c, w = part·y and c = rest·y
  pub record IsStep (w c y part rest : Polynomial F) : Type 0 where
    pub is_monic : IsMonic F y
    pub is_gcd : IsGcd F y w c
    pub left : w ≡ part * y
    pub right : c ≡ rest * y

  -- they are monic, square-free and pairwise coprime, divide w, and w^i·c = q_1^i·q_2^(i + 1)·..
  pub record ArePartsFrom (w c : Polynomial F) (parts : List (Polynomial F)) : Type 0 where
    pub are_parts : AreParts F parts
    pub divide : Each (λ q. q ∣ w) parts
    pub product : (i : ℕ) → w ^ i * c ≡ product_of_powers F i parts

  divides_of_left : (p q d : Polynomial F) → p ≡ q * d → q ∣ p
  divides_of_left p q d e = subst (λ z. q ∣ z) (sym e) (Divides.divides-mul_right F q d)

  -- ---- the end
  pub end-parts : (w c : Polynomial F) → Invariant F w c → size F w ≤ 1 → ArePartsFrom w c []
  unfolding product_of_powers power
  end-parts w c v l = record {
    are_parts = tt;
    divide = tt;
    product = λ i. ap₂ (λ y z. y ^ i * z) (Gcd.one_of_monic F w v.left_is_monic l) last ∙ R.mul-one (𝟙 ^ i) ∙ one_power i;
  }
    where
      last : c ≡ 𝟙
      last = Gcd.one_of_monic F c v.right_is_monic
          (Irreducible.constant_of_no_factor F c λ f i m h.
          let s = Divides.size-divides F f w (v.factors f i m h) (Gcd.monic-nonzero F w v.left_is_monic) in
          let k = i.not_constant in
          absurd (omega (arith, s, k, l)))

      one_power : (i : ℕ) → 𝟙 ^ i ≡ 𝟙
      one_power zero = refl
      one_power (suc i) = Laws.one-mul R (𝟙 ^ i) ∙ one_power i

  module _ (w c y part rest : Polynomial F) (s : IsStep w c y part rest) (v : Invariant F w c) where
    -- ---- a step
    pub step-invariant : Invariant F y rest
    step-invariant = record {
      left_is_monic = s.is_monic;
      right_is_monic = Gcd.cofactor-is_monic F y c (record { cofactor = rest; equation = s.right }) v.right_is_monic s.is_monic;
      square_free = square_free-divisor F y w s.is_gcd.divides_left v.square_free;
      factors = λ f i m h.
          let d = Divides.divides_trans F f rest c h (divides_of_left c rest y s.right) in
          s.is_gcd.greatest f (v.factors f i m d) d;
    }

    part-divides : part ∣ w
    part-divides = divides_of_left w part y s.left

    part-coprime : IsCoprime F part y
    part-coprime = square_free-coprime F part y
        (Divides.cofactor-nonzero F y w (record { cofactor = part; equation = s.left }) (Gcd.monic-nonzero F w v.left_is_monic))
        (subst (IsSquareFree F) s.left v.square_free)

    -- (part·y)^i·(rest·y) = part^i·(y^(i + 1)·rest)
    power_step : (i : ℕ) → (part * y) ^ i * (rest * y) ≡ part ^ i * (y ^ suc i * rest)
    power_step i =
        ap (λ z. z * (rest * y)) (Laws.power-mul R part y i) ∙ R.mul_assoc (part ^ i) (y ^ i) (rest * y)
        ∙ ap (λ z. part ^ i * z) (ap (λ z. y ^ i * z) (R.mul_comm rest y) ∙ Laws.mul_swap R (y ^ i) y rest ∙ ap (λ z. z * rest) (sym (Laws.power-suc R y i)))

    pub step-parts : (parts : List (Polynomial F)) → ArePartsFrom y rest parts → ArePartsFrom w c (part ∷ parts)
    unfolding product_of_powers
    step-parts parts x = record {
      are_parts = (
        Gcd.cofactor-is_monic F y w (record { cofactor = part; equation = s.left }) v.left_is_monic s.is_monic,
        square_free-divisor F part w part-divides v.square_free,
        each-map (λ q k. Gcd.coprime_sym F q part (Gcd.coprime_of_divides F q y part k (Gcd.coprime_sym F part y part-coprime))) parts x.divide,
        x.are_parts,
      );
      divide = (part-divides, each-map (λ q k. Divides.divides_trans F q y w k s.is_gcd.divides_left) parts x.divide);
      product = λ i. ap₂ (λ y z. y ^ i * z) s.left s.right ∙ power_step i ∙ ap (λ z. part ^ i * z) (x.product (suc i));
    }

    -- the sizes of what is left
    pub step-smaller : (n : ℕ) → 2 ≤ size F w → size F w + size F c ≤ suc (suc n) → size F y + size F rest ≤ suc n
    step-smaller n large l =
        let together = Divides.size-cofactor F y c (record { cofactor = rest; equation = s.right }) (Gcd.monic-nonzero F c v.right_is_monic) in
        omega (arith, together, large, l)

  -- ---- the start
  module _ (char : HasCharacteristicZero F.ring) (p c w : Polynomial F) (monic : IsMonic F p) where
    abbrev ∂p : Polynomial F
    ∂p = FormalDerivative.formal_derivative F p

    pub start-invariant : IsMonic F c → IsGcd F c p ∂p → p ≡ w * c → Invariant F w c
    start-invariant m g e = record {
      left_is_monic = Gcd.cofactor-is_monic F c p (record { cofactor = w; equation = e }) monic m;
      right_is_monic = m;
      square_free = subst (IsSquareFree F) (sym same) (SquareFree.square_free_part-is_square_free F char p nonzero);
      factors = λ f i mf h. subst (λ z. f ∣ z) (sym same)
          (SquareFree.factor-divides-square_free_part F char p f nonzero i (Divides.divides_trans F f c p h g.divides_left));
    }
      where
        nonzero : ¬ (p ≡ 𝟘)
        nonzero = Gcd.monic-nonzero F p monic

        -- w is the square-free part p/gcd(p, ∂p)
        same : w ≡ SquareFree.square_free_part F char p
        same = Degree.mul_polynomials_cancel F c w (SquareFree.square_free_part F char p) (Gcd.monic-nonzero F c m)
            (R.mul_comm c w ∙ sym e ∙ SquareFree.square_free_part-mul F char p
            ∙ ap (λ z. SquareFree.square_free_part F char p * z) (sym (Gcd.gcd_unique F c p ∂p g m))
            ∙ R.mul_comm (SquareFree.square_free_part F char p) c)

    pub start-size : IsMonic F c → p ≡ w * c → size F w + size F c ≡ suc (size F p)
    start-size m e = sym (Divides.size-cofactor F c p (record { cofactor = w; equation = e }) (Gcd.monic-nonzero F p monic))
