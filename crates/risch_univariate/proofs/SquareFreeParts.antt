-- The square-free parts of a monic p (characteristic 0): p = p_1·p_2²·p_3³·…, with p_i monic, square-free and pairwise coprime.
-- With w = p / gcd(p, ∂p) and c = gcd(p, ∂p) at the start, step i takes y = gcd(w, c) and gives p_i = w/y, then w = y and c = c/y.
use Rattle.std.specs.Prelude.{◌≡◌, ℕ, zero, suc, ◌+◌, ◌≤◌, List, [], ◌∷◌}
use Rattle.std.proofs.Common.{refl, sym, ap, ap₂, subst, ◌∙◌, arith}
use native.Mathlib.Decide.{dec_le}
use Rattle.risch_ring.specs.CommRing.{CommRing, Field, power, HasCharacteristicZero}
use Rattle.risch_ring.proofs.Laws as Laws
use Rattle.risch_univariate.specs.Polynomial.{Polynomial}
use Rattle.risch_univariate.specs.Degree.{size, IsMonic}
use Rattle.risch_univariate.specs.Division.{IsCoprime, IsIrreducible, IsSquareFree}
use Rattle.risch_univariate.proofs.Degree as Degree
use Rattle.risch_univariate.proofs.Divides as Divides
use Rattle.risch_univariate.proofs.Gcd as Gcd
use Rattle.risch_univariate.proofs.Irreducible as Irreducible
use Rattle.risch_univariate.proofs.SquareFree as SquareFree
use Rattle.risch_univariate.proofs.FormalDerivative as FormalDerivative
use Rattle.risch_univariate.specs.PolynomialOperators.{polynomial_operators}
use Rattle.risch_univariate.specs.PolynomialRing.{polynomials}
use Rattle.risch_univariate.specs.SquareFreeParts.{product_of_powers, AreParts}
use Rattle.risch_ring.specs.Lists.{Each}
use Rattle.risch_ring.proofs.Lists.{each-map}

module _ {A : Type 0} (F : Field A) where
  abbrev R : CommRing (Polynomial F)
  R = polynomials F

  open (polynomial_operators F) use {𝟘, 𝟙, ◌+◌ as ◌+ₚ◌, ◌*◌, ◌^◌, ◌∣◌}

  -- a divisor of a square-free polynomial is square-free
  pub square_free-divisor : (d p : Polynomial F) → d ∣ p → IsSquareFree F p → IsSquareFree F d
  square_free-divisor d p h k s e = k s (Divides.divides_trans F (s * s) d p e h)

  -- a·b square-free gives gcd(a, b) = 1
  pub square_free-coprime : (a b : Polynomial F) → ¬ (a ≡ 𝟘) → IsSquareFree F (a * b) → IsCoprime F a b
  square_free-coprime a b n h = Gcd.coprime_of_divisors F a b n λ d da db. h d (Divides.divides-mul_mul F d d a b da db)

  -- y = gcd(w, c), w/y and c/y
  abbrev common : (w c : Polynomial F) → Polynomial F
  common w c = Gcd.gcd F w c

  abbrev part : (w c : Polynomial F) → Polynomial F
  part w c = (Gcd.gcd-divides_left F w c).cofactor

  abbrev rest : (w c : Polynomial F) → Polynomial F
  rest w c = (Gcd.gcd-divides_right F w c).cofactor

  -- the parts from w and c on, in at most n steps
  pub parts_from : ℕ → (w c : Polynomial F) → List (Polynomial F)
  parts_from zero w c = []
  parts_from (suc n) w c = elim (dec_le (size F w) 1) [
    | yes l ↦ []
    | no m ↦ part w c ∷ parts_from n (common w c) (rest w c)
  ]

  -- w is square-free, and the irreducible factors of c divide w
  pub record Invariant (w c : Polynomial F) : Type 0 where
    pub left_is_monic : IsMonic F w
    pub right_is_monic : IsMonic F c
    pub square_free : IsSquareFree F w
    pub factors : (f : Polynomial F) → IsIrreducible F f → IsMonic F f → f ∣ c → f ∣ w

  -- a step keeps the invariant
  step-invariant : (w c : Polynomial F) → Invariant w c → Invariant (common w c) (rest w c)
  step-invariant w c v = record {
    left_is_monic = monic;
    right_is_monic = Gcd.cofactor-is_monic F (common w c) c (Gcd.gcd-divides_right F w c) v.right_is_monic monic;
    square_free = square_free-divisor (common w c) w (Gcd.gcd-divides_left F w c) v.square_free;
    factors = λ f i m h.
        let fc = Divides.divides_trans F f (rest w c) c h
        (subst (λ z. rest w c ∣ z) (sym (Gcd.gcd-divides_right F w c).equation) (Divides.divides-mul_right F (rest w c) (common w c))) in
        Gcd.gcd-greatest F w c f (v.factors f i m fc) fc;
  }
    where
      monic : IsMonic F (common w c)
      monic = Gcd.gcd-is_monic F w c (Gcd.gcd-nonzero_left F w c (Gcd.monic-nonzero F w v.left_is_monic))

  -- c without irreducible factors is 1
  end_of_parts : (w c : Polynomial F) → Invariant w c → size F w ≤ 1 → c ≡ 𝟙
  end_of_parts w c v l = Gcd.one_of_monic F c v.right_is_monic
      (Irreducible.constant_of_no_factor F c λ f i m h.
      let s = Divides.size-divides F f w (v.factors f i m h) (Gcd.monic-nonzero F w v.left_is_monic) in
      let k = i.not_constant in
      absurd (omega (arith, s, k, l)))

  -- (q·y)^i·(c·y) = q^i·(y^(i+1)·c)
  power_step : (q y c : Polynomial F) (i : ℕ) → (q * y) ^ i * (c * y) ≡ q ^ i * (y ^ suc i * c)
  power_step q y c i =
      ap (λ z. z * (c * y)) (Laws.power-mul R q y i) ∙ R.mul_assoc (q ^ i) (y ^ i) (c * y)
      ∙ ap (λ z. q ^ i * z) (ap (λ z. y ^ i * z) (R.mul_comm c y) ∙ Laws.mul_swap R (y ^ i) y c ∙ ap (λ z. z * c) (sym (Laws.power-suc R y i)))

  one_power : (i : ℕ) → 𝟙 ^ i ≡ 𝟙
  unfolding power
  one_power zero = refl
  one_power (suc i) = Laws.one-mul R (𝟙 ^ i) ∙ one_power i

  -- w^i·c is the product of the powers of the parts from w and c on
  pub product-parts_from : (n : ℕ) (i : ℕ) (w c : Polynomial F) → size F w + size F c ≤ suc n → Invariant w c → w ^ i * c ≡ product_of_powers F i (parts_from n w c)
  unfolding parts_from product_of_powers
  product-parts_from zero i w c l v =
      let a = Degree.size_of_nonzero F w (Gcd.monic-nonzero F w v.left_is_monic) in
      let b = Degree.size_of_nonzero F c (Gcd.monic-nonzero F c v.right_is_monic) in
      absurd (omega (arith, l, a, b))
  product-parts_from (suc n) i w c l v = go (dec_le (size F w) 1) (λ j k. product-parts_from n j (common w c) (rest w c) k (step-invariant w c v))
    where
      left : w ≡ part w c * common w c
      left = (Gcd.gcd-divides_left F w c).equation

      right : c ≡ rest w c * common w c
      right = (Gcd.gcd-divides_right F w c).equation

      go : (d : Dec (size F w ≤ 1))
          → ((j : ℕ) → size F (common w c) + size F (rest w c) ≤ suc n → common w c ^ j * rest w c ≡ product_of_powers F j (parts_from n (common w c) (rest w c)))
          → w ^ i * c ≡ product_of_powers F i (elim d as (λ z. List (Polynomial F)) [ yes e ↦ [] | no m ↦ part w c ∷ parts_from n (common w c) (rest w c) ])
      go (yes e) ih =
          ap₂ (λ y z. y ^ i * z) (Gcd.one_of_monic F w v.left_is_monic e) (end_of_parts w c v e) ∙ R.mul-one (𝟙 ^ i) ∙ one_power i
      go (no m) ih =
          ap₂ (λ y z. y ^ i * z) left right ∙ power_step (part w c) (common w c) (rest w c) i
          ∙ ap (λ z. part w c ^ i * z) (ih (suc i)
          (let s = Divides.size-cofactor F (common w c) c (Gcd.gcd-divides_right F w c) (Gcd.monic-nonzero F c v.right_is_monic) in omega (arith, s, m, l)))

  -- each part divides w
  parts-divide : (n : ℕ) (w c : Polynomial F) → Each (λ q. q ∣ w) (parts_from n w c)
  unfolding parts_from
  parts-divide zero w c = tt
  parts-divide (suc n) w c = go (dec_le (size F w) 1) (parts-divide n (common w c) (rest w c))
    where
      go : (d : Dec (size F w ≤ 1)) → Each (λ q. q ∣ common w c) (parts_from n (common w c) (rest w c))
          → Each (λ q. q ∣ w) (elim d as (λ z. List (Polynomial F)) [ yes e ↦ [] | no m ↦ part w c ∷ parts_from n (common w c) (rest w c) ])
      go (yes e) h = tt
      go (no m) h = (
        subst (λ z. part w c ∣ z) (sym (Gcd.gcd-divides_left F w c).equation) (Divides.divides-mul_right F (part w c) (common w c)),
        each-map (λ q k. Divides.divides_trans F q (common w c) w k (Gcd.gcd-divides_left F w c)) (parts_from n (common w c) (rest w c)) h,
      )

  -- the parts are monic, square-free and pairwise coprime
  pub parts_from-are_parts : (n : ℕ) (w c : Polynomial F) → Invariant w c → AreParts F (parts_from n w c)
  unfolding parts_from
  parts_from-are_parts zero w c v = tt
  parts_from-are_parts (suc n) w c v = go (dec_le (size F w) 1) (parts_from-are_parts n (common w c) (rest w c) (step-invariant w c v))
    where
      equation : w ≡ part w c * common w c
      equation = (Gcd.gcd-divides_left F w c).equation

      nonzero : ¬ (part w c ≡ 𝟘)
      nonzero = Divides.cofactor-nonzero F (common w c) w (Gcd.gcd-divides_left F w c) (Gcd.monic-nonzero F w v.left_is_monic)

      monic : IsMonic F (common w c)
      monic = Gcd.gcd-is_monic F w c (Gcd.gcd-nonzero_left F w c (Gcd.monic-nonzero F w v.left_is_monic))

      coprime : IsCoprime F (part w c) (common w c)
      coprime = square_free-coprime (part w c) (common w c) nonzero (subst (IsSquareFree F) equation v.square_free)

      part-divides : part w c ∣ w
      part-divides = subst (λ z. part w c ∣ z) (sym equation) (Divides.divides-mul_right F (part w c) (common w c))

      go : (d : Dec (size F w ≤ 1)) → AreParts F (parts_from n (common w c) (rest w c))
          → AreParts F (elim d as (λ z. List (Polynomial F)) [ yes e ↦ [] | no m ↦ part w c ∷ parts_from n (common w c) (rest w c) ])
      go (yes e) h = tt
      go (no m) h = (
        Gcd.cofactor-is_monic F (common w c) w (Gcd.gcd-divides_left F w c) v.left_is_monic monic,
        square_free-divisor (part w c) w part-divides v.square_free,
        each-map (λ q k. Gcd.coprime_sym F q (part w c) (Gcd.coprime_of_divides F q (common w c) (part w c) k (Gcd.coprime_sym F (part w c) (common w c) coprime)))
            (parts_from n (common w c) (rest w c)) (parts-divide n (common w c) (rest w c)),
        h,
      )

  module _ (char : HasCharacteristicZero F.ring) where
    abbrev ∂ : Polynomial F → Polynomial F
    ∂ = FormalDerivative.formal_derivative F

    -- the invariant holds at the start
    start : (p : Polynomial F) → IsMonic F p → Invariant (SquareFree.square_free_part F char p) (Gcd.gcd F p (∂ p))
    start p m = record {
      left_is_monic = left;
      right_is_monic = right;
      square_free = SquareFree.square_free_part-is_square_free F char p n;
      factors = λ f i mf h. SquareFree.factor-divides-square_free_part F char p f n i
          (Divides.divides_trans F f (Gcd.gcd F p (∂ p)) p h (Gcd.gcd-divides_left F p (∂ p)));
    }
      where
        n : ¬ (p ≡ 𝟘)
        n = Gcd.monic-nonzero F p m

        right : IsMonic F (Gcd.gcd F p (∂ p))
        right = Gcd.gcd-is_monic F p (∂ p) (Gcd.gcd-nonzero_left F p (∂ p) n)

        left : IsMonic F (SquareFree.square_free_part F char p)
        left = Gcd.cofactor-is_monic F (Gcd.gcd F p (∂ p)) p
            (record { cofactor = SquareFree.square_free_part F char p; equation = SquareFree.square_free_part-mul F char p }) m right

    -- the square-free parts p_1, p_2, … of p
    pub square_free_parts : Polynomial F → List (Polynomial F)
    square_free_parts p =
        let w = SquareFree.square_free_part F char p in
        let c = Gcd.gcd F p (∂ p) in
        parts_from (size F w + size F c) w c

    -- p = p_1·p_2²·p_3³·…
    pub product-square_free_parts : (p : Polynomial F) → IsMonic F p → p ≡ product_of_powers F 1 (square_free_parts p)
    unfolding square_free_parts
    product-square_free_parts p m =
        let w = SquareFree.square_free_part F char p in
        let c = Gcd.gcd F p (∂ p) in
        SquareFree.square_free_part-mul F char p ∙ ap (λ z. z * c) (sym (Laws.power-one R w))
        ∙ product-parts_from (size F w + size F c) 1 w c (omega arith) (start p m)

    -- the p_i are monic, square-free and pairwise coprime
    pub square_free_parts-are_parts : (p : Polynomial F) → IsMonic F p → AreParts F (square_free_parts p)
    unfolding square_free_parts
    square_free_parts-are_parts p m = parts_from-are_parts _ _ _ (start p m)
