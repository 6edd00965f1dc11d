-- The variable t of K[t] and its powers.
--     size-variable, variable-irreducible      t has degree 1 and is irreducible
--     divisor-of_power      the monic divisors of a power of t are powers of t
--     coefficient-of_power      c·t^n has the coefficient 0 at exponent 0, for n > 0
use Rattle.std.proofs.Common.{◌≡◌, ℕ, zero, suc, pred, ◌≤◌, ◌⊎◌, sym, ◌∙◌, ap, arith, subst, inl, inr}
use native.Mathlib.Decide.{dec_le}
use Rattle.risch_ring.specs.CommRing.{CommRing, Field, power}
use Rattle.risch_ring.proofs.Laws as Laws
use Rattle.risch_univariate.specs.Polynomial.{Polynomial, coefficient, constant, variable}
use Rattle.risch_univariate.specs.PolynomialRing.{polynomials}
use Rattle.risch_univariate.specs.Degree.{size, IsMonic}
use Rattle.risch_univariate.specs.Division.{Divides, IsCoprime, IsIrreducible}
use Rattle.risch_univariate.proofs.Coefficients as Coefficients
use Rattle.risch_univariate.proofs.Degree as Degree
use Rattle.risch_univariate.proofs.Divides as Divides
use Rattle.risch_univariate.proofs.Gcd as Gcd
use Rattle.risch_univariate.proofs.Irreducible as Irreducible
use Rattle.risch_univariate.proofs.Multiplicity as Multiplicity

module _ {A : Type 0} (F : Field A) where
  abbrev R : CommRing (Polynomial F)
  R = polynomials F

  abbrev t : Polynomial F
  t = variable F

  infixr 90 ◌^◌
  abbrev ◌^◌ : Polynomial F → ℕ → Polynomial F
  p ^ n = power R p n

  -- ---- the degree
  coefficient-after : (i : ℕ) → coefficient F t (suc i) ≡ coefficient F R.one i
  coefficient-after i = ap (λ p. coefficient F p (suc i)) (sym (R.mul-one t)) ∙ Coefficients.coefficient-variable_mul-suc F R.one i

  vanishing : (i : ℕ) → 2 ≤ i → coefficient F t i ≡ F.zero
  vanishing zero l = absurd (omega arith)
  vanishing (suc i) l = let s = Degree.size-one F in coefficient-after i ∙ Degree.below_size F R.one i (omega (arith, s, l))

  one_at_zero : coefficient F R.one 0 ≡ F.one
  one_at_zero = ap (λ p. coefficient F p 0) (sym (Degree.constant-one F)) ∙ Coefficients.coefficient-constant-zero F F.one

  pub size-variable : size F t ≡ 2
  size-variable =
      let most = Degree.size-le F t 2 vanishing in
      let least = Degree.size-ge F t 1 (λ z. F.one-ne-zero (sym (coefficient-after 0 ∙ one_at_zero) ∙ z)) in
      omega (arith, most, least)

  pub variable-nonzero : ¬ (t ≡ R.zero)
  variable-nonzero = Degree.nonzero_of_size F t (let e = size-variable in omega (arith, e))

  variable-monic : IsMonic F t
  variable-monic = ap (λ n. coefficient F t (pred n)) size-variable ∙ coefficient-after 0 ∙ one_at_zero

  pub variable-irreducible : IsIrreducible F t
  variable-irreducible = record { not_constant = let e = size-variable in omega (arith, e); divisors = divisors }
    where
      divisors : (d : Polynomial F) → Divides F d t → (size F d ≤ 1) ⊎ (size F d ≡ size F t)
      divisors d h = elim (dec_le (size F d) 1) [
        | yes l ↦ inl l
        | no l ↦ let s = Divides.size-divides F d t h variable-nonzero in let e = size-variable in inr (omega (arith, s, e, l))
      ]

  -- ---- powers
  power-nonzero : (n : ℕ) → ¬ (t ^ n ≡ R.zero)
  power-nonzero n = Multiplicity.power-nonzero F t n variable-nonzero

  pub size-power : (n : ℕ) → size F (t ^ n) ≡ suc n
  size-power zero = ap (size F) (Laws.power-zero R t) ∙ Degree.size-one F
  size-power (suc n) =
      let product = Degree.size-mul-nonzero F t (t ^ n) variable-nonzero (power-nonzero n) in
      let same = ap (size F) (Laws.power-suc R t n) in
      let one_less = size-power n in
      let two = size-variable in
      omega (arith, product, same, one_less, two)

  pub power-is_monic : (n : ℕ) → IsMonic F (t ^ n)
  power-is_monic zero = subst (IsMonic F) (sym (Laws.power-zero R t)) (Gcd.one-is_monic F)
  power-is_monic (suc n) = subst (IsMonic F) (sym (Laws.power-suc R t n)) (Gcd.mul-is_monic F t (t ^ n) variable-monic (power-is_monic n))

  -- ---- divisors of powers
  -- the power of t that d is
  pub record IsPowerOf (d : Polynomial F) : Type 0 where
    pub exponent : ℕ
    pub is : d ≡ t ^ exponent

  unit-is_power : (d : Polynomial F) → IsMonic F d → Divides F d R.one → IsPowerOf d
  unit-is_power d m h =
      let s = Gcd.size_of_unit F d h in
      record { exponent = 0; is = Gcd.one_of_monic F d m (omega (arith, s)) ∙ sym (Laws.power-zero R t) }

  coprime-is_power : (d : Polynomial F) (n : ℕ) → IsMonic F d → IsCoprime F t d → Divides F d (t ^ n) → IsPowerOf d
  coprime-is_power d n m c h =
      unit-is_power d m (Gcd.coprime-common_divisor F (t ^ n) d d (Gcd.coprime-power F t d n c) h (Divides.divides_refl F d))

  -- with d = c·t, c divides the power before
  lower-divides : (d c : Polynomial F) (n : ℕ) → d ≡ R.mul c t → Divides F d (t ^ suc n) → Divides F c (t ^ n)
  lower-divides d c n e h =
      Divides.divides_cancel F t c (t ^ n) variable-nonzero
      (subst (λ x. Divides F x (R.mul t (t ^ n))) (e ∙ R.mul_comm c t) (subst (Divides F d) (Laws.power-suc R t n) h))

  pub divisor-of_power : (n : ℕ) (d : Polynomial F) → IsMonic F d → Divides F d (t ^ n) → IsPowerOf d
  divisor-of_power zero d m h = unit-is_power d m (subst (Divides F d) (Laws.power-zero R t) h)
  divisor-of_power (suc n) d m h = by (λ c m h. divisor-of_power n c m h) (Irreducible.irreducible-coprime F t d variable-irreducible)
    where
      one_more : (k : Divides F t d) → IsPowerOf k.cofactor → IsPowerOf d
      one_more k p = record { exponent = suc p.exponent; is = k.equation ∙ ap (λ c. R.mul c t) p.is ∙ R.mul_comm (t ^ p.exponent) t ∙ sym (Laws.power-suc R t p.exponent) }

      by : ((c : Polynomial F) → IsMonic F c → Divides F c (t ^ n) → IsPowerOf c) → IsCoprime F t d ⊎ Divides F t d → IsPowerOf d
      by lower (inl c) = coprime-is_power d (suc n) m c h
      by lower (inr k) = one_more k (lower k.cofactor (Gcd.cofactor-is_monic F t d k m variable-monic) (lower-divides d k.cofactor n k.equation h))

  -- ---- the coefficient at exponent 0
  pub coefficient-of_power : (c : A) (n : ℕ) → coefficient F (R.mul (constant F c) (t ^ suc n)) 0 ≡ F.zero
  coefficient-of_power c n =
      Coefficients.coefficient-constant_mul F c (t ^ suc n) 0
      ∙ ap (F.mul c) (ap (λ p. coefficient F p 0) (Laws.power-suc R t n) ∙ Coefficients.coefficient-variable_mul-zero F (t ^ n)) ∙ Laws.mul-zero F.ring c
