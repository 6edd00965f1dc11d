-- Monomials y·t^m, their derivatives, and the two highest coefficients of a product.
use Rattle.std.specs.Prelude.{◌≡◌, ℕ, zero, suc, ◌+◌, ◌-◌, ◌≤◌, ◌<◌}
use Rattle.std.proofs.Common.{refl, sym, ap, ap₂, ◌∙◌, arith}
use native.Mathlib.Decide.{dec_le, ℕ_discrete}
use Rattle.risch_ring.specs.CommRing.{CommRing, Field, power, sub}
use Rattle.risch_ring.proofs.Laws as Laws
use Rattle.risch_univariate.specs.Polynomial.{Polynomial, coefficient, constant, variable}
use Rattle.risch_univariate.specs.Degree.{size}
use Rattle.risch_univariate.proofs.Degree as Degree
use Rattle.risch_univariate.specs.PolynomialRing.{polynomials}
use Rattle.risch_univariate.specs.PolynomialLaws.{polynomial_ext}
use Rattle.risch_univariate.proofs.Coefficients.{coefficient-zero, coefficient-add, coefficient-constant_mul, coefficient-variable_mul-zero, coefficient-variable_mul-suc, coefficient-constant-zero, coefficient-constant-suc, coefficient-sub}

module _ {A : Type 0} (F : Field A) where
  abbrev R : CommRing (Polynomial F)
  R = polynomials F

  abbrev t : Polynomial F
  t = variable F

  abbrev ◌^◌ : Polynomial F → ℕ → Polynomial F

  infixr 90 ◌^◌
  p ^ n = power R p n

  -- (t^m·p)_(m + i) = p_i
  pub coefficient-shift : (p : Polynomial F) (m i : ℕ) → coefficient F (R.mul (t ^ m) p) (m + i) ≡ coefficient F p i
  coefficient-shift p zero i =
      let e : zero + i ≡ i = omega arith in
      ap (coefficient F (R.mul (t ^ 0) p)) e ∙ ap (λ z. coefficient F (R.mul z p) i) (Laws.power-zero R t) ∙ ap (λ z. coefficient F z i) (Laws.one-mul R p)
  coefficient-shift p (suc m) i =
      let e : suc m + i ≡ suc (m + i) = omega arith in
      ap (coefficient F (R.mul (t ^ suc m) p)) e ∙ ap (λ z. coefficient F z (suc (m + i))) (ap (λ z. R.mul z p) (Laws.power-suc R t m) ∙ R.mul_assoc t (t ^ m) p)
      ∙ coefficient-variable_mul-suc F (R.mul (t ^ m) p) (m + i) ∙ coefficient-shift p m i

  -- (t^m·p)_i = 0 for i < m
  pub coefficient-shift-below : (p : Polynomial F) (m i : ℕ) → i < m → coefficient F (R.mul (t ^ m) p) i ≡ F.zero
  coefficient-shift-below p zero i l = absurd (omega (arith, l))
  coefficient-shift-below p (suc m) zero l =
      ap (λ z. coefficient F z 0) (ap (λ z. R.mul z p) (Laws.power-suc R t m) ∙ R.mul_assoc t (t ^ m) p) ∙ coefficient-variable_mul-zero F (R.mul (t ^ m) p)
  coefficient-shift-below p (suc m) (suc i) l =
      ap (λ z. coefficient F z (suc i)) (ap (λ z. R.mul z p) (Laws.power-suc R t m) ∙ R.mul_assoc t (t ^ m) p)
      ∙ coefficient-variable_mul-suc F (R.mul (t ^ m) p) i ∙ coefficient-shift-below p m i (omega (arith, l))

  -- y·t^m
  pub monomial : A → ℕ → Polynomial F
  monomial y m = R.mul (t ^ m) (constant F y)

  -- y·t^m = t^m·y
  pub monomial_is : (y : A) (m : ℕ) → monomial y m ≡ R.mul (t ^ m) (constant F y)
  unfolding monomial
  monomial_is y m = refl

  -- the coefficient of t^m in y·t^m is y
  pub coefficient-monomial : (y : A) (m : ℕ) → coefficient F (monomial y m) m ≡ y
  unfolding monomial
  coefficient-monomial y m =
      let e : m ≡ m + 0 = omega arith in
      ap (coefficient F (R.mul (t ^ m) (constant F y))) e ∙ coefficient-shift (constant F y) m 0 ∙ coefficient-constant-zero F y

  -- the other coefficients are 0
  pub coefficient-monomial-other : (y : A) (m i : ℕ) → ¬ (i ≡ m) → coefficient F (monomial y m) i ≡ F.zero
  unfolding monomial
  coefficient-monomial-other y m i n = elim (dec_le (suc i) m) [
    | yes l ↦ coefficient-shift-below (constant F y) m i (omega (arith, l))
    | no k ↦
        let e : i ≡ m + suc (i - suc m) = omega (arith, k, n) in
        ap (coefficient F (R.mul (t ^ m) (constant F y))) e ∙ coefficient-shift (constant F y) m (suc (i - suc m)) ∙ coefficient-constant-suc F y (i - suc m)
  ]

  -- a polynomial that has the coefficients of y·t^m is y·t^m
  pub monomial_ext : (p : Polynomial F) (y : A) (m : ℕ) → coefficient F p m ≡ y → ((i : ℕ) → ¬ (i ≡ m) → coefficient F p i ≡ F.zero) → p ≡ monomial y m
  monomial_ext p y m h k = polynomial_ext F p (monomial y m) λ i. elim (ℕ_discrete i m) [
    | yes e ↦ ap (coefficient F p) e ∙ h ∙ sym (coefficient-monomial y m) ∙ ap (coefficient F (monomial y m)) (sym e)
    | no n ↦ k i n ∙ sym (coefficient-monomial-other y m i n)
  ]

  -- deg (y·t^m) ≤ m
  pub size-monomial-le : (y : A) (m : ℕ) → size F (monomial y m) ≤ suc m
  size-monomial-le y m = Degree.size-le F (monomial y m) (suc m) (λ i l. coefficient-monomial-other y m i (λ e. absurd (omega (arith, l, e))))

  -- t^m is 1·t^m
  pub power-monomial : (m : ℕ) → t ^ m ≡ monomial F.one m
  unfolding monomial
  power-monomial m = sym (R.mul-one (t ^ m)) ∙ ap (R.mul (t ^ m)) (sym (Degree.constant-one F))

  -- q without its term of degree m
  pub rest : Polynomial F → ℕ → Polynomial F
  rest q m = sub R q (monomial (coefficient F q m) m)

  -- q = q_m·t^m + rest
  pub rest-equation : (q : Polynomial F) (m : ℕ) → q ≡ R.add (monomial (coefficient F q m) m) (rest q m)
  unfolding rest
  rest-equation q m = sym (R.add_comm (monomial (coefficient F q m) m) (sub R q (monomial (coefficient F q m) m)) ∙ Laws.neg-add_cancel R q (monomial (coefficient F q m) m))

  -- the rest has the coefficient 0 at m
  pub coefficient-rest : (q : Polynomial F) (m : ℕ) → coefficient F (rest q m) m ≡ F.zero
  unfolding rest
  coefficient-rest q m =
      coefficient-sub F q (monomial (coefficient F q m) m) m ∙ ap (λ z. F.add (coefficient F q m) (F.neg z)) (coefficient-monomial (coefficient F q m) m) ∙ F.add-neg (coefficient F q m)

  -- and the coefficients of q elsewhere
  pub coefficient-rest-other : (q : Polynomial F) (m i : ℕ) → ¬ (i ≡ m) → coefficient F (rest q m) i ≡ coefficient F q i
  unfolding rest
  coefficient-rest-other q m i n =
      coefficient-sub F q (monomial (coefficient F q m) m) i ∙ ap (λ z. F.add (coefficient F q i) (F.neg z)) (coefficient-monomial-other (coefficient F q m) m i n)
      ∙ ap (F.add (coefficient F q i)) (Laws.neg-zero F.ring) ∙ F.add-zero (coefficient F q i)

  -- deg q ≤ m gives deg (rest) ≤ m - 1
  pub size-rest-le : (q : Polynomial F) (m : ℕ) → size F q ≤ suc m → size F (rest q m) ≤ m
  size-rest-le q m h = Degree.size-le F (rest q m) m λ i l. elim (ℕ_discrete i m) [
    | yes e ↦ ap (coefficient F (rest q m)) e ∙ coefficient-rest q m
    | no n ↦ coefficient-rest-other q m i n ∙ Degree.below_size F q i (omega (arith, h, l, n))
  ]

  -- the coefficient of t^(m - 1), and 0 for m = 0
  pub coefficient_below : Polynomial F → ℕ → A
  coefficient_below p zero = F.zero
  coefficient_below p (suc m) = coefficient F p m

  -- the coefficient below t^0 is 0
  pub coefficient_below-zero : (p : Polynomial F) → coefficient_below p 0 ≡ F.zero
  unfolding coefficient_below
  coefficient_below-zero p = refl

  -- the coefficient below t^(m + 1) is p_m
  pub coefficient_below-suc : (p : Polynomial F) (m : ℕ) → coefficient_below p (suc m) ≡ coefficient F p m
  unfolding coefficient_below
  coefficient_below-suc p m = refl

  -- deg p ≤ m and deg q ≤ n + 1: (p·q)_(m + n) = p_m·q_n + p_(m - 1)·q_(n + 1)
  pub coefficient-mul-second : (p q : Polynomial F) (m n : ℕ) → size F p ≤ suc m → size F q ≤ suc (suc n)
      → coefficient F (R.mul p q) (m + n) ≡ F.add (F.mul (coefficient F p m) (coefficient F q n)) (F.mul (coefficient_below p m) (coefficient F q (suc n)))
  coefficient-mul-second p q m n hp hq =
      ap (λ z. coefficient F (R.mul z q) (m + n)) (rest-equation p m) ∙ ap (λ z. coefficient F z (m + n)) (Laws.add-mul R (monomial (coefficient F p m) m) (rest p m) q)
      ∙ coefficient-add F (R.mul (monomial (coefficient F p m) m) q) (R.mul (rest p m) q) (m + n)
      ∙ ap₂ F.add (top (coefficient F p m)) (lower m (size-rest-le p m hp) (λ i. coefficient-rest-other p m i))
    where
      top : (y : A) → coefficient F (R.mul (monomial y m) q) (m + n) ≡ F.mul y (coefficient F q n)
      top y = unfold monomial in
          (ap (λ z. coefficient F z (m + n)) (R.mul_assoc (t ^ m) (constant F y) q) ∙ coefficient-shift (R.mul (constant F y) q) m n ∙ coefficient-constant_mul F y q n)

      lower : (m' : ℕ) → size F (rest p m) ≤ m' → ((i : ℕ) → ¬ (i ≡ m') → coefficient F (rest p m) i ≡ coefficient F p i)
          → coefficient F (R.mul (rest p m) q) (m' + n) ≡ F.mul (coefficient_below p m') (coefficient F q (suc n))
      lower zero s o = unfold coefficient_below in
          (ap (λ z. coefficient F (R.mul z q) (0 + n)) (Degree.zero_of_size F (rest p m) (let e : size F (rest p m) ≡ zero = omega (arith, s) in e))
          ∙ ap (λ z. coefficient F z (0 + n)) (Laws.zero-mul R q) ∙ coefficient-zero F (0 + n) ∙ sym (Laws.zero-mul F.ring (coefficient F q (suc n))))
      lower (suc k) s o = unfold coefficient_below in
          (let e : suc k + n ≡ k + suc n = omega arith in
          ap (coefficient F (R.mul (rest p m) q)) e ∙ Degree.coefficient-mul-top F (rest p m) q k (suc n) s hq
          ∙ ap (λ z. F.mul z (coefficient F q (suc n))) (o k (λ e. absurd (omega (arith, e)))))
