-- The degree of sums and products, and K[t] has no zero divisors.
use Rattle.std.specs.Prelude.{◌≡◌, ℕ, zero, suc, pred, List, [], ◌∷◌, length, get_or, ◌+◌, ◌≤◌, ◌<◌}
use Rattle.std.proofs.Common.{refl, sym, ap, ap₂, subst, ◌∙◌, arith}
use native.Mathlib.Decide.{dec_le}
use Rattle.risch_ring.specs.CommRing.{CommRing, Field}
use Rattle.risch_ring.proofs.Laws as Laws
use Rattle.risch_univariate.specs.Polynomial.{Polynomial, IsTrimmed, coefficient, constant, variable}
use Rattle.risch_ring.proofs.FieldLaws as FieldLaws
use Rattle.risch_univariate.specs.Degree.{size, degree, leading_coefficient}
use Rattle.risch_univariate.specs.PolynomialRing.{polynomials, horner}
use Rattle.risch_univariate.specs.PolynomialLaws.{polynomial_ext}
use Rattle.risch_univariate.proofs.PolynomialInduction.{polynomial_induction}
use Rattle.risch_univariate.proofs.Coefficients.{coefficient-zero, coefficient-add, coefficient-neg, coefficient-constant_mul, coefficient-variable_mul-zero, coefficient-variable_mul-suc, coefficient-horner-zero, coefficient-horner-suc, coefficient-constant-zero, coefficient-constant-suc}

module _ {A : Type 0} (F : Field A) where
  abbrev R : CommRing (Polynomial F)
  R = polynomials F

  -- deg p < n, by the coefficients
  abbrev IsBelow : Polynomial F → ℕ → Type 0
  IsBelow p n = (i : ℕ) → n ≤ i → coefficient F p i ≡ F.zero

  -- a list has the coefficient 0 from its length on
  get_or-beyond : (l : List A) (i : ℕ) → length l ≤ i → get_or l i F.zero ≡ F.zero
  get_or-beyond [] i h = refl
  get_or-beyond (a ∷ l) zero h = absurd (omega (arith, h))
  get_or-beyond (a ∷ l) (suc i) h = get_or-beyond l i (omega (arith, h))

  -- p_i = 0 for i ≥ size p
  pub below_size : (p : Polynomial F) (i : ℕ) → size F p ≤ i → coefficient F p i ≡ F.zero
  unfolding coefficient
  below_size p i h = get_or-beyond p.coefficients i h

  get_or-last : (a : A) (l : List A) → IsTrimmed F (a ∷ l) → ¬ (get_or (a ∷ l) (length l) F.zero ≡ F.zero)
  get_or-last a [] h = h
  get_or-last a (b ∷ l) h = get_or-last b l h

  -- the leading coefficient of p ≠ 0 is not 0
  pub leading-nonzero : (p : Polynomial F) (n : ℕ) → size F p ≡ suc n → ¬ (coefficient F p n ≡ F.zero)
  unfolding coefficient
  leading-nonzero p n h = go p.coefficients p.is_trimmed h
    where
      go : (l : List A) → IsTrimmed F l → length l ≡ suc n → ¬ (get_or l n F.zero ≡ F.zero)
      go [] k h = absurd (omega (arith, h))
      go (a ∷ l) k h = let e : length l ≡ n = omega (arith, h) in subst (λ m. ¬ (get_or (a ∷ l) m F.zero ≡ F.zero)) e (get_or-last a l k)

  -- size p ≤ n, if all coefficients from n on are 0
  pub size-le : (p : Polynomial F) (n : ℕ) → IsBelow p n → size F p ≤ n
  size-le p n h = go (size F p) refl
    where
      go : (m : ℕ) → size F p ≡ m → m ≤ n
      go zero e = omega arith
      go (suc m) e = elim (dec_le (suc m) n) [ yes l ↦ l | no k ↦ absurd (leading-nonzero p m e (h m (omega (arith, k)))) ]

  -- p = 0 if all coefficients are 0
  zero_of_below : (p : Polynomial F) → IsBelow p zero → p ≡ R.zero
  zero_of_below p h = polynomial_ext F p R.zero λ i. h i (omega arith) ∙ sym (coefficient-zero F i)

  -- the only polynomial of size 0 is 0
  pub zero_of_size : (p : Polynomial F) → size F p ≡ zero → p ≡ R.zero
  zero_of_size p h = zero_of_below p λ i l. below_size p i (omega (arith, h))

  -- size 0 = 0
  pub size-zero : size F R.zero ≡ zero
  size-zero = let l : size F R.zero ≤ zero = size-le R.zero zero (λ i h. coefficient-zero F i) in omega (arith, l)

  -- p = 0 is decidable
  pub dec_zero : (p : Polynomial F) → Dec (p ≡ R.zero)
  dec_zero p = go (size F p) refl
    where
      go : (n : ℕ) → size F p ≡ n → Dec (p ≡ R.zero)
      go zero e = yes (zero_of_size p e)
      go (suc n) e = no (λ h. absurd (let l : size F p ≡ zero = ap (size F) h ∙ size-zero in omega (arith, e, l)))

  -- p = q is decidable
  pub dec_polynomial : (p q : Polynomial F) → Dec (p ≡ q)
  dec_polynomial p q = go (dec_zero (R.add p (R.neg q)))
    where
      go : Dec (R.add p (R.neg q) ≡ R.zero) → Dec (p ≡ q)
      go (yes e) = yes (Laws.eq_of_sub R p q e)
      go (no n) = no (λ e. n (ap (λ z. R.add z (R.neg q)) e ∙ R.add-neg q))

  -- p ≠ 0 has 1 + deg p coefficients
  pub size_of_nonzero : (p : Polynomial F) → ¬ (p ≡ R.zero) → size F p ≡ suc (degree F p)
  size_of_nonzero p h = go (size F p) refl
    where
      go : (n : ℕ) → size F p ≡ n → size F p ≡ suc (pred (size F p))
      go zero e = absurd (h (zero_of_size p e))
      go (suc n) e = omega (arith, e)

  -- size p > 0 gives p ≠ 0
  pub nonzero_of_size : (p : Polynomial F) → 0 < size F p → ¬ (p ≡ R.zero)
  nonzero_of_size p l e = let z : size F p ≡ zero = ap (size F) e ∙ size-zero in absurd (omega (arith, l, z))

  -- the leading coefficient of p ≠ 0 is not 0
  pub leading_coefficient-nonzero : (p : Polynomial F) → ¬ (p ≡ R.zero) → ¬ (leading_coefficient F p ≡ F.zero)
  leading_coefficient-nonzero p h = leading-nonzero p (degree F p) (size_of_nonzero p h)

  -- ---- sums

  -- size (p + q) ≤ n, if size p ≤ n and size q ≤ n
  pub size-add-le : (p q : Polynomial F) (n : ℕ) → size F p ≤ n → size F q ≤ n → size F (R.add p q) ≤ n
  size-add-le p q n hp hq = size-le (R.add p q) n λ i l.
      coefficient-add F p q i ∙ ap₂ F.add (below_size p i (omega (arith, hp, l))) (below_size q i (omega (arith, hq, l))) ∙ F.add-zero F.zero

  -- size (-p) ≤ size p
  pub size-neg-le : (p : Polynomial F) → size F (R.neg p) ≤ size F p
  size-neg-le p = size-le (R.neg p) (size F p) λ i l. coefficient-neg F p i ∙ ap F.neg (below_size p i l) ∙ Laws.neg-zero F.ring

  -- size (-p) = size p
  pub size-neg : (p : Polynomial F) → size F (R.neg p) ≡ size F p
  size-neg p =
      let l = size-neg-le p in
      let k : size F p ≤ size F (R.neg p) = subst (λ q. size F q ≤ size F (R.neg p)) (Laws.neg-neg R p) (size-neg-le (R.neg p)) in
      omega (arith, l, k)

  -- size (p - q) ≤ n, if size p ≤ n and size q ≤ n
  pub size-sub-le : (p q : Polynomial F) (n : ℕ) → size F p ≤ n → size F q ≤ n → size F (R.add p (R.neg q)) ≤ n
  size-sub-le p q n hp hq = size-add-le p (R.neg q) n hp (let l = size-neg-le q in omega (arith, hq, l))

  -- ---- products

  -- (a + t·p)·q = a·q + t·(p·q)
  pub horner_mul : (a : A) (p q : Polynomial F) → R.mul (horner F a p) q ≡ R.add (R.mul (constant F a) q) (R.mul (variable F) (R.mul p q))
  horner_mul a p q = Laws.add-mul R (constant F a) (R.mul (variable F) p) q ∙ ap (λ z. R.add (R.mul (constant F a) q) z) (R.mul_assoc (variable F) p q)

  -- ((a + t·p)·q)_0 = a·q_0
  pub horner_mul-zero : (a : A) (p q : Polynomial F) → coefficient F (R.mul (horner F a p) q) zero ≡ F.mul a (coefficient F q zero)
  horner_mul-zero a p q =
      ap (λ z. coefficient F z zero) (horner_mul a p q) ∙ coefficient-add F (R.mul (constant F a) q) (R.mul (variable F) (R.mul p q)) zero
      ∙ ap₂ F.add (coefficient-constant_mul F a q zero) (coefficient-variable_mul-zero F (R.mul p q)) ∙ F.add-zero (F.mul a (coefficient F q zero))

  -- ((a + t·p)·q)_(i + 1) = a·q_(i + 1) + (p·q)_i
  pub horner_mul-suc : (a : A) (p q : Polynomial F) (i : ℕ)
      → coefficient F (R.mul (horner F a p) q) (suc i) ≡ F.add (F.mul a (coefficient F q (suc i))) (coefficient F (R.mul p q) i)
  horner_mul-suc a p q i =
      ap (λ z. coefficient F z (suc i)) (horner_mul a p q) ∙ coefficient-add F (R.mul (constant F a) q) (R.mul (variable F) (R.mul p q)) (suc i)
      ∙ ap₂ F.add (coefficient-constant_mul F a q (suc i)) (coefficient-variable_mul-suc F (R.mul p q) i)

  -- deg (a + t·p) < n + 1 gives deg p < n
  horner_below : (a : A) (p : Polynomial F) (n : ℕ) → IsBelow (horner F a p) (suc n) → IsBelow p n
  horner_below a p n h i l = sym (coefficient-horner-suc F a p i) ∙ h (suc i) (omega (arith, l))

  -- a·x + y with x = 0 and y = 0
  scaled_zero : (a x y : A) → x ≡ F.zero → y ≡ F.zero → F.add (F.mul a x) y ≡ F.zero
  scaled_zero a x y e f = ap₂ F.add (ap (F.mul a) e ∙ Laws.mul-zero F.ring a) f ∙ F.add-zero F.zero

  -- deg p ≤ m and deg q ≤ n give deg (p·q) ≤ m + n
  below-mul : (q : Polynomial F) (n : ℕ) → IsBelow q (suc n) → (p : Polynomial F) (m : ℕ) → IsBelow p (suc m) → IsBelow (R.mul p q) (suc (m + n))
  below-mul q n hq = polynomial_induction F (λ p. (m : ℕ) → IsBelow p (suc m) → IsBelow (R.mul p q) (suc (m + n)))
      (λ m h i l. ap (λ z. coefficient F z i) (Laws.zero-mul R q) ∙ coefficient-zero F i)
      step
    where
      step : (a : A) (p : Polynomial F) → ((m : ℕ) → IsBelow p (suc m) → IsBelow (R.mul p q) (suc (m + n)))
          → (m : ℕ) → IsBelow (horner F a p) (suc m) → IsBelow (R.mul (horner F a p) q) (suc (m + n))
      step a p ih m h zero l = absurd (omega (arith, l))
      step a p ih zero h (suc i) l =
          horner_mul-suc a p q i
          ∙ scaled_zero a (coefficient F q (suc i)) (coefficient F (R.mul p q) i) (hq (suc i) (omega (arith, l)))
          (ap (λ z. coefficient F (R.mul z q) i) (zero_of_below p (horner_below a p zero h)) ∙ ap (λ z. coefficient F z i) (Laws.zero-mul R q) ∙ coefficient-zero F i)
      step a p ih (suc m) h (suc i) l =
          horner_mul-suc a p q i
          ∙ scaled_zero a (coefficient F q (suc i)) (coefficient F (R.mul p q) i) (hq (suc i) (omega (arith, l)))
          (ih m (horner_below a p (suc m) h) i (omega (arith, l)))

  -- (p·q)_(m + n) = p_m·q_n for deg p ≤ m and deg q ≤ n
  top-mul : (q : Polynomial F) (n : ℕ) → IsBelow q (suc n) → (p : Polynomial F) (m : ℕ) → IsBelow p (suc m)
      → coefficient F (R.mul p q) (m + n) ≡ F.mul (coefficient F p m) (coefficient F q n)
  top-mul q n hq = polynomial_induction F (λ p. (m : ℕ) → IsBelow p (suc m) → coefficient F (R.mul p q) (m + n) ≡ F.mul (coefficient F p m) (coefficient F q n))
      (λ m h. ap (λ z. coefficient F z (m + n)) (Laws.zero-mul R q) ∙ coefficient-zero F (m + n)
      ∙ sym (ap (λ x. F.mul x (coefficient F q n)) (coefficient-zero F m) ∙ Laws.zero-mul F.ring (coefficient F q n)))
      step
    where
      below : (a : A) (p : Polynomial F) → IsBelow (horner F a p) 1 → (i : ℕ) → coefficient F (R.mul (horner F a p) q) i ≡ F.mul a (coefficient F q i)
      below a p h zero = horner_mul-zero a p q
      below a p h (suc i) =
          horner_mul-suc a p q i
          ∙ ap (λ z. F.add (F.mul a (coefficient F q (suc i))) z)
          (ap (λ z. coefficient F (R.mul z q) i) (zero_of_below p (horner_below a p zero h)) ∙ ap (λ z. coefficient F z i) (Laws.zero-mul R q) ∙ coefficient-zero F i)
          ∙ F.add-zero (F.mul a (coefficient F q (suc i)))

      step : (a : A) (p : Polynomial F) → ((m : ℕ) → IsBelow p (suc m) → coefficient F (R.mul p q) (m + n) ≡ F.mul (coefficient F p m) (coefficient F q n))
          → (m : ℕ) → IsBelow (horner F a p) (suc m) → coefficient F (R.mul (horner F a p) q) (m + n) ≡ F.mul (coefficient F (horner F a p) m) (coefficient F q n)
      step a p ih zero h =
          let e : zero + n ≡ n = omega arith in
          ap (λ i. coefficient F (R.mul (horner F a p) q) i) e ∙ below a p h n ∙ ap (λ x. F.mul x (coefficient F q n)) (sym (coefficient-horner-zero F a p))
      step a p ih (suc m) h =
          let e : suc m + n ≡ suc (m + n) = omega arith in
          ap (λ i. coefficient F (R.mul (horner F a p) q) i) e ∙ horner_mul-suc a p q (m + n)
          ∙ ap₂ F.add (ap (F.mul a) (hq (suc (m + n)) (omega arith)) ∙ Laws.mul-zero F.ring a) (ih m (horner_below a p (suc m) h))
          ∙ Laws.zero-add F.ring (F.mul (coefficient F p m) (coefficient F q n))
          ∙ ap (λ x. F.mul x (coefficient F q n)) (sym (coefficient-horner-suc F a p m))

  -- the coefficient of t ^ (m + n) in p·q, if deg p ≤ m and deg q ≤ n
  pub coefficient-mul-top : (p q : Polynomial F) (m n : ℕ) → size F p ≤ suc m → size F q ≤ suc n
      → coefficient F (R.mul p q) (m + n) ≡ F.mul (coefficient F p m) (coefficient F q n)
  coefficient-mul-top p q m n hp hq = top-mul q n (λ i l. below_size q i (omega (arith, hq, l))) p m (λ i l. below_size p i (omega (arith, hp, l)))

  -- deg p ≤ m and deg q ≤ n give deg (p·q) ≤ m + n
  pub size-mul-le : (p q : Polynomial F) (m n : ℕ) → size F p ≤ suc m → size F q ≤ suc n → size F (R.mul p q) ≤ suc (m + n)
  size-mul-le p q m n hp hq = size-le (R.mul p q) (suc (m + n)) (below-mul q n (λ i l. below_size q i (omega (arith, hq, l))) p m (λ i l. below_size p i (omega (arith, hp, l))))

  -- p_n ≠ 0 gives n < size p
  pub size-ge : (p : Polynomial F) (n : ℕ) → ¬ (coefficient F p n ≡ F.zero) → suc n ≤ size F p
  size-ge p n h = elim (dec_le (suc n) (size F p)) [ yes l ↦ l | no k ↦ absurd (h (below_size p n (omega (arith, k)))) ]

  -- deg (p·q) = deg p + deg q: with size p = m + 1 and size q = n + 1, size (p·q) = m + n + 1
  pub size-mul : (p q : Polynomial F) (m n : ℕ) → size F p ≡ suc m → size F q ≡ suc n → size F (R.mul p q) ≡ suc (m + n)
  size-mul p q m n hp hq =
      let le = size-mul-le p q m n (omega (arith, hp)) (omega (arith, hq)) in
      let ge = size-ge (R.mul p q) (m + n) (λ e. FieldLaws.mul-nonzero F (coefficient F p m) (coefficient F q n) (leading-nonzero p m hp) (leading-nonzero q n hq)
      (sym (coefficient-mul-top p q m n (omega (arith, hp)) (omega (arith, hq))) ∙ e)) in
      omega (arith, le, ge)

  -- 1 + size (p·q) = size p + size q, if p ≠ 0 and q ≠ 0
  pub size-mul-nonzero : (p q : Polynomial F) → ¬ (p ≡ R.zero) → ¬ (q ≡ R.zero) → suc (size F (R.mul p q)) ≡ size F p + size F q
  size-mul-nonzero p q hp hq =
      let e = size_of_nonzero p hp in let f = size_of_nonzero q hq in let g = size-mul p q (degree F p) (degree F q) e f in omega (arith, e, f, g)

  -- K[t] has no zero divisors
  pub mul_polynomials-nonzero : (p q : Polynomial F) → ¬ (p ≡ R.zero) → ¬ (q ≡ R.zero) → ¬ (R.mul p q ≡ R.zero)
  mul_polynomials-nonzero p q hp hq = nonzero_of_size (R.mul p q)
      (let g = size-mul p q (degree F p) (degree F q) (size_of_nonzero p hp) (size_of_nonzero q hq) in omega (arith, g))

  -- p·q = 0 and p ≠ 0 give q = 0
  pub zero_of_mul_polynomials : (p q : Polynomial F) → ¬ (p ≡ R.zero) → R.mul p q ≡ R.zero → q ≡ R.zero
  zero_of_mul_polynomials p q hp e = elim (dec_zero q) [ yes z ↦ z | no hq ↦ absurd (mul_polynomials-nonzero p q hp hq e) ]

  -- p·q ≠ 0 gives p ≠ 0
  pub nonzero_of_mul_left : (p q : Polynomial F) → ¬ (R.mul p q ≡ R.zero) → ¬ (p ≡ R.zero)
  nonzero_of_mul_left p q h e = h (ap (λ z. R.mul z q) e ∙ Laws.zero-mul R q)

  -- p·q ≠ 0 gives q ≠ 0
  pub nonzero_of_mul_right : (p q : Polynomial F) → ¬ (R.mul p q ≡ R.zero) → ¬ (q ≡ R.zero)
  nonzero_of_mul_right p q h e = h (ap (λ z. R.mul p z) e ∙ Laws.mul-zero R p)

  -- p·q = p·r and p ≠ 0 give q = r
  pub mul_polynomials_cancel : (p q r : Polynomial F) → ¬ (p ≡ R.zero) → R.mul p q ≡ R.mul p r → q ≡ r
  mul_polynomials_cancel p q r h e = Laws.eq_of_sub R q r (zero_of_mul_polynomials p (R.add q (R.neg r)) h
      (R.mul-add p q (R.neg r) ∙ ap₂ R.add e (R.mul_comm p (R.neg r) ∙ Laws.neg-mul R r p ∙ ap R.neg (R.mul_comm r p)) ∙ R.add-neg (R.mul p r)))

  -- the leading coefficient of p·q is the product of those of p and q
  pub leading_coefficient-mul : (p q : Polynomial F) → ¬ (p ≡ R.zero) → ¬ (q ≡ R.zero)
      → leading_coefficient F (R.mul p q) ≡ F.mul (leading_coefficient F p) (leading_coefficient F q)
  leading_coefficient-mul p q hp hq =
      let e = size_of_nonzero p hp in
      let f = size_of_nonzero q hq in
      let g = size-mul p q (degree F p) (degree F q) e f in
      let d : degree F (R.mul p q) ≡ degree F p + degree F q = ap pred g in
      ap (coefficient F (R.mul p q)) d ∙ coefficient-mul-top p q (degree F p) (degree F q) (omega (arith, e)) (omega (arith, f))

  -- ---- constants

  -- size a ≤ 1 for a in K
  pub size-constant-le : (a : A) → size F (constant F a) ≤ 1
  size-constant-le a = size-le (constant F a) 1 go
    where
      go : (i : ℕ) → 1 ≤ i → coefficient F (constant F a) i ≡ F.zero
      go zero l = absurd (omega (arith, l))
      go (suc i) l = coefficient-constant-suc F a i

  -- size a = 1 for a ≠ 0 in K
  pub size-constant : (a : A) → ¬ (a ≡ F.zero) → size F (constant F a) ≡ 1
  size-constant a h =
      let l = size-constant-le a in let k = size-ge (constant F a) 0 (λ e. h (sym (coefficient-constant-zero F a) ∙ e)) in omega (arith, l, k)

  -- a polynomial of degree 0 is a constant
  pub constant_of_size : (p : Polynomial F) → size F p ≤ 1 → p ≡ constant F (coefficient F p 0)
  constant_of_size p h = polynomial_ext F p _ go
    where
      go : (i : ℕ) → coefficient F p i ≡ coefficient F (constant F (coefficient F p 0)) i
      go zero = sym (coefficient-constant-zero F (coefficient F p 0))
      go (suc i) = below_size p (suc i) (omega (arith, h)) ∙ sym (coefficient-constant-suc F (coefficient F p 0) i)

  -- constants: a ↦ a is a homomorphism K → K[t]
  pub constant-zero : constant F F.zero ≡ R.zero
  constant-zero = polynomial_ext F _ _ go
    where
      go : (i : ℕ) → coefficient F (constant F F.zero) i ≡ coefficient F R.zero i
      go zero = coefficient-constant-zero F F.zero ∙ sym (coefficient-zero F 0)
      go (suc i) = coefficient-constant-suc F F.zero i ∙ sym (coefficient-zero F (suc i))

  -- (a + b) = a + b for constants
  pub constant-add : (a b : A) → constant F (F.add a b) ≡ R.add (constant F a) (constant F b)
  constant-add a b = polynomial_ext F _ _ go
    where
      go : (i : ℕ) → coefficient F (constant F (F.add a b)) i ≡ coefficient F (R.add (constant F a) (constant F b)) i
      go zero = coefficient-constant-zero F (F.add a b) ∙ sym (coefficient-add F (constant F a) (constant F b) 0 ∙ ap₂ F.add (coefficient-constant-zero F a) (coefficient-constant-zero F b))
      go (suc i) =
          coefficient-constant-suc F (F.add a b) i
          ∙ sym (coefficient-add F (constant F a) (constant F b) (suc i) ∙ ap₂ F.add (coefficient-constant-suc F a i) (coefficient-constant-suc F b i) ∙ F.add-zero F.zero)

  -- (a·b) = a·b for constants
  pub constant-mul : (a b : A) → constant F (F.mul a b) ≡ R.mul (constant F a) (constant F b)
  constant-mul a b = polynomial_ext F _ _ go
    where
      go : (i : ℕ) → coefficient F (constant F (F.mul a b)) i ≡ coefficient F (R.mul (constant F a) (constant F b)) i
      go zero = coefficient-constant-zero F (F.mul a b) ∙ sym (coefficient-constant_mul F a (constant F b) 0 ∙ ap (F.mul a) (coefficient-constant-zero F b))
      go (suc i) =
          coefficient-constant-suc F (F.mul a b) i
          ∙ sym (coefficient-constant_mul F a (constant F b) (suc i) ∙ ap (F.mul a) (coefficient-constant-suc F b i) ∙ Laws.mul-zero F.ring a)

  -- the constant 1 is 1
  pub constant-one : constant F F.one ≡ R.one
  constant-one = sym (R.mul-one (constant F F.one)) ∙ polynomial_ext F _ _ λ i. coefficient-constant_mul F F.one R.one i ∙ Laws.one-mul F.ring (coefficient F R.one i)

  -- a ≠ 0 in K gives a ≠ 0 in K[t]
  pub constant-nonzero : (a : A) → ¬ (a ≡ F.zero) → ¬ (constant F a ≡ R.zero)
  constant-nonzero a h = nonzero_of_size (constant F a) (let e = size-constant a h in omega (arith, e))

  -- size 1 = 1
  pub size-one : size F R.one ≡ 1
  size-one = ap (size F) (sym constant-one) ∙ size-constant F.one F.one-ne-zero

  -- 1 ≠ 0 in K[t]
  pub one-ne-zero : ¬ (R.one ≡ R.zero)
  one-ne-zero = nonzero_of_size R.one (let e = size-one in omega (arith, e))

  -- size (c·p) = size p, if c ≠ 0
  pub size-constant_mul : (c : A) (p : Polynomial F) → ¬ (c ≡ F.zero) → size F (R.mul (constant F c) p) ≡ size F p
  size-constant_mul c p h = elim (dec_zero p) [
    | yes e ↦ ap (size F) (ap (R.mul (constant F c)) e ∙ Laws.mul-zero R (constant F c) ∙ sym e)
    | no k ↦ let s = size-mul-nonzero (constant F c) p (constant-nonzero c h) k in let o = size-constant c h in omega (arith, s, o)
  ]

  -- (-a) = -a for constants
  pub constant-neg : (a : A) → constant F (F.neg a) ≡ R.neg (constant F a)
  constant-neg a = Laws.neg_of_add R (constant F a) (constant F (F.neg a)) (sym (constant-add (F.neg a) a) ∙ ap (constant F) (Laws.neg-add F.ring a) ∙ constant-zero)
