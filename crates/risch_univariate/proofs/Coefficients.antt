-- The coefficients of sums, of multiples by constants and by t, and of a + t·p.
use Rattle.std.specs.Prelude.{◌≡◌, ℕ, zero, suc, [], ◌∷◌, get_or}
use Rattle.std.proofs.Common.{sym, ap, ap₂, ◌∙◌}
use Rattle.risch_ring.specs.CommRing.{Field, sub}
use Rattle.risch_ring.specs.Operators.{operators}
use Rattle.risch_ring.proofs.Laws as Laws
use Rattle.risch_univariate.specs.Polynomial.{Polynomial, coefficient, with_head, with_head-is_trimmed, of_list, zero_polynomial, constant, variable}
use Rattle.risch_univariate.specs.PolynomialLaws.{with_head-get, coefficient-of_list, polynomial_ext, shift, act, trim-act, coefficient-add_polynomials, coefficient-neg_polynomial, coefficient-mul_polynomials, one-act}
use Rattle.risch_univariate.specs.PolynomialRing.{polynomials, horner}

module _ {A : Type 0} (F : Field A) where
  open (operators F.ring) use {𝟘, 𝟙, ◌+◌, ◌*◌, -◌}

  -- 0_i = 0
  pub coefficient-zero : (i : ℕ) → coefficient F (polynomials F).zero i ≡ 𝟘
  unfolding polynomials zero_polynomial
  coefficient-zero i = coefficient-of_list F [] i

  -- (p + q)_i = p_i + q_i
  pub coefficient-add : (p q : Polynomial F) (i : ℕ) → coefficient F ((polynomials F).add p q) i ≡ coefficient F p i + coefficient F q i
  unfolding polynomials
  coefficient-add = coefficient-add_polynomials F

  -- (-p)_i = -p_i
  pub coefficient-neg : (p : Polynomial F) (i : ℕ) → coefficient F ((polynomials F).neg p) i ≡ - coefficient F p i
  unfolding polynomials
  coefficient-neg = coefficient-neg_polynomial F

  -- (p - q)_i = p_i - q_i
  pub coefficient-sub : (p q : Polynomial F) (i : ℕ) → coefficient F (sub (polynomials F) p q) i ≡ coefficient F p i + - coefficient F q i
  coefficient-sub p q i = coefficient-add p ((polynomials F).neg q) i ∙ ap (λ x. coefficient F p i + x) (coefficient-neg q i)

  -- (a·p)_i = a·p_i for a in K
  pub coefficient-constant_mul : (a : A) (p : Polynomial F) (i : ℕ) → coefficient F ((polynomials F).mul (constant F a) p) i ≡ a * coefficient F p i
  unfolding polynomials constant of_list
  coefficient-constant_mul a p zero =
      coefficient-mul_polynomials F (constant F a) p zero ∙ trim-act F (a ∷ []) (coefficient F p) zero ∙ F.add-zero (a * coefficient F p zero)
  coefficient-constant_mul a p (suc i) =
      coefficient-mul_polynomials F (constant F a) p (suc i) ∙ trim-act F (a ∷ []) (coefficient F p) (suc i) ∙ F.add-zero (a * coefficient F p (suc i))

  -- t·p is the shift of p
  variable_mul : (p : Polynomial F) (i : ℕ) → coefficient F ((polynomials F).mul (variable F) p) i ≡ shift F (coefficient F p) i
  unfolding polynomials variable of_list
  variable_mul p i = coefficient-mul_polynomials F (variable F) p i ∙ trim-act F (𝟘 ∷ 𝟙 ∷ []) (coefficient F p) i ∙ go i
    where
      go : (i : ℕ) → act F (𝟘 ∷ 𝟙 ∷ []) (coefficient F p) i ≡ shift F (coefficient F p) i
      go zero = F.add-zero (𝟘 * coefficient F p zero) ∙ Laws.zero-mul F.ring (coefficient F p zero)
      go (suc i) = ap₂ F.add (Laws.zero-mul F.ring (coefficient F p (suc i))) (one-act F p i) ∙ Laws.zero-add F.ring (coefficient F p i)

  -- (t·p)_0 = 0
  pub coefficient-variable_mul-zero : (p : Polynomial F) → coefficient F ((polynomials F).mul (variable F) p) zero ≡ 𝟘
  coefficient-variable_mul-zero p = variable_mul p zero

  -- (t·p)_(i + 1) = p_i
  pub coefficient-variable_mul-suc : (p : Polynomial F) (i : ℕ) → coefficient F ((polynomials F).mul (variable F) p) (suc i) ≡ coefficient F p i
  coefficient-variable_mul-suc p i = variable_mul p (suc i)

  -- a_0 = a for a in K
  pub coefficient-constant-zero : (a : A) → coefficient F (constant F a) zero ≡ a
  unfolding constant
  coefficient-constant-zero a = coefficient-of_list F (a ∷ []) zero

  -- a_(i + 1) = 0 for a in K
  pub coefficient-constant-suc : (a : A) (i : ℕ) → coefficient F (constant F a) (suc i) ≡ 𝟘
  unfolding constant
  coefficient-constant-suc a i = coefficient-of_list F (a ∷ []) (suc i)

  -- (a + t·p)_0 = a
  pub coefficient-horner-zero : (a : A) (p : Polynomial F) → coefficient F (horner F a p) zero ≡ a
  coefficient-horner-zero a p =
      coefficient-add (constant F a) ((polynomials F).mul (variable F) p) zero ∙ ap₂ F.add (coefficient-constant-zero a) (coefficient-variable_mul-zero p) ∙ F.add-zero a

  -- (a + t·p)_(i + 1) = p_i
  pub coefficient-horner-suc : (a : A) (p : Polynomial F) (i : ℕ) → coefficient F (horner F a p) (suc i) ≡ coefficient F p i
  coefficient-horner-suc a p i =
      coefficient-add (constant F a) ((polynomials F).mul (variable F) p) (suc i) ∙ ap₂ F.add (coefficient-constant-suc a i) (coefficient-variable_mul-suc p i)
      ∙ Laws.zero-add F.ring (coefficient F p i)

  -- the coefficients of a + t·p
  pub horner-coefficients : (a : A) (p : Polynomial F) → (horner F a p).coefficients ≡ with_head F a p.coefficients
  horner-coefficients a p = ap (λ q. q.coefficients) (polynomial_ext F (horner F a p) direct same)
    where
      direct : Polynomial F
      direct = record { coefficients = with_head F a p.coefficients; is_trimmed = with_head-is_trimmed F a p.coefficients p.is_trimmed }

      direct-get : (i : ℕ) → coefficient F direct i ≡ get_or (a ∷ p.coefficients) i 𝟘
      direct-get i = unfold coefficient in with_head-get F a p.coefficients i

      same : (i : ℕ) → coefficient F (horner F a p) i ≡ coefficient F direct i
      same zero = coefficient-horner-zero a p ∙ sym (direct-get zero)
      same (suc i) = coefficient-horner-suc a p i ∙ unfold coefficient in sym (direct-get (suc i))
