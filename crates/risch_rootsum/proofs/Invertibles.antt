-- Members of the algebra modulo R that have an inverse: p has one exactly where p and R are coprime.
--     inverse_of_divides      where R divides v·p - 1, the remainder of v is the inverse of p
--     invertible_of_coprime, coprime_of_invertible      p has an inverse exactly where it is coprime to R
--     inverse_of_same, invertible_of_same      polynomials with the same remainder have the same inverse
--     derivative-coefficient      the coefficients of R'
use Rattle.std.specs.Prelude.{get_or}
use Rattle.std.proofs.Common.{◌≡◌, sym, ap, ◌∙◌, ℕ, zero, suc, ◌+◌, ◌≤◌, List, [], ◌∷◌, length, arith}
use Rattle.risch_ring.specs.CommRing.{Field, sub, of_nat}
use Rattle.risch_ring.proofs.Laws as Laws
use Rattle.risch_univariate.specs.Polynomial.{Polynomial, coefficient, of_list}
use Rattle.risch_univariate.specs.PolynomialLaws.{coefficient-of_list, polynomial_ext}
use Rattle.risch_univariate.specs.PolynomialRing.{polynomials}
use Rattle.risch_univariate.specs.Degree.{size, IsMonic}
use Rattle.risch_univariate.specs.Division.{Divides, IsCoprime, IsGcd}
use Rattle.risch_univariate.proofs.Degree as Degree
use Rattle.risch_univariate.proofs.Gcd as Gcd
use Rattle.risch_mean.specs.Univariate.{numbered, formal_derivative}
use Rattle.risch_mean.specs.Algebra.{remainder, times_mod, with_leading_one, derivative_by_z, IsInverse, IsInvertible}
use Rattle.risch_element_theory.proofs.Coprimality.{coprime_of_inverse}
use Rattle.risch_trace.proofs.Remainders as Remainders
use Rattle.risch_trace.proofs.Remainders.{modulus_of}

module _ {A : Type 0} (F : Field A) where
  module _ (r : List A) (some : 1 ≤ length r) where
    open (polynomials F) use {one as 𝟙, mul as ◌⊗◌}

    infixl 70 ◌⊗◌
    abbrev remainder_of : Polynomial F → List A
    remainder_of p = Remainders.remainder_of F r some p

    -- p·v for a polynomial v
    times_mod-polynomial : (p : List A) (v : Polynomial F) → times_mod F.ring r p (remainder_of v) ≡ remainder_of (v ⊗ of_list F p)
    times_mod-polynomial p v =
        sym (Remainders.times_mod-remainder F r some p (remainder_of v) (Remainders.length-remainder_of F r some v))
        ∙ ap (λ u. times_mod F.ring r u (remainder_of v)) (sym (Remainders.remainder_of-of_list F r some p)) ∙ sym (Remainders.remainder_of-mul F r some (of_list F p) v)
        ∙ ap remainder_of ((polynomials F).mul_comm (of_list F p) v)

    pub inverse_of_divides : (p : List A) (v : Polynomial F) → Divides F (modulus_of F r) (sub (polynomials F) (v ⊗ of_list F p) 𝟙) → IsInverse F.ring r p (remainder_of v)
    inverse_of_divides p v d = record {
      member = Remainders.length-remainder_of F r some v;
      is = times_mod-polynomial p v ∙ Remainders.same_of_divides F r some (v ⊗ of_list F p) 𝟙 d ∙ Remainders.remainder_of-one F r some;
    }

    pub invertible_of_coprime : (p : List A) → IsCoprime F (modulus_of F r) (of_list F p) → IsInvertible F.ring r p
    invertible_of_coprime p c =
        let k = Gcd.coprime_sym F (modulus_of F r) (of_list F p) c in
        record { inverse = remainder_of k.left; is_inverse = inverse_of_divides p k.left (Gcd.modular_inverse F (of_list F p) (modulus_of F r) k) }

    pub coprime_of_invertible : (p : List A) → IsInvertible F.ring r p → IsCoprime F (modulus_of F r) (of_list F p)
    coprime_of_invertible p h =
        coprime_of_inverse F (modulus_of F r) (of_list F p) (of_list F h.inverse) (Remainders.divides_of_same F r some (of_list F h.inverse ⊗ of_list F p) 𝟙 same)
      where
        whole : remainder_of (of_list F h.inverse) ≡ h.inverse
        whole = Remainders.remainder_of-of_list F r some h.inverse ∙ Remainders.remainder-member F r some h.inverse h.is_inverse.member

        same : remainder_of (of_list F h.inverse ⊗ of_list F p) ≡ remainder_of 𝟙
        same = sym (times_mod-polynomial p (of_list F h.inverse)) ∙ ap (times_mod F.ring r p) whole ∙ h.is_inverse.is ∙ sym (Remainders.remainder_of-one F r some)

    pub inverse_of_same : (p q v : List A) → remainder F.ring r p ≡ remainder F.ring r q → IsInverse F.ring r p v → IsInverse F.ring r q v
    inverse_of_same p q v e h = record {
      member = h.member;
      is =
          sym (Remainders.times_mod-remainder F r some q v h.member) ∙ ap (λ u. times_mod F.ring r u v) (sym e) ∙ Remainders.times_mod-remainder F r some p v h.member
          ∙ h.is;
    }

    pub invertible_of_same : (p q : List A) → remainder F.ring r p ≡ remainder F.ring r q → IsInvertible F.ring r p → IsInvertible F.ring r q
    invertible_of_same p q e h = record { inverse = h.inverse; is_inverse = inverse_of_same p q h.inverse e h.is_inverse }

  -- ---- the derivative of the modulus
  get-numbered : (n : ℕ) (c : List A) (i : ℕ) → get_or (numbered F.ring n c) i F.zero ≡ F.mul (of_nat F.ring (n + i)) (get_or c i F.zero)
  get-numbered n [] i = sym (Laws.mul-zero F.ring (of_nat F.ring (n + i)))
  get-numbered n (c ∷ cs) zero = ap (λ (k : ℕ). F.mul (of_nat F.ring k) c) (omega arith)
  get-numbered n (c ∷ cs) (suc i) = get-numbered (suc n) cs i ∙ ap (λ (k : ℕ). F.mul (of_nat F.ring k) (get_or cs i F.zero)) (omega arith)

  get-formal_derivative : (c : List A) (i : ℕ) → get_or (formal_derivative F.ring c) i F.zero ≡ F.mul (of_nat F.ring (suc i)) (get_or c (suc i) F.zero)
  get-formal_derivative [] i = sym (Laws.mul-zero F.ring (of_nat F.ring (suc i)))
  get-formal_derivative (c ∷ cs) i = get-numbered 1 cs i ∙ ap (λ (k : ℕ). F.mul (of_nat F.ring k) (get_or cs i F.zero)) (omega arith)

  -- the polynomial d with d_i = (i + 1)·R_(i + 1) is R'
  pub derivative_is : (r : List A) (d : Polynomial F) → ((i : ℕ) → coefficient F d i ≡ F.mul (of_nat F.ring (suc i)) (coefficient F (modulus_of F r) (suc i))) →
      d ≡ of_list F (derivative_by_z F.ring r)
  derivative_is r d h = polynomial_ext F d (of_list F (derivative_by_z F.ring r)) λ i.
      h i ∙ ap (F.mul (of_nat F.ring (suc i))) (coefficient-of_list F (with_leading_one F.ring r) (suc i)) ∙ sym (get-formal_derivative (with_leading_one F.ring r) i)
      ∙ sym (coefficient-of_list F (derivative_by_z F.ring r) i)

  -- ---- the common divisor
  -- where the monic common divisor is constant, the polynomials are coprime
  pub coprime_of_gcd : (g a b : Polynomial F) → IsMonic F g → IsGcd F g a b → size F g ≡ 1 → IsCoprime F a b
  coprime_of_gcd g a b monic is one =
      Gcd.coprime_of_size F a b (ap (size F) (sym (Gcd.gcd_unique F g a b is monic)) ∙ one)

  pub gcd_of_coprime : (g a b : Polynomial F) → IsMonic F g → IsGcd F g a b → IsCoprime F a b → size F g ≡ 1
  gcd_of_coprime g a b monic is coprime = ap (size F) (Gcd.gcd_unique F g a b is monic ∙ Gcd.gcd_of_coprime F a b coprime) ∙ Degree.size-one F
