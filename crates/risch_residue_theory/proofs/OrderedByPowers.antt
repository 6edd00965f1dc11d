-- Polynomials in t over K[z], ordered by powers of z: their coefficients in K(t) and their degree in z, the case where each coefficient is in K, and the value at z = c.
use Rattle.std.specs.Prelude.{◌≡◌, ℕ, zero, suc, ◌≤◌, List, [], ◌∷◌, map}
use Rattle.std.proofs.Common.{sym, ap, ap₂, ◌∙◌, arith}
use Rattle.risch_ring.specs.CommRing.{CommRing, Field}
use Rattle.risch_ring.proofs.RingMaps.{identity_map}
use Rattle.risch_univariate.specs.Polynomial.{Polynomial, of_list, constant, variable, coefficient}
use Rattle.risch_univariate.specs.PolynomialRing.{polynomials, horner}
use Rattle.risch_univariate.specs.PolynomialLaws.{polynomial_ext, coefficient-of_list}
use Rattle.risch_univariate.specs.Degree.{size}
use Rattle.risch_univariate.proofs.Coefficients.{coefficient-zero, coefficient-add, coefficient-constant_mul, coefficient-constant-zero, coefficient-horner-zero, coefficient-horner-suc}
use Rattle.risch_univariate.proofs.Degree as Degree
use Rattle.risch_univariate.proofs.Evaluation as Evaluation
use Rattle.risch_fraction_field.specs.Fraction.{of_polynomial}
use Rattle.risch_fraction_field.specs.FractionField.{fractions}
use Rattle.risch_fraction_field.specs.DifferentialField.{constant_fraction, constant_fraction-apply}
use Rattle.risch_fraction_field.specs.Representation.{of_polynomial-mul, of_polynomial-add, of_polynomial-zero}
use Rattle.risch_extension.specs.LinearFactors.{value_at}
use Rattle.risch_extension.proofs.PolynomialMaps.{map_polynomial-constant, coefficient-map_polynomial}
use Rattle.risch_residue_theory.specs.BivariatePolynomial.{lift, coefficient_at, by_powers}
use Rattle.risch_residue_theory.specs.RuleLogarithm.{at_point}
use Rattle.risch_residue_theory.proofs.BivariatePolynomials.{map-get}
use Rattle.risch_residue_theory.proofs.Place.{Horner, horner_of}

-- ---- the coefficients

of_list-nil : {A : Type 0} (F : Field A) → of_list F [] ≡ (polynomials F).zero
of_list-nil F = polynomial_ext F (of_list F []) (polynomials F).zero (λ i. coefficient-of_list F [] i ∙ sym (coefficient-zero F i))

of_list-cons : {A : Type 0} (F : Field A) (x : A) (xs : List A) → of_list F (x ∷ xs) ≡ horner F x (of_list F xs)
of_list-cons F x xs = polynomial_ext F (of_list F (x ∷ xs)) (horner F x (of_list F xs)) same
  where
    same : (i : ℕ) → coefficient F (of_list F (x ∷ xs)) i ≡ coefficient F (horner F x (of_list F xs)) i
    same zero = coefficient-of_list F (x ∷ xs) 0 ∙ sym (coefficient-horner-zero F x (of_list F xs))
    same (suc i) = coefficient-of_list F (x ∷ xs) (suc i) ∙ sym (coefficient-horner-suc F x (of_list F xs) i ∙ coefficient-of_list F xs i)

-- the coefficient of z^k is Σ (c_j)_k·t^j
pub coefficient-by_powers : {A : Type 0} (F : Field A) (S : List (Polynomial F)) (k : ℕ)
    → coefficient (fractions F) (by_powers F S) k ≡ of_polynomial F (of_list F (map (λ p. coefficient F p k) S))
unfolding by_powers
coefficient-by_powers F [] k = coefficient-zero (fractions F) k ∙ sym (ap (of_polynomial F) (of_list-nil F) ∙ of_polynomial-zero F)
coefficient-by_powers F (c ∷ S) k =
    coefficient-add (fractions F) (lift F c) _ k
    ∙ ap₂ (fractions F).add
    (coefficient-map_polynomial F (fractions F) (constant_fraction F) c k ∙ constant_fraction-apply F (coefficient F c k))
    (coefficient-constant_mul (fractions F) (of_polynomial F (variable F)) (by_powers F S) k
    ∙ ap ((fractions F).mul (of_polynomial F (variable F))) (coefficient-by_powers F S k) ∙ sym (of_polynomial-mul F (variable F) _))
    ∙ sym (of_polynomial-add F (constant F (coefficient F c k)) _)
    ∙ ap (of_polynomial F) (sym (of_list-cons F (coefficient F c k) (map (λ p. coefficient F p k) S)))

-- the degree in z is at most that of the coefficients
pub size-by_powers-le : {A : Type 0} (F : Field A) (S : List (Polynomial F)) (m : ℕ) → ((j : ℕ) → size F (coefficient_at F S j) ≤ m) → size (fractions F) (by_powers F S) ≤ m
size-by_powers-le F S m h = Degree.size-le (fractions F) (by_powers F S) m (λ k l.
    coefficient-by_powers F S k
    ∙ ap (of_polynomial F)
    (polynomial_ext F _ (polynomials F).zero (λ j.
    coefficient-of_list F (map (λ p. coefficient F p k) S) j ∙ map-get (λ p. coefficient F p k) (polynomials F).zero F.zero (coefficient-zero F k) S j
    ∙ Degree.below_size F (coefficient_at F S j) k (let s = h j in omega (arith, s, l)) ∙ sym (coefficient-zero F j)))
    ∙ of_polynomial-zero F)

-- ---- coefficients in K

-- Σ d_j·t^j with constant d_j, ordered by powers of z, is d
pub by_powers-constants : {A : Type 0} (F : Field A) (S : List (Polynomial F)) (d : Polynomial F) → ((j : ℕ) → coefficient_at F S j ≡ constant F (coefficient F d j))
    → by_powers F S ≡ constant (fractions F) (of_polynomial F d)
unfolding by_powers
by_powers-constants F [] d h =
    sym (ap (constant (fractions F))
    (ap (of_polynomial F)
    (polynomial_ext F d (polynomials F).zero (λ j.
    sym (coefficient-constant-zero F (coefficient F d j)) ∙ ap (λ z. coefficient F z 0) (sym (h j)) ∙ coefficient-zero F 0 ∙ sym (coefficient-zero F j)))
    ∙ of_polynomial-zero F)
    ∙ Degree.constant-zero (fractions F))
by_powers-constants F (c ∷ S) d h =
    ap₂ T.add
    (ap (lift F) (h 0 ∙ ap (constant F) (ap (λ z. coefficient F z 0) x.equation ∙ coefficient-horner-zero F x.head x.tail))
    ∙ map_polynomial-constant F (fractions F) (constant_fraction F) x.head ∙ ap (constant (fractions F)) (constant_fraction-apply F x.head))
    (ap (T.mul (constant (fractions F) (of_polynomial F (variable F))))
    (by_powers-constants F S x.tail (λ j. h (suc j) ∙ ap (constant F) (ap (λ z. coefficient F z (suc j)) x.equation ∙ coefficient-horner-suc F x.head x.tail j)))
    ∙ sym (Degree.constant-mul (fractions F) (of_polynomial F (variable F)) (of_polynomial F x.tail)) ∙ ap (constant (fractions F)) (sym (of_polynomial-mul F (variable F) x.tail)))
    ∙ sym (Degree.constant-add (fractions F) _ _)
    ∙ ap (constant (fractions F)) (sym (of_polynomial-add F (constant F x.head) _) ∙ ap (of_polynomial F) (sym x.equation))
  where
    T : CommRing (Polynomial (fractions F))
    T = polynomials (fractions F)

    x : Horner F d
    x = horner_of F d

-- the value at z = c does not depend on c where each coefficient is in K
pub at_point-constants : {A : Type 0} (F : Field A) (c : A) (S : List (Polynomial F)) → ((j : ℕ) → size F (coefficient_at F S j) ≤ 1)
    → at_point F c S ≡ of_polynomial F (of_list F (map (λ p. coefficient F p 0) S))
unfolding at_point
at_point-constants F c S h = ap (of_polynomial F)
    (polynomial_ext F _ _ (λ j.
    coefficient-of_list F (map (value_at F c) S) j ∙ map-get (value_at F c) (polynomials F).zero F.zero (Evaluation.value-zero F F.ring (identity_map F.ring) c) S j
    ∙ ap (value_at F c) (Degree.constant_of_size F (coefficient_at F S j) (h j)) ∙ Evaluation.value-constant F F.ring (identity_map F.ring) c _
    ∙ sym (coefficient-of_list F (map (λ p. coefficient F p 0) S) j ∙ map-get (λ p. coefficient F p 0) (polynomials F).zero F.zero (coefficient-zero F 0) S j)))
