-- The main theorem: the logarithmic part of the integral of a/d by residues, with the polynomial of the residues by power traces and Newton's rule.
--
-- K is a field of characteristic 0 with a derivation D, and t is a monomial over K with Dt in K, or Dt = η·t with η in K.
-- d in K[t] is monic with gcd(d, D(d)) = 1, and deg a < deg d. Let ρ·D(d) = a modulo d, p_j = trace(ρ^j) over K[t]/(d), and
-- C = Σ (-1)^i·e_i·z^(m - i) with m = deg d, e_0 = 1 and i·e_i = Σ over j from 1 to i of (-1)^(j - 1)·e_(i - j)·p_j. Let P_1, P_2, … be the square-free parts of C,
-- and s_k for P_k ≠ 1 be d, where k = deg d, else the member of degree k of a primitive remainder sequence of d and a - z·D(d), made monic modulo P_k.
-- If the coefficients of the P_k are constants and s_k is invertible modulo P_k, as each `Logarithm` of the list asks, then
--
--   Σ over k, Σ over P_k(α) = 0 of α·D(s_k(α))/s_k(α)  =  a/d             where Dt = η in K,
--   Σ over k, Σ over P_k(α) = 0 of α·D(s_k(α))/s_k(α)  =  a/d + η·p_1     where Dt = η·t.
use Rattle.std.specs.Prelude.{◌≡◌, ℕ, suc, pred, ◌≤◌, ◌<◌, List}
use Rattle.std.proofs.Common.{sym, ap, ◌∙◌, arith}
use Rattle.risch_ring.specs.CommRing.{Field, Derivation, sub, quotient, HasCharacteristicZero}
use Rattle.risch_ring.specs.Sums.{sum_over}
use Rattle.risch_univariate.specs.Polynomial.{Polynomial, constant, variable, coefficient}
use Rattle.risch_univariate.specs.Degree.{size, IsMonic}
use Rattle.risch_univariate.specs.Division.{Divides, IsCoprime}
use Rattle.risch_univariate.proofs.Degree as Degree
use Rattle.risch_univariate.proofs.Gcd as Gcd
use Rattle.risch_univariate.proofs.Derivation as Derivation
use Rattle.risch_univariate.proofs.SquareFreeParts as SquareFreeParts
use Rattle.risch_fraction_field.specs.Fraction.{of_polynomial}
use Rattle.risch_residue_theory.proofs.ResiduePolynomialByTraces.{residue_polynomial-splits, sum_of_residues}
use Rattle.risch_residue_theory.proofs.LazardRiobooTrager.{rothstein_trager-primitive, rothstein_trager-exponential}
use Rattle.risch_univariate.specs.PolynomialRing.{polynomials}
use Rattle.risch_fraction_field.specs.FractionField.{fractions}
use Rattle.risch_residue_theory.specs.RemainderSequence.{PrimitiveSequence}
use Rattle.risch_extension.specs.NewtonPolynomial.{power_trace, IsNewtonPolynomial}
use Rattle.risch_residue_theory.specs.Logarithm.{Logarithm, derivative, AreLogarithmsOf}
use Rattle.risch_residue_theory.specs.LogarithmArgument.{IsArgument}

-- C is monic, of degree deg d
pub newton_polynomial-is_monic : {A : Type 0} (F : Field A) (d : Polynomial F) (nonzero : ¬ (d ≡ (polynomials F).zero)) (ρ C : Polynomial F) → IsNewtonPolynomial F d nonzero ρ C → IsMonic F C
newton_polynomial-is_monic F d nonzero ρ C c =
    ap (coefficient F C)
    (let u = Degree.size-ge F C (pred (size F d)) (λ z. F.one-ne-zero (sym top ∙ z)) in let s = c.size-le in let q = Degree.size_of_nonzero F d nonzero in
    ap pred (size-same u s q))
    ∙ top
  where
    top : coefficient F C (pred (size F d)) ≡ F.one
    top = c.coefficients (pred (size F d)) 0 (let q = Degree.size_of_nonzero F d nonzero in omega (arith, q)) ∙ c.e-zero

    size-same : suc (pred (size F d)) ≤ size F C → size F C ≤ size F d → size F d ≡ suc (pred (size F d)) → size F C ≡ size F d
    size-same u s q = omega (arith, u, s, q)

-- Dt = η in K: Σ over the logarithms of their derivatives = a/d
pub logarithms_of_traces-primitive : {A : Type 0} (F : Field A) (D : Derivation F.ring) (η : A) (char : HasCharacteristicZero F.ring) (d a : Polynomial F) (is_monic : IsMonic F d)
    (coprime : IsCoprime F d (Derivation.derive_polynomial F D (constant F η) d)) → size F a < size F d
    → (ρ : Polynomial F) (ρ-equation : Divides F d (sub (polynomials F) ((polynomials F).mul ρ (Derivation.derive_polynomial F D (constant F η) d)) a))
    → (C : Polynomial F) → IsNewtonPolynomial F d (Gcd.monic-nonzero F d is_monic) ρ C
    → (n : ℕ) (positive : 1 ≤ n) (css : List (List (Polynomial F))) (sequence : PrimitiveSequence F n d a (Derivation.derive_polynomial F D (constant F η) d) css)
    → (ls : List (Logarithm F D (constant F η)))
    → AreLogarithmsOf F D (constant F η) (IsArgument F D (constant F η) d n css) 1 (SquareFreeParts.square_free_parts F char C) ls
    → sum_over (fractions F).ring (derivative F D (constant F η)) ls ≡ quotient (fractions F) (of_polynomial F a) (of_polynomial F d)
logarithms_of_traces-primitive F D η char d a is_monic coprime l ρ ρ-equation C c n positive css sequence ls x =
    rothstein_trager-primitive F D η char d a is_monic coprime l n positive css sequence C
    (newton_polynomial-is_monic F d (Gcd.monic-nonzero F d is_monic) ρ C c)
    (λ X τs splits. residue_polynomial-splits F D (constant F η) char d a (Gcd.monic-nonzero F d is_monic) coprime ρ ρ-equation X τs splits C c) ls x

-- Dt = η·t: Σ over the logarithms of their derivatives = a/d + η·trace(ρ)
pub logarithms_of_traces-exponential : {A : Type 0} (F : Field A) (D : Derivation F.ring) (η : A) (char : HasCharacteristicZero F.ring) (d a : Polynomial F) (is_monic : IsMonic F d)
    (coprime : IsCoprime F d (Derivation.derive_polynomial F D ((polynomials F).mul (constant F η) (variable F)) d)) → size F a < size F d
    → (ρ : Polynomial F) (ρ-equation : Divides F d (sub (polynomials F) ((polynomials F).mul ρ (Derivation.derive_polynomial F D ((polynomials F).mul (constant F η) (variable F)) d)) a))
    → (C : Polynomial F) → IsNewtonPolynomial F d (Gcd.monic-nonzero F d is_monic) ρ C
    → (n : ℕ) (positive : 1 ≤ n) (css : List (List (Polynomial F))) (sequence : PrimitiveSequence F n d a (Derivation.derive_polynomial F D ((polynomials F).mul (constant F η) (variable F)) d) css)
    → (ls : List (Logarithm F D ((polynomials F).mul (constant F η) (variable F))))
    → AreLogarithmsOf F D ((polynomials F).mul (constant F η) (variable F))
    (IsArgument F D ((polynomials F).mul (constant F η) (variable F)) d n css) 1 (SquareFreeParts.square_free_parts F char C) ls
    → sum_over (fractions F).ring (derivative F D ((polynomials F).mul (constant F η) (variable F))) ls
    ≡ (fractions F).add (quotient (fractions F) (of_polynomial F a) (of_polynomial F d))
    (of_polynomial F (constant F (F.mul η (power_trace F d (Gcd.monic-nonzero F d is_monic) ρ 1))))
logarithms_of_traces-exponential F D η char d a is_monic coprime l ρ ρ-equation C c n positive css sequence ls x =
    rothstein_trager-exponential F D η char d a is_monic coprime l n positive css sequence C
    (newton_polynomial-is_monic F d (Gcd.monic-nonzero F d is_monic) ρ C c)
    (λ X τs splits. residue_polynomial-splits F D w char d a (Gcd.monic-nonzero F d is_monic) coprime ρ ρ-equation X τs splits C c)
    (power_trace F d (Gcd.monic-nonzero F d is_monic) ρ 1)
    (λ X τs splits. sum_of_residues F D w char d a (Gcd.monic-nonzero F d is_monic) coprime ρ ρ-equation X τs splits) ls x
  where
    w : Polynomial F
    w = (polynomials F).mul (constant F η) (variable F)
